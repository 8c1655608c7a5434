-- A list without repeats whose elements lie in another is no longer than that.
use Rattle.nef_statement.proofs.text.existence.Prelude.{◌≡◌, ℕ, zero, suc, ◌+◌, ◌*◌, ◌≤◌, arith, refl, ap, sym, ◌∙◌, ◌⊎◌, inl, inr, ⊎_elim, Some, List, ◌∷◌, length, length-append, [], Lies, each, pairs, IsAt, lies-at}

-- no element stands at two places
abbrev pub Once : {A : Type 0} → List A → Type 0
Once {A} xs = (i k : ℕ) (x : A) → IsAt xs i x → IsAt xs k x → i ≡ k

-- the list without one place of the element
record Removed {A : Type 0} (ys : List A) (x : A) : Type 0 where
  list : List A
  shorter : length ys ≡ suc (length list)
  others : (y : A) → Lies ys y → (x ≡ y) ⊎ Lies list y

remove : {A : Type 0} (ys : List A) (x : A) → Lies ys x → Removed ys x
remove [] x l = absurd l
remove (y ∷ ys) x (inl e) = record { list = ys; shorter = length-more y ys; others = λ z l. ⊎_elim (λ f. inl (sym e ∙ f)) (λ m. inr m) l }
  where
    length-more : {A : Type 0} (y : A) (ys : List A) → length (y ∷ ys) ≡ suc (length ys)
    length-more y ys = omega arith
remove {A} (y ∷ ys) x (inr l) = by (remove ys x l)
  where
    by : Removed ys x → Removed (y ∷ ys) x
    by r = record {
      list = y ∷ r.list;
      shorter = let s = r.shorter in omega (arith, s);
      others = λ z m. ⊎_elim (λ e. inr (inl e)) (λ n. ⊎_elim (λ e. inl e) (λ o. inr (inr o)) (r.others z n)) m;
    }

pub few : {A : Type 0} (xs ys : List A) → Once xs → ((x : A) → Lies xs x → Lies ys x) → length xs ≤ length ys
few [] ys o all = omega arith
few {A} (x ∷ xs) ys o all = by (remove ys x (all x (inl refl))) (λ zs k. few xs zs tail-once k)
  where
    tail-once : Once xs
    tail-once i k y a b = let e = o (suc i) (suc k) y a b in omega (arith, e)

    by : Removed ys x → ((zs : List A) → ((y : A) → Lies xs y → Lies zs y) → length xs ≤ length zs) → length (x ∷ xs) ≤ length ys
    by r go =
        let l = go r.list (λ y m. ⊎_elim
        (λ e. let k = lies-at xs y m in let f = o zero (suc k.0) y (ap Some e) k.1 in absurd (omega (arith, f)))
        (λ n. n) (r.others y (all y (inr m)))) in
        let s = r.shorter in
        omega (arith, l, s)

-- ---- lengths
length-each : {A B : Type 0} (f : A → B) (xs : List A) → length (each f xs) ≡ length xs
length-each f [] = refl
length-each f (x ∷ xs) = let e = length-each f xs in omega (arith, e)

pub length-pairs : {A B C : Type 0} (f : A → B → C) (xs : List A) (ys : List B) → length (pairs f xs ys) ≡ length xs * length ys
length-pairs f [] ys = omega arith
length-pairs f (x ∷ xs) ys =
    let e = length-append (each (f x) ys) (pairs f xs ys) in
    let g = length-each (f x) ys in
    let h = length-pairs f xs ys in
    let k : length (x ∷ xs) * length ys ≡ length ys + length xs * length ys = times (length xs) (length ys) in
    omega (arith, e, g, h, k)
  where
    times : (m n : ℕ) → suc m * n ≡ n + m * n
    times m n = omega arith

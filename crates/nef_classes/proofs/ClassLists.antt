-- Places in lists, and the numbering of classes: one more element has its class's number.
use Rattle.nef_classes.proofs.Prelude.{◌≡◌, ◌≢◌, ℕ, suc, ◌+◌, ◌<◌, ◌≤◌, ◌⊎◌, ⊎_elim, List, [], ◌∷◌, ◌++◌, length, arith, length-append, take, drop, get_or, ap, sym, ◌∙◌, subst, ◌↔◌, append-nil, take_all, length-take, get_or-take, drop_of_length-le, IsAt, AreNumbered}
use Rattle.std.proofs.Math.Seq.{take-suc}
use Rattle.nef_space.proofs.Lists.{is-at_within, is-at_left, is-at_last, is-at_more, is-at_get, is-at_is}
use Rattle.nef_space.proofs.Elementary.{less-or-last}

-- ---- places

-- an element of a list with one more is an element of the list, or the last
pub data Either {X : Type 0} (xs : List X) (k : ℕ) (x y : X) : Type 0 where
  earlier : IsAt xs k x → Either xs k x y
  last : k ≡ length xs → x ≡ y → Either xs k x y

pub is-at_pushed : {X : Type 0} (xs : List X) (k : ℕ) (x y : X) → IsAt (xs ++ y ∷ []) k x → Either xs k x y
is-at_pushed xs k x y a = ⊎_elim (λ b. earlier b) (λ r. last r.0 (sym r.1)) (is-at_more xs y k x a)

-- ---- one more number
-- what the numbering of the first elements keeps
pub record IsNumberedTo (cs ns : List ℕ) (next : ℕ) : Type 0 where
  pub numbered : AreNumbered cs ns
  pub below : (s n : ℕ) → IsAt ns s n → n < next
  pub each : (m : ℕ) → m < next → (t : ℕ) × IsAt ns t m
  pub few : next ≤ length cs

module _ (cs ns : List ℕ) (next : ℕ) (N : IsNumberedTo cs ns next) (x : ℕ) where
  abbrev A : AreNumbered cs ns
  A = N.numbered

  as_many : length ns ≡ length cs
  as_many = let r = N.numbered in r.as_many

  -- the new element has the number m
  module _ (m : ℕ) (fits : (s c n : ℕ) → IsAt cs s c → IsAt ns s n → (n ≡ m) ↔ (c ≡ x)) (appears : (n : ℕ) → n < m → (t : ℕ) × IsAt ns t n) where
    same-more : (s t c d i j : ℕ) → IsAt (cs ++ x ∷ []) s c → IsAt (cs ++ x ∷ []) t d → IsAt (ns ++ m ∷ []) s i → IsAt (ns ++ m ∷ []) t j → (i ≡ j) ↔ (c ≡ d)
    same-more s t c d i j p q a b = by (is-at_pushed cs s c x p) (is-at_pushed cs t d x q) (is-at_pushed ns s i m a) (is-at_pushed ns t j m b)
      where
        early : (s c : ℕ) → IsAt cs s c → s ≡ length ns → ⊥
        early s c p e = let h = is-at_within cs s c p in let k = as_many in omega arith

        late : (s i : ℕ) → IsAt ns s i → s ≡ length cs → ⊥
        late s i p e = let h = is-at_within ns s i p in let k = as_many in omega arith

        by : Either cs s c x → Either cs t d x → Either ns s i m → Either ns t j m → (i ≡ j) ↔ (c ≡ d)
        by (earlier p) (earlier q) (earlier a) (earlier b) = let r = N.numbered in r.same s t c d i j p q a b
        by (earlier p) (last e f) (earlier a) (last g h) = let r = fits s c i p a in (λ z. r.0 (z ∙ h) ∙ sym f, λ z. r.1 (z ∙ f) ∙ sym h)
        by (last e f) (earlier q) (last g h) (earlier b) = let r = fits t d j q b in (λ z. f ∙ sym (r.0 (sym z ∙ h)), λ z. h ∙ sym (r.1 (sym z ∙ f)))
        by (last e f) (last e' f') (last g h) (last g' h') = (λ z. f ∙ sym f', λ z. h ∙ sym h')
        by (earlier p) q (last g h) b = absurd (early s c p g)
        by (last e f) q (earlier a) b = absurd (late s i a e)
        by p (earlier q) a (last g h) = absurd (early t d q g)
        by p (last e f) a (earlier b) = absurd (late t j b e)

    numbered-more : AreNumbered (cs ++ x ∷ []) (ns ++ m ∷ [])
    numbered-more = record {
      as_many = let a = length-append cs (x ∷ []) in let b = length-append ns (m ∷ []) in let c = as_many in omega arith;
      same = same-more;
      by_appearance = λ s n k a h. by s n k h (is-at_pushed ns s k m a);
    }
      where
        by : (s n k : ℕ) → n < k → Either ns s k m → (t : ℕ) × (t < s) × IsAt (ns ++ m ∷ []) t n
        by s n k h (earlier a) = let r = N.numbered in let q = r.by_appearance s n k a h in (q.0, q.1, is-at_left ns (m ∷ []) q.0 n q.2)
        by s n k h (last e f) = let q = appears n (omega arith) in let w = is-at_within ns q.0 n q.1 in (q.0, omega arith, is-at_left ns (m ∷ []) q.0 n q.1)

  -- an element of a class that appeared earlier
  pub numbered-earlier : (e m : ℕ) → IsAt cs e x → IsAt ns e m → IsNumberedTo (cs ++ x ∷ []) (ns ++ m ∷ []) next
  numbered-earlier e m p q = record {
    numbered = numbered-more m (λ s c n a b. let r = N.numbered in r.same s e c x n m a p b q) (λ n h. N.each n (let b = N.below e m q in omega arith));
    below = λ s n a. by s n (is-at_pushed ns s n m a);
    each = λ n h. let r = N.each n h in (r.0, is-at_left ns (m ∷ []) r.0 n r.1);
    few = let a = length-append cs (x ∷ []) in let b = N.few in omega arith;
  }
    where
      by : (s n : ℕ) → Either ns s n m → n < next
      by s n (earlier a) = N.below s n a
      by s n (last f g) = let b = N.below e m q in omega arith

  -- an element of a new class
  pub numbered-new : ((k c : ℕ) → IsAt cs k c → c ≢ x) → IsNumberedTo (cs ++ x ∷ []) (ns ++ next ∷ []) (next + 1)
  numbered-new new = record {
    numbered = numbered-more next (λ s c n a b. (λ e. absurd (let h = N.below s n b in omega arith), λ e. absurd (new s c a e))) (λ n h. N.each n h);
    below = λ s n a. by s n (is-at_pushed ns s n next a);
    each = λ n h. ⊎_elim (λ k. let r = N.each n k in (r.0, is-at_left ns (next ∷ []) r.0 n r.1)) (λ k. (length ns, subst (λ (i : ℕ). IsAt (ns ++ next ∷ []) (length ns) i) (sym k) (is-at_last ns next))) (less-or-last n next h);
    few = let a = length-append cs (x ∷ []) in let b = N.few in omega arith;
  }
    where
      by : (s n : ℕ) → Either ns s n next → n < next + 1
      by s n (earlier a) = let h = N.below s n a in omega arith
      by s n (last f g) = omega arith

-- ---- the loops
pub is-at_take : {X : Type 0} (n : ℕ) (xs : List X) (k : ℕ) (x : X) → IsAt (take n xs) k x → IsAt xs k x
is-at_take n xs k x a =
    let h = is-at_within (take n xs) k x a in
    let l = length-take n xs in
    let p : k < n = omega (arith, l) in
    let q : k < length xs = omega (arith, l) in
    subst (IsAt xs k) (sym (get_or-take n xs k x p) ∙ is-at_is (take n xs) k x x a) (is-at_get xs k x q)

pub take-more : {X : Type 0} (xs : List X) (k : ℕ) (d : X) → k < length xs → take (k + 1) xs ≡ take k xs ++ get_or xs k d ∷ []
take-more xs k d h = ap (λ (n : ℕ). take n xs) (let e : k + 1 ≡ suc k = omega arith in e) ∙ take-suc xs k d h

-- the vector with its elements written
pub refilled : (ds xs : List ℕ) (n : ℕ) → length xs ≡ n → length ds ≡ length xs → take n (ds ++ drop (length ds) xs) ≡ ds
refilled ds xs n e f =
    ap (λ (ys : List ℕ). take n (ds ++ ys)) (drop_of_length-le xs {i = length ds} (omega arith)) ∙ ap (take n) (append-nil ds) ∙ take_all n ds (omega arith)

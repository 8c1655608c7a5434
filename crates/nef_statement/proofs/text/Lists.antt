-- Texts that stand one after the other, each told by its first letter.
use Rattle.nef_statement.proofs.text.Prelude.{◌≡◌, ℕ, refl, ap, sym, ◌∙◌, List, [], ◌∷◌, ◌++◌, length, map, append_assoc, subst, flat_map, length-map}
use Rattle.nef_statement.proofs.text.Lines.{Starts, Lacks, starts-lacks, starts-never, same-both}

-- the text before a rest tells the value, and where the rest begins
abbrev pub IsReadBack : (A B : Type 0) → (List ℕ → Type 0) → (A → B) → (A → List ℕ) → Type 0
IsReadBack A B Rest value spelled = (a b : A) (x y : List ℕ) → Rest x → Rest y → spelled a ++ x ≡ spelled b ++ y → (value a ≡ value b) × (x ≡ y)

-- so for a list of texts that begin with c, before a rest that doesn't
abbrev pub ReadsAll : (A B : Type 0) → (List ℕ → Type 0) → (A → B) → (A → List ℕ) → ℕ → Type 0
ReadsAll A B Rest value spelled c = (xs ys : List A) (x y : List ℕ) → Rest x → Rest y → Lacks c x → Lacks c y → flat_map spelled xs ++ x ≡ flat_map spelled ys ++ y
    → (map value xs ≡ map value ys) × (x ≡ y)

-- any rest
abbrev pub AnyRest : List ℕ → Type 0
AnyRest x = Unit {0}

-- texts that begin with c lack any other letter
module _ (A : Type 0) (spelled : A → List ℕ) (c : ℕ) (starts : (a : A) → Starts c (spelled a)) where
  pub all-lack : (d : ℕ) → (c ≡ d → ⊥) → (xs : List A) (x : List ℕ) → Lacks d x → Lacks d (flat_map spelled xs ++ x)
  all-lack d n [] x h = h
  all-lack d n (a ∷ xs) x h =
      let e = append_assoc (spelled a) (flat_map spelled xs) x in
      subst (Lacks d) (sym e) (starts-lacks c d (spelled a) (flat_map spelled xs ++ x) (starts a) n)

-- a list of them ends where the rest doesn't begin with c
module _ (A B : Type 0) (Rest : List ℕ → Type 0) (value : A → B) (spelled : A → List ℕ) (c : ℕ) (starts : (a : A) → Starts c (spelled a))
    (reads : IsReadBack A B Rest value spelled) (more : (a : A) (x : List ℕ) → Rest (spelled a ++ x)) where
  all-rest : (xs : List A) (x : List ℕ) → Rest x → Rest (flat_map spelled xs ++ x)
  all-rest [] x h = h
  all-rest (a ∷ xs) x h = subst Rest (sym (append_assoc (spelled a) (flat_map spelled xs) x)) (more a (flat_map spelled xs ++ x))

  pub all-read : ReadsAll A B Rest value spelled c
  all-read [] [] x y P Q h k e = (refl, e)
  all-read [] (b ∷ ys) x y P Q h k e =
      let f = e ∙ append_assoc (spelled b) (flat_map spelled ys) y in absurd (starts-never c (spelled b) (flat_map spelled ys ++ y) x (starts b) h f)
  all-read (a ∷ xs) [] x y P Q h k e =
      let f = sym e ∙ append_assoc (spelled a) (flat_map spelled xs) x in absurd (starts-never c (spelled a) (flat_map spelled xs ++ x) y (starts a) k f)
  all-read (a ∷ xs) (b ∷ ys) x y P Q h k e =
      let f = sym (append_assoc (spelled a) (flat_map spelled xs) x) ∙ e ∙ append_assoc (spelled b) (flat_map spelled ys) y in
      let r = reads a b (flat_map spelled xs ++ x) (flat_map spelled ys ++ y) (all-rest xs x P) (all-rest ys y Q) f in
      let s = all-read xs ys x y P Q h k r.1 in
      (same-both (value a) (value b) (map value xs) (map value ys) r.0 s.0, s.1)

-- as many
pub same-length : {A B : Type 0} (value : A → B) (xs ys : List A) → map value xs ≡ map value ys → length xs ≡ length ys
same-length {A} {B} value xs ys e = sym (length-map xs value) ∙ ap (λ (r : List B). length r) e ∙ length-map ys value

-- pieces one after the other
pub three_parts : (a b c x : List ℕ) → (a ++ b ++ c) ++ x ≡ a ++ (b ++ (c ++ x))
three_parts a b c x = append_assoc (a ++ b) c x ∙ append_assoc a b (c ++ x)

pub four_parts : (a b c d x : List ℕ) → (a ++ b ++ c ++ d) ++ x ≡ a ++ (b ++ (c ++ (d ++ x)))
four_parts a b c d x = append_assoc (a ++ b ++ c) d x ∙ three_parts a b c (d ++ x)

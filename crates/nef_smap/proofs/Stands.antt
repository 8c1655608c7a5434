-- Directions close to a, toward b, and there toward c.
use Rattle.nef_smap.proofs.Prelude.{◌≡◌, ℕ, ◌≤◌, pos, ◌-ℤ◌, arith, refl, ap, sym, ◌∙◌, ⊎_elim, List, [], ◌∷◌, ring, at, num, neg, ◌⊕◌, ◌⊖◌, ◌⊗◌, Sign, minus, nought, plus, sign, nought-is, nought-or, Lies, Vector, dot, opposite, blend, Keeps, amount, far-keeps, far-level, first_sign, Stands}

pub dot-opposite : (g d : Vector) → dot g (opposite d) ≡ pos 0 -ℤ dot g d
dot-opposite g d = ring (g.x ∷ g.y ∷ g.z ∷ d.x ∷ d.y ∷ d.z ∷ []) (at 0 ⊗ neg (at 3) ⊕ at 1 ⊗ neg (at 4) ⊕ at 2 ⊗ neg (at 5)) (num (pos 0) ⊖ (at 0 ⊗ at 3 ⊕ at 1 ⊗ at 4 ⊕ at 2 ⊗ at 5)) tt

first-skip : (s t : Sign) → (s ≡ nought → ⊥) → first_sign s t ≡ s
first-skip minus t n = refl
first-skip nought t n = absurd (n refl)
first-skip plus t n = refl

pub first-none : (s t : Sign) → first_sign s t ≡ nought → (s ≡ nought) × (t ≡ nought)
first-none minus t e = absurd cc
first-none nought t e = (refl, e)
first-none plus t e = absurd cc

pub first-last : (s : Sign) → first_sign s nought ≡ s
first-last minus = refl
first-last nought = refl
first-last plus = refl

first-three : (s t r : Sign) → first_sign (first_sign s t) r ≡ first_sign s (first_sign t r)
first-three minus t r = refl
first-three nought t r = refl
first-three plus t r = refl

-- what k a + b has for signs
pub far-first : (gs : List Vector) (a b : Vector) (k : ℕ) → amount gs b ≤ k → (g : Vector) → Lies gs g → sign (dot g (blend k a 1 b)) ≡ first_sign (sign (dot g a)) (sign (dot g b))
far-first gs a b k h g l = ⊎_elim
    (λ z. far-level gs a b k h g z ∙ sym (ap (λ s. first_sign s (sign (dot g b))) (ap sign z)))
    (λ f. far-keeps gs a b k h g l f ∙ sym (first-skip (sign (dot g a)) (sign (dot g b)) (λ q. f (nought-is (dot g a) q))))
    (nought-or (dot g a))

pub far-stands : (gs : List Vector) (a b c : Vector) (j k : ℕ) → amount gs b ≤ j → amount gs c ≤ k → Stands gs a b c (blend k (blend j a 1 b) 1 c)
far-stands gs a b c j k hj hk g l =
    far-first gs (blend j a 1 b) c k hk g l ∙ ap (λ s. first_sign s (sign (dot g c))) (far-first gs a b j hj g l) ∙ first-three (sign (dot g a)) (sign (dot g b)) (sign (dot g c))

abbrev pub stand : List Vector → Vector → Vector → Vector → Vector
stand gs a b c = blend (amount gs c) (blend (amount gs b) a 1 b) 1 c

pub stands : (gs : List Vector) (a b c : Vector) → Stands gs a b c (stand gs a b c)
stands gs a b c = far-stands gs a b c (amount gs b) (amount gs c) (omega arith) (omega arith)

pub stands-keeps : (gs : List Vector) (a b c d : Vector) → Stands gs a b c d → Keeps gs a d
stands-keeps gs a b c d s g l f = s g l ∙ first-skip (sign (dot g a)) _ (λ q. f (nought-is (dot g a) q))

-- where a is nought, and where b is too
pub stands-second : (gs : List Vector) (a b c d g : Vector) → Stands gs a b c d → Lies gs g → dot g a ≡ pos 0 → sign (dot g d) ≡ first_sign (sign (dot g b)) (sign (dot g c))
stands-second gs a b c d g s l z = s g l ∙ ap (λ t. first_sign t (first_sign (sign (dot g b)) (sign (dot g c)))) (ap sign z)

pub stands-third : (gs : List Vector) (a b c d g : Vector) → Stands gs a b c d → Lies gs g → dot g a ≡ pos 0 → dot g b ≡ pos 0 → sign (dot g d) ≡ sign (dot g c)
stands-third gs a b c d g s l z y = stands-second gs a b c d g s l z ∙ ap (λ t. first_sign t (sign (dot g c))) (ap sign y)

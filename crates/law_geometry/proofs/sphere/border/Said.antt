-- Truth values that say whether something holds.
use Rattle.law_geometry.proofs.sphere.border.Prelude.{Bool, true, false, not, ◌&&◌, ◌||◌, ◌⊎◌, inl, inr, ⊎_elim}

abbrev pub Says : Bool → Type 0 → Type 0
Says true P = P
Says false P = P → ⊥

pub says-and : (a b : Bool) (P Q : Type 0) → Says a P → Says b Q → Says (a && b) (P × Q)
says-and true true P Q p q = (p, q)
says-and true false P Q p q = λ x. q x.1
says-and false b P Q p q = λ x. p x.0

pub says-or : (a b : Bool) (P Q : Type 0) → Says a P → Says b Q → Says (a || b) (P ⊎ Q)
says-or true b P Q p q = inl p
says-or false true P Q p q = inr q
says-or false false P Q p q = λ x. ⊎_elim p q x

pub says-not : (a : Bool) (P : Type 0) → Says a P → Says (not a) (P → ⊥)
says-not true P p = λ n. n p
says-not false P p = p

pub says-same : (a : Bool) (P Q : Type 0) → (P → Q) → (Q → P) → Says a P → Says a Q
says-same true P Q f g p = f p
says-same false P Q f g p = λ q. p (g q)

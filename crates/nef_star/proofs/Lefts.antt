-- The directions that rays leave the axis in turn as their left ones do.
use Rattle.nef_star.proofs.Prelude.{◌≡◌, ℕ, ◌+◌, pos, ◌<ℤ◌, ◌*ℤ◌, refl, sym, ap, subst, ◌∙◌, ring, at, num, ◌⊕◌, ◌⊖◌, ◌⊗◌, follows, given, none, Vector, dot, cross, triple, IsDirection, IsZero, SameDirection, IsOnCircle, Passes, says_same, says_passes, dot-comm, self-pos, dot_poly, triple_poly, numbers, nought-if}
use lib.Dec.{T}
use Rattle.law_geometry.proofs.sphere.cyclic.Signs.{sgn, sgn-scaled}
use Rattle.law_geometry.proofs.sphere.cyclic.StrictlyOn.{passes_test}
use Rattle.nef_star.proofs.Turns.{three}

-- a quarter of a turn back about a
abbrev pub way : Vector → Vector → Vector
way a l = cross l a

pub dot-ways : (a l m : Vector) → dot a l ≡ pos 0 → dot (way a l) (way a m) ≡ dot a a *ℤ dot l m
dot-ways a l m e =
    follows (numbers a l m a) ((at 4 ⊗ at 2 ⊖ at 5 ⊗ at 1) ⊗ (at 7 ⊗ at 2 ⊖ at 8 ⊗ at 1) ⊕ (at 5 ⊗ at 0 ⊖ at 3 ⊗ at 2) ⊗ (at 8 ⊗ at 0 ⊖ at 6 ⊗ at 2) ⊕ (at 3 ⊗ at 1 ⊖ at 4 ⊗ at 0) ⊗ (at 6 ⊗ at 1 ⊖ at 7 ⊗ at 0))
    (dot_poly 0 0 ⊗ dot_poly 3 6)
    (given (num (pos 0) ⊖ dot_poly 0 6) (dot_poly 0 3) (num (pos 0)) e none) tt

pub turn-ways : (a l m : Vector) → triple a (way a l) (way a m) ≡ dot a a *ℤ triple a l m
turn-ways a l m =
    let x = λ (i : ℕ). at (i + 1) ⊗ at 2 ⊖ at (i + 2) ⊗ at 1 in
    let y = λ (i : ℕ). at (i + 2) ⊗ at 0 ⊖ at (i + 0) ⊗ at 2 in
    let z = λ (i : ℕ). at (i + 0) ⊗ at 1 ⊖ at (i + 1) ⊗ at 0 in
    ring (numbers a l m a) (at 0 ⊗ (y 3 ⊗ z 6 ⊖ z 3 ⊗ y 6) ⊕ at 1 ⊗ (z 3 ⊗ x 6 ⊖ x 3 ⊗ z 6) ⊕ at 2 ⊗ (x 3 ⊗ y 6 ⊖ y 3 ⊗ x 6)) (dot_poly 0 0 ⊗ triple_poly 0 3 6) tt

way-level : (a l : Vector) → dot a (way a l) ≡ pos 0
way-level a l = ring (numbers a l a a) (at 0 ⊗ (at 4 ⊗ at 2 ⊖ at 5 ⊗ at 1) ⊕ at 1 ⊗ (at 5 ⊗ at 0 ⊖ at 3 ⊗ at 2) ⊕ at 2 ⊗ (at 3 ⊗ at 1 ⊖ at 4 ⊗ at 0)) (num (pos 0)) tt

module _ (a : Vector) (axis : IsDirection a) where
  square : pos 0 <ℤ dot a a
  square = self-pos a axis

  pub way-on : (l : Vector) → IsOnCircle a l → IsOnCircle a (way a l)
  way-on l h = record { direction = λ z. parallel_not (nought-if l a h.direction z (dot-comm l a ∙ h.level)); level = way-level a l }
    where
      parallel_not : IsZero a → ⊥
      parallel_not z = axis z

  same_dot : (l m : Vector) → IsOnCircle a l → sgn (dot (way a l) (way a m)) ≡ sgn (dot l m)
  same_dot l m h = ap sgn (dot-ways a l m h.level) ∙ sgn-scaled (dot a a) (dot l m) square

  same_turn : (l m : Vector) → sgn (triple a (way a l) (way a m)) ≡ sgn (triple a l m)
  same_turn l m = ap sgn (turn-ways a l m) ∙ sgn-scaled (dot a a) (triple a l m) square

  pub way-same : (l m : Vector) → IsOnCircle a l → IsOnCircle a m → SameDirection l m → SameDirection (way a l) (way a m)
  way-same l m h k s = (says_same a (way a l) (way a m) axis (way-on l h) (way-on m k)).fact (rw (same_turn l m, same_dot l m h) ((says_same a l m axis h k).test s))

  pub same-way : (l m : Vector) → IsOnCircle a l → IsOnCircle a m → SameDirection (way a l) (way a m) → SameDirection l m
  same-way l m h k s = (says_same a l m axis h k).fact (rw (← same_turn l m, ← same_dot l m h) ((says_same a (way a l) (way a m) axis (way-on l h) (way-on m k)).test s))

  same_test : (l m k : Vector) → IsOnCircle a l → IsOnCircle a m → IsOnCircle a k → passes_test a (way a l) (way a m) (way a k) ≡ passes_test a l m k
  same_test l m k p q r = rw (same_turn l k, same_dot l k p, same_turn l m, same_dot l m p, same_turn m k, same_dot m k q) refl

  pub way-passes : (l m k : Vector) → IsOnCircle a l → IsOnCircle a m → IsOnCircle a k → Passes a l m k → Passes a (way a l) (way a m) (way a k)
  way-passes l m k p q r h =
      (says_passes a (way a l) (way a m) (way a k) (three a (way a l) (way a m) (way a k) axis (way-on l p) (way-on m q) (way-on k r))).fact
      (subst T (sym (same_test l m k p q r)) ((says_passes a l m k (three a l m k axis p q r)).test h))

  pub passes-way : (l m k : Vector) → IsOnCircle a l → IsOnCircle a m → IsOnCircle a k → Passes a (way a l) (way a m) (way a k) → Passes a l m k
  passes-way l m k p q r h =
      (says_passes a l m k (three a l m k axis p q r)).fact
      (subst T (same_test l m k p q r) ((says_passes a (way a l) (way a m) (way a k) (three a (way a l) (way a m) (way a k) axis (way-on l p) (way-on m q) (way-on k r))).test h))

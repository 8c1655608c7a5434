-- Directions that are the same lie on the same arcs; and two great circles meet in two opposite directions alone.
use Rattle.law_geometry.proofs.sphere.cyclic.Prelude.{◌≡◌, ◌*ℤ◌, ◌-ℤ◌, ◌<ℤ◌, [], ◌∷◌, refl, sym, ap, ◌∙◌, subst, inl, inr, ◌⊎◌, ◌⊕◌, ◌⊖◌, ◌⊗◌, Vector, dot, cross, triple, opposite, IsDirection, IsParallel, SameDirection, IsOnCircle, ClassesAreArcs, ArcsAreOfDirections, WayBackPassesTheSame, TwoMeets, dot-comm, self-pos, direction-left, direction-right, dot-scaled, triple-dot, triple-middle, level-way, SameDirection-trans, opposite-same, direction-opposite, level-opposite, level-opposite-back, triple-opposite, crossed, same_or_opposite}
use lib.Dec.{T}
use Rattle.law_geometry.proofs.sphere.cyclic.Signs.{sgn, sgn-scaled, same_bool, same_bool_is, rule, ThreeTest, every_three, holds_at_signs}
use Rattle.law_geometry.proofs.sphere.cyclic.StrictlyOn.{Setting, related, passes_test, strict_from_rule, rule_from_strict, strictly_on_is}

-- ---- the same direction
-- every product with it has the same sign
pub dot_sgn : (f d e : Vector) → SameDirection d e → sgn (dot f e) ≡ sgn (dot f d)
dot_sgn f d e h =
    sym (sgn-scaled (dot d d) (dot f e) (self-pos d (direction-left d e h))) ∙ ap sgn (dot-scaled f d e h.parallel) ∙ sgn-scaled (dot d e) (dot f d) h.forward

last_sgn : (n s d e : Vector) → SameDirection d e → sgn (triple n s e) ≡ sgn (triple n s d)
last_sgn n s d e h = ap sgn (triple-dot n s e) ∙ dot_sgn (cross n s) d e h ∙ ap sgn (sym (triple-dot n s d))

middle_sgn : (n t d e : Vector) → SameDirection d e → sgn (triple n e t) ≡ sgn (triple n d t)
middle_sgn n t d e h = ap sgn (triple-middle n e t) ∙ dot_sgn (cross t n) d e h ∙ ap sgn (sym (triple-middle n d t))

along_sgn : (t d e : Vector) → SameDirection d e → sgn (dot e t) ≡ sgn (dot d t)
along_sgn t d e h = ap sgn (dot-comm e t) ∙ dot_sgn t d e h ∙ ap sgn (dot-comm t d)

arc : (n s t d : Vector) → IsDirection n → IsOnCircle n s → IsOnCircle n t → IsOnCircle n d → Setting n s t d
arc n s t d h p q r = record { normal = h; source = p; target = q; passed = r }

pub classes_are_arcs : ClassesAreArcs
classes_are_arcs n s t d h p q r = strictly_on_is n s t d (arc n s t d h p q r)

circle-same : (n d e : Vector) → SameDirection d e → IsOnCircle n d → IsOnCircle n e
circle-same n d e h p = record { direction = direction-right d e h; level = level-way n d e h p.level }

pub arcs_are_of_directions : ArcsAreOfDirections
arcs_are_of_directions n s t d e h p q same on =
    strict_from_rule n s t e (arc n s t e h p q (circle-same n d e same on.on_circle))
    (rw (last_sgn n s d e same, dot_sgn s d e same, middle_sgn n t d e same, along_sgn t d e same) (rule_from_strict n s t d (arc n s t d h p q on.on_circle) on))

-- ---- where two circles meet
pub two_meets : TwoMeets
two_meets a b d n p q = same_or_opposite (cross a b) d n p.direction (crossed a b d p.level q.level)

-- the same for x in the direction of the cross product
pub two_meets_at : (a b x d : Vector) → (IsParallel a b → ⊥) → SameDirection x (cross a b) → IsOnCircle a d → IsOnCircle b d → SameDirection x d ⊎ SameDirection (opposite x) d
two_meets_at a b x d n h p q = through (two_meets a b d n p q)
  where
    through : SameDirection (cross a b) d ⊎ SameDirection (opposite (cross a b)) d → SameDirection x d ⊎ SameDirection (opposite x) d
    through (inl k) = inl (SameDirection-trans x (cross a b) d h k)
    through (inr k) = inr (SameDirection-trans (opposite x) (opposite (cross a b)) d (opposite-same x (cross a b) h) k)

-- ---- the way back about the opposite normal
pub circle-opposite : (n d : Vector) → IsOnCircle n d → IsOnCircle (opposite n) d
circle-opposite n d h = record { direction = h.direction; level = level-opposite n d h.level }

pub circle-opposite-back : (n d : Vector) → IsOnCircle (opposite n) d → IsOnCircle n d
circle-opposite-back n d h = record { direction = h.direction; level = level-opposite-back n d h.level }

-- the rule read from the other end
abbrev reverse_test : ThreeTest
reverse_test ac_t ac_d ab_t ab_d bc_t bc_d = same_bool (rule ac_t ac_d ab_t ab_d bc_t bc_d) (rule ac_t ac_d bc_t bc_d ab_t ab_d)

all_reverse : T (every_three reverse_test)
all_reverse = tt

setting-back : (n s t d : Vector) → Setting n s t d → Setting (opposite n) t s d
setting-back n s t d g = record { normal = direction-opposite n g.normal; source = circle-opposite n t g.target; target = circle-opposite n s g.source; passed = circle-opposite n d g.passed }

test-back : (n s t d : Vector) → passes_test (opposite n) t d s ≡ rule (sgn (triple n s t)) (sgn (dot s t)) (sgn (triple n d t)) (sgn (dot d t)) (sgn (triple n s d)) (sgn (dot s d))
test-back n s t d = rw (triple-opposite n t s, dot-comm t s, triple-opposite n t d, dot-comm t d, triple-opposite n d s, dot-comm d s) refl

tests-agree : (n s t d : Vector) → Setting n s t d → passes_test n s d t ≡ passes_test (opposite n) t d s
tests-agree n s t d g = same_bool_is _ _ (holds_at_signs reverse_test all_reverse _ _ _ _ _ _ _ _ (related n s t d g)) ∙ sym (test-back n s t d)

pub way_back_passes_the_same : WayBackPassesTheSame
way_back_passes_the_same n s t d h p q = (
  λ on. let g = arc n s t d h p q (circle-opposite-back n d on.on_circle) in strict_from_rule n s t d g (subst T (sym (tests-agree n s t d g)) (rule_from_strict (opposite n) t s d (setting-back n s t d g) on)),
  λ on. let g = arc n s t d h p q on.on_circle in strict_from_rule (opposite n) t s d (setting-back n s t d g) (subst T (tests-agree n s t d g) (rule_from_strict n s t d g on)),
)

-- Planes that are tested for equality, and two that hold one point.
use Rattle.nef_cand.proofs.Prelude.{◌≡◌, ℤ, pos, ◌-ℤ◌, ◌*ℤ◌, Bool, true, false, [], ◌∷◌, refl, ap, sym, subst, ◌∙◌, IsTrue, int_eq, ◌&&◌, Decides-int_eq, ring, at, num, ◌⊖◌, ◌⊗◌, SpacePoint, Form, normal_of, IsDirection, cross, IsSamePlane, form_of, Plane, same_planes_equal, HoldsBoth}
use lib.Dec.{T}
use Rattle.nef_complex.proofs.SamePlanes.{parallel-equal}
use Rattle.nef_geo.proofs.Unique.{itself}

-- ---- the program's test of equality
abbrev pub plane_test : Plane → Plane → Bool
plane_test g h = int_eq g.a h.a && (int_eq g.b h.b && (int_eq g.c h.c && int_eq g.d h.d))

all_four : (p q r s : Bool) → true ≡ (p && (q && (r && s))) → IsTrue p × IsTrue q × IsTrue r × IsTrue s
all_four true true true true h = (refl, refl, refl, refl)
all_four true true true false h = absurd (subst T h tt)
all_four true true false s h = absurd (subst T h tt)
all_four true false r s h = absurd (subst T h tt)
all_four false q r s h = absurd (subst T h tt)

-- ---- two planes through both points
-- both hold them, and their normals aren't parallel
pub record IsLineThrough (g h : Plane) (p q : SpacePoint) : Type 0 where
  pub first : HoldsBoth (form_of g) p q
  pub second : HoldsBoth (form_of h) p q
  pub independent : IsDirection (cross (normal_of (form_of g)) (normal_of (form_of h)))

pub line-of : (g h : Plane) (p q : SpacePoint) → HoldsBoth (form_of g) p q → HoldsBoth (form_of h) p q → (h ≡ g → ⊥) → IsLineThrough g h p q
line-of g h p q i k n = record {
  first = i;
  second = k;
  independent = λ z. n (sym (parallel-equal g h p z i.0 k.0));
}

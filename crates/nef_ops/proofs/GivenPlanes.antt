-- A plane as it was given is the plane of its normal form.
use Rattle.nef_ops.proofs.Prelude.{◌≡◌, ℤ, neg_ℤ, ◌*ℤ◌, Bool, true, false, [], ◌∷◌, sym, subst, cond, ring, at, neg, ◌⊗◌, Form, normal_of, IsDirection, form_of, opposite_form, given_form, Plane, normal-direction, SamePlane}
use Rattle.nef_geo.specs.declared.plane.Oriented.{Oriented}
use Rattle.nef_space.proofs.Vectors.{neg-zero}
use Rattle.nef_space.proofs.Elementary.{times-comm}

crossed-turned : (a b : ℤ) → a *ℤ neg_ℤ b ≡ b *ℤ neg_ℤ a
crossed-turned a b = ring (a ∷ b ∷ []) (at 0 ⊗ neg (at 1)) (at 1 ⊗ neg (at 0)) tt

way-plane : (f : Form) (flipped : Bool) → IsDirection (normal_of f) → SamePlane f (cond flipped (opposite_form f) f)
way-plane f false d = record {
  is_plane = d;
  is_other_plane = d;
  ab = times-comm f.a f.b;
  ac = times-comm f.a f.c;
  ad = times-comm f.a f.d;
  bc = times-comm f.b f.c;
  bd = times-comm f.b f.d;
  cd = times-comm f.c f.d;
}
way-plane f true d = record {
  is_plane = d;
  is_other_plane = λ z. d (neg-zero f.a z.0, neg-zero f.b z.1, neg-zero f.c z.2);
  ab = crossed-turned f.a f.b;
  ac = crossed-turned f.a f.c;
  ad = crossed-turned f.a f.d;
  bc = crossed-turned f.b f.c;
  bd = crossed-turned f.b f.d;
  cd = crossed-turned f.c f.d;
}

pub given-plane : (o : Oriented) (h : Plane) → h ≡ o.plane → SamePlane (form_of h) (given_form o)
given-plane o h e = subst (λ (g : Plane). SamePlane (form_of g) (given_form o)) (sym e) (way-plane (form_of o.plane) o.flipped (normal-direction (normal_of (form_of o.plane)) o.plane.normal))

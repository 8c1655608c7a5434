use Rattle.nef_plane.proofs.Prelude.{◌≡◌, ◌⊎◌, ◌↔◌, rules, sym, subst, inl, inr, ⊎_elim, normal_of, Vector, opposite, plane_axis, SameDirection, form_of, vector_of, Dir, Plane, IsAlongAxis, SameDirection-turned, SameDirection-trans, opposite-same}
use Rattle.nef_plane.proofs.along.is_along_axis.Goals as goal

-- a direction is along the axis exactly where it is that of the axis or of its opposite
along : (h : Plane) (d a b : Dir) → SameDirection (plane_axis (normal_of (form_of h))) (vector_of a) → vector_of b ≡ opposite (vector_of a)
    → (SameDirection (vector_of d) (vector_of a) ⊎ SameDirection (vector_of d) (vector_of b)) ↔ IsAlongAxis (form_of h) (vector_of d)
along h d a b s e = (
  ⊎_elim (λ w. inl (SameDirection-trans (vector_of d) (vector_of a) n w (SameDirection-turned n (vector_of a) s))) (λ w. inr (SameDirection-trans (vector_of d) (opposite (vector_of a)) (opposite n) (subst (SameDirection (vector_of d)) e w) (SameDirection-turned (opposite n) (opposite (vector_of a)) (opposite-same n (vector_of a) s)))),
  ⊎_elim (λ w. inl (SameDirection-trans (vector_of d) n (vector_of a) w s)) (λ w. inr (subst (SameDirection (vector_of d)) (sym e) (SameDirection-trans (vector_of d) (opposite n) (opposite (vector_of a)) w (opposite-same n (vector_of a) s)))),
)
  where
    n : Vector
    n = plane_axis (normal_of (form_of h))

pub returns-then-is_same : goal.returns-then-is_same
returns-then-is_same c = record {
  along = (λ t. inl (SameDirection-trans (vector_of c.args.d.now) (vector_of c.plane_axis-axis.result) (plane_axis (normal_of (form_of c.args.h.now))) (c.is_same.ensures.direction.0 t) (SameDirection-turned (plane_axis (normal_of (form_of c.args.h.now))) (vector_of c.plane_axis-axis.result) c.plane_axis-axis.ensures.axis)), λ a. search (rules, c.if-is_same.true));
}

pub returns-else-is_same : goal.returns-else-is_same
returns-else-is_same c =
    let A = along c.args.h.now c.args.d.now c.plane_axis-axis.result c.back.result c.plane_axis-axis.ensures.axis c.back.ensures.back in
    record {
      along = (
        λ t. A.0 (inr (c.is_same-else-is_same.ensures.direction.0 t)),
        λ a. ⊎_elim (λ w. absurd (search (rules, c.is_same.ensures.direction.1 w, c.if-is_same.false))) (λ w. c.is_same-else-is_same.ensures.direction.1 w) (A.1 a),
      );
    }

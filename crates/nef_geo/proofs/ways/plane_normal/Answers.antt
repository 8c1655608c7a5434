use Rattle.nef_geo.proofs.Prelude.{◌≡◌, arith, sym, subst, to_z, of_z, w64, lit≤, normal_limit, direction_limit, normal_of, Vector, vector, IsAtMost, IsDirection, SameDirection, IsStretched, form_of, vector_of, Plane}
use Rattle.nef_geo.proofs.Normals.{IsNormal-parts}
use Rattle.nef_geo.proofs.Products.{kept, normal_within, IsAtMost-weaken}
use Rattle.nef_geo.proofs.ways.plane_normal.Goals as goal
use Rattle.nef_space.proofs.Vectors.{normal-direction, same-vector}

-- the numbers of a normal that pass through the machine's type
passed : (h : Plane) → vector (to_z w64 (of_z w64 h.a)) (to_z w64 (of_z w64 h.b)) (to_z w64 (of_z w64 h.c)) ≡ normal_of (form_of h)
passed h = let s = normal_within h in same-vector _ _ _ _ _ _ (kept h.a (omega (arith, s.of_x))) (kept h.b (omega (arith, s.of_y))) (kept h.c (omega (arith, s.of_z)))

pub reduced-requires : goal.reduced-requires
reduced-requires c =
    let h = c.args.h.now in
    record {
      small = subst (IsAtMost direction_limit) (sym (passed h)) (IsAtMost-weaken normal_limit direction_limit (normal_of (form_of h)) (lit≤ tt) (normal_within h));
      some = subst IsDirection (sym (passed h)) (normal-direction (normal_of (form_of h)) h.normal);
    }

pub returns : goal.returns
returns c =
    let h = c.args.h.now in let r = c.reduced.result in
    let s : IsStretched (normal_of (form_of h)) (vector_of r) = subst (λ (v : Vector). IsStretched v (vector_of r)) (passed h) c.reduced.ensures.stretched in
    record {
      normal = subst (λ (v : Vector). SameDirection v (vector_of r)) (passed h) c.reduced.ensures.same;
      upward = IsNormal-parts s.factor h.a h.b h.c r.x r.y r.z s.positive s.x_is s.y_is s.z_is h.normal;
      small = c.reduced.ensures.size normal_limit (subst (IsAtMost normal_limit) (sym (passed h)) (normal_within h));
    }

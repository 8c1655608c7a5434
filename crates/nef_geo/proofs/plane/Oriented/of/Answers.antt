use Rattle.nef_geo.proofs.Prelude.{◌≡◌, ◌≤◌, ℤ, nat_abs, true, false, refl, arith, w64, to_z-of_z, normal_limit, offset_limit, form, vector, IsNormal, form_of}
use Rattle.nef_geo.proofs.Normals.{IsNormal-opposite, IsNormal-not_both, IsPositiveMultiple-turned, negated}
use Rattle.nef_geo.proofs.plane.Oriented.of.Goals as goal

wider : (n : ℤ) → nat_abs n ≤ normal_limit → nat_abs n ≤ offset_limit
wider n h = omega (arith, h)

pub reduced-requires-else-is_normal-clause-normal : goal.reduced-requires-else-is_normal-clause-normal
reduced-requires-else-is_normal-clause-normal c =
    let i = c.requires.in_range in
    let not : ¬ IsNormal (vector c.args.a c.args.b c.args.c) = λ h.
    let e : false ≡ true = c.if-is_normal.ensures.normal.1 (rw (to_z-of_z w64 c.args.a c.ranges.a, to_z-of_z w64 c.args.b c.ranges.b, to_z-of_z w64 c.args.c c.ranges.c) h) in cc in
    rw (negated c.args.a (wider c.args.a i.a_small), negated c.args.b (wider c.args.b i.b_small), negated c.args.c (wider c.args.c i.c_small))
    (IsNormal-opposite c.args.a c.args.b c.args.c c.requires.some not)

pub returns-then-is_normal-clause-flipped : goal.returns-then-is_normal-clause-flipped
returns-then-is_normal-clause-flipped c =
    let normal : IsNormal (vector c.args.a c.args.b c.args.c) = rw (to_z-of_z w64 c.args.a c.ranges.a, to_z-of_z w64 c.args.b c.ranges.b, to_z-of_z w64 c.args.c c.ranges.c) at (c.if-is_normal.ensures.normal.0 refl) in
    (λ e. absurd (let k : false ≡ true = e in cc), λ h. absurd (IsNormal-not_both c.args.a c.args.b c.args.c normal h))

pub returns-else-is_normal-clause-multiple : goal.returns-else-is_normal-clause-multiple
returns-else-is_normal-clause-multiple c =
    let i = c.requires.in_range in
    IsPositiveMultiple-turned (form c.args.a c.args.b c.args.c c.args.d) (form_of c.reduced-else-is_normal.result)
    (rw (negated c.args.a (wider c.args.a i.a_small), negated c.args.b (wider c.args.b i.b_small), negated c.args.c (wider c.args.c i.c_small), negated c.args.d i.d_small) at c.reduced-else-is_normal.ensures.multiple)

pub returns-else-is_normal-clause-flipped : goal.returns-else-is_normal-clause-flipped
returns-else-is_normal-clause-flipped c =
    let not : ¬ IsNormal (vector c.args.a c.args.b c.args.c) = λ h.
    let e : false ≡ true = c.if-is_normal.ensures.normal.1 (rw (to_z-of_z w64 c.args.a c.ranges.a, to_z-of_z w64 c.args.b c.ranges.b, to_z-of_z w64 c.args.c c.ranges.c) h) in cc in
    (λ e. IsNormal-opposite c.args.a c.args.b c.args.c c.requires.some not, λ h. refl)

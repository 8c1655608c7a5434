use Rattle.nef_geo.proofs.Prelude.{rules, ◌≡◌, true, w64, of_z, ap, ⊎_elim, to_z-of_z, form, IsInRange, given_form}
use Rattle.nef_geo.proofs.Signs.{sign_of-multiple}
use Rattle.nef_geo.proofs.plane.Plane.read.Goals as goal

pub returns-clause-out_of_range : goal.returns-clause-out_of_range
returns-clause-out_of_range c =
    let yes : c.is_in_range.result ≡ true = search rules in
    let i : IsInRange (form c.args.a c.args.b c.args.c c.args.d) = rw (to_z-of_z w64 c.args.a c.ranges.a, to_z-of_z w64 c.args.b c.ranges.b, to_z-of_z w64 c.args.c c.ranges.c, to_z-of_z w64 c.args.d c.ranges.d) at (c.is_in_range.ensures.in_range.0 yes) in
    (λ e. absurd (cc), λ not. absurd (not i))

pub of-requires-clause-in_range : goal.of-requires-clause-in_range
of-requires-clause-in_range c = c.is_in_range.ensures.in_range.0 c.if-not-is_in_range.false

pub returns-clause-zero_normal : goal.returns-clause-zero_normal
returns-clause-zero_normal c = (
  λ e. absurd (cc),
  λ z. absurd (⊎_elim
      (λ x. x.2 (ap (of_z w64) z.1.2))
      (λ y. ⊎_elim (λ x. x.1 (ap (of_z w64) z.1.1)) (λ x. x (ap (of_z w64) z.1.0)) y) c.else-a-eq0.either),
)

pub returns-clause-multiple : goal.returns-clause-multiple
returns-clause-multiple c = rw (to_z-of_z w64 c.args.a c.ranges.a, to_z-of_z w64 c.args.b c.ranges.b, to_z-of_z w64 c.args.c c.ranges.c, to_z-of_z w64 c.args.d c.ranges.d) at c.of.ensures.multiple

pub returns-clause-flipped : goal.returns-clause-flipped
returns-clause-flipped c = rw (to_z-of_z w64 c.args.a c.ranges.a, to_z-of_z w64 c.args.b c.ranges.b, to_z-of_z w64 c.args.c c.ranges.c) at c.of.ensures.flipped

pub returns-clause-sides : goal.returns-clause-sides
returns-clause-sides c =
    sign_of-multiple (form c.args.a c.args.b c.args.c c.args.d) (given_form c.of.result)
    (rw (to_z-of_z w64 c.args.a c.ranges.a, to_z-of_z w64 c.args.b c.ranges.b, to_z-of_z w64 c.args.c c.ranges.c, to_z-of_z w64 c.args.d c.ranges.d) at c.of.ensures.multiple)

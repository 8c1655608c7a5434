use Rattle.tests_places.proofs.Prelude.{◌≡◌, rules, sym, ◌∙◌, inl, inr, form_at, form_of, hit_point, Zero, zero_sign}
use Rattle.tests_places.proofs.rays.met_along_axis.Goals as goal

pub first_in_plane-requires-clause-on : goal.first_in_plane-requires-clause-on
first_in_plane-requires-clause-on c =
    let z : c.hit_side.result ≡ Zero = search (rules, c.if-eq.true) in
    zero_sign (form_at (form_of c.args.h.now) (hit_point c.args.p.now)) (sym c.hit_side.ensures.side ∙ z)

pub first_in_plane-requires-clause-off : goal.first_in_plane-requires-clause-off
first_in_plane-requires-clause-off c = inr (λ k x l. c.is_off_edges.ensures.off c.if-is_off_edges.true k x)

pub first_in_plane-requires-clause-direction : goal.first_in_plane-requires-clause-direction
first_in_plane-requires-clause-direction c = inl c.axis-d.ensures.axis

use Rattle.nef_geo.proofs.Prelude.{rules, ap, sym, ◌∙◌, form_at, form_of, given_form, point_of, sign_of, point_form_limit}
use Rattle.nef_geo.proofs.Directions.{small-neg}
use Rattle.nef_geo.proofs.Signs.{form_at-flipped}
use Rattle.nef_geo.proofs.Sizes.{point_form_size}
use Rattle.nef_geo.proofs.plane.Oriented.side.Goals as goal

pub returns-then-self-clause-side : goal.returns-then-self-clause-side
returns-then-self-clause-side c =
    let p = point_of c.args.p.now in
    c.opposite.ensures.opposite (form_at (form_of c.args.self.now.plane) p) (search rules)
    ∙ ap sign_of (sym (form_at-flipped c.args.self.now p c.if-self.true))

pub returns-then-self-clause-width : goal.returns-then-self-clause-width
returns-then-self-clause-width c =
    let o = c.args.self.now in
    let p = point_of c.args.p.now in
    small-neg point_form_limit (form_at (form_of o.plane) p) (form_at (given_form o) p) (form_at-flipped o p c.if-self.true) (point_form_size o.plane c.args.p.now)

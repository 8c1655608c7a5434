use Rattle.nef_locate.proofs.Prelude.{◌≡◌, refl, rules, sym, ◌∙◌, form_at, form_of, hit_point, Zero, zero_sign}
use Rattle.nef_locate.proofs.RayMeets.{at-carrier}
use Rattle.nef_locate.proofs.point.ProbeSearch.ask.Goals as goal

pub place_beside_vertices-requires-clause-on : goal.place_beside_vertices-requires-clause-on
place_beside_vertices-requires-clause-on c =
    let e : c.hit_side.result ≡ Zero = search rules in
    zero_sign (form_at (form_of c.at-h.result.now) (hit_point c.args.self.now.at)) (sym c.hit_side.ensures.side ∙ e)

pub place_beside_vertices-requires-clause-parts : goal.place_beside_vertices-requires-clause-parts
place_beside_vertices-requires-clause-parts c = c.requires.right.0 (form_of c.at-h.result.now)

pub returns-in_default-clause-passed : goal.returns-in_default-clause-passed
returns-in_default-clause-passed c = λ e.
    at-carrier c.args.c.now (hit_point c.args.self.now.at) c.args.number c.at-h.result.now c.at-h.ensures.element (λ s S on i. c.in_default.ensures.none refl s S i)

use Rattle.nef_plane.proofs.Prelude.{◌≡◌, rules, sym, ◌∙◌, form_at, form_of, point_of, Zero, zero_sign}
use Rattle.nef_plane.proofs.along.is_held.Goals as goal

pub returns-then-eq : goal.returns-then-eq
returns-then-eq c =
    let z : c.side.result ≡ Zero = search rules in
    record { holds = (λ t. (zero_sign (form_at (form_of c.args.ray.now.plane.now) (point_of c.args.ray.now.start.now)) (sym c.side.ensures.side ∙ z), c.is_along.ensures.along.0 t), λ h. c.is_along.ensures.along.1 h.1) }

use Rattle.nef_plane.proofs.Prelude.{rules, form_at, point_of, ray_form}
use Rattle.nef_plane.proofs.course.are_parted.Goals as goal

pub returns : goal.returns
returns c =
    let l = c.side_through.ensures.side in
    let r = c.opposite.ensures.opposite (form_at (ray_form c.args.n.now c.args.p.now) (point_of c.args.b.now)) c.side_through-2.ensures.side in
    record { opposite = (λ t. search (rules, t, l, r, c.eq.ensures), λ t. search (rules, t, l, r, c.eq.ensures)) }

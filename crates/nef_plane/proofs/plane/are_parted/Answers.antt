use Rattle.nef_plane.proofs.Prelude.{IsTrue, ◌↔◌, arith, rules, form_of, point_of, hit_point, sweep_form, AreOpposite}
use Rattle.std.proofs.lemmas.Grind.{common_steps}
use Rattle.nef_plane.proofs.plane.are_parted.Goals as goal

opposite : (c : goal.After-eq) → IsTrue c.eq.result ↔ AreOpposite (sweep_form (form_of c.args.ray.now.plane.now) (hit_point c.args.ray.now.start.now)) (point_of c.args.a.now) (point_of c.args.b.now)
opposite c = first_of (search rules, grind (arith, common_steps))

pub returns : goal.returns
returns c = record { opposite = opposite c }

use Rattle.nef_geo.proofs.Orders.{dir-ordered}
use Rattle.nef_geo.proofs.order.dir_cmp.Goals as goal

pub returns : goal.returns
returns c = record { order = dir-ordered c.args.a.now c.args.b.now c.cmp.result c.cmp.ensures }

use Rattle.nef_smap.proofs.Prelude.{arith}
use Rattle.nef_smap.proofs.MapLists.{length-items}
use Rattle.nef_smap.proofs.map.SphereMap.item_count.Goals as goal

pub returns-clause-count : goal.returns-clause-count
returns-clause-count c = let e = length-items c.args.self.now.arcs c.args.self.now.sloop in grind (arith, e)

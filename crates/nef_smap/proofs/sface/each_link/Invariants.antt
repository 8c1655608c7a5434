use Rattle.nef_smap.proofs.Prelude.{ComesOf, AreEach}
use Rattle.nef_smap.proofs.sface.each_link.Given as goal

abbrev pub invariant-loop-number : goal.invariant-loop-number
invariant-loop-number g l = AreEach (ComesOf (goal.F-post g l.join) l.map) l.number l.links.items

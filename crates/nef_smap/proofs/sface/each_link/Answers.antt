use Rattle.nef_smap.proofs.Prelude.{◌+◌, refl, sym, subst, ComesOf, AreEach}
use Rattle.nef_smap.proofs.LinkLists.{each-more}
use Rattle.nef_smap.proofs.sface.each_link.Goals as goal

pub loop-number-preserved : goal.loop-number-preserved
loop-number-preserved g c =
    let n = c.loop-number.number in
    subst (AreEach (ComesOf (goal.F-post g c.args.join) c.args.map.now) (n + 1)) (sym c.in_ok-push.ensures.items)
    (each-more (ComesOf (goal.F-post g c.args.join) c.args.map.now) n c.loop-number.links.items c.join.result (_, refl, c.join.ensures) c.loop-number.invariant)

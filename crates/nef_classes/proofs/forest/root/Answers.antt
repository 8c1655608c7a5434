use Rattle.nef_classes.proofs.Prelude.{arith, subst, IsAt}
use Rattle.nef_space.proofs.Lists.{is-at_get}
use Rattle.nef_classes.proofs.Trees.{same-trans, lifted-same, lifted-chain, lifted-less}
use Rattle.nef_classes.proofs.forest.root.Goals as goal

pub loop-parents-preserved : goal.loop-parents-preserved
loop-parents-preserved c =
    let ps = c.loop-parents.parents in let qs = c.lift-reached.new.parents in
    let I = c.loop-parents.invariant in
    let o = I.same.ordered in
    let L = c.lift-reached.ensures.lifted in
    let lift = lifted-same ps qs c.loop-parents.reached c.lift-reached.result o L in
    let less = lifted-less ps qs c.loop-parents.reached c.lift-reached.result o L c.loop-parents-test.true in record {
      same = same-trans c.args.parents.now ps qs I.same lift;
      chain = lifted-chain ps qs c.loop-parents.reached c.lift-reached.result o L c.args.number I.chain;
      within = let w = I.within in let e = lift.as_many in omega arith;
    }

pub loop-parents-smaller : goal.loop-parents-smaller
loop-parents-smaller c =
    let ps = c.loop-parents.parents in let qs = c.lift-reached.new.parents in
    lifted-less ps qs c.loop-parents.reached c.lift-reached.result c.loop-parents.invariant.same.ordered c.lift-reached.ensures.lifted c.loop-parents-test.true

pub returns-clause-root : goal.returns-clause-root
returns-clause-root c =
    let ps = c.loop-parents.parents in let r = c.loop-parents.reached in
    subst (IsAt ps r) c.loop-parents-test.false (is-at_get ps r 0 c.loop-parents.invariant.within)

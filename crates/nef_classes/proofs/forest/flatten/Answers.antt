use Rattle.nef_classes.proofs.Prelude.{arith}
use Rattle.nef_space.proofs.Lists.{is-at_within}
use Rattle.nef_classes.proofs.Trees.{same-trans, lifted-same, lifted-root}
use Rattle.nef_classes.proofs.forest.flatten.Goals as goal

pub loop-number-preserved : goal.loop-number-preserved
loop-number-preserved c =
    let ps = c.loop-number.parents in let qs = c.lift.new.parents in
    let I = c.loop-number.invariant in
    let o = I.same.ordered in
    let L = c.lift.ensures.lifted in record {
      same = same-trans c.args.parents.now ps qs I.same (lifted-same ps qs c.loop-number.number c.lift.result o L);
      roots = lifted-root ps qs c.loop-number.number c.lift.result o L I.roots;
    }

pub returns-clause-roots : goal.returns-clause-roots
returns-clause-roots c = λ k p a.
    let I = c.loop-number.invariant in
    let w = is-at_within c.loop-number.parents k p a in
    let e = I.same.as_many in
    let h = c.loop-number-test.false in
    (I.same.ordered k p a, I.roots k p (omega arith) a)

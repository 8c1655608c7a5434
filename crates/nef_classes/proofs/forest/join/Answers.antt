use Rattle.nef_classes.proofs.Prelude.{inl, inr, ⊎_elim, arith}
use Rattle.nef_classes.proofs.Trees.{AreRootsOf, same-trans, made-one}
use Rattle.nef_classes.proofs.forest.join.Goals as goal
use Rattle.std.proofs.lemmas.Bool.{cases_lt}

pub returns : goal.returns
returns c =
    let link = c.args.link.now in
    let qs = c.root-first.new.parents in let os = c.root-second.new.parents in
    let r = c.root-first.result in let w = c.root-second.result in
    let F = c.root-first.ensures in
    let S = c.root-second.ensures in
    let reached = S.same.chained link.first r in
    let high = c.max-upper.ensures in let low = c.min-lower.ensures in
    let roots : AreRootsOf link os r w c.min-lower.result c.max-upper.result = record {
      first = reached.1 F.reached;
      second = S.reached;
      r_root = S.same.roots r F.root;
      w_root = S.root;
      ends = ⊎_elim (λ h. inl (omega arith, omega arith)) (λ h. inr (omega arith, omega arith)) (cases_lt r w);
      low_first = omega arith;
    } in record {
      joined = made-one link c.args.parents.now os (same-trans c.args.parents.now qs os F.same S.same) r w c.min-lower.result c.max-upper.result roots;
    }

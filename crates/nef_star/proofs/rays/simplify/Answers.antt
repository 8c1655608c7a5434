use Rattle.nef_star.proofs.Prelude.{◌≡◌, ◌+◌, ◌-◌, length, arith}
use Rattle.nef_star.proofs.Needed.{kept-self, kept-trans, seen-first, seen-more, seen-all, still-needed, simplified}
use Rattle.nef_star.proofs.rays.simplify.Goals as goal

pub loop-unseen-init : goal.loop-unseen-init
loop-unseen-init c = record { turned = c.requires.star.turned; kept = kept-self c.args.star.now; seen = seen-first c.args.star.now c.len-unseen.result (omega (arith, c.len-unseen.ensures)) }

pub loop-unseen-preserved : goal.loop-unseen-preserved
loop-unseen-preserved c =
    let t = c.loop-unseen.star in let i = c.loop-unseen.unseen in
    let fewer : i - 1 + 1 ≡ i = omega (arith, c.loop-unseen-test.true) in
    record {
      turned = c.pass_last.ensures.turned;
      kept = kept-trans c.args.star.now t c.pass_last.new.star c.loop-unseen.invariant.kept c.pass_last.ensures.kept;
      seen = seen-more t c.pass_last.new.star i (i - 1) fewer c.loop-unseen.invariant.seen (c.pass_last.ensures.passed (length t.rays.items - i) c.loop-unseen.invariant.seen.needed);
    }

pub pass_last-requires : goal.pass_last-requires
pass_last-requires c = record { turned = c.loop-unseen.invariant.turned; some = let w = c.loop-unseen.invariant.seen.within in let p = c.loop-unseen-test.true in omega (arith, w, p) }

pub returns-clause-kept : goal.returns-clause-kept
returns-clause-kept c = kept-trans c.args.star.now c.loop-unseen.star c.begin_with_least.new.star c.loop-unseen.invariant.kept c.begin_with_least.ensures.kept

pub returns-clause-simplified : goal.returns-clause-simplified
returns-clause-simplified c =
    let t = c.loop-unseen.star in let s = c.begin_with_least.new.star in
    simplified s (still-needed t s c.loop-unseen.invariant.turned c.begin_with_least.ensures.kept c.begin_with_least.ensures.counted (seen-all t c.loop-unseen.unseen (omega (arith, c.loop-unseen-test.false)) c.loop-unseen.invariant.seen))

pub returns-then-is_simple-clause-kept : goal.returns-then-is_simple-clause-kept
returns-then-is_simple-clause-kept c = kept-self c.args.star.now

pub returns-then-is_simple-clause-simplified : goal.returns-then-is_simple-clause-simplified
returns-then-is_simple-clause-simplified c = simplified c.args.star.now (c.is_simple.ensures.simple c.if-is_simple.true)

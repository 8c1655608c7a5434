use Rattle.nef_star.proofs.Needed.{kept-self}
use Rattle.nef_star.proofs.Joined.{combined-kept}
use Rattle.nef_star.proofs.combining.merge.Goals as goal

pub returns-clause-combined : goal.returns-clause-combined
returns-clause-combined c =
    combined-kept c.args.op c.args.a c.args.b.now c.args.a c.mix.new.star c.begin_with_least.new.star
    (kept-self c.args.a) c.in_ok-mix.ensures.combined c.begin_with_least.ensures.kept

use Rattle.nef_star.proofs.Needed.{kept-self}
use Rattle.nef_star.proofs.Joined.{combined-kept}
use Rattle.nef_star.proofs.combining.mix.Goals as goal

pub combine-requires-clause-all : goal.combine-requires-clause-all
combine-requires-clause-all c = rw c.as_slice.ensures.value at c.in_ok-cut_by.ensures.all

pub returns-clause-combined : goal.returns-clause-combined
returns-clause-combined c =
    combined-kept c.args.op c.args.star.now c.args.other.now c.cut_by.new.star c.combine.new.star c.combine.new.star
    c.in_ok-cut_by.ensures.kept c.combine.ensures.combined (kept-self c.combine.new.star)

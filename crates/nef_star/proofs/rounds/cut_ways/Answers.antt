use Rattle.nef_star.proofs.Prelude.{rules, length, refl, sym, subst, slice_get_read, vector_of, Dir, IsRay}
use Rattle.nef_star.proofs.RoundStars.{cut-start, cut-next, cut-all}
use Rattle.nef_star.proofs.rounds.cut_ways.Goals as goal

pub loop-end-init : goal.loop-end-init
loop-end-init c = cut-start c.args.ends.now c.args.star.now c.requires.turned c.requires.none

pub cut-requires-clause-ray : goal.cut-requires-clause-ray
cut-requires-clause-ray c =
    let a = slice_get_read c.args.ends.now (length c.args.ends.now) c.loop-end.end-index c.end-item.result refl (search rules) c.end-item.is in
    subst (λ (d : Dir). IsRay (vector_of d) c.end-item.result.0) (sym c.loop-end.invariant.axis) (c.requires.rays c.loop-end.end-index c.end-item.result a)

pub loop-end-preserved : goal.loop-end-preserved
loop-end-preserved c =
    let a = slice_get_read c.args.ends.now (length c.args.ends.now) c.loop-end.end-index c.end-item.result refl (search rules) c.end-item.is in
    cut-next c.args.ends.now c.loop-end.end-index c.args.star.now c.loop-end.star c.cut.new.star c.end-item.result a c.loop-end.invariant c.in_ok-cut.ensures.cut

pub returns-clause-ways : goal.returns-clause-ways
returns-clause-ways c = cut-all c.args.ends.now c.loop-end.end-index c.args.star.now c.loop-end.star (search rules) c.loop-end.invariant

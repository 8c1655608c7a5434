use Rattle.nef_star.proofs.Prelude.{length, sym, ap, subst, vector_of, Dir, IsRay}
use Rattle.nef_star.proofs.rounds.all_ways.Goals as goal

pub cut_ways-requires-clause-turned : goal.cut_ways-requires-clause-turned
cut_ways-requires-clause-turned c = c.in_ok-star.ensures.star.turned

pub cut_ways-requires-clause-none : goal.cut_ways-requires-clause-none
cut_ways-requires-clause-none c = ap length c.in_ok-star.ensures.rays

pub cut_ways-requires-clause-rays : goal.cut_ways-requires-clause-rays
cut_ways-requires-clause-rays c k e a = subst (λ (d : Dir). IsRay (vector_of d) e.0) (sym c.in_ok-star.ensures.axis) (c.requires.rays k e a)

pub returns-clause-whole : goal.returns-clause-whole
returns-clause-whole c = (c.cut_ways.new.star, c.in_ok-cut_ways.ensures.ways, c.end_rays.ensures.ended)

use Rattle.nef_star.proofs.Prelude.{sym, ap, subst, ◌∙◌, IsWhole, Star}
use Rattle.nef_star.proofs.TwoWays.{whole-round}
use Rattle.nef_star.proofs.rounds.round.Goals as goal
use Rattle.nef_star.proofs.rounds.round.Goals.{then-are_two_ways+in_ok-star, else-are_two_ways+in_ok-star-2}

pub returns-clause-round : goal.returns-clause-round
returns-clause-round c =
    let s = c.if-are_two_ways.star in let u = c.begin_with_least.new.star in let b = c.begin_with_least.ensures in let ends = c.args.ends.now in
    elim c.if-are_two_ways.branch [
      | then-are_two_ways+in_ok-star w ↦ whole-round ends c.args.axis s u (subst (IsWhole ends) (sym w.star-is) w.in_ok-star.ensures.whole) (ap (λ (t : Star). t.axis) w.star-is ∙ w.in_ok-star.ensures.axis) b.star.turned b.kept b.counted c.requires.some c.requires.rays c.requires.apart
      | else-are_two_ways+in_ok-star-2 w ↦ whole-round ends c.args.axis s u (subst (IsWhole ends) (sym w.star-is) w.in_ok-star-2.ensures.whole) (ap (λ (t : Star). t.axis) w.star-is ∙ w.in_ok-star-2.ensures.axis) b.star.turned b.kept b.counted c.requires.some c.requires.rays c.requires.apart
    ]

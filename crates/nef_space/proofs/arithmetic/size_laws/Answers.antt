use Rattle.nef_space.proofs.Sizes.{size_of_sum, small_weakens, small_adds, small_scales, small_two_sided}
use Rattle.nef_space.proofs.arithmetic.size_laws.Goals as goal

pub returns-clause-sum : goal.returns-clause-sum
returns-clause-sum c = size_of_sum

pub returns-clause-weakens : goal.returns-clause-weakens
returns-clause-weakens c = small_weakens

pub returns-clause-adds : goal.returns-clause-adds
returns-clause-adds c = small_adds

pub returns-clause-scales : goal.returns-clause-scales
returns-clause-scales c = small_scales

pub returns-clause-two_sided : goal.returns-clause-two_sided
returns-clause-two_sided c = small_two_sided

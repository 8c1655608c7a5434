-- The sets of the operations.
use Rattle.nef_space.specs.Sets.{Set}
use Rattle.nef_star.specs.declared.star.Op.{Op}
use Rattle.nef_star.specs.declared.star.Op.TheVariants.{And, Or, Diff, Xor}

-- the set that the operation makes of two sets
abbrev pub op_set : Op → Set → Set → Set
op_set And s t = Set.both s t
op_set Or s t = Set.either s t
op_set Diff s t = Set.less s t
op_set Xor s t = Set.one_of s t

-- The sets of constants and of the operations on one set.
use Rattle.nef_space.specs.Prelude.{Bool, true, false, Set}
use Rattle.nef_ops.specs.declared.operations.UnaryOp.{UnaryOp}
use Rattle.nef_ops.specs.declared.operations.UnaryOp.TheVariants.{Not, Int, Cl, Bd, Reg}

-- the whole frame or the empty set
abbrev pub constant_set : Bool → Set
constant_set true = Set.full
constant_set false = Set.empty

-- what the operation makes of a set
abbrev pub unary_set : UnaryOp → Set → Set
unary_set Not s = Set.other s
unary_set Int s = Set.inside s
unary_set Cl s = Set.closed s
unary_set Bd s = Set.border s
unary_set Reg s = Set.regular s

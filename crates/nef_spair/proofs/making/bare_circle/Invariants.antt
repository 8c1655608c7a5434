use Rattle.nef_spair.proofs.Prelude.{IsBareCircle}
use Rattle.nef_spair.proofs.Circles.{NoneUpTo}
use Rattle.nef_spair.proofs.making.bare_circle.Given as goal

abbrev pub invariant-loop-circle : goal.invariant-loop-circle
invariant-loop-circle l = NoneUpTo (IsBareCircle l.kept) l.circles l.circle-index

use Rattle.nef_spair.proofs.Prelude.{vector_of}
use Rattle.nef_spair.proofs.Circles.{NoneUpTo, IsOnCircleOf}
use Rattle.nef_spair.proofs.making.is_bare.Given as goal

abbrev pub invariant-loop-star : goal.invariant-loop-star
invariant-loop-star l = NoneUpTo (IsOnCircleOf (vector_of l.normal)) l.kept l.star-index

use Rattle.nef_spair.proofs.Prelude.{IsDropped}
use Rattle.nef_spair.proofs.Circles.{NoneUpTo}
use Rattle.nef_spair.proofs.making.are_all_kept.Given as goal

abbrev pub invariant-loop-star : goal.invariant-loop-star
invariant-loop-star l = NoneUpTo IsDropped l.stars l.star-index

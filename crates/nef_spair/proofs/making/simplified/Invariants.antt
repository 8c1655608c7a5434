use Rattle.nef_spair.proofs.Simple.{IsSimpleUpTo}
use Rattle.nef_spair.proofs.making.simplified.Given as goal

abbrev pub invariant-loop-star : goal.invariant-loop-star
invariant-loop-star l = IsSimpleUpTo l.star-index l.fn.stars l.star-items

use Rattle.nef_volumes.proofs.Prelude.{Link, Tie, IsCellNumber, HasOneForEach}
use Rattle.nef_volumes.proofs.numbers.number_links.Given as goal

abbrev pub invariant-loop-tie : goal.invariant-loop-tie
invariant-loop-tie l = HasOneForEach (λ (k : Link) (t : Tie). IsCellNumber l.rows t.first k.first × IsCellNumber l.rows t.second k.second) l.tie-index l.links.items l.ties

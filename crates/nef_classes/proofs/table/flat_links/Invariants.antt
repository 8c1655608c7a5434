use Rattle.nef_classes.proofs.Prelude.{◌≡◌, map, take, flat_tie}
use Rattle.nef_classes.proofs.table.flat_links.Given as goal

abbrev pub invariant-loop-tie : goal.invariant-loop-tie
invariant-loop-tie l = l.links.items ≡ map (flat_tie l.counts) (take l.tie-index l.ties)

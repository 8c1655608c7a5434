use Rattle.nef_volumes.proofs.Prelude.{complex_of, AreFacetsOf}
use Rattle.nef_volumes.proofs.all.list_facets.Given as goal

abbrev pub invariant-loop-own : goal.invariant-loop-own
invariant-loop-own l = AreFacetsOf (complex_of l.c) l.volume_of l.planes l.marks l.yielded l.facets

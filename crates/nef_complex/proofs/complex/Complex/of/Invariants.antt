use Rattle.nef_complex.proofs.Prelude.{indexed_lists}
use Rattle.nef_complex.proofs.complex.Complex.of.Given as goal

abbrev pub ghost-index_of : goal.ghost-index_of
ghost-index_of a = indexed_lists a.carriers.now a.vertices.now a.edges.now

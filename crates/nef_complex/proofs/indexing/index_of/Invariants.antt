use Rattle.nef_complex.proofs.indexing.index_of.Given as goal

abbrev pub ghost-of : goal.ghost-of
ghost-of g a = g.of

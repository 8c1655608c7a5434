use Rattle.nef_index.proofs.index.Index.of.Given as goal

abbrev pub ghost-carriers_spanned : goal.ghost-carriers_spanned
ghost-carriers_spanned g a = g.of

abbrev pub ghost-new : goal.ghost-new
ghost-new g a = g.of

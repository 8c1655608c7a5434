use Rattle.nef_io.specs.Telling.{told_bytes}
use Rattle.nef_io.proofs.adapters.IntoWriter.new.Given as goal

abbrev pub ghost-new : goal.ghost-new
ghost-new g a = told_bytes (g.W.Write.contents a._writer.now)

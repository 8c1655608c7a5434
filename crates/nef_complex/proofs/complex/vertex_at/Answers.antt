use Rattle.nef_complex.proofs.Prelude.{arith}
use Rattle.nef_complex.proofs.Sorted.{none-there}
use Rattle.nef_complex.proofs.complex.vertex_at.Goals as goal

pub returns-in-Err-clause-none : goal.returns-in-Err-clause-none
returns-in-Err-clause-none c _ k x = none-there c.args.c.now.vertices c.in-Err._before c.in-Err._before c.args.p.now (omega arith) c.in-Err.ensures.before c.in-Err.ensures.after k x

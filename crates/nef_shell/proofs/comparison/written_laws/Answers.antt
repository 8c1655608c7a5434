use Rattle.nef_shell.proofs.Prelude.{same-texts, count-tells, counted-one}
use Rattle.nef_shell.proofs.Pieces.{printed-one, text-tells}
use Rattle.nef_shell.proofs.comparison.written_laws.Goals as goal

pub returns-clause-texts : goal.returns-clause-texts
returns-clause-texts z v s t x y a b = same-texts v s t x y a b

pub returns-clause-pieces : goal.returns-clause-pieces
returns-clause-pieces z v s t name x y same = (printed-one v s t name x y same, counted-one s t x y same)

pub returns-clause-holds : goal.returns-clause-holds
returns-clause-holds z v s x is = text-tells v s x is

pub returns-clause-counts : goal.returns-clause-counts
returns-clause-counts z s x is = count-tells s x is

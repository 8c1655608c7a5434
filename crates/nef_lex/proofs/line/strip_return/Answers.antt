use Rattle.nef_lex.proofs.Prelude.{sym}
use Rattle.nef_lex.proofs.Pieces.{without_return-last, without_return-other}
use Rattle.nef_lex.proofs.line.strip_return.Goals as goal

pub returns-in-len1-up : goal.returns-in-len1-up
returns-in-len1-up c = record { stripped = sym (without_return-last c.args.piece.now c.in-len1-up.len_at_least c.if-last-eq13.true) }

pub returns-in_default-2 : goal.returns-in_default-2
returns-in_default-2 c = record { stripped = sym (without_return-other c.args.piece.now c.in-len1-up.len_at_least c.if-last-eq13.false) }

use Rattle.nef_statement.proofs.text.FrameText.{empty-is, full-is}
use Rattle.nef_statement.proofs.text.laws.frame_text_laws.Goals as goal

pub returns : goal.returns
returns c = record { empty = empty-is; full = full-is }

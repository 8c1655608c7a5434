use Rattle.nef_shell.proofs.Prelude.{point_of}
use Rattle.nef_shell.proofs.piece.label_at.Goals as goal

pub returns-then-in_frame : goal.returns-then-in_frame
returns-then-in_frame c = record { label = λ s shows. c.place_label.ensures.set s (point_of c.args.point.now) shows c.locate.ensures.at }

use Rattle.nef_plane.proofs.Prelude.{sym, ◌∙◌, form_at, point_of}
use Rattle.nef_plane.proofs.Leveled.{minus-short, zero-short, plus-short}
use Rattle.nef_plane.proofs.plane.is_short.Goals as goal

pub returns-in-Minus : goal.returns-in-Minus
returns-in-Minus g c = record { short = minus-short c.args.on_counts (form_at (g.L.Line.form c.args.line.now) (point_of c.args.a.now)) (sym c.in-Minus.is ∙ c.across.ensures.across) }

pub returns-in-Zero : goal.returns-in-Zero
returns-in-Zero g c = record { short = zero-short c.args.on_counts (form_at (g.L.Line.form c.args.line.now) (point_of c.args.a.now)) (sym c.in-Zero.is ∙ c.across.ensures.across) }

pub returns-in-Plus : goal.returns-in-Plus
returns-in-Plus g c = record { short = plus-short c.args.on_counts (form_at (g.L.Line.form c.args.line.now) (point_of c.args.a.now)) (sym c.in-Plus.is ∙ c.across.ensures.across) }

use Rattle.nef_spair.proofs.Prelude.{vector_of}
use Rattle.nef_spair.proofs.TwoEnds.{first-other}
use Rattle.nef_spair.proofs.along.target_of.Goals as goal

pub returns-then-are_two_ends : goal.returns-then-are_two_ends
returns-then-are_two_ends c = record { first = λ t a. first-other c.args.kept.now (vector_of c.args.normal.now) c.args.from t (c.are_two_ends.ensures.ends c.if-are_two_ends.true) a (c.requires.level t a) }

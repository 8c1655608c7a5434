use Rattle.nef_index.proofs.Prelude.{arith, ints}
use Rattle.nef_index.proofs.spans.Span.none.Goals as goal

pub returns : goal.returns
returns c = record { none = λ y i. let l = i.0.0 in let h = i.0.1 in let p = y.proper in omega (arith, ints, l, h, p) }

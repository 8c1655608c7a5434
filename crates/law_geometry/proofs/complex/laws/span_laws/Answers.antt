use Rattle.law_geometry.proofs.complex.Spans.{plane-bounded, plane-within, stays-close}
use Rattle.law_geometry.proofs.complex.laws.span_laws.Goals as goal

pub returns-clause-bounded : goal.returns-clause-bounded
returns-clause-bounded c = λ s C h f S b. plane-bounded s C S h f b

pub returns-clause-within : goal.returns-clause-within
returns-clause-within c = λ s C h a low high S b. plane-within s C S h a low high b

pub returns-clause-close : goal.returns-clause-close
returns-clause-close c = stays-close

use Rattle.nef_space.proofs.Fractions.{fraction-trans, fraction-le-trans, fraction-eq-trans, fraction-alike}
use Rattle.nef_space.proofs.arithmetic.fraction_laws.Goals as goal

pub returns-clause-ordered : goal.returns-clause-ordered
returns-clause-ordered c = λ a b c d e f hb hd hf. (fraction-trans a b c d e f hb hd hf, fraction-le-trans a b c d e f hb hd hf, fraction-eq-trans a b c d e f hd)

pub returns-clause-alike : goal.returns-clause-alike
returns-clause-alike c = fraction-alike

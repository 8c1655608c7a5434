use Rattle.nef_space.proofs.Machine.{fits_of, exact_of, size_of}
use Rattle.nef_space.proofs.arithmetic.machine_laws.Goals as goal

pub returns-clause-fits : goal.returns-clause-fits
returns-clause-fits c = fits_of

pub returns-clause-exact : goal.returns-clause-exact
returns-clause-exact c = exact_of

pub returns-clause-size : goal.returns-clause-size
returns-clause-size c = size_of

use Rattle.law_geometry.proofs.complex.Candidates.{candidates-suffice}
use Rattle.law_geometry.proofs.complex.laws.candidate_laws.Goals as goal

pub returns : goal.returns
returns c = record { suffice = candidates-suffice }

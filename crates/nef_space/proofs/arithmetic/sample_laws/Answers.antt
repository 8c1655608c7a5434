use Rattle.nef_space.proofs.Samples.{samples, sample_of, vectors, vector_sample}
use Rattle.nef_space.proofs.arithmetic.sample_laws.Goals as goal

pub returns-clause-points : goal.returns-clause-points
returns-clause-points c = λ n ks. (samples n ks, λ v h. let s = sample_of n ks v h in (s.vector, s.listed, s.point, s.same))

pub returns-clause-vectors : goal.returns-clause-vectors
returns-clause-vectors c = λ n ks. (vectors n ks, λ v e. let s = vector_sample n ks v e in (s.vector, s.listed, s.long, s.same))

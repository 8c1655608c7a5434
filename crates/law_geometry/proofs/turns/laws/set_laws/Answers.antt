use Rattle.law_geometry.proofs.turns.Meaning.{holds-turned, label-turned, same_set-turned, germ-turned, near_germ-turned, flat-turned, flat_dim-turned, joined-turned}
use Rattle.law_geometry.proofs.turns.Twice.{set-back, set-twice}
use Rattle.law_geometry.proofs.turns.laws.set_laws.Goals as goal

pub returns-clause-holds : goal.returns-clause-holds
returns-clause-holds c = holds-turned

pub returns-clause-labels : goal.returns-clause-labels
returns-clause-labels c = label-turned

pub returns-clause-same_sets : goal.returns-clause-same_sets
returns-clause-same_sets c = same_set-turned

pub returns-clause-germs : goal.returns-clause-germs
returns-clause-germs c = germ-turned

pub returns-clause-near_germs : goal.returns-clause-near_germs
returns-clause-near_germs c = near_germ-turned

pub returns-clause-flat : goal.returns-clause-flat
returns-clause-flat c = flat-turned

pub returns-clause-flat_dim : goal.returns-clause-flat_dim
returns-clause-flat_dim c = flat_dim-turned

pub returns-clause-vertices : goal.returns-clause-vertices
returns-clause-vertices c = λ k s p. flat_dim-turned k s p 0

pub returns-clause-joined : goal.returns-clause-joined
returns-clause-joined c = joined-turned

pub returns-clause-back : goal.returns-clause-back
returns-clause-back c = set-back

pub returns-clause-twice : goal.returns-clause-twice
returns-clause-twice c = set-twice

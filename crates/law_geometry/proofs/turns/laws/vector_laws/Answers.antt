use Rattle.law_geometry.proofs.turns.Prelude.{turned_vector, unturned_vector, is_odd}
use Rattle.law_geometry.proofs.turns.Turning.{arc-there}
use Rattle.law_geometry.proofs.turns.Vectors.{dot-turned, cross-turned, triple-turned, direction-turned, same_direction-turned, opposite-turned, turning, vector-back}
use Rattle.law_geometry.proofs.turns.laws.vector_laws.Goals as goal

pub returns-clause-dots : goal.returns-clause-dots
returns-clause-dots c = dot-turned

pub returns-clause-crosses : goal.returns-clause-crosses
returns-clause-crosses c = cross-turned

pub returns-clause-triples : goal.returns-clause-triples
returns-clause-triples c = triple-turned

pub returns-clause-directions : goal.returns-clause-directions
returns-clause-directions c = direction-turned

pub returns-clause-same_directions : goal.returns-clause-same_directions
returns-clause-same_directions c = same_direction-turned

pub returns-clause-opposites : goal.returns-clause-opposites
returns-clause-opposites c = opposite-turned

pub returns-clause-arcs : goal.returns-clause-arcs
returns-clause-arcs c = λ k. arc-there (turned_vector k) (is_odd k) (turning k)

pub returns-clause-all : goal.returns-clause-all
returns-clause-all c = λ k e. (unturned_vector k e, vector-back k e)

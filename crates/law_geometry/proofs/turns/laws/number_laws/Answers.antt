use Rattle.law_geometry.proofs.turns.Numbers.{at_most-turned, primitive-turned, lowest_vector-turned, lowest_form-turned, lowest_point-turned, normal-choice}
use Rattle.law_geometry.proofs.turns.TurnedLists.{one-normal}
use Rattle.law_geometry.proofs.turns.Exists.{turned-one, one-origin, one-plane}
use Rattle.law_geometry.proofs.turns.laws.number_laws.Goals as goal

pub returns-clause-sizes : goal.returns-clause-sizes
returns-clause-sizes c = at_most-turned

pub returns-clause-primitive : goal.returns-clause-primitive
returns-clause-primitive c = primitive-turned

pub returns-clause-lowest_vectors : goal.returns-clause-lowest_vectors
returns-clause-lowest_vectors c = lowest_vector-turned

pub returns-clause-lowest_forms : goal.returns-clause-lowest_forms
returns-clause-lowest_forms c = lowest_form-turned

pub returns-clause-lowest_places : goal.returns-clause-lowest_places
returns-clause-lowest_places c = lowest_point-turned

pub returns-clause-normal : goal.returns-clause-normal
returns-clause-normal c = normal-choice

pub returns-clause-one_normal : goal.returns-clause-one_normal
returns-clause-one_normal c = one-normal

pub returns-clause-vectors_differ : goal.returns-clause-vectors_differ
returns-clause-vectors_differ c = turned-one

pub returns-clause-normals_differ : goal.returns-clause-normals_differ
returns-clause-normals_differ c = λ k b c n m hn hm e. (one-origin k b c n m hn hm e).1

pub returns-clause-planes_differ : goal.returns-clause-planes_differ
returns-clause-planes_differ c = one-plane

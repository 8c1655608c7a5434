use Rattle.law_geometry.proofs.sphere.cyclic.Directions.{classes_are_arcs, arcs_are_of_directions, way_back_passes_the_same, two_meets}
use Rattle.law_geometry.proofs.sphere.cyclic.arc_laws.Goals as goal

pub returns-clause-classes : goal.returns-clause-classes
returns-clause-classes c = classes_are_arcs

pub returns-clause-directions : goal.returns-clause-directions
returns-clause-directions c = arcs_are_of_directions

pub returns-clause-back : goal.returns-clause-back
returns-clause-back c = way_back_passes_the_same

pub returns-clause-meets : goal.returns-clause-meets
returns-clause-meets c = two_meets

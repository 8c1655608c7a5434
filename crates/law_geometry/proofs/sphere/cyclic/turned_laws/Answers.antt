use Rattle.law_geometry.proofs.sphere.cyclic.Cyclic.{order_is_cyclic, ways_glue, ways_split, nearer_ones, seen_from_later, seen_from_between, seen_from_after}
use Rattle.law_geometry.proofs.sphere.cyclic.turned_laws.Goals as goal

pub returns-clause-cyclic : goal.returns-clause-cyclic
returns-clause-cyclic c = order_is_cyclic

pub returns-clause-glue : goal.returns-clause-glue
returns-clause-glue c = ways_glue

pub returns-clause-split : goal.returns-clause-split
returns-clause-split c = ways_split

pub returns-clause-nearer : goal.returns-clause-nearer
returns-clause-nearer c = nearer_ones

pub returns-clause-from_later : goal.returns-clause-from_later
returns-clause-from_later c = seen_from_later

pub returns-clause-from_between : goal.returns-clause-from_between
returns-clause-from_between c = seen_from_between

pub returns-clause-from_after : goal.returns-clause-from_after
returns-clause-from_after c = seen_from_after

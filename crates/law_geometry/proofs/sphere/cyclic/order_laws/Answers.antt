use Rattle.law_geometry.proofs.sphere.cyclic.Cyclic.{one_is_first, never_both_ways, order_is_transitive, same_in_place}
use Rattle.law_geometry.proofs.sphere.cyclic.order_laws.Goals as goal

pub returns-clause-first : goal.returns-clause-first
returns-clause-first c = one_is_first

pub returns-clause-never_both : goal.returns-clause-never_both
returns-clause-never_both c = never_both_ways

pub returns-clause-transitive : goal.returns-clause-transitive
returns-clause-transitive c = order_is_transitive

pub returns-clause-same : goal.returns-clause-same
returns-clause-same c = same_in_place

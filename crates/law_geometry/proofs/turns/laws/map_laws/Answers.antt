use Rattle.law_geometry.proofs.turns.TurnedMaps.{map_labels-turned, near_labels-turned, valid-turned, least-turned, cone-turned}
use Rattle.law_geometry.proofs.turns.TurnedLists.{lists-turned}
use Rattle.law_geometry.proofs.turns.ArcEnds.{arcs-begin, arcs-end}
use Rattle.law_geometry.proofs.turns.Exists.{turned_map, has-lists, turned-ordered}
use Rattle.law_geometry.proofs.turns.laws.map_laws.Goals as goal

pub returns-clause-labels : goal.returns-clause-labels
returns-clause-labels c = λ k M N d m V R. map_labels-turned k M N R V d m

pub returns-clause-near_labels : goal.returns-clause-near_labels
returns-clause-near_labels c = λ k M N d e m V R. near_labels-turned k M N R V d e m

pub returns-clause-valid : goal.returns-clause-valid
returns-clause-valid c = valid-turned

pub returns-clause-least : goal.returns-clause-least
returns-clause-least c = least-turned

pub returns-clause-cones : goal.returns-clause-cones
returns-clause-cones c = λ k M N s p R. cone-turned k M N R s p

pub returns-clause-lists : goal.returns-clause-lists
returns-clause-lists c = lists-turned

pub returns-clause-begin : goal.returns-clause-begin
returns-clause-begin c = arcs-begin

pub returns-clause-end : goal.returns-clause-end
returns-clause-end c = arcs-end

pub returns-clause-exists : goal.returns-clause-exists
returns-clause-exists c = λ k M V O. (turned_map k M V O, has-lists k M V O, turned-ordered k M V O)

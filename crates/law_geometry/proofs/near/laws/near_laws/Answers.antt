use Rattle.law_geometry.proofs.near.Prelude.{arith, carriers}
use Rattle.law_geometry.proofs.near.Germs.{short_enough}
use Rattle.law_geometry.proofs.near.NearGerms.{near-from_there, there-from_near}
use Rattle.law_geometry.proofs.near.Decisions.{near-germ_of, near-germ_one}
use Rattle.law_geometry.proofs.near.Topology.{near-germ_zero}
use Rattle.law_geometry.proofs.near.Cells.{reach-some}
use Rattle.law_geometry.proofs.near.Near.{reach_all}
use Rattle.law_geometry.proofs.near.FlatDecided.{near-by_signs}
use Rattle.law_geometry.proofs.near.Even.{germ-nearby}
use Rattle.law_geometry.proofs.near.laws.near_laws.Goals as goal

pub returns-clause-germ_on_ray : goal.returns-clause-germ_on_ray
returns-clause-germ_on_ray c = λ s p d. (short_enough s p d, omega arith, λ t short e l. (near-from_there s p d e t short l, there-from_near s p d e t short l))

pub returns-clause-near_germ_exists : goal.returns-clause-near_germ_exists
returns-clause-near_germ_exists c = near-germ_of

pub returns-clause-near_germ_is_unique : goal.returns-clause-near_germ_is_unique
returns-clause-near_germ_is_unique c = near-germ_one

pub returns-clause-near_germ_toward_zero : goal.returns-clause-near_germ_toward_zero
returns-clause-near_germ_toward_zero c = near-germ_zero

pub returns-clause-near_germ_by_slopes : goal.returns-clause-near_germ_by_slopes
returns-clause-near_germ_by_slopes c = near-by_signs

pub returns-clause-cone_nearby : goal.returns-clause-cone_nearby
returns-clause-cone_nearby c = λ s p. (reach_all (carriers s) p, reach-some (carriers s) p, germ-nearby s p)

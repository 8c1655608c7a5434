use Rattle.law_geometry.proofs.sphere.cyclic.Cyclic.{next_rises, in_sector, sector_holds, no_ray_between}
use Rattle.law_geometry.proofs.sphere.cyclic.sector_laws.Goals as goal

pub returns-clause-rises : goal.returns-clause-rises
returns-clause-rises c = next_rises

pub returns-clause-inside : goal.returns-clause-inside
returns-clause-inside c = in_sector

pub returns-clause-holds : goal.returns-clause-holds
returns-clause-holds c = sector_holds

pub returns-clause-no_ray : goal.returns-clause-no_ray
returns-clause-no_ray c = no_ray_between

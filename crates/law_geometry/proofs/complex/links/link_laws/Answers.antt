use Rattle.law_geometry.proofs.complex.links.link_laws.Goals as goal
use Rattle.law_geometry.proofs.complex.links.ItemPoints.{items-have_points}
use Rattle.law_geometry.proofs.complex.links.ItemLinks.{items-joined}
use Rattle.law_geometry.proofs.complex.links.SidePoints.{sides-have_points}
use Rattle.law_geometry.proofs.complex.links.SidesJoined.{sides-joined}

pub returns-clause-items : goal.returns-clause-items
returns-clause-items c = items-joined

pub returns-clause-sides : goal.returns-clause-sides
returns-clause-sides c = sides-joined

pub returns-clause-item_points : goal.returns-clause-item_points
returns-clause-item_points c = items-have_points

pub returns-clause-side_points : goal.returns-clause-side_points
returns-clause-side_points c = sides-have_points

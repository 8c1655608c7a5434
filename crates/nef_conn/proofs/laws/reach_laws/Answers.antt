use Rattle.nef_conn.proofs.laws.reach_laws.Goals as goal
use Rattle.nef_conn.proofs.Reaching.{corners-reached, sides-reached}
use Rattle.nef_conn.proofs.AtItems.{points-reach_items}
use Rattle.nef_conn.proofs.AtSides.{points-reach_sides}

pub returns-clause-sides : goal.returns-clause-sides
returns-clause-sides c = points-reach_sides

pub returns-clause-items : goal.returns-clause-items
returns-clause-items c = points-reach_items

pub returns-clause-corners : goal.returns-clause-corners
returns-clause-corners c = corners-reached

pub returns-clause-volume_sides : goal.returns-clause-volume_sides
returns-clause-volume_sides c = sides-reached

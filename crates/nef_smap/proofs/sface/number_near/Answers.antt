use Rattle.nef_smap.proofs.Prelude.{Some, None}
use Rattle.nef_smap.proofs.sface.number_near.Goals as goal

pub item_side-requires : goal.item_side-requires
item_side-requires c = record { within = c.in-Some.ensures.within }

pub returns-in-Some : goal.returns-in-Some
returns-in-Some c = record { number = (Some c.in-Some.item, c.item_side.ensures.number, c.in-Some.ensures.first) }

pub returns-in-None : goal.returns-in-None
returns-in-None c = record { number = (None, c.sides.ensures.count, c.in-None.ensures.first) }

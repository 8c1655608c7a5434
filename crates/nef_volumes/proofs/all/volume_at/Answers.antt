use Rattle.nef_volumes.proofs.Prelude.{corner_of}
use Rattle.nef_volumes.proofs.FacetLists.{corner-within, item-within, side-within, volume-is}
use Rattle.nef_volumes.proofs.all.volume_at.Goals as goal

pub at-requires : goal.at-requires
at-requires c = record { within = corner-within c.args.c.now (corner_of c.args.corner.now) c.requires.corner }

pub item_side-side-requires : goal.item_side-side-requires
item_side-side-requires c = record { within = item-within c.args.c.now (corner_of c.args.corner.now) c.requires.corner c.at.result.now c.at.ensures.element }

pub at-requires-2 : goal.at-requires-2
at-requires-2 c = record {
  within = side-within c.args.c.now (corner_of c.args.corner.now) c.requires.corner c.at.result.now c.at.ensures.element c.args.volume_of.now c.requires.numbers c.at-row.result.now c.at-row.ensures.element c.args.above
      c.item_side-side.result c.item_side-side.ensures.number;
}

pub returns : goal.returns
returns c = record {
  volume = volume-is c.args.c.now (corner_of c.args.corner.now) c.requires.corner c.at.result.now c.at.ensures.element c.args.volume_of.now c.requires.numbers c.at-row.result.now c.at-row.ensures.element c.args.above
      c.item_side-side.result c.item_side-side.ensures.number c.at-2.result.now c.at-2.ensures.element;
}

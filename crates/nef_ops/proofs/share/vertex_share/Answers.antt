use Rattle.nef_ops.proofs.ByShare.{share-part}
use Rattle.nef_ops.proofs.PlaceShares.{vertex-share}
use Rattle.nef_ops.proofs.share.vertex_share.Goals as goal

pub returns-then-by_maps : goal.returns-then-by_maps
returns-then-by_maps c = record { share = vertex-share c.args.c.now c.args.number c.at.result.now c.share_of.result c.at.ensures.element c.share_of.ensures.share }

pub returns-else-by_maps : goal.returns-else-by_maps
returns-else-by_maps c = record { share = λ s p S a. share-part s p }

use Rattle.nef_ops.proofs.Prelude.{refl, map_of}
use Rattle.nef_ops.proofs.Lacking.{nothing-share, everything-share}
use Rattle.nef_ops.proofs.share.share_of.Goals as goal

pub returns-then-lacks : goal.returns-then-lacks
returns-then-lacks c = record { share = nothing-share (map_of c.args.map.now) (c.if-lacks.ensures.lacks refl) }

pub returns-then-lacks-2 : goal.returns-then-lacks-2
returns-then-lacks-2 c = record { share = everything-share (map_of c.args.map.now) (c.if-lacks-2.ensures.lacks refl) }

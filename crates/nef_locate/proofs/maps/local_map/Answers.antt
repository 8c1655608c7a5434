use Rattle.nef_locate.proofs.Prelude.{IfOk-weaker, point_of}
use Rattle.nef_locate.proofs.maps.local_map.Goals as goal

pub returns-clause-cone : goal.returns-clause-cone
returns-clause-cone c = IfOk-weaker c.place_map.result _ _ (λ m k s S. k s (point_of c.args.p.now) S c.locate.ensures.at) c.place_map.ensures.cone

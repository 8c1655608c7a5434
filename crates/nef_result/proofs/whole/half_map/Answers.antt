use Rattle.nef_result.proofs.Prelude.{Set, given_form, point_of, map_of}
use Rattle.nef_result.proofs.HalfCones.{half-cone, below-cone, above-cone}
use Rattle.nef_result.proofs.whole.half_map.Goals as goal

pub returns-in-Minus-clause-cone : goal.returns-in-Minus-clause-cone
returns-in-Minus-clause-cone c =
    let x = c.args in
    below-cone (given_form x.oriented.now) x.closed (point_of x.p.now) (map_of x.whole) c.in-Minus.ensures.side c.requires.frame

pub returns-in_ok-map-in-Zero-clause-cone : goal.returns-in_ok-map-in-Zero-clause-cone
returns-in_ok-map-in-Zero-clause-cone c =
    let x = c.args in let m = c.in_ok-map-in-Zero in let l = m.ensures.least in
    half-cone (given_form x.oriented.now) x.closed (point_of x.p.now) x.whole c.map_of_plane-half.result m.map c.in-Zero.ensures.side c.requires.frame c.map_of_plane-half.ensures.map l.sphere_map.valid m.ensures.mark m.ensures.labels

pub returns-in-Plus-clause-cone : goal.returns-in-Plus-clause-cone
returns-in-Plus-clause-cone c =
    let x = c.args in
    above-cone (given_form x.oriented.now) x.closed (point_of x.p.now) (map_of c.exchanged.result) c.in-Plus.ensures.side (c.exchanged.ensures.cone Set.full (point_of x.p.now) c.requires.frame)

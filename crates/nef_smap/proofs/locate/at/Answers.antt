use Rattle.nef_smap.proofs.Prelude.{arith, vector_of}
use Rattle.nef_smap.proofs.Found.{arc-place, sloop-place}
use Rattle.nef_smap.proofs.locate.at.Goals as goal

pub face_toward-requires-clause-free : goal.face_toward-requires-clause-free
face_toward-requires-clause-free c = record { direction = c.args.d.now.some; off_svertices = λ k v a s. c.in_default.ensures.svertex k (v, a, s); off_items = c.in_default-item_on.ensures.item }

pub returns-then-number-len : goal.returns-then-number-len
returns-then-number-len c =
    let r = c.in-Some-item_on.ensures.item in
    record { place = arc-place c.args.map.now (vector_of c.args.d.now) c.in-Some-item_on.number (omega (arith, c.if-number-len.true, c.len.ensures.len)) r.0 r.1 r.2 }

pub returns : goal.returns
returns c =
    let r = c.in-Some-item_on.ensures.item in
    record { place = sloop-place c.args.map.now (vector_of c.args.d.now) c.in-Some-item_on.number (omega (arith, c.if-number-len.false, c.len.ensures.len)) r.0 r.1 r.2 }

use Rattle.nef_smap.proofs.Prelude.{length-map, svertex_of, map_of}
use Rattle.nef_smap.proofs.Neighbourhood.{svertex-here, lone-ok}
use Rattle.nef_smap.proofs.NeighbourhoodSvertex.{ends-some, ends-rays, ends-apart, ends-ok}
use Rattle.nef_smap.proofs.locate.star_at_svertex.Goals as goal
use Rattle.nef_space.proofs.Lists.{is-at_within}

pub at-svertex-requires : goal.at-svertex-requires
at-svertex-requires c =
    let v = c.requires.at in
    record { within = rw (length-map c.args.map.now.svertices svertex_of) at (is-at_within (map_of c.args.map.now).svertices c.args.number v.0 v.1) }

pub returns-in-Some-clause-shows : goal.returns-in-Some-clause-shows
returns-in-Some-clause-shows c =
    let m = c.args.map.now in
    let s = c.at-svertex.result.now in
    let e = c.bare.ensures in
    lone-ok c.bare.result (map_of m) c.args.number s.mark c.in-Some.around s.around c.args.d.now c.requires.map.valid (svertex-here m c.args.number s c.args.d.now c.at-svertex.ensures.element c.requires.at) c.in-Some.is
    e.star e.axis e.rays e.sectors e.mark

pub round-requires-clause-some : goal.round-requires-clause-some
round-requires-clause-some c =
    let m = c.args.map.now in
    let s = c.at-svertex.result.now in
    rw c.as_slice.ensures.value (ends-some m c.requires.map.valid c.args.number _ (svertex-here m c.args.number s c.args.d.now c.at-svertex.ensures.element c.requires.at) c.in_ok-ends.ends.items c.in_ok-ends.ensures.ends c.in_default.is)

pub round-requires-clause-rays : goal.round-requires-clause-rays
round-requires-clause-rays c =
    let m = c.args.map.now in
    let s = c.at-svertex.result.now in
    rw c.as_slice.ensures.value (ends-rays m c.requires.map.valid c.args.number _ (svertex-here m c.args.number s c.args.d.now c.at-svertex.ensures.element c.requires.at) c.in_ok-ends.ends.items c.in_ok-ends.ensures.ends c.requires.map.small)

pub round-requires-clause-apart : goal.round-requires-clause-apart
round-requires-clause-apart c =
    let m = c.args.map.now in
    let s = c.at-svertex.result.now in
    rw c.as_slice.ensures.value (ends-apart m c.requires.map.valid c.args.number _ (svertex-here m c.args.number s c.args.d.now c.at-svertex.ensures.element c.requires.at) c.in_ok-ends.ends.items c.in_ok-ends.ensures.ends)

pub returns-clause-shows : goal.returns-clause-shows
returns-clause-shows c =
    let m = c.args.map.now in
    let s = c.at-svertex.result.now in
    let a = svertex-here m c.args.number s c.args.d.now c.at-svertex.ensures.element c.requires.at in
    let e = c.round.ensures in
    let ends = c.in_ok-ends.ends.items in
    let A = c.in_ok-ends.ensures.ends in
    ends-ok c.round.result m c.args.number s.mark s.around c.args.d.now ends c.requires.map.valid a A (ends-some m c.requires.map.valid c.args.number _ a ends A c.in_default.is) e.star e.axis e.mark (rw c.as_slice.ensures.value at e.round)

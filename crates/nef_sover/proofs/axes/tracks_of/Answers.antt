use Rattle.nef_sover.proofs.Prelude.{◌+◌, arith, sym, subst, List, map_of, Track, AreTracks}
use Rattle.nef_sover.proofs.TrackLists.{AreFirst, first-more, first-all, tracks-small}
use Rattle.nef_sover.proofs.axes.tracks_of.Goals as goal

pub loop-number-preserved : goal.loop-number-preserved
loop-number-preserved c =
    let M = map_of c.args.map.now in
    let r = c.track_at.ensures.track in
    subst (λ (ts : List Track). AreFirst M (c.loop-number.number + 1) ts) (sym c.in_ok-push.ensures.items)
    (first-more M c.loop-number.number c.loop-number.tracks.items c.track_at.result c.loop-number.invariant r.0 r.1 r.2)

all : (c : goal.After-loop-number) → AreTracks (map_of c.args.map.now) c.loop-number.tracks.items
all c = first-all (map_of c.args.map.now) c.loop-number.number c.loop-number.tracks.items c.loop-number.invariant (omega (arith, c.item_count-number-end.ensures.count, c.loop-number-test.false))

pub returns : goal.returns
returns c = record { tracks = all c; small = tracks-small c.args.map.now c.loop-number.tracks.items c.requires.map (all c) }

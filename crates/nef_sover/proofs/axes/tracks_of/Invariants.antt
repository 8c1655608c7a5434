use Rattle.nef_sover.proofs.Prelude.{map_of}
use Rattle.nef_sover.proofs.TrackLists.{AreFirst}
use Rattle.nef_sover.proofs.axes.tracks_of.Given as goal

abbrev pub invariant-loop-number : goal.invariant-loop-number
invariant-loop-number l = AreFirst (map_of l.map) l.number l.tracks.items

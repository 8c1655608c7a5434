use Rattle.nef_smap.proofs.NeighbourhoodEnds.{HasArcEnds}
use Rattle.nef_smap.proofs.locate.arc_ends.Given as goal

abbrev pub invariant-loop-arc : goal.invariant-loop-arc
invariant-loop-arc l = HasArcEnds l.map.arcs l.arc-index l.svertex l.ends.items

use Rattle.nef_locate.proofs.Prelude.{◌*◌, AreHalves}
use Rattle.nef_locate.proofs.maps.half_circles.Given as goal

abbrev pub invariant-loop-arc : goal.invariant-loop-arc
invariant-loop-arc l = AreHalves l.map.arcs l.svertex (2 * l.arc-index) l.halves.items

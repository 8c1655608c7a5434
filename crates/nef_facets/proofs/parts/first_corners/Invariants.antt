use Rattle.nef_facets.proofs.FirstCorners.{AreFirstsTo}
use Rattle.nef_facets.proofs.parts.first_corners.Given as goal

abbrev pub invariant-loop-corner : goal.invariant-loop-corner
invariant-loop-corner l = AreFirstsTo l.rows l.corners l.corner-index l.firsts.items

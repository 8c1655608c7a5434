use Rattle.nef_facets.proofs.Prelude.{◌≡◌, ◌++◌, ◌≤◌, corners_at}
use Rattle.nef_facets.proofs.parts.add_corners.Given as goal

abbrev pub invariant-loop-item : goal.invariant-loop-item
invariant-loop-item l = record { added : l.corners.items ≡ l.fn.corners.items ++ corners_at l.vertex l.item; within : l.item ≤ l.count }

use Rattle.nef_locate.proofs.Prelude.{◌≡◌, ℕ, ◌+◌, ◌≤◌, IsAt, hit_point, IsEdgePoint, Edge, complex_of}
use Rattle.nef_locate.proofs.carrier.edge_among.Given as goal

abbrev pub invariant-loop-place : goal.invariant-loop-place
invariant-loop-place l = (l.place ≤ l.count) × ((i k : ℕ) (e : Edge) → l.place ≡ i + 1 → IsAt l.items.edges.now i k → IsAt l.c.edges k e → l.next ≤ e.high)
    × ((j k : ℕ) → l.place ≤ j → IsAt l.items.edges.now j k → IsEdgePoint (complex_of l.c) k (hit_point l.q) → ⊥)

abbrev pub decreases-loop-place : goal.decreases-loop-place
decreases-loop-place l = l.place

use Rattle.nef_facets.proofs.Prelude.{Label, Plane, Corner, complex_of, corner_of, IsMarkAt, IsPlaneAt}
use Rattle.nef_facets.proofs.Lists.{HasOneForEach}
use Rattle.nef_facets.proofs.parts.planes_and_marks.Given as goal

abbrev pub invariant-loop-corner : goal.invariant-loop-corner
invariant-loop-corner l = record {
  planes : HasOneForEach (λ (h : Plane) (k : Corner). IsPlaneAt (complex_of l.c) h (corner_of k)) l.corner-index l.planes l.corners;
  marks : HasOneForEach (λ (m : Label) (k : Corner). IsMarkAt (complex_of l.c) m (corner_of k)) l.corner-index l.marks l.corners;
}

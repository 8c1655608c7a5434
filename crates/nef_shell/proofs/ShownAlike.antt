-- A complex that shows a set shows each set that is alike.
use Rattle.nef_shell.proofs.Prelude.{⊎_elim, List, Form, Set, halves, Lies, lies-left, lies-right, lies-append, frame, carriers, cones-of_same, FlatDim-by_cone, Carriers, Shows, complex_of, ShowsSet, Complex, AreAlike}
use Rattle.law_geometry.specs.complex.Complexes.{Complex as PlainComplex}
use Rattle.nef_unique.proofs.Vertices.{cone-carried}
use Rattle.nef_plan.proofs.Alike.{alike-sym}

carriers-alike : (s t : Set) → AreAlike s t → (f : Form) → Lies (carriers s) f → Lies (carriers t) f
carriers-alike s t a f l = ⊎_elim (lies-left frame (halves t) f) (λ h. lies-right frame (halves t) f ((a.planes f).0 h)) (lies-append frame (halves s) f l)

planes-alike : (s t : Set) (hs : List Form) → AreAlike s t → Carriers s hs → Carriers t hs
planes-alike s t hs a C = record {
  each = λ k h i. let x = C.each k h i in (x.0, carriers-alike s t a x.0 x.1, x.2);
  all = λ f l. C.all f (carriers-alike t s (alike-sym s t a) f l);
  ordered = C.ordered;
}

shows-alike : (s t : Set) (C : PlainComplex) → AreAlike s t → Shows s C → Shows t C
shows-alike s t C a S = record {
  vertices = λ k v i. (FlatDim-by_cone s t v.point 0 (cones-of_same s t a.same v.point)).0 (S.vertices k v i);
  complete = λ p v. S.complete p ((FlatDim-by_cone s t p 0 (cones-of_same s t a.same p)).1 v);
  ordered = S.ordered;
  cones = λ k v i. cone-carried v.map s t v.point (cones-of_same s t a.same v.point) (S.cones k v i);
  least = S.least;
  maps_ordered = S.maps_ordered;
  edges = S.edges;
  carriers = planes-alike s t C.carriers a S.carriers;
}

pub shown-alike : (s t : Set) (c : Complex) → AreAlike s t → ShowsSet s c → ShowsSet t c
shown-alike s t c a S = record { shows = shows-alike s t (complex_of c) a S.shows; maps = S.maps; flagged = S.flagged; indexed = S.indexed }

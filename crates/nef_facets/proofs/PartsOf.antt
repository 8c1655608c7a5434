-- The planes and marks of the first corners are those of all corners of a facet.
use Rattle.nef_facets.proofs.Prelude.{◌≡◌, ℕ, ◌<◌, List, length, arith, refl, sym, ◌∙◌, IsAt, Set, Label, form_of, Plane, is-at_within, is-at_some, Complex, Shows, Corner, corner_of, Cycles, IsFacetOf, FacetNumbers, cycle_corners, Cycle, AreCorners, corner_from, IsPlaneAt, IsMarkAt, AreFirsts, IsFacetParts}
use Rattle.nef_facets.specs.declared.parts.FacetParts.{FacetParts}
use Rattle.nef_facets.proofs.Alike.{form-carried, label-carried}
use Rattle.nef_facets.proofs.FirstCorners.{facet-item}

pub facet-parts : (s : Set) (C : Complex) (p : FacetParts) (ks firsts : List Corner) → Shows s C → FacetNumbers C p.facet_of → AreCorners C ks → AreFirsts p.facet_of ks firsts
    → length p.planes ≡ length firsts → length p.marks ≡ length firsts → length p.cycles ≡ length firsts
    → ((n : ℕ) (h : Plane) (k : Corner) → IsAt p.planes n h → IsAt firsts n k → IsPlaneAt C h (corner_of k))
    → ((n : ℕ) (l : Label) (k : Corner) → IsAt p.marks n l → IsAt firsts n k → IsMarkAt C l (corner_of k))
    → ((n : ℕ) (row : List Cycle) → IsAt p.cycles n row → Cycles C (λ k. IsFacetOf p.facet_of k n) (cycle_corners row))
    → IsFacetParts C p
facet-parts s C p ks firsts S N K F many-planes many-marks many-cycles planes marks cycles = record {
  numbers = N;
  as_many_marks = many-marks ∙ sym many-planes;
  as_many_cycles = many-cycles ∙ sym many-planes;
  some = λ n h. let k = is-at_some firsts n (omega arith) in (corner_of k.0, (F.each n k.0 k.1).0);
  all = λ k n a. let i = K.all k (facet-item C p.facet_of N k n a) in let h = F.all i.0 n (corner_from k) i.1 a in omega arith;
  planes = λ n h k v x a b c.
      let j = first n (let l = is-at_within p.planes n h a in omega arith) in
      form-carried s C S (corner_of j.0) k ((N.numbered.by_class (corner_of j.0) k n n j.2 b).0 refl) (form_of h) (planes n h j.0 a j.1) v x c;
  marks = λ n l k v x a b c.
      let j = first n (let h = is-at_within p.marks n l a in omega arith) in
      label-carried s C S (corner_of j.0) k ((N.numbered.by_class (corner_of j.0) k n n j.2 b).0 refl) l (marks n l j.0 a j.1) v x c;
  cycles = cycles;
}
  where
    -- the first corner of a facet
    first : (n : ℕ) → n < length firsts → (k : Corner) × IsAt firsts n k × IsFacetOf p.facet_of (corner_of k) n
    first n h = let k = is-at_some firsts n h in (k.0, k.1, (F.each n k.0 k.1).0)

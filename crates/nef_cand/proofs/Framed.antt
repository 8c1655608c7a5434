-- All that is listed lies in the closed frame, since it stands on a skeleton.
use Rattle.nef_cand.proofs.Prelude.{List, ⊎_elim, Contains, Form, Set, point_of, Point, Shows, Complex, complex_of, vertex-framed, edge-framed, AreCutCandidates, AreFramed, IsCandidate}

pub each-framed : (s t : Set) (a b : Complex) (ps : List Point) → Shows s (complex_of a) → Shows t (complex_of b) → ((p : Point) → Contains ps p → IsCandidate (complex_of a) (complex_of b) (point_of p)) → AreFramed ps
each-framed s t a b ps S T each p h =
    let y = point_of p in
    ⊎_elim (λ (k, v). vertex-framed s (complex_of a) S k y v) (⊎_elim (λ (k, v). vertex-framed t (complex_of b) T k y v) (⊎_elim
    (λ (k, e, v, w, i, g, x, H, m, z, o, n). edge-framed s (complex_of a) S k y (e, v, w, x, H, m)) (λ (k, e, v, w, i, g, x, H, m, z, o, n). edge-framed t (complex_of b) T k y (e, v, w, x, H, m)))) (each p h)

pub cuts-framed : (s : Set) (c : Complex) (h : Form) (ps : List Point) → Shows s (complex_of c) → AreCutCandidates (complex_of c) h ps → AreFramed ps
cuts-framed s c h ps S A p l = ⊎_elim (λ (k, v). vertex-framed s (complex_of c) S k (point_of p) v) (λ (k, e, v, w, x, H, m, o, n). edge-framed s (complex_of c) S k (point_of p) (e, v, w, x, H, m)) (A.each p l)

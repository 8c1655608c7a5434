-- Turned arcs, sorted.
use Rattle.nef_turn.proofs.Prelude.{ℕ, List, map, length, arith, ap, ◌∙◌, subst, length-map, IsPermutation, vector_of, IsAt, MapVertex, Shaped, InOrder, is-at_map, map-is_at, svertex_of, arc_of, map_of, SArc, SphereMap, is-at_within, dir-primitive, IsArcBelow, was-listed, still-listed, turned_svertex, one-arc, AreImages, AllEndBelow, IsSArcImage, Renumbers, AreTurnedArcs, number_in}
use Rattle.nef_spair.specs.Arcs.{AreApart}
use Rattle.law_geometry.proofs.turns.Exists.{IsArcImage as IsPlainImage}
use Rattle.nef_turn.proofs.Images.{images-all}

module _ (k : ℕ) (m : SphereMap) (V : Shaped (map_of m)) (ns : List ℕ) (R : Renumbers k m.svertices ns) where
  pub ends-within : AllEndBelow (length ns) m.arcs
  ends-within i a l =
      let b = V.arcs_between i (arc_of a) (map-is_at arc_of m.arcs i a l) in
      let s = is-at_within (map svertex_of m.svertices) a.source b.source b.has_source in
      let t = is-at_within (map svertex_of m.svertices) a.target b.target b.has_target in
      let c = R.count in
      let e = length-map m.svertices svertex_of in
      (omega (arith, s, c, e), omega (arith, t, c, e))

  has : (i : ℕ) (v : MapVertex) → IsAt (map svertex_of m.svertices) i v → IsAt (map svertex_of R.svertices) (number_in ns i) (turned_svertex k v)
  has i v a =
      let (w, b, e) = is-at_map svertex_of m.svertices i v a in
      let (u, c, q) = R.placed i w b in
      subst (λ (r : MapVertex). IsAt (map svertex_of R.svertices) (number_in ns i) r) (q ∙ ap (turned_svertex k) e) (map-is_at svertex_of R.svertices (number_in ns i) u c)

  plain : (a b : SArc) → IsSArcImage k ns 0 a b → IsPlainImage k (number_in ns) (arc_of a) (arc_of b)
  plain a b (flip, t, n) = (flip, t, n, dir-primitive b.normal)

  module _ (xs : List SArc) (I : AreImages (IsSArcImage k ns) (length m.arcs) m.arcs xs) where
    pub arcs-apart : AreApart xs
    arcs-apart i j x y a b t =
        let (v, c, p) = I.each i x a in
        let (w, d, q) = I.each j y b in
        one-arc k (map_of m) V (map svertex_of R.svertices) (number_in ns) has i j (arc_of v) (arc_of w) (arc_of x) (arc_of y) (map-is_at arc_of m.arcs i v c) (map-is_at arc_of m.arcs j w d)
        (plain v x p) (plain w y q) (ap vector_of t.0, t.1)

    pub arcs-sorted : (ys : List SArc) → IsPermutation xs ys → InOrder IsArcBelow ys → AreTurnedArcs k ns m.arcs ys
    arcs-sorted ys moved o = record {
      each = λ j y a. let (i, b) = was-listed xs ys moved j y a in let (v, c, p) = I.each i y b in (i, v, c, p);
      all = λ i v a. let (x, b, p) = images-all (IsSArcImage k ns) m.arcs xs I i v a in let (j, c) = still-listed xs ys moved i x b in (j, x, c, p);
      ordered = o;
    }

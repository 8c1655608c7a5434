-- A map of the turned svertices, arcs and sloop is the turned map.
use Rattle.nef_turn.proofs.Prelude.{◌≡◌, ℕ, List, map, length, Some, option_map, ap, sym, ◌∙◌, subst, Vector, IsNormal, vector_of, IsPrimitive, VectorBelow, IsAt, MapVertex, Arc, MapSloop, Item, arc_item, sloop_item, items, item_normal, InOrder, ArcBelow, Ordered, arc-at, sloop-at, is-at_map, map-is_at, svertex_of, arc_of, sloop_of, map_of, SLoop, SphereMap, dir-primitive, turned_svertex, IsTurnedArc, IsTurnedOption, HasTurnedLists, Moved, AreImages, AreMoved, AreNewNumbers, IsOfMoved, AreTurnedArcs, number_in}
use Rattle.nef_turn.proofs.MovedSvertices.{placed, number-is}
use Rattle.nef_smap.proofs.MapLists.{sloop-was as sloop-from}
use Rattle.nef_smap.proofs.SortedOnce.{in-order_map}

-- what the steps of turning the map m make
pub record IsMadeByTurning (k : ℕ) (m n : SphereMap) (us : List Moved) (ns : List ℕ) : Type 0 where
  pub moved : AreMoved k m.svertices us
  pub numbers : AreNewNumbers (length us) us ns
  pub svertices : AreImages IsOfMoved (length us) us n.svertices
  pub arcs : AreTurnedArcs k ns m.arcs n.arcs
  pub sloop : IsTurnedOption k (option_map sloop_of m.sloop) (option_map sloop_of n.sloop)
  pub upward : (l : SLoop) → n.sloop ≡ Some l → IsNormal (vector_of l.normal)
  pub mark : n.mark ≡ m.mark
  pub ground : n.ground ≡ m.ground

module _ (k : ℕ) (m n : SphereMap) (us : List Moved) (ns : List ℕ) (I : IsMadeByTurning k m n us ns) where
  abbrev Good : Vector → Type 0
  Good v = IsPrimitive v × IsNormal v

  arc-good : (j : ℕ) (b : Arc) → IsAt (map arc_of n.arcs) j b → Good b.normal
  arc-good j b a =
      let (y, c, e) = is-at_map arc_of n.arcs j b a in
      let (i, x, d, (flip, t, up)) = I.arcs.each j y c in
      subst (λ (r : Arc). Good r.normal) e (dir-primitive y.normal, up)

  sloop-good : (l : MapSloop) → option_map sloop_of n.sloop ≡ Some l → Good l.normal
  sloop-good l e = let (s, f, g) = sloop-from n.sloop l e in subst (λ (r : MapSloop). Good r.normal) g (dir-primitive s.normal, I.upward s f)

  item-good : (j : ℕ) (y : Item) → IsAt (items (map_of n)) j y → Good (item_normal y)
  item-good j (arc_item b) a = arc-good j b (arc-at (map arc_of n.arcs) (option_map sloop_of n.sloop) j b a)
  item-good j (sloop_item l) a = sloop-good l (sloop-at (map arc_of n.arcs) (option_map sloop_of n.sloop) j l a)

  arcs-in_order : InOrder ArcBelow (map arc_of n.arcs)
  arcs-in_order = in-order_map ArcBelow arc_of n.arcs I.arcs.ordered

  ways-in_order : InOrder (λ (u v : MapVertex). VectorBelow u.dir v.dir) (map svertex_of n.svertices)
  ways-in_order i j u v l p q =
      let (x, c, e) = is-at_map svertex_of n.svertices i u p in
      let (y, d, f) = is-at_map svertex_of n.svertices j v q in
      let (s, g, h) = I.svertices.each i x c in
      let (t, r, w) = I.svertices.each j y d in
      subst (λ (z : MapVertex). VectorBelow z.dir v.dir) (ap svertex_of (sym h) ∙ e) (subst (λ (z : MapVertex). VectorBelow (svertex_of s.svertex).dir z.dir) (ap svertex_of (sym w) ∙ f) (I.moved.ordered i j s t l g r))

  pub made-lists : HasTurnedLists k (map_of m) (map_of n)
  made-lists = record {
    vertex = number_in ns;
    svertices = λ i v a.
        let (x, b, e) = is-at_map svertex_of m.svertices i v a in
        let (y, c, q) = placed k m.svertices us ns I.moved I.numbers n.svertices I.svertices i x b in
        subst (λ (r : MapVertex). IsAt (map svertex_of n.svertices) (number_in ns i) r) (q ∙ ap (turned_svertex k) e) (map-is_at svertex_of n.svertices (number_in ns i) y c);
    svertices_from = λ j u a.
        let (y, c, e) = is-at_map svertex_of n.svertices j u a in
        let (w, d, f) = I.svertices.each j y c in
        let (v, b, q) = I.moved.each j w d in
        (w.old, svertex_of v, map-is_at svertex_of m.svertices w.old v b, number-is k m.svertices us ns I.moved I.numbers j w d);
    arcs = λ i a l.
        let (x, b, e) = is-at_map arc_of m.arcs i a l in
        let (j, y, c, (flip, t, up)) = I.arcs.all i x b in
        (j, arc_of y, flip, map-is_at arc_of n.arcs j y c, subst (λ (r : Arc). IsTurnedArc k (number_in ns) flip r (arc_of y)) e t);
    arcs_from = λ j b l.
        let (y, c, e) = is-at_map arc_of n.arcs j b l in
        let (i, x, d, (flip, t, up)) = I.arcs.each j y c in
        (i, arc_of x, flip, map-is_at arc_of m.arcs i x d, subst (λ (r : Arc). IsTurnedArc k (number_in ns) flip (arc_of x) r) e t);
    sloop = I.sloop;
    normals = λ j y a. (item-good j y a).1;
    arcs_ordered = arcs-in_order;
    mark = I.mark;
    same_ground = I.ground;
  }

  pub made-ordered : Ordered (map_of n)
  made-ordered = record {
    dirs_lowest = λ j u a. let (y, c, e) = is-at_map svertex_of n.svertices j u a in subst (λ (r : MapVertex). IsPrimitive r.dir) e (dir-primitive y.dir);
    normals_lowest = λ j y a. (item-good j y a).0;
    svertices = ways-in_order;
    arcs = arcs-in_order;
  }

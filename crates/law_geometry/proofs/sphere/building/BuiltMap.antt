-- What a builder makes of simplified stars is built of their labels, in order.
use Rattle.law_geometry.proofs.sphere.building.Prelude.{◌≡◌, ℕ, pos, ap, sym, List, subst, Some, Vector, IsDirection, dot, SameDirection, IsNormal, Label, IsPrimitive, VectorBelow, IsAt, MapVertex, MapSloop, Map, Item, arc_item, sloop_item, items, item_normal, OnItem, Ordered, IsBuilt, arc-at, sloop-at, RawMap, Of, svertex_at}
use Rattle.law_geometry.proofs.sphere.building.BuiltAxes.{IsMadeOfStars, kept-shows, kept-axis, kept-apart, svertex-star, star-svertex, smooth-off}
use Rattle.law_geometry.proofs.sphere.building.BuiltArcs.{arc-normal, arc-lowest, arc-between, arc-proper, arc-labels, arc-passes_none, arcs-apart, arcs-all}
use Rattle.law_geometry.proofs.sphere.building.BuiltAround.{around-lone, around-not, around-near}
use Rattle.law_geometry.proofs.sphere.building.BuiltSloops.{IsSloopNeeded, sloop-needed, sloop-all}
use Rattle.law_geometry.proofs.sphere.building.BuiltGround.{ground-label, ground-alone, ground-not}

module _ (gs : List Vector) (L : Vector → Label) (R : RawMap) (M : Map) (C : IsMadeOfStars gs L R M) where
  abbrev F : Vector → Label → Type 0
  F = Of L

  -- the svertex's star, its way and its mark
  svertex-direction : (k : ℕ) (v : MapVertex) → IsAt M.svertices k v → IsDirection v.dir
  svertex-direction k v h = let x = svertex-star gs L R M C k v h in subst (λ (u : MapVertex). IsDirection u.dir) x.2 (kept-axis gs L R M C k x.0 x.1)

  svertices-apart : (i k : ℕ) (u v : MapVertex) → IsAt M.svertices i u → IsAt M.svertices k v → SameDirection u.dir v.dir → i ≡ k
  svertices-apart i k u v g h w =
      let x = svertex-star gs L R M C i u g in
      let y = svertex-star gs L R M C k v h in
      kept-apart gs L R M C i k x.0 y.0 x.1 y.1 (subst (λ (r : Vector). SameDirection r y.0.axis) (sym (ap (λ (r : MapVertex). r.dir) x.2)) (subst (SameDirection u.dir) (sym (ap (λ (r : MapVertex). r.dir) y.2)) w))

  svertex-mark : (k : ℕ) (v : MapVertex) → IsAt M.svertices k v → F v.dir v.mark
  svertex-mark k v h = let x = svertex-star gs L R M C k v h in subst (λ (u : MapVertex). F u.dir u.mark) x.2 (let S = kept-shows gs L R M C k x.0 x.1 in S.mark)

  needed : (l : MapSloop) → M.sloop ≡ Some l → IsSloopNeeded F C.built.kept l
  needed l e = sloop-needed gs L R M C l (C.built.sloop_from l e)

  item-is_normal : (k : ℕ) (x : Item) → IsAt (items M) k x → IsNormal (item_normal x)
  item-is_normal k (arc_item a) h = arc-normal gs L R M C k a (arc-at M.arcs M.sloop k a h)
  item-is_normal k (sloop_item l) h = let N = needed l (sloop-at M.arcs M.sloop k l h) in N.normal

  item-lowest : (k : ℕ) (x : Item) → IsAt (items M) k x → IsPrimitive (item_normal x)
  item-lowest k (arc_item a) h = arc-lowest gs L R M C k a (arc-at M.arcs M.sloop k a h)
  item-lowest k (sloop_item l) h = let N = needed l (sloop-at M.arcs M.sloop k l h) in N.lowest

  item-passes_none : (i k : ℕ) (v : MapVertex) (x : Item) → IsAt M.svertices i v → IsAt (items M) k x → OnItem M x v.dir → ⊥
  item-passes_none i k v (arc_item a) g h o = arc-passes_none gs L R M C k a (arc-at M.arcs M.sloop k a h) i v g o
  item-passes_none i k v (sloop_item l) g h o =
      let x = svertex-star gs L R M C i v g in
      let N = needed l (sloop-at M.arcs M.sloop k l h) in
      N.bare i x.0 x.1 (subst (λ (r : Vector). dot l.normal r ≡ pos 0) (sym (ap (λ (r : MapVertex). r.dir) x.2)) o.level)

  pub made-built : IsBuilt M F
  made-built = record {
    svertex_dirs = svertex-direction;
    svertices_apart = svertices-apart;
    svertex_marks = svertex-mark;
    smooth = λ d h off. smooth-off gs L R M C d h (λ k t a w. off k (svertex_at t) (star-svertex gs L R M C k t a) w);
    normals = item-is_normal;
    arcs_between = arc-between gs L R M C;
    no_svertex_on_item = item-passes_none;
    arc_labels = arc-labels gs L R M C;
    arc_proper = arc-proper gs L R M C;
    arcs_apart = arcs-apart gs L R M C;
    arcs_all = arcs-all gs L R M C;
    sloop_labels = λ l e. let N = needed l e in (N.point, N.direction, N.labels);
    sloop_proper = λ l e. let N = needed l e in N.proper;
    sloop_all = sloop-all gs L R M C;
    around_lone = around-lone gs L R M C;
    around_not = around-not gs L R M C;
    around_near = around-near gs L R M C;
    ground_alone = ground-alone gs L R M C;
    ground_not = ground-not gs L R M C;
    ground_label = ground-label gs L R M C;
  }

  pub made-ordered : Ordered M
  made-ordered = record {
    dirs_lowest = λ k v h. let x = svertex-star gs L R M C k v h in subst (λ (u : MapVertex). IsPrimitive u.dir) x.2 (let S = kept-shows gs L R M C k x.0 x.1 in S.star.axis_lowest);
    normals_lowest = item-lowest;
    svertices = λ i k u v l g h.
        let x = svertex-star gs L R M C i u g in
        let y = svertex-star gs L R M C k v h in
        subst (λ (r : Vector). VectorBelow r v.dir) (ap (λ (r : MapVertex). r.dir) x.2) (subst (VectorBelow x.0.axis) (ap (λ (r : MapVertex). r.dir) y.2) (C.built.kept_ordered i k x.0 y.0 l x.1 y.1));
    arcs = C.built.arcs_ordered;
  }

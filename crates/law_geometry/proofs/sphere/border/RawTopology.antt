-- The remarked stars of a map, with its circle and its face, show the labels that directions get.
use Rattle.law_geometry.proofs.sphere.border.Prelude.{◌≡◌, ℕ, ◌≤◌, pos, arith, refl, ap, sym, ◌∙◌, ◌∷◌, subst, Some, None, [], ints, option_map, Sign, sign, sign-plus, sign-minus, by_order, Vector, IsDirection, dot, SameDirection, IsNormal, blend, Label, IsOnCircle, IsPrimitive, VectorBelow, IsAt, MapVertex, MapSloop, Map, Item, sloop_item, items, item_normal, item_pos, item_mark, item_neg, OnItem, IsFree, MapLabel, Valid, forms, Keeps, by_side, InOrder, Ordered, Star, Labelling, PlainAt, StraightAt, IsSmooth, plain, straight, Proper, normal-direction, normal-is, amount, far-keeps, far-level, axes-forms, on-direction, on-level, PlaceOf, svertex_place, item_place, free_place, place_of, label-exists, label-beside, label-around, normals-same, at-sloop, level-same, not-even, directed-by, far_directed-by, planes-parallel, RawMap, Of, IsLabelling, ShowsLabels, IsBare, IsRawOf, OnSvertex, chosen, chosen-is, chosen-labelling, no-item, only-ground, Topology, TopologyLabel, label_from, face_label, sloop_by, IsRemarkedAt, IsTopologyRaw, TopologyLabelling, TopologyOneLabel, TopologyStars, at-other, none-left, SameDirection-turned, dir-self, none-at}
use Rattle.law_geometry.proofs.sphere.Around.{free-around, item-stays, free-beside}
use Rattle.law_geometry.proofs.sphere.building.LoneSloops.{item-sloop, sloop-normal}
use Rattle.law_geometry.proofs.sphere.border.Listed.{option-was, none-was}
use Rattle.law_geometry.proofs.sphere.border.PlaceLabels.{topology-one, free-made, item-made, topology-labels}
use Rattle.law_geometry.proofs.sphere.border.RemarkedStars.{is-by, near-by, remarked-shows}

-- what an item's mark becomes
abbrev pub item_label : Topology → Item → Label
item_label k x = label_from k (item_mark x) (item_pos x ∷ item_neg x ∷ [])

module _ (K : Topology) (M : Map) (V : Valid M) (L : Vector → Label) (top : (d : Vector) → IsDirection d → TopologyLabel K M d (L d)) where
  -- ---- items and faces
  -- on an item the labels are those of its sides and its mark
  pub item-straight : (i : ℕ) (x : Item) → IsAt (items M) i x → (d : Vector) → OnItem M x d → StraightAt (Of L) (item_normal x) (face_label K (item_pos x)) (item_label K x) (face_label K (item_neg x)) d
  item-straight i x a d o = record {
    level = on-level M x d o;
    at_d = is-by K M V L top d h (item_label K x) (item-made M V K d i x a o);
    near = λ e. (amount (forms M) e, λ k s. close e k s ∙ ap side (far-level (forms M) d e k s n (on-level M x d o)));
  }
    where
      n : Vector
      n = item_normal x

      h : IsDirection d
      h = on-direction M x d o

      side : Sign → Label
      side = by_side (face_label K (item_pos x)) (item_label K x) (face_label K (item_neg x))

      close : (e : Vector) (k : ℕ) → amount (forms M) e ≤ k
          → L (blend k d 1 e) ≡ by_side (face_label K (item_pos x)) (item_label K x) (face_label K (item_neg x)) (sign (dot (item_normal x) (blend k d 1 e)))
      close e k s = by_order (dot (item_normal x) (blend k d 1 e)) (pos 0)
          (λ l. beside (item_neg x) (λ z. omega (arith, ints)) (subst (MapLabel M (blend k d 1 e)) (ap (by_side (item_pos x) (item_mark x) (item_neg x)) (sign-minus (dot (item_normal x) (blend k d 1 e)) l)) here)
          ∙ ap sides (sym (sign-minus (dot (item_normal x) (blend k d 1 e)) l)))
          (λ z. is-by K M V L top (blend k d 1 e) (far_directed-by (forms M) (axes-forms M) d e k s (on-direction M x d o)) (item_label K x)
          (item-made M V K (blend k d 1 e) i x a (item-stays M V.shaped d (blend k d 1 e) kept i x a z o)) ∙ ap sides (sym (ap sign z)))
          (λ l. beside (item_pos x) (λ z. omega (arith, ints)) (subst (MapLabel M (blend k d 1 e)) (ap (by_side (item_pos x) (item_mark x) (item_neg x)) (sign-plus (dot (item_normal x) (blend k d 1 e)) l)) here)
          ∙ ap sides (sym (sign-plus (dot (item_normal x) (blend k d 1 e)) l)))
        where
          sides : Sign → Label
          sides = by_side (face_label K (item_pos x)) (item_label K x) (face_label K (item_neg x))

          kept : Keeps (forms M) d (blend k d 1 e)
          kept = far-keeps (forms M) d e k s

          here : MapLabel M (blend k d 1 e) (by_side (item_pos x) (item_mark x) (item_neg x) (sign (dot (item_normal x) (blend k d 1 e))))
          here = label-beside M V.shaped d (blend k d 1 e) kept i x a o

          beside : (l : Label) → (dot (item_normal x) (blend k d 1 e) ≡ pos 0 → ⊥) → MapLabel M (blend k d 1 e) l → L (blend k d 1 e) ≡ face_label K l
          beside l f b = let F = free-beside M V.shaped d (blend k d 1 e) kept i x a o f in is-by K M V L top (blend k d 1 e) F.direction (face_label K l) (free-made M V K (blend k d 1 e) l F b)

  -- a free direction has one label all about
  pub free-plain : (d : Vector) → IsFree M d → (m : Label) → MapLabel M d m → PlainAt (Of L) d (face_label K m)
  free-plain d F m a = record {
    at_d = is-by K M V L top d F.direction (face_label K m) (free-made M V K d m F a);
    near = λ e. near-by K M V L top d e (face_label K m) F.direction (λ i h.
        let kept = far-keeps (forms M) d e i h in
        free-made M V K (blend i d 1 e) m (free-around M V.shaped d (blend i d 1 e) kept F) (label-around M V d (blend i d 1 e) kept F m a));
  }

  module _ (lab : IsLabelling (forms M) L) where
    of-labels : Labelling (forms M) (Of L)
    of-labels = record { exists = λ d h. (L d, refl); one = λ d m n h a b. sym a ∙ b; cells = λ d e m hd he s x. sym (lab d e hd he s) ∙ x }

    -- a plain direction isn't straight
    plain-not_proper : (n y : Vector) (a m b c : Label) → IsDirection n → IsDirection y → StraightAt (Of L) n a m b y → PlainAt (Of L) y c → Proper a m b → ⊥
    plain-not_proper n y a m b c hn hy p q proper =
        not-even (forms M) (Of L) of-labels (directed-by (forms M) (axes-forms M)) (far_directed-by (forms M) (axes-forms M)) n a m b proper hn y hy p c q.at_d q.near

    module _ (O : Ordered M) (R : RawMap) (T : IsTopologyRaw K M R) where
      -- ---- stars
      record Svertices (k : ℕ) (u : Star) : Type 0 where
        svertex : MapVertex
        listed : IsAt M.svertices k svertex
        remarked : IsRemarkedAt K M svertex.dir u
        axis : u.axis ≡ svertex.dir

      svertex-of : (k : ℕ) (u : Star) → IsAt R.stars k u → Svertices k u
      svertex-of k u a =
          let v = at-other R.stars M.svertices k u T.as_many a in
          let r = T.stars k v.0 u v.1 a in
          let m = r.remarked in
          record { svertex = v.0; listed = v.1; remarked = r; axis = m.axis ∙ r.axis }

      star-of : (k : ℕ) (v : MapVertex) → IsAt M.svertices k v → (u : Star) × IsAt R.stars k u × (u.axis ≡ v.dir)
      star-of k v a =
          let u = at-other M.svertices R.stars k v (sym T.as_many) a in
          let r = T.stars k v u.0 a u.1 in
          let m = r.remarked in
          (u.0, u.1, m.axis ∙ r.axis)

      shows : (k : ℕ) (u : Star) → IsAt R.stars k u → ShowsLabels u L
      shows k u a = let s = svertex-of k u a in let r = s.remarked in remarked-shows K M V L top r.star u r.well_formed r.shows r.remarked

      in-order : InOrder (λ (t u : Star). VectorBelow t.axis u.axis) R.stars
      in-order i k t u l a b =
          let x = svertex-of i t a in
          let y = svertex-of k u b in
          subst (λ (v : Vector). VectorBelow v u.axis) (sym x.axis) (subst (VectorBelow x.svertex.dir) (sym y.axis) (O.svertices i k x.svertex y.svertex l x.listed y.listed))

      smooth : (d : Vector) → IsDirection d → ((k : ℕ) (t : Star) → IsAt R.stars k t → SameDirection t.axis d → ⊥) → IsSmooth (Of L) d
      smooth d h none = by (place_of M d h)
        where
          by : PlaceOf M d → IsSmooth (Of L) d
          by (svertex_place k v a w) = let s = star-of k v a in absurd (none k s.0 s.1 (subst (λ (x : Vector). SameDirection x d) (sym s.2) w))
          by (item_place i x a o) = straight (item_normal x) (face_label K (item_pos x)) (item_label K x) (face_label K (item_neg x)) (normal-is V.shaped i x a) (item-straight i x a d o)
          by (free_place F) = let a = label-exists M V d h in plain (face_label K a.0) (free-plain d F a.0 a.1)

      -- ---- the circle
      sloop-was : (l : MapSloop) → R.sloop ≡ Some l → (c : MapSloop) × (M.sloop ≡ Some c) × (sloop_by K c ≡ l)
      sloop-was l e = option-was (sloop_by K) M.sloop l (sym T.sloop ∙ e)

      raw-sloop_normal : (l : MapSloop) → R.sloop ≡ Some l → IsNormal l.normal
      raw-sloop_normal l e = let c = sloop-was l e in subst (λ (z : MapSloop). IsNormal z.normal) c.2 (sloop-normal M V.shaped c.0 c.1)

      raw-sloop_lowest : (l : MapSloop) → R.sloop ≡ Some l → IsPrimitive l.normal
      raw-sloop_lowest l e = let c = sloop-was l e in let i = at-sloop M.arcs M.sloop c.0 c.1 in subst (λ (z : MapSloop). IsPrimitive z.normal) c.2 (O.normals_lowest i.0 (sloop_item c.0) i.1)

      raw-sloop_bare : (l : MapSloop) → R.sloop ≡ Some l → IsBare R.stars l.normal
      raw-sloop_bare l e = let c = sloop-was l e in let i = at-sloop M.arcs M.sloop c.0 c.1 in
          subst (λ (z : MapSloop). IsBare R.stars z.normal) c.2 (λ k t a z.
          let s = svertex-of k t a in
          V.shaped.no_svertex_on_item k i.0 s.svertex (sloop_item c.0) s.listed i.1 (record { direction = V.shaped.svertex_dirs k s.svertex s.listed; level = subst (λ (v : Vector). dot c.0.normal v ≡ pos 0) s.axis z }))

      raw-sloop_labels : (l : MapSloop) (y : Vector) → R.sloop ≡ Some l → IsOnCircle l.normal y → StraightAt (Of L) l.normal l.pos l.mark l.neg y
      raw-sloop_labels l y e = let c = sloop-was l e in let i = at-sloop M.arcs M.sloop c.0 c.1 in
          subst (λ (z : MapSloop). IsOnCircle z.normal y → StraightAt (Of L) z.normal z.pos z.mark z.neg y) c.2 (λ o. item-straight i.0 (sloop_item c.0) i.1 y o)

      -- no svertex lies on a bare circle
      bare-off : (n : Vector) → IsDirection n → IsBare R.stars n → (d : Vector) → IsOnCircle n d → OnSvertex M d → ⊥
      bare-off n h bare d o (k, v, a, w) =
          let s = star-of k v a in
          bare k s.0 s.1 (subst (λ (x : Vector). dot n x ≡ pos 0) (sym s.2) (level-same n n d v.dir (dir-self n h) (SameDirection-turned v.dir d w) o.level))

      raw-sloop_all : (n y : Vector) (a m b : Label) → IsNormal n → IsBare R.stars n → IsOnCircle n y → Proper a m b → StraightAt (Of L) n a m b y → (l : MapSloop) × (R.sloop ≡ Some l) × SameDirection n l.normal
      raw-sloop_all n y a m b hn bare o proper p = by (place_of M y o.direction)
        where
          h : IsDirection n
          h = normal-direction n hn

          by : PlaceOf M y → (l : MapSloop) × (R.sloop ≡ Some l) × SameDirection n l.normal
          by (svertex_place k v q w) = absurd (bare-off n h bare y o (k, v, q, w))
          by (free_place F) = let q = label-exists M V y o.direction in absurd (plain-not_proper n y a m b (face_label K q.0) h o.direction p (free-plain y F q.0 q.1) proper)
          by (item_place i x q c) =
              let z = planes-parallel (forms M) (Of L) of-labels (axes-forms M) n a m b proper h (item_normal x) (face_label K (item_pos x)) (item_label K x) (face_label K (item_neg x)) y o.direction p (item-straight i x q y c) in
              let r = item-sloop M V.shaped n (bare-off n h bare) i x q (normals-same n (item_normal x) hn (V.shaped.normals i x q) z) in
              (sloop_by K r.0, T.sloop ∙ ap (option_map (sloop_by K)) r.1, r.2)

      -- ---- the face
      raw-ground_alone : R.stars ≡ [] → R.sloop ≡ None → (m : Label) × (R.ground ≡ Some m)
      raw-ground_alone z e =
          let r = V.shaped.ground_alone (none-left R.stars M.svertices T.as_many z) (none-was (sloop_by K) M.sloop (sym T.sloop ∙ e)) in
          (face_label K r.0, T.ground ∙ ap (option_map (face_label K)) r.1)

      ground-was : (m : Label) → R.ground ≡ Some m → (c : Label) × (M.ground ≡ Some c) × (face_label K c ≡ m)
      ground-was m e = option-was (face_label K) M.ground m (sym T.ground ∙ e)

      raw-ground_not : (m : Label) → R.ground ≡ Some m → (R.stars ≡ []) × (R.sloop ≡ None)
      raw-ground_not m e = let c = ground-was m e in let g = V.shaped.ground_not c.0 c.1 in (none-left M.svertices R.stars (sym T.as_many) g.0, T.sloop ∙ ap (option_map (sloop_by K)) g.1)

      raw-ground_label : (m : Label) (d : Vector) → R.ground ≡ Some m → IsDirection d → L d ≡ m
      raw-ground_label m d e h =
          let c = ground-was m e in
          let g = V.shaped.ground_not c.0 c.1 in
          let a = label-exists M V d h in
          let b = subst (MapLabel M d) (only-ground M V.shaped g.0 g.1 c.0 c.1 d a.0 a.1) a.1 in
          is-by K M V L top d h (face_label K c.0) (free-made M V K d c.0 (free g.0 g.1) b) ∙ c.2
        where
          free : M.svertices ≡ [] → M.sloop ≡ None → IsFree M d
          free z q = record { direction = h; off_svertices = λ k v a w. none-at M.svertices k v z a; off_items = λ i x a o. no-item M V.shaped z q i x a }

      pub raw-topology : IsRawOf R L
      raw-topology = record {
        stars = shows;
        ordered = in-order;
        smooth = smooth;
        sloop_normal = raw-sloop_normal;
        sloop_lowest = raw-sloop_lowest;
        sloop_bare = raw-sloop_bare;
        sloop_labels = raw-sloop_labels;
        sloop_all = raw-sloop_all;
        ground_alone = raw-ground_alone;
        ground_not = raw-ground_not;
        ground_label = raw-ground_label;
      }

pub topology-labelling : TopologyLabelling
topology-labelling K M V =
    let N = topology-labels M V K in
    let F = TopologyLabel K M in
    (chosen (forms M) F N, chosen-labelling (forms M) F N, chosen-is (forms M) F N)

pub topology-one_label : TopologyOneLabel
topology-one_label K M d l m V a b = topology-one M V K d l m a b

pub topology-stars : TopologyStars
topology-stars K M R V O T =
    let t = topology-labelling K M V in
    (t.0, t.1, raw-topology K M V t.0 t.2 t.1 O R T, t.2)

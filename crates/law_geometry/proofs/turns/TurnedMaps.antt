-- The turned image of a valid map is valid, of a least one least, and shows the turned set at the turned point.
use Rattle.law_geometry.proofs.turns.Prelude.{◌≡◌, ℕ, pos, Bool, true, false, cond, refl, ap, sym, ◌∙◌, subst, ◌↔◌, ◌⊎◌, inl, inr, ⊎_elim, List, [], ◌∷◌, Option, Some, None, Vector, dot, IsDirection, SameDirection, blend, SpacePoint, Set, HasLabel, Germ, Label, IsOnCircle, IsStrictlyOn, IsAt, MapVertex, Arc, MapSloop, Item, arc_item, sloop_item, Map, items, item_normal, item_pos, item_mark, item_neg, dir_of, OnItem, HasSide, Side, MapLabel, NearLabel, HasArc, ArcBetween, Shaped, Valid, Least, Cone, NearPlain, NearStraight, is-at_one, dir-at, arc-at, ends-of, sloop-at, at-sloop, at-arc, normal-is, turned_vector, unturned_vector, turned_point, turned_set, differ, is_odd, signed, turned_svertex, IsTurnedArc, IsTurnedSloop, IsTurnedItem, IsTurnedMap, dir-self, is-at_none}
use Rattle.law_geometry.proofs.turns.Turning.{dir-there as way-sense, circle-there, level-there, direction-there, same_direction-there}
use Rattle.law_geometry.proofs.turns.Vectors.{turning, turning-back, blend-turned, vector-back, back-vector, every-vector, signed-turned, signed-twice}
use Rattle.law_geometry.proofs.turns.Meaning.{label-turned, germ-turned}
use Rattle.law_geometry.proofs.turns.Images.{ItemImage, Image, has-there, label-there, face-there, side_there, plain-there, straight-there}

module _ (k : ℕ) (M N : Map) (V : Shaped M) (R : IsTurnedMap k M N) where
  abbrev f : Vector → Vector
  f = turned_vector k

  abbrev g : Vector → Vector
  g = unturned_vector k

  abbrev odd : Bool
  odd = is_odd k

  -- ---- svertices
  dir-there : (i : ℕ) (v : MapVertex) → IsAt M.svertices i v → dir_of N.svertices (R.vertex i) ≡ f (dir_of M.svertices i)
  dir-there i v a = dir-at N.svertices (R.vertex i) (turned_svertex k v) (R.svertices i v a) ∙ ap f (sym (dir-at M.svertices i v a))

  pub svertex-from : (j : ℕ) (u : MapVertex) → IsAt N.svertices j u → (v : MapVertex) × IsAt M.svertices (R.vertex_back j) v × (u ≡ turned_svertex k v) × (R.vertex (R.vertex_back j) ≡ j)
  svertex-from j u a =
      let (v, b, e) = R.svertices_from j u a in
      (v, b, is-at_one N.svertices j u (turned_svertex k v) a (subst (λ (i : ℕ). IsAt N.svertices i (turned_svertex k v)) e (R.svertices (R.vertex_back j) v b)), e)

  -- ---- items
  pub item-from : (j : ℕ) (y : Item) → IsAt (items N) j y → (x : Item) × IsAt (items M) (R.item_back j) x × IsTurnedItem k R.vertex (R.flip (R.item_back j)) x y × (R.item (R.item_back j) ≡ j)
  item-from j y a =
      let (x, b, e) = R.items_from j y a in
      let (z, c, t) = R.items_there (R.item_back j) x b in
      let same = is-at_one (items N) j z y (subst (λ (i : ℕ). IsAt (items N) i z) e c) a in
      (x, b, subst (λ (r : Item). IsTurnedItem k R.vertex (R.flip (R.item_back j)) x r) same t, e)

  -- the ends that an arc has after the turn, by numbers and by ways
  ends-there : (w : Bool) (i j : ℕ) (u v : MapVertex) → IsAt M.svertices i u → IsAt M.svertices j v → dir_of N.svertices (R.vertex (cond w j i)) ≡ cond w (f (dir_of M.svertices j)) (f (dir_of M.svertices i))
  ends-there true i j u v a b = dir-there j v b
  ends-there false i j u v a b = dir-there i u a

  arc-on : (i : ℕ) (flip : Bool) (a b : Arc) → IsAt (items M) i (arc_item a) → IsTurnedArc k R.vertex flip a b → (d : Vector) → OnItem N (arc_item b) (f d) ↔ OnItem M (arc_item a) d
  arc-on i flip a b l t d =
      let e = ends-of M V i a (arc-at M.arcs M.sloop i a l) in
      let s = dir_of M.svertices a.source in
      let u = dir_of M.svertices a.target in
      let w = differ odd flip in
      let base = way-sense f odd (turning k) flip a.normal s u d (normal-is V i (arc_item a) l)
      (record { direction = e.source_direction; level = e.source_level }) (record { direction = e.target_direction; level = e.target_level }) in
      let source = ap (dir_of N.svertices) t.source ∙ ends-there w a.source a.target e.source e.target e.has_source e.has_target in
      let target = ap (dir_of N.svertices) t.target ∙ ends-there w a.target a.source e.target e.source e.has_target e.has_source in
      let normal = t.normal in (
        λ h. base.0 (along (λ n x y. IsStrictlyOn n x y (f d)) normal source target h),
        λ h. along (λ n x y. IsStrictlyOn n x y (f d)) (sym normal) (sym source) (sym target) (base.1 h),
      )
    where
      along : (P : Vector → Vector → Vector → Type 0) {a b c x y z : Vector} → a ≡ x → b ≡ y → c ≡ z → P a b c → P x y z
      along P {a} {b} {c} {x} {y} {z} p q r h = subst (λ (i : Vector). P x y i) r (subst (λ (i : Vector). P x i c) q (subst (λ (i : Vector). P i b c) p h))

  sloop-on : (flip : Bool) (l m : MapSloop) → IsTurnedSloop k flip l m → (d : Vector) → OnItem N (sloop_item m) (f d) ↔ OnItem M (sloop_item l) d
  sloop-on flip l m t d =
      let base = circle-there f odd (turning k) flip l.normal d in (
        λ h. base.0 (subst (λ (n : Vector). IsOnCircle n (f d)) t.normal h),
        λ h. subst (λ (n : Vector). IsOnCircle n (f d)) (sym t.normal) (base.1 h),
      )

  pub item-on : (i : ℕ) (flip : Bool) (x y : Item) → IsAt (items M) i x → IsTurnedItem k R.vertex flip x y → (d : Vector) → OnItem N y (f d) ↔ OnItem M x d
  item-on i flip (arc_item a) (arc_item b) l t d = arc-on i flip a b l t d
  item-on i flip (arc_item a) (sloop_item m) l t d = absurd t
  item-on i flip (sloop_item c) (arc_item b) l t d = absurd t
  item-on i flip (sloop_item c) (sloop_item m) l t d = sloop-on flip c m t d

  pub item-normal : (flip : Bool) (x y : Item) → IsTurnedItem k R.vertex flip x y → item_normal y ≡ signed flip (f (item_normal x))
  item-normal flip (arc_item a) (arc_item b) t = t.normal
  item-normal flip (arc_item a) (sloop_item m) t = absurd t
  item-normal flip (sloop_item c) (arc_item b) t = absurd t
  item-normal flip (sloop_item c) (sloop_item m) t = t.normal

  item-pos : (flip : Bool) (x y : Item) → IsTurnedItem k R.vertex flip x y → item_pos y ≡ cond flip (item_neg x) (item_pos x)
  item-pos flip (arc_item a) (arc_item b) t = t.pos
  item-pos flip (arc_item a) (sloop_item m) t = absurd t
  item-pos flip (sloop_item c) (arc_item b) t = absurd t
  item-pos flip (sloop_item c) (sloop_item m) t = t.pos

  item-mark : (flip : Bool) (x y : Item) → IsTurnedItem k R.vertex flip x y → item_mark y ≡ item_mark x
  item-mark flip (arc_item a) (arc_item b) t = t.mark
  item-mark flip (arc_item a) (sloop_item m) t = absurd t
  item-mark flip (sloop_item c) (arc_item b) t = absurd t
  item-mark flip (sloop_item c) (sloop_item m) t = t.mark

  item-neg : (flip : Bool) (x y : Item) → IsTurnedItem k R.vertex flip x y → item_neg y ≡ cond flip (item_pos x) (item_neg x)
  item-neg flip (arc_item a) (arc_item b) t = t.neg
  item-neg flip (arc_item a) (sloop_item m) t = absurd t
  item-neg flip (sloop_item c) (arc_item b) t = absurd t
  item-neg flip (sloop_item c) (sloop_item m) t = t.neg

  pub image : Image f M N
  image = record {
    vertex = R.vertex;
    item = R.item;
    flip = R.flip;
    svertices = λ i v a. (turned_svertex k v, R.svertices i v a, refl, refl, refl);
    items_there = λ i x a.
        let (y, b, t) = R.items_there i x a in (
          y,
          b,
          record {
            on = λ d. (item-on i (R.flip i) x y a t d).1;
            normal = item-normal (R.flip i) x y t;
            pos = item-pos (R.flip i) x y t;
            mark = item-mark (R.flip i) x y t;
            neg = item-neg (R.flip i) x y t;
          },
        );
    same_ground = R.same_ground;
  }

  -- labels beside an item exchanged twice
  first-exchanged : (b : Bool) (l m p q : Label) → p ≡ cond b m l → q ≡ cond b l m → l ≡ cond b q p
  first-exchanged true l m p q e h = sym h
  first-exchanged false l m p q e h = sym e

  second-exchanged : (b : Bool) (l m p q : Label) → p ≡ cond b m l → q ≡ cond b l m → m ≡ cond b p q
  second-exchanged true l m p q e h = sym e
  second-exchanged false l m p q e h = sym h

  pub image_back : Image g N M
  image_back = record {
    vertex = R.vertex_back;
    item = R.item_back;
    flip = λ j. R.flip (R.item_back j);
    svertices = λ j u a.
        let (v, b, e, i) = svertex-from j u a in
        (v, b, sym (ap (λ (r : MapVertex). g r.dir) e ∙ back-vector k v.dir), sym (ap (λ (r : MapVertex). r.mark) e), sym (ap (λ (r : MapVertex). r.around) e));
    items_there = λ j y a.
        let (x, b, t, i) = item-from j y a in
        let flip = R.flip (R.item_back j) in (
          x,
          b,
          record {
            on = λ d on. (item-on (R.item_back j) flip x y b t (g d)).0 (subst (λ (r : Vector). OnItem N y r) (sym (vector-back k d)) on);
            normal = sym (ap (λ (r : Vector). signed flip (g r)) (item-normal flip x y t) ∙ ap (λ (r : Vector). signed flip (g r)) (signed-turned k flip (item_normal x)) ∙ ap (signed flip) (back-vector k (signed flip (item_normal x))) ∙ signed-twice k flip (item_normal x));
            pos = first-exchanged flip _ _ _ _ (item-pos flip x y t) (item-neg flip x y t);
            mark = sym (item-mark flip x y t);
            neg = second-exchanged flip _ _ _ _ (item-pos flip x y t) (item-neg flip x y t);
          },
        );
    same_ground = sym R.same_ground;
  }

  -- ---- the turned map is valid
  has_arc-there : (i : ℕ) → HasArc M i → HasArc N (R.vertex i)
  has_arc-there i (n, a, l, e) =
      let b = at-arc M.arcs M.sloop n a l in
      let (y, c, t) = R.items_there n (arc_item a) b in
      by (R.flip n) y c t
    where
      by : (flip : Bool) (y : Item) → IsAt (items N) (R.item n) y → IsTurnedItem k R.vertex flip (arc_item a) y → HasArc N (R.vertex i)
      by flip (arc_item b) c t = (R.item n, b, arc-at N.arcs N.sloop (R.item n) b c, ends (differ odd flip) t.source t.target)
        where
          ends : (w : Bool) → b.source ≡ R.vertex (cond w a.target a.source) → b.target ≡ R.vertex (cond w a.source a.target) → (b.source ≡ R.vertex i) ⊎ (b.target ≡ R.vertex i)
          ends true p q = ⊎_elim (λ r. inr (q ∙ ap R.vertex r)) (λ r. inl (p ∙ ap R.vertex r)) e
          ends false p q = ⊎_elim (λ r. inl (p ∙ ap R.vertex r)) (λ r. inr (q ∙ ap R.vertex r)) e
      by flip (sloop_item m) c t = absurd t

  has_arc-from : (j : ℕ) (u : MapVertex) → IsAt N.svertices j u → HasArc N j → HasArc M (R.vertex_back j)
  has_arc-from j u at (n, b, l, e) =
      let c = at-arc N.arcs N.sloop n b l in
      let (x, d, t, same) = item-from n (arc_item b) c in
      by (R.flip (R.item_back n)) x d t
    where
      -- the svertex that becomes number j
      from : (i : ℕ) (v : MapVertex) → IsAt M.svertices i v → R.vertex i ≡ j → i ≡ R.vertex_back j
      from i v a r =
          let (w, m, s, q) = svertex-from j u at in
          let h = sym (is-at_one N.svertices j u (turned_svertex k v) at (subst (λ (n : ℕ). IsAt N.svertices n (turned_svertex k v)) r (R.svertices i v a))) ∙ s in
          let same = sym (back-vector k v.dir) ∙ ap (λ (r : MapVertex). g r.dir) h ∙ back-vector k w.dir in
          V.svertices_apart i (R.vertex_back j) v w a m (subst (λ (r : Vector). SameDirection v.dir r) same (dir-self v.dir (V.svertex_dirs i v a)))

      by : (flip : Bool) (x : Item) → IsAt (items M) (R.item_back n) x → IsTurnedItem k R.vertex flip x (arc_item b) → HasArc M (R.vertex_back j)
      by flip (arc_item a) d t =
          let q = arc-at M.arcs M.sloop (R.item_back n) a d in
          let ends = ends-of M V (R.item_back n) a q in
          (R.item_back n, a, q, at_ends (differ odd flip) t.source t.target (from a.source ends.source ends.has_source) (from a.target ends.target ends.has_target))
        where
          at_ends : (w : Bool) → b.source ≡ R.vertex (cond w a.target a.source) → b.target ≡ R.vertex (cond w a.source a.target)
              → (R.vertex a.source ≡ j → a.source ≡ R.vertex_back j) → (R.vertex a.target ≡ j → a.target ≡ R.vertex_back j) → (a.source ≡ R.vertex_back j) ⊎ (a.target ≡ R.vertex_back j)
          at_ends true p q f h = ⊎_elim (λ r. inr (h (sym p ∙ r))) (λ r. inl (f (sym q ∙ r))) e
          at_ends false p q f h = ⊎_elim (λ r. inl (f (sym p ∙ r))) (λ r. inr (h (sym q ∙ r))) e
      by flip (sloop_item m) d t = absurd t

  arc_between-from : (j : ℕ) (b : Arc) → IsAt N.arcs j b → ArcBetween N b
  arc_between-from j b l =
      let (x, d, t, same) = item-from j (arc_item b) (at-arc N.arcs N.sloop j b l) in
      by (R.flip (R.item_back j)) x d t
    where
      by : (flip : Bool) (x : Item) → IsAt (items M) (R.item_back j) x → IsTurnedItem k R.vertex flip x (arc_item b) → ArcBetween N b
      by flip (arc_item a) d t =
          let e = V.arcs_between (R.item_back j) a (arc-at M.arcs M.sloop (R.item_back j) a d) in
          ends (differ odd flip) t.source t.target e
        where
          level : (v : MapVertex) → dot a.normal v.dir ≡ pos 0 → dot b.normal (f v.dir) ≡ pos 0
          level v z = ap (λ (r : Vector). dot r (f v.dir)) t.normal ∙ (level-there f odd (turning k) flip a.normal v.dir).1 z

          listed : (i m : ℕ) (v : MapVertex) → m ≡ R.vertex i → IsAt M.svertices i v → IsAt N.svertices m (turned_svertex k v)
          listed i m v p h = subst (λ (n : ℕ). IsAt N.svertices n (turned_svertex k v)) (sym p) (R.svertices i v h)

          ends : (w : Bool) → b.source ≡ R.vertex (cond w a.target a.source) → b.target ≡ R.vertex (cond w a.source a.target) → ArcBetween M a → ArcBetween N b
          ends true p q e = record {
            source = turned_svertex k e.target;
            target = turned_svertex k e.source;
            has_source = listed a.target b.source e.target p e.has_target;
            has_target = listed a.source b.target e.source q e.has_source;
            level_source = level e.target e.level_target;
            level_target = level e.source e.level_source;
          }
          ends false p q e = record {
            source = turned_svertex k e.source;
            target = turned_svertex k e.target;
            has_source = listed a.source b.source e.source p e.has_source;
            has_target = listed a.target b.target e.target q e.has_target;
            level_source = level e.source e.level_source;
            level_target = level e.target e.level_target;
          }
      by flip (sloop_item m) d t = absurd t

  -- ---- without items
  no_svertices : N.svertices ≡ [] → M.svertices ≡ []
  no_svertices e = by M.svertices refl
    where
      by : (vs : List MapVertex) → M.svertices ≡ vs → M.svertices ≡ []
      by [] h = h
      by (v ∷ vs) h = absurd (is-at_none (subst (λ (us : List MapVertex). IsAt us (R.vertex 0) (turned_svertex k v)) e (R.svertices 0 v (subst (λ (us : List MapVertex). IsAt us 0 v) (sym h) refl))))

  no_svertices_there : M.svertices ≡ [] → N.svertices ≡ []
  no_svertices_there e = by N.svertices refl
    where
      by : (vs : List MapVertex) → N.svertices ≡ vs → N.svertices ≡ []
      by [] h = h
      by (v ∷ vs) h = let (u, b, r) = R.svertices_from 0 v (subst (λ (us : List MapVertex). IsAt us 0 v) (sym h) refl) in absurd (is-at_none (subst (λ (us : List MapVertex). IsAt us (R.vertex_back 0) u) e b))

  no_sloop : N.sloop ≡ None → M.sloop ≡ None
  no_sloop e = by M.sloop refl
    where
      sloop_of : (flip : Bool) (l : MapSloop) (n : ℕ) (y : Item) → IsAt (items N) n y → IsTurnedItem k R.vertex flip (sloop_item l) y → ⊥
      sloop_of flip l n (arc_item b) c t = t
      sloop_of flip l n (sloop_item m) c t = let h = sym e ∙ sloop-at N.arcs N.sloop n m c in cc

      by : (o : Option MapSloop) → M.sloop ≡ o → M.sloop ≡ None
      by None h = h
      by (Some l) h =
          let (n, a) = at-sloop M.arcs M.sloop l h in
          let (y, c, t) = R.items_there n (sloop_item l) a in
          absurd (sloop_of (R.flip n) l (R.item n) y c t)

  no_sloop_there : M.sloop ≡ None → N.sloop ≡ None
  no_sloop_there e = by N.sloop refl
    where
      sloop_of : (flip : Bool) (m : MapSloop) (n : ℕ) (x : Item) → IsAt (items M) n x → IsTurnedItem k R.vertex flip x (sloop_item m) → ⊥
      sloop_of flip m n (arc_item b) c t = t
      sloop_of flip m n (sloop_item l) c t = let h = sym e ∙ sloop-at M.arcs M.sloop n l c in cc

      by : (o : Option MapSloop) → N.sloop ≡ o → N.sloop ≡ None
      by None h = h
      by (Some m) h =
          let (n, a) = at-sloop N.arcs N.sloop m h in
          let (x, c, t, same) = item-from n (sloop_item m) a in
          absurd (sloop_of (R.flip (R.item_back n)) m (R.item_back n) x c t)

  pub shaped-turned : Shaped N
  shaped-turned = record {
    svertex_dirs = λ j u a.
        let (v, b, e, i) = svertex-from j u a in
        subst (λ (r : MapVertex). IsDirection r.dir) (sym e) ((direction-there f odd (turning k) v.dir).1 (V.svertex_dirs (R.vertex_back j) v b));
    svertices_apart = λ i j u v a b s.
        let (u', a', e, p) = svertex-from i u a in
        let (v', b', h, q) = svertex-from j v b in
        let s' = subst (λ (r : MapVertex). SameDirection (turned_svertex k u').dir r.dir) h (subst (λ (r : MapVertex). SameDirection r.dir v.dir) e s) in
        sym p ∙ ap R.vertex (V.svertices_apart (R.vertex_back i) (R.vertex_back j) u' v' a' b' ((same_direction-there f odd (turning k) u'.dir v'.dir).0 s')) ∙ q;
    normals = R.normals;
    arcs_between = arc_between-from;
    no_svertex_on_item = λ i j u y a b on.
        let (v, a', e, p) = svertex-from i u a in
        let (x, b', t, q) = item-from j y b in
        V.no_svertex_on_item (R.vertex_back i) (R.item_back j) v x a' b' ((item-on (R.item_back j) (R.flip (R.item_back j)) x y b' t v.dir).0 (subst (λ (r : MapVertex). OnItem N y r.dir) e on));
    no_items_meet = λ i j x y d a b on on'.
        let (x', a', t, p) = item-from i x a in
        let (y', b', t', q) = item-from j y b in
        let back = λ (z : Item) (o : OnItem N z d). subst (λ (r : Vector). OnItem N z r) (sym (vector-back k d)) o in
        sym p ∙ ap R.item (V.no_items_meet (R.item_back i) (R.item_back j) x' y' (g d) a' b'
        ((item-on (R.item_back i) (R.flip (R.item_back i)) x' x a' t (g d)).0 (back x on))
        ((item-on (R.item_back j) (R.flip (R.item_back j)) y' y b' t' (g d)).0 (back y on'))) ∙ q;
    around_lone = λ j u a none.
        let (v, b, e, i) = svertex-from j u a in
        let (m, h) = V.around_lone (R.vertex_back j) v b (λ has. none (subst (HasArc N) i (has_arc-there (R.vertex_back j) has))) in
        (m, ap (λ (r : MapVertex). r.around) e ∙ h);
    around_not = λ j u a has.
        let (v, b, e, i) = svertex-from j u a in
        ap (λ (r : MapVertex). r.around) e ∙ V.around_not (R.vertex_back j) v b (has_arc-from j u a has);
    ground_alone = λ e h. let (m, i) = V.ground_alone (no_svertices e) (no_sloop h) in (m, R.same_ground ∙ i);
    ground_not = λ m e. let (p, q) = V.ground_not m (sym R.same_ground ∙ e) in (no_svertices_there p, no_sloop_there q);
  }

-- ---- valid, least, and with the labels of the turned set
module _ (k : ℕ) (M N : Map) (R : IsTurnedMap k M N) where
  abbrev f' : Vector → Vector
  f' = turned_vector k

  abbrev g' : Vector → Vector
  g' = unturned_vector k

  pub map_label-turned : Shaped M → (d : Vector) (m : Label) → MapLabel M d m → MapLabel N (f' d) m
  map_label-turned V = label-there f' g' (is_odd k) (turning k) (vector-back k) (back-vector k) M N (image k M N V R) (image_back k M N V R)

  map_label-back : Shaped M → (d : Vector) (m : Label) → MapLabel N (f' d) m → MapLabel M d m
  map_label-back V d m h = subst (λ (r : Vector). MapLabel M r m) (back-vector k d)
      (label-there g' f' (is_odd k) (turning-back k) (back-vector k) (vector-back k) N M (image_back k M N V R) (image k M N V R) (f' d) m h)

  pub map_labels-turned : Shaped M → (d : Vector) (m : Label) → MapLabel N (f' d) m ↔ MapLabel M d m
  map_labels-turned V d m = (map_label-back V d m, map_label-turned V d m)

  pub near_labels-turned : Shaped M → (d e : Vector) (m : Label) → NearLabel N (f' d) (f' e) m ↔ NearLabel M d e m
  near_labels-turned V d e m = (
    λ (n, h). (n, λ i l. map_label-back V (blend i d 1 e) m (subst (λ (r : Vector). MapLabel N r m) (blend-turned k i d 1 e) (h i l))),
    λ (n, h). (n, λ i l. subst (λ (r : Vector). MapLabel N r m) (sym (blend-turned k i d 1 e)) (map_label-turned V (blend i d 1 e) m (h i l))),
  )

  pub valid-turned : Valid M → Valid N
  valid-turned W = record {
    shaped = shaped-turned k M N W.shaped R;
    one_label = λ o p l m h i c.
        W.one_label (side o) (side p) l m (has o l h) (has p m i) (face-there g' f' (is_odd k) (turning-back k) (back-vector k) (vector-back k) N M there back o p c);
  }
    where
      there : Image g' N M
      there = image_back k M N W.shaped R

      back : Image f' M N
      back = image k M N W.shaped R

      side : Side → Side
      side = side_there g' f' (is_odd k) (turning-back k) (back-vector k) (vector-back k) N M there back

      has : (o : Side) (m : Label) → HasSide N o m → HasSide M (side_there g' f' (is_odd k) (turning-back k) (back-vector k) (vector-back k) N M there back o) m
      has = has-there g' f' (is_odd k) (turning-back k) (back-vector k) (vector-back k) N M there back

  pub least-turned : Shaped M → Least M → Least N
  least-turned V L = record {
    no_plain = λ j u a h.
        let (v, b, e, i) = svertex-from k M N V R j u a in
        L.no_plain (R.vertex_back j) v b (subst (λ (r : Vector). NearPlain M r) (ap (λ (r : MapVertex). g' r.dir) e ∙ back-vector k v.dir)
        (plain-there g' f' (is_odd k) (turning-back k) (back-vector k) (vector-back k) N M (image_back k M N V R) (image k M N V R) u.dir h));
    no_straight = λ j u a h.
        let (v, b, e, i) = svertex-from k M N V R j u a in
        L.no_straight (R.vertex_back j) v b (subst (λ (r : Vector). NearStraight M r) (ap (λ (r : MapVertex). g' r.dir) e ∙ back-vector k v.dir)
        (straight-there g' f' (is_odd k) (turning-back k) (back-vector k) (vector-back k) N M (image_back k M N V R) (image k M N V R) u.dir h));
    items_differ = λ j y a p q.
        let i = (image_back k M N V R).items_there j y a in
        differs ((image_back k M N V R).flip j) i.0 y i.2 p q (L.items_differ ((image_back k M N V R).item j) i.0 i.1);
  }
    where
      differs : (flip : Bool) (x y : Item) → ItemImage g' flip N M y x → item_pos y ≡ item_mark y → item_neg y ≡ item_mark y → (item_pos x ≡ item_mark x → item_neg x ≡ item_mark x → ⊥) → ⊥
      differs true x y i p q h = h (i.pos ∙ q ∙ sym i.mark) (i.neg ∙ p ∙ sym i.mark)
      differs false x y i p q h = h (i.pos ∙ p ∙ sym i.mark) (i.neg ∙ q ∙ sym i.mark)

  pub cone-turned : (s : Set) (p : SpacePoint) → Cone M s p → Cone N (turned_set k s) (turned_point k p)
  cone-turned s p C = record {
    valid = valid-turned C.valid;
    mark = subst (λ (l : Label). HasLabel (turned_set k s) (turned_point k p) l) (sym R.mark) ((label-turned k s p M.mark).1 C.mark);
    labels = every-vector k (λ (d : Vector). IsDirection d → (m : Label) × MapLabel N d m × Germ (turned_set k s) (turned_point k p) d m)
        (λ d h. let (m, a, b) = C.labels d ((direction-there f' (is_odd k) (turning k) d).0 h) in (m, map_label-turned C.valid.shaped d m a, (germ-turned k s p d m).1 b));
  }

-- A map that is built of a labelling is well shaped, and agrees with it; so it is valid and has its labels.
use Rattle.law_geometry.proofs.sphere.Prelude.{◌≡◌, ℕ, zero, suc, ◌+◌, pos, arith, refl, ap, sym, ◌∙◌, ◌⊎◌, inl, inr, ⊎_elim, List, ◌∷◌, subst, Option, Some, None, [], ints, Sign, sign, by_order, nought-or, Vector, IsDirection, cross, dot, SameDirection, IsNormal, opposite, Label, IsAt, MapVertex, Arc, MapSloop, Map, Item, arc_item, sloop_item, items, items_then, item_normal, item_pos, item_mark, item_neg, dir_of, OnItem, IsFree, Shaped, IsStrictlyOn, by_side, Labelling, Near, Plain, Agrees, StraightAt, IsSmooth, plain, straight, StraightAfter, Proper, IsBuilt, Decided, square-cross, SameDirection-turned, dir-self, dir-signs, direction-opposite, level-opposite, level-opposite-back, vector-same, is-at_none, is-at_first}
use Rattle.law_geometry.proofs.sphere.Vectors.{even-side}
use Rattle.nef_space.proofs.Vectors.{normal-direction}
use Rattle.law_geometry.proofs.sphere.Generic.{amount}
use Rattle.law_geometry.proofs.sphere.Lists.{Found, search_list}
use Rattle.law_geometry.proofs.sphere.Places.{IsStrictlyOn-decided}
use Rattle.law_geometry.proofs.sphere.Forms.{on-direction, OnItem-by_signs}
use Rattle.law_geometry.proofs.sphere.Parallel.{past_source, arc-point}
use Rattle.law_geometry.proofs.sphere.Shot.{dir-at, arc-at}
use Rattle.law_geometry.proofs.sphere.Around.{Beside, same_way, other_way, beside}
use Rattle.law_geometry.proofs.sphere.Compare.{normals-not_opposite}
use Rattle.law_geometry.proofs.sphere.Turn.{IsStrictlyOn-same, whole-passes, ends-together}
use Rattle.law_geometry.proofs.sphere.Arcs.{Ends, at-arc, at-sloop, sloop-at, level-same}
use Rattle.law_geometry.proofs.sphere.Along.{onward}
use Rattle.law_geometry.proofs.sphere.ArcLabels.{arc-along}
use Rattle.law_geometry.proofs.sphere.Firsts.{First, first-after, begin-together}
use Rattle.law_geometry.proofs.sphere.Flips.{reversed, flipped, unflipped, Axial, directed-by, far_directed-by, planes-parallel, sloop-along}
use Rattle.law_geometry.proofs.sphere.Kind.{away}
use Rattle.law_geometry.proofs.near.Decisions.{same-label_or}
use Rattle.nef_space.proofs.Lists.{is-at_one}

-- ---- lists
abbrev pub dirs : List MapVertex → List Vector
dirs [] = []
dirs (v ∷ vs) = v.dir ∷ dirs vs

pub at-dirs : (vs : List MapVertex) (k : ℕ) (v : MapVertex) → IsAt vs k v → IsAt (dirs vs) k v.dir
at-dirs [] k v a = absurd (is-at_none a)
at-dirs (u ∷ vs) zero v e = ap (λ (r : MapVertex). Some r.dir) (is-at_first e)
at-dirs (u ∷ vs) (suc k) v a = at-dirs vs k v a

pub dirs-at : (vs : List MapVertex) (k : ℕ) (x : Vector) → IsAt (dirs vs) k x → (v : MapVertex) × IsAt vs k v × (v.dir ≡ x)
dirs-at [] k x a = absurd (is-at_none a)
dirs-at (u ∷ vs) zero x e = (u, refl, is-at_first e)
dirs-at (u ∷ vs) (suc k) x a = dirs-at vs k x a

pub sloops-one : (as' : List Arc) (o : Option MapSloop) (i k : ℕ) (l c : MapSloop) → IsAt (items_then as' o) i (sloop_item l) → IsAt (items_then as' o) k (sloop_item c) → i ≡ k
sloops-one [] None i k l c a b = absurd (is-at_none a)
sloops-one [] (Some m) zero zero l c a b = refl
sloops-one [] (Some m) zero (suc k) l c a b = absurd (is-at_none b)
sloops-one [] (Some m) (suc i) k l c a b = absurd (is-at_none a)
sloops-one (x ∷ as') o zero k l c a b = cc
sloops-one (x ∷ as') o (suc i) zero l c a b = cc
sloops-one (x ∷ as') o (suc i) (suc k) l c a b = ap suc (sloops-one as' o i k l c a b)

-- one of the two normals of a plane is in normal form
pub normal-either : (n : Vector) → IsDirection n → IsNormal n ⊎ IsNormal (opposite n)
normal-either n h = by_order n.x (pos 0)
    (λ l. inr (record { first = omega (arith, ints); second = λ z. absurd (omega (arith, ints)); third = λ z y. absurd (omega (arith, ints)) }))
    (λ x. by_order n.y (pos 0)
    (λ l. inr (record { first = omega (arith, ints); second = λ z. omega (arith, ints); third = λ z y. absurd (omega (arith, ints)) }))
    (λ y. by_order n.z (pos 0)
    (λ l. inr (record { first = omega (arith, ints); second = λ z. omega (arith, ints); third = λ u v. omega (arith, ints) }))
    (λ z. absurd (h (x, y, z)))
    (λ l. inl (record { first = omega (arith, ints); second = λ z. omega (arith, ints); third = λ u v. l })))
    (λ l. inl (record { first = omega (arith, ints); second = λ z. omega (arith, ints); third = λ u v. absurd (omega (arith, ints)) })))
    (λ l. inl (record { first = omega (arith, ints); second = λ z. absurd (omega (arith, ints)); third = λ u v. absurd (omega (arith, ints)) }))

pub normal-or : (n : Vector) → IsDirection n → IsNormal n ⊎ IsNormal (away n)
normal-or n h = ⊎_elim inl (λ m. inr (subst IsNormal (vector-same _ _ (omega (arith, ints)) (omega (arith, ints)) (omega (arith, ints))) m)) (normal-either n h)

module _ (gs : List Vector) (F : Vector → Label → Type 0) (L : Labelling gs F) (axial : Axial gs) (M : Map) (B : IsBuilt M F) where
  b-ends : (k : ℕ) (a : Arc) → IsAt M.arcs k a → Ends M a
  b-ends k a h =
      let b = B.arcs_between k a h in
      let e = dir-at M.svertices a.source b.source b.has_source in
      let f = dir-at M.svertices a.target b.target b.has_target in
      record {
        source = b.source;
        target = b.target;
        has_source = b.has_source;
        has_target = b.has_target;
        source_is = e;
        target_is = f;
        source_direction = subst IsDirection (sym e) (B.svertex_dirs a.source b.source b.has_source);
        target_direction = subst IsDirection (sym f) (B.svertex_dirs a.target b.target b.has_target);
        source_level = subst (λ (r : Vector). dot a.normal r ≡ pos 0) (sym e) b.level_source;
        target_level = subst (λ (r : Vector). dot a.normal r ≡ pos 0) (sym f) b.level_target;
      }

  b-normal : (k : ℕ) (x : Item) → IsAt (items M) k x → IsDirection (item_normal x)
  b-normal k x a = normal-direction (item_normal x) (B.normals k x a)

  -- what lies on an item is plain or straight
  on-smooth : (k : ℕ) (x : Item) → IsAt (items M) k x → (d : Vector) → OnItem M x d → IsSmooth F d
  on-smooth k x a d o = B.smooth d (on-direction M x d o) (λ j v b w. B.no_svertex_on_item j k v x b a (OnItem-by_signs M x d v.dir (λ g i. sym (dir-signs v.dir d g (B.svertex_dirs j v b) w)) o))

  pub item-proper : (k : ℕ) (x : Item) → IsAt (items M) k x → Proper (item_pos x) (item_mark x) (item_neg x)
  item-proper k (arc_item a) h = B.arc_proper k a (arc-at M.arcs M.sloop k a h)
  item-proper k (sloop_item l) h = B.sloop_proper l (sloop-at M.arcs M.sloop k l h)

  -- everywhere on an item the labels are the item's
  everywhere : (k : ℕ) (x : Item) → IsAt (items M) k x → (d : Vector) → OnItem M x d → StraightAt F (item_normal x) (item_pos x) (item_mark x) (item_neg x) d
  everywhere k (arc_item a) h d o =
      let j = arc-at M.arcs M.sloop k a h in
      let e = b-ends k a j in
      let s = dir_of M.svertices a.source in
      let t = dir_of M.svertices a.target in
      let r = B.arc_labels k a j in
      let K = amount (cross t a.normal ∷ []) (cross a.normal s) + r.0 in
      arc-along gs F L (directed-by gs axial) (far_directed-by gs axial) a.normal a.pos a.mark a.neg (B.arc_proper k a j) (b-normal k (arc_item a) h) s t
      e.source_direction e.target_direction e.source_level e.target_level (λ w p. on-smooth k (arc_item a) h w p) K (omega arith) (r.1 K (omega arith)) d o
  everywhere k (sloop_item l) h d o =
      let q = sloop-at M.arcs M.sloop k l h in
      let y = B.sloop_labels l q in
      sloop-along gs F L axial l.normal l.pos l.mark l.neg (B.sloop_proper l q) (b-normal k (sloop_item l) h) (λ w p. on-smooth k (sloop_item l) h w p) y.0 y.1 y.2 d o

  -- two items that share a direction lie in one plane
  one-plane : (i k : ℕ) (x y : Item) (d : Vector) → IsAt (items M) i x → IsAt (items M) k y → OnItem M x d → OnItem M y d → SameDirection (item_normal x) (item_normal y)
  one-plane i k x y d a b o p = by (beside (item_normal x) (item_normal y) (b-normal i x a) (b-normal k y b)
      (planes-parallel gs F L axial (item_normal x) (item_pos x) (item_mark x) (item_neg x) (item-proper i x a) (b-normal i x a) (item_normal y) (item_pos y) (item_mark y) (item_neg y) d (on-direction M x d o) (everywhere i x a d o) (everywhere k y b d p)))
    where
      by : Beside (item_normal x) (item_normal y) → SameDirection (item_normal x) (item_normal y)
      by (same_way w) = w
      by (other_way w) = absurd (normals-not_opposite (item_normal x) (item_normal y) (B.normals i x a) (B.normals k y b) w)

  -- an arc doesn't share its plane with the sloop
  arc-off_sloop : (i k : ℕ) (a : Arc) (l : MapSloop) → IsAt (items M) i (arc_item a) → IsAt (items M) k (sloop_item l) → SameDirection a.normal l.normal → ⊥
  arc-off_sloop i k a l h j w =
      let e = b-ends i a (arc-at M.arcs M.sloop i a h) in
      let z = B.svertex_dirs a.source e.source e.has_source in
      B.no_svertex_on_item a.source k e.source (sloop_item l) e.has_source j (record {
        direction = z;
        level = level-same a.normal l.normal e.source.dir e.source.dir w (dir-self e.source.dir z) (subst (λ (v : Vector). dot a.normal v ≡ pos 0) e.source_is e.source_level);
      })

  none-meet : (i k : ℕ) (x y : Item) (d : Vector) → IsAt (items M) i x → IsAt (items M) k y → OnItem M x d → OnItem M y d → i ≡ k
  none-meet i k (sloop_item l) (sloop_item c) d a b o p = sloops-one M.arcs M.sloop i k l c a b
  none-meet i k (arc_item x) (sloop_item c) d a b o p = absurd (arc-off_sloop i k x c a b (one-plane i k (arc_item x) (sloop_item c) d a b o p))
  none-meet i k (sloop_item l) (arc_item y) d a b o p = absurd (arc-off_sloop k i y l b a (one-plane k i (arc_item y) (sloop_item l) d b a p o))
  none-meet i k (arc_item x) (arc_item y) d a b o p =
      let u = arc-at M.arcs M.sloop i x a in
      let v = arc-at M.arcs M.sloop k y b in
      let e = b-ends i x u in
      let f = b-ends k y v in
      let w = one-plane i k (arc_item x) (arc_item y) d a b o p in
      let wt = SameDirection-turned x.normal y.normal w in
      let s = dir_of M.svertices x.source in
      let t = dir_of M.svertices x.target in
      let s' = dir_of M.svertices y.source in
      let t' = dir_of M.svertices y.target in
      let self = λ (r : Vector) (h : IsDirection r). dir-self r h in
      let q = begin-together x.normal s t s' t' d (b-normal i (arc_item x) a) e.source_direction e.target_direction f.source_direction f.target_direction e.source_level e.target_level
      (level-same y.normal x.normal s' s' wt (self s' f.source_direction) f.source_level) (level-same y.normal x.normal t' t' wt (self t' f.target_direction) f.target_level) o
      (IsStrictlyOn-same y.normal x.normal s' s' t' t' d d wt (self s' f.source_direction) (self t' f.target_direction) (self d o.on_circle.direction) p)
      (λ z. B.no_svertex_on_item y.source i f.source (arc_item x) f.has_source a (subst (λ (r : Vector). IsStrictlyOn x.normal s t r) f.source_is z))
      (λ z. B.no_svertex_on_item x.source k e.source (arc_item y) e.has_source b (subst (λ (r : Vector). IsStrictlyOn y.normal s' t' r) e.source_is
      (IsStrictlyOn-same x.normal y.normal s' s' t' t' s s w (self s' f.source_direction) (self t' f.target_direction) (self s e.source_direction) z))) in
      B.arcs_apart i k x y u v w (B.svertices_apart x.source y.source e.source f.source e.has_source f.has_source (subst (λ (r : Vector). SameDirection r f.source.dir) e.source_is (subst (SameDirection s) f.source_is q)))

  pub built-shaped : Shaped M
  built-shaped = record {
    svertex_dirs = B.svertex_dirs;
    svertices_apart = B.svertices_apart;
    normals = B.normals;
    arcs_between = B.arcs_between;
    no_svertex_on_item = B.no_svertex_on_item;
    no_items_meet = none-meet;
    around_lone = B.around_lone;
    around_not = B.around_not;
    ground_alone = B.ground_alone;
    ground_not = B.ground_not;
  }

  -- ---- a free direction isn't straight
  module _ (d : Vector) (G : IsFree M d) (n : Vector) (a m b : Label) (normal : IsNormal n) (proper : Proper a m b) (p : StraightAt F n a m b d) where
    hn : IsDirection n
    hn = normal-direction n normal

    proper_turned : Proper b m a
    proper_turned x y = proper y x

    ha : IsDirection (opposite n)
    ha = direction-opposite n hn

    -- s is the last svertex before d
    module _ (k : ℕ) (v : MapVertex) (h : IsAt M.svertices k v) (ls : dot n v.dir ≡ pos 0) (clear : (j : ℕ) (x : Vector) → IsAt (dirs M.svertices) j x → IsStrictlyOn (opposite n) d v.dir x → ⊥) where
      abbrev s : Vector
      s = v.dir

      hs : IsDirection s
      hs = B.svertex_dirs k v h

      back-smooth : (w : Vector) → IsStrictlyOn (opposite n) d s w → IsSmooth F w
      back-smooth w o = B.smooth w o.on_circle.direction (λ j u c q. clear j u.dir (at-dirs M.svertices j u c)
          (IsStrictlyOn-same (opposite n) (opposite n) d d s s w u.dir (dir-self (opposite n) ha) (dir-self d G.direction) (dir-self s hs) (SameDirection-turned u.dir w q) o))

      back-labels : (w : Vector) → IsStrictlyOn (opposite n) d s w → StraightAt F (opposite n) b m a w
      back-labels w o =
          let c = cross (opposite n) d in
          let q : dot (opposite n) c ≡ pos 0 = square-cross (opposite n) d in
          let r = onward gs F L (directed-by gs axial) (far_directed-by gs axial) (opposite n) b m a proper_turned d c G.direction q (flipped F n a m b d p) in
          let K = amount (cross s (opposite n) ∷ []) c + r.0 in
          arc-along gs F L (directed-by gs axial) (far_directed-by gs axial) (opposite n) b m a proper_turned ha d s G.direction hs (level-opposite n d p.level) (level-opposite n s ls) back-smooth K (omega arith) (r.1 K (omega arith)) w o

      after : StraightAfter F n a m b s
      after = (
        amount (cross d n ∷ []) (cross n s),
        λ i l.
            let y = past_source n s i in
            unflipped F n a m b y (back-labels y (reversed n s d y hs (arc-point n s d hn hs G.direction ls p.level i l))),
      )

      caught : ⊥
      caught = by (B.arcs_all k v n a m b h normal ls proper after)
        where
          by : (i : ℕ) × (c : Arc) × IsAt M.arcs i c × (c.source ≡ k) × SameDirection n c.normal → ⊥
          by (i, c, ic, src, w) = cases (IsStrictlyOn-decided n s (dir_of M.svertices c.target) d) (IsStrictlyOn-decided n s d (dir_of M.svertices c.target))
            where
              e : Ends M c
              e = b-ends i c ic

              source-is : dir_of M.svertices c.source ≡ s
              source-is = e.source_is ∙ ap (λ (r : MapVertex). r.dir) (is-at_one M.svertices k e.source v (subst (λ (j : ℕ). IsAt M.svertices j e.source) src e.has_source) h)

              target-level : dot n (dir_of M.svertices c.target) ≡ pos 0
              target-level = level-same c.normal n (dir_of M.svertices c.target) (dir_of M.svertices c.target) (SameDirection-turned n c.normal w) (dir-self (dir_of M.svertices c.target) e.target_direction) e.target_level

              cases : Decided (IsStrictlyOn n s (dir_of M.svertices c.target) d) → Decided (IsStrictlyOn n s d (dir_of M.svertices c.target)) → ⊥
              cases (inl o) y = G.off_items i (arc_item c) (at-arc M.arcs M.sloop i c ic)
                  (IsStrictlyOn-same n c.normal s (dir_of M.svertices c.source) (dir_of M.svertices c.target) (dir_of M.svertices c.target) d d w (subst (SameDirection s) (sym source-is) (dir-self s hs))
                  (dir-self (dir_of M.svertices c.target) e.target_direction) (dir-self d G.direction) o)
              cases (inr f) (inl o) = clear c.target (dir_of M.svertices c.target) (subst (IsAt (dirs M.svertices) c.target) (sym e.target_is) (at-dirs M.svertices c.target e.target e.has_target)) (reversed n s d (dir_of M.svertices c.target) hs o)
              cases (inr f) (inr g) = G.off_svertices c.target e.target e.has_target (subst (λ (r : Vector). SameDirection r d) e.target_is
                  (ends-together n s (dir_of M.svertices c.target) d hn hs e.target_direction G.direction ls target-level p.level f g))

    -- with a svertex on the circle, or none
    straight-free : ⊥
    straight-free = by (search_list M.svertices (λ k v. dot n v.dir ≡ pos 0) (λ k v. nought-or (dot n v.dir)))
      where
        at-listed : (s : Vector) → dot (opposite n) s ≡ pos 0 → ((j : ℕ) (x : Vector) → IsAt (dirs M.svertices) j x → IsStrictlyOn (opposite n) d s x → ⊥) → (k : ℕ) → (v : MapVertex) × IsAt M.svertices k v × (v.dir ≡ s) → ⊥
        at-listed s l none k (v, h, e) = caught k v h (level-opposite-back n v.dir (subst (λ (r : Vector). dot (opposite n) r ≡ pos 0) (sym e) l)) (λ j x c o. none j x c (subst (λ (r : Vector). IsStrictlyOn (opposite n) d r x) e o))

        by : Found M.svertices (λ k v. dot n v.dir ≡ pos 0) ⊎ ((k : ℕ) (v : MapVertex) → IsAt M.svertices k v → dot n v.dir ≡ pos 0 → ⊥) → ⊥
        by (inr none) = sloop (B.sloop_all n d a m b normal G.direction none proper p)
          where
            sloop : (l : MapSloop) × (M.sloop ≡ Some l) × SameDirection n l.normal → ⊥
            sloop (l, q, w) = let i = at-sloop M.arcs M.sloop l q in G.off_items i.0 (sloop_item l) i.1 (record { direction = G.direction; level = level-same n l.normal d d w (dir-self d G.direction) p.level })
        by (inl f) = first (first-after (opposite n) d ha G.direction (level-opposite n d p.level) (dirs M.svertices))
          where
            first : First (opposite n) d (dirs M.svertices) → ⊥
            first r = ⊎_elim
                (λ e. r.none_before f.number f.element.dir (at-dirs M.svertices f.number f.element f.listed) (subst (λ (q : Vector). IsStrictlyOn (opposite n) d q f.element.dir) e
                (whole-passes (opposite n) d d f.element.dir ha G.direction G.direction (B.svertex_dirs f.number f.element f.listed) (level-opposite n d p.level) (level-opposite n d p.level) (level-opposite n f.element.dir f.holds) (dir-self d G.direction)
                (λ w. G.off_svertices f.number f.element f.listed (SameDirection-turned d f.element.dir w)))))
                (λ k. at-listed r.target r.level r.none_before k.0 (dirs-at M.svertices k.0 r.target k.1)) r.listed

  -- free directions are plain
  free-plain : (d : Vector) → IsFree M d → Plain F d
  free-plain d G m f e h = by (B.smooth d G.direction G.off_svertices)
    where
      by : IsSmooth F d → Near F d e m
      by (plain l p) = subst (Near F d e) (L.one d l m G.direction p.at_d f) (p.near e)
      by (straight n a c b hn p) = cases (same-label_or a c) (same-label_or b c)
        where
          caught-by : Proper a c b → ⊥
          caught-by q = ⊎_elim
              (λ x. straight-free d G n a c b x q p)
              (λ x. straight-free d G (opposite n) b c a x (λ u v. q v u) (flipped F n a c b d p)) (normal-either n hn)

          flat : a ≡ c → b ≡ c → (s : Sign) → by_side a c b s ≡ c
          flat x y s = ap (λ r. by_side r c b s) x ∙ ap (λ r. by_side c c r s) y ∙ even-side c s

          cases : Decided (a ≡ c) → Decided (b ≡ c) → Near F d e m
          cases (inl x) (inl y) = subst (Near F d e) (flat x y (sign (dot n e)) ∙ L.one d c m G.direction p.at_d f) (p.near e)
          cases (inr x) y = absurd (caught-by (λ u v. x u))
          cases (inl x) (inr y) = absurd (caught-by (λ u v. y v))

  pub built-agrees : Agrees M F
  built-agrees = record {
    svertices = B.svertex_marks;
    marks = λ k x d a o. let r = everywhere k x a d o in r.at_d;
    beside = λ k x d e a o f. let r = everywhere k x a d o in r.near e;
    lone = λ k v m e a q f. B.around_near k v m e a q f;
    free = free-plain;
    ground = B.ground_label;
  }

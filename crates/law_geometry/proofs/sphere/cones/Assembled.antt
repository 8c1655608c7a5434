-- The map of a labelling, put together from its svertices, arcs and sloop.
use Rattle.law_geometry.proofs.sphere.cones.Prelude.{◌≡◌, ℕ, pos, refl, sym, ◌∙◌, ◌⊎◌, inl, inr, ⊎_elim, List, ◌++◌, subst, Option, Some, None, [], none-some, same_Some, lies-left, lies-right, Vector, IsDirection, cross, dot, SameDirection, IsNormal, Label, Decided, IsStrictlyOn, IsPrimitive, IsAt, MapVertex, Arc, MapSloop, Map, Item, arc_item, sloop_item, items, item_normal, dir_of, OnItem, ArcBetween, HasArc, axes, Ordered, Labelling, Near, StraightAfter, IsBuilt, NoneSmooth, lowest-same, sloop-at, Axial, labelling-more, SameDirection-turned, none-at, is-at_nowhere}
use Rattle.law_geometry.proofs.sphere.Shot.{dir-at, arc-at}
use Rattle.law_geometry.proofs.sphere.Unique.{HasArc-decided, beside-d}
use Rattle.law_geometry.proofs.sphere.cones.Listing.{Mapped, map-list}
use Rattle.law_geometry.proofs.sphere.cones.Signs.{near-of}
use Rattle.law_geometry.proofs.sphere.cones.SmoothDecided.{smooth-decided}
use Rattle.law_geometry.proofs.sphere.cones.Dirs.{Dirs, dirs, dirs-one}
use Rattle.law_geometry.proofs.sphere.cones.Rays.{IsArc, Arcs, arcs, arc-one}
use Rattle.law_geometry.proofs.sphere.cones.Behind.{Arrives, lone-around}
use Rattle.law_geometry.proofs.sphere.cones.Sloops.{IsSloop, SloopThere, sloop}
use Rattle.law_geometry.proofs.sphere.cones.Ground.{Ground, ground}

-- a map that is built of the labelling, in order and with the mark
pub record BuiltMap (F : Vector → Label → Type 0) (mark : Label) : Type 0 where
  pub map : Map
  pub built : IsBuilt map F
  pub kept : NoneSmooth map F
  pub ordered : Ordered map
  pub marked : map.mark ≡ mark

module _ (gs : List Vector) (F : Vector → Label → Type 0) (L : Labelling gs F) (axial : Axial gs) (W : Dirs gs F L axial) (A : Arcs gs F L axial W) (S : SloopThere gs F L axial W) (K : Ground gs F L axial W S) (mark : Label) where
  -- ---- svertices
  -- the label round a svertex without arcs
  record Lone (k : ℕ) (w : Vector) (o : Option Label) : Type 0 where
    lone : Arrives A.list k → ⊥
    label : Label
    is : o ≡ Some label
    near : (e : Vector) → IsDirection (cross w e) → Near F w e label

  record Shown (k : ℕ) (w : Vector) (v : MapVertex) : Type 0 where
    dir : v.dir ≡ w
    mark_is : F w v.mark
    around : (Arrives A.list k × (v.around ≡ None)) ⊎ Lone k w v.around

  -- the arcs alone
  abbrev bare : Map
  bare = record { mark = mark; svertices = []; arcs = A.list; sloop = None; ground = None }

  shown : (k : ℕ) (w : Vector) → IsAt W.list k w → (v : MapVertex) × Shown k w v
  shown k w h = by (HasArc-decided bare k) (L.exists w hw) (beside-d w hw)
    where
      hw : IsDirection w
      hw = W.direction k w h

      by : Decided (Arrives A.list k) → ((m : Label) × F w m) → ((e : Vector) × IsDirection (cross w e)) → (v : MapVertex) × Shown k w v
      by (inl x) (m, f) b = (record { dir = w; mark = m; around = None }, record { dir = refl; mark_is = f; around = inl (x, refl) })
      by (inr n) (m, f) (e, off) =
          let l = near-of gs F L axial w e (W.direction k w h) in (
            record { dir = w; mark = m; around = Some l.0 },
            record {
              dir = refl;
              mark_is = f;
              around = inr (record { lone = n; label = l.0; is = refl; near = λ u out. lone-around gs F L axial W A k w h n e u off out l.0 l.1 });
            },
          )

  svertices : Mapped W.list Shown
  svertices = map-list W.list Shown shown

  abbrev M : Map
  M = record { mark = mark; svertices = svertices.list; arcs = A.list; sloop = S.sloop; ground = K.label }

  shows : (k : ℕ) (v : MapVertex) → IsAt svertices.list k v → Shown k v.dir v
  shows k v a = let r = svertices.sound k v a in subst (λ (w : Vector). Shown k w v) (sym r.2.dir) r.2

  listed : (k : ℕ) (v : MapVertex) → IsAt svertices.list k v → IsAt W.list k v.dir
  listed k v a = let r = svertices.sound k v a in subst (IsAt W.list k) (sym r.2.dir) r.1

  at-dir : (k : ℕ) (w : Vector) → IsAt W.list k w → (v : MapVertex) × IsAt svertices.list k v × (v.dir ≡ w)
  at-dir k w h = let r = svertices.all k w h in (r.0, r.1, r.2.dir)

  dir-is : (k : ℕ) (w : Vector) → IsAt W.list k w → dir_of svertices.list k ≡ w
  dir-is k w h = let r = at-dir k w h in dir-at svertices.list k r.0 r.1 ∙ r.2

  -- the svertices decide the directions without them
  off-dirs : (n : Vector) → ((k : ℕ) (v : MapVertex) → IsAt svertices.list k v → dot n v.dir ≡ pos 0 → ⊥) → (k : ℕ) (w : Vector) → IsAt W.list k w → dot n w ≡ pos 0 → ⊥
  off-dirs n f k w h z = let r = at-dir k w h in f k r.0 r.1 (subst (λ (u : Vector). dot n u ≡ pos 0) (sym r.2) z)

  -- ---- items
  an_arc : (k : ℕ) (a : Arc) → IsAt (items M) k (arc_item a) → IsArc gs F L axial W a
  an_arc k a h = A.each k a (arc-at A.list S.sloop k a h)

  a_sloop : (k : ℕ) (l : MapSloop) → IsAt (items M) k (sloop_item l) → IsSloop gs F L axial W l
  a_sloop k l h = S.each l (sloop-at A.list S.sloop k l h)

  normals : (k : ℕ) (x : Item) → IsAt (items M) k x → IsNormal (item_normal x)
  normals k (arc_item a) h = (an_arc k a h).normal
  normals k (sloop_item l) h = (a_sloop k l h).normal

  lowest_normals : (k : ℕ) (x : Item) → IsAt (items M) k x → IsPrimitive (item_normal x)
  lowest_normals k (arc_item a) h = (an_arc k a h).primitive
  lowest_normals k (sloop_item l) h = (a_sloop k l h).primitive

  no-svertex : (i k : ℕ) (v : MapVertex) (x : Item) → IsAt svertices.list i v → IsAt (items M) k x → OnItem M x v.dir → ⊥
  no-svertex i k v (arc_item a) b h o =
      let e = an_arc k a h in
      e.clear i v.dir (listed i v b) (subst (λ (t : Vector). IsStrictlyOn a.normal e.source t v.dir) (dir-is a.target e.target e.has_target)
      (subst (λ (s : Vector). IsStrictlyOn a.normal s (dir_of svertices.list a.target) v.dir) (dir-is a.source e.source e.has_source) o))
  no-svertex i k v (sloop_item l) b h o = (a_sloop k l h).clear i v.dir (listed i v b) o.level

  between : (k : ℕ) (a : Arc) → IsAt A.list k a → ArcBetween M a
  between k a h =
      let e = A.each k a h in
      let s = at-dir a.source e.source e.has_source in
      let t = at-dir a.target e.target e.has_target in
      record {
        source = s.0;
        target = t.0;
        has_source = s.1;
        has_target = t.1;
        level_source = subst (λ (u : Vector). dot a.normal u ≡ pos 0) (sym s.2) e.level_source;
        level_target = subst (λ (u : Vector). dot a.normal u ≡ pos 0) (sym t.2) e.level_target;
      }

  after-source : (k : ℕ) (a : Arc) → IsAt A.list k a → StraightAfter F a.normal a.pos a.mark a.neg (dir_of svertices.list a.source)
  after-source k a h = let e = A.each k a h in subst (StraightAfter F a.normal a.pos a.mark a.neg) (sym (dir-is a.source e.source e.has_source)) e.labels

  -- ---- the faces round svertices
  around-lone : (k : ℕ) (v : MapVertex) → IsAt svertices.list k v → (HasArc M k → ⊥) → (m : Label) × (v.around ≡ Some m)
  around-lone k v a f = ⊎_elim (λ x. absurd (f x.0)) (λ l. (l.label, l.is)) (shows k v a).around

  around-not : (k : ℕ) (v : MapVertex) → IsAt svertices.list k v → HasArc M k → v.around ≡ None
  around-not k v a x = ⊎_elim (λ y. y.1) (λ l. absurd (l.lone x)) (shows k v a).around

  around-near : (k : ℕ) (v : MapVertex) (m : Label) (e : Vector) → IsAt svertices.list k v → v.around ≡ Some m → IsDirection (cross v.dir e) → Near F v.dir e m
  around-near k v m e a q off = ⊎_elim
      (λ y. absurd (none-some m (sym y.1 ∙ q)))
      (λ l. subst (Near F v.dir e) (same_Some l.label m (sym l.is ∙ q)) (l.near e off))
      (shows k v a).around

  -- ---- all of it
  is-built : IsBuilt M F
  is-built = record {
    svertex_dirs = λ k v a. W.direction k v.dir (listed k v a);
    svertices_apart = λ i k u v a b w. dirs-one gs F L axial W i k u.dir v.dir (listed i u a) (listed k v b) w;
    svertex_marks = λ k v a. (shows k v a).mark_is;
    smooth = λ d h f. ⊎_elim (λ s. s)
        (λ n. let r = W.all d h n in let v = at-dir r.0 r.1 r.2 in absurd (f r.0 v.0 v.1 (subst (λ (w : Vector). SameDirection w d) (sym v.2) (SameDirection-turned d r.1 r.3))))
        (smooth-decided gs F L axial d h);
    normals = normals;
    arcs_between = between;
    no_svertex_on_item = no-svertex;
    arc_labels = after-source;
    arc_proper = λ k a h. (A.each k a h).proper;
    arcs_apart = λ i k a b x y w q. arc-one A.list A.order i k a b x y (same-normals i k a b x y w, q);
    arcs_all = λ k v n a m b h hn q p f. A.all n k hn (record { dir = v.dir; listed = listed k v h; level = q; pos = a; mark = m; neg = b; labels = f; proper = p });
    sloop_labels = λ l e. let s = S.each l e in (s.point, s.direction, s.labels);
    sloop_proper = λ l e. (S.each l e).proper;
    sloop_all = λ n y a m b hn hy f p s. S.all n hn (record { clear = off-dirs n f; point = y; direction = hy; pos = a; mark = m; neg = b; labels = s; proper = p });
    around_lone = around-lone;
    around_not = around-not;
    around_near = around-near;
    ground_alone = λ e o. K.alone (is-at_nowhere W.list (λ k w h. let r = at-dir k w h in none-at svertices.list k r.0 e r.1)) o;
    ground_not = λ m q. let r = K.only m q in (is-at_nowhere svertices.list (λ k v a. none-at W.list k v.dir r.0 (listed k v a)), r.1);
    ground_label = λ m d q h. K.everywhere m d q h;
  }
    where
      same-normals : (i k : ℕ) (a b : Arc) → IsAt A.list i a → IsAt A.list k b → SameDirection a.normal b.normal → a.normal ≡ b.normal
      same-normals i k a b x y w = lowest-same a.normal b.normal w (A.each i a x).primitive (A.each k b y).primitive

  pub assembled : BuiltMap F mark
  assembled = record {
    map = M;
    built = is-built;
    kept = λ k v a s. W.rough k v.dir (listed k v a) s;
    ordered = record {
      dirs_lowest = λ k v a. W.primitive k v.dir (listed k v a);
      normals_lowest = lowest_normals;
      svertices = λ i k u v l a b. W.order i k u.dir v.dir l (listed i u a) (listed k v b);
      arcs = A.order;
    };
    marked = refl;
  }

-- EVERY LABELLING HAS A MAP, WITH ANY MARK
pub labelling-map : (gs : List Vector) (F : Vector → Label → Type 0) → Labelling gs F → (mark : Label) → BuiltMap F mark
labelling-map gs F L mark =
    let hs = axes ++ gs in
    let K = labelling-more gs hs F (λ g l. lies-right axes gs g l) L in
    let axial : Axial hs = λ g l. lies-left axes gs g l in
    let W = dirs hs F K axial in
    let A = arcs hs F K axial W in
    let S = sloop hs F K axial W in
    assembled hs F K axial W A S (ground hs F K axial W S) mark

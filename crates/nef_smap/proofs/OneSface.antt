-- Labels of sides that agree at the joins are the same for all sides of one sface.
use Rattle.nef_smap.proofs.Prelude.{◌≡◌, ℕ, ◌+◌, pos, ◌<ℤ◌, arith, refl, ap, sym, ◌∙◌, inl, inr, ⊎_elim, List, [], ◌∷◌, subst, Option, Some, None, ints, sign, nought-is, Lies, Vector, IsDirection, IsZero, cross, dot, opposite, Label, Out, IsStrictlyOn, IsAt, MapVertex, MapSloop, Map, Item, arc_item, sloop_item, items, item_normal, dir_of, OnItem, IsFree, Side, around_svertex, pos_item, neg_item, whole, HasArc, HasSide, Sees, Shaped, Labelling, Near, Plain, PlainAt, StraightAt, IsSmooth, straight, normal-is, on-direction, on-level, axes-forms, amount, past_source, arc-point, arc-at, cross-self, Beside, same_way, other_way, beside, cross-direction_left, sloop-at, over_forms, IsFirst, Stands, met, BelowFirst, Firsts, Joins, zero-decided, cross-turned, apart, parallel-trans, is-at_none}
use Rattle.law_geometry.proofs.sphere.Flips.{Axial, directed-by, far_directed-by, sloop-along}
use Rattle.law_geometry.proofs.sphere.ArcLabels.{arc-along}
use Rattle.nef_smap.proofs.Rise.{form-over}
use Rattle.nef_smap.proofs.Stands.{stand, stands, stands-keeps, stands-third, dot-opposite}
use Rattle.nef_smap.proofs.Common.{all-meet}
use Rattle.nef_smap.proofs.Labelled.{above_forms, over-above, LabelAbove, by_one, labelled}
use Rattle.nef_smap.proofs.Clean.{lone-clean}
use Rattle.nef_smap.proofs.Settled.{plain-free, straight-on, round-lone}
use Rattle.nef_smap.proofs.Pole.{plain-up, plain-down}
use Rattle.nef_smap.proofs.Upper.{upper-arc, upper-sloop}
use Rattle.nef_smap.proofs.Reached.{Sided, sides-agree}
use Rattle.law_geometry.proofs.sphere.building.RayClose.{cross-last}
use Rattle.std.proofs.lemmas.Option.{none-some}
use Rattle.law_geometry.proofs.sphere.Arcs.{Ends, ends-of}

module _ (M : Map) (V : Shaped M) (u : Vector) (ahead : (k : ℕ) (x : Item) → IsAt (items M) k x → pos 0 <ℤ dot (item_normal x) u)
    (across : (k : ℕ) (v : MapVertex) → IsAt M.svertices k v → IsDirection (cross u v.dir)) (G : Side → Label) (top : Label) (Z : Firsts M u) (J : Joins M u G top Z)
    (e : Vector) (general : (g : Vector) → Lies (over_forms M u) g → IsDirection g → dot g e ≡ pos 0 → ⊥) (off_u : IsDirection (cross u e)) where
  abbrev gs : List Vector
  gs = above_forms M u e G top

  abbrev F : Vector → Label → Type 0
  F = LabelAbove M u e G top

  L : Labelling gs F
  L = labelled M u e G top V ahead

  axial : Axial gs
  axial g l = over-above M u e G top g (form-over M u g (axes-forms M g l))

  hu : IsDirection u
  hu = cross-direction_left u e off_u

  abbrev over_label : (d : Vector) → IsDirection (cross u d) → Label
  over_label d f = let c = all-meet M V u ahead d f G top Z.svertices J.below in c.0

  plain-by : (d : Vector) (c : Label) → IsFree M d → PlainAt F d c → Plain F d
  plain-by d c D p m a w h = subst (Near F d w) (L.one d c m D.direction p.at_d a) (p.near w)

  plain : (d : Vector) → IsFree M d → Plain F d
  plain d D = ⊎_elim
      (λ p. at_pole p (beside u d hu D.direction p))
      (λ f. plain-by d (over_label d f) D (plain-free M V u ahead G top Z.svertices J.below e d f D))
      (zero-decided (cross u d))
    where
      at_pole : IsZero (cross u d) → Beside u d → Plain F d
      at_pole p (same_way w) = plain-by d top D (plain-up M V u ahead G top Z.svertices J.below e general off_u d D w hu)
      at_pole p (other_way w) = λ m a x h. plain-down M V u ahead G top Z.svertices J.below e general off_u d D p m a x (λ z. h (parallel-trans d u x hu (cross-turned u d p) z))

  -- ---- items
  module _ (k : ℕ) (x : Item) (a : IsAt (items M) k x) where
    abbrev n : Vector
    n = item_normal x

    off-meridian : (d : Vector) → OnItem M x d → IsDirection (cross u d)
    off-meridian d o = apart n u d (λ z. let h = ahead k x a in omega (arith, ints)) (on-level M x d o) (on-direction M x d o)

    some-straight : (d : Vector) (o : OnItem M x d) → StraightAt F n (over_label d (off-meridian d o)) Out (G (neg_item k)) d
    some-straight d o = straight-on M V u ahead G top Z.svertices J.below e d (off-meridian d o) k x a o

    smooth : (d : Vector) → OnItem M x d → IsSmooth F d
    smooth d o = straight n (over_label d (off-meridian d o)) Out (G (neg_item k)) (normal-is V k x a) (some-straight d o)

    proper : G (pos_item k) ≡ Out → G (neg_item k) ≡ Out → ⊥
    proper p q = J.never_out (pos_item k) p

  straight-everywhere : (k : ℕ) (x : Item) (a : IsAt (items M) k x) (d : Vector) → OnItem M x d → StraightAt F (item_normal x) (G (pos_item k)) Out (G (neg_item k)) d
  straight-everywhere k (arc_item r) a d o = arc-along gs F L (directed-by gs axial) (far_directed-by gs axial) m (G (pos_item k)) Out (G (neg_item k)) (proper k (arc_item r) a) hn s t ends.source_direction ends.target_direction ends.source_level ends.target_level
      (λ w p. smooth k (arc_item r) a w p) K (omega arith) start d o
    where
      m : Vector
      m = r.normal

      s : Vector
      s = dir_of M.svertices r.source

      t : Vector
      t = dir_of M.svertices r.target

      hn : IsDirection r.normal
      hn = normal-is V k (arc_item r) a

      ends : Ends M r
      ends = ends-of M V k r (arc-at M.arcs M.sloop k r a)

      K : ℕ
      K = amount (cross t m ∷ []) (cross m s) + amount (over_forms M u) (cross m s)

      z : Vector
      z = past_source m s K

      on-z : IsStrictlyOn m s t z
      on-z = arc-point m s t hn ends.source_direction ends.target_direction ends.source_level ends.target_level K (omega arith)

      start : StraightAt F m (G (pos_item k)) Out (G (neg_item k)) z
      start = subst (λ (c : Label). StraightAt F m c Out (G (neg_item k)) z)
          (upper-arc M V u ahead G top Z.svertices J.below k r a (Z.arcs k r (arc-at M.arcs M.sloop k r a)) (J.arcs k r (arc-at M.arcs M.sloop k r a)) ends.source_direction ends.source_level K (omega arith) on-z (off-meridian k (arc_item r) a z on-z) (over_label z (off-meridian k (arc_item r) a z on-z))
          (let c = all-meet M V u ahead z (off-meridian k (arc_item r) a z on-z) G top Z.svertices J.below in c.1))
          (some-straight k (arc_item r) a z on-z)
  straight-everywhere k (sloop_item r) a d o =
      let j = Z.sloops k r a in
      let f = off-meridian k (sloop_item r) a j.point j.on in
      sloop-along gs F L axial r.normal (G (pos_item k)) Out (G (neg_item k)) (proper k (sloop_item r) a) (normal-is V k (sloop_item r) a) (λ w p. smooth k (sloop_item r) a w p) j.point j.on.direction
      (subst (λ (c : Label). StraightAt F r.normal c Out (G (neg_item k)) j.point)
      (upper-sloop M V u ahead G top Z.svertices J.below k r a j (J.sloops k r a) f (over_label j.point f) (let c = all-meet M V u ahead j.point f G top Z.svertices J.below in c.1))
      (some-straight k (sloop_item r) a j.point j.on)) d o

  -- ---- svertices without arcs
  round : (k : ℕ) (v : MapVertex) (m : Label) (w : Vector) → IsAt M.svertices k v → v.around ≡ Some m → IsDirection (cross v.dir w) → Near F v.dir w (G (around_svertex k))
  round k v m w a q h = subst (Near F v.dir w) (sym meets ∙ J.around k v m a q) (round-lone M V u ahead G top Z.svertices J.below e v.dir f k v a refl lone w h)
    where
      f : IsDirection (cross u v.dir)
      f = across k v a

      lone : HasArc M k → ⊥
      lone t = none-some m (sym (V.around_not k v a t) ∙ q)

      j : BelowFirst M u v.dir
      j = Z.arounds k v m a q

      l : Vector
      l = cross u v.dir

      y : Vector
      y = stand (l ∷ over_forms M u) v.dir (opposite u) j.aside

      s : Stands (over_forms M u) v.dir (opposite u) j.aside y
      s g i = stands (l ∷ over_forms M u) v.dir (opposite u) j.aside g (inr i)

      off : dot l y ≡ pos 0 → ⊥
      off z =
          let c = dot-opposite l u in
          let b = cross-self u v.dir in
          let t = stands-third (l ∷ over_forms M u) v.dir (opposite u) j.aside y l (stands (l ∷ over_forms M u) v.dir (opposite u) j.aside) (inl refl) (cross-last u v.dir) (omega (arith, ints)) in
          j.off (nought-is (dot l j.aside) (sym t ∙ ap sign z))

      meets : met G top j.first ≡ over_label v.dir f
      meets =
          let near = stands-keeps (over_forms M u) v.dir (opposite u) j.aside y s in
          let c = all-meet M V u ahead v.dir f G top Z.svertices J.below in
          c.1 y near (lone-clean M V u ahead v.dir y near f k v a refl lone) off j.first (j.is_first y s)

  -- ---- a map without items
  no_items : (m : Label) → M.ground ≡ Some m → (k : ℕ) (x : Item) → IsAt (items M) k x → ⊥
  no_items m q k (arc_item r) a =
      let b = V.arcs_between k r (arc-at M.arcs M.sloop k r a) in
      let g = V.ground_not m q in
      is-at_none (subst (λ (vs : List MapVertex). IsAt vs r.source b.source) g.0 b.has_source)
  no_items m q k (sloop_item l) a = let g = V.ground_not m q in none-some (sym g.1 ∙ sloop-at M.arcs M.sloop k l a)
    where
      none-some : ◌≡◌ {A = Option MapSloop} None (Some l) → ⊥
      none-some e = absurd cc

  ground : (m : Label) (d : Vector) → M.ground ≡ Some m → IsFree M d → F d (G whole)
  ground m d q D = by_one M u e G top V ahead d (stand (over_forms M u) d (cross u d) e) (G whole) D (stands (over_forms M u) d (cross u d) e) (λ r x. by r x)
    where
      by : (r : Option ℕ) → IsFirst M u (stand (over_forms M u) d (cross u d) e) r → met G top r ≡ G whole
      by None x = sym (J.ground m q)
      by (Some k) x = absurd (no_items m q k x.item x.listed)

  sided : Sided M G F
  sided = record {
    free = plain;
    beside = λ k x d w a o h. let s = straight-everywhere k x a d o in s.near w;
    lone = round;
    ground = ground;
  }

  pub joined-agree : (d : Vector) (o p : Side) (k l : Label) → HasSide M o k → HasSide M p l → Sees M o d → Sees M p d → G o ≡ G p
  joined-agree = sides-agree gs F L M G sided

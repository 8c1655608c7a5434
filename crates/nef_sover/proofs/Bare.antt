-- A map's labels along a circle that nothing of the map crosses.
use Rattle.nef_sover.proofs.Prelude.{◌≡◌, ℕ, ◌<◌, pos, ◌+ℤ◌, ◌*ℤ◌, ◌-ℤ◌, Some, arith, refl, sym, ap, subst, ◌∙◌, inl, inr, [], ◌∷◌, ints, ring, at, num, neg, ◌⊕◌, ◌⊖◌, ◌⊗◌, sign-plus, sign-minus, Vector, IsDirection, IsNormal, IsZero, blend, cross, dot, opposite, Label, Decided, IsOnCircle, IsPrimitive, IsAt, MapSloop, Item, arc_item, sloop_item, Map, items, item_normal, OnItem, IsFree, IsClear, MapLabel, NearLabel, on_item, Valid, by_side, Ordered, dot-comb, normal-direction, Beside, same_way, other_way, beside, arc-at, sloop-at, at-sloop, lowest-same, normals-not_opposite, between-direction, label-exists, near-free, near-item, IsUncrossed, zero-decided, self-pos, cross-turned, level-way, square-cross, level_cross_second, SameDirection-turned, nought-if, parallel-trans}
use Rattle.law_geometry.proofs.sphere.Labels.{clear-label}

-- ---- directions on one circle
module _ (n : Vector) (hn : IsDirection n) where
  -- a quarter of a turn ahead of d
  abbrev quarter : Vector → Vector
  quarter d = cross n d

  quarter-direction : (d : Vector) → IsOnCircle n d → IsDirection (quarter d)
  quarter-direction d o z = o.direction (nought-if n d hn z o.level)

  quarter-on : (d : Vector) → IsOnCircle n d → IsOnCircle n (quarter d)
  quarter-on d o = record { direction = quarter-direction d o; level = square-cross n d }

  quarter-apart : (d : Vector) → IsOnCircle n d → IsDirection (cross d (quarter d))
  quarter-apart d o z = quarter-direction d o (nought-if d (quarter d) o.direction z (level_cross_second n d))

  -- what is parallel to d isn't parallel to that
  quarter-past : (d e : Vector) → IsOnCircle n d → IsOnCircle n e → IsZero (cross d e) → IsDirection (cross (quarter d) e)
  quarter-past d e o p z w = quarter-apart d o (parallel-trans d e (quarter d) p.direction z (cross-turned (quarter d) e w))

  between-on : (d e : Vector) (i j : ℕ) → 0 < j → IsOnCircle n d → IsOnCircle n e → IsDirection (cross d e) → IsOnCircle n (blend i d j e)
  between-on d e i j sj o p h = record {
    direction = between-direction d e i j sj h;
    level = dot-comb n (pos i) d (pos j) e ∙ ap (λ r. pos i *ℤ r +ℤ pos j *ℤ dot n e) o.level ∙ ap (λ r. pos i *ℤ pos 0 +ℤ pos j *ℤ r) p.level ∙ ring (pos i ∷ pos j ∷ []) (at 0 ⊗ num (pos 0) ⊕ at 1 ⊗ num (pos 0)) (num (pos 0)) tt;
  }

-- ---- a circle of free directions
module _ (M : Map) (V : Valid M) (n : Vector) (hn : IsDirection n) (free : (d : Vector) → IsOnCircle n d → IsFree M d) where
  clear-on : (d e : Vector) → IsOnCircle n d → IsOnCircle n e → IsDirection (cross d e) → IsClear M d e
  clear-on d e o p h = record {
    start = free d o;
    direction = p.direction;
    short = λ q. h q.parallel;
    between = λ i j si sj. free (blend i d j e) (between-on n hn d e i j sj o p h);
  }

  apart-label : (d e : Vector) (m : Label) → IsOnCircle n d → IsOnCircle n e → IsDirection (cross d e) → MapLabel M d m → MapLabel M e m
  apart-label d e m o p h a =
      let b = label-exists M V e p.direction in
      subst (MapLabel M e) (sym (clear-label M V d e (clear-on d e o p h) (free e p) m b.0 a b.1)) b.1

  pub one-label : (d e : Vector) (m : Label) → IsOnCircle n d → IsOnCircle n e → MapLabel M d m → MapLabel M e m
  one-label d e m o p a = by (zero-decided (cross d e))
    where
      by : Decided (IsZero (cross d e)) → MapLabel M e m
      by (inr h) = apart-label d e m o p h a
      by (inl z) = apart-label (cross n d) e m (quarter-on n hn d o) p (quarter-past n hn d e o p z) (apart-label d (cross n d) m o (quarter-on n hn d o) (quarter-apart n hn d o) a)

  pub near-circle : (d e f : Vector) (m : Label) → IsOnCircle n d → IsOnCircle n e → MapLabel M d m → NearLabel M e f m
  near-circle d e f m o p a = near-free M V e (free e p) m (one-label d e m o p a) f

-- ---- an uncrossed circle
module _ (M : Map) (V : Valid M) (O : Ordered M) (n : Vector) (N : IsNormal n) (P : IsPrimitive n) (U : IsUncrossed M n) where
  -- an item that meets the circle has its normal
  item-normal : (k : ℕ) (x : Item) (d : Vector) → IsAt (items M) k x → OnItem M x d → dot n d ≡ pos 0 → n ≡ item_normal x
  item-normal k x d a o z = by (beside n (item_normal x) (normal-direction n N) (normal-direction (item_normal x) (V.shaped.normals k x a)) (U.items k x d a o z))
    where
      by : Beside n (item_normal x) → n ≡ item_normal x
      by (same_way w) = lowest-same n (item_normal x) w P (O.normals_lowest k x a)
      by (other_way w) = absurd (normals-not_opposite n (item_normal x) N (V.shaped.normals k x a) w)

  -- it is no arc, whose source would lie on the circle
  off-item : ((l : MapSloop) → M.sloop ≡ Some l → l.normal ≡ n → ⊥) → (k : ℕ) (x : Item) (d : Vector) → IsAt (items M) k x → OnItem M x d → dot n d ≡ pos 0 → ⊥
  off-item absent k (sloop_item l) d a o z = absent l (sloop-at M.arcs M.sloop k l a) (sym (item-normal k (sloop_item l) d a o z))
  off-item absent k (arc_item r) d a o z =
      let b = V.shaped.arcs_between k r (arc-at M.arcs M.sloop k r a) in
      U.svertices r.source b.source b.has_source (subst (λ (m : Vector). dot m b.source.dir ≡ pos 0) (sym (item-normal k (arc_item r) d a o z)) b.level_source)

  -- where the map has no sloop on it, its directions are free
  pub free-circle : ((l : MapSloop) → M.sloop ≡ Some l → l.normal ≡ n → ⊥) → (d : Vector) → IsOnCircle n d → IsFree M d
  free-circle absent d o = record {
    direction = o.direction;
    off_svertices = λ k v a w. U.svertices k v a (level-way n d v.dir (SameDirection-turned v.dir d w) o.level);
    off_items = λ k x a p. off-item absent k x d a p o.level;
  }

-- ---- a sloop
dot-opposite : (n : Vector) → dot n (opposite n) ≡ pos 0 -ℤ dot n n
dot-opposite n = ring (n.x ∷ n.y ∷ n.z ∷ []) (at 0 ⊗ neg (at 0) ⊕ at 1 ⊗ neg (at 1) ⊕ at 2 ⊗ neg (at 2)) (num (pos 0) ⊖ (at 0 ⊗ at 0 ⊕ at 1 ⊗ at 1 ⊕ at 2 ⊗ at 2)) tt

module _ (M : Map) (V : Valid M) (l : MapSloop) (e : M.sloop ≡ Some l) where
  number : (k : ℕ) × IsAt (items M) k (sloop_item l)
  number = at-sloop M.arcs M.sloop l e

  normal-way : IsDirection l.normal
  normal-way = normal-direction l.normal (V.shaped.normals number.0 (sloop_item l) number.1)

  pub sloop-mark : (d : Vector) → IsOnCircle l.normal d → MapLabel M d l.mark
  sloop-mark d o = on_item number.0 (sloop_item l) number.1 o refl

  pub sloop-pos : (d : Vector) → IsOnCircle l.normal d → NearLabel M d l.normal l.pos
  sloop-pos d o = subst (NearLabel M d l.normal) (ap (by_side l.pos l.mark l.neg) (sign-plus (dot l.normal l.normal) (self-pos l.normal normal-way))) (near-item M V d number.0 (sloop_item l) number.1 o l.normal)

  pub sloop-neg : (d : Vector) → IsOnCircle l.normal d → NearLabel M d (opposite l.normal) l.neg
  sloop-neg d o =
      let p = self-pos l.normal normal-way in let q = dot-opposite l.normal in
      subst (NearLabel M d (opposite l.normal)) (ap (by_side l.pos l.mark l.neg) (sign-minus (dot l.normal (opposite l.normal)) (omega (arith, ints)))) (near-item M V d number.0 (sloop_item l) number.1 o (opposite l.normal))

-- What sides see: the same way, some direction each, everything where there is nothing.
use Rattle.law_geometry.proofs.complex.links.Prelude.{◌≡◌, ℕ, ◌*◌, ◌<◌, ◌≤◌, pos, ◌*ℤ◌, ◌<ℤ◌, arith, ap, sym, ◌∙◌, ⊎_elim, List, ◌∷◌, subst, Some, [], ints, mul-pos, sign, at, neg, ◌⊕◌, ◌⊗◌, given, none, follows, sign-scaled, mul_pos, Vector, vector, opposite, blend, dot, cross, IsDirection, SameDirection, IsOpposite, Label, SameUpToFactor, of_direction, same-factor, same-nought, forms, Keeps, IsAt, MapVertex, Map, Item, arc_item, sloop_item, items, item_normal, OnItem, IsFree, Side, around_svertex, pos_item, neg_item, whole, HasSide, IsClear, Reaches, Sees, directly, by_way_of, HasArc, Shaped, dot-comb, normal-is, same-plus, same-minus, amount, far-keeps, far-level, axes-forms, free-by_signs, on-direction, on-level, circle-point, arc-at, item-point, keeps-between, kept-not_opposite, Beside, same_way, other_way, beside, free-beside, between-direction, ends-of, sloop-at, sees-around, dot-comm, zero-decided, dot-zero, self-pos, nought-if, dir-signs, opposite-turned, parallel-trans, dot-opposite, direction-right, blend-turned, is-at_none}
use Rattle.law_geometry.proofs.sphere.Direct.{between-off_target}
use Rattle.law_geometry.proofs.sphere.Sight.{clear-self}

-- ---- the same way
module _ (M : Map) (d e : Vector) (w : SameDirection d e) where
  clear-way : (y : Vector) → IsClear M d y → IsClear M e y
  clear-way y c = record {
    start = free-by_signs M d e (λ g l. dir-signs d e g c.start.direction w) c.start;
    direction = c.direction;
    short = λ o. c.short (record {
      parallel = parallel-trans d e y (direction-right d e w) w.parallel o.parallel;
      backward =
          let h = o.backward in
          let p = dot-comm e y in
          let q = dot-comm d y in
          let m = same-minus (dot y e) (dot y d) (sym (dir-signs d e y c.start.direction w)) (omega (arith, ints)) in
          omega (arith, ints);
    });
    between = λ i j si sj.
        let f = same-factor d e w in
        free-by_signs M (blend (i * f.k) d (f.l * j) y) (blend i e j y) (λ g l. same f i j g) (c.between (i * f.k) (f.l * j) (mul-pos si f.some_k) (mul-pos f.some_l sj));
  }
    where
      level : (f : SameUpToFactor (of_direction d) (of_direction e)) (g : Vector) → pos f.k *ℤ dot g d ≡ pos f.l *ℤ dot g e
      level f g = follows (g.x ∷ g.y ∷ g.z ∷ d.x ∷ d.y ∷ d.z ∷ e.x ∷ e.y ∷ e.z ∷ pos f.k ∷ pos f.l ∷ [])
          (at 9 ⊗ (at 0 ⊗ at 3 ⊕ at 1 ⊗ at 4 ⊕ at 2 ⊗ at 5)) (at 10 ⊗ (at 0 ⊗ at 6 ⊕ at 1 ⊗ at 7 ⊕ at 2 ⊗ at 8))
          (given (at 0) (at 9 ⊗ at 3) (at 10 ⊗ at 6) f.is_x (given (at 1) (at 9 ⊗ at 4) (at 10 ⊗ at 7) f.is_y (given (at 2) (at 9 ⊗ at 5) (at 10 ⊗ at 8) f.is_z none))) tt

      same : (f : SameUpToFactor (of_direction d) (of_direction e)) (i j : ℕ) (g : Vector) → sign (dot g (blend i e j y)) ≡ sign (dot g (blend (i * f.k) d (f.l * j) y))
      same f i j g =
          let q = follows (pos f.k ∷ pos f.l ∷ pos i ∷ pos j ∷ dot g d ∷ dot g e ∷ dot g y ∷ [])
          (at 1 ⊗ (at 2 ⊗ at 5 ⊕ at 3 ⊗ at 6)) (at 2 ⊗ at 0 ⊗ at 4 ⊕ at 1 ⊗ at 3 ⊗ at 6) (given (neg (at 2)) (at 0 ⊗ at 4) (at 1 ⊗ at 5) (level f g) none) tt in
          sym (sign-scaled (pos f.l) (dot g (blend i e j y)) (let h = f.some_l in omega (arith, ints)))
          ∙ ap sign (ap (λ r. pos f.l *ℤ r) (dot-comb g (pos i) e (pos j) y) ∙ q ∙ sym (dot-comb g (pos (i * f.k)) d (pos (f.l * j)) y))

  reaches-way : (o : Side) (y : Vector) → IsDirection d → Reaches M o d y → Reaches M o e y
  reaches-way (around_svertex k) y i r = r
  reaches-way (pos_item k) y i (x, a, o, h) = (x, a, o, same-plus (dot (item_normal x) d) (dot (item_normal x) e) (dir-signs d e (item_normal x) i w) h)
  reaches-way (neg_item k) y i (x, a, o, h) = (x, a, o, same-minus (dot (item_normal x) d) (dot (item_normal x) e) (dir-signs d e (item_normal x) i w) h)
  reaches-way whole y i r = tt

  pub sees-way : (o : Side) → Sees M o d → Sees M o e
  sees-way o (directly y c r) = directly y (clear-way y c) (reaches-way o y c.start.direction r)
  sees-way o (by_way_of c y a b r) = by_way_of c y (clear-way c a) b r

pub seen-free : (M : Map) (o : Side) (d : Vector) → Sees M o d → IsFree M d
seen-free M o d (directly y c r) = c.start
seen-free M o d (by_way_of c y a b r) = a.start

-- ---- blends
-- of two directions that aren't opposite
pub blend-direction : (d e : Vector) (i j : ℕ) → 0 < i → 0 < j → IsDirection d → IsDirection e → (IsOpposite d e → ⊥) → IsDirection (blend i d j e)
blend-direction d e i j si sj hd he off = ⊎_elim (λ z. by (beside d e hd he z)) (λ f. between-direction d e i j sj f) (zero-decided (cross d e))
  where
    by : Beside d e → IsDirection (blend i d j e)
    by (same_way w) = λ z.
        let p = mul_pos (pos i) (dot d d) (omega (arith, ints)) (self-pos d hd) in
        let q = mul_pos (pos j) (dot d e) (omega (arith, ints)) w.forward in
        let r = sym (dot-comb d (pos i) d (pos j) e) ∙ dot-zero d (blend i d j e) z in
        omega (arith, ints)
    by (other_way o) = absurd (off o)

-- ---- beside an item
-- f leads to one side of the item's plane; close to the item toward f all see that side of it
module _ (M : Map) (V : Shaped M) (k : ℕ) (x : Item) (a : IsAt (items M) k x) (c f : Vector) (on : OnItem M x c) (off : dot (item_normal x) f ≡ pos 0 → ⊥) (K : ℕ) (large : amount (forms M) f ≤ K) where
  abbrev g : Vector
  g = blend K c 1 f

  keeps : Keeps (forms M) c g
  keeps = far-keeps (forms M) c f K large

  turn : sign (dot (item_normal x) g) ≡ sign (dot (item_normal x) f)
  turn = far-level (forms M) c f K large (item_normal x) (on-level M x c on)

  off-plane : dot (item_normal x) g ≡ pos 0 → ⊥
  off-plane z = off (same-nought (dot (item_normal x) g) (dot (item_normal x) f) (sym turn) z)

  clear : IsClear M g c
  clear = record {
    start = free-beside M V c g keeps k x a on off-plane;
    direction = on-direction M x c on;
    short = λ q. kept-not_opposite c g (λ h l. keeps h (axes-forms M h l)) (opposite-turned g c q);
    between = λ i j si sj. free-beside M V c (blend i g j c) (subst (Keeps (forms M) c) (blend-turned j i c g) (keeps-between (forms M) c g j i sj si keeps)) k x a on
        (between-off_target (item_normal x) g c i j si (on-level M x c on) off-plane);
  }

  pub sees-pos : pos 0 <ℤ dot (item_normal x) f → Sees M (pos_item k) g
  sees-pos h = directly c clear (x, a, on, same-plus (dot (item_normal x) f) (dot (item_normal x) g) turn h)

  pub sees-neg : dot (item_normal x) f <ℤ pos 0 → Sees M (neg_item k) g
  sees-neg h = directly c clear (x, a, on, same-minus (dot (item_normal x) f) (dot (item_normal x) g) turn h)

-- a svertex with its own side has no arc
pub lone-of : (M : Map) → Shaped M → (k : ℕ) (u : MapVertex) (l : Label) → IsAt M.svertices k u → u.around ≡ Some l → HasArc M k → ⊥
lone-of M V k u l a e h = let f = sym e ∙ V.around_not k u a h in cc

-- ---- a map with a side of the whole sphere has nothing on it
pub free-whole : (M : Map) → Shaped M → (l : Label) → M.ground ≡ Some l → (d : Vector) → IsDirection d → IsFree M d
free-whole M V l e d i = record {
  direction = i;
  off_svertices = λ k v a w. none k v a;
  off_items = off;
}
  where
    none : (k : ℕ) (v : MapVertex) → IsAt M.svertices k v → ⊥
    none k v a = is-at_none (subst (λ (vs : List MapVertex). IsAt vs k v) (let g = V.ground_not l e in g.0) a)

    off : (k : ℕ) (x : Item) → IsAt (items M) k x → OnItem M x d → ⊥
    off k (arc_item r) a o = let E = ends-of M V k r (arc-at M.arcs M.sloop k r a) in none r.source E.source E.has_source
    off k (sloop_item r) a o = let f = sym (sloop-at M.arcs M.sloop k r a) ∙ (let g = V.ground_not l e in g.1) in cc

-- a direction that isn't parallel to u
pub aside : (u : Vector) → IsDirection u → (f : Vector) × IsDirection (cross u f) × (dot u f ≡ pos 0)
aside u i = let c = circle-point u i in (c.0, (λ z. c.1.direction (nought-if u c.0 i z c.1.level)), c.1.level)

-- ---- each side sees some direction
pub side-sees : (M : Map) → Shaped M → (o : Side) (l : Label) → HasSide M o l → (d : Vector) × Sees M o d
side-sees M V (around_svertex k) l (u, a, e) =
    let f = aside u.dir (V.svertex_dirs k u a) in
    let K = amount (forms M) f.0 in
    (blend K u.dir 1 f.0, sees-around M V k u a (lone-of M V k u l a e) f.0 K (omega arith) f.1)
side-sees M V (pos_item k) l (x, a, e) =
    let n = item_normal x in
    let y = item-point M V k x a in
    let K = amount (forms M) n in
    let h = self-pos n (normal-is V k x a) in
    (blend K y.0 1 n, sees-pos M V k x a y.0 n y.1 (λ z. omega (arith, ints)) K (omega arith) h)
side-sees M V (neg_item k) l (x, a, e) =
    let n = item_normal x in
    let f = opposite n in
    let y = item-point M V k x a in
    let K = amount (forms M) f in
    let h = self-pos n (normal-is V k x a) in
    let r = dot-opposite n n in
    (blend K y.0 1 f, sees-neg M V k x a y.0 f y.1 (λ z. omega (arith, ints)) K (omega arith) (omega (arith, ints)))
side-sees M V whole l e =
    let d = vector (pos 1) (pos 0) (pos 0) in
    let F = free-whole M V l e d (λ z. let q = z.0 in omega (arith, ints)) in
    (d, directly d (clear-self M d F) tt)

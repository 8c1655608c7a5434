-- A free direction that isn't in the plane of some item is seen directly by a side.
use Rattle.law_geometry.proofs.sphere.Prelude.{◌≡◌, ℕ, ◌<◌, ℤ, pos, ◌+ℤ◌, ◌-ℤ◌, ◌*ℤ◌, ◌<ℤ◌, arith, refl, ap, sym, ◌∙◌, inl, inr, ⊎_elim, List, ◌∷◌, ◌++◌, [], ints, ring, at, num, ◌⊕◌, ◌⊖◌, ◌⊗◌, sign, by_order, sign-scaled, nought-or, square_pos, Lies, Vector, IsDirection, cross, dot, IsZero, SameDirection, blend, Label, combination, IsAt, MapVertex, Map, Item, items, item_normal, item_pos, item_neg, OnItem, IsFree, Side, pos_item, neg_item, HasSide, IsClear, Reaches, Shaped, lies-left, lies-right, apart, blend_of, cross_of, dot-comm, numbers, square-cross, vec}
use Rattle.law_geometry.proofs.sphere.Vectors.{normal-is, dot-comb, comb-dot, direction-by}
use Rattle.law_geometry.proofs.sphere.Generic.{Keeps, Generic, generic}
use Rattle.law_geometry.proofs.sphere.Lists.{gather, gather-has}
use Rattle.law_geometry.proofs.sphere.Forms.{item_forms, on-direction, on-level, OnItem-stays}
use Rattle.law_geometry.proofs.sphere.Parallel.{miss}
use Rattle.law_geometry.proofs.sphere.Shot.{product-off, item-point, Target, Shot, shoot}

-- ---- between d and c
pub IsZero-times : (k : ℤ) (d : Vector) → pos 0 <ℤ k → (k *ℤ d.x ≡ pos 0) → (k *ℤ d.y ≡ pos 0) → (k *ℤ d.z ≡ pos 0) → IsZero d
IsZero-times k d h a b c = (one d.x a, one d.y b, one d.z c)
  where
    one : (x : ℤ) → k *ℤ x ≡ pos 0 → x ≡ pos 0
    one x e = ⊎_elim (λ y. y) (λ f. absurd (product-off k x h f e)) (nought-or x)

-- d x (i d + j c) = j (d x c)
pub cross-between : (d c : Vector) (i j : ℕ) → 0 < j → IsDirection (cross d c) → IsDirection (cross d (blend i d j c))
cross-between d c i j sj f z =
    let xs = pos i ∷ pos j ∷ numbers d c c c in let k = cross_of (vec 2) (vec 5) in let b = cross_of (vec 2) (blend_of (at 0) (vec 2) (at 1) (vec 5)) in
    f (IsZero-times (pos j) (cross d c) (omega (arith, ints)) (ring xs (at 1 ⊗ k.0) b.0 tt ∙ z.0) (ring xs (at 1 ⊗ k.1) b.1 tt ∙ z.1) (ring xs (at 1 ⊗ k.2) b.2 tt ∙ z.2))

pub cross-self : (u v : Vector) → dot (cross u v) u ≡ pos 0
cross-self u v = dot-comm (cross u v) u ∙ square-cross u v

-- a form that is nought at d is nought between only where it is at c
pub between-off : (g d c : Vector) (i j : ℕ) → 0 < j → dot g d ≡ pos 0 → (dot g c ≡ pos 0 → ⊥) → dot g (blend i d j c) ≡ pos 0 → ⊥
between-off g d c i j sj z f e =
    let a = dot-comb g (pos i) d (pos j) c in
    let b = ap (λ r. pos i *ℤ r) z in
    product-off (pos j) (dot g c) (omega (arith, ints)) f (omega (arith, ints))

pub between-off_target : (g d c : Vector) (i j : ℕ) → 0 < i → dot g c ≡ pos 0 → (dot g d ≡ pos 0 → ⊥) → dot g (blend i d j c) ≡ pos 0 → ⊥
between-off_target g d c i j si z f e =
    let a = dot-comb g (pos i) d (pos j) c in
    let b = ap (λ r. pos j *ℤ r) z in
    product-off (pos i) (dot g d) (omega (arith, ints)) f (omega (arith, ints))

-- the way from d to c misses v
pub miss-between : (d v c : Vector) (i j : ℕ) → 0 < j → IsDirection v → (IsDirection (cross d v) → dot (cross d v) c ≡ pos 0 → ⊥) → IsDirection (cross d c) → SameDirection v (blend i d j c) → ⊥
miss-between d v c i j sj h off f m = miss d v (blend i d j c) h (λ g. between-off (cross d v) d c i j sj (cross-self d v) (off g)) (cross-between d c i j sj f) m

-- ---- a target in general position
-- the form that takes on e the value that g takes on (n.d)^2 e - (n.d)(n.e) d, which lies in the plane of n
abbrev pub slid_form : Vector → Vector → Vector → Vector
slid_form n d g = combination (dot n d *ℤ dot n d) g (pos 0 -ℤ dot n d *ℤ dot g d) n

abbrev pub slid : Vector → Vector → Vector → Vector
slid n d e = combination (dot n d *ℤ dot n d) e (pos 0 -ℤ dot n d *ℤ dot n e) d

pub slid-is : (n d g e : Vector) → dot g (slid n d e) ≡ dot (slid_form n d g) e
slid-is n d g e = dot-comb g (dot n d *ℤ dot n d) e (pos 0 -ℤ dot n d *ℤ dot n e) d
    ∙ ring (dot n d ∷ dot n e ∷ dot g d ∷ dot g e ∷ []) (at 0 ⊗ at 0 ⊗ at 3 ⊕ (num (pos 0) ⊖ at 0 ⊗ at 1) ⊗ at 2) (at 0 ⊗ at 0 ⊗ at 3 ⊕ (num (pos 0) ⊖ at 0 ⊗ at 2) ⊗ at 1) tt
    ∙ sym (comb-dot (dot n d *ℤ dot n d) g (pos 0 -ℤ dot n d *ℤ dot g d) n e)

pub slid-level : (n d e : Vector) → dot n (slid n d e) ≡ pos 0
slid-level n d e = dot-comb n (dot n d *ℤ dot n d) e (pos 0 -ℤ dot n d *ℤ dot n e) d ∙ ring (dot n d ∷ dot n e ∷ []) (at 0 ⊗ at 0 ⊗ at 1 ⊕ (num (pos 0) ⊖ at 0 ⊗ at 1) ⊗ at 0) (num (pos 0)) tt

-- a form that is nought at d
pub slid-square : (n d g e : Vector) → dot g d ≡ pos 0 → dot g (slid n d e) ≡ dot n d *ℤ dot n d *ℤ dot g e
slid-square n d g e z = dot-comb g (dot n d *ℤ dot n d) e (pos 0 -ℤ dot n d *ℤ dot n e) d ∙ ap (λ r. dot n d *ℤ dot n d *ℤ dot g e +ℤ (pos 0 -ℤ dot n d *ℤ dot n e) *ℤ r) z
    ∙ ring (dot n d ∷ dot n e ∷ dot g e ∷ []) (at 0 ⊗ at 0 ⊗ at 2 ⊕ (num (pos 0) ⊖ at 0 ⊗ at 1) ⊗ num (pos 0)) (at 0 ⊗ at 0 ⊗ at 2) tt

-- at a point of the plane of n
pub slid_form-at : (n d g y : Vector) → dot n y ≡ pos 0 → dot (slid_form n d g) y ≡ dot n d *ℤ dot n d *ℤ dot g y
slid_form-at n d g y z = comb-dot (dot n d *ℤ dot n d) g (pos 0 -ℤ dot n d *ℤ dot g d) n y ∙ ap (λ r. dot n d *ℤ dot n d *ℤ dot g y +ℤ (pos 0 -ℤ dot n d *ℤ dot g d) *ℤ r) z
    ∙ ring (dot n d ∷ dot g d ∷ dot g y ∷ []) (at 0 ⊗ at 0 ⊗ at 2 ⊕ (num (pos 0) ⊖ at 0 ⊗ at 1) ⊗ num (pos 0)) (at 0 ⊗ at 0 ⊗ at 2) tt

module _ (M : Map) (V : Shaped M) (d : Vector) (k : ℕ) (x : Item) (here : IsAt (items M) k x) (f : dot (item_normal x) d ≡ pos 0 → ⊥) where
  abbrev n : Vector
  n = item_normal x

  abbrev spots : List Vector
  spots = gather (λ (v : MapVertex). cross d v.dir ∷ []) M.svertices

  abbrev planes : List Vector
  planes = gather (λ (y : Item). item_normal y ∷ []) (items M)

  abbrev slides : List Vector
  slides = gather (λ (g : Vector). slid_form n d g ∷ []) (item_forms M x)

  abbrev avoided : List Vector
  avoided = spots ++ (planes ++ slides)

  spot-in : (l : ℕ) (v : MapVertex) → IsAt M.svertices l v → Lies avoided (cross d v.dir)
  spot-in l v a = lies-left spots (planes ++ slides) (cross d v.dir) (gather-has (λ (v : MapVertex). cross d v.dir ∷ []) M.svertices l v (cross d v.dir) a (inl refl))

  plane-in : (l : ℕ) (y : Item) → IsAt (items M) l y → Lies avoided (item_normal y)
  plane-in l y a = lies-right spots (planes ++ slides) (item_normal y) (lies-left planes slides (item_normal y) (gather-has (λ (y : Item). item_normal y ∷ []) (items M) l y (item_normal y) a (inl refl)))

  slide-in : (g : Vector) → Lies (item_forms M x) g → Lies avoided (slid_form n d g)
  slide-in g l = lies-right spots (planes ++ slides) (slid_form n d g) (lies-right planes slides (slid_form n d g) (has (item_forms M x) l))
    where
      has : (gs : List Vector) → Lies gs g → Lies (gather (λ (g : Vector). slid_form n d g ∷ []) gs) (slid_form n d g)
      has [] l = absurd l
      has (h ∷ gs) (inl e) = inl (ap (slid_form n d) e)
      has (h ∷ gs) (inr l) = inr (has gs l)

  square : pos 0 <ℤ (dot n d *ℤ dot n d)
  square = square_pos (dot n d) f

  start_target : (y : Vector) → OnItem M x y → (e : Generic avoided y) → Target M d (slid n d e.vector)
  start_target y o e = record {
    number = k;
    item = x;
    listed = here;
    on = OnItem-stays M x y (slid n d e.vector) kept (slid-level n d e.vector) o;
    across = f;
    flat = λ l z h a b. product-off (dot n d *ℤ dot n d) (dot (item_normal z) e.vector) square (e.off (item_normal z) (plane-in l z h) (normal-is V l z h)) (sym (slid-square n d (item_normal z) e.vector a) ∙ b);
    off = λ l v h g b. product-off (dot n d *ℤ dot n d) (dot (cross d v.dir) e.vector) square (e.off (cross d v.dir) (spot-in l v h) g) (sym (slid-square n d (cross d v.dir) e.vector (cross-self d v.dir)) ∙ b);
  }
    where
      kept : Keeps (item_forms M x) y (slid n d e.vector)
      kept g l h =
          let a = slid_form-at n d g y (on-level M x y o) in
          ap sign (slid-is n d g e.vector) ∙ e.keeps (slid_form n d g) (slide-in g l) (λ z. product-off (dot n d *ℤ dot n d) (dot g y) square h (sym a ∙ z))
          ∙ ap sign a ∙ sign-scaled (dot n d *ℤ dot n d) (dot g y) square

  shot : Shot M d (items M)
  shot = let y = item-point M V k x here in let e = generic avoided y.0 in
      shoot M d (slid n d e.vector) (start_target y.0 y.1 e) (items M) (λ l z a. (l, a))

-- a side sees d directly, at y
pub record Direct (M : Map) (d : Vector) : Type 0 where
  pub side : Side
  pub label : Label
  pub has : HasSide M side label
  pub point : Vector
  pub clear : IsClear M d point
  pub reached : Reaches M side d point

module _ (M : Map) (V : Shaped M) (d : Vector) (F : IsFree M d) where
  target-clear : (s : Shot M d (items M)) → IsClear M d s.at_vector
  target-clear s =
      let t = s.target in
      let c = s.at_vector in
      let g = item_normal t.item in
      let l = on-level M t.item c t.on in
      let h = apart g d c t.across l (on-direction M t.item c t.on) in
      record {
        start = F;
        direction = on-direction M t.item c t.on;
        short = λ o. h o.parallel;
        between = λ i j si sj. record {
          direction = direction-by g (blend i d j c) (between-off_target g d c i j si l t.across);
          off_svertices = λ k v a m. miss-between d v.dir c i j sj (V.svertex_dirs k v a) (t.off k v a) h m;
          off_items = λ k x a o. s.unmet k x a i j si sj o;
        };
      }

  pub direct : (k : ℕ) (x : Item) → IsAt (items M) k x → (dot (item_normal x) d ≡ pos 0 → ⊥) → Direct M d
  direct k x h f =
      let s = shot M V d k x h f in
      let t = s.target in
      by_order (dot (item_normal t.item) d) (pos 0)
      (λ l. record { side = neg_item t.number; label = item_neg t.item; has = (t.item, t.listed, refl); point = s.at_vector; clear = target-clear s; reached = (t.item, t.listed, t.on, l) })
      (λ e. absurd (t.across e))
      (λ l. record { side = pos_item t.number; label = item_pos t.item; has = (t.item, t.listed, refl); point = s.at_vector; clear = target-clear s; reached = (t.item, t.listed, t.on, l) })

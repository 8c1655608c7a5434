-- The first thing that is met on the way from a free direction to a well chosen point of an item, from a definite side.
use Rattle.law_geometry.proofs.sphere.Prelude.{◌≡◌, ℕ, zero, suc, ◌+◌, ◌*◌, ◌<◌, ℤ, pos, ◌+ℤ◌, ◌*ℤ◌, ◌<ℤ◌, nat_abs, arith, refl, ap, sym, ◌∙◌, ⊎_elim, List, ◌∷◌, subst, Option, Some, None, [], ints, unsigned_abs-mul, mul-pos, ring, at, num, ◌⊕◌, ◌⊗◌, sign, nought-is, by_order, nought-or, Vector, IsDirection, cross, dot, blend, sign-scaled, IsAt, MapVertex, Arc, MapSloop, Map, Item, arc_item, sloop_item, items, items_then, item_normal, dir_of, OnItem, Shaped, dot-comm, left-of, square-cross, is-at_none, is-at_first}
use Rattle.law_geometry.proofs.sphere.Vectors.{normal-is, dot-comb}
use Rattle.law_geometry.proofs.sphere.Generic.{SameSigns, amount}
use Rattle.law_geometry.proofs.sphere.Forms.{item_forms, on-level, OnItem-decided, OnItem-by_signs}
use Rattle.law_geometry.proofs.sphere.Parallel.{circle-point, past_source, arc-point}

pub product-off : (k x : ℤ) → pos 0 <ℤ k → (x ≡ pos 0 → ⊥) → k *ℤ x ≡ pos 0 → ⊥
product-off k x h f z = f (nought-is x (sym (sign-scaled k x h) ∙ ap sign z))

-- ---- lists of a map
pub dir-at : (vs : List MapVertex) (k : ℕ) (v : MapVertex) → IsAt vs k v → dir_of vs k ≡ v.dir
dir-at [] k v a = absurd (is-at_none a)
dir-at (u ∷ vs) zero v e = ap (λ (r : MapVertex). r.dir) (is-at_first e)
dir-at (u ∷ vs) (suc k) v a = dir-at vs k v a

pub arc-at : (as' : List Arc) (o : Option MapSloop) (k : ℕ) (a : Arc) → IsAt (items_then as' o) k (arc_item a) → IsAt as' k a
arc-at [] None k a h = absurd (is-at_none h)
arc-at [] (Some l) zero a e = cc
arc-at [] (Some l) (suc k) a h = absurd (is-at_none h)
arc-at (b ∷ as') o zero a e = ap (λ (x : Item). Some (arc_of x)) (is-at_first e)
  where
    arc_of : Item → Arc
    arc_of (arc_item x) = x
    arc_of (sloop_item l) = b
arc-at (b ∷ as') o (suc k) a h = arc-at as' o k a h

-- each item of a valid map has a point
pub item-point : (M : Map) → Shaped M → (k : ℕ) (x : Item) → IsAt (items M) k x → (y : Vector) × OnItem M x y
item-point M V k (sloop_item l) h = circle-point l.normal (normal-is V k (sloop_item l) h)
item-point M V k' (arc_item a) h =
    let b = V.arcs_between k' a (arc-at M.arcs M.sloop k' a h) in
    let e = sym (dir-at M.svertices a.source b.source b.has_source) in
    let f = sym (dir-at M.svertices a.target b.target b.has_target) in
    let n = a.normal in
    let u = dir_of M.svertices a.source in
    let w = dir_of M.svertices a.target in
    let k = amount (cross w n ∷ []) (cross n u) in (
      past_source n u k,
      arc-point n u w (normal-is V k' (arc_item a) h)
          (subst IsDirection e (V.svertex_dirs a.source b.source b.has_source)) (subst IsDirection f (V.svertex_dirs a.target b.target b.has_target))
          (subst (λ (r : Vector). dot n r ≡ pos 0) e b.level_source) (subst (λ (r : Vector). dot n r ≡ pos 0) f b.level_target) k (omega arith),
    )

-- ---- the way from d
module _ (M : Map) (d : Vector) where
  -- the target c lies on an item whose plane d isn't in, and the way to it meets no svertex and runs along no item
  pub record Target (c : Vector) : Type 0 where
    pub number : ℕ
    pub item : Item
    pub listed : IsAt (items M) number item
    pub on : OnItem M item c
    pub across : dot (item_normal item) d ≡ pos 0 → ⊥
    pub flat : (k : ℕ) (x : Item) → IsAt (items M) k x → dot (item_normal x) d ≡ pos 0 → dot (item_normal x) c ≡ pos 0 → ⊥
    pub off : (k : ℕ) (v : MapVertex) → IsAt M.svertices k v → IsDirection (cross d v.dir) → dot (cross d v.dir) c ≡ pos 0 → ⊥

  abbrev pub Unmet : Vector → Item → Type 0
  Unmet c x = (i j : ℕ) → 0 < i → 0 < j → OnItem M x (blend i d j c) → ⊥

  module _ (k : ℕ) (x : Item) (here : IsAt (items M) k x) (c : Vector) (t : Target c) where
    abbrev n : Vector
    n = item_normal x

    abbrev p : ℕ
    p = nat_abs (dot n d)

    abbrev q : ℕ
    q = nat_abs (dot n c)

    -- where the way meets the plane of x, if it does
    abbrev meet : Vector
    meet = blend q d p c

    unmet-level : dot n d ≡ pos 0 → Unmet c x
    unmet-level z i j si sj o = t.flat k x here z (by (sym (dot-comb n (pos i) d (pos j) c) ∙ on-level M x (blend i d j c) o))
      where
        by : pos i *ℤ dot n d +ℤ pos j *ℤ dot n c ≡ pos 0 → dot n c ≡ pos 0
        by e = ⊎_elim (λ y. y) (λ f. absurd (product-off (pos j) (dot n c) (omega (arith, ints)) f (let a = ap (λ r. pos i *ℤ r) z in let b = ring (pos i ∷ []) (at 0 ⊗ num (pos 0)) (num (pos 0)) tt in omega (arith, ints)))) (nought-or (dot n c))

    some-p : (dot n d ≡ pos 0 → ⊥) → 0 < p
    some-p f = by_order (dot n d) (pos 0) (λ l. omega (arith, ints)) (λ e. absurd (f e)) (λ l. omega (arith, ints))

    unmet-off : (dot n d ≡ pos 0 → ⊥) → (OnItem M x meet → ⊥) → Unmet c x
    unmet-off f m i j si sj o = m (OnItem-by_signs M x (blend i d j c) meet same o)
      where
        balance : i * p ≡ j * q
        balance =
            let e = sym (dot-comb n (pos i) d (pos j) c) ∙ on-level M x (blend i d j c) o in
            let a = unsigned_abs-mul (pos i) (dot n d) in
            let b = unsigned_abs-mul (pos j) (dot n c) in
            omega (arith, ints)

        -- p (i d + j c) = j meet
        same : SameSigns (item_forms M x) (blend i d j c) meet
        same g l =
            let a = dot-comb g (pos i) d (pos j) c in
            let b = dot-comb g (pos q) d (pos p) c in
            let u = ap (λ r. pos p *ℤ r) a in
            let v = ap (λ r. pos j *ℤ r) b in
            let w = ap (λ (r : ℕ). pos r *ℤ dot g d) balance in
            let e : pos p *ℤ dot g (blend i d j c) ≡ pos j *ℤ dot g meet = u ∙ ring (pos i ∷ pos j ∷ pos p ∷ dot g d ∷ dot g c ∷ []) (at 2 ⊗ (at 0 ⊗ at 3 ⊕ at 1 ⊗ at 4)) (at 0 ⊗ at 2 ⊗ at 3 ⊕ at 1 ⊗ at 2 ⊗ at 4) tt
            ∙ ap (λ r. r +ℤ pos j *ℤ pos p *ℤ dot g c) w ∙ ring (pos q ∷ pos j ∷ pos p ∷ dot g d ∷ dot g c ∷ []) (at 1 ⊗ at 0 ⊗ at 3 ⊕ at 1 ⊗ at 2 ⊗ at 4) (at 1 ⊗ (at 0 ⊗ at 3 ⊕ at 2 ⊗ at 4)) tt ∙ sym v in
            let h = some-p f in
            sym (sign-scaled (pos j) (dot g meet) (omega (arith, ints))) ∙ ap sign (sym e) ∙ sign-scaled (pos p) (dot g (blend i d j c)) (omega (arith, ints))

    -- aim at the meet
    target-meet : (dot n d ≡ pos 0 → ⊥) → OnItem M x meet → Target meet
    target-meet f o = record {
      number = k;
      item = x;
      listed = here;
      on = o;
      across = f;
      flat = λ l y h z e. let a = some-p f in product-off (pos p) (dot (item_normal y) c) (omega (arith, ints)) (t.flat l y h z) (less (item_normal y) z e);
      off = λ l v h g e. let a = some-p f in product-off (pos p) (dot (cross d v.dir) c) (omega (arith, ints)) (t.off l v h g) (less (cross d v.dir) (dot-comm (cross d v.dir) d ∙ square-cross d v.dir) e);
    }
      where
        less : (g : Vector) → dot g d ≡ pos 0 → dot g meet ≡ pos 0 → pos p *ℤ dot g c ≡ pos 0
        less g z e = let a = dot-comb g (pos q) d (pos p) c in let b = ap (λ r. pos q *ℤ r) z in let u = ring (pos q ∷ []) (at 0 ⊗ num (pos 0)) (num (pos 0)) tt in omega (arith, ints)

    unmet-here : (dot n d ≡ pos 0 → ⊥) → OnItem M x meet → Unmet meet x
    unmet-here f o i j si sj y =
        let e = sym (dot-comb n (pos i) d (pos j) meet) ∙ on-level M x (blend i d j meet) y in
        let a = ap (λ r. pos j *ℤ r) (on-level M x meet o) in
        product-off (pos i) (dot n d) (omega (arith, ints)) f (omega (arith, ints))

    unmet-before : (dot n d ≡ pos 0 → ⊥) → (y : Item) → Unmet c y → Unmet meet y
    unmet-before f y u i j si sj o = let a = some-p f in
        u (i + j * q) (j * p) (omega arith) (mul-pos sj a) (subst (OnItem M y) (sym (left-of i j q p d c)) o)

  pub record Shot (xs : List Item) : Type 0 where
    pub at_vector : Vector
    pub target : Target at_vector
    pub unmet : (k : ℕ) (x : Item) → IsAt xs k x → Unmet at_vector x

  pub shoot : (c : Vector) → Target c → (xs : List Item) → ((k : ℕ) (x : Item) → IsAt xs k x → (l : ℕ) × IsAt (items M) l x) → Shot xs
  shoot c t [] sub = record { at_vector = c; target = t; unmet = λ k x a. absurd (is-at_none a) }
  shoot c t (x ∷ xs) sub = by (shoot c t xs (λ k y a. sub (suc k) y a)) (sub zero x refl)
    where
      cons : (c : Vector) → Unmet c x → ((k : ℕ) (y : Item) → IsAt xs k y → Unmet c y) → (k : ℕ) (y : Item) → IsAt (x ∷ xs) k y → Unmet c y
      cons c u f zero y e = subst (λ (r : Item). Unmet c r) (is-at_first e) u
      cons c u f (suc k) y a = f k y a

      by : Shot xs → (l : ℕ) × IsAt (items M) l x → Shot (x ∷ xs)
      by s (l, h) = ⊎_elim
          (λ z. record { at_vector = s.at_vector; target = s.target; unmet = cons s.at_vector (unmet-level l x h s.at_vector s.target z) s.unmet })
          (λ f. ⊎_elim
          (λ o. record {
            at_vector = meet l x h s.at_vector s.target;
            target = target-meet l x h s.at_vector s.target f o;
            unmet = cons (meet l x h s.at_vector s.target) (unmet-here l x h s.at_vector s.target f o) (λ k y a. unmet-before l x h s.at_vector s.target f y (s.unmet k y a));
          })
          (λ m. record { at_vector = s.at_vector; target = s.target; unmet = cons s.at_vector (unmet-off l x h s.at_vector s.target f m) s.unmet })
          (OnItem-decided M x (meet l x h s.at_vector s.target)))
          (nought-or (dot (item_normal x) d))

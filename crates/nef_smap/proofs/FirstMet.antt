-- The way to the first item that is met is clear; and of three meets, the first is before the last.
use Rattle.nef_smap.proofs.Prelude.{◌≡◌, ℕ, ◌<◌, ℤ, pos, ◌+ℤ◌, ◌*ℤ◌, ◌-ℤ◌, ◌<ℤ◌, arith, ap, sym, ◌∙◌, [], ◌∷◌, length, subst, ints, ring, at, num, ◌⊕◌, ◌⊖◌, ◌⊗◌, follows, given, none, sign, by_order, mul_pos, mul_nonneg, square_nonneg, sign-scaled, square_pos, Vector, IsDirection, cross, dot, blend, IsAt, MapVertex, Map, Item, items, item_normal, OnItem, IsFree, IsClear, Shaped, dot-comb, direction-by, same-plus, same-minus, on-level, on-direction, OnItem-by_signs, product-off, slid-level, slid-square, cross-self, miss-between, between-off_target, way_meet, IsMetBefore, IsFirstMet, apart}
use Rattle.nef_space.proofs.Lists.{is-at_within}

-- ---- the order of meets
pub meet-is : (n g a b : Vector) → dot g (way_meet n a b) ≡ dot n a *ℤ (dot n a *ℤ dot g b -ℤ dot n b *ℤ dot g a)
meet-is n g a b = dot-comb g (dot n a *ℤ dot n a) b (pos 0 -ℤ dot n a *ℤ dot n b) a
    ∙ ring (dot n a ∷ dot n b ∷ dot g a ∷ dot g b ∷ []) ((at 0 ⊗ at 0) ⊗ at 3 ⊕ (num (pos 0) ⊖ at 0 ⊗ at 1) ⊗ at 2) (at 0 ⊗ (at 0 ⊗ at 3 ⊖ at 1 ⊗ at 2)) tt

-- x (l (l y - m x)) > 0 says that the ratio l : m is less than x : y in size, where these have opposite signs
ratios-trans : (na nb ma mb la lb : ℤ) → (ma ≡ pos 0 → ⊥) → pos 0 <ℤ (ma *ℤ (la *ℤ (la *ℤ mb -ℤ lb *ℤ ma))) → pos 0 <ℤ (na *ℤ (ma *ℤ (ma *ℤ nb -ℤ mb *ℤ na))) → pos 0 <ℤ (na *ℤ (la *ℤ (la *ℤ nb -ℤ lb *ℤ na)))
ratios-trans na nb ma mb la lb f p q =
    let first = ma *ℤ (la *ℤ (la *ℤ mb -ℤ lb *ℤ ma)) in
    let second = na *ℤ (ma *ℤ (ma *ℤ nb -ℤ mb *ℤ na)) in
    let whole = na *ℤ (la *ℤ (la *ℤ nb -ℤ lb *ℤ na)) in
    let e : (ma *ℤ ma) *ℤ whole ≡ (la *ℤ la) *ℤ second +ℤ (na *ℤ na) *ℤ first = ring (na ∷ nb ∷ ma ∷ mb ∷ la ∷ lb ∷ [])
    ((at 2 ⊗ at 2) ⊗ (at 0 ⊗ (at 4 ⊗ (at 4 ⊗ at 1 ⊖ at 5 ⊗ at 0))))
    ((at 4 ⊗ at 4) ⊗ (at 0 ⊗ (at 2 ⊗ (at 2 ⊗ at 1 ⊖ at 3 ⊗ at 0))) ⊕ (at 0 ⊗ at 0) ⊗ (at 2 ⊗ (at 4 ⊗ (at 4 ⊗ at 3 ⊖ at 5 ⊗ at 2)))) tt in
    let some : na ≡ pos 0 → ⊥ = λ z. let g = ap (λ r. r *ℤ (ma *ℤ (ma *ℤ nb -ℤ mb *ℤ na))) z in let o = ring ((ma *ℤ (ma *ℤ nb -ℤ mb *ℤ na)) ∷ []) (num (pos 0) ⊗ at 0) (num (pos 0)) tt in omega (arith, ints) in
    let u = mul_pos (na *ℤ na) first (square_pos na some) p in
    let w = mul_nonneg (la *ℤ la) second (square_nonneg la) (omega (arith, ints)) in
    same-plus ((ma *ℤ ma) *ℤ whole) whole (sym (sign-scaled (ma *ℤ ma) whole (square_pos ma f))) (omega (arith, ints))

-- z before y and y before x
pub before-trans : (a b : Vector) (z y x : Item) → (dot (item_normal y) a ≡ pos 0 → ⊥) → IsMetBefore a b z y → IsMetBefore a b y x → IsMetBefore a b z x
before-trans a b z y x f p q =
    let n = item_normal x in
    let m = item_normal y in
    let l = item_normal z in
    subst (λ (r : ℤ). pos 0 <ℤ (dot n a *ℤ r)) (sym (meet-is l n a b))
    (ratios-trans (dot n a) (dot n b) (dot m a) (dot m b) (dot l a) (dot l b) f
    (subst (λ (r : ℤ). pos 0 <ℤ (dot m a *ℤ r)) (meet-is l m a b) p) (subst (λ (r : ℤ). pos 0 <ℤ (dot n a *ℤ r)) (meet-is m n a b) q))

pub before-self : (a b : Vector) (x : Item) → IsMetBefore a b x x → ⊥
before-self a b x p =
    let n = item_normal x in
    let e = ap (λ r. dot n a *ℤ r) (slid-level n a b) in
    let o = ring (dot n a ∷ []) (at 0 ⊗ num (pos 0)) (num (pos 0)) tt in omega (arith, ints)

-- ---- the first of all
module _ (M : Map) (V : Shaped M) (a b : Vector) (F : IsFree M a)
    (planes : (l : ℕ) (x : Item) → IsAt (items M) l x → dot (item_normal x) a ≡ pos 0 → ⊥)
    (off : (l : ℕ) (v : MapVertex) → IsAt M.svertices l v → IsDirection (cross a v.dir) → dot (cross a v.dir) b ≡ pos 0 → ⊥)
    (k : ℕ) (first : Item) (listed : IsAt (items M) k first) (f : IsFirstMet M a b (length (items M)) first) where
  abbrev n : Vector
  n = item_normal first

  abbrev start : ℤ
  start = dot n a

  abbrev end : ℤ
  end = dot n b

  abbrev c : Vector
  c = way_meet n a b

  u : start ≡ pos 0 → ⊥
  u = planes k first listed

  level : dot n c ≡ pos 0
  level = on-level M first c f.on

  apart-c : IsDirection (cross a c)
  apart-c = apart n a c u level (on-direction M first c f.on)

  off_c : (l : ℕ) (v : MapVertex) → IsAt M.svertices l v → IsDirection (cross a v.dir) → dot (cross a v.dir) c ≡ pos 0 → ⊥
  off_c l v h g z = product-off (start *ℤ start) (dot (cross a v.dir) b) (square_pos start u) (off l v h g) (sym (slid-square n a (cross a v.dir) b (cross-self a v.dir)) ∙ z)

  module _ (i j : ℕ) (si : 0 < i) (sj : 0 < j) (l : ℕ) (y : Item) (h : IsAt (items M) l y) (o : OnItem M y (blend i a j c)) where
    abbrev m : Vector
    m = item_normal y

    abbrev w : Vector
    w = blend i a j c

    -- w = i' a + j' b
    abbrev i' : ℤ
    i' = pos i -ℤ pos j *ℤ (start *ℤ end)

    abbrev j' : ℤ
    j' = pos j *ℤ (start *ℤ start)

    some-i : pos 0 <ℤ i'
    some-i = let t = mul_nonneg (pos j) (pos 0 -ℤ start *ℤ end) (omega (arith, ints)) (let q = f.not_past in omega (arith, ints)) in
        let e = ring (pos j ∷ (start *ℤ end) ∷ []) (at 0 ⊗ (num (pos 0) ⊖ at 1)) (num (pos 0) ⊖ at 0 ⊗ at 1) tt in omega (arith, ints)

    some-j : pos 0 <ℤ j'
    some-j = mul_pos (pos j) (start *ℤ start) (omega (arith, ints)) (square_pos start u)

    w-is : (g : Vector) → dot g w ≡ i' *ℤ dot g a +ℤ j' *ℤ dot g b
    w-is g = dot-comb g (pos i) a (pos j) c ∙ ap (λ r. pos i *ℤ dot g a +ℤ pos j *ℤ r) (dot-comb g (start *ℤ start) b (pos 0 -ℤ start *ℤ end) a)
        ∙ ring (start ∷ end ∷ dot g a ∷ dot g b ∷ pos i ∷ pos j ∷ []) (at 4 ⊗ at 2 ⊕ at 5 ⊗ ((at 0 ⊗ at 0) ⊗ at 3 ⊕ (num (pos 0) ⊖ at 0 ⊗ at 1) ⊗ at 2))
        ((at 4 ⊖ at 5 ⊗ (at 0 ⊗ at 1)) ⊗ at 2 ⊕ (at 5 ⊗ (at 0 ⊗ at 0)) ⊗ at 3) tt

    m-level : i' *ℤ dot m a +ℤ j' *ℤ dot m b ≡ pos 0
    m-level = sym (w-is m) ∙ on-level M y w o

    m-off : dot m a ≡ pos 0 → ⊥
    m-off = planes l y h

    -- (m.a)^2 w = j' meet
    scaled : (g : Vector) → (dot m a *ℤ dot m a) *ℤ dot g w ≡ j' *ℤ dot g (way_meet m a b)
    scaled g = ap (λ r. (dot m a *ℤ dot m a) *ℤ r) (w-is g)
        ∙ follows (dot m a ∷ dot m b ∷ dot g a ∷ dot g b ∷ i' ∷ j' ∷ []) ((at 0 ⊗ at 0) ⊗ (at 4 ⊗ at 2 ⊕ at 5 ⊗ at 3)) (at 5 ⊗ (at 0 ⊗ (at 0 ⊗ at 3 ⊖ at 1 ⊗ at 2)))
        (given (at 0 ⊗ at 2) (at 4 ⊗ at 0 ⊕ at 5 ⊗ at 1) (num (pos 0)) m-level none) tt
        ∙ ap (λ r. j' *ℤ r) (sym (meet-is m g a b))

    signs : (g : Vector) → sign (dot g (way_meet m a b)) ≡ sign (dot g w)
    signs g = sym (sign-scaled j' (dot g (way_meet m a b)) some-j) ∙ ap sign (sym (scaled g)) ∙ sign-scaled (dot m a *ℤ dot m a) (dot g w) (square_pos (dot m a) m-off)

    -- (m.a)(m.b) < 0: j' (m.a)(m.b) = - i' (m.a)^2
    parted : (dot m a *ℤ dot m b) <ℤ pos 0
    parted = same-minus (j' *ℤ (dot m a *ℤ dot m b)) (dot m a *ℤ dot m b) (sym (sign-scaled j' (dot m a *ℤ dot m b) some-j))
        (let e = follows (dot m a ∷ dot m b ∷ i' ∷ j' ∷ []) (at 3 ⊗ (at 0 ⊗ at 1)) (num (pos 0) ⊖ at 2 ⊗ (at 0 ⊗ at 0)) (given (at 0) (at 2 ⊗ at 0 ⊕ at 3 ⊗ at 1) (num (pos 0)) m-level none) tt in
        let q = mul_pos i' (dot m a *ℤ dot m a) some-i (square_pos (dot m a) m-off) in omega (arith, ints))

    -- n.w = i n.a, so y is met on a's side of the plane of n
    earlier : IsMetBefore a b y first
    earlier =
        let e = dot-comb n (pos i) a (pos j) c ∙ ap (λ r. pos i *ℤ start +ℤ pos j *ℤ r) level ∙ ring (pos i ∷ pos j ∷ start ∷ []) (at 0 ⊗ at 2 ⊕ at 1 ⊗ num (pos 0)) (at 0 ⊗ at 2) tt in
        let s = signs n ∙ ap sign e ∙ sign-scaled (pos i) start (omega (arith, ints)) in
        by_order start (pos 0)
        (λ l. mul_minus start (dot n (way_meet m a b)) l (same-minus start (dot n (way_meet m a b)) s l))
        (λ z. absurd (u z))
        (λ l. mul_pos start (dot n (way_meet m a b)) l (same-plus start (dot n (way_meet m a b)) s l))
      where
        mul_minus : (x y : ℤ) → x <ℤ pos 0 → y <ℤ pos 0 → pos 0 <ℤ (x *ℤ y)
        mul_minus x y h k = let p = mul_pos (pos 0 -ℤ x) (pos 0 -ℤ y) (omega (arith, ints)) (omega (arith, ints)) in let e = ring (x ∷ y ∷ []) ((num (pos 0) ⊖ at 0) ⊗ (num (pos 0) ⊖ at 1)) (at 0 ⊗ at 1) tt in omega (arith, ints)

    unmet : ⊥
    unmet = f.none_before l y (is-at_within (items M) l y h) h (record { parted = parted; on = OnItem-by_signs M y w (way_meet m a b) (λ g x. signs g) o }) earlier

  -- the way to where it is met is clear
  pub first-clear : IsClear M a (way_meet (item_normal first) a b)
  first-clear = record {
    start = F;
    direction = on-direction M first c f.on;
    short = λ o. apart-c o.parallel;
    between = λ i j si sj. record {
      direction = direction-by n (blend i a j c) (between-off_target n a c i j si level u);
      off_svertices = λ l v h m. miss-between a v.dir c i j sj (V.svertex_dirs l v h) (off_c l v h) apart-c m;
      off_items = λ l y h o. unmet i j si sj l y h o;
    };
  }

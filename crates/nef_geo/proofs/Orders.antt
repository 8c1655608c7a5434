-- The orders of points, directions and planes, number by number; the last two are total.
use Rattle.nef_geo.proofs.Prelude.{◌≡◌, ◌≤◌, ℤ, pos, ◌*ℤ◌, ◌<ℤ◌, nat_abs, List, [], ◌∷◌, inl, inr, arith, ap, sym, subst, ◌∙◌, w64, to_z, of_z, Ordering, Less, Equal, Greater, IsTotalOrder, int_ranks, MatchOrdering, int_cmp, ordering_then, ints, int_ranked, int_cmp_total, on_total, then_total, point_limit, weight_limit, IsBelow, SpacePoint, form_numbers, SamePoint, IsPointBelow, direction_numbers, Dir, Plane, Point, form_of, point_of, vector_of, pos-abs}
use Rattle.nef_geo.proofs.Products.{kept}
use Rattle.nef_geo.proofs.Unique.{direction_equal, plane_equal}

-- x over p's w against y over q's
abbrev pub IsRanked : ℤ → SpacePoint → ℤ → SpacePoint → Ordering → Type 0
IsRanked x p y q o = MatchOrdering o ((x *ℤ pos q.w) <ℤ (y *ℤ pos p.w)) (x *ℤ pos q.w ≡ y *ℤ pos p.w) ((y *ℤ pos p.w) <ℤ (x *ℤ pos q.w))

pub IsRanked-from_cmp : (x : ℤ) (p : Point) (y : ℤ) (q : Point) (o : Ordering) → nat_abs x ≤ point_limit → nat_abs y ≤ point_limit
    → o ≡ int_cmp (to_z w64 (of_z w64 x) *ℤ to_z w64 (of_z w64 q.w)) (to_z w64 (of_z w64 y) *ℤ to_z w64 (of_z w64 p.w)) → IsRanked x (point_of p) y (point_of q) o
IsRanked-from_cmp x p y q o sx sy e =
    let wide = λ (n : ℤ) (h : nat_abs n ≤ weight_limit). let k : nat_abs n ≤ point_limit = omega (arith, h) in k in
    int_ranked _ _ o (e
    ∙ ap (λ (n : ℤ). int_cmp n (to_z w64 (of_z w64 y) *ℤ to_z w64 (of_z w64 p.w))) (numbers x q.w sx (wide q.w q.w_small) q.proper)
    ∙ ap (λ (n : ℤ). int_cmp (x *ℤ pos (nat_abs q.w)) n) (numbers y p.w sy (wide p.w p.w_small) p.proper))
  where
    numbers : (n w : ℤ) → nat_abs n ≤ point_limit → nat_abs w ≤ point_limit → pos 0 <ℤ w → to_z w64 (of_z w64 n) *ℤ to_z w64 (of_z w64 w) ≡ n *ℤ pos (nat_abs w)
    numbers n w sn sw positive = ap (λ (m : ℤ). m *ℤ to_z w64 (of_z w64 w)) (kept n sn) ∙ ap (λ (m : ℤ). n *ℤ m) (kept w sw ∙ sym (pos-abs w positive))

-- points that agree in x and y are in the order of their z
order-from_last : (p q : SpacePoint) (o : Ordering) → p.x *ℤ pos q.w ≡ q.x *ℤ pos p.w → p.y *ℤ pos q.w ≡ q.y *ℤ pos p.w → IsRanked p.z p q.z q o → MatchOrdering o (IsPointBelow p q) (SamePoint p q) (IsPointBelow q p)
order-from_last p q Less ex ey h = inr (ex, inr (ey, inl h))
order-from_last p q Equal ex ey h = record { along_x = ex; along_y = ey; along_z = h }
order-from_last p q Greater ex ey h = inr (sym ex, inr (sym ey, inl h))

-- x decides, then y, then z
ranked-in_turn : (p q : SpacePoint) (x y z : Ordering) → IsRanked p.x p q.x q x → IsRanked p.y p q.y q y → IsRanked p.z p q.z q z
    → MatchOrdering (ordering_then (ordering_then x y) z) (IsPointBelow p q) (SamePoint p q) (IsPointBelow q p)
ranked-in_turn p q Less y z hx hy hz = inl hx
ranked-in_turn p q Greater y z hx hy hz = inl hx
ranked-in_turn p q Equal Less z hx hy hz = inr (hx, inl hy)
ranked-in_turn p q Equal Greater z hx hy hz = inr (sym hx, inl hy)
ranked-in_turn p q Equal Equal z hx hy hz = order-from_last p q z hx hy hz

pub order-in_turn : (p q : SpacePoint) (x y z o : Ordering) → IsRanked p.x p q.x q x → IsRanked p.y p q.y q y → IsRanked p.z p q.z q z
    → o ≡ ordering_then (ordering_then x y) z → MatchOrdering o (IsPointBelow p q) (SamePoint p q) (IsPointBelow q p)
order-in_turn p q x y z o hx hy hz e =
    subst (λ (k : Ordering). MatchOrdering k (IsPointBelow p q) (SamePoint p q) (IsPointBelow q p)) (sym e) (ranked-in_turn p q x y z hx hy hz)

-- ---- orders that a later one decides
pub then-is : (o k r : Ordering) (P : Type 0) → MatchOrdering o (r ≡ Less) P (r ≡ Greater) → (P → r ≡ k) → r ≡ ordering_then o k
then-is Less k r P h f = h
then-is Equal k r P h f = f h
then-is Greater k r P h f = h

pub then-both : (o k l r : Ordering) (P : Type 0) → MatchOrdering o (r ≡ Less) P (r ≡ Greater) → (P → r ≡ ordering_then k l) → r ≡ ordering_then (ordering_then o k) l
then-both Less k l r P h f = h
then-both Equal k l r P h f = f h
then-both Greater k l r P h f = h

-- ---- lists of numbers
pub below-one_way : (xs ys : List ℤ) → IsBelow xs ys → IsBelow ys xs → ⊥
below-one_way [] ys h k = h
below-one_way (x ∷ xs) [] h k = h
below-one_way (x ∷ xs) (y ∷ ys) (inl h) (inl k) = omega (arith, ints, h, k)
below-one_way (x ∷ xs) (y ∷ ys) (inl h) (inr (e, k)) = omega (arith, ints, h, e)
below-one_way (x ∷ xs) (y ∷ ys) (inr (e, h)) (inl k) = omega (arith, ints, e, k)
below-one_way (x ∷ xs) (y ∷ ys) (inr (e, h)) (inr (f, k)) = below-one_way xs ys h k

pub never-below : (xs : List ℤ) → IsBelow xs xs → ⊥
never-below xs h = below-one_way xs xs h h

then-cons : (x y : ℤ) (xs ys : List ℤ) (k o : Ordering) → MatchOrdering k (x <ℤ y) (x ≡ y) (y <ℤ x) → MatchOrdering o (IsBelow xs ys) (xs ≡ ys) (IsBelow ys xs)
    → MatchOrdering (ordering_then k o) (IsBelow (x ∷ xs) (y ∷ ys)) (x ∷ xs ≡ y ∷ ys) (IsBelow (y ∷ ys) (x ∷ xs))
then-cons x y xs ys Less o h k = inl h
then-cons x y xs ys Greater o h k = inl h
then-cons x y xs ys Equal Less h k = inr (h, k)
then-cons x y xs ys Equal Equal h k = cc
then-cons x y xs ys Equal Greater h k = inr (sym h, k)

-- o is the order of the lists
pub record IsListOrder (o : Ordering) (xs ys : List ℤ) : Type 0 where
  pub order : MatchOrdering o (IsBelow xs ys) (xs ≡ ys) (IsBelow ys xs)

order-cons : (x y : ℤ) (xs ys : List ℤ) (o : Ordering) → IsListOrder o xs ys → IsListOrder (ordering_then (int_cmp x y) o) (x ∷ xs) (y ∷ ys)
order-cons x y xs ys o h = record { order = then-cons x y xs ys (int_cmp x y) o (int_ranks x y) h.order }

one-order : (x y : ℤ) (k : Ordering) → MatchOrdering k (x <ℤ y) (x ≡ y) (y <ℤ x) → MatchOrdering k (IsBelow (x ∷ []) (y ∷ [])) (x ∷ [] ≡ y ∷ []) (IsBelow (y ∷ []) (x ∷ []))
one-order x y Less h = inl h
one-order x y Equal h = cc
one-order x y Greater h = inl h

order-one : (x y : ℤ) → IsListOrder (int_cmp x y) (x ∷ []) (y ∷ [])
order-one x y = record { order = one-order x y (int_cmp x y) (int_ranks x y) }

order-map : (E : Type 0) (o : Ordering) (xs ys : List ℤ) → (xs ≡ ys → E) → IsListOrder o xs ys → MatchOrdering o (IsBelow xs ys) E (IsBelow ys xs)
order-map E Less xs ys f h = h.order
order-map E Equal xs ys f h = f h.order
order-map E Greater xs ys f h = h.order

dir-equal : (a b : Dir) → direction_numbers (vector_of a) ≡ direction_numbers (vector_of b) → a ≡ b
dir-equal a b e =
    direction_equal a.x a.y a.z (a.x_small, a.y_small, a.z_small, a.some, a.lowest) b.x b.y b.z (b.x_small, b.y_small, b.z_small, b.some, b.lowest) (cc) (cc) (cc)

abbrev pub dir_order : Dir → Dir → Ordering
dir_order a b = ordering_then (int_cmp a.x b.x) (ordering_then (int_cmp a.y b.y) (int_cmp a.z b.z))

pub dir_total : IsTotalOrder dir_order
dir_total = then_total (on_total (λ (d : Dir). d.x) int_cmp_total) (then_total (on_total (λ (d : Dir). d.y) int_cmp_total) (on_total (λ (d : Dir). d.z) int_cmp_total))

pub dir-ordered : (a b : Dir) (o : Ordering) → o ≡ dir_order a b → MatchOrdering o (IsBelow (direction_numbers (vector_of a)) (direction_numbers (vector_of b))) (a ≡ b) (IsBelow (direction_numbers (vector_of b)) (direction_numbers (vector_of a)))
dir-ordered a b o e =
    order-map (a ≡ b) o (direction_numbers (vector_of a)) (direction_numbers (vector_of b)) (dir-equal a b)
    (subst (λ (k : Ordering). IsListOrder k (direction_numbers (vector_of a)) (direction_numbers (vector_of b))) (sym e)
    (order-cons a.x b.x (a.y ∷ a.z ∷ []) (b.y ∷ b.z ∷ []) _ (order-cons a.y b.y (a.z ∷ []) (b.z ∷ []) _ (order-one a.z b.z))))

plane-equal : (g h : Plane) → form_numbers (form_of g) ≡ form_numbers (form_of h) → g ≡ h
plane-equal g h e =
    plane_equal g.a g.b g.c g.d (g.a_small, g.b_small, g.c_small, g.d_small, g.lowest, g.normal) h.a h.b h.c h.d (h.a_small, h.b_small, h.c_small, h.d_small, h.lowest, h.normal) (cc) (cc) (cc) (cc)

abbrev pub plane_order : Plane → Plane → Ordering
plane_order g h = ordering_then (int_cmp g.a h.a) (ordering_then (int_cmp g.b h.b) (ordering_then (int_cmp g.c h.c) (int_cmp g.d h.d)))

pub plane_total : IsTotalOrder plane_order
plane_total = then_total (on_total (λ (h : Plane). h.a) int_cmp_total) (then_total (on_total (λ (h : Plane). h.b) int_cmp_total) (then_total (on_total (λ (h : Plane). h.c) int_cmp_total) (on_total (λ (h : Plane). h.d) int_cmp_total)))

-- the plane g comes before h
abbrev pub IsPlaneBelow : Plane → Plane → Type 0
IsPlaneBelow g h = IsBelow (form_numbers (form_of g)) (form_numbers (form_of h))

pub plane-ordered : (g h : Plane) (o : Ordering) → o ≡ plane_order g h → MatchOrdering o (IsPlaneBelow g h) (g ≡ h) (IsPlaneBelow h g)
plane-ordered g h o e =
    order-map (g ≡ h) o (form_numbers (form_of g)) (form_numbers (form_of h)) (plane-equal g h)
    (subst (λ (k : Ordering). IsListOrder k (form_numbers (form_of g)) (form_numbers (form_of h))) (sym e)
    (order-cons g.a h.a (g.b ∷ g.c ∷ g.d ∷ []) (h.b ∷ h.c ∷ h.d ∷ []) _ (order-cons g.b h.b (g.c ∷ g.d ∷ []) (h.c ∷ h.d ∷ []) _ (order-cons g.c h.c (g.d ∷ []) (h.d ∷ []) _ (order-one g.d h.d)))))

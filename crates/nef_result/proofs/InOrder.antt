-- The corners in order, and the planes of the frame in order.
use Rattle.nef_result.proofs.Prelude.{◌≡◌, ℕ, zero, suc, ℤ, pos, ◌*ℤ◌, ◌<ℤ◌, arith, refl, ◌⊎◌, inl, inr, Bool, true, false, subst, List, [], ◌∷◌, ◌++◌, ints, at, num, ◌⊖◌, ◌⊗◌, lt_by, mul_pos, IsAt, half_side, IsBelow, SpacePoint, form_numbers, IsPointBelow, SamePoint, Label, point_of, InOrder, AreSorted, Vertex, sorted_sides, frame_end, FrameCorner, ends, all_ends, IsFrameCornerAt, IsFrameCornerOf, AreFrameCorners, is-at_none, is-at_first}
use Rattle.nef_space.proofs.Elementary.{weight-positive, times-exchange}

-- ---- the order of two corners
abbrev pub IsLow : Bool → Bool → Type 0
IsLow a b = (a ≡ false) × (b ≡ true)

abbrev pub IsEndsBelow : FrameCorner → FrameCorner → Type 0
IsEndsBelow k j = IsLow k.x j.x ⊎ ((k.x ≡ j.x) × (IsLow k.y j.y ⊎ ((k.y ≡ j.y) × IsLow k.z j.z)))

along-low : (a b : Bool) (x y w v : ℤ) → IsLow a b → pos 0 <ℤ w → pos 0 <ℤ v → x ≡ frame_end a *ℤ w → y ≡ frame_end b *ℤ v → (x *ℤ v) <ℤ (y *ℤ w)
along-low a b x y w v (e, f) h i g j = rw (g, j, e, f) (lt_by (pos half_side ∷ w ∷ v ∷ []) ((num (pos 0) ⊖ at 0) ⊗ at 1 ⊗ at 2) (at 0 ⊗ at 2 ⊗ at 1) (num (pos 2) ⊗ at 0 ⊗ (at 1 ⊗ at 2)) tt
    (let q = mul_pos w v h i in omega (arith, ints)))

along-same : (a b : Bool) (x y w v : ℤ) → a ≡ b → x ≡ frame_end a *ℤ w → y ≡ frame_end b *ℤ v → x *ℤ v ≡ y *ℤ w
along-same a b x y w v e g j = rw (g, j, e) (times-exchange (frame_end b) w v)

pub same-corner : (k : FrameCorner) (p q : SpacePoint) → IsFrameCornerAt k p → IsFrameCornerAt k q → SamePoint p q
same-corner k p q c d = record {
  along_x = along-same k.x k.x p.x q.x (pos p.w) (pos q.w) refl c.along_x d.along_x;
  along_y = along-same k.y k.y p.y q.y (pos p.w) (pos q.w) refl c.along_y d.along_y;
  along_z = along-same k.z k.z p.z q.z (pos p.w) (pos q.w) refl c.along_z d.along_z;
}

pub corner-below : (k j : FrameCorner) (p q : SpacePoint) → IsEndsBelow k j → IsFrameCornerAt k p → IsFrameCornerAt j q → IsPointBelow p q
corner-below k j p q (inl l) c d = inl (along-low k.x j.x p.x q.x (pos p.w) (pos q.w) l (weight-positive p) (weight-positive q) c.along_x d.along_x)
corner-below k j p q (inr (e, inl l)) c d = inr (
  along-same k.x j.x p.x q.x (pos p.w) (pos q.w) e c.along_x d.along_x,
  inl (along-low k.y j.y p.y q.y (pos p.w) (pos q.w) l (weight-positive p) (weight-positive q) c.along_y d.along_y),
)
corner-below k j p q (inr (e, inr (f, l))) c d = inr (
  along-same k.x j.x p.x q.x (pos p.w) (pos q.w) e c.along_x d.along_x,
  inr (
    along-same k.y j.y p.y q.y (pos p.w) (pos q.w) f c.along_y d.along_y,
    inl (along-low k.z j.z p.z q.z (pos p.w) (pos q.w) l (weight-positive p) (weight-positive q) c.along_z d.along_z),
  ),
)

-- ---- lists in order
-- x is before each of the list
abbrev pub IsBeforeAll : {A : Type 0} → (A → A → Type 0) → A → List A → Type 0
IsBeforeAll B x [] = Unit {0}
IsBeforeAll B x (y ∷ ys) = B x y × IsBeforeAll B x ys

abbrev pub AreRising : {A : Type 0} → (A → A → Type 0) → List A → Type 0
AreRising B [] = Unit {0}
AreRising B (x ∷ xs) = IsBeforeAll B x xs × AreRising B xs

before-at : {A : Type 0} (B : A → A → Type 0) (x : A) (ys : List A) → IsBeforeAll B x ys → (k : ℕ) (y : A) → IsAt ys k y → B x y
before-at B x [] r k y a = absurd (is-at_none a)
before-at B x (z ∷ zs) r zero y a = subst (B x) (is-at_first a) r.0
before-at B x (z ∷ zs) r (suc k) y a = before-at B x zs r.1 k y a

pub in-order : {A : Type 0} (B : A → A → Type 0) (xs : List A) → AreRising B xs → InOrder B xs
in-order B [] r i k x y l a b = absurd (is-at_none a)
in-order B (z ∷ zs) r zero zero x y l a b = absurd (omega (arith, l))
in-order B (z ∷ zs) r zero (suc k) x y l a b = subst (λ u. B u y) (is-at_first a) (before-at B z zs r.0 k y b)
in-order B (z ∷ zs) r (suc i) zero x y l a b = absurd (omega (arith, l))
in-order B (z ∷ zs) r (suc i) (suc k) x y l a b = in-order B zs r.1 i k x y (omega arith) a b

pub ends-order : InOrder IsEndsBelow all_ends
ends-order = in-order IsEndsBelow all_ends (
  (inr (refl, inr (refl, (refl, refl))), (inr (refl, inl (refl, refl)), (inr (refl, inl (refl, refl)), (inl (refl, refl), (inl (refl, refl), (inl (refl, refl), (inl (refl, refl), tt))))))),
  (
    (inr (refl, inl (refl, refl)), (inr (refl, inl (refl, refl)), (inl (refl, refl), (inl (refl, refl), (inl (refl, refl), (inl (refl, refl), tt)))))),
    (
      (inr (refl, inr (refl, (refl, refl))), (inl (refl, refl), (inl (refl, refl), (inl (refl, refl), (inl (refl, refl), tt))))),
      (
        (inl (refl, refl), (inl (refl, refl), (inl (refl, refl), (inl (refl, refl), tt)))),
        (
          (inr (refl, inr (refl, (refl, refl))), (inr (refl, inl (refl, refl)), (inr (refl, inl (refl, refl)), tt))),
          (
            (inr (refl, inl (refl, refl)), (inr (refl, inl (refl, refl)), tt)),
            (
              (inr (refl, inr (refl, (refl, refl))), tt),
              (
                tt,
                tt,
              ),
            ),
          ),
        ),
      ),
    ),
  ),
)

pub sides-order : InOrder (λ g h. IsBelow (form_numbers g) (form_numbers h)) sorted_sides
sides-order = in-order (λ g h. IsBelow (form_numbers g) (form_numbers h)) sorted_sides (
  (inr (refl, inr (refl, inr (refl, inl (omega (arith, ints))))), (inr (refl, inl (omega (arith, ints))), (inr (refl, inl (omega (arith, ints))), (inl (omega (arith, ints)), (inl (omega (arith, ints)), tt))))),
  (
    (inr (refl, inl (omega (arith, ints))), (inr (refl, inl (omega (arith, ints))), (inl (omega (arith, ints)), (inl (omega (arith, ints)), tt)))),
    (
      (inr (refl, inr (refl, inr (refl, inl (omega (arith, ints))))), (inl (omega (arith, ints)), (inl (omega (arith, ints)), tt))),
      (
        (inl (omega (arith, ints)), (inl (omega (arith, ints)), tt)),
        (
          (inr (refl, inr (refl, inr (refl, inl (omega (arith, ints))))), tt),
          (
            tt,
            tt,
          ),
        ),
      ),
    ),
  ),
)

-- ---- the vertices at the corners
-- vertex number n is at corner number n
pub vertex-at : (l : Label) (ks : List FrameCorner) (vs : List Vertex) → AreFrameCorners l ks vs → (n : ℕ) (v : Vertex) → IsAt vs n v → (k : FrameCorner) × IsAt ks n k × IsFrameCornerOf l k v
vertex-at l [] [] c n v a = absurd (is-at_none a)
vertex-at l [] (u ∷ us) c n v a = absurd c
vertex-at l (k ∷ ks) [] c n v a = absurd c
vertex-at l (k ∷ ks) (u ∷ us) c zero v a = (k, refl, subst (IsFrameCornerOf l k) (is-at_first a) c.0)
vertex-at l (k ∷ ks) (u ∷ us) c (suc n) v a = vertex-at l ks us c.1 n v a

-- and corner number n has vertex number n
pub corner-at : (l : Label) (ks : List FrameCorner) (vs : List Vertex) → AreFrameCorners l ks vs → (n : ℕ) (k : FrameCorner) → IsAt ks n k → (v : Vertex) × IsAt vs n v × IsFrameCornerOf l k v
corner-at l [] [] c n k a = absurd (is-at_none a)
corner-at l [] (u ∷ us) c n k a = absurd c
corner-at l (j ∷ js) [] c n k a = absurd c
corner-at l (j ∷ js) (u ∷ us) c zero k a = (u, refl, subst (λ i. IsFrameCornerOf l i u) (is-at_first a) c.0)
corner-at l (j ∷ js) (u ∷ us) c (suc n) k a = corner-at l js us c.1 n k a

pub listed : (x y z : Bool) → (n : ℕ) × IsAt all_ends n (ends x y z)
listed false false false = (0, refl)
listed false false true = (1, refl)
listed false true false = (2, refl)
listed false true true = (3, refl)
listed true false false = (4, refl)
listed true false true = (5, refl)
listed true true false = (6, refl)
listed true true true = (7, refl)

pub corners-sorted : (l : Label) (vs : List Vertex) → AreFrameCorners l all_ends vs → AreSorted vs
corners-sorted l vs c i n u v h a b =
    let k = vertex-at l all_ends vs c i u a in let j = vertex-at l all_ends vs c n v b in
    corner-below k.0 j.0 (point_of u.point) (point_of v.point) (ends-order i n k.0 j.0 h k.1 j.1) k.2.place j.2.place

pub corners-more : (l : Label) (ks : List FrameCorner) (vs : List Vertex) (k : FrameCorner) (v : Vertex) → AreFrameCorners l ks vs → IsFrameCornerOf l k v → AreFrameCorners l (ks ++ k ∷ []) (vs ++ v ∷ [])
corners-more l [] [] k v c h = (h, tt)
corners-more l [] (u ∷ us) k v c h = absurd c
corners-more l (j ∷ js) [] k v c h = absurd c
corners-more l (j ∷ js) (u ∷ us) k v c h = (c.0, corners-more l js us k v c.1 h)

-- Listed corners in order.
use Rattle.nef_facets.proofs.Prelude.{◌≡◌, ℕ, ◌<◌, List, arith, inl, inr, ⊎_elim, subst, sym, cases_order, ints, IsAt, is-at_one, Corner, corner_of, IsCornerBelow, CornersAreInOrder}
use Rattle.law_geometry.specs.complex.Complexes.{Corner as PlainCorner}

-- of two corners one isn't below the other both ways, and none is below itself
pub below-once : (x y : PlainCorner) → IsCornerBelow x y → IsCornerBelow y x → ⊥
below-once x y (inl h) (inl k) = omega (arith, ints)
below-once x y (inl h) (inr (e, k)) = omega (arith, ints)
below-once x y (inr (e, h)) (inl k) = omega (arith, ints)
below-once x y (inr (e, inl h)) (inr (f, inl k)) = omega (arith, ints)
below-once x y (inr (e, inr h)) k = absurd h.1
below-once x y (inr (e, inl h)) (inr (f, inr k)) = absurd k.1

pub number-below : (ks : List Corner) (i j : ℕ) (x y : Corner) → CornersAreInOrder ks → IsAt ks i x → IsAt ks j y → IsCornerBelow (corner_of x) (corner_of y) → i < j
number-below ks i j x y O a b h = ⊎_elim
    (λ e. let f = is-at_one ks j x y (subst (λ (n : ℕ). IsAt ks n x) e a) b in
    let g : IsCornerBelow (corner_of x) (corner_of x) = subst (λ (r : Corner). IsCornerBelow (corner_of x) (corner_of r)) (sym f) h in absurd (below-once (corner_of x) (corner_of x) g g))
    (λ o. ⊎_elim (λ l. l) (λ l. absurd (below-once (corner_of x) (corner_of y) h (O j i y x l b a))) o) (cases_order i j)

-- a corner stands at one place
pub one-place : (ks : List Corner) (i j : ℕ) (x : Corner) → CornersAreInOrder ks → IsAt ks i x → IsAt ks j x → i ≡ j
one-place ks i j x O a b = ⊎_elim (λ e. e)
    (λ o. ⊎_elim (λ l. let h = O i j x x l a b in absurd (below-once (corner_of x) (corner_of x) h h)) (λ l. let h = O j i x x l b a in absurd (below-once (corner_of x) (corner_of x) h h)) o) (cases_order i j)

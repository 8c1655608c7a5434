-- Products of vectors, and what follows from their signs.
use Rattle.law_geometry.proofs.sphere.Prelude.{◌≡◌, ℕ, ℤ, pos, ◌+ℤ◌, ◌*ℤ◌, ◌<ℤ◌, arith, ◌∙◌, inl, inr, ◌∷◌, refl, ints, ring, at, ◌⊕◌, ◌⊗◌, sign, sign-plus, sign-minus, plus-is, minus-is, by_order, Sign, minus, nought, plus, Vector, IsDirection, dot, Decided, combination, VectorBelow, IsAt, Map, Item, items, item_normal, Shaped, dot-zero, blend_of, dot_of, dot_poly, numbers, vec, Label, by_side}
use Rattle.nef_space.proofs.Vectors.{normal-direction}

-- ---- linear
pub dot-comb : (g : Vector) (a : ℤ) (u : Vector) (b : ℤ) (v : Vector) → dot g (combination a u b v) ≡ a *ℤ dot g u +ℤ b *ℤ dot g v
dot-comb g a u b v = ring (a ∷ b ∷ numbers g u v v) (dot_of (vec 2) (blend_of (at 0) (vec 5) (at 1) (vec 8))) (at 0 ⊗ dot_poly 2 5 ⊕ at 1 ⊗ dot_poly 2 8) tt

pub comb-dot : (a : ℤ) (u : Vector) (b : ℤ) (v g : Vector) → dot (combination a u b v) g ≡ a *ℤ dot u g +ℤ b *ℤ dot v g
comb-dot a u b v g = ring (a ∷ b ∷ numbers u v g g) (dot_of (blend_of (at 0) (vec 2) (at 1) (vec 5)) (vec 8)) (at 0 ⊗ dot_poly 2 8 ⊕ at 1 ⊗ dot_poly 5 8) tt

-- ---- signs
pub positive-or : (z : ℤ) → Decided (pos 0 <ℤ z)
positive-or z = by_order z (pos 0) (λ b. inr (λ e. omega (arith, ints))) (λ e. inr (λ f. omega (arith, ints))) (λ b. inl b)

pub negative-or : (z : ℤ) → Decided (z <ℤ pos 0)
negative-or z = by_order z (pos 0) (λ b. inl b) (λ e. inr (λ f. omega (arith, ints))) (λ b. inr (λ e. omega (arith, ints)))

pub same-plus : (a b : ℤ) → sign b ≡ sign a → pos 0 <ℤ a → pos 0 <ℤ b
same-plus a b e h = plus-is b (e ∙ sign-plus a h)

pub same-minus : (a b : ℤ) → sign b ≡ sign a → a <ℤ pos 0 → b <ℤ pos 0
same-minus a b e h = minus-is b (e ∙ sign-minus a h)

-- ---- noughts
-- a direction that some form does not vanish at
pub direction-by : (g e : Vector) → (dot g e ≡ pos 0 → ⊥) → IsDirection e
direction-by g e f z = f (dot-zero g e z)

pub normal-is : {M : Map} (V : Shaped M) (k : ℕ) (x : Item) → IsAt (items M) k x → IsDirection (item_normal x)
normal-is V k x a = normal-direction (item_normal x) (V.normals k x a)

-- ---- the labels by a side
pub even-side : (c : Label) (s : Sign) → by_side c c c s ≡ c
even-side c minus = refl
even-side c nought = refl
even-side c plus = refl

pub op-side : (op : Label → Label → Label) (a m b c o g : Label) (s : Sign) → op (by_side a m b s) (by_side c o g s) ≡ by_side (op a c) (op m o) (op b g) s
op-side op a m b c o g minus = refl
op-side op a m b c o g nought = refl
op-side op a m b c o g plus = refl

-- ---- the order of vectors
pub below-itself : (u : Vector) → VectorBelow u u → ⊥
below-itself u (inl h) = omega (arith, ints)
below-itself u (inr (inl h)) = let x = h.1 in omega (arith, ints)
below-itself u (inr (inr h)) = let x = h.2 in omega (arith, ints)

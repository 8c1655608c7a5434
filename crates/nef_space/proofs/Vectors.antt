-- Products of vectors; parallel, same and opposite directions.
use Rattle.nef_space.proofs.Prelude.{◌≡◌, ℕ, ◌+◌, ◌*◌, ◌<◌, ℤ, pos, neg_ℤ, ◌+ℤ◌, ◌-ℤ◌, ◌*ℤ◌, ◌<ℤ◌, arith, ap, sym, ◌∙◌, inl, inr, ◌⊎◌, ⊎_elim, List, [], ◌∷◌, subst, ints}
use lib.IntN.{*ℤ-zero}
use Rattle.nef_space.proofs.Ring.{ring, Poly, at, num, neg, ◌⊕◌, ◌⊖◌, ◌⊗◌, value}
use Rattle.nef_space.proofs.Combination.{follows, follows_times, GivenEquations, given, none}
use Rattle.nef_space.proofs.Order.{sign, sign-plus, sign-scaled, plus-is, nought-is, by_order, square_nonneg, square_pos, nought-or}
use Rattle.nef_space.specs.Vectors.{Vector, vector, blend, dot, cross, triple, opposite, IsZero, IsDirection, IsNormal, SameDirection, IsOpposite, beside_x, beside_y, beside_z}
use Rattle.nef_space.specs.Points.{Form, SpacePoint, form_at, opposite_form, slope}

-- ---- the vectors beside a normal, along the coordinate planes
pub level-beside_x : (n : Vector) → dot n (beside_x n) ≡ pos 0
level-beside_x n = ring (n.x ∷ n.y ∷ n.z ∷ []) (at 0 ⊗ num (pos 0) ⊕ at 1 ⊗ at 2 ⊕ at 2 ⊗ neg (at 1)) (num (pos 0)) tt

pub level-beside_y : (n : Vector) → dot n (beside_y n) ≡ pos 0
level-beside_y n = ring (n.x ∷ n.y ∷ n.z ∷ []) (at 0 ⊗ neg (at 2) ⊕ at 1 ⊗ num (pos 0) ⊕ at 2 ⊗ at 0) (num (pos 0)) tt

pub level-beside_z : (n : Vector) → dot n (beside_z n) ≡ pos 0
level-beside_z n = ring (n.x ∷ n.y ∷ n.z ∷ []) (at 0 ⊗ at 1 ⊕ at 1 ⊗ neg (at 0) ⊕ at 2 ⊗ num (pos 0)) (num (pos 0)) tt

-- ---- vectors of polynomials: the numbers of a vector stand in a list of values from a place on
abbrev pub numbers : Vector → Vector → Vector → Vector → List ℤ
numbers n s t d = n.x ∷ n.y ∷ n.z ∷ s.x ∷ s.y ∷ s.z ∷ t.x ∷ t.y ∷ t.z ∷ d.x ∷ d.y ∷ d.z ∷ []

abbrev pub Polys : Type 0
Polys = Poly × Poly × Poly

abbrev pub vec : ℕ → Polys
vec i = (at i, at (i + 1), at (i + 2))

abbrev pub dot_of : Polys → Polys → Poly
dot_of a b = a.0 ⊗ b.0 ⊕ a.1 ⊗ b.1 ⊕ a.2 ⊗ b.2

abbrev pub cross_of : Polys → Polys → Polys
cross_of a b = (a.1 ⊗ b.2 ⊖ a.2 ⊗ b.1, a.2 ⊗ b.0 ⊖ a.0 ⊗ b.2, a.0 ⊗ b.1 ⊖ a.1 ⊗ b.0)

abbrev pub poly_triple : Polys → Polys → Polys → Poly
poly_triple a b c = dot_of a (cross_of b c)

abbrev pub blend_of : Poly → Polys → Poly → Polys → Polys
blend_of i a j b = (i ⊗ a.0 ⊕ j ⊗ b.0, i ⊗ a.1 ⊕ j ⊗ b.1, i ⊗ a.2 ⊕ j ⊗ b.2)

abbrev pub dot_poly : ℕ → ℕ → Poly
dot_poly i j = dot_of (vec i) (vec j)

abbrev pub triple_poly : ℕ → ℕ → ℕ → Poly
triple_poly n i j = poly_triple (vec n) (vec i) (vec j)

-- each number of p is nought
abbrev pub each_nought : (xs : List ℤ) (f p : Polys) → value xs p.0 ≡ pos 0 → value xs p.1 ≡ pos 0 → value xs p.2 ≡ pos 0 → GivenEquations xs
each_nought xs f p x y z = given f.0 p.0 (num (pos 0)) x (given f.1 p.1 (num (pos 0)) y (given f.2 p.2 (num (pos 0)) z none))

-- ---- products
pub vector-same : (d e : Vector) → d.x ≡ e.x → d.y ≡ e.y → d.z ≡ e.z → d ≡ e
vector-same d e i j k = ap (λ u. vector u d.y d.z) i ∙ ap (λ u. vector e.x u d.z) j ∙ ap (λ u. vector e.x e.y u) k

pub same-vector : (x y z x' y' z' : ℤ) → x ≡ x' → y ≡ y' → z ≡ z' → vector x y z ≡ vector x' y' z'
same-vector x y z x' y' z' i j k = vector-same (vector x y z) (vector x' y' z') i j k

pub dot-comm : (a b : Vector) → dot a b ≡ dot b a
dot-comm a b = ring (numbers a b b b) (dot_poly 0 3) (dot_poly 3 0) tt

pub dot-zero : (g e : Vector) → IsZero e → dot g e ≡ pos 0
dot-zero g e z = follows (numbers g e e e) (dot_poly 0 3) (num (pos 0)) (each_nought (numbers g e e e) (vec 0) (vec 3) z.0 z.1 z.2) tt

pub zero-dot : (e g : Vector) → IsZero e → dot e g ≡ pos 0
zero-dot e g z = dot-comm e g ∙ dot-zero g e z

-- [d e f] is (d x e).f
pub triple-dot : (d e f : Vector) → triple d e f ≡ dot (cross d e) f
triple-dot d e f = ring (numbers d e f f) (triple_poly 0 3 6) (dot_of (cross_of (vec 0) (vec 3)) (vec 6)) tt

-- the triple product as a form in its middle vector
pub triple-middle : (n d t : Vector) → triple n d t ≡ dot (cross t n) d
triple-middle n d t = ring (numbers n d t t) (triple_poly 0 3 6) (dot_of (cross_of (vec 6) (vec 0)) (vec 3)) tt

pub triple-cycle : (a b c : Vector) → triple a b c ≡ triple b c a
triple-cycle a b c = ring (numbers a b c c) (triple_poly 0 3 6) (triple_poly 3 6 0) tt

pub triple-back : (n a b : Vector) → triple n b a ≡ neg_ℤ (triple n a b)
triple-back n a b = ring (numbers n a b b) (triple_poly 0 6 3) (neg (triple_poly 0 3 6)) tt

pub triple-turned : (n a b : Vector) → triple n a b ≡ pos 0 -ℤ triple n b a
triple-turned n a b = ring (numbers n a b b) (triple_poly 0 3 6) (num (pos 0) ⊖ triple_poly 0 6 3) tt

-- a x b is at right angles to a and to b
pub square-cross : (a b : Vector) → dot a (cross a b) ≡ pos 0
square-cross a b = ring (numbers a b b b) (triple_poly 0 0 3) (num (pos 0)) tt

pub level_cross_second : (a b : Vector) → dot b (cross a b) ≡ pos 0
level_cross_second a b = ring (numbers a b b b) (triple_poly 3 0 3) (num (pos 0)) tt

pub self-pos : (h : Vector) → IsDirection h → pos 0 <ℤ dot h h
self-pos h f =
    let a = square_nonneg h.x in let b = square_nonneg h.y in let c = square_nonneg h.z in
    ⊎_elim (λ x. ⊎_elim (λ y. ⊎_elim (λ z. absurd (f (x, y, z)))
    (λ z. let p = square_pos h.z z in omega (arith, ints)) (nought-or h.z))
    (λ y. let p = square_pos h.y y in omega (arith, ints)) (nought-or h.y))
    (λ x. let p = square_pos h.x x in omega (arith, ints)) (nought-or h.x)

pub self-not_nought : (v : Vector) → IsDirection v → dot v v ≡ pos 0 → ⊥
self-not_nought v h e = let p = self-pos v h in omega (arith, ints)

pub pos-self : (v : Vector) → pos 0 <ℤ dot v v → IsDirection v
pos-self v h z = let e = dot-zero v v z in omega (arith, ints)

pub zero-decided : (e : Vector) → IsZero e ⊎ (IsZero e → ⊥)
zero-decided e =
    ⊎_elim (λ x. ⊎_elim (λ y. ⊎_elim (λ z. inl (x, y, z)) (λ n. inr (λ a. n a.2)) (nought-or e.z)) (λ n. inr (λ a. n a.1)) (nought-or e.y)) (λ n. inr (λ a. n a.0)) (nought-or e.x)

-- ---- parallel
pub cross-turned : (d e : Vector) → IsZero (cross d e) → IsZero (cross e d)
cross-turned d e z = (one d.y d.z e.y e.z z.0, one d.z d.x e.z e.x z.1, one d.x d.y e.x e.y z.2)
  where
    one : (a b c f : ℤ) → a *ℤ f -ℤ b *ℤ c ≡ pos 0 → c *ℤ b -ℤ f *ℤ a ≡ pos 0
    one a b c f h = follows (a ∷ b ∷ c ∷ f ∷ []) (at 2 ⊗ at 1 ⊖ at 3 ⊗ at 0) (num (pos 0)) (given (neg (num (pos 1))) (at 0 ⊗ at 3 ⊖ at 1 ⊗ at 2) (num (pos 0)) h none) tt

pub cross-self : (n : Vector) → IsZero (cross n n)
cross-self n = let c = cross_of (vec 0) (vec 0) in (ring (numbers n n n n) c.0 (num (pos 0)) tt, ring (numbers n n n n) c.1 (num (pos 0)) tt, ring (numbers n n n n) c.2 (num (pos 0)) tt)

pub cross-none : (n m : Vector) → IsZero m → IsZero (cross n m)
cross-none n m z = (one n.y n.z m.z m.y z.2 z.1, one n.z n.x m.x m.z z.0 z.2, one n.x n.y m.y m.x z.1 z.0)
  where
    one : (a b x y : ℤ) → x ≡ pos 0 → y ≡ pos 0 → a *ℤ x -ℤ b *ℤ y ≡ pos 0
    one a b x y e f = let i = ap (λ r. a *ℤ r) e ∙ *ℤ-zero a in let j = ap (λ r. b *ℤ r) f ∙ *ℤ-zero b in omega (arith, ints)

-- parallel and perpendicular to a direction at once
pub nought-if : (v d : Vector) → IsDirection v → IsZero (cross v d) → dot v d ≡ pos 0 → IsZero d
nought-if v d h c z =
    let xs = numbers v d d d in let o = num (pos 0) in let k = cross_of (vec 0) (vec 3) in (
      follows_times xs (dot_poly 0 0) (at 3) o (given (at 0) (dot_poly 0 3) o z (given (neg (at 1)) k.2 o c.2 (given (at 2) k.1 o c.1 none))) (self-pos v h) tt,
      follows_times xs (dot_poly 0 0) (at 4) o (given (at 1) (dot_poly 0 3) o z (given (neg (at 2)) k.0 o c.0 (given (at 0) k.2 o c.2 none))) (self-pos v h) tt,
      follows_times xs (dot_poly 0 0) (at 5) o (given (at 2) (dot_poly 0 3) o z (given (neg (at 0)) k.1 o c.1 (given (at 1) k.0 o c.0 none))) (self-pos v h) tt,
    )

-- n x (a x b) = a (n.b) - b (n.a)
pub level-both : (n a b : Vector) → dot n a ≡ pos 0 → dot n b ≡ pos 0 → IsZero (cross n (cross a b))
level-both n a b i j =
    let xs = numbers n a b b in let o = num (pos 0) in let k = cross_of (vec 0) (cross_of (vec 3) (vec 6)) in (
      follows xs k.0 o (given (at 3) (dot_poly 0 6) o j (given (neg (at 6)) (dot_poly 0 3) o i none)) tt,
      follows xs k.1 o (given (at 4) (dot_poly 0 6) o j (given (neg (at 7)) (dot_poly 0 3) o i none)) tt,
      follows xs k.2 o (given (at 5) (dot_poly 0 6) o j (given (neg (at 8)) (dot_poly 0 3) o i none)) tt,
    )

pub crossed : (a b d : Vector) → dot a d ≡ pos 0 → dot b d ≡ pos 0 → IsZero (cross (cross a b) d)
crossed a b d e f = cross-turned d (cross a b) (level-both d a b (dot-comm d a ∙ e) (dot-comm d b ∙ f))

-- parallel directions in one plane
pub parallel-in_plane : (n s t : Vector) → IsDirection n → dot n s ≡ pos 0 → dot n t ≡ pos 0 → triple n s t ≡ pos 0 → IsZero (cross s t)
parallel-in_plane n s t h a b z = nought-if n (cross s t) h (level-both n s t a b) z

-- d.d f.e = d.e f.d, but for d x e
pub dot-scaled : (f d e : Vector) → IsZero (cross d e) → dot d d *ℤ dot f e ≡ dot d e *ℤ dot f d
dot-scaled f d e h =
    let k = cross_of (vec 3) (vec 0) in
    follows (numbers f d e e) (dot_poly 3 3 ⊗ dot_poly 0 6) (dot_poly 3 6 ⊗ dot_poly 0 3) (each_nought (numbers f d e e) k (cross_of (vec 3) (vec 6)) h.0 h.1 h.2) tt

-- parallel vectors: (n.n) m = (n.m) n
pub scaled-coordinates : (n m : Vector) → IsZero (cross n m) → (dot n n *ℤ m.x ≡ dot n m *ℤ n.x) × (dot n n *ℤ m.y ≡ dot n m *ℤ n.y) × (dot n n *ℤ m.z ≡ dot n m *ℤ n.z)
scaled-coordinates n m p =
    let xs = numbers n m m m in let o = num (pos 0) in let k = cross_of (vec 0) (vec 3) in (
      follows xs (dot_poly 0 0 ⊗ at 3) (dot_poly 0 3 ⊗ at 0) (given (neg (at 1)) k.2 o p.2 (given (at 2) k.1 o p.1 none)) tt,
      follows xs (dot_poly 0 0 ⊗ at 4) (dot_poly 0 3 ⊗ at 1) (given (neg (at 2)) k.0 o p.0 (given (at 0) k.2 o p.2 none)) tt,
      follows xs (dot_poly 0 0 ⊗ at 5) (dot_poly 0 3 ⊗ at 2) (given (neg (at 0)) k.1 o p.1 (given (at 1) k.0 o p.0 none)) tt,
    )

-- what is parallel to a direction of a plane lies in the plane
pub in-span : (n s q : Vector) → IsDirection s → IsZero (cross s q) → dot n s ≡ pos 0 → dot n q ≡ pos 0
in-span n s q h p z = nought-is (dot n q) (sym (sign-scaled (dot s s) (dot n q) (self-pos s h)) ∙ ap sign (dot-scaled n s q p ∙ ap (λ r. dot s q *ℤ r) z ∙ *ℤ-zero (dot s q)))

-- n.d isn't nought and n.c is: d and c aren't parallel
pub apart : (n d c : Vector) → (dot n d ≡ pos 0 → ⊥) → dot n c ≡ pos 0 → IsDirection c → IsDirection (cross d c)
apart n d c f z h p = f (in-span n c d h (cross-turned d c p) z)

-- two that are parallel to c, by c.c (a x b) = c.a (c x b), but for c x a
pub parallel-both : (c a b : Vector) → IsDirection c → IsZero (cross c a) → IsZero (cross c b) → IsZero (cross a b)
parallel-both c a b n h k =
    let xs = numbers c a b b in let o = num (pos 0) in let p = cross_of (vec 0) (vec 3) in let q = cross_of (vec 0) (vec 6) in let r = cross_of (vec 3) (vec 6) in (
      follows_times xs (dot_poly 0 0) r.0 o (given (dot_poly 0 3) q.0 o k.0 (given (neg (at 2 ⊗ at 8 ⊕ at 1 ⊗ at 7)) p.0 o h.0 (given (at 0 ⊗ at 7) p.1 o h.1 (given (at 0 ⊗ at 8) p.2 o h.2 none)))) (self-pos c n) tt,
      follows_times xs (dot_poly 0 0) r.1 o (given (dot_poly 0 3) q.1 o k.1 (given (neg (at 0 ⊗ at 6 ⊕ at 2 ⊗ at 8)) p.1 o h.1 (given (at 1 ⊗ at 8) p.2 o h.2 (given (at 1 ⊗ at 6) p.0 o h.0 none)))) (self-pos c n) tt,
      follows_times xs (dot_poly 0 0) r.2 o (given (dot_poly 0 3) q.2 o k.2 (given (neg (at 1 ⊗ at 7 ⊕ at 0 ⊗ at 6)) p.2 o h.2 (given (at 2 ⊗ at 6) p.0 o h.0 (given (at 2 ⊗ at 7) p.1 o h.1 none)))) (self-pos c n) tt,
    )

pub parallel-trans : (d v w : Vector) → IsDirection v → IsZero (cross d v) → IsZero (cross v w) → IsZero (cross d w)
parallel-trans d v w h a b = parallel-both v d w h (cross-turned d v a) b

-- three vectors at right angles to a direction lie in one plane
pub triple-in_plane : (n a b c : Vector) → IsDirection n → dot n a ≡ pos 0 → dot n b ≡ pos 0 → dot n c ≡ pos 0 → triple a b c ≡ pos 0
triple-in_plane n a b c some h k l = in-span a n (cross b c) some (level-both n b c k l) (dot-comm a n ∙ h)

-- ---- the same direction
pub direction-left : (a b : Vector) → SameDirection a b → IsDirection a
direction-left a b s z = let e = zero-dot a b z in let f = s.forward in omega (arith, ints)

pub direction-right : (a b : Vector) → SameDirection a b → IsDirection b
direction-right a b s z = let e = dot-zero a b z in let f = s.forward in omega (arith, ints)

pub SameDirection-turned : (d e : Vector) → SameDirection d e → SameDirection e d
SameDirection-turned d e w = record { parallel = cross-turned d e w.parallel; forward = let c = dot-comm e d in let h = w.forward in omega (arith, ints) }

pub dir-self : (v : Vector) → IsDirection v → SameDirection v v
dir-self v h = record { parallel = cross-self v; forward = self-pos v h }

-- every product with it has the same sign
pub dir-signs : (v d g : Vector) → IsDirection v → SameDirection v d → sign (dot g d) ≡ sign (dot g v)
dir-signs v d g h w = sym (sign-scaled (dot v v) (dot g d) (self-pos v h)) ∙ ap sign (dot-scaled g v d w.parallel) ∙ sign-scaled (dot v d) (dot g v) w.forward

pub SameDirection-trans : (c d e : Vector) → SameDirection c d → SameDirection d e → SameDirection c e
SameDirection-trans c d e a b = let h = direction-left d e b in record {
  parallel = parallel-trans c d e h a.parallel b.parallel;
  forward = plus-is (dot c e) (dir-signs d e c h b ∙ sign-plus (dot c d) a.forward);
}

pub level-way : (n d e : Vector) → SameDirection d e → dot n d ≡ pos 0 → dot n e ≡ pos 0
level-way n d e w z = in-span n d e (direction-left d e w) w.parallel z

-- ---- the opposite direction
pub opposite-twice : (v : Vector) → opposite (opposite v) ≡ v
opposite-twice v = vector-same (opposite (opposite v)) v (omega (arith, ints)) (omega (arith, ints)) (omega (arith, ints))

pub opposite-dot : (a b : Vector) → dot (opposite a) b ≡ neg_ℤ (dot a b)
opposite-dot a b = ring (numbers a b b b) (neg (at 0) ⊗ at 3 ⊕ neg (at 1) ⊗ at 4 ⊕ neg (at 2) ⊗ at 5) (neg (dot_poly 0 3)) tt

pub dot-opposite : (n d : Vector) → dot n (opposite d) ≡ neg_ℤ (dot n d)
dot-opposite n d = dot-comm n (opposite d) ∙ opposite-dot d n ∙ ap neg_ℤ (dot-comm d n)

pub neg-zero : (z : ℤ) → neg_ℤ z ≡ pos 0 → z ≡ pos 0
neg-zero z e = omega (arith, ints)

pub direction-opposite : (d : Vector) → IsDirection d → IsDirection (opposite d)
direction-opposite d h z = h (neg-zero d.x z.0, neg-zero d.y z.1, neg-zero d.z z.2)

pub level-opposite : (n d : Vector) → dot n d ≡ pos 0 → dot (opposite n) d ≡ pos 0
level-opposite n d e = opposite-dot n d ∙ ap neg_ℤ e

pub level-opposite-back : (n d : Vector) → dot (opposite n) d ≡ pos 0 → dot n d ≡ pos 0
level-opposite-back n d e = neg-zero (dot n d) (sym (opposite-dot n d) ∙ e)

pub level-of_opposite : (n d : Vector) → dot n d ≡ pos 0 → dot n (opposite d) ≡ pos 0
level-of_opposite n d e = dot-opposite n d ∙ ap neg_ℤ e

pub triple-opposite : (n a b : Vector) → triple (opposite n) a b ≡ triple n b a
triple-opposite n a b = opposite-dot n (cross a b) ∙ sym (triple-back n a b)

pub right-turn : (n u f : Vector) → triple n u (opposite f) ≡ neg_ℤ (triple n u f)
right-turn n u f = triple-dot n u (opposite f) ∙ dot-opposite (cross n u) f ∙ ap neg_ℤ (sym (triple-dot n u f))

pub back-triple : (n u f : Vector) → triple n (opposite u) f ≡ neg_ℤ (triple n u f)
back-triple n u f = triple-middle n (opposite u) f ∙ dot-opposite (cross f n) u ∙ ap neg_ℤ (sym (triple-middle n u f))

pub cross-opposite : (a e : Vector) → cross (opposite a) e ≡ opposite (cross a e)
cross-opposite a e = vector-same _ _ (one a.y e.z a.z e.y) (one a.z e.x a.x e.z) (one a.x e.y a.y e.x)
  where
    one : (p q r s : ℤ) → neg_ℤ p *ℤ q -ℤ neg_ℤ r *ℤ s ≡ neg_ℤ (p *ℤ q -ℤ r *ℤ s)
    one p q r s = ring (p ∷ q ∷ r ∷ s ∷ []) (neg (at 0) ⊗ at 1 ⊖ neg (at 2) ⊗ at 3) (neg (at 0 ⊗ at 1 ⊖ at 2 ⊗ at 3)) tt

pub parallel-opposite : (a b : Vector) → IsZero (cross a b) → IsZero (cross (opposite a) b)
parallel-opposite a b h = subst (λ (v : Vector). IsZero v) (sym (cross-opposite a b)) (ap neg_ℤ h.0, ap neg_ℤ h.1, ap neg_ℤ h.2)

pub opposite-turned : (d w : Vector) → IsOpposite d w → IsOpposite w d
opposite-turned d w o = record { parallel = cross-turned d w o.parallel; backward = let e = dot-comm w d in let b = o.backward in omega (arith, ints) }

pub opposite-way : (d e : Vector) → IsOpposite d e → SameDirection (opposite d) e
opposite-way d e o = record { parallel = parallel-opposite d e o.parallel; forward = let f = opposite-dot d e in let b = o.backward in omega (arith, ints) }

pub from-opposite : (d e : Vector) → SameDirection (opposite d) e → IsOpposite d e
from-opposite d e w = record {
  parallel = subst (λ (v : Vector). IsZero (cross v e)) (opposite-twice d) (parallel-opposite (opposite d) e w.parallel);
  backward = let f = opposite-dot d e in let b = w.forward in omega (arith, ints);
}

pub opposite-same : (d f : Vector) → SameDirection d f → SameDirection (opposite d) (opposite f)
opposite-same d f w = opposite-way d (opposite f) (record {
  parallel = cross-turned (opposite f) d (parallel-opposite f d (cross-turned d f w.parallel));
  backward = let e = dot-opposite d f in let b = w.forward in omega (arith, ints);
})

pub opposite-itself : (v : Vector) → IsDirection v → IsOpposite v (opposite v)
opposite-itself v h = from-opposite v (opposite v) (dir-self (opposite v) (direction-opposite v h))

pub opposite-cross : (a b : Vector) → opposite (cross a b) ≡ cross b a
opposite-cross a b = vector-same _ _ (one a.y a.z b.y b.z) (one a.z a.x b.z b.x) (one a.x a.y b.x b.y)
  where
    one : (p q r s : ℤ) → neg_ℤ (p *ℤ s -ℤ q *ℤ r) ≡ r *ℤ q -ℤ s *ℤ p
    one p q r s = ring (p ∷ q ∷ r ∷ s ∷ []) (neg (at 0 ⊗ at 3 ⊖ at 1 ⊗ at 2)) (at 2 ⊗ at 1 ⊖ at 3 ⊗ at 0) tt

-- opposite to both
pub opposites : (s t d : Vector) → IsDirection s → IsOpposite s t → IsOpposite s d → SameDirection t d
opposites s t d h w v = SameDirection-trans t (opposite s) d (SameDirection-turned (opposite s) t (opposite-way s t w)) (opposite-way s d v)

pub IsOpposite-same : (s u t v : Vector) → SameDirection s u → SameDirection t v → IsOpposite u v → IsOpposite s t
IsOpposite-same s u t v a b o =
    from-opposite s t (SameDirection-trans (opposite s) (opposite u) t (opposite-same s u a) (SameDirection-trans (opposite u) v t (opposite-way u v o) (SameDirection-turned t v b)))

pub same_or_opposite : (c d : Vector) → IsDirection c → IsDirection d → IsZero (cross c d) → SameDirection c d ⊎ SameDirection (opposite c) d
same_or_opposite c d n m h =
    by_order (dot c d) (pos 0) (λ k. inr (opposite-way c d (record { parallel = h; backward = k }))) (λ e. absurd (m (nought-if c d n h e))) (λ k. inl (record { parallel = h; forward = k }))

-- ---- i a + j b
pub blend-turned : (i j : ℕ) (d e : Vector) → blend i d j e ≡ blend j e i d
blend-turned i j d e = vector-same _ _ (omega (arith, ints)) (omega (arith, ints)) (omega (arith, ints))

pub dot-blend : (g d e : Vector) (i j : ℕ) → dot g (blend i d j e) ≡ pos i *ℤ dot g d +ℤ pos j *ℤ dot g e
dot-blend g d e i j = ring (pos i ∷ pos j ∷ numbers g d e e) (dot_of (vec 2) (blend_of (at 0) (vec 5) (at 1) (vec 8))) (at 0 ⊗ dot_poly 2 5 ⊕ at 1 ⊗ dot_poly 2 8) tt

pub level-blend : (n d e : Vector) (i j : ℕ) → dot n d ≡ pos 0 → dot n e ≡ pos 0 → dot n (blend i d j e) ≡ pos 0
level-blend n d e i j p q = dot-blend n d e i j ∙ ap (λ r. pos i *ℤ r +ℤ pos j *ℤ dot n e) p ∙ ap (λ r. pos i *ℤ pos 0 +ℤ pos j *ℤ r) q ∙ ring (pos i ∷ pos j ∷ []) (at 0 ⊗ num (pos 0) ⊕ at 1 ⊗ num (pos 0)) (num (pos 0)) tt

pub left-of : (i j a b : ℕ) (d c : Vector) → blend (i + j * a) d (j * b) c ≡ blend i d j (blend a d b c)
left-of i j a b d c = vector-same _ _ (one d.x c.x) (one d.y c.y) (one d.z c.z)
  where
    one : (x y : ℤ) → pos (i + j * a) *ℤ x +ℤ pos (j * b) *ℤ y ≡ pos i *ℤ x +ℤ pos j *ℤ (pos a *ℤ x +ℤ pos b *ℤ y)
    one x y = ring (pos i ∷ pos j ∷ pos a ∷ pos b ∷ x ∷ y ∷ []) ((at 0 ⊕ at 1 ⊗ at 2) ⊗ at 4 ⊕ at 1 ⊗ at 3 ⊗ at 5) (at 0 ⊗ at 4 ⊕ at 1 ⊗ (at 2 ⊗ at 4 ⊕ at 3 ⊗ at 5)) tt

pub right-of : (i j a b : ℕ) (d c : Vector) → blend (i * a) d (i * b + j) c ≡ blend i (blend a d b c) j c
right-of i j a b d c = vector-same _ _ (one d.x c.x) (one d.y c.y) (one d.z c.z)
  where
    one : (x y : ℤ) → pos (i * a) *ℤ x +ℤ pos (i * b + j) *ℤ y ≡ pos i *ℤ (pos a *ℤ x +ℤ pos b *ℤ y) +ℤ pos j *ℤ y
    one x y = ring (pos i ∷ pos j ∷ pos a ∷ pos b ∷ x ∷ y ∷ []) (at 0 ⊗ at 2 ⊗ at 4 ⊕ (at 0 ⊗ at 3 ⊕ at 1) ⊗ at 5) (at 0 ⊗ (at 2 ⊗ at 4 ⊕ at 3 ⊗ at 5) ⊕ at 1 ⊗ at 5) tt

pub cross-blend : (d a b : Vector) (i j : ℕ) → cross d (blend i a j b) ≡ blend i (cross d a) j (cross d b)
cross-blend d a b i j =
    let xs = pos i ∷ pos j ∷ numbers d a b b in let p = cross_of (vec 2) (blend_of (at 0) (vec 5) (at 1) (vec 8)) in let q = blend_of (at 0) (cross_of (vec 2) (vec 5)) (at 1) (cross_of (vec 2) (vec 8)) in
    vector-same _ _ (ring xs p.0 q.0 tt) (ring xs p.1 q.1 tt) (ring xs p.2 q.2 tt)

-- ---- normals
pub normal-direction : (n : Vector) → IsNormal n → IsDirection n
normal-direction n h z = let p = h.third z.0 z.1 in let q = z.2 in omega (arith, ints)

-- ---- the form of a plane with its sides exchanged
pub opposite-at : (h : Form) (p : SpacePoint) → form_at (opposite_form h) p ≡ neg_ℤ (form_at h p)
opposite-at h p = ring (h.a ∷ h.b ∷ h.c ∷ h.d ∷ p.x ∷ p.y ∷ p.z ∷ pos p.w ∷ [])
    (neg (at 0) ⊗ at 4 ⊕ neg (at 1) ⊗ at 5 ⊕ neg (at 2) ⊗ at 6 ⊕ neg (at 3) ⊗ at 7) (neg (at 0 ⊗ at 4 ⊕ at 1 ⊗ at 5 ⊕ at 2 ⊗ at 6 ⊕ at 3 ⊗ at 7)) tt

pub opposite-slope : (h : Form) (d : Vector) → slope (opposite_form h) d ≡ neg_ℤ (slope h d)
opposite-slope h d = ring (h.a ∷ h.b ∷ h.c ∷ d.x ∷ d.y ∷ d.z ∷ []) (neg (at 0) ⊗ at 3 ⊕ neg (at 1) ⊗ at 4 ⊕ neg (at 2) ⊗ at 5) (neg (at 0 ⊗ at 3 ⊕ at 1 ⊗ at 4 ⊕ at 2 ⊗ at 5)) tt

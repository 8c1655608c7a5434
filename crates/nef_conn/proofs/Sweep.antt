-- A segment is cut where a line along the way inward, through a vertex of the plane, crosses it; so the converse comes to segments beside which, but on the line of their start, no vertex lies.
use Rattle.nef_conn.proofs.Prelude.{◌≡◌, ℕ, zero, suc, pos, ◌<ℤ◌, ◌≤ℤ◌, arith, refl, sym, ◌∙◌, ◌⊎◌, inl, inr, ⊎_elim, List, ◌∷◌, subst, [], ints, sign, by_order, sign-plus, sign-minus, minus-is, Chained, FlatDim, IsEven, SpacePoint, Form, form_at, normal_of, slope, SamePoint, toward, IsBetween, Set, Vector, opposite, IsZero, IsDirection, IsNormal, SameDirection, plane_dir, signs-same, between-turned, between-inner, toward-point, IsAt, Vertex, Complex, Corner, Shows, RayNames, IsFlatIn, between-outer, near_point, near-between, even-by, facet-behind, between-plus, between-minus, cut-at, Cut, below-or, FacetLink, same-between, line_form, NamesOfSteps, ConverseBySteps, zero-decided, level-of_opposite, level-way, direction-right, is-at_none, is-at_first}
use Rattle.nef_conn.proofs.WayInward.{dir-level}
use Rattle.nef_space.proofs.Chains.{chain-trans, chain-turned}
use Rattle.nef_conn.proofs.ItemPaths.{even-on, even-flat, converse-by_segments}
use Rattle.nef_conn.proofs.Triangles.{cut-up}
use Rattle.nef_space.proofs.Elementary.{same-itself}

-- ---- the sign of a form between two points
module _ (h : Form) (p r q : SpacePoint) (b : IsBetween p r q) where
  minus-both : form_at h p <ℤ pos 0 → form_at h q <ℤ pos 0 → form_at h r <ℤ pos 0
  minus-both x y =
      minus-is (form_at h r) (same-between h p q r b (sign-minus (form_at h q) y ∙ sym (sign-minus (form_at h p) x)) ∙ sign-minus (form_at h q) y)

  pub minus-any : form_at h p ≤ℤ pos 0 → form_at h q <ℤ pos 0 → form_at h r <ℤ pos 0
  minus-any x y = by_order (form_at h p) (pos 0) (λ l. minus-both l y) (λ e. between-minus h p r q b e y) (λ l. absurd (omega (arith, ints)))

  pub plus-any : pos 0 ≤ℤ form_at h p → pos 0 <ℤ form_at h q → pos 0 <ℤ form_at h r
  plus-any x y = between-plus h q r p (between-turned p q r b) y x

-- the form changes its sign from the one point to the other
abbrev pub Crosses : Form → SpacePoint → SpacePoint → Type 0
Crosses h p q = ((pos 0 <ℤ form_at h p) × (form_at h q <ℤ pos 0)) ⊎ ((form_at h p <ℤ pos 0) × (pos 0 <ℤ form_at h q))

pub crosses-or : (h : Form) (p q : SpacePoint) → Crosses h p q ⊎ (Crosses h p q → ⊥)
crosses-or h p q = by_order (form_at h p) (pos 0)
    (λ l. by_order (form_at h q) (pos 0) (λ m. inr (neither l m)) (λ m. inr (λ x. none-up (omega (arith, ints)) (omega (arith, ints)) x)) (λ m. inl (inr (l, m))))
    (λ l. inr (λ x. none-level l x))
    (λ l. by_order (form_at h q) (pos 0) (λ m. inl (inl (l, m))) (λ m. inr (λ x. none-down (omega (arith, ints)) (omega (arith, ints)) x)) (λ m. inr (λ x. none-down (omega (arith, ints)) (omega (arith, ints)) x)))
  where
    none-level : form_at h p ≡ pos 0 → Crosses h p q → ⊥
    none-level e (inl x) = let a = x.0 in omega (arith, ints)
    none-level e (inr x) = let a = x.0 in omega (arith, ints)

    none-up : form_at h p <ℤ pos 0 → form_at h q ≤ℤ pos 0 → Crosses h p q → ⊥
    none-up a b (inl x) = let c = x.0 in omega (arith, ints)
    none-up a b (inr x) = let c = x.1 in omega (arith, ints)

    none-down : pos 0 <ℤ form_at h p → pos 0 ≤ℤ form_at h q → Crosses h p q → ⊥
    none-down a b (inl x) = let c = x.1 in omega (arith, ints)
    none-down a b (inr x) = let c = x.0 in omega (arith, ints)

    neither : form_at h p <ℤ pos 0 → form_at h q <ℤ pos 0 → Crosses h p q → ⊥
    neither a b x = none-up a (omega (arith, ints)) x

module _ (h : Form) (p r q : SpacePoint) (b : IsBetween p r q) where
  -- what crosses a part crosses the whole
  pub crosses-first : Crosses h p r → Crosses h p q
  crosses-first (inl (x, y)) = inl (x, ⊎_elim (λ l. l) (λ l. absurd (let m = between-plus h p r q b x l in omega (arith, ints))) (below-or (form_at h q)))
  crosses-first (inr (x, y)) = inr (
    x,
    by_order (form_at h q) (pos 0)
        (λ l. absurd (let m = minus-any h q r p (between-turned p q r b) (omega (arith, ints)) x in omega (arith, ints)))
        (λ l. absurd (let m = minus-any h q r p (between-turned p q r b) (omega (arith, ints)) x in omega (arith, ints))) (λ l. l),
  )

  pub crosses-second : Crosses h r q → Crosses h p q
  crosses-second (inl (x, y)) = inl (
    by_order (form_at h p) (pos 0)
        (λ l. absurd (let m = minus-any h p r q b (omega (arith, ints)) y in omega (arith, ints)))
        (λ l. absurd (let m = minus-any h p r q b (omega (arith, ints)) y in omega (arith, ints))) (λ l. l),
    y,
  )
  crosses-second (inr (x, y)) = inr (⊎_elim (λ l. l) (λ l. absurd (let m = plus-any h p r q b l y in omega (arith, ints))) (below-or (form_at h p)), y)

  -- where it doesn't cross the whole, it has between the sign that it has at the start
  keeps-start : (Crosses h p q → ⊥) → (form_at h p ≡ pos 0 → ⊥) → sign (form_at h r) ≡ sign (form_at h p)
  keeps-start none off = by_order (form_at h p) (pos 0)
      (λ l. let m = minus-any h q r p (between-turned p q r b) (⊎_elim (λ u. omega (arith, ints)) (λ u. by_order (form_at h q) (pos 0) (λ v. omega (arith, ints)) (λ v. omega (arith, ints)) (λ v. absurd (none (inr (l, v))))) (below-or (form_at h q))) l in
      sign-minus (form_at h r) m ∙ sym (sign-minus (form_at h p) l))
      (λ e. absurd (off e))
      (λ l. let m = between-plus h p r q b l (⊎_elim (λ u. absurd (none (inl (l, u)))) (λ u. u) (below-or (form_at h q))) in
      sign-plus (form_at h r) m ∙ sym (sign-plus (form_at h p) l))

turned-crossing : (h : Form) (p q : SpacePoint) → Crosses h q p → Crosses h p q
turned-crossing h p q (inl (x, y)) = inr (y, x)
turned-crossing h p q (inr (x, y)) = inl (y, x)

-- where the form is nought at an end it doesn't cross
pub level-end : (h : Form) (p q : SpacePoint) → form_at h q ≡ pos 0 → Crosses h p q → ⊥
level-end h p q e (inl x) = let a = x.1 in omega (arith, ints)
level-end h p q e (inr x) = let a = x.1 in omega (arith, ints)

pub level-start : (h : Form) (p q : SpacePoint) → form_at h p ≡ pos 0 → Crosses h p q → ⊥
level-start h p q e (inl x) = let a = x.0 in omega (arith, ints)
level-start h p q e (inr x) = let a = x.0 in omega (arith, ints)

-- ---- parts of an even segment
module _ (s : Set) (p r q : SpacePoint) (even : IsEven s 2 p q) (b : IsBetween p r q) where
  at-part : FlatDim s r 2
  at-part = even r (inr (inl b))

  first-part : IsEven s 2 p r
  first-part = even-by s 2 p r (even p (inl (same-itself p))) (λ t c. even t (inr (inl (between-inner p r q t b c)))) at-part

  second-part : IsEven s 2 r q
  second-part = even-by s 2 r q at-part (λ t c. even t (inr (inl (between-outer p r t q b c)))) (even q (inr (inr (same-itself q))))

  second-back : IsEven s 2 q r
  second-back = even-by s 2 q r (even q (inr (inr (same-itself q)))) (λ t c. even t (inr (inl (between-outer p r t q b (between-turned q r t c))))) at-part

-- ---- over the vertices
later : (x : Vertex) (xs : List Vertex) (u : Vertex) → ((j : ℕ) × IsAt (x ∷ xs) j u) → (x ≡ u → ⊥) → (j : ℕ) × IsAt xs j u
later x xs u (zero, e) f = absurd (f (is-at_first e))
later x xs u (suc j, a) f = (j, a)

pub cut-of : (h : Form) (p q : SpacePoint) → Crosses h p q → Cut h p q
cut-of h p q x = ⊎_elim (λ z. absurd (apart (toward-point p q z) x)) (λ i. by i x) (zero-decided (toward p q))
  where
    apart : SamePoint p q → Crosses h p q → ⊥
    apart e x = one (signs-same (h ∷ []) p q e h (inl refl)) x
      where
        one : sign (form_at h p) ≡ sign (form_at h q) → Crosses h p q → ⊥
        one g (inl x) = let m = minus-is (form_at h p) (g ∙ sign-minus (form_at h q) x.1) in let l = x.0 in omega (arith, ints)
        one g (inr x) = let m = minus-is (form_at h q) (sym g ∙ sign-minus (form_at h p) x.0) in let l = x.1 in omega (arith, ints)

    by : IsDirection (toward p q) → Crosses h p q → Cut h p q
    by i (inl x) = cut-at h p q i x.0 x.1
    by i (inr x) = cut-up h p q i x.0 x.1

module _ (s : Set) (C : Complex) (S : Shows s C) (steps : NamesOfSteps s C) (h : Form) (N : IsNormal (normal_of h)) (d : Vector) (inward : SameDirection (opposite (plane_dir (normal_of h))) d) where
  some : IsDirection d
  some = direction-right (opposite (plane_dir (normal_of h))) d inward

  level : slope h d ≡ pos 0
  level = level-way (normal_of h) (opposite (plane_dir (normal_of h))) d inward (level-of_opposite (normal_of h) (plane_dir (normal_of h)) (dir-level (normal_of h)))

  -- the form of the line along d through a vertex
  abbrev Line : Vertex → Form
  Line u = line_form (normal_of h) d u.point

  named-at : (r : SpacePoint) → form_at h r ≡ pos 0 → IsFlatIn s h r → (c : Corner) × RayNames C h r d c
  named-at r on F = let m = facet-behind s C S h r N on d some level F in (m.2.0, (m.0, m.1, m.2.1))

  -- where no line of a vertex crosses the segment, each half is a step
  uncrossed : (y z : SpacePoint) (k l : Corner) → form_at h y ≡ pos 0 → IsFlatIn s h y → IsEven s 2 y z → RayNames C h y d k → RayNames C h z d l
      → ((i : ℕ) (u : Vertex) → IsAt C.vertices i u → form_at h u.point ≡ pos 0 → Crosses (Line u) y z → ⊥) → Chained (FacetLink C) k l
  uncrossed y z k l on F even a b none = ⊎_elim at-one-place by-halves (zero-decided (toward y z))
    where
      at-one-place : IsZero (toward y z) → Chained (FacetLink C) k l
      at-one-place e = steps h d y z k l N on F inward even (λ i u p q off. sym (signs-same (Line u ∷ []) y z (toward-point y z e) (Line u) (inl refl))) a b

      by-halves : IsDirection (toward y z) → Chained (FacetLink C) k l
      by-halves i =
          let r = near_point s y z in
          let m = near-between s y z i in
          let first = first-part s y r z even m in
          let c = named-at r (even-on s h y r on F first) (even-flat s h y r on F first) in
          let left = steps h d y r k c.0 N on F inward first (λ i u p q off. keeps-start (Line u) y r z m (none i u p q) off) a c.1 in
          let right = steps h d z r l c.0 N (even-on s h y z on F even) (even-flat s h y z on F even) inward (second-back s y r z even m)
          (λ i u p q off. keeps-start (Line u) z r y (between-turned y z r m) (λ x. none i u p q (turned-crossing (Line u) y z x)) off) b c.1 in
          chain-trans (FacetLink C) k c.0 l left (chain-turned (FacetLink C) l c.0 right)

  sweep : (xs : List Vertex) (y z : SpacePoint) (k l : Corner) → form_at h y ≡ pos 0 → IsFlatIn s h y → IsEven s 2 y z → RayNames C h y d k → RayNames C h z d l
      → ((i : ℕ) (u : Vertex) → IsAt C.vertices i u → form_at h u.point ≡ pos 0 → Crosses (Line u) y z → (j : ℕ) × IsAt xs j u) → Chained (FacetLink C) k l
  sweep [] y z k l on F even a b only = uncrossed y z k l on F even a b (λ i u p q x. is-at_none (only i u p q x).1)
  sweep (x ∷ xs) y z k l on F even a b only = ⊎_elim
      (λ cr.
      let t = cut-of (Line x) y z cr in
      let r = t.place in
      let first = first-part s y r z even t.between in
      let on-r = even-on s h y r on F first in
      let G = even-flat s h y r on F first in
      let c = named-at r on-r G in
      chain-trans (FacetLink C) k c.0 l
      (sweep xs y r k c.0 on F first a c.1 (λ i u p q o. later x xs u (only i u p q (crosses-first (Line u) y r z t.between o)) (λ e. level-end (Line x) y r t.level (subst (λ (w : Vertex). Crosses (Line w) y r) (sym e) o))))
      (sweep xs r z c.0 l on-r G (second-part s y r z even t.between) c.1 b
      (λ i u p q o. later x xs u (only i u p q (crosses-second (Line u) y r z t.between o)) (λ e. level-start (Line x) r z t.level (subst (λ (w : Vertex). Crosses (Line w) r z) (sym e) o)))))
      (λ no. sweep xs y z k l on F even a b (λ i u p q o. later x xs u (only i u p q o) (λ e. no (subst (λ (w : Vertex). Crosses (Line w) y z) (sym e) o))))
      (crosses-or (Line x) y z)

  pub segment-names : (y z : SpacePoint) (k l : Corner) → form_at h y ≡ pos 0 → IsFlatIn s h y → IsEven s 2 y z → RayNames C h y d k → RayNames C h z d l → Chained (FacetLink C) k l
  segment-names y z k l on F even a b = sweep C.vertices y z k l on F even a b (λ i u p q x. (i, p))

pub converse-by_steps : ConverseBySteps
converse-by_steps s C S steps = converse-by_segments s C S (λ h d y z k l N on F inward even a b. segment-names s C S steps h N d inward y z k l on F even a b)

-- The germs of a half are those of the frame and of its plane.
use Rattle.nef_result.proofs.Prelude.{◌≡◌, zero, suc, ◌+◌, ℤ, pos, negsuc, ◌<ℤ◌, arith, refl, sym, ◌∙◌, ap, ◌↔◌, Bool, true, false, cond, not, subst, ints, Sign, minus, nought, plus, sign, sign-neg, sign_turned, minus-is, nought-is, plus-is, at, HasLabel, Germ, IsShort, SpacePoint, Form, Ratio, step, form_at, slope, normal_of, Set, InHalf, Vector, IsDirection, SameDirection, dot, Label, Out, Not, In, opposite_form, given_form, form_of, sign_of, Minus, Zero, Plus, ray-level, ray-keeps, sign_at, ByOp, Cone, by_side, Map, MapLabel, Valid, op_label, And, map_of, IsSphereMap, SphereMap}
use Rattle.nef_space.specs.Sets.{Holds}
use Rattle.nef_geo.specs.declared.plane.Oriented.{Oriented}
use Rattle.law_geometry.specs.near.Near.{span}
use Rattle.law_geometry.proofs.near.Combine.{shorter}
use Rattle.law_geometry.proofs.sphere.building.SideLabels.{side-same_way}
use Rattle.nef_result.specs.Halves.{inside_label, side_label, IsMapOfPlane}
use Rattle.nef_space.proofs.Elementary.{minus-not_nought, plus-not_nought}
use Rattle.nef_space.proofs.Vectors.{opposite-slope}

-- ---- the label of a half
module _ (f : Form) (closed : Bool) (q : SpacePoint) where
  -- a point of the frame has the label of its side
  in-frame : HasLabel Set.full q In → (t : Sign) → sign_at f q ≡ t → HasLabel (Set.half f closed) q (side_label closed t)
  unfolding Holds
  in-frame h minus e = (h.0, below closed (minus-is (form_at f q) e))
    where
      below : (c : Bool) → form_at f q <ℤ pos 0 → InHalf f c q
      below true l = omega (arith, ints, l)
      below false l = l
  in-frame h nought e = level closed (nought-is (form_at f q) e)
    where
      level : (c : Bool) → form_at f q ≡ pos 0 → HasLabel (Set.half f c) q (side_label c nought)
      level true z = (h.0, omega (arith, ints, z))
      level false z = (h.0, λ l. omega (arith, ints, z, l))
  in-frame h plus e = (h.0, above closed (plus-is (form_at f q) e))
    where
      above : (c : Bool) → pos 0 <ℤ form_at f q → InHalf f c q → ⊥
      above true l i = omega (arith, ints, l, i)
      above false l i = omega (arith, ints, l, i)

  half-label : (l : Label) → HasLabel Set.full q l → HasLabel (Set.half f closed) q (op_label And l (side_label closed (sign_at f q)))
  unfolding Holds
  half-label Out h = h
  half-label Not h = absurd (h.1 tt)
  half-label In h = subst (HasLabel (Set.half f closed) q) (sym (and-in (side_label closed (sign_at f q)) (never closed (sign_at f q)))) (in-frame h (sign_at f q) refl)
    where
      never : (c : Bool) (t : Sign) → side_label c t ≡ Out → ⊥
      never c minus e = cc
      never true nought e = cc
      never false nought e = cc
      never c plus e = cc

      and-in : (k : Label) → (k ≡ Out → ⊥) → op_label And In k ≡ k
      and-in Out n = refl
      and-in Not n = refl
      and-in In n = refl

-- ---- signs of the two kinds
is-minus : (z : ℤ) → Minus ≡ sign_of z → sign z ≡ minus
is-minus (pos zero) e = let i : Minus ≡ Zero = e in absurd (cc)
is-minus (pos (suc n)) e = let i : Minus ≡ Plus = e in absurd (cc)
is-minus (negsuc n) e = refl

is-nought : (z : ℤ) → Zero ≡ sign_of z → sign z ≡ nought
is-nought (pos zero) e = refl
is-nought (pos (suc n)) e = let i : Zero ≡ Plus = e in absurd (cc)
is-nought (negsuc n) e = let i : Zero ≡ Minus = e in absurd (cc)

is-plus : (z : ℤ) → Plus ≡ sign_of z → sign z ≡ plus
is-plus (pos zero) e = let i : Plus ≡ Zero = e in absurd (cc)
is-plus (pos (suc n)) e = refl
is-plus (negsuc n) e = let i : Plus ≡ Minus = e in absurd (cc)

-- ---- its germs
-- the sign of a form close to a point in some direction, from its sign at the point and that of its slope
abbrev pub sign_beside : Sign → Sign → Sign
sign_beside minus t = minus
sign_beside nought t = t
sign_beside plus t = plus

-- the sign of the form one short step from the point
sign-stepped : (f : Form) (p : SpacePoint) (t : Ratio) (d : Vector) → IsShort (span f p d) t → sign_at f (step p t d) ≡ sign_beside (sign_at f p) (sign (slope f d))
sign-stepped f p t d h = by (sign_at f p) refl
  where
    by : (s : Sign) → sign_at f p ≡ s → sign_at f (step p t d) ≡ sign_beside s (sign (slope f d))
    by minus e = ray-keeps f p t d h (λ z. minus-not_nought (sign_at f p) e (ap sign z)) ∙ e
    by nought e = ray-level f p t d h.0 (nought-is (form_at f p) e)
    by plus e = ray-keeps f p t d h (λ z. plus-not_nought (sign_at f p) e (ap sign z)) ∙ e

half-germ : (f : Form) (closed : Bool) (p : SpacePoint) (d : Vector) (l : Label) → Germ Set.full p d l → Germ (Set.half f closed) p d (op_label And l (side_label closed (sign_beside (sign_at f p) (sign (slope f d)))))
half-germ f closed p d l (n, some, g) = (
  n + span f p d,
  omega (arith, some),
  λ t h.
      subst (λ s. HasLabel (Set.half f closed) (step p t d) (op_label And l (side_label closed s)))
      (sign-stepped f p t d (shorter (span f p d) (n + span f p d) t (omega arith) h))
      (half-label f closed (step p t d) l (g t (shorter n (n + span f p d) t (omega arith) h))),
)

-- at a point of the plane
pub half-cone : (f : Form) (closed : Bool) (p : SpacePoint) (W H M : SphereMap) → Zero ≡ sign_of (form_at f p) → Cone (map_of W) Set.full p → IsMapOfPlane f closed H → Valid (map_of M)
    → M.mark ≡ op_label And W.mark H.mark → ((d : Vector) (l : Label) → IsDirection d → MapLabel (map_of M) d l ↔ ByOp (map_of W) (map_of H) (op_label And) d l) → Cone (map_of M) (Set.half f closed) p
half-cone f closed p W H M on C I valid mark labels = record {
  valid = valid;
  mark = subst (HasLabel (Set.half f closed) p) (sym (mark ∙ ap (op_label And W.mark) (I.mark ∙ ap (side_label closed) (sym e)))) (half-label f closed p W.mark C.mark);
  labels = λ d i.
      let a = C.labels d i in
      let k = side_label closed (sign (slope f d)) in (
        op_label And a.0 k,
        (labels d (op_label And a.0 k) i).1 (a.0, k, a.1, I.labels d i, refl),
        subst (λ s. Germ (Set.half f closed) p d (op_label And a.0 (side_label closed (sign_beside s (sign (slope f d)))))) e (half-germ f closed p d a.0 a.2),
      );
}
  where
    e : sign_at f p ≡ nought
    e = is-nought (form_at f p) on

-- at a point off the plane: on one side of it the set has the labels of the half
module _ (f : Form) (closed : Bool) (p : SpacePoint) (s : Set) (M : Map) (side : Sign) (at : sign_at f p ≡ side) (beside : (t : Sign) → sign_beside side t ≡ side)
    (same : (q : SpacePoint) (l : Label) → sign_at f q ≡ side → HasLabel s q l → HasLabel (Set.half f closed) q l) where
  off-germ : (d : Vector) (l : Label) → Germ s p d l → Germ (Set.half f closed) p d l
  off-germ d l (n, some, g) = (
    n + span f p d,
    omega (arith, some),
    λ t h. same (step p t d) l
        (sign-stepped f p t d (shorter (span f p d) (n + span f p d) t (omega arith) h) ∙ ap (λ r. sign_beside r (sign (slope f d))) at ∙ beside (sign (slope f d)))
        (g t (shorter n (n + span f p d) t (omega arith) h)),
  )

  off-cone : Cone M s p → Cone M (Set.half f closed) p
  off-cone C = record {
    valid = C.valid;
    mark = same p M.mark at C.mark;
    labels = λ d i. let a = C.labels d i in (a.0, a.1, off-germ d a.0 a.2);
  }

-- where the form is negative
below-label : (f : Form) (closed : Bool) (q : SpacePoint) (l : Label) → sign_at f q ≡ minus → HasLabel Set.full q l → HasLabel (Set.half f closed) q l
unfolding Holds
below-label f closed q Out e h = h
below-label f closed q Not e h = absurd (h.1 tt)
below-label f closed q In e h = in-frame f closed q h minus e

pub below-cone : (f : Form) (closed : Bool) (p : SpacePoint) (M : Map) → Minus ≡ sign_of (form_at f p) → Cone M Set.full p → Cone M (Set.half f closed) p
below-cone f closed p M e = off-cone f closed p Set.full M minus (is-minus (form_at f p) e) (λ t. refl) (below-label f closed)

-- where it is positive
above-label : (f : Form) (closed : Bool) (q : SpacePoint) (l : Label) → sign_at f q ≡ plus → HasLabel (Set.other Set.full) q l → HasLabel (Set.half f closed) q l
unfolding Holds
above-label f closed q Out e h = h
above-label f closed q Not e h = in-frame f closed q (h.0, tt) plus e
above-label f closed q In e h = absurd (h.1 tt)

pub above-cone : (f : Form) (closed : Bool) (p : SpacePoint) (M : Map) → Plus ≡ sign_of (form_at f p) → Cone M (Set.other Set.full) p → Cone M (Set.half f closed) p
above-cone f closed p M e = off-cone f closed p (Set.other Set.full) M plus (is-plus (form_at f p) e) (λ t. refl) (above-label f closed)

-- ---- the map of the plane
-- the slope of the given form, which may be turned
given-slope : (h : Form) (turned : Bool) (d : Vector) → sign (slope (cond turned (opposite_form h) h) d) ≡ cond turned (sign_turned (sign (slope h d))) (sign (slope h d))
given-slope h true d = ap sign (opposite-slope h d) ∙ sign-neg (slope h d)
given-slope h false d = refl

by-sides : (turned closed : Bool) (t : Sign) → by_side (inside_label turned) (inside_label closed) (inside_label (not turned)) t ≡ side_label closed (cond turned (sign_turned t) t)
by-sides true closed minus = refl
by-sides true closed nought = refl
by-sides true closed plus = refl
by-sides false closed minus = refl
by-sides false closed nought = refl
by-sides false closed plus = refl

plane-label : (h : Form) (n : Vector) (turned closed : Bool) (d : Vector) → SameDirection (normal_of h) n
    → by_side (inside_label turned) (inside_label closed) (inside_label (not turned)) (sign (dot n d)) ≡ side_label closed (sign (slope (cond turned (opposite_form h) h) d))
plane-label h n turned closed d same =
    ap (λ t. by_side (inside_label turned) (inside_label closed) (inside_label (not turned)) t) (side-same_way (normal_of h) n d same)
    ∙ by-sides turned closed (sign (slope h d)) ∙ ap (side_label closed) (sym (given-slope h turned d))

same-sides : (a m b x y z : Label) (t : Sign) → a ≡ x → m ≡ y → b ≡ z → by_side a m b t ≡ by_side x y z t
same-sides a m b x y z t e f g = ap (λ k. by_side k m b t) e ∙ ap (λ k. by_side x k b t) f ∙ ap (λ k. by_side x y k t) g

pub plane-shown : (o : Oriented) (closed turned : Bool) (n : Vector) (m a b : Label) (M : SphereMap) → turned ≡ o.flipped → SameDirection (normal_of (form_of o.plane)) n
    → m ≡ inside_label closed → a ≡ inside_label turned → b ≡ inside_label (not turned) → IsSphereMap M → M.mark ≡ m
    → ((d : Vector) → IsDirection d → MapLabel (map_of M) d (by_side a m b (sign (dot n d)))) → IsMapOfPlane (given_form o) closed M
plane-shown o closed turned n m a b M u same e f g valid mark labels = record {
  map = valid;
  mark = mark ∙ e;
  labels = λ d i. subst (MapLabel (map_of M) d)
      (same-sides a m b (inside_label o.flipped) (inside_label closed) (inside_label (not o.flipped)) (sign (dot n d)) (f ∙ ap inside_label u) e (g ∙ ap (λ k. inside_label (not k)) u)
      ∙ plane-label (form_of o.plane) n o.flipped closed d same) (labels d i);
}

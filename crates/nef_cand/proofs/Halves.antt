-- The vertices of a half are vertices of the frame, or points where its plane crosses an edge of the frame.
use Rattle.nef_cand.proofs.Prelude.{◌≡◌, ℕ, zero, suc, ◌+◌, ◌<◌, ℤ, pos, neg_ℤ, ◌+ℤ◌, ◌-ℤ◌, ◌*ℤ◌, Bool, true, false, List, [], ◌∷◌, map, arith, ap, sym, ◌∙◌, ◌⊎◌, inl, inr, ⊎_elim, ◌↔◌, ints, sign, ring, Poly, at, num, neg, ◌⊕◌, ◌⊖◌, ◌⊗◌, given, none, follows, by_order, sign-minus, minus-is, sign-plus, plus-is, sign-scaled, nought-is, nought-or, square_pos, HasLabel, Flat, HasFlat, FlatDim, IsVertex, SpacePoint, Form, Ratio, step, Within, form_at, slope, toward, InFrame, Set, InHalf, Vector, cross, IsDirection, Label, Out, Not, In, Point, sign_at, combination, HasFlat-fewer, flat_dim-of, never-flat, Shows, SamePlane, IsEdgePoint, HoldsEdge, edge-points, edge-way, plane-turned, plane-point, plane-slope, plane-way, between-ends, Named, named_point, IsOnceEach, IsListed, IsVertexOf, IsCutBy, AreCutCandidates, AddsPoints, positive-factor}
use Rattle.nef_space.specs.Sets.{Holds}
use Rattle.law_geometry.proofs.near.Near.{reach, keeps, weaken, form-step}
use Rattle.law_geometry.proofs.near.FlatOperations.{flat-combination}
use Rattle.law_geometry.specs.complex.Complexes.{Complex}
use Rattle.law_geometry.proofs.complex.Joining.{edges-complete}
use Rattle.nef_cand.proofs.Adding.{adds-both}
use Rattle.nef_cand.proofs.Complete.{listed-decided, added-exactly, vertex-of}
use Rattle.law_geometry.proofs.sphere.Walk.{cross-direction_left}

-- ---- what is flat for a half
-- a half holds where its form has the sign
in-half : (f : Form) (c : Bool) (q r : SpacePoint) → sign_at f q ≡ sign_at f r → InHalf f c q → InHalf f c r
in-half f false q r e h = minus-is (form_at f r) (sym e ∙ sign-minus (form_at f q) h)
in-half f true q r e h = by_order (form_at f r) (pos 0) (λ l. omega (arith, ints)) (λ o. omega (arith, ints)) (λ l. let k = plus-is (form_at f q) (e ∙ sign-plus (form_at f r) l) in absurd (omega (arith, ints)))

half-label : (f : Form) (c : Bool) (q r : SpacePoint) → (InFrame q → InFrame r) → (InFrame r → InFrame q) → sign_at f q ≡ sign_at f r → (l : Label) → HasLabel (Set.half f c) q l → HasLabel (Set.half f c) r l
unfolding Holds
half-label f c q r i j e Out h = λ k. h (j k)
half-label f c q r i j e Not h = (i h.0, λ k. h.1 (in-half f c r q (sym e) k))
half-label f c q r i j e In h = (i h.0, in-half f c q r e h.1)

full-frame : (q : SpacePoint) → InFrame q → HasLabel Set.full q In
unfolding Holds
full-frame q i = (i, tt)

module _ (f : Form) (c : Bool) (y : SpacePoint) (d : Vector) where
  -- within 1/n of y the form has the same sign at q and at q + t d
  flat-near : (n : ℕ) → 0 < n → ((q : SpacePoint) (t : Ratio) → Within n y q → Within n y (step q t d) → (l : Label) → HasLabel Set.full q l ↔ HasLabel Set.full (step q t d) l)
      → ((q : SpacePoint) (t : Ratio) → Within n y q → Within n y (step q t d) → sign_at f q ≡ sign_at f (step q t d)) → Flat (Set.half f c) y d
  flat-near n some same even = (
    n,
    some,
    λ q t a b l.
        let g = same q t a b In in
        let onto = λ (i : InFrame q). (g.0 (full-frame q i)).0 in
        let back = λ (i : InFrame (step q t d)). (g.1 (full-frame (step q t d) i)).0 in
        (half-label f c q (step q t d) onto back (even q t a b) l, half-label f c (step q t d) q back onto (sym (even q t a b)) l),
  )

  -- a direction that is flat for the frame is flat for a half whose plane holds it or doesn't pass
  pub half-flat : Flat Set.full y d → (form_at f y ≡ pos 0 → slope f d ≡ pos 0) → Flat (Set.half f c) y d
  half-flat (n, some, same) held = ⊎_elim level off (nought-or (form_at f y))
    where
      level : form_at f y ≡ pos 0 → Flat (Set.half f c) y d
      level e = flat-near n some same (λ q t a b. sym (ap sign (onward q t) ∙ sign-scaled (pos t.b) (form_at f q) (let m = t.proper in omega (arith, ints))))
        where
          onward : (q : SpacePoint) (t : Ratio) → form_at f (step q t d) ≡ pos t.b *ℤ form_at f q
          onward q t = form-step f q t d ∙ ap (λ r. pos t.b *ℤ form_at f q +ℤ t.a *ℤ pos q.w *ℤ r) (held e) ∙ ring (pos t.b ∷ form_at f q ∷ t.a ∷ pos q.w ∷ []) (at 0 ⊗ at 1 ⊕ at 2 ⊗ at 3 ⊗ num (pos 0)) (at 0 ⊗ at 1) tt

      off : (form_at f y ≡ pos 0 → ⊥) → Flat (Set.half f c) y d
      off e = flat-near (n + reach f y) (omega (arith, some))
          (λ q t a b. same q t (weaken n (n + reach f y) y q (omega arith) a) (weaken n (n + reach f y) y (step q t d) (omega arith) b))
          (λ q t a b. keeps f y q (weaken (reach f y) (n + reach f y) y q (omega arith) a) (λ z. e (nought-is (form_at f y) z))
          ∙ sym (keeps f y (step q t d) (weaken (reach f y) (n + reach f y) y (step q t d) (omega arith) b) (λ z. e (nought-is (form_at f y) z))))

-- ---- two flat directions
abbrev fd : Poly
fd = at 0 ⊗ at 3 ⊕ at 1 ⊗ at 4 ⊕ at 2 ⊗ at 5

abbrev fe : Poly
fe = at 0 ⊗ at 6 ⊕ at 1 ⊗ at 7 ⊕ at 2 ⊗ at 8

-- of two independent directions one combination lies in the plane
combined-level : (f : Form) (d e : Vector) → slope f (combination (slope f e) d (neg_ℤ (slope f d)) e) ≡ pos 0
combined-level f d e = ring (f.a ∷ f.b ∷ f.c ∷ d.x ∷ d.y ∷ d.z ∷ e.x ∷ e.y ∷ e.z ∷ [])
    (at 0 ⊗ (fe ⊗ at 3 ⊕ neg fd ⊗ at 6) ⊕ at 1 ⊗ (fe ⊗ at 4 ⊕ neg fd ⊗ at 7) ⊕ at 2 ⊗ (fe ⊗ at 5 ⊕ neg fd ⊗ at 8)) (num (pos 0)) tt

-- which is a direction: d x (j d + k e) = k (d x e)
combined-some : (d e : Vector) (j k : ℤ) → IsDirection (cross d e) → (k ≡ pos 0 → ⊥) → IsDirection (combination j d k e)
combined-some d e j k some n z = some (one d.y d.z e.y e.z z.1 z.2, one d.z d.x e.z e.x z.2 z.0, one d.x d.y e.x e.y z.0 z.1)
  where
    one : (a b x y : ℤ) → j *ℤ a +ℤ k *ℤ x ≡ pos 0 → j *ℤ b +ℤ k *ℤ y ≡ pos 0 → a *ℤ y -ℤ b *ℤ x ≡ pos 0
    one a b x y p q = positive-factor (k *ℤ k) (a *ℤ y -ℤ b *ℤ x) (square_pos k n)
        (follows (a ∷ b ∷ x ∷ y ∷ j ∷ k ∷ []) (at 5 ⊗ at 5 ⊗ (at 0 ⊗ at 3 ⊖ at 1 ⊗ at 2)) (num (pos 0))
        (given (at 5 ⊗ at 0) (at 4 ⊗ at 1 ⊕ at 5 ⊗ at 3) (num (pos 0)) q (given (num (pos 0) ⊖ at 5 ⊗ at 1) (at 4 ⊗ at 0 ⊕ at 5 ⊗ at 2) (num (pos 0)) p none)) tt)

-- where two independent directions are flat for the frame, one is for the half
two-flat : (f : Form) (c : Bool) (y : SpacePoint) → HasFlat Set.full y 2 → (d : Vector) × IsDirection d × Flat (Set.half f c) y d
two-flat f c y (d, e, some, g, h) = ⊎_elim
    (λ z. (d, cross-direction_left d e some, half-flat f c y d g (λ o. z)))
    (λ n. (
      combination (slope f e) d (neg_ℤ (slope f d)) e,
      combined-some d e (slope f e) (neg_ℤ (slope f d)) some (λ z. n (omega (arith, ints, z))),
      half-flat f c y (combination (slope f e) d (neg_ℤ (slope f d)) e) (flat-combination Set.full y d e (slope f e) (neg_ℤ (slope f d)) g h) (λ o. combined-level f d e),
    ))
    (nought-or (slope f d))

-- ---- the vertices of a half
module _ (C : Complex) (S : Shows Set.full C) (h f : Form) (P : SamePlane h f) (c : Bool) (y : SpacePoint) where
  -- on an edge of the frame that the plane doesn't cut there
  along-edge : (IsCutBy C h y → ⊥) → (k : ℕ) × IsEdgePoint C k y → (d : Vector) × IsDirection d × Flat (Set.half f c) y d
  along-edge uncut (k, (e, v, w, a, H, b)) =
      let d = toward v.point w.point in
      let E = edge-points Set.full C k e v w y S a H b in
      (d, between-ends v.point y w.point b, half-flat f c y d ((E.1 d).1 (edge-way Set.full C k e v w S a H)) level)
    where
      holds : form_at h y ≡ pos 0 → HoldsEdge h v w
      holds o = ⊎_elim
          (λ p. ⊎_elim (λ q. (p, q)) (λ q. absurd (uncut (k, e, v, w, a, H, b, o, λ z. q z.1))) (nought-or (form_at h w.point)))
          (λ p. absurd (uncut (k, e, v, w, a, H, b, o, λ z. p z.0)))
          (nought-or (form_at h v.point))

      level : form_at f y ≡ pos 0 → slope f (toward v.point w.point) ≡ pos 0
      level o = let z = holds (plane-point f h y (plane-turned h f P) o) in plane-slope h f (toward v.point w.point) P (plane-way h v.point w.point z.0 z.1)

  half-way : (IsVertex Set.full y → ⊥) → (IsCutBy C h y → ⊥) → (d : Vector) × IsDirection d × Flat (Set.half f c) y d
  half-way off uncut = let j = flat_dim-of Set.full y in by j.0 j.1
    where
      by : (j : ℕ) → FlatDim Set.full y j → (d : Vector) × IsDirection d × Flat (Set.half f c) y d
      by zero g = absurd (off g)
      by (suc zero) g = along-edge uncut (edges-complete Set.full C S y g)
      by (suc (suc zero)) g = two-flat f c y g.0
      by (suc (suc (suc zero))) g = two-flat f c y (HasFlat-fewer Set.full y 1 2 g.0)
      by (suc (suc (suc (suc j)))) g = absurd g.0

  pub half-listed : (ps : List Point) → AreCutCandidates C h ps → IsVertex (Set.half f c) y → IsListed ps y
  half-listed ps A v = ⊎_elim (λ l. l) (λ n. absurd (off n)) (listed-decided ps y)
    where
      off : (IsListed ps y → ⊥) → ⊥
      off n = let d = half-way (λ u. n (A.all y (inl (vertex-of Set.full C y S u)))) (λ u. n (A.all y (inr u))) in never-flat (Set.half f c) y d.0 d.1 d.2 v

-- ---- what the program collects
pub cut-all : (C : Complex) (h : Form) (N : Named → Type 0) (ps qs rs : List Named) → AddsPoints (IsVertexOf C) N [] ps → AddsPoints (IsCutBy C h) N ps qs → IsOnceEach qs rs → AreCutCandidates C h (map named_point rs)
cut-all C h N ps qs rs first second once =
    added-exactly (λ y. IsVertexOf C y ⊎ IsCutBy C h y) N qs rs
    (adds-both (IsVertexOf C) (IsVertexOf C) (IsCutBy C h) (IsCutBy C h) (λ y. IsVertexOf C y ⊎ IsCutBy C h y) (λ y. IsVertexOf C y ⊎ IsCutBy C h y) N [] ps qs first second (λ y x. x) (λ y x. x)) once

-- Finitely many vectors that have all signs that vectors have on finitely many forms.
use Rattle.law_geometry.proofs.near.Prelude.{◌≡◌, zero, suc, ℤ, pos, negsuc, ◌+ℤ◌, ◌*ℤ◌, arith, refl, ap, sym, ◌∙◌, inl, inr, List, ◌∷◌, ◌++◌, subst, [], ints, ring, at, num, ◌⊕◌, ◌⊗◌, entry, sign, Vector, vector, dot, IsDirection, SpacePoint, Form, form_at}
use Rattle.nef_space.specs.Linear.{IsPoint}
use Rattle.nef_space.proofs.Order.{Lies}
use Rattle.nef_space.proofs.Samples.{each, lies-each, lies-left, lies-right, samples, sample_of, vectors, vector_sample}
use Rattle.nef_space.specs.Linear.{dot_list as dot_lists}
use Rattle.law_geometry.proofs.near.Far.{same-nought}

-- ---- directions
abbrev pub numbers : Vector → List ℤ
numbers n = n.x ∷ n.y ∷ n.z ∷ []

abbrev pub to_vector : List ℤ → Vector
to_vector u = vector (entry u 0) (entry u 1) (entry u 2)

pub dot-numbers : (n : Vector) (u : List ℤ) → dot_lists (numbers n) u ≡ dot n (to_vector u)
dot-numbers n [] = ring (n.x ∷ n.y ∷ n.z ∷ []) (num (pos 0)) (at 0 ⊗ num (pos 0) ⊕ at 1 ⊗ num (pos 0) ⊕ at 2 ⊗ num (pos 0)) tt
dot-numbers n (x ∷ []) = ring (n.x ∷ n.y ∷ n.z ∷ x ∷ []) (at 0 ⊗ at 3 ⊕ num (pos 0)) (at 0 ⊗ at 3 ⊕ at 1 ⊗ num (pos 0) ⊕ at 2 ⊗ num (pos 0)) tt
dot-numbers n (x ∷ y ∷ []) = ring (n.x ∷ n.y ∷ n.z ∷ x ∷ y ∷ []) (at 0 ⊗ at 3 ⊕ (at 1 ⊗ at 4 ⊕ num (pos 0))) (at 0 ⊗ at 3 ⊕ at 1 ⊗ at 4 ⊕ at 2 ⊗ num (pos 0)) tt
dot-numbers n (x ∷ y ∷ z ∷ u) = ring (n.x ∷ n.y ∷ n.z ∷ x ∷ y ∷ z ∷ []) (at 0 ⊗ at 3 ⊕ (at 1 ⊗ at 4 ⊕ (at 2 ⊗ at 5 ⊕ num (pos 0)))) (at 0 ⊗ at 3 ⊕ at 1 ⊗ at 4 ⊕ at 2 ⊗ at 5) tt

abbrev pub three_axes : List Vector
three_axes = vector (pos 1) (pos 0) (pos 0) ∷ vector (pos 0) (pos 1) (pos 0) ∷ vector (pos 0) (pos 0) (pos 1) ∷ []

pub representative_directions : List Vector → List Vector
representative_directions ns = each to_vector (vectors 3 (each numbers (ns ++ three_axes)))

pub record Representative (ns : List Vector) (d : Vector) : Type 0 where
  pub direction : Vector
  pub listed : Lies (representative_directions ns) direction
  pub same : (n : Vector) → Lies ns n → sign (dot n d) ≡ sign (dot n direction)
  pub directed : IsDirection d → IsDirection direction

pub representative : (ns : List Vector) (d : Vector) → Representative ns d
unfolding representative_directions
representative ns d =
    let s = vector_sample 3 (each numbers (ns ++ three_axes)) (numbers d) refl in
    let same : (n : Vector) → Lies (ns ++ three_axes) n → sign (dot n d) ≡ sign (dot n (to_vector s.vector)) = λ n l.
    ap sign (sym (dot-numbers n (numbers d))) ∙ s.same (numbers n) (lies-each numbers (ns ++ three_axes) n l) ∙ ap sign (dot-numbers n s.vector) in
    let r = to_vector s.vector in
    let along : (n : Vector) (x y : ℤ) → Lies three_axes n → dot n d ≡ x → dot n r ≡ y → y ≡ pos 0 → x ≡ pos 0 = λ n x y l e f z.
    sym e ∙ same-nought (dot n r) (dot n d) (same n (lies-right ns three_axes n l)) (f ∙ z) in
    record {
      direction = r;
      listed = lies-each to_vector (vectors 3 (each numbers (ns ++ three_axes))) s.vector s.listed;
      same = λ n l. same n (lies-left ns three_axes n l);
      directed = λ f z. f (
        along (vector (pos 1) (pos 0) (pos 0)) d.x r.x (inl refl) (first d) (first r) z.0,
        along (vector (pos 0) (pos 1) (pos 0)) d.y r.y (inr (inl refl)) (second d) (second r) z.1,
        along (vector (pos 0) (pos 0) (pos 1)) d.z r.z (inr (inr (inl refl))) (third d) (third r) z.2,
      );
    }
  where
    first : (e : Vector) → pos 1 *ℤ e.x +ℤ pos 0 *ℤ e.y +ℤ pos 0 *ℤ e.z ≡ e.x
    first e = ring (e.x ∷ e.y ∷ e.z ∷ []) (num (pos 1) ⊗ at 0 ⊕ num (pos 0) ⊗ at 1 ⊕ num (pos 0) ⊗ at 2) (at 0) tt

    second : (e : Vector) → pos 0 *ℤ e.x +ℤ pos 1 *ℤ e.y +ℤ pos 0 *ℤ e.z ≡ e.y
    second e = ring (e.x ∷ e.y ∷ e.z ∷ []) (num (pos 0) ⊗ at 0 ⊕ num (pos 1) ⊗ at 1 ⊕ num (pos 0) ⊗ at 2) (at 1) tt

    third : (e : Vector) → pos 0 *ℤ e.x +ℤ pos 0 *ℤ e.y +ℤ pos 1 *ℤ e.z ≡ e.z
    third e = ring (e.x ∷ e.y ∷ e.z ∷ []) (num (pos 0) ⊗ at 0 ⊕ num (pos 0) ⊗ at 1 ⊕ num (pos 1) ⊗ at 2) (at 2) tt

-- ---- points
abbrev pub coefficients : Form → List ℤ
coefficients h = h.a ∷ h.b ∷ h.c ∷ h.d ∷ []

-- the point of a list of four numbers with a positive last
pub to_place : List ℤ → List SpacePoint
to_place (x ∷ y ∷ z ∷ pos (suc w) ∷ []) = record { x = x; y = y; z = z; w = suc w; proper = omega arith } ∷ []
to_place _ = []

pub gathered : {A B : Type 0} → (A → List B) → List A → List B
gathered f [] = []
gathered f (x ∷ xs) = f x ++ gathered f xs

lies-gathered : {A B : Type 0} (f : A → List B) (xs : List A) (x : A) (y : B) → Lies xs x → Lies (f x) y → Lies (gathered f xs) y
unfolding gathered
lies-gathered f [] x y l m = absurd l
lies-gathered {A} {B} f (z ∷ zs) x y (inl e) m = lies-left (f z) (gathered f zs) y (subst (λ (a : A). Lies (f a) y) (sym e) m)
lies-gathered f (z ∷ zs) x y (inr l) m = lies-right (f z) (gathered f zs) y (lies-gathered f zs x y l m)

pub representative_points : List Form → List SpacePoint
representative_points hs = gathered to_place (samples 3 (each coefficients hs))

pub record RepresentativePoint (hs : List Form) (p : SpacePoint) : Type 0 where
  pub place : SpacePoint
  pub listed : Lies (representative_points hs) place
  pub same : (h : Form) → Lies hs h → sign (form_at h p) ≡ sign (form_at h place)

pub form-coefficients : (h : Form) (x y z w : ℤ) → dot_lists (coefficients h) (x ∷ y ∷ z ∷ w ∷ []) ≡ h.a *ℤ x +ℤ h.b *ℤ y +ℤ h.c *ℤ z +ℤ h.d *ℤ w
form-coefficients h x y z w = ring (h.a ∷ h.b ∷ h.c ∷ h.d ∷ x ∷ y ∷ z ∷ w ∷ []) (at 0 ⊗ at 4 ⊕ (at 1 ⊗ at 5 ⊕ (at 2 ⊗ at 6 ⊕ (at 3 ⊗ at 7 ⊕ num (pos 0))))) (at 0 ⊗ at 4 ⊕ at 1 ⊗ at 5 ⊕ at 2 ⊗ at 6 ⊕ at 3 ⊗ at 7) tt

record Found (u : List ℤ) : Type 0 where
  place : SpacePoint
  listed : Lies (to_place u) place
  is : (h : Form) → dot_lists (coefficients h) u ≡ form_at h place

found : (u : List ℤ) → IsPoint 3 u → Found u
unfolding to_place
found [] s = absurd s
found (x ∷ []) s = absurd s
found (x ∷ y ∷ []) s = absurd s
found (x ∷ y ∷ z ∷ []) s = absurd s
found (x ∷ y ∷ z ∷ pos zero ∷ []) s = absurd (omega (arith, ints))
found (x ∷ y ∷ z ∷ pos (suc w) ∷ []) s = record { place = record { x = x; y = y; z = z; w = suc w; proper = _ }; listed = inl refl; is = λ h. form-coefficients h x y z (pos (suc w)) }
found (x ∷ y ∷ z ∷ negsuc w ∷ []) s = absurd (omega (arith, ints))
found (x ∷ y ∷ z ∷ w ∷ v ∷ u) s = absurd s

pub representative_point : (hs : List Form) (p : SpacePoint) → RepresentativePoint hs p
unfolding representative_points
representative_point hs p =
    let s = sample_of 3 (each coefficients hs) (p.x ∷ p.y ∷ p.z ∷ pos p.w ∷ []) (let w = p.proper in omega (arith, ints)) in
    let f = found s.vector s.point in
    record {
      place = f.place;
      listed = lies-gathered to_place (samples 3 (each coefficients hs)) s.vector f.place s.listed f.listed;
      same = λ h l. ap sign (sym (form-coefficients h p.x p.y p.z (pos p.w))) ∙ s.same (coefficients h) (lies-each coefficients hs h l) ∙ ap sign (f.is h);
    }

-- The stated directions.
use Rattle.nef_geo.proofs.Prelude.{◌≡◌, ◌≢◌, ℕ, zero, suc, ◌+◌, ◌*◌, ◌^◌, ◌≤◌, ℤ, pos, negsuc, neg_ℤ, ◌+ℤ◌, ◌*ℤ◌, ◌<ℤ◌, ◌≤ℤ◌, nat_abs, true, false, List, [], ◌∷◌, inl, inr, ◌⊎◌, arith, refl, ap, sym, ◌∙◌, subst, of_z, signed_Decides, int_eq, ints, normal_limit, axis_factor, IsLowest, Form, form, normal_of, slope, Vector, vector, dot, IsAtMost, IsZero, IsDirection, IsParallel, IsNormal, beside_x, beside_y, beside_z, plane_axis, plane_dir, up, none, given, follows, abs_plus, abs_times, at, num, neg, ◌⊕◌, ◌⊖◌, ◌⊗◌, ring, IsPlaneDirSized, IsStretched, form_of, second_beside, Plane}
use native.Mathlib.Nat.{dvd-one}
use Rattle.nef_geo.proofs.Cramer.{cancel}
use Rattle.nef_geo.proofs.Divisors.{part_small}
use Rattle.nef_geo.proofs.Products.{normal_within, dot_size}
use Rattle.nef_space.proofs.Vectors.{level-beside_x, level-beside_y, level-beside_z}
use Rattle.nef_space.proofs.Elementary.{size-opposite_within}

-- ---- upward
pub up-positive : (h : Plane) → pos 0 <ℤ slope (form_of h) up
up-positive h = leads h.a h.b h.c h.normal h.b_small h.c_small
  where
    leads : (a b c : ℤ) → IsNormal (vector a b c) → nat_abs b ≤ normal_limit → nat_abs c ≤ normal_limit → pos 0 <ℤ slope (form a b c (pos 0)) up
    leads (negsuc n) b c h sb sc = absurd (let f : pos 0 ≤ℤ negsuc n = h.first in omega (arith, ints))
    leads (pos (suc n)) b c h sb sc = omega (arith, ints)
    leads (pos zero) (negsuc n) c h sb sc = absurd (let f : pos 0 ≤ℤ negsuc n = h.second refl in omega (arith, ints))
    leads (pos zero) (pos (suc n)) c h sb sc = omega (arith, ints)
    leads (pos zero) (pos zero) c h sb sc = let f : pos 0 <ℤ c = h.third refl refl in omega (arith, ints)

pub up-lowest : IsLowest (up.x ∷ up.y ∷ up.z ∷ [])
up-lowest = λ k d. (dvd-one).0 d.1.1.0

pub up-direction : IsDirection up
up-direction z = let e : pos 1 ≡ pos 0 = z.2 in cc

-- ---- the three kinds of normals
int_eq-zero : (z : ℤ) → z ≡ pos 0 → int_eq z (pos 0) ≡ true
int_eq-zero z e = (signed_Decides z (pos 0)).1 e

int_eq-other : (z : ℤ) → z ≢ pos 0 → int_eq z (pos 0) ≡ false
int_eq-other z n = elim (int_eq z (pos 0)) as (λ t. (t ≡ true → z ≡ pos 0) → t ≡ false) [ true ↦ λ f. absurd (n (f refl)) | false ↦ λ f. refl ] (signed_Decides z (pos 0)).0

-- the axis and what is beside it, by the kind of the normal
pub record IsPair (n e f : Vector) : Type 0 where
  pub axis : plane_axis n ≡ e
  pub beside : second_beside n ≡ f

pub data IsNormalKind (n : Vector) : Type 0 where
  by_z : n.z ≢ pos 0 → IsPair n (beside_x n) (beside_y n) → IsNormalKind n
  by_y : n.z ≡ pos 0 → n.y ≢ pos 0 → IsPair n (beside_x n) (beside_z n) → IsNormalKind n
  by_x : n.z ≡ pos 0 → n.y ≡ pos 0 → n.x ≢ pos 0 → IsPair n (beside_y n) (beside_z n) → IsNormalKind n

zero_or : (z : ℤ) → (z ≡ pos 0) ⊎ (z ≢ pos 0)
zero_or (pos zero) = inl refl
zero_or (pos (suc n)) = inr (λ e. omega (arith, ints))
zero_or (negsuc n) = inr (λ e. omega (arith, ints))

pub kind_of : (n : Vector) → IsNormal n → IsNormalKind n
kind_of n h =
    elim (zero_or n.z) [
      | inr some ↦ IsNormalKind.by_z some (record { axis = rw (int_eq-other n.z some) refl; beside = rw (int_eq-other n.z some) refl })
      | inl z ↦ elim (zero_or n.y) [
        | inr some ↦ IsNormalKind.by_y z some (record { axis = rw (int_eq-zero n.z z, int_eq-other n.y some) refl; beside = rw (int_eq-zero n.z z) refl })
        | inl y ↦ IsNormalKind.by_x z y
            (λ x. let f : pos 0 <ℤ n.z = h.third x y in omega (arith, ints))
            (record { axis = rw (int_eq-zero n.z z, int_eq-zero n.y y) refl; beside = rw (int_eq-zero n.z z) refl })
      ]
    ]

-- ---- both lie in the plane
abbrev six : Vector → Vector → List ℤ
six g n = g.x ∷ g.y ∷ g.z ∷ n.x ∷ n.y ∷ n.z ∷ []

record IsFlat (n e f : Vector) : Type 0 where
  axis : dot n e ≡ pos 0
  beside : dot n f ≡ pos 0

flat_pair : (n a b : Vector) → IsPair n a b → dot n a ≡ pos 0 → dot n b ≡ pos 0 → IsFlat n (plane_axis n) (second_beside n)
flat_pair n a b p i j = record { axis = ap (dot n) p.axis ∙ i; beside = ap (dot n) p.beside ∙ j }

flat_of : (n : Vector) → IsNormalKind n → IsFlat n (plane_axis n) (second_beside n)
flat_of n (IsNormalKind.by_z some p) = flat_pair n _ _ p (level-beside_x n) (level-beside_y n)
flat_of n (IsNormalKind.by_y z some p) = flat_pair n _ _ p (level-beside_x n) (level-beside_z n)
flat_of n (IsNormalKind.by_x z y some p) = flat_pair n _ _ p (level-beside_y n) (level-beside_z n)

-- the second direction is k times the axis and once what is beside it
abbrev factor : ℤ
factor = pos axis_factor

dot-plane_dir : (g n : Vector) → dot g (plane_dir n) ≡ factor *ℤ dot g (plane_axis n) +ℤ dot g (second_beside n)
dot-plane_dir g n =
    let e = plane_axis n in let f = second_beside n in
    ring (g.x ∷ g.y ∷ g.z ∷ e.x ∷ e.y ∷ e.z ∷ f.x ∷ f.y ∷ f.z ∷ factor ∷ [])
    (at 0 ⊗ (at 9 ⊗ at 3 ⊕ num (pos 1) ⊗ at 6) ⊕ at 1 ⊗ (at 9 ⊗ at 4 ⊕ num (pos 1) ⊗ at 7) ⊕ at 2 ⊗ (at 9 ⊗ at 5 ⊕ num (pos 1) ⊗ at 8))
    (at 9 ⊗ (at 0 ⊗ at 3 ⊕ at 1 ⊗ at 4 ⊕ at 2 ⊗ at 5) ⊕ (at 0 ⊗ at 6 ⊕ at 1 ⊗ at 7 ⊕ at 2 ⊗ at 8)) tt

pub axis-in_plane : (h : Plane) → slope (form_of h) (plane_axis (normal_of (form_of h))) ≡ pos 0
axis-in_plane h = (flat_of (normal_of (form_of h)) (kind_of (normal_of (form_of h)) h.normal)).axis

pub dir-in_plane : (h : Plane) → slope (form_of h) (plane_dir (normal_of (form_of h))) ≡ pos 0
dir-in_plane h =
    let n = normal_of (form_of h) in
    let f = flat_of n (kind_of n h.normal) in
    dot-plane_dir n n ∙ both_zero (dot n (plane_axis n)) (dot n (second_beside n)) f.axis f.beside
  where
    both_zero : (p q : ℤ) → p ≡ pos 0 → q ≡ pos 0 → factor *ℤ p +ℤ q ≡ pos 0
    both_zero p q e f = omega (arith, ints)

-- ---- the second direction lies in no other plane
parallel_by_z : (g n : Vector) → n.z ≢ pos 0 → dot g (beside_x n) ≡ pos 0 → dot g (beside_y n) ≡ pos 0 → IsParallel g n
parallel_by_z g n some e f =
    let o = num (pos 0) in
    let be = at 0 ⊗ o ⊕ at 1 ⊗ at 5 ⊕ at 2 ⊗ neg (at 4) in
    let bf = at 0 ⊗ neg (at 5) ⊕ at 1 ⊗ o ⊕ at 2 ⊗ at 3 in (
      follows (six g n) (at 1 ⊗ at 5 ⊖ at 2 ⊗ at 4) o (given (num (pos 1)) be o e none) tt,
      follows (six g n) (at 2 ⊗ at 3 ⊖ at 0 ⊗ at 5) o (given (num (pos 1)) bf o f none) tt,
      cancel n.z _ some (follows (six g n) (at 5 ⊗ (at 0 ⊗ at 4 ⊖ at 1 ⊗ at 3)) o (given (neg (at 4)) bf o f (given (neg (at 3)) be o e none)) tt),
    )

parallel_by_y : (g n : Vector) → n.y ≢ pos 0 → dot g (beside_x n) ≡ pos 0 → dot g (beside_z n) ≡ pos 0 → IsParallel g n
parallel_by_y g n some e f =
    let o = num (pos 0) in
    let be = at 0 ⊗ o ⊕ at 1 ⊗ at 5 ⊕ at 2 ⊗ neg (at 4) in
    let bf = at 0 ⊗ at 4 ⊕ at 1 ⊗ neg (at 3) ⊕ at 2 ⊗ o in (
      follows (six g n) (at 1 ⊗ at 5 ⊖ at 2 ⊗ at 4) o (given (num (pos 1)) be o e none) tt,
      cancel n.y _ some (follows (six g n) (at 4 ⊗ (at 2 ⊗ at 3 ⊖ at 0 ⊗ at 5)) o (given (neg (at 5)) bf o f (given (neg (at 3)) be o e none)) tt),
      follows (six g n) (at 0 ⊗ at 4 ⊖ at 1 ⊗ at 3) o (given (num (pos 1)) bf o f none) tt,
    )

parallel_by_x : (g n : Vector) → n.x ≢ pos 0 → dot g (beside_y n) ≡ pos 0 → dot g (beside_z n) ≡ pos 0 → IsParallel g n
parallel_by_x g n some e f =
    let o = num (pos 0) in
    let be = at 0 ⊗ neg (at 5) ⊕ at 1 ⊗ o ⊕ at 2 ⊗ at 3 in
    let bf = at 0 ⊗ at 4 ⊕ at 1 ⊗ neg (at 3) ⊕ at 2 ⊗ o in (
      cancel n.x _ some (follows (six g n) (at 3 ⊗ (at 1 ⊗ at 5 ⊖ at 2 ⊗ at 4)) o (given (neg (at 5)) bf o f (given (neg (at 4)) be o e none)) tt),
      follows (six g n) (at 2 ⊗ at 3 ⊖ at 0 ⊗ at 5) o (given (num (pos 1)) be o e none) tt,
      follows (six g n) (at 0 ⊗ at 4 ⊖ at 1 ⊗ at 3) o (given (num (pos 1)) bf o f none) tt,
    )

on_pair : (g n a b : Vector) → IsPair n a b → dot g (plane_axis n) ≡ pos 0 → dot g (second_beside n) ≡ pos 0 → IsFlat g a b
on_pair g n a b p i j = record { axis = sym (ap (dot g) p.axis) ∙ i; beside = sym (ap (dot g) p.beside) ∙ j }

parallel_of : (g n : Vector) → IsNormalKind n → dot g (plane_axis n) ≡ pos 0 → dot g (second_beside n) ≡ pos 0 → IsParallel g n
parallel_of g n (IsNormalKind.by_z some p) i j = let f = on_pair g n _ _ p i j in parallel_by_z g n some f.axis f.beside
parallel_of g n (IsNormalKind.by_y z some p) i j = let f = on_pair g n _ _ p i j in parallel_by_y g n some f.axis f.beside
parallel_of g n (IsNormalKind.by_x z y some p) i j = let f = on_pair g n _ _ p i j in parallel_by_x g n some f.axis f.beside

-- ---- sizes

beside_x_small : (k : ℕ) (n : Vector) → IsAtMost k n → IsAtMost k (beside_x n)
beside_x_small k n h = record { of_x = omega arith; of_y = h.of_z; of_z = size-opposite_within k n.y h.of_y }

beside_y_small : (k : ℕ) (n : Vector) → IsAtMost k n → IsAtMost k (beside_y n)
beside_y_small k n h = record { of_x = size-opposite_within k n.z h.of_z; of_y = omega arith; of_z = h.of_x }

beside_z_small : (k : ℕ) (n : Vector) → IsAtMost k n → IsAtMost k (beside_z n)
beside_z_small k n h = record { of_x = h.of_y; of_y = size-opposite_within k n.x h.of_x; of_z = omega arith }

pub record IsSmallPair (n : Vector) : Type 0 where
  pub axis : IsAtMost normal_limit (plane_axis n)
  pub beside : IsAtMost normal_limit (second_beside n)

small_pair : (n a b : Vector) → IsPair n a b → IsAtMost normal_limit a → IsAtMost normal_limit b → IsSmallPair n
small_pair n a b p i j = record { axis = subst (IsAtMost normal_limit) (sym p.axis) i; beside = subst (IsAtMost normal_limit) (sym p.beside) j }

small_of : (n : Vector) → IsAtMost normal_limit n → IsNormalKind n → IsSmallPair n
small_of n h (IsNormalKind.by_z some p) = small_pair n _ _ p (beside_x_small normal_limit n h) (beside_y_small normal_limit n h)
small_of n h (IsNormalKind.by_y z some p) = small_pair n _ _ p (beside_x_small normal_limit n h) (beside_z_small normal_limit n h)
small_of n h (IsNormalKind.by_x z y some p) = small_pair n _ _ p (beside_y_small normal_limit n h) (beside_z_small normal_limit n h)

pub pair_small : (h : Plane) → IsSmallPair (normal_of (form_of h))
pair_small h = small_of (normal_of (form_of h)) (normal_within h) (kind_of (normal_of (form_of h)) h.normal)

-- a small number beside a multiple of the factor
apart : (p q : ℤ) → factor *ℤ p +ℤ q ≡ pos 0 → nat_abs q ≤ 3 * 2 ^ 22 → p ≡ pos 0
apart p q e s = omega (arith, ints)

rest_zero : (p q : ℤ) → factor *ℤ p +ℤ q ≡ pos 0 → p ≡ pos 0 → q ≡ pos 0
rest_zero p q e z = omega (arith, ints)

pub dir-alone : (g h : Plane) → slope (form_of g) (plane_dir (normal_of (form_of h))) ≡ pos 0 → IsParallel (normal_of (form_of g)) (normal_of (form_of h))
dir-alone g h e =
    let m = normal_of (form_of g) in let n = normal_of (form_of h) in
    let p = dot m (plane_axis n) in let q = dot m (second_beside n) in
    let both : factor *ℤ p +ℤ q ≡ pos 0 = sym (dot-plane_dir m n) ∙ e in
    let s = dot_size normal_limit normal_limit m (second_beside n) (normal_within g) (pair_small h).beside in
    let z = apart p q both (omega (arith, s)) in
    parallel_of m n (kind_of n h.normal) z (rest_zero p q both z)

-- ---- neither is zero
axis_some : (n : Vector) → IsNormalKind n → IsDirection (plane_axis n)
axis_some n (IsNormalKind.by_z some p) z = some (let e = subst IsZero p.axis z in e.1)
axis_some n (IsNormalKind.by_y y some p) z = some (let e = subst IsZero p.axis z in let f : neg_ℤ n.y ≡ pos 0 = e.2 in omega (arith, ints))
axis_some n (IsNormalKind.by_x z' y some p) z = some (let e = subst IsZero p.axis z in e.2)

pub axis-direction : (h : Plane) → IsDirection (plane_axis (normal_of (form_of h)))
axis-direction h = axis_some (normal_of (form_of h)) (kind_of (normal_of (form_of h)) h.normal)

abbrev made : Vector → Vector → Vector
made e f = vector (factor *ℤ e.x +ℤ pos 1 *ℤ f.x) (factor *ℤ e.y +ℤ pos 1 *ℤ f.y) (factor *ℤ e.z +ℤ pos 1 *ℤ f.z)

made_of : (n a b : Vector) → IsPair n a b → plane_dir n ≡ made a b
made_of n a b p = ap (λ (v : Vector). made v (second_beside n)) p.axis ∙ ap (made a) p.beside

no_multiple : (n : ℤ) → factor *ℤ n +ℤ pos 1 *ℤ pos 0 ≡ pos 0 → n ≡ pos 0
no_multiple n e = omega (arith, ints)

no_opposite : (n : ℤ) → factor *ℤ neg_ℤ n +ℤ pos 1 *ℤ pos 0 ≡ pos 0 → n ≡ pos 0
no_opposite n e = omega (arith, ints)

dir_some : (n : Vector) → IsNormalKind n → IsDirection (plane_dir n)
dir_some n (IsNormalKind.by_z some p) z = some (no_multiple n.z (subst IsZero (made_of n _ _ p) z).1)
dir_some n (IsNormalKind.by_y y some p) z = some (no_opposite n.y (subst IsZero (made_of n _ _ p) z).2)
dir_some n (IsNormalKind.by_x z' y some p) z = some (no_multiple n.x (subst IsZero (made_of n _ _ p) z).2)

pub dir-direction : (h : Plane) → IsDirection (plane_dir (normal_of (form_of h)))
dir-direction h = dir_some (normal_of (form_of h)) (kind_of (normal_of (form_of h)) h.normal)

-- ---- the size of the second direction
entry_size : (e f : ℤ) → nat_abs (factor *ℤ e +ℤ pos 1 *ℤ f) ≤ axis_factor * nat_abs e + 1 * nat_abs f
entry_size e f = abs_plus (factor *ℤ e) (pos 1 *ℤ f) (axis_factor * nat_abs e) (1 * nat_abs f) (abs_times factor e axis_factor (nat_abs e) (omega arith) (omega arith)) (abs_times (pos 1) f 1 (nat_abs f) (omega arith) (omega arith))

record IsLean (k : ℕ) (v : Vector) : Type 0 where
  each : IsAtMost k v
  sum : nat_abs v.x + nat_abs v.y + nat_abs v.z ≤ k + k

lean_x : (k : ℕ) (n : Vector) → IsAtMost k n → IsLean k (beside_x n)
lean_x k n h = let s = beside_x_small k n h in record { each = s; sum = omega (arith, s.of_y, s.of_z) }

lean_y : (k : ℕ) (n : Vector) → IsAtMost k n → IsLean k (beside_y n)
lean_y k n h = let s = beside_y_small k n h in record { each = s; sum = omega (arith, s.of_x, s.of_z) }

lean_z : (k : ℕ) (n : Vector) → IsAtMost k n → IsLean k (beside_z n)
lean_z k n h = let s = beside_z_small k n h in record { each = s; sum = omega (arith, s.of_x, s.of_y) }

made_size : (a b : Vector) → IsLean normal_limit a → IsLean normal_limit b → IsPlaneDirSized (made a b)
made_size a b i j =
    let x = entry_size a.x b.x in let y = entry_size a.y b.y in let z = entry_size a.z b.z in
    record {
      each = record { of_x = omega (arith, x, i.each.of_x, j.each.of_x); of_y = omega (arith, y, i.each.of_y, j.each.of_y); of_z = omega (arith, z, i.each.of_z, j.each.of_z) };
      sum = omega (arith, x, y, z, i.sum, j.sum);
    }

dir_sized : (n : Vector) → IsAtMost normal_limit n → IsNormalKind n → IsPlaneDirSized (plane_dir n)
dir_sized n h (IsNormalKind.by_z some p) = subst IsPlaneDirSized (sym (made_of n _ _ p)) (made_size _ _ (lean_x normal_limit n h) (lean_y normal_limit n h))
dir_sized n h (IsNormalKind.by_y y some p) = subst IsPlaneDirSized (sym (made_of n _ _ p)) (made_size _ _ (lean_x normal_limit n h) (lean_z normal_limit n h))
dir_sized n h (IsNormalKind.by_x z y some p) = subst IsPlaneDirSized (sym (made_of n _ _ p)) (made_size _ _ (lean_y normal_limit n h) (lean_z normal_limit n h))

pub dir-size : (h : Plane) → IsPlaneDirSized (plane_dir (normal_of (form_of h)))
dir-size h = dir_sized (normal_of (form_of h)) (normal_within h) (kind_of (normal_of (form_of h)) h.normal)

-- ---- what holds of a vector holds of the direction that it is a positive multiple of
pub slope-part : (g : Form) (a b : Vector) → IsStretched a b → slope g b ≡ pos 0 → slope g a ≡ pos 0
slope-part g a b s e =
    follows (g.a ∷ g.b ∷ g.c ∷ a.x ∷ a.y ∷ a.z ∷ b.x ∷ b.y ∷ b.z ∷ s.factor ∷ [])
    (at 0 ⊗ at 3 ⊕ at 1 ⊗ at 4 ⊕ at 2 ⊗ at 5) (num (pos 0))
    (given (at 9) (at 0 ⊗ at 6 ⊕ at 1 ⊗ at 7 ⊕ at 2 ⊗ at 8) (num (pos 0)) e
    (given (at 0) (at 3) (at 9 ⊗ at 6) s.x_is
    (given (at 1) (at 4) (at 9 ⊗ at 7) s.y_is
    (given (at 2) (at 5) (at 9 ⊗ at 8) s.z_is none)))) tt

pub slope-whole : (g : Form) (a b : Vector) → IsStretched a b → slope g a ≡ pos 0 → slope g b ≡ pos 0
slope-whole g a b s e =
    cancel s.factor _ (λ z. let p = s.positive in omega (arith, ints))
    (follows (g.a ∷ g.b ∷ g.c ∷ a.x ∷ a.y ∷ a.z ∷ b.x ∷ b.y ∷ b.z ∷ s.factor ∷ [])
    (at 9 ⊗ (at 0 ⊗ at 6 ⊕ at 1 ⊗ at 7 ⊕ at 2 ⊗ at 8)) (num (pos 0))
    (given (num (pos 1)) (at 0 ⊗ at 3 ⊕ at 1 ⊗ at 4 ⊕ at 2 ⊗ at 5) (num (pos 0)) e
    (given (neg (at 0)) (at 3) (at 9 ⊗ at 6) s.x_is
    (given (neg (at 1)) (at 4) (at 9 ⊗ at 7) s.y_is
    (given (neg (at 2)) (at 5) (at 9 ⊗ at 8) s.z_is none)))) tt)

pub size-part : (a b : Vector) → IsStretched a b → IsPlaneDirSized a → IsPlaneDirSized b
size-part a b s h =
    let x = part_small (nat_abs a.x) s.factor a.x b.x s.positive s.x_is (omega arith) in
    let y = part_small (nat_abs a.y) s.factor a.y b.y s.positive s.y_is (omega arith) in
    let z = part_small (nat_abs a.z) s.factor a.z b.z s.positive s.z_is (omega arith) in
    record {
      each = record { of_x = omega (arith, x, h.each.of_x); of_y = omega (arith, y, h.each.of_y); of_z = omega (arith, z, h.each.of_z) };
      sum = omega (arith, x, y, z, h.sum);
    }

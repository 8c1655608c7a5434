-- Products of vectors, their sizes, and how the machine computes them.
use Rattle.nef_geo.proofs.Prelude.{◌≡◌, ℕ, ◌+◌, ◌*◌, ◌^◌, ◌≤◌, ℤ, ◌+ℤ◌, ◌*ℤ◌, nat_abs, List, [], ◌∷◌, w64, to_z, of_z, arith, refl, sym, ap, subst, ◌∙◌, point_limit, normal_limit, svertex_limit, direction_limit, Vector, vector, dot, cross, IsAtMost, normal_of, Dir, Plane, form_of, vector_of, Code, load, wrap, ◌⊞◌, ◌⊟◌, ◌⊠◌, Limited, exact_of, abs_plus, abs_times, abs_minors}
use mir.Syntax.{Width, w128}
use Rattle.nef_space.proofs.Vectors.{same-vector}

-- ---- two vectors as six variables
abbrev pub bounds : ℕ → ℕ → List ℕ
bounds m n = m ∷ m ∷ m ∷ n ∷ n ∷ n ∷ []

abbrev pub numbers : Vector → Vector → List ℤ
numbers a b = a.x ∷ a.y ∷ a.z ∷ b.x ∷ b.y ∷ b.z ∷ []

pub limited : (m n : ℕ) (a b : Vector) → IsAtMost m a → IsAtMost n b → Limited (bounds m n) (numbers a b)
limited m n a b h k = (h.of_x, (h.of_y, (h.of_z, (k.of_x, (k.of_y, (k.of_z, tt))))))

-- the product of two variables, as the code has it
abbrev pub factor : Width → ℕ → ℕ → Code
factor w i j = wrap w (load i) ⊠ wrap w (load j)

abbrev pub product : Width → ℕ → ℕ → Code
product w i j = wrap w (factor w i j)

-- `a[i] b[j] - a[k] b[l]`
abbrev pub minor : Width → ℕ → ℕ → ℕ → ℕ → Code
minor w i j k l = product w i j ⊟ product w k l

-- the first two products of a dot product, and all three
abbrev pub two : Width → Code
two w = product w 0 3 ⊞ product w 1 4

abbrev pub three : Width → Code
three w = wrap w (two w) ⊞ product w 2 5

-- numbers that fit pass through the machine's type unchanged
pub kept : (n : ℤ) → nat_abs n ≤ point_limit → to_z w64 (of_z w64 n) ≡ n
kept n h = exact_of (point_limit ∷ []) (n ∷ []) (wrap w64 (load 0)) (h, tt) tt

pub kept_wide : (n : ℤ) → nat_abs n ≤ 2 ^ 126 → to_z w128 (of_z w128 n) ≡ n
kept_wide n h = exact_of (2 ^ 126 ∷ []) (n ∷ []) (wrap w128 (load 0)) (h, tt) tt

pub wide_enough : (v : ℤ) (k : ℕ) → nat_abs v ≤ k → k ≤ 2 ^ 126 → nat_abs v ≤ 2 ^ 126
wide_enough v k s l = omega (arith, s)

pub kept_small : (v : ℤ) (k : ℕ) → nat_abs v ≤ k → k ≤ 2 ^ 126 → nat_abs (to_z w128 (of_z w128 v)) ≤ k
kept_small v k s l = rw (kept_wide v (wide_enough v k s l)) s

-- ---- sizes
pub IsAtMost-weaken : (k l : ℕ) (v : Vector) → k ≤ l → IsAtMost k v → IsAtMost l v
IsAtMost-weaken k l v h s = record { of_x = omega (arith, s.of_x); of_y = omega (arith, s.of_y); of_z = omega (arith, s.of_z) }

pub kept_vector : (k : ℕ) (v : Vector) → k ≤ point_limit → IsAtMost k v → vector (to_z w64 (of_z w64 v.x)) (to_z w64 (of_z w64 v.y)) (to_z w64 (of_z w64 v.z)) ≡ v
kept_vector k v l s = same-vector _ _ _ _ _ _ (kept v.x (omega (arith, s.of_x, l))) (kept v.y (omega (arith, s.of_y, l))) (kept v.z (omega (arith, s.of_z, l)))

-- numbers of a vector that passed through the machine's type
pub passed_within : (k : ℕ) (v : Vector) → k ≤ point_limit → IsAtMost k v → IsAtMost k (vector (to_z w64 (of_z w64 v.x)) (to_z w64 (of_z w64 v.y)) (to_z w64 (of_z w64 v.z)))
passed_within k v l s = subst (IsAtMost k) (sym (kept_vector k v l s)) s

pub dot_size : (m n : ℕ) (a b : Vector) → IsAtMost m a → IsAtMost n b → nat_abs (dot a b) ≤ m * n + m * n + m * n
dot_size m n a b h k =
    abs_plus (a.x *ℤ b.x +ℤ a.y *ℤ b.y) (a.z *ℤ b.z) (m * n + m * n) (m * n)
    (abs_plus (a.x *ℤ b.x) (a.y *ℤ b.y) (m * n) (m * n) (abs_times a.x b.x m n h.of_x k.of_x) (abs_times a.y b.y m n h.of_y k.of_y))
    (abs_times a.z b.z m n h.of_z k.of_z)

pub cross_size : (m n : ℕ) (a b : Vector) → IsAtMost m a → IsAtMost n b → IsAtMost (2 * (m * n)) (cross a b)
cross_size m n a b h k = record {
  of_x = abs_minors a.y a.z b.y b.z m n h.of_y h.of_z k.of_y k.of_z;
  of_y = abs_minors a.z a.x b.z b.x m n h.of_z h.of_x k.of_z k.of_x;
  of_z = abs_minors a.x a.y b.x b.y m n h.of_x h.of_y k.of_x k.of_y;
}

pub dir_within : (d : Dir) → IsAtMost direction_limit (vector_of d)
dir_within d = record { of_x = d.x_small; of_y = d.y_small; of_z = d.z_small }

pub normal_within : (h : Plane) → IsAtMost normal_limit (normal_of (form_of h))
normal_within h = record { of_x = h.a_small; of_y = h.b_small; of_z = h.c_small }

-- a dot product whose numbers passed through the machine's type
pub dot_kept : (a b : Vector) → IsAtMost point_limit a → IsAtMost point_limit b
    → dot (vector (to_z w64 (of_z w64 a.x)) (to_z w64 (of_z w64 a.y)) (to_z w64 (of_z w64 a.z))) (vector (to_z w64 (of_z w64 b.x)) (to_z w64 (of_z w64 b.y)) (to_z w64 (of_z w64 b.z))) ≡ dot a b
dot_kept a b h k = rw (kept a.x h.of_x, kept a.y h.of_y, kept a.z h.of_z, kept b.x k.of_x, kept b.y k.of_y, kept b.z k.of_z) refl

pub cross_is : (a b v w r : Vector) → v ≡ a → w ≡ b → r ≡ cross v w → r ≡ cross a b
cross_is a b v w r p q e = e ∙ ap (λ (u : Vector). cross u w) p ∙ ap (cross a) q

-- the numbers that are passed on are the cross product's
pub passed : (a b p q : Vector) (x y z : ℤ) → p ≡ a → q ≡ b → vector x y z ≡ cross p q → IsAtMost svertex_limit (vector x y z) → vector (to_z w64 (of_z w64 x)) (to_z w64 (of_z w64 y)) (to_z w64 (of_z w64 z)) ≡ cross a b
passed a b p q x y z ep eq e s =
    same-vector _ _ _ _ _ _ (kept x (omega (arith, s.of_x))) (kept y (omega (arith, s.of_y))) (kept z (omega (arith, s.of_z)))
    ∙ e ∙ ap (λ (v : Vector). cross v q) ep ∙ ap (cross a) eq

pub passed_small : (v : Vector) → IsAtMost svertex_limit v → IsAtMost svertex_limit (vector (to_z w64 (of_z w64 v.x)) (to_z w64 (of_z w64 v.y)) (to_z w64 (of_z w64 v.z)))
passed_small v s = record {
  of_x = rw (kept v.x (omega (arith, s.of_x))) s.of_x;
  of_y = rw (kept v.y (omega (arith, s.of_y))) s.of_y;
  of_z = rw (kept v.z (omega (arith, s.of_z))) s.of_z;
}

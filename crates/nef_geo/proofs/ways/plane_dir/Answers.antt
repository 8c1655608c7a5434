use Rattle.nef_geo.proofs.Prelude.{◌≡◌, ◌≤◌, ℤ, pos, ◌+ℤ◌, ◌*ℤ◌, nat_abs, [], ◌∷◌, arith, subst, sym, ap, ◌∙◌, FitsSigned, to_z, of_z, w64, ints, normal_limit, direction_limit, axis_factor, normal_of, Vector, vector, plane_axis, plane_dir, IsAtMost, IsDirection, load, const, wrap, ◌⊞◌, ◌⊠◌, exact_of, fits_of, IsStretched, form_of, vector_of, triple_vector, second_beside, plane_dir_limit, Plane}
use Rattle.nef_geo.proofs.Directions.{SameDirection-stretched}
use Rattle.nef_geo.proofs.InPlane.{pair_small, dir-direction, dir-in_plane, dir-alone, dir-size, slope-part, slope-whole, size-part}
use Rattle.nef_geo.proofs.Products.{IsAtMost-weaken}
use Rattle.nef_geo.proofs.ways.plane_dir.Goals as goal
use Rattle.nef_space.proofs.Vectors.{same-vector}

-- one number, as the machine computes it
abbrev computed : ℤ → ℤ → ℤ
computed e f = to_z w64 (of_z w64 (to_z w64 (of_z w64 (pos axis_factor *ℤ to_z w64 (of_z w64 e))) +ℤ to_z w64 (of_z w64 f)))

entry : (e f : ℤ) → nat_abs e ≤ normal_limit → nat_abs f ≤ normal_limit → computed e f ≡ pos axis_factor *ℤ e +ℤ pos 1 *ℤ f
entry e f s t =
    exact_of (normal_limit ∷ normal_limit ∷ []) (e ∷ f ∷ []) (wrap w64 (wrap w64 (const (pos axis_factor) ⊠ wrap w64 (load 0)) ⊞ wrap w64 (load 1))) (s, (t, tt)) tt
    ∙ once (pos axis_factor *ℤ e) f
  where
    once : (m n : ℤ) → m +ℤ n ≡ m +ℤ pos 1 *ℤ n
    once m n = omega (arith, ints)

made : (h : Plane) (e f : Vector) → e ≡ plane_axis (normal_of (form_of h)) → f ≡ second_beside (normal_of (form_of h))
    → vector (computed e.x f.x) (computed e.y f.y) (computed e.z f.z) ≡ plane_dir (normal_of (form_of h))
made h e f ee ef =
    let s : IsAtMost normal_limit e = subst (IsAtMost normal_limit) (sym ee) (pair_small h).axis in
    let t : IsAtMost normal_limit f = subst (IsAtMost normal_limit) (sym ef) (pair_small h).beside in
    same-vector _ _ _ _ _ _ (entry e.x f.x s.of_x t.of_x) (entry e.y f.y s.of_y t.of_y) (entry e.z f.z s.of_z t.of_z)
    ∙ ap (λ (v : Vector). vector (pos axis_factor *ℤ v.x +ℤ pos 1 *ℤ f.x) (pos axis_factor *ℤ v.y +ℤ pos 1 *ℤ f.y) (pos axis_factor *ℤ v.z +ℤ pos 1 *ℤ f.z)) ee
    ∙ ap (λ (v : Vector). let a = plane_axis (normal_of (form_of h)) in vector (pos axis_factor *ℤ a.x +ℤ pos 1 *ℤ v.x) (pos axis_factor *ℤ a.y +ℤ pos 1 *ℤ v.y) (pos axis_factor *ℤ a.z +ℤ pos 1 *ℤ v.z)) ef

sum_fits : (e f : ℤ) → nat_abs e ≤ normal_limit → nat_abs f ≤ normal_limit → FitsSigned w64 (to_z w64 (of_z w64 (pos axis_factor *ℤ to_z w64 (of_z w64 e))) +ℤ to_z w64 (of_z w64 f))
sum_fits e f s t = fits_of (normal_limit ∷ normal_limit ∷ []) (e ∷ f ∷ []) w64 (wrap w64 (const (pos axis_factor) ⊠ wrap w64 (load 0)) ⊞ wrap w64 (load 1)) (s, (t, tt)) tt

product_fits : (e : ℤ) → nat_abs e ≤ normal_limit → FitsSigned w64 (pos axis_factor *ℤ to_z w64 (of_z w64 e))
product_fits e s = fits_of (normal_limit ∷ []) (e ∷ []) w64 (const (pos axis_factor) ⊠ wrap w64 (load 0)) (s, tt) tt

-- the numbers of the two directions are small
first_small : (h : Plane) (e : Vector) → e ≡ plane_axis (normal_of (form_of h)) → IsAtMost normal_limit e
first_small h e ee = subst (IsAtMost normal_limit) (sym ee) (pair_small h).axis

second_small : (h : Plane) (f : Vector) → f ≡ second_beside (normal_of (form_of h)) → IsAtMost normal_limit f
second_small h f ef = subst (IsAtMost normal_limit) (sym ef) (pair_small h).beside

pub overflow_mul-first : goal.overflow_mul-first
overflow_mul-first c = let e = triple_vector c.axis-first.result in product_fits e.x (first_small c.args.h.now e c.axis-first.ensures.axis).of_x

pub overflow_mul-first-2 : goal.overflow_mul-first-2
overflow_mul-first-2 c = let e = triple_vector c.axis-first.result in product_fits e.y (first_small c.args.h.now e c.axis-first.ensures.axis).of_y

pub overflow_mul-first-3 : goal.overflow_mul-first-3
overflow_mul-first-3 c = let e = triple_vector c.axis-first.result in product_fits e.z (first_small c.args.h.now e c.axis-first.ensures.axis).of_z

pub overflow_add-first : goal.overflow_add-first
overflow_add-first c =
    let e = triple_vector c.axis-first.result in let f = triple_vector c.beside-second.result in
    sum_fits e.x f.x (first_small c.args.h.now e c.axis-first.ensures.axis).of_x (second_small c.args.h.now f c.beside-second.ensures.beside).of_x

pub overflow_add-first-2 : goal.overflow_add-first-2
overflow_add-first-2 c =
    let e = triple_vector c.axis-first.result in let f = triple_vector c.beside-second.result in
    sum_fits e.y f.y (first_small c.args.h.now e c.axis-first.ensures.axis).of_y (second_small c.args.h.now f c.beside-second.ensures.beside).of_y

pub overflow_add-first-3 : goal.overflow_add-first-3
overflow_add-first-3 c =
    let e = triple_vector c.axis-first.result in let f = triple_vector c.beside-second.result in
    sum_fits e.z f.z (first_small c.args.h.now e c.axis-first.ensures.axis).of_z (second_small c.args.h.now f c.beside-second.ensures.beside).of_z

pub reduced-requires-clause-small : goal.reduced-requires-clause-small
reduced-requires-clause-small c =
    let n = normal_of (form_of c.args.h.now) in
    let e = made c.args.h.now (triple_vector c.axis-first.result) (triple_vector c.beside-second.result) c.axis-first.ensures.axis c.beside-second.ensures.beside in
    subst (IsAtMost direction_limit) (sym e) (IsAtMost-weaken plane_dir_limit direction_limit (plane_dir n) (omega arith) (dir-size c.args.h.now).each)

pub reduced-requires-clause-some : goal.reduced-requires-clause-some
reduced-requires-clause-some c =
    let e = made c.args.h.now (triple_vector c.axis-first.result) (triple_vector c.beside-second.result) c.axis-first.ensures.axis c.beside-second.ensures.beside in
    subst IsDirection (sym e) (dir-direction c.args.h.now)

pub returns : goal.returns
returns c =
    let n = normal_of (form_of c.args.h.now) in
    let e = made c.args.h.now (triple_vector c.axis-first.result) (triple_vector c.beside-second.result) c.axis-first.ensures.axis c.beside-second.ensures.beside in
    let d = vector_of c.reduced.result in
    let t : IsStretched (plane_dir n) (vector_of c.reduced.result) = subst (λ (v : Vector). IsStretched v (vector_of c.reduced.result)) e c.reduced.ensures.stretched in
    record {
      dir = SameDirection-stretched (plane_dir n) d t c.reduced.result.some;
      in_plane = slope-whole (form_of c.args.h.now) (plane_dir n) d t (dir-in_plane c.args.h.now);
      alone = λ g flat. dir-alone g c.args.h.now (slope-part (form_of g) (plane_dir n) d t flat);
      small = size-part (plane_dir n) d t (dir-size c.args.h.now);
    }

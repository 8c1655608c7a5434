use Rattle.nef_plane.proofs.Prelude.{ℕ, ℤ, ◌≤◌, nat_abs, List, [], ◌∷◌, w64, ap, ◌∙◌, point_limit, weight_limit, Code, load, wrap, ◌⊟◌, ◌⊠◌, Limited, exact_of, fits_of, sign_of}
use mir.Syntax.{w128}
use Rattle.nef_plane.proofs.course.shift_sign.Goals as goal

-- the bounds of n, w, k, v, by
abbrev sizes : List ℕ
sizes = point_limit ∷ weight_limit ∷ point_limit ∷ weight_limit ∷ 1 ∷ []

abbrev widened : ℕ → Code
widened i = wrap w128 (wrap w64 (load i))

abbrev shift : Code
shift = widened 4 ⊠ wrap w128 (widened 3 ⊠ widened 1)

abbrev difference : Code
difference = wrap w128 (widened 0 ⊠ widened 3) ⊟ wrap w128 (widened 2 ⊠ widened 1)

limits : (n w k v b : ℤ) → nat_abs n ≤ point_limit → nat_abs w ≤ weight_limit → nat_abs k ≤ point_limit → nat_abs v ≤ weight_limit → nat_abs b ≤ 1 → Limited sizes (n ∷ w ∷ k ∷ v ∷ b ∷ [])
limits n w k v b e f g h i = (e, (f, (g, (h, (i, tt)))))

pub overflow_mul-shift-2 : goal.overflow_mul-shift-2
overflow_mul-shift-2 c = let r = c.requires in let a = c.args in fits_of sizes (a.n ∷ a.w ∷ a.k ∷ a.v ∷ a.by ∷ []) w128 shift (limits a.n a.w a.k a.v a.by r.n_small r.w_small r.k_small r.v_small r.by_small) tt

pub overflow_sub-n : goal.overflow_sub-n
overflow_sub-n c = let r = c.requires in let a = c.args in fits_of sizes (a.n ∷ a.w ∷ a.k ∷ a.v ∷ a.by ∷ []) w128 difference (limits a.n a.w a.k a.v a.by r.n_small r.w_small r.k_small r.v_small r.by_small) tt

pub overflow_sub-n-2 : goal.overflow_sub-n-2
overflow_sub-n-2 c = let r = c.requires in let a = c.args in fits_of sizes (a.n ∷ a.w ∷ a.k ∷ a.v ∷ a.by ∷ []) w128 (wrap w128 difference ⊟ wrap w128 shift) (limits a.n a.w a.k a.v a.by r.n_small r.w_small r.k_small r.v_small r.by_small) tt

pub returns : goal.returns
returns c =
    let r = c.requires in let a = c.args in
    record {
      sign = c.of.ensures.sign
          ∙ ap sign_of (exact_of sizes (a.n ∷ a.w ∷ a.k ∷ a.v ∷ a.by ∷ []) (wrap w128 (wrap w128 difference ⊟ wrap w128 shift)) (limits a.n a.w a.k a.v a.by r.n_small r.w_small r.k_small r.v_small r.by_small) tt);
    }

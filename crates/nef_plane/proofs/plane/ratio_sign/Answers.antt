use Rattle.nef_plane.proofs.Prelude.{ℤ, ◌≤◌, nat_abs, [], ◌∷◌, ap, ◌∙◌, subst, Code, wrap, ◌⊟◌, exact_of, fits_of, size_of, sign_of, ratio_limit}
use mir.Syntax.{w128}
use Rattle.nef_plane.proofs.Ratios.{sizes, first, second, limits}
use Rattle.nef_plane.proofs.plane.ratio_sign.Goals as goal

abbrev difference : Code
difference = wrap w128 first ⊟ wrap w128 second

pub overflow_mul-x : goal.overflow_mul-x
overflow_mul-x c = let r = c.requires in let a = c.args in fits_of sizes (a.x ∷ a.w ∷ a.y ∷ a.v ∷ []) w128 first (limits a.x a.w a.y a.v r.x_small r.w_small r.y_small r.v_small) tt

pub overflow_mul-y : goal.overflow_mul-y
overflow_mul-y c = let r = c.requires in let a = c.args in fits_of sizes (a.x ∷ a.w ∷ a.y ∷ a.v ∷ []) w128 second (limits a.x a.w a.y a.v r.x_small r.w_small r.y_small r.v_small) tt

pub overflow_sub-x : goal.overflow_sub-x
overflow_sub-x c = let r = c.requires in let a = c.args in fits_of sizes (a.x ∷ a.w ∷ a.y ∷ a.v ∷ []) w128 difference (limits a.x a.w a.y a.v r.x_small r.w_small r.y_small r.v_small) tt

pub returns-clause-sign : goal.returns-clause-sign
returns-clause-sign c =
    let r = c.requires in let a = c.args in
    c.of.ensures.sign ∙ ap sign_of (exact_of sizes (a.x ∷ a.w ∷ a.y ∷ a.v ∷ []) (wrap w128 difference) (limits a.x a.w a.y a.v r.x_small r.w_small r.y_small r.v_small) tt)

pub returns-clause-width : goal.returns-clause-width
returns-clause-width c =
    let r = c.requires in let a = c.args in
    let l = limits a.x a.w a.y a.v r.x_small r.w_small r.y_small r.v_small in
    subst (λ (n : ℤ). nat_abs n ≤ ratio_limit) (exact_of sizes (a.x ∷ a.w ∷ a.y ∷ a.v ∷ []) (wrap w128 difference) l tt) (size_of sizes (a.x ∷ a.w ∷ a.y ∷ a.v ∷ []) ratio_limit (wrap w128 difference) l tt tt)

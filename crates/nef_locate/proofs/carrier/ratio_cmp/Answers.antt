use Rattle.nef_locate.proofs.Prelude.{ℤ, ◌*ℤ◌, [], ◌∷◌, w64, ap, ◌∙◌, to_z, of_z, int_cmp, int_ranked, wrap, exact_of, fits_of}
use Rattle.nef_plane.proofs.Ratios.{limits, sizes, first, second}
use mir.Syntax.{w128}
use Rattle.nef_locate.proofs.carrier.ratio_cmp.Goals as goal

pub overflow_mul-x : goal.overflow_mul-x
overflow_mul-x c = let r = c.requires in let a = c.args in fits_of sizes (a.x ∷ a.w ∷ a.y ∷ a.v ∷ []) w128 first (limits a.x a.w a.y a.v r.x_small r.w_small r.y_small r.v_small) tt

pub overflow_mul-y : goal.overflow_mul-y
overflow_mul-y c = let r = c.requires in let a = c.args in fits_of sizes (a.x ∷ a.w ∷ a.y ∷ a.v ∷ []) w128 second (limits a.x a.w a.y a.v r.x_small r.w_small r.y_small r.v_small) tt

pub returns : goal.returns
returns c =
    let r = c.requires in let a = c.args in
    let l = limits a.x a.w a.y a.v r.x_small r.w_small r.y_small r.v_small in
    record {
      order = int_ranked (a.x *ℤ a.v) (a.y *ℤ a.w) c.cmp.result (c.cmp.ensures
          ∙ ap (λ (i : ℤ). int_cmp i (to_z w128 (of_z w128 (to_z w128 (of_z w128 a.y) *ℤ to_z w128 (of_z w128 (to_z w64 (of_z w64 a.w))))))) (exact_of sizes (a.x ∷ a.w ∷ a.y ∷ a.v ∷ []) (wrap w128 first) l tt)
          ∙ ap (λ (i : ℤ). int_cmp (a.x *ℤ a.v) i) (exact_of sizes (a.x ∷ a.w ∷ a.y ∷ a.v ∷ []) (wrap w128 second) l tt));
    }

use Rattle.nef_ray.proofs.Prelude.{[], ◌∷◌, refl, ◌∙◌, w64, wrap, exact_of, fits_of, size_of, asked_slope_limit}
use Rattle.nef_ray.proofs.Steps.{slope_sizes, slope-limits, slope-is, first_two, all_three}
use Rattle.nef_ray.proofs.change.slope.Goals as goal

pub overflow_add-result : goal.overflow_add-result
overflow_add-result c =
    let h = c.args.h.now in let d = c.args.d.now in
    fits_of slope_sizes (c.a.result ∷ c.b.result ∷ h.c ∷ c.x.result ∷ c.y.result ∷ d.z ∷ []) w64 first_two
    (slope-limits h d c.requires.small c.a.result c.b.result h.c c.x.result c.y.result d.z c.a.ensures.a c.b.ensures.b refl c.x.ensures.x c.y.ensures.y refl) tt

pub overflow_add-result-2 : goal.overflow_add-result-2
overflow_add-result-2 c =
    fits_of slope_sizes (c.a.result ∷ c.b.result ∷ c.c.result ∷ c.x.result ∷ c.y.result ∷ c.z.result ∷ []) w64 all_three
    (slope-limits c.args.h.now c.args.d.now c.requires.small c.a.result c.b.result c.c.result c.x.result c.y.result c.z.result c.a.ensures.a c.b.ensures.b c.c.ensures.c c.x.ensures.x c.y.ensures.y c.z.ensures.z) tt

pub returns-clause-value : goal.returns-clause-value
returns-clause-value c =
    exact_of slope_sizes (c.a.result ∷ c.b.result ∷ c.c.result ∷ c.x.result ∷ c.y.result ∷ c.z.result ∷ []) (wrap w64 all_three)
    (slope-limits c.args.h.now c.args.d.now c.requires.small c.a.result c.b.result c.c.result c.x.result c.y.result c.z.result c.a.ensures.a c.b.ensures.b c.c.ensures.c c.x.ensures.x c.y.ensures.y c.z.ensures.z) tt
    ∙ slope-is c.args.h.now c.args.d.now c.a.result c.b.result c.c.result c.x.result c.y.result c.z.result c.a.ensures.a c.b.ensures.b c.c.ensures.c c.x.ensures.x c.y.ensures.y c.z.ensures.z

pub returns-clause-width : goal.returns-clause-width
returns-clause-width c =
    size_of slope_sizes (c.a.result ∷ c.b.result ∷ c.c.result ∷ c.x.result ∷ c.y.result ∷ c.z.result ∷ []) asked_slope_limit (wrap w64 all_three)
    (slope-limits c.args.h.now c.args.d.now c.requires.small c.a.result c.b.result c.c.result c.x.result c.y.result c.z.result c.a.ensures.a c.b.ensures.b c.c.ensures.c c.x.ensures.x c.y.ensures.y c.z.ensures.z) tt tt

use Rattle.nef_ray.proofs.Prelude.{[], ◌∷◌, refl, ◌∙◌, w64, wrap, exact_of, fits_of, size_of, start_form_limit}
use Rattle.nef_ray.proofs.Steps.{form_sizes, form-limits, form-is, times, two, three, four}
use Rattle.nef_ray.proofs.change.form.Goals as goal

pub overflow_add-result : goal.overflow_add-result
overflow_add-result c =
    let h = c.args.h.now in let p = c.args.p.now in
    fits_of form_sizes (c.a.result ∷ c.b.result ∷ h.c ∷ h.d ∷ c.x.result ∷ c.y.result ∷ p.z ∷ p.w ∷ []) w64 two
    (form-limits h p c.requires.small c.a.result c.b.result h.c h.d c.x.result c.y.result p.z p.w c.a.ensures.a c.b.ensures.b refl refl c.x.ensures.x c.y.ensures.y refl refl) tt

pub overflow_mul-result-3 : goal.overflow_mul-result-3
overflow_mul-result-3 c =
    let h = c.args.h.now in let p = c.args.p.now in
    fits_of form_sizes (c.a.result ∷ c.b.result ∷ c.c.result ∷ h.d ∷ c.x.result ∷ c.y.result ∷ c.z.result ∷ p.w ∷ []) w64 (times 2 6)
    (form-limits h p c.requires.small c.a.result c.b.result c.c.result h.d c.x.result c.y.result c.z.result p.w c.a.ensures.a c.b.ensures.b c.c.ensures.c refl c.x.ensures.x c.y.ensures.y c.z.ensures.z refl) tt

pub overflow_add-result-2 : goal.overflow_add-result-2
overflow_add-result-2 c =
    let h = c.args.h.now in let p = c.args.p.now in
    fits_of form_sizes (c.a.result ∷ c.b.result ∷ c.c.result ∷ h.d ∷ c.x.result ∷ c.y.result ∷ c.z.result ∷ p.w ∷ []) w64 three
    (form-limits h p c.requires.small c.a.result c.b.result c.c.result h.d c.x.result c.y.result c.z.result p.w c.a.ensures.a c.b.ensures.b c.c.ensures.c refl c.x.ensures.x c.y.ensures.y c.z.ensures.z refl) tt

pub overflow_mul-result-4 : goal.overflow_mul-result-4
overflow_mul-result-4 c =
    fits_of form_sizes (c.a.result ∷ c.b.result ∷ c.c.result ∷ c.d.result ∷ c.x.result ∷ c.y.result ∷ c.z.result ∷ c.w.result ∷ []) w64 (times 3 7)
    (form-limits c.args.h.now c.args.p.now c.requires.small c.a.result c.b.result c.c.result c.d.result c.x.result c.y.result c.z.result c.w.result c.a.ensures.a c.b.ensures.b c.c.ensures.c c.d.ensures.d c.x.ensures.x c.y.ensures.y c.z.ensures.z c.w.ensures.w) tt

pub overflow_add-result-3 : goal.overflow_add-result-3
overflow_add-result-3 c =
    fits_of form_sizes (c.a.result ∷ c.b.result ∷ c.c.result ∷ c.d.result ∷ c.x.result ∷ c.y.result ∷ c.z.result ∷ c.w.result ∷ []) w64 four
    (form-limits c.args.h.now c.args.p.now c.requires.small c.a.result c.b.result c.c.result c.d.result c.x.result c.y.result c.z.result c.w.result c.a.ensures.a c.b.ensures.b c.c.ensures.c c.d.ensures.d c.x.ensures.x c.y.ensures.y c.z.ensures.z c.w.ensures.w) tt

pub returns-clause-value : goal.returns-clause-value
returns-clause-value c =
    exact_of form_sizes (c.a.result ∷ c.b.result ∷ c.c.result ∷ c.d.result ∷ c.x.result ∷ c.y.result ∷ c.z.result ∷ c.w.result ∷ []) (wrap w64 four)
    (form-limits c.args.h.now c.args.p.now c.requires.small c.a.result c.b.result c.c.result c.d.result c.x.result c.y.result c.z.result c.w.result c.a.ensures.a c.b.ensures.b c.c.ensures.c c.d.ensures.d c.x.ensures.x c.y.ensures.y c.z.ensures.z c.w.ensures.w) tt
    ∙ form-is c.args.h.now c.args.p.now c.a.result c.b.result c.c.result c.d.result c.x.result c.y.result c.z.result c.w.result c.a.ensures.a c.b.ensures.b c.c.ensures.c c.d.ensures.d c.x.ensures.x c.y.ensures.y c.z.ensures.z c.w.ensures.w

pub returns-clause-width : goal.returns-clause-width
returns-clause-width c =
    size_of form_sizes (c.a.result ∷ c.b.result ∷ c.c.result ∷ c.d.result ∷ c.x.result ∷ c.y.result ∷ c.z.result ∷ c.w.result ∷ []) start_form_limit (wrap w64 four)
    (form-limits c.args.h.now c.args.p.now c.requires.small c.a.result c.b.result c.c.result c.d.result c.x.result c.y.result c.z.result c.w.result c.a.ensures.a c.b.ensures.b c.c.ensures.c c.d.ensures.d c.x.ensures.x c.y.ensures.y c.z.ensures.z c.w.ensures.w) tt tt

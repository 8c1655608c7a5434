use Rattle.nef_ray.proofs.Prelude.{ℤ, pos, nat_abs, arith, ap, ◌∙◌, point_of}
use Rattle.nef_ray.proofs.Steps.{crossed-at, kept, size-small}
use Rattle.nef_ray.proofs.change.crossing.Goals as goal

pub returns : goal.returns
returns c =
    let X = c.requires.crosses in
    let small = c.slope.ensures.width in
    let en = c.abs.ensures.value ∙ ap (λ (i : ℤ). pos (nat_abs i)) (kept c.form.result c.form.ensures.width) in
    let em = c.abs-2.ensures.value ∙ ap (λ (i : ℤ). pos (nat_abs i)) (kept c.slope.result (omega (arith, small))) in
    let same = rw (kept c.abs.result (size-small c.abs.result c.form.result en c.form.ensures.width), kept c.abs-2.result (size-small c.abs-2.result c.slope.result em (omega (arith, small)))) at c.reached.ensures.reached in
    record { crossing = crossed-at c.args.h.now c.args.p.now c.args.d.now X.0 X.1 c.form.result c.slope.result c.abs.result c.abs-2.result c.form.ensures.value c.slope.ensures.value en em (point_of c.reached.result) same }

use Rattle.nef_locate.proofs.Prelude.{pos, nat_abs, IsTrue, rules, FitsSigned, sym, ◌∙◌, not_true, pos-abs}
use mir.Syntax.{w128}
use Rattle.nef_locate.proofs.FramedBounds.{read}
use Rattle.nef_locate.proofs.carrier.is_in_sides.Goals as goal

pub returns-then-not-lies_between : goal.returns-then-not-lies_between
returns-then-not-lies_between c =
    let q = c.args.q.now in let s = c.args.span.now in
    let f : FitsSigned w128 c.y.result = search rules in let g : FitsSigned w128 c.w.result = search rules in
    let off : IsTrue c.lies_between.result → ⊥ = search rules in
    let r = read (IsTrue c.lies_between.result) s.y c.y.result q.y c.w.result (pos (nat_abs q.w)) f g c.y.ensures.y (c.w.ensures.w ∙ sym (pos-abs q.w q.proper)) c.lies_between.ensures.between in
    record { sides = (λ t. absurd (not_true t), λ i. absurd (off (r.1 i.0))) }

pub returns : goal.returns
returns c =
    let q = c.args.q.now in let s = c.args.span.now in
    let fy : FitsSigned w128 c.y.result = search rules in let fw : FitsSigned w128 c.w.result = search rules in
    let fz : FitsSigned w128 c.z.result = search rules in let fv : FitsSigned w128 c.w-2.result = search rules in
    let p = sym (pos-abs q.w q.proper) in
    let y = read (IsTrue c.lies_between.result) s.y c.y.result q.y c.w.result (pos (nat_abs q.w)) fy fw c.y.ensures.y (c.w.ensures.w ∙ p) c.lies_between.ensures.between in
    let z = read (IsTrue c.lies_between-2.result) s.z c.z.result q.z c.w-2.result (pos (nat_abs q.w)) fz fv c.z.ensures.z (c.w-2.ensures.w ∙ p) c.lies_between-2.ensures.between in
    let ty : IsTrue c.lies_between.result = search rules in
    record { sides = (λ t. (y.0 ty, z.0 t), λ i. z.1 i.1) }

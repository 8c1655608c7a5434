use Rattle.nef_locate.proofs.Prelude.{pos, nat_abs, IsTrue, rules, FitsSigned, sym, ◌∙◌, not_true, pos-abs}
use mir.Syntax.{w128}
use Rattle.nef_locate.proofs.FramedBounds.{read}
use Rattle.nef_locate.proofs.carrier.is_in_span.Goals as goal

pub returns-then-not-lies_between : goal.returns-then-not-lies_between
returns-then-not-lies_between c =
    let q = c.args.q.now in let s = c.args.span.now in
    let f : FitsSigned w128 c.x.result = search rules in let g : FitsSigned w128 c.w.result = search rules in
    let off : IsTrue c.lies_between.result → ⊥ = search rules in
    let r = read (IsTrue c.lies_between.result) s.x c.x.result q.x c.w.result (pos (nat_abs q.w)) f g c.x.ensures.x (c.w.ensures.w ∙ sym (pos-abs q.w q.proper)) c.lies_between.ensures.between in
    record { spanned = (λ t. absurd (not_true t), λ (i, j). absurd (off (let a = j.0 in r.1 (i.along_x, a.0, a.1)))) }

pub returns : goal.returns
returns c =
    let q = c.args.q.now in let s = c.args.span.now in
    let f : FitsSigned w128 c.x.result = search rules in let g : FitsSigned w128 c.w.result = search rules in
    let r = read (IsTrue c.lies_between.result) s.x c.x.result q.x c.w.result (pos (nat_abs q.w)) f g c.x.ensures.x (c.w.ensures.w ∙ sym (pos-abs q.w q.proper)) c.lies_between.ensures.between in
    let tx : IsTrue c.lies_between.result = search rules in
    record {
      spanned = (
        λ t. let x = r.0 tx in let (y, z) = c.is_in_sides.ensures.sides.0 t in (record { along_x = x.0; along_y = y.0; along_z = z.0 }, ((x.1, x.2), (y.1, y.2), (z.1, z.2))),
        λ (i, j). c.is_in_sides.ensures.sides.1 (let a = j.1 in let b = j.2 in ((i.along_y, a.0, a.1), (i.along_z, b.0, b.1))),
      );
    }

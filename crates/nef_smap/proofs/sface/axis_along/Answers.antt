use Rattle.nef_smap.proofs.Prelude.{pos, sym, ◌∙◌, dot, vector_of, by_order, not_true}
use Rattle.nef_smap.proofs.Axes.{back-along}
use Rattle.nef_smap.proofs.sface.axis_along.Goals as goal

pub returns-then-is_plus-clause-along : goal.returns-then-is_plus-clause-along
returns-then-is_plus-clause-along c = (c.is_plus.ensures.plus (dot (vector_of c.args.d.now) (vector_of c.slanted_axis-axis.result)) c.dot.ensures.dot).0 c.if-is_plus.true

pub returns-else-is_plus-clause-along : goal.returns-else-is_plus-clause-along
returns-else-is_plus-clause-along c =
    let d = vector_of c.args.d.now in let a = vector_of c.slanted_axis-axis.result in
    let plus = c.is_plus.ensures.plus (dot d a) c.dot.ensures.dot in
    back-along d a (vector_of c.back.result) c.back.ensures.back
    (by_order (dot d a) (pos 0) (λ l. l) (λ e. absurd (c.slanted_axis-axis.ensures.off e)) (λ g. absurd (not_true (sym c.if-is_plus.false ∙ plus.1 g))))

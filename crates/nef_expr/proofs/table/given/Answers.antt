-- The opposite numbers of a plane in normal form that was given the other way.
use Rattle.nef_expr.proofs.Prelude.{sym, arith, ◌∙◌, same-form}
use Rattle.nef_expr.proofs.Halves.{minus-word, given-flipped}
use Rattle.nef_expr.proofs.table.given.Goals as goal

pub returns-then-flipped : goal.returns-then-flipped
returns-then-flipped c =
    let o = c.args.oriented.now in let g = c.plane-plane.result in
    let a = g.a_small in let b = g.b_small in let e = g.c_small in let d = g.d_small in
    record {
      given = same-form _ _ _ _ _ _ _ _ (minus-word c.a-a.result g.a c.a-a.ensures.a (omega (arith, a))) (minus-word c.b-b.result g.b c.b-b.ensures.b (omega (arith, b))) (minus-word c.c-c.result g.c c.c-c.ensures.c (omega (arith, e))) (minus-word c.d-d.result g.d c.d-d.ensures.d d)
          ∙ given-flipped o g c.plane-plane.ensures.plane (sym c.flipped.ensures.flipped ∙ c.if-flipped.true);
    }

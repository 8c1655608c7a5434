-- The image is read as it is given.
use Rattle.nef_expr.proofs.Prelude.{◌∙◌, ap, sym, subst, arith, Form, normal_of, IsDirection, IsInRange, IsPositiveMultiple, given_form}
use Rattle.nef_expr.proofs.Halves.{half-small, half-in_range, half-some, half-words, half-read, word, word-small}
use Rattle.nef_expr.proofs.table.turned_half.Goals as goal

pub turned_coordinates-x-requires-clause-x_small : goal.turned_coordinates-x-requires-clause-x_small
turned_coordinates-x-requires-clause-x_small c =
    let l = word-small c.given-a.result.0 _ (ap (λ (h : Form). h.a) c.given-a.ensures.given) (half-small 0 c.args.oriented.now).a_small in omega (arith, l)

pub turned_coordinates-x-requires-clause-y_small : goal.turned_coordinates-x-requires-clause-y_small
turned_coordinates-x-requires-clause-y_small c =
    let l = word-small c.given-a.result.1 _ (ap (λ (h : Form). h.b) c.given-a.ensures.given) (half-small 0 c.args.oriented.now).b_small in omega (arith, l)

pub turned_coordinates-x-requires-clause-z_small : goal.turned_coordinates-x-requires-clause-z_small
turned_coordinates-x-requires-clause-z_small c =
    let l = word-small c.given-a.result.2 _ (ap (λ (h : Form). h.c) c.given-a.ensures.given) (half-small 0 c.args.oriented.now).c_small in omega (arith, l)

pub of-requires : goal.of-requires
of-requires c =
    let t = c.args.t in let o = c.args.oriented.now in let g = c.given-a.result in
    let e = half-words t o c.turned_coordinates-x.result g.0 g.1 g.2 g.3 c.given-a.ensures.given (c.turned_coordinates-x.ensures.made ∙ c.turn_row-row.ensures.row (word g.0, word g.1, word g.2)) in
    record { in_range = subst IsInRange (sym e) (half-in_range t o); some = subst (λ (f : Form). IsDirection (normal_of f)) (sym e) (half-some t o) }

pub returns : goal.returns
returns c =
    let t = c.args.t in let o = c.args.oriented.now in let g = c.given-a.result in
    let e = half-words t o c.turned_coordinates-x.result g.0 g.1 g.2 g.3 c.given-a.ensures.given (c.turned_coordinates-x.ensures.made ∙ c.turn_row-row.ensures.row (word g.0, word g.1, word g.2)) in
    record { turned = half-read t o c.of.result (subst (λ (f : Form). IsPositiveMultiple f (given_form c.of.result)) e c.of.ensures.multiple) }

use Rattle.nef_edges.proofs.Prelude.{◌≡◌, rules, ap, sym, ◌∙◌, Ordering, int_cmp, ordering_then, then-is, dir_order, moment_order}
use Rattle.nef_edges.proofs.Lines.{then-equal}
use Rattle.nef_edges.proofs.arriving.line_cmp.Goals as goal

pub returns-then-is_one_line : goal.returns-then-is_one_line
returns-then-is_one_line c =
    let a = c.args.a.now in let b = c.args.b.now in
    record { order = sym (then-equal (int_cmp a.key b.key) (ordering_then (dir_order a.dir b.dir) (moment_order a b)) (c.is_one_line.ensures.tied c.if-is_one_line.true)).1 }

pub returns : goal.returns
returns c =
    let a = c.args.a.now in let b = c.args.b.now in
    let m = moment_order a b in
    let e : c.cmp.result ≡ dir_order a.dir b.dir = search rules in
    record { order = then-is c.cmp.result m c.then_with.result _ c.then_with.ensures (λ p. search rules) ∙ ap (λ (o : Ordering). ordering_then o m) e }

use Rattle.nef_edges.proofs.Prelude.{◌≡◌, rules, ap, ◌∙◌, Ordering, int_cmp, ordering_then, nat_cmp, then-both, dir_order, moment_order}
use Rattle.nef_edges.proofs.arriving.end_cmp.Goals as goal

pub returns : goal.returns
returns c =
    let a = c.args.a.now in let b = c.args.b.now in
    let m = ordering_then (dir_order a.dir b.dir) (moment_order a b) in
    let v = nat_cmp a.vertex b.vertex in
    let e : c.cmp.result ≡ int_cmp a.key b.key = search rules in
    record { order = then-both c.cmp.result m v c.then_with.result _ c.then_with.ensures (λ p. search rules) ∙ ap (λ (o : Ordering). ordering_then (ordering_then o m) v) e }

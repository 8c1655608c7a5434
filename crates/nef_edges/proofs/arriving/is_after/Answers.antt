use Rattle.nef_edges.proofs.Prelude.{ℕ, List, length, sym, ap, ◌∙◌, is_gt, ltb-true, EdgeEnd, end_order}
use Rattle.nef_edges.proofs.Next.{gt-greater}
use Rattle.nef_edges.proofs.arriving.is_after.Goals as goal
use Rattle.nef_space.proofs.Lists.{is-at_read}

pub returns-in-Some : goal.returns-in-Some
returns-in-Some c =
    let hs : List EdgeEnd = c.args.ends.now in let n : ℕ = c.args.number in let f : EdgeEnd = c.args.from.now in
    let h : EdgeEnd = c.in-Some.end.now in
    let here = is-at_read hs n h (ltb-true n (length hs) (sym c.in-Some.ensures.lookup.0)) c.in-Some.ensures.lookup.1 in
    record { after = λ t. (h, here, gt-greater (end_order h f) (sym (c.is_gt.ensures ∙ ap is_gt c.end_cmp.ensures.order) ∙ t)) }

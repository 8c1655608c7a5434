use Rattle.nef_edges.proofs.Prelude.{◌≡◌, ◌+◌, ◌-◌, ◌<◌, ℕ, List, length, arith, sym, ap, ◌∙◌, subst, is_le, EdgeEnd, NoneAfter}
use Rattle.nef_edges.proofs.Next.{none-up_to}
use Rattle.nef_edges.proofs.arriving.is_up_to.Goals as goal
use Rattle.nef_space.proofs.Lists.{is-at_read}

pub returns-else-number-eq0 : goal.returns-else-number-eq0
returns-else-number-eq0 c =
    let hs : List EdgeEnd = c.args.ends.now in let f : EdgeEnd = c.args.from.now in let n : ℕ = c.args.number in
    let h = c.index-ends-number.result in
    let within = c.requires.within in let some = c.if-number-eq0.false in
    let inside : n - 1 < length hs = omega (arith, within, some) in
    let last : (n - 1) + 1 ≡ n = omega (arith, some) in
    record { before = λ t. subst (λ (k : ℕ). NoneAfter hs f k) last (none-up_to hs c.requires.sorted f (n - 1) h (is-at_read hs (n - 1) h inside c.index-ends-number.is) (sym (c.is_le.ensures ∙ ap is_le c.end_cmp.ensures.order) ∙ t)) }

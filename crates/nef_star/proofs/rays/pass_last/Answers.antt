use Rattle.nef_star.proofs.Prelude.{◌≡◌, ◌-◌, length, arith, sym, subst, ◌∙◌, inl, IsCountedFrom}
use Rattle.nef_star.proofs.Needed.{last-needless, passed-needed, true_or_false}
use Rattle.nef_star.proofs.rays.pass_last.Goals as goal

pub drop_last-requires-clause-needless : goal.drop_last-requires-clause-needless
drop_last-requires-clause-needless c =
    let t = c.args.star.now in let n = c.is_needless.ensures.needless in
    let last : c.len-last.result - 1 ≡ length t.rays.items - 1 = omega (arith, c.len-last.ensures) in
    (last-needless t n.0 (c.len-last.result - 1) c.requires.some last n.1).0 (n.2.0 c.if-is_needless.true)

pub returns-then-is_needless-clause-passed : goal.returns-then-is_needless-clause-passed
returns-then-is_needless-clause-passed c = λ n a. inl (c.drop_last.ensures.fewer, c.drop_last.ensures.needed n a)

pub returns-clause-passed : goal.returns-clause-passed
returns-clause-passed c =
    let t = c.args.star.now in let n = c.is_needless.ensures.needless in
    let last : c.len-last.result - 1 ≡ length t.rays.items - 1 = omega (arith, c.len-last.ensures) in
    passed-needed t c.count_from.new.star c.requires.turned c.count_from.ensures.kept.axis c.count_from.ensures.kept.mark c.requires.some
    (subst (λ m. IsCountedFrom m t c.count_from.new.star) last c.count_from.ensures.counted)
    (λ z. true_or_false (sym (n.2.1 ((last-needless t n.0 (c.len-last.result - 1) c.requires.some last n.1).1 z)) ∙ c.if-is_needless.false))

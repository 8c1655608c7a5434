use Rattle.nef_shell.proofs.Prelude.{◌≡◌, ◌∙◌, sym, subst, inl, inr, IsSomeAnd, IfOk-weaker, operand, first_value, second_value, IsNewlyHeld}
use Rattle.nef_shell.proofs.Kept.{lent-at, less-none, less-wider}
use Rattle.nef_shell.proofs.Sets.{looks-first, looks-second}
use Rattle.nef_shell.proofs.values.worked.Goals as goal

pub combined-requires-clause-first : goal.combined-requires-clause-first
combined-requires-clause-first g c κs within =
    let (ss, shown) = c.requires.operands in
    let operands = c.in-Some.ensures.operands in
    (operand ss c.in-Some.i, shown c.in-Some.i (looks-first _ _ operands.0))

pub combined-requires-clause-second : goal.combined-requires-clause-second
combined-requires-clause-second g c κs within =
    let (ss, shown) = c.requires.operands in
    let operands = c.in-Some.ensures.operands in
    (operand ss c.in-Some.j, shown c.in-Some.j (looks-second _ _ operands.1))

pub returns-in-Some-clause-new : goal.returns-in-Some-clause-new
returns-in-Some-clause-new g c =
    let operands = c.in-Some.ensures.operands in
    IfOk-weaker c.combined.result _ _ (λ o new ss shown. subst (λ s. IsSomeAnd o (λ b. IsNewlyHeld s b.value)) (sym (c.in-Some.ensures.set ss)) (new _ _ (shown _ (looks-first _ _ operands.0)) (shown _ (looks-second _ _ operands.1)))) c.combined.ensures.new

pub returns-in-Some-clause-less : goal.returns-in-Some-clause-less
returns-in-Some-clause-less g c =
    let operands = c.in-Some.ensures.operands in
    less-wider _ _ _ _ (λ k h. elim h [ inl (ends, is) ↦ inl (ends, operands.0 ∙ is) | inr (ends, is) ↦ inr (ends, operands.1 ∙ is) ]) c.combined.ensures.less

pub made-requires-clause-operands : goal.made-requires-clause-operands
made-requires-clause-operands g c κs within =
    let task = c.args.step.now.task in
    let (ss, shown) = c.requires.operands in
    let looked = c.looked_at-first.ensures in
    rw (c.complex_at-a.ensures.complex, c.complex_at-b.ensures.complex, looked.first, looked.second) (ss, lent-at ss _ (first_value task) (λ k is. shown k (looks-first task k is)), lent-at ss _ (second_value task) (λ k is. shown k (looks-second task k is)))

pub returns-clause-new : goal.returns-clause-new
returns-clause-new g c =
    let task = c.args.step.now.task in
    let looked = c.looked_at-first.ensures in
    IfOk-weaker c.made.result _ _ (λ o new ss shown.
    new ss (rw (c.complex_at-a.ensures.complex, looked.first) (lent-at ss _ (first_value task) (λ k is. shown k (looks-first task k is)))) (rw (c.complex_at-b.ensures.complex, looked.second) (lent-at ss _ (second_value task) (λ k is. shown k (looks-second task k is))))) c.made.ensures.new

pub returns-clause-less : goal.returns-clause-less
returns-clause-less g c = less-none _ _

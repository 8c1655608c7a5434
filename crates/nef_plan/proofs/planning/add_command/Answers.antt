use Rattle.std.specs.Prelude.{◌⊎◌}
use Rattle.nef_plan.proofs.Prelude.{◌≡◌, ◌∙◌, ℕ, inl, inr, ⊎_elim, true, false, List, [], ◌∷◌, filter, ap, refl, sym, subst, length, arith, slice_get_within, on_ok_weaker, turned_set, names-wider, each-set, Node, Command, Binds, TurnsRight, SpeaksOfFirst, GoesOn, IsBoundIn, IsTurnedFrom, AsksAbout, is_question}
use Rattle.nef_expr.proofs.Turns.{node-turned}
use Rattle.nef_script.specs.declared.script.Command.TheVariants.{Bind, Turn, Has, Joined, Ray, Same, Count, Print}
use Rattle.nef_script.specs.Commands.{LooksAt}
use Rattle.nef_plan.proofs.Growth.{set-more}
use Rattle.nef_plan.proofs.planning.add_command.Goals as goal
use Rattle.nef_script.proofs.Looking.{within-more}
use Rattle.std.proofs.lemmas.Option.{none-some, same_Some}

-- a command that binds nothing asks a question
is-question : (c : Command) → ((line n : ℕ) → c ≡ Bind line n → ⊥) → ((line n j t : ℕ) → c ≡ Turn line n j t → ⊥) → is_question c ≡ true
is-question (Bind line n) binds turns = absurd (binds line n refl)
is-question (Turn line n j t) binds turns = absurd (turns line n j t refl)
is-question (Has line n p) binds turns = refl
is-question (Joined line n p q) binds turns = refl
is-question (Ray line n p d) binds turns = refl
is-question (Same line i j) binds turns = refl
is-question (Count line n) binds turns = refl
is-question (Print line n name) binds turns = refl

question-alone : (c : Command) → is_question c ≡ true → filter is_question (c ∷ []) ≡ c ∷ []
question-alone (Bind line n) asks = absurd (let f : false ≡ true = asks in cc)
question-alone (Turn line n j t) asks = absurd (let f : false ≡ true = asks in cc)
question-alone (Has line n p) asks = refl
question-alone (Joined line n p q) asks = refl
question-alone (Ray line n p d) asks = refl
question-alone (Same line i j) asks = refl
question-alone (Count line n) asks = refl
question-alone (Print line n name) asks = refl

-- it looks at what it asks about
asked-looks : (nodes : List Node) (c : Command) (k : ℕ) → AsksAbout c k → LooksAt nodes c k
asked-looks nodes (Bind line n) k asks = absurd (⊎_elim (none-some k) (none-some k) asks)
asked-looks nodes (Turn line n j t) k asks = absurd (⊎_elim (none-some k) (none-some k) asks)
asked-looks nodes (Has line n p) k asks = ⊎_elim (λ e. sym (same_Some n k e)) (λ e. absurd (none-some k e)) asks
asked-looks nodes (Joined line n p q) k asks = ⊎_elim (λ e. sym (same_Some n k e)) (λ e. absurd (none-some k e)) asks
asked-looks nodes (Ray line n p d) k asks = ⊎_elim (λ e. sym (same_Some n k e)) (λ e. absurd (none-some k e)) asks
asked-looks nodes (Same line i j) k asks = ⊎_elim (λ e. inl (sym (same_Some i k e))) (λ e. inr (sym (same_Some j k e))) asks
asked-looks nodes (Count line n) k asks = ⊎_elim (λ e. sym (same_Some n k e)) (λ e. absurd (none-some k e)) asks
asked-looks nodes (Print line n name) k asks = ⊎_elim (λ e. sym (same_Some n k e)) (λ e. absurd (none-some k e)) asks

pub bind-requires-clause-set : goal.bind-requires-clause-set
bind-requires-clause-set c =
    let nodes = c.args.nodes.now in
    let more = c.requires.more in
    let k = c.in-Bind.node in
    let made = c.get.result.now in
    let within = slice_get_within nodes k made c.get.ensures.node in
    let names = names-wider k (length nodes) made (omega (arith, within)) c.get.ensures.operands in
    more.sets k within ∙ each-set nodes k made c.get.ensures.node c.get.ensures.operands ∙ sym (set-more nodes c.args.plan.now.nodes made more names)

pub add_draft-requires-clause-looks : goal.add_draft-requires-clause-looks
add_draft-requires-clause-looks c k looks = c.requires.looks k (subst (λ (z : Command). LooksAt c.args.nodes.now z k) (sym c.in-Turn.is) looks)

pub add_draft-requires-clause-unbound : goal.add_draft-requires-clause-unbound
add_draft-requires-clause-unbound c k e =
    let within = subst (SpeaksOfFirst (length c.args.nodes.now)) c.in-Turn.is c.requires.within in
    let count = c.requires.count in
    (omega (arith, e, within.0, count), λ is. let f : false ≡ true = sym c.if-is_bound-2.false ∙ c.is_bound-in-Turn.ensures.bound.1 (subst (IsBoundIn c.args.bounds.now) e is) in cc)

pub add_draft-requires-clause-right : goal.add_draft-requires-clause-right
add_draft-requires-clause-right c =
    let nodes = c.args.nodes.now in
    let more = c.requires.more in
    let node = c.in-Turn.node in
    let from = c.in-Turn.from in
    let turn = c.in-Turn.turn in
    let within = subst (SpeaksOfFirst (length nodes)) c.in-Turn.is c.requires.within in
    let turned = subst (TurnsRight nodes) c.in-Turn.is c.requires.turned in
    let is : IsTurnedFrom c.args.plan.now.nodes node from turn = record {
      within = omega (arith, within.0, more.as_many);
      operand = omega (arith, within.1, more.as_many);
      turn = within.2;
      set = more.sets node within.0 ∙ node-turned nodes c.requires.ordered turn from node turned ∙ ap (turned_set turn) (sym (more.sets from within.1));
    } in
    is

pub add_draft-requires-in_default-clause-looks : goal.add_draft-requires-in_default-clause-looks
add_draft-requires-in_default-clause-looks c k asks = c.requires.looks k (asked-looks c.args.nodes.now c.args.command.now k asks)

pub add_draft-requires-in_default-clause-right : goal.add_draft-requires-in_default-clause-right
add_draft-requires-in_default-clause-right c = (
  is-question c.args.command.now c.in_default.not-Bind c.in_default.not-Turn,
  within-more (length c.args.nodes.now) (length c.args.plan.now.nodes) c.args.command.now c.requires.more.as_many c.requires.within,
)

pub returns-in_default-clause-goes_on : goal.returns-in_default-clause-goes_on
returns-in_default-clause-goes_on c =
    let alone = question-alone c.args.command.now (is-question c.args.command.now c.in_default.not-Bind c.in_default.not-Turn) in
    on_ok_weaker c.add_draft-in_default.result (λ on. subst (GoesOn c.args.plan.now c.args.bounds.now c.add_draft-in_default.new.plan c.add_draft-in_default.new.bounds) (sym alone) on) c.add_draft-in_default.ensures.goes_on

pub returns-else-is_bound-clause-only : goal.returns-else-is_bound-clause-only
returns-else-is_bound-clause-only c =
    on_ok_weaker c.bind.result (λ only k is. subst (λ (z : Command). IsBoundIn c.args.bounds.now k ⊎ Binds z k) (sym c.in-Bind.is) (only k is)) c.bind.ensures.only

pub returns-in_default-clause-only : goal.returns-in_default-clause-only
returns-in_default-clause-only c = on_ok_weaker c.add_draft-in_default.result (λ only k is. ⊎_elim (λ before. inl before) (λ none. absurd none) (only k is)) c.add_draft-in_default.ensures.only

pub returns-else-is_bound-2-clause-only : goal.returns-else-is_bound-2-clause-only
returns-else-is_bound-2-clause-only c =
    on_ok_weaker c.add_draft.result (λ only k is. subst (λ (z : Command). IsBoundIn c.args.bounds.now k ⊎ Binds z k) (sym c.in-Turn.is) (only k is)) c.add_draft.ensures.only

pub returns-else-is_bound-2-clause-bound : goal.returns-else-is_bound-2-clause-bound
returns-else-is_bound-2-clause-bound c = on_ok_weaker c.add_draft.result (λ bound k binds. bound k (subst (λ (z : Command). Binds z k) c.in-Turn.is binds)) c.add_draft.ensures.bound

use Rattle.nef_plan.proofs.Prelude.{◌≡◌, ◌∙◌, ◌+◌, ◌∷◌, ◌++◌, ℕ, [], ap, refl, sym, subst, take, filter, length, inl, inr, arith, cases_lt, take_more, filter-append, get_or_from_slice_get, slice_get_read, Command, Binds, GoesOn, IsBoundIn, asked, is_question}
use Rattle.nef_plan.proofs.Growth.{grown-refl, more-trans}
use Rattle.nef_plan.proofs.Added.{BindsBefore, added-none, due-now, timely-added, timely-none}
use Rattle.nef_plan.proofs.Bounds.{on-grown, on-trans}
use Rattle.nef_plan.proofs.planning.add_commands.Goals as goal

pub loop-command-preserved : goal.loop-command-preserved
loop-command-preserved c =
    let items = c.commands-command-items.result.now in
    let item = c.command-item.result in
    let now = c.loop-command.command-index in
    let so_far = c.loop-command.invariant in
    let added = c.in_ok-add_command.ensures in
    let new = c.add_command.new in
    let next : take (now + 1) items ≡ take now items ++ item ∷ [] = take_more items now item c.loop-command-test.true ∙ ap (λ (z : Command). take now items ++ z ∷ []) (sym c.command-item.is) in
    let questions : filter is_question (take (now + 1) items) ≡ filter is_question (take now items) ++ filter is_question (item ∷ []) = ap (filter is_question) next ∙ filter-append is_question (take now items) (item ∷ []) in
    let nodes = c.args.script.now.nodes in
    let more = more-trans nodes c.args.plan.now.nodes c.loop-command.plan.nodes c.requires.more so_far.goes_on.grown.nodes in
    let whence : (k : ℕ) → IsBoundIn new.bounds k → BindsBefore items (now + 1) k = λ k is. elim (added.only k is) [
      | inl before ↦ (let (p, d, below, at, binds) = so_far.whence k before in (p, d, omega (arith, below), at, binds))
      | inr binds ↦ (now, item, omega arith, slice_get_read items _ now item refl c.loop-command-test.true c.command-item.is, binds)
    ] in
    let so_asked : asked c.loop-command.plan.steps.items ≡ filter is_question (take now items) = so_far.goes_on.grown.asked ∙ ap (λ z. asked z ++ filter is_question (take now items)) c.requires.none in
    record {
      planned = added.goes_on.planned;
      timely = timely-added nodes items c.loop-command.plan new.plan (IsBoundIn new.bounds) more (λ k is. due-now items c.loop-command.plan.steps.items now k so_asked (whence k is)) so_far.timely added.goes_on.added;
      whence = whence;
      within = omega (arith, c.loop-command-test.true);
      joins = let a = so_far.joins in let b = added.joins in omega (arith, a, b);
      goes_on = subst (GoesOn c.args.plan.now c.args.bounds.now new.plan new.bounds) (sym questions)
          (on-trans c.args.plan.now c.loop-command.plan new.plan c.args.bounds.now c.loop-command.bounds new.bounds _ _ so_far.goes_on added.goes_on);
      bound = λ i k d below at binds. elim (cases_lt i now) [
        | inl earlier ↦ added.goes_on.still k (so_far.bound i k d earlier at binds)
        | inr past ↦ (
            let now_is : i ≡ now = omega arith in
            let same : d ≡ item = sym (get_or_from_slice_get items i d item at) ∙ rw now_is (sym c.command-item.is) in
            added.bound k (subst (λ (z : Command). Binds z k) same binds))
      ];
    }

pub loop-command-init : goal.loop-command-init
loop-command-init c =
    let plan = c.args.plan.now in
    let bounds = c.args.bounds.now in
    record {
      planned = c.requires.planned;
      goes_on = on-grown plan plan [] bounds c.requires.planned (grown-refl plan c.requires.planned.steps) (added-none plan (λ k. ⊥));
      timely = timely-none c.args.script.now.nodes c.commands-command-items.result.now plan.steps.items c.requires.none;
      whence = λ k is. absurd (c.requires.unbound k is);
      within = omega arith;
      joins = omega arith;
      bound = λ i k d below at binds. absurd (omega (arith, below));
    }

pub returns-clause-joins : goal.returns-clause-joins
returns-clause-joins c =
    let joined = c.loop-command.invariant.joins in
    let within = c.loop-command.invariant.within in
    let same = ap length c.commands-command-items.ensures.commands in
    omega (arith, joined, within, same)

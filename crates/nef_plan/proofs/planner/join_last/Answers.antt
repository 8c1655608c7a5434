use Rattle.nef_plan.proofs.Prelude.{◌≡◌, ℕ, subst, List, [], ◌∷◌, ◌++◌, ◌∙◌, ap, arith, length, length-append, PartsAreReady, RowMakesSet}
use Rattle.nef_plan.proofs.Rows.{Each, each-front, each-last, are-joined-grown, row-joined-grown}
use Rattle.nef_plan.proofs.planner.join_last.Goals as goal

pub joined_part-requires-clause-first : goal.joined_part-requires-clause-first
joined_part-requires-clause-first c =
    let plan = c.args.plan.now in
    let row = c.args.row.now in
    let rest = c.pop.new.self.items in
    let items : row.others.items ≡ rest ++ c.in-Some.part ∷ [] = c.in-Some.ensures.items in
    each-last plan rest c.in-Some.part (subst (Each plan) items (each-front plan row.others.items row.last c.requires.ready.each))

pub joined_part-requires-clause-second : goal.joined_part-requires-clause-second
joined_part-requires-clause-second c = each-last c.args.plan.now c.args.row.now.others.items c.args.row.now.last c.requires.ready.each

pub returns-in_ok-row-clause-ready : goal.returns-in_ok-row-clause-ready
returns-in_ok-row-clause-ready c =
    let old = c.args.row.now in
    let rest = c.pop.new.self.items in
    let items : old.others.items ≡ rest ++ c.in-Some.part ∷ [] = c.in-Some.ensures.items in
    let before = subst (λ (z : List ℕ). PartsAreReady c.args.plan.now old.kind (z ++ old.last ∷ [])) items c.requires.ready in
    let now = c.in_ok-row.ensures in
    are-joined-grown c.args.plan.now c.joined_part.new.plan [] old.kind rest c.in-Some.part old.last c.in_ok-row.field-0 now.grown now.ready before

pub returns-in_ok-row-clause-row : goal.returns-in_ok-row-clause-row
returns-in_ok-row-clause-row c k row =
    let old = c.args.row.now in
    let rest = c.pop.new.self.items in
    let items : old.others.items ≡ rest ++ c.in-Some.part ∷ [] = c.in-Some.ensures.items in
    let before = subst (λ (z : List ℕ). RowMakesSet c.args.plan.now old.kind (z ++ old.last ∷ []) k) items row in
    let now = c.in_ok-row.ensures in
    row-joined-grown c.args.plan.now c.joined_part.new.plan [] old.kind rest c.in-Some.part old.last c.in_ok-row.field-0 k now.grown now.ready now.set before

pub returns-in_ok-row-clause-joins : goal.returns-in_ok-row-clause-joins
returns-in_ok-row-clause-joins c =
    let one = c.in_ok-row.ensures.one in
    let count = ap length c.in-Some.ensures.items ∙ length-append c.pop.new.self.items (c.in-Some.part ∷ []) in
    omega (arith, one, count)

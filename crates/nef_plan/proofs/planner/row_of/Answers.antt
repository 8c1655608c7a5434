use Rattle.nef_plan.proofs.Prelude.{◌≡◌, ◌∙◌, ℕ, [], ◌∷◌, ap, arith, length-append, length, sym, subst, IfOk-weaker, node_set, IsNodeReady, combined}
use Rattle.nef_plan.proofs.Growth.{ready-grown}
use Rattle.nef_plan.proofs.Rows.{combined-same, row-added}
use Rattle.nef_plan.proofs.Bounds.{on-trans}
use Rattle.nef_plan.proofs.planner.row_of.Goals as goal

pub returns-in-Some-clause-row : goal.returns-in-Some-clause-row
returns-in-Some-clause-row c k within is =
    let plan = c.demand.new.plan in
    let row = c.in-Some.row in
    let longer = c.add.new.self in
    let added = c.in_ok-add.ensures in
    let (like, of) = c.in_ok-row.ensures.row row c.in-Some.is in
    let second : longer.last ≡ c.args.second = added.last in
    let same = combined-same row.kind c.args.kind (node_set plan.nodes c.args.first) (node_set plan.nodes c.args.second) like in
    row-added plan row longer c.args.first k added.kind added.others
    (subst (IsNodeReady plan) (sym second) c.in_ok-demand.ensures.ready)
    within
    (is ∙ sym same ∙ ap (λ (n : ℕ). combined row.kind (node_set plan.nodes c.args.first) (node_set plan.nodes n)) (sym second))
    (of plan c.in_ok-demand.ensures.goes_on.planned).0

pub demand-requires-2-clause-planned : goal.demand-requires-2-clause-planned
demand-requires-2-clause-planned c = c.in_ok-demand.ensures.goes_on.planned

pub returns-clause-goes_on : goal.returns-clause-goes_on
returns-clause-goes_on c =
    let on = on-trans c.args.plan.now c.demand.new.plan c.demand-2.new.plan c.args.bounds.now c.demand.new.bounds c.demand-2.new.bounds [] [] c.in_ok-demand.ensures.goes_on c.in_ok-demand-2.ensures.goes_on in
    IfOk-weaker c.begun.result _ _ (λ r _. on) c.begun.ensures.row

pub returns-clause-only : goal.returns-clause-only
returns-clause-only c = IfOk-weaker c.begun.result _ _ (λ r _ k is. c.in_ok-demand.ensures.only k (c.in_ok-demand-2.ensures.only k is)) c.begun.ensures.row

pub returns-clause-row : goal.returns-clause-row
returns-clause-row c =
    let plan = c.demand-2.new.plan in
    let second = ready-grown c.demand.new.plan plan [] c.args.second c.in_ok-demand-2.ensures.goes_on.grown c.in_ok-demand.ensures.ready in
    IfOk-weaker c.begun.result _ _ (λ r row k within is. row plan k within c.in_ok-demand-2.ensures.ready second is) c.begun.ensures.row

pub returns-in-Some-clause-joins : goal.returns-in-Some-clause-joins
returns-in-Some-clause-joins c =
    let row = c.in-Some.row in
    let (like, of) = c.in_ok-row.ensures.row row c.in-Some.is in
    let few = (of c.demand.new.plan c.in_ok-demand.ensures.goes_on.planned).1 in
    let count = ap length c.in_ok-add.ensures.others ∙ length-append row.others.items (row.last ∷ []) in
    let joined = c.in_ok-demand.ensures.joins in
    omega (arith, few, count, joined)

pub returns-clause-joins : goal.returns-clause-joins
returns-clause-joins c =
    let first = c.in_ok-demand.ensures.joins in
    let second = c.in_ok-demand-2.ensures.joins in
    IfOk-weaker c.begun.result _ _ (λ r few. omega (arith, few, first, second)) c.begun.ensures.few

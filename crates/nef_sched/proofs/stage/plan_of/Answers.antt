use Rattle.nef_sched.proofs.Prelude.{ℕ, ◌<◌, arith, length, subst, sym, slice_index, IfOk-weaker, AreGroups}
use Rattle.nef_sched.proofs.stage.plan_of.Goals as goal

pub grouped-requires : goal.grouped-requires
grouped-requires g c =
    let a = c.in_ok-rounds.ensures.rounds in
    record { low = subst (λ z. (k : ℕ) → k < length z → slice_index z k < length z) (sym c.deref.ensures.value) (λ k inside. let len = a.len in let low = a.low k (omega (arith, len)) in omega (arith, low)) }

pub returns : goal.returns
returns g c =
    let a = c.in_ok-rounds.ensures.rounds in
    let list = c.in_ok-rounds.rounds.items in
    record {
      plan = IfOk-weaker c.grouped.result _ _ (λ v e. record {
        round_of = list;
        rounds = a;
        each = subst (λ (n : ℕ). AreGroups n list v.items) a.len (subst (λ z. AreGroups (length z) z v.items) c.deref.ensures.value e);
      }) c.grouped.ensures.groups;
    }

use Rattle.nef_sched.proofs.Prelude.{◌≡◌, ◌+◌, ◌^◌, ◌≤◌, [], false, All, vec_len, vec_capacity, view, IsPassOf, total_parts, IsFresh}
use Rattle.nef_sched.proofs.round.passes_of.Given as goal

abbrev pub invariant-loop : goal.invariant-loop
invariant-loop l = record {
  of : IsPassOf l.queue l.pass;
  parts : (view l.pass).parts + l.counter ≡ 2 ^ 32 + 1;
  due : (view l.pass).due + l.counter ≡ l.passes + 1;
  none : ((view l.pass).taken ≡ []) × ((view l.pass).ended ≡ false);
  knows : (view l.pass).known ≡ (view l.initial.pass).known;
  every : total_parts l.list.items + (view l.pass).parts ≡ 2 ^ 32;
  len : vec_len l.list + 1 ≡ l.counter;
  each : All (λ p. IsPassOf l.queue p.pass) l.list.items;
  fresh : All (IsFresh (view l.initial.pass).known) l.list.items;
  space : l.passes ≤ vec_capacity l.list;
}

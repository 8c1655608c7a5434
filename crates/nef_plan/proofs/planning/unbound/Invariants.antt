use Rattle.nef_plan.proofs.Prelude.{◌≡◌, ℕ, Some, vec_len, slice_get, Bound, No}
use Rattle.nef_plan.proofs.planning.unbound.Given as goal

abbrev pub invariant-loop : goal.invariant-loop
invariant-loop l = record {
  count : vec_len l.bounds ≡ l.counter;
  none : (k : ℕ) (b : Bound) → slice_get l.bounds.items k ≡ Some b → b ≡ No;
}

use Rattle.nef_sched.proofs.Prelude.{◌≡◌, ◌+◌, ◌^◌, ◌≤◌, ◌||◌, ℕ, All, length, vec_capacity, IsPassOf, times, parts, known, taken, ended, any_ended, total_parts, times_taken, numbers_of}
use Rattle.nef_sched.proofs.pass.Round.close.Given as goal

abbrev pub invariant-loop-other : goal.invariant-loop-other
invariant-loop-other g l = record {
  of : IsPassOf l.queue l.whole.pass;
  each : All (λ p. IsPassOf l.queue p.pass) l.passes.items;
  parts : total_parts l.passes.items + parts l.whole ≡ 2 ^ 32;
  knows : known l.whole ≡ numbers_of l.fn.passes.items;
  room : length (known l.whole) ≤ vec_capacity l.left;
  took : (x : ℕ) → times x (taken l.whole) + times_taken x l.passes.items ≡ times_taken x l.fn.passes.items;
  ended : any_ended l.fn.passes.items ≡ (ended l.whole || any_ended l.passes.items);
}

abbrev pub decreases-loop-other : goal.decreases-loop-other
decreases-loop-other g l = goal.left-loop-other g l

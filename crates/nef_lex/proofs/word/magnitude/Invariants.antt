use Rattle.nef_lex.proofs.Prelude.{◌≡◌, ◌≤◌, take, decimal_value}
use Rattle.nef_space.specs.Limits.{number_limit}
use Rattle.nef_lex.proofs.word.magnitude.Given as goal

abbrev pub invariant-loop-b : goal.invariant-loop-b
invariant-loop-b l = (l.value ≡ decimal_value (take l.b-index l.digits)) × (l.value ≤ number_limit)

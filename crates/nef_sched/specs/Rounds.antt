-- What clauses say of a round and of its passes.
use Rattle.std.specs.Prelude.{◌≡◌, ℕ, Bool, false, ◌+◌, ◌≤◌, ◌||◌, List, [], ◌∷◌, length, vec_capacity, slice_get, Some}
use Rattle.crossbeam_queue.specs.Passes.{view, IsPassOf}
use Rattle.nef_sched.specs.declared.pass.Round.{Round}
use Rattle.nef_sched.specs.declared.pass.RoundPass.{RoundPass}
use Rattle.nef_sched.specs.Counts.{times}

-- the parts of a pass, the numbers that it knows, and those that it took
abbrev pub parts : RoundPass → ℕ
parts p = (view p.pass).parts

abbrev pub known : RoundPass → List ℕ
known p = (view p.pass).known

abbrev pub taken : RoundPass → List ℕ
taken p = p.taken.items

-- the pass found the end of the round
abbrev pub ended : RoundPass → Bool
ended p = (view p.pass).ended

-- the pass is one of this round, which has room for its numbers
abbrev pub IsPassInRound : Round → RoundPass → Type 0
IsPassInRound round p = IsPassOf round.queue p.pass × (length (known p) ≤ vec_capacity round.left)

-- the pass knows these numbers, took none, and hasn't ended
abbrev pub IsFresh : List ℕ → RoundPass → Type 0
IsFresh numbers p = (known p ≡ numbers) × (taken p ≡ []) × (ended p ≡ false)

abbrev pub total_parts : List RoundPass → ℕ
total_parts [] = 0
total_parts (p ∷ ps) = parts p + total_parts ps

-- how often the passes together took x
abbrev pub times_taken : ℕ → List RoundPass → ℕ
times_taken x [] = 0
times_taken x (p ∷ ps) = times x (taken p) + times_taken x ps

-- some pass has ended
abbrev pub any_ended : List RoundPass → Bool
any_ended [] = false
any_ended (p ∷ ps) = ended p || any_ended ps

-- the numbers of the round, which every pass of its list knows: those of the last pass
abbrev pub numbers_of : List RoundPass → List ℕ
numbers_of [] = []
numbers_of (p ∷ []) = known p
numbers_of (p ∷ q ∷ ps) = numbers_of (q ∷ ps)

abbrev pub TookAll : RoundPass → Type 0
TookAll p = (x : ℕ) → times x (taken p) ≡ times x (known p)

-- any two passes of the list know the same numbers
abbrev pub AreAgreed : List RoundPass → Type 0
AreAgreed ps = (i j : ℕ) (p q : RoundPass) → slice_get ps i ≡ Some p → slice_get ps j ≡ Some q → known p ≡ known q

-- what threads hand back: each its pass, with something beside it
abbrev pub total_worked : {Y : Type 0} → List (RoundPass × Y) → ℕ
total_worked [] = 0
total_worked (w ∷ ws) = parts w.0 + total_worked ws

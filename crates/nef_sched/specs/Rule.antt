-- What holds between any two steps of a round's queue.
use Rattle.std.specs.Prelude.{◌≡◌, ℕ, true, false, ◌+◌, ◌^◌, ◌<◌, List, [], length, Option, Some, None}
use mathlib.Core.Option.{some}
use lib.ListN.{get_elem?}
use Rattle.nef_sched.specs.declared.pass.View.{View}
use Rattle.nef_sched.specs.Counts.{weigh, times, Differ}
use Rattle.nef_sched.specs.Line.{numbers_in, ends_in, EndsLast}
use Rattle.nef_sched.specs.Views.{took, at_end, total}

-- a pass with a part knows the numbers that were put, and one without has nothing. Where a pass has ended, no number is left
pub record FitsRound (numbers left : List ℕ) (v : View) : Type 0 where
  pub knows : 0 < v.parts → v.known ≡ numbers
  pub none : v.parts ≡ 0 → (v.known ≡ []) × (v.taken ≡ []) × (v.due ≡ 0) × (v.ended ≡ false)
  pub ended : v.ended ≡ true → left ≡ []

-- the numbers that were put differ, and are what all passes took and what the queue holds, however they are weighed.
-- Behind them the queue holds as many ends as the passes may still take
pub record ShowsNumbers (numbers : List ℕ) (items : List (Option ℕ)) (views : List View) : Type 0 where
  pub parts : total (λ v. v.parts) views ≡ 2 ^ 32
  pub differ : Differ numbers
  pub each : (h : ℕ → ℕ) → weigh h numbers ≡ total (λ v. weigh h v.taken) views + weigh h (numbers_in items)
  pub last : EndsLast items
  pub due : total (λ v. v.due) views ≡ ends_in items
  pub fits : (place : ℕ) (v : View) → get_elem? views place ≡ some v → FitsRound numbers (numbers_in items) v

abbrev pub Kept : List (Option ℕ) → List View → Type 0
Kept items views = (numbers : List ℕ) × ShowsNumbers numbers items views

-- at some moment the queue held these items, while a pass had this view
abbrev pub SawItems : View → List (Option ℕ) → Type 0
SawItems v items = (views : List View) × (place : ℕ) × (get_elem? views place ≡ some v) × Kept items views

-- x is one of the numbers, and this pass hadn't taken it, nor ended
abbrev pub IsNewNumber : View → ℕ → Type 0
IsNewNumber v x = (times x v.known ≡ 1) × (times x v.taken ≡ 0) × (length v.taken < length v.known) × (v.ended ≡ false)

abbrev pub TookEach : View → Type 0
TookEach v = (x : ℕ) → times x v.taken ≡ times x v.known

-- what is told to a pass that took something: a number, or an end. With every part it took all numbers before the end
abbrev pub Took : View → Option ℕ → View → Type 0
Took v (Some x) w = (w ≡ took v x) × IsNewNumber v x
Took v None w = (w ≡ at_end v) × (0 < v.due) × (v.parts ≡ 2 ^ 32 → TookEach v)

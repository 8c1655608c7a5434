-- What a pass of a board knows, after each kind of step, and when it fits the machine.
use Rattle.std.specs.Prelude.{◌≡◌, ◌≢◌, ℕ, true, false, ◌+◌, ◌-◌, ◌<◌, ◌≤◌, [], ◌∷◌, ◌++◌, Some, None, slice_get, IfSome}
use Rattle.nef_core.specs.Machine.{State as Machine}
use Rattle.nef_core.specs.Results.{AllDone}
use Rattle.nef_core.specs.declared.machine.Slot.TheVariants.{InHand}
use Rattle.nef_core.specs.declared.board.View.{View}

abbrev pub first_view : ℕ → ℕ → View
first_view jobs seats = record { live = true; number = 0; jobs = jobs; made = 1; spare = seats - 1; hand = None; ended = false; deposits = [] }

-- a pass that makes another one, and the one that is made
abbrev pub cut : View → View
cut v = record { live = v.live; number = v.number; jobs = v.jobs; made = v.made + 1; spare = v.spare - 1; hand = v.hand; ended = v.ended; deposits = v.deposits }

abbrev pub new_view : View → View
new_view v = record { live = true; number = v.made; jobs = v.jobs; made = 0; spare = 0; hand = None; ended = false; deposits = [] }

-- a pass that takes another in, and what is left of that
abbrev pub taken_in : View → View → View
taken_in v w = record { live = v.live; number = v.number; jobs = v.jobs; made = v.made; spare = v.spare; hand = v.hand; ended = v.ended; deposits = v.deposits ++ w.deposits }

abbrev pub spent : View
spent = record { live = false; number = 0; jobs = 0; made = 0; spare = 0; hand = None; ended = false; deposits = [] }

-- a pass that got a job, and one that got none
abbrev pub holding : View → ℕ → View
holding v job = record { live = v.live; number = v.number; jobs = v.jobs; made = v.made; spare = v.spare; hand = Some job; ended = v.ended; deposits = v.deposits }

abbrev pub at_end : View → View
at_end v = record { live = v.live; number = v.number; jobs = v.jobs; made = v.made; spare = v.spare; hand = v.hand; ended = true; deposits = v.deposits }

-- a pass that deposited the job in its hand, and one that gave it back
abbrev pub deposited : View → ℕ → View
deposited v job = record { live = v.live; number = v.number; jobs = v.jobs; made = v.made; spare = v.spare; hand = None; ended = v.ended; deposits = v.deposits ++ (job, v.number) ∷ [] }

abbrev pub gave_back : View → View
gave_back v = record { live = v.live; number = v.number; jobs = v.jobs; made = v.made; spare = v.spare; hand = None; ended = v.ended; deposits = v.deposits }

-- what a pass knows fits the machine, where there are so many passes. Its number counts those before it
pub record Fits (jobs seats : ℕ) (m : Machine) (count place : ℕ) (v : View) : Type 0 where
  pub number : v.number ≡ place
  pub jobs_are : v.jobs ≡ jobs
  pub hand : IfSome v.hand (λ job. slice_get m.slots job ≡ Some (InHand place))
  pub deposits : AllDone m.slots v.deposits
  pub ended : v.ended ≡ true → m.next ≡ jobs
  pub only_first : place ≢ 0 → v.spare ≡ 0
  pub room : 0 < v.spare → (v.made ≡ count) × (v.made + v.spare ≤ seats)

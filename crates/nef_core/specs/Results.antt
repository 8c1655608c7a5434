-- The results of a board, beside its machine.
use Rattle.std.specs.Prelude.{◌≡◌, ℕ, List, [], ◌∷◌, Option, Some, None, slice_get}
use Rattle.nef_core.specs.Machine.{start, replay, IsLegal}
use Rattle.nef_core.specs.declared.machine.Slot.{Slot}
use Rattle.nef_core.specs.declared.machine.Slot.TheVariants.{Open, InHand, Done}
use Rattle.nef_core.specs.declared.machine.Event.{Event}

-- there is a result exactly where the job is done
abbrev pub HasResult : {Out : Type 0} → Slot → Option Out → Type 0
HasResult Open r = r ≡ None
HasResult (InHand w) r = r ≡ None
HasResult (Done w) r = (out : _) × (r ≡ Some out)

abbrev pub ResultsFit : {Out : Type 0} → List Slot → List (Option Out) → Type 0
ResultsFit slots results = (job : ℕ) (x : Slot) → slice_get slots job ≡ Some x → (r : Option _) × (slice_get results job ≡ Some r) × HasResult x r

-- each deposit, a job and the number of a pass, is done by that pass
abbrev pub AllDone : List Slot → List (ℕ × ℕ) → Type 0
AllDone slots [] = Unit {0}
AllDone slots (d ∷ ds) = (slice_get slots d.0 ≡ Some (Done d.1)) × AllDone slots ds

-- a legal list of events has all these deposits, and leaves just the jobs done that have a result
abbrev pub IsClosedWith : {Out : Type 0} → ℕ → List (ℕ × ℕ) → List (Option Out) → Type 0
IsClosedWith jobs deposits results =
    (events : List Event) × IsLegal (start jobs) events × AllDone (replay (start jobs) events).slots deposits × ResultsFit (replay (start jobs) events).slots results

-- When the state under the lock is sound.
use Rattle.std.specs.Prelude.{◌≡◌, ℕ, zero, suc, ◌+◌, ◌*◌, ◌≤◌, List, [], ◌∷◌, length, Option, vec_capacity}
use Rattle.nef_core.specs.Machine.{State as Machine, start, replay, IsLegal}
use Rattle.nef_core.specs.declared.machine.Slot.{Slot}
use Rattle.nef_core.specs.declared.machine.Slot.TheVariants.{Open, InHand, Done}
use Rattle.nef_core.specs.declared.machine.Event.{Event}
use Rattle.nef_core.specs.Results.{ResultsFit}
use Rattle.nef_board.specs.declared.state.BoardState.{BoardState}

-- how many events may still come for a slot that was drawn
abbrev pub events_left : Slot → ℕ
events_left Open = 0
events_left (InHand w) = 1
events_left (Done w) = 0

-- how many events may still come where the first `drawn` numbers were handed out
abbrev pub owed : ℕ → List Slot → ℕ
owed drawn [] = 0
owed zero (x ∷ xs) = 2 + owed zero xs
owed (suc drawn) (x ∷ xs) = events_left x + owed drawn xs

-- the machine is the replay of a legal history, the results fit it, and the history has room for all events to come
pub record Sound {Out : Type 0} (m : Machine) (history : List Event) (results : List (Option Out)) (capacity : ℕ) : Type 0 where
  pub replayed : m ≡ replay (start (length m.slots)) history
  pub legal : IsLegal (start (length m.slots)) history
  pub count : length results ≡ length m.slots
  pub fits : ResultsFit m.slots results
  pub events : length history + owed m.next m.slots ≡ 2 * length m.slots
  pub room : 2 * length m.slots ≤ capacity
  pub low : m.next ≤ length m.slots

abbrev pub IsSound : {Out : Type 0} → BoardState Out → Type 0
IsSound b = Sound b.machine b.history.items b.results.items (vec_capacity b.history)

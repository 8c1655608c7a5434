-- The views of passes: what every pass knows, and what is seen under the turn.
use Rattle.std.specs.Prelude.{ℕ, Option, Some, None}
use Rattle.nef_core.specs.declared.board.View.{View}
use Rattle.nef_core.specs.Passes as passes
use Rattle.nef_board.specs.declared.state.BoardState.{BoardState}
use Rattle.nef_board.specs.declared.board.LockView.{LockView}

abbrev pub job_in : Option ℕ → ℕ
job_in None = 0
job_in (Some job) = job

module _ {Out : Type 0} where
  -- the view of a pass that hasn't the turn
  abbrev pub without_turn : View → LockView Out
  without_turn known = record { known = known; saw = None }

  abbrev pub first_view : ℕ → ℕ → LockView Out
  first_view jobs seats = without_turn (passes.first_view jobs seats)

  abbrev pub cut : LockView Out → LockView Out
  cut v = record { known = passes.cut v.known; saw = v.saw }

  abbrev pub new_view : LockView Out → LockView Out
  new_view v = without_turn (passes.new_view v.known)

  abbrev pub taken_in : LockView Out → LockView Out → LockView Out
  taken_in v w = record { known = passes.taken_in v.known w.known; saw = v.saw }

  abbrev pub spent : LockView Out
  spent = without_turn passes.spent

  -- the view of a pass that took the turn, with the state that it found
  abbrev pub seeing : LockView Out → BoardState Out → LockView Out
  seeing v b = record { known = v.known; saw = Some b }

  abbrev pub seen_next : Option (BoardState Out) → ℕ
  seen_next None = 0
  seen_next (Some b) = b.machine.next

  -- the view of a pass that freed the turn, after each kind of event
  abbrev pub claimed_view : LockView Out → LockView Out
  claimed_view v = without_turn (passes.holding v.known (seen_next v.saw))

  abbrev pub ended_view : LockView Out → LockView Out
  ended_view v = without_turn (passes.at_end v.known)

  abbrev pub deposited_view : LockView Out → LockView Out
  deposited_view v = without_turn (passes.deposited v.known (job_in v.known.hand))

  abbrev pub back_view : LockView Out → LockView Out
  back_view v = without_turn (passes.gave_back v.known)

-- What holds between any two steps of the board, and what each kind of step tells.
use Rattle.std.specs.Prelude.{◌≡◌, ◌≢◌, ℕ, true, ◌<◌, ◌≤◌, [], ◌∷◌, length, Option, Some, None, slice_get, slice_index, MatchBool, IfSome, ◌==◌}
use mathlib.Core.Option.{none, some}
use lib.ListN.{get_elem?}
use Rattle.atomic_table.specs.Table.{State, Me, Step}
use Rattle.nef_core.specs.declared.machine.Slot.TheVariants.{InHand}
use Rattle.nef_core.specs.Results.{AllDone}
use Rattle.nef_board.specs.declared.state.BoardState.{BoardState}
use Rattle.nef_core.specs.declared.board.View.{View}
use Rattle.nef_core.specs.Passes.{Fits}
use Rattle.nef_board.specs.declared.board.LockView.{LockView}
use Rattle.nef_board.specs.Sound.{IsSound}
use Rattle.nef_board.specs.Views.{seeing, claimed_view, ended_view, deposited_view, back_view}

-- the turn is free, or one of the passes has it
abbrev pub IsTurnHeld : Option ℕ → ℕ → Type 0
IsTurnHeld None count = Unit {0}
IsTurnHeld (Some k) count = k < count

module _ {Out : Type 0} where
  -- the board's state is at home where the turn is free, or out with the pass that has the turn
  abbrev pub IsStateAt : Option ℕ → BoardState Out → State (BoardState Out) (LockView Out) → Type 0
  IsStateAt None b s = (slice_index s.words 0 ≡ 0) × (get_elem? s.homes 0 ≡ some (some b))
  IsStateAt (Some k) b s = (slice_index s.words 0 ≡ 1) × (get_elem? s.homes 0 ≡ some none)

  -- the pass that has the turn knows the state that it found, and no other pass knows a state
  abbrev pub SawIs : Option ℕ → BoardState Out → ℕ → LockView Out → Type 0
  SawIs None b place v = v.saw ≡ None
  SawIs (Some k) b place v = (place ≡ k → v.saw ≡ Some b) × (place ≢ k → v.saw ≡ None)

  pub record ShowsMachine (right : ℕ → Out → Type 0) (jobs seats : ℕ) (turn : Option ℕ) (b : BoardState Out) (s : State (BoardState Out) (LockView Out)) : Type 0 where
    pub words : length s.words ≡ 1
    pub homes : length s.homes ≡ 1
    pub placed : IsStateAt turn b s
    pub sound : IsSound b
    pub jobs_are : length b.machine.slots ≡ jobs
    pub fit : (job : ℕ) (out : Out) → slice_get b.results.items job ≡ Some (Some out) → right job out
    pub held : (job w : ℕ) → slice_get b.machine.slots job ≡ Some (InHand w) → (v : LockView Out) × (get_elem? s.views w ≡ some v) × (v.known.live ≡ true) × (v.known.hand ≡ Some job)
    pub views : (place : ℕ) (v : LockView Out) → get_elem? s.views place ≡ some v → v.known.live ≡ true → Fits jobs seats b.machine (length s.views) place v.known × SawIs turn b place v
    pub there : IsTurnHeld turn (length s.views)
    pub few : length s.views ≤ seats

  abbrev pub Kept : ℕ → ℕ → (ℕ → Out → Type 0) → State (BoardState Out) (LockView Out) → Type 0
  Kept jobs seats right s = (turn : Option ℕ) × (b : BoardState Out) × ShowsMachine right jobs seats turn b s

  -- what is told to a pass that took the turn
  pub record FoundState (v : View) (b : BoardState Out) : Type 0 where
    pub sound : IsSound b
    pub jobs_are : length b.machine.slots ≡ v.jobs
    pub hand : IfSome v.hand (λ job. slice_get b.machine.slots job ≡ Some (InHand v.number))
    pub deposits : AllDone b.machine.slots v.deposits

  -- a pass of view v took the turn, and carries the slot with the state
  abbrev pub HasTurn : LockView Out → Me (BoardState Out) (LockView Out) → Type 0
  HasTurn v w = (b : BoardState Out) × (w.0 ≡ seeing v b) × (w.1 ≡ (0, b) ∷ []) × FoundState v.known b

  abbrev pub TookTurn : Step (BoardState Out) → Me (BoardState Out) (LockView Out) → ℕ → Me (BoardState Out) (LockView Out) → Type 0
  TookTurn st v found w = MatchBool (found == 0) (HasTurn v.0 w) ((w.0 ≡ v.0) × (w.1 ≡ v.1))

  abbrev pub Claimed : Step (BoardState Out) → Me (BoardState Out) (LockView Out) → ℕ → Me (BoardState Out) (LockView Out) → Type 0
  Claimed st v found w = (w.0 ≡ claimed_view v.0) × (w.1 ≡ [])

  abbrev pub SawEnd : Step (BoardState Out) → Me (BoardState Out) (LockView Out) → ℕ → Me (BoardState Out) (LockView Out) → Type 0
  SawEnd st v found w = (w.0 ≡ ended_view v.0) × (w.1 ≡ [])

  abbrev pub Deposited : Step (BoardState Out) → Me (BoardState Out) (LockView Out) → ℕ → Me (BoardState Out) (LockView Out) → Type 0
  Deposited st v found w = (w.0 ≡ deposited_view v.0) × (w.1 ≡ [])

  abbrev pub GaveBack : Step (BoardState Out) → Me (BoardState Out) (LockView Out) → ℕ → Me (BoardState Out) (LockView Out) → Type 0
  GaveBack st v found w = (w.0 ≡ back_view v.0) × (w.1 ≡ [])

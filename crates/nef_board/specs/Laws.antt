-- What each kind of step does to the machine that the board shows, and what the board's history has of each pass.
use Rattle.std.specs.Prelude.{◌≡◌, ◌≢◌, ℕ, true, ◌<◌, ◌≤◌, [], ◌∷◌, ◌++◌, length, Option, Some, None, slice_get, slice_set, slice_index}
use mathlib.Core.Option.{none, some}
use lib.ListN.{get_elem?}
use Rattle.atomic_table.specs.Table.{State, stepped, keeps, takes, gives}
use Rattle.nef_core.specs.Machine.{start, after, reply, IsLegalStep, replay, IsLegal}
use Rattle.nef_core.specs.Accounts.{IsAccounted}
use Rattle.nef_core.specs.Results.{ResultsFit}
use Rattle.nef_core.specs.declared.machine.Event.TheVariants.{Claim, Deposit, GiveBack}
use Rattle.nef_core.specs.declared.board.Claim.TheVariants.{Got, NoneLeft}
use Rattle.nef_board.specs.declared.state.BoardState.{BoardState}
use Rattle.nef_board.specs.declared.board.LockView.{LockView}
use Rattle.nef_board.specs.Sound.{IsSound}
use Rattle.nef_board.specs.Rule.{ShowsMachine, Kept}
use Rattle.nef_board.specs.Views.{seeing, claimed_view, ended_view, deposited_view, back_view, cut, new_view, taken_in, spent}

-- seat k has the view v, of a pass that wasn't taken in
abbrev pub IsSeat : {Out : Type 0} → State (BoardState Out) (LockView Out) → ℕ → LockView Out → Type 0
IsSeat s k v = (get_elem? s.views k ≡ some v) × (v.known.live ≡ true)

module _ {Out : Type 0} (right : ℕ → Out → Type 0) where
  -- a seat is split: the board's state stays
  abbrev pub SplitIsNothing : Type 0
  SplitIsNothing = (jobs seats : ℕ) (turn : Option ℕ) (b : BoardState Out) (s : State (BoardState Out) (LockView Out)) (k : ℕ) (v : LockView Out) → ShowsMachine right jobs seats turn b s → IsSeat s k v → 0 < v.known.spare
      → ShowsMachine right jobs seats turn b (record { words = s.words; homes = s.homes; views = slice_set s.views k (cut v) ++ new_view v ∷ [] })

  -- a seat takes another seat in: the board's state stays
  abbrev pub JoinIsNothing : Type 0
  JoinIsNothing = (jobs seats : ℕ) (turn : Option ℕ) (b : BoardState Out) (s : State (BoardState Out) (LockView Out)) (k : ℕ) (v : LockView Out) (other : ℕ) (w : LockView Out) → ShowsMachine right jobs seats turn b s → IsSeat s k v → IsSeat s other w → other ≢ k → w.known.hand ≡ None
      → ShowsMachine right jobs seats turn b (record { words = s.words; homes = s.homes; views = slice_set (slice_set s.views k (taken_in v w)) other spent })

  -- the turn is free and is taken; another pass has the turn: the board's state stays
  abbrev pub TakingIsNothing : Type 0
  TakingIsNothing = (jobs seats : ℕ) (b : BoardState Out) (s : State (BoardState Out) (LockView Out)) (k : ℕ) (v : LockView Out) → ShowsMachine right jobs seats None b s → IsSeat s k v
      → (slice_index s.words 0 ≡ 0) × ShowsMachine right jobs seats (Some k) b (stepped s 0 1 k [] (seeing v b) (takes 0 b))

  abbrev pub FailingIsNothing : Type 0
  FailingIsNothing = (jobs seats other : ℕ) (b : BoardState Out) (s : State (BoardState Out) (LockView Out)) (k : ℕ) (v : LockView Out) → ShowsMachine right jobs seats (Some other) b s → IsSeat s k v
      → (slice_index s.words 0 ≡ 1) × ShowsMachine right jobs seats (Some other) b (stepped s 0 1 k [] v keeps)

  -- while a pass has the turn the slot isn't home, so a change of the state in the slot changes no word, home or view
  abbrev pub TurnIsAway : Type 0
  TurnIsAway = (jobs seats k : ℕ) (b : BoardState Out) (s : State (BoardState Out) (LockView Out)) → ShowsMachine right jobs seats (Some k) b s → get_elem? s.homes 0 ≡ some none

  -- the turn is freed after a claim that got a job
  abbrev pub FreeingIsClaim : Type 0
  FreeingIsClaim = (jobs seats : ℕ) (turn : Option ℕ) (b b' : BoardState Out) (s : State (BoardState Out) (LockView Out)) (k : ℕ) (v : LockView Out) → ShowsMachine right jobs seats turn b s → IsSeat s k (seeing v b) → v.known.hand ≡ None
      → IsSound b' → b'.machine ≡ after b.machine (Claim k) → b'.results.items ≡ b.results.items → b.machine.next < length b.machine.slots
      → IsLegalStep b.machine (Claim k) × (reply b.machine (Claim k) ≡ Got b.machine.next)
      × ShowsMachine right jobs seats None b' (stepped s 0 0 k ((0, b') ∷ []) (claimed_view (seeing v b)) gives)

  -- the turn is freed after a claim that got no job: every number was handed out, and the machine stays
  abbrev pub FreeingIsNone : Type 0
  FreeingIsNone = (jobs seats : ℕ) (turn : Option ℕ) (b b' : BoardState Out) (s : State (BoardState Out) (LockView Out)) (k : ℕ) (v : LockView Out) → ShowsMachine right jobs seats turn b s → IsSeat s k (seeing v b)
      → IsSound b' → b'.machine ≡ after b.machine (Claim k) → b'.results.items ≡ b.results.items → length b.machine.slots ≤ b.machine.next
      → (b.machine.next ≡ jobs) × (reply b.machine (Claim k) ≡ NoneLeft) × (b'.machine ≡ b.machine)
      × ShowsMachine right jobs seats None b' (stepped s 0 0 k ((0, b') ∷ []) (ended_view (seeing v b)) gives)

  -- the turn is freed after a deposit
  abbrev pub FreeingIsDeposit : Type 0
  FreeingIsDeposit = (jobs seats : ℕ) (turn : Option ℕ) (b b' : BoardState Out) (s : State (BoardState Out) (LockView Out)) (k : ℕ) (v : LockView Out) (job : ℕ) (out : Out) → ShowsMachine right jobs seats turn b s → IsSeat s k (seeing v b) → v.known.hand ≡ Some job → right job out
      → IsSound b' → b'.machine ≡ after b.machine (Deposit k job) → b'.results.items ≡ slice_set b.results.items job (Some out)
      → IsLegalStep b.machine (Deposit k job)
      × ShowsMachine right jobs seats None b' (stepped s 0 0 k ((0, b') ∷ []) (deposited_view (seeing v b)) gives)

  -- the turn is freed after a giving back
  abbrev pub FreeingIsGiveBack : Type 0
  FreeingIsGiveBack = (jobs seats : ℕ) (turn : Option ℕ) (b b' : BoardState Out) (s : State (BoardState Out) (LockView Out)) (k : ℕ) (v : LockView Out) (job : ℕ) → ShowsMachine right jobs seats turn b s → IsSeat s k (seeing v b) → v.known.hand ≡ Some job
      → IsSound b' → b'.machine ≡ after b.machine (GiveBack k job) → b'.results.items ≡ b.results.items
      → IsLegalStep b.machine (GiveBack k job)
      × ShowsMachine right jobs seats None b' (stepped s 0 0 k ((0, b') ∷ []) (back_view (seeing v b)) gives)

  -- whenever the state is home, its machine is the replay of its legal history, each job that is done has a right
  -- result, and the history has of each pass what the pass's view says
  abbrev pub BoardRuns : Type 0
  BoardRuns = (jobs seats : ℕ) (s : State (BoardState Out) (LockView Out)) (b : BoardState Out) → Kept jobs seats right s → get_elem? s.homes 0 ≡ some (some b)
      → (b.machine ≡ replay (start jobs) b.history.items) × IsLegal (start jobs) b.history.items × ResultsFit b.machine.slots b.results.items
      × ((job : ℕ) (out : Out) → slice_get b.results.items job ≡ Some (Some out) → right job out)
      × ((w : ℕ) (v : LockView Out) → IsSeat s w v → IsAccounted jobs b.history.items w v.known.hand v.known.ended v.known.deposits)

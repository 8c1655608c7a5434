-- What each kind of step does to the machine that words, homes and views show, and what the history has of each pass.
use Rattle.std.specs.Prelude.{◌≡◌, ◌≢◌, ℕ, true, false, ◌+◌, ◌<◌, ◌≤◌, List, [], ◌∷◌, ◌++◌, Option, Some, None, slice_get, slice_set, slice_index}
use mathlib.Core.Option.{none, some}
use lib.ListN.{get_elem?}
use Rattle.atomic_table.specs.Table.{State, stepped, keeps, takes, gives}
use Rattle.nef_core.specs.Machine.{State as Machine, start, after, reply, IsLegalStep, replay, IsLegal}
use Rattle.nef_core.specs.Accounts.{IsAccounted}
use Rattle.nef_core.specs.declared.machine.Slot.TheVariants.{InHand}
use Rattle.nef_core.specs.declared.machine.Event.{Event}
use Rattle.nef_core.specs.declared.machine.Event.TheVariants.{Claim, Deposit, GiveBack}
use Rattle.nef_core.specs.declared.board.Claim.TheVariants.{Got, NoneLeft}
use Rattle.nef_core.specs.declared.board.View.{View}
use Rattle.nef_free.specs.Rule.{ShowsMachine, Kept}
use Rattle.nef_core.specs.Passes.{holding, at_end, deposited, gave_back, cut, new_view, taken_in, spent}

-- seat k has the view v, of a pass that wasn't taken in
abbrev pub IsSeat : {S : Type 0} → State S View → ℕ → View → Type 0
IsSeat s k v = (get_elem? s.views k ≡ some v) × (v.live ≡ true)

module _ {Out : Type 0} (right : ℕ → Out → Type 0) where
  -- the first word is added to, and the number found is that of a job: this is the claim of the job
  abbrev pub DrawIsClaim : Type 0
  DrawIsClaim = (jobs seats : ℕ) (m : Machine) (s : State (Option Out) View) (k : ℕ) (v : View) → ShowsMachine right jobs seats m s → IsSeat s k v → v.hand ≡ None → v.ended ≡ false → slice_index s.words 0 < jobs
      → IsLegalStep m (Claim k) × (reply m (Claim k) ≡ Got (slice_index s.words 0))
      × ShowsMachine right jobs seats (after m (Claim k)) (stepped s 0 (slice_index s.words 0 + 1) k [] (holding v (slice_index s.words 0)) (takes (slice_index s.words 0) None))

  -- the number found is past the last job: every number was handed out, and the machine stays
  abbrev pub DrawPastIsNone : Type 0
  DrawPastIsNone = (jobs seats : ℕ) (m : Machine) (s : State (Option Out) View) (k : ℕ) (v : View) → ShowsMachine right jobs seats m s → IsSeat s k v → v.hand ≡ None → v.ended ≡ false → jobs ≤ slice_index s.words 0
      → (m.next ≡ jobs) × (reply m (Claim k) ≡ NoneLeft) × (after m (Claim k) ≡ m)
      × ShowsMachine right jobs seats m (stepped s 0 (slice_index s.words 0 + 1) k [] (at_end v) keeps)

  -- 1 is stored in the word of the job in hand: this is the deposit of the result in the job's slot
  abbrev pub StoreIsDeposit : Type 0
  StoreIsDeposit = (jobs seats : ℕ) (m : Machine) (s : State (Option Out) View) (k : ℕ) (v : View) (job : ℕ) (out : Out) → ShowsMachine right jobs seats m s → IsSeat s k v → v.hand ≡ Some job → right job out
      → IsLegalStep m (Deposit k job)
      × ShowsMachine right jobs seats (after m (Deposit k job)) (stepped s (job + 1) 1 k ((job, Some out) ∷ []) (deposited v job) gives)

  -- 2 is stored in the word of the job in hand: this is the giving back of the job
  abbrev pub StoreIsGiveBack : Type 0
  StoreIsGiveBack = (jobs seats : ℕ) (m : Machine) (s : State (Option Out) View) (k : ℕ) (v : View) (job : ℕ) → ShowsMachine right jobs seats m s → IsSeat s k v → v.hand ≡ Some job
      → IsLegalStep m (GiveBack k job)
      × ShowsMachine right jobs seats (after m (GiveBack k job)) (stepped s (job + 1) 2 k ((job, None) ∷ []) (gave_back v) gives)

  -- a seat is split: the machine stays
  abbrev pub SplitIsNothing : Type 0
  SplitIsNothing = (jobs seats : ℕ) (m : Machine) (s : State (Option Out) View) (k : ℕ) (v : View) → ShowsMachine right jobs seats m s → IsSeat s k v → 0 < v.spare
      → ShowsMachine right jobs seats m (record { words = s.words; homes = s.homes; views = slice_set s.views k (cut v) ++ new_view v ∷ [] })

  -- a seat takes another seat in: the machine stays
  abbrev pub JoinIsNothing : Type 0
  JoinIsNothing = (jobs seats : ℕ) (m : Machine) (s : State (Option Out) View) (k : ℕ) (v : View) (other : ℕ) (w : View) → ShowsMachine right jobs seats m s → IsSeat s k v → IsSeat s other w → other ≢ k → w.hand ≡ None
      → ShowsMachine right jobs seats m (record { words = s.words; homes = s.homes; views = slice_set (slice_set s.views k (taken_in v w)) other spent })

  -- while a job is in hand its slot isn't home: an exchange in the slot changes no word, home or view, and no held job
  abbrev pub HeldIsAway : Type 0
  HeldIsAway = (jobs seats : ℕ) (m : Machine) (s : State (Option Out) View) (k : ℕ) (v : View) (job : ℕ) → ShowsMachine right jobs seats m s → IsSeat s k v → v.hand ≡ Some job
      → (get_elem? s.homes job ≡ some none) × (slice_get m.slots job ≡ Some (InHand k))

  -- between any two steps the board shows the replay of a legal history, which has of each pass what its view says
  abbrev pub BoardRuns : Type 0
  BoardRuns = (jobs seats : ℕ) (s : State (Option Out) View) → Kept jobs seats right s
      → (events : List Event) × IsLegal (start jobs) events × ShowsMachine right jobs seats (replay (start jobs) events) s
      × ((w : ℕ) (v : View) → IsSeat s w v → IsAccounted jobs events w v.hand v.ended v.deposits)

-- What holds between any two steps of the board, and what each kind of step tells.
use Rattle.std.specs.Prelude.{◌≡◌, ℕ, true, false, ◌+◌, ◌-◌, ◌^◌, ◌<◌, ◌≤◌, List, [], ◌∷◌, length, Option, Some, None, nat_lt, slice_get, slice_index, min, MatchBool, ◌⊎◌, cond, not, ◌&&◌, Bool}
use mathlib.Core.Option.{none, some}
use lib.ListN.{get_elem?}
use Rattle.atomic_table.specs.Table.{State, Me, Step}
use Rattle.nef_core.specs.Machine.{State as Machine, start, replay, IsLegal}
use Rattle.nef_core.specs.Views.{has_job}
use Rattle.nef_core.specs.declared.machine.Slot.{Slot}
use Rattle.nef_core.specs.declared.machine.Slot.TheVariants.{Open, InHand, Done}
use Rattle.nef_core.specs.declared.machine.Event.{Event}
use Rattle.nef_core.specs.declared.board.View.{View}
use Rattle.nef_core.specs.Passes.{holding, at_end, deposited, gave_back, Fits}

-- the slots that a pass holds: the empty slot of the job in the pass's hand
abbrev pub carried : {Out : Type 0} → Option ℕ → List (ℕ × Option Out)
carried None = []
carried (Some job) = (job, None) ∷ []

abbrev pub is_below : ℕ → Option ℕ → Bool
is_below jobs None = true
is_below jobs (Some job) = nat_lt job jobs

-- 1 for a view that may have drawn a number past the last one, else 0
abbrev pub drew_past : View → ℕ
drew_past v = cond (v.live && not v.ended) 0 1

abbrev pub overs : List View → ℕ
overs [] = 0
overs (v ∷ vs) = drew_past v + overs vs

module _ {Out : Type 0} (right : ℕ → Out → Type 0) where
  -- the words, the homes and the views show this slot for the job
  abbrev pub SlotIs : State (Option Out) View → ℕ → Slot → Type 0
  SlotIs s job Open =
      (get_elem? s.homes job ≡ some (some None))
      × (((slice_index s.words (job + 1) ≡ 2) × (job < slice_index s.words 0)) ⊎ ((slice_index s.words (job + 1) ≡ 0) × (slice_index s.words 0 ≤ job)))
  SlotIs s job (InHand w) =
      (slice_index s.words (job + 1) ≡ 0) × (job < slice_index s.words 0) × (get_elem? s.homes job ≡ some none)
      × ((v : View) × (get_elem? s.views w ≡ some v) × (v.live ≡ true) × (v.hand ≡ Some job))
  SlotIs s job (Done w) =
      (slice_index s.words (job + 1) ≡ 1) × (job < slice_index s.words 0)
      × ((out : Out) × (get_elem? s.homes job ≡ some (some (Some out))) × right job out)

  -- the words, the homes and the views show the machine
  pub record ShowsMachine (jobs seats : ℕ) (m : Machine) (s : State (Option Out) View) : Type 0 where
    pub words : length s.words ≡ jobs + 1
    pub homes : length s.homes ≡ jobs
    pub small : jobs + seats < 2 ^ 64
    pub next : m.next ≡ min (slice_index s.words 0) jobs
    pub slots : length m.slots ≡ jobs
    pub each : (job : ℕ) → job < jobs → (x : Slot) × (slice_get m.slots job ≡ Some x) × SlotIs s job x
    pub views : (place : ℕ) (v : View) → get_elem? s.views place ≡ some v → v.live ≡ true → Fits jobs seats m (length s.views) place v
    pub few : length s.views ≤ seats
    pub drawn : slice_index s.words 0 ≤ jobs + overs s.views

-- the board shows the replay of a legal history
abbrev pub Kept : {Out : Type 0} → ℕ → ℕ → (ℕ → Out → Type 0) → State (Option Out) View → Type 0
Kept jobs seats right s = (log : List Event) × IsLegal (start jobs) log × ShowsMachine right jobs seats (replay (start jobs) log) s

abbrev pub Claimed : {S : Type 0} → Step (Option S) → Me (Option S) View → ℕ → Me (Option S) View → Type 0
Claimed st v found w = MatchBool (nat_lt found v.0.jobs) ((w.0 ≡ holding v.0 found) × (w.1 ≡ (found, None) ∷ []) × (has_job found v.0.deposits ≡ false)) ((w.0 ≡ at_end v.0) × (w.1 ≡ []))

abbrev pub Deposited : {S : Type 0} → Step (Option S) → Me (Option S) View → ℕ → Me (Option S) View → Type 0
Deposited st v found w = (w.0 ≡ deposited v.0 (st.word - 1)) × (w.1 ≡ [])

abbrev pub GaveBack : {S : Type 0} → Step (Option S) → Me (Option S) View → ℕ → Me (Option S) View → Type 0
GaveBack st v found w = (w.0 ≡ gave_back v.0) × (w.1 ≡ [])

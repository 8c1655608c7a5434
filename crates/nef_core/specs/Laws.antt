-- The laws of the machine, over every legal list of events from the start.
use Rattle.std.specs.Prelude.{◌≡◌, ℕ, ◌+◌, ◌<◌, ◌≤◌, List, ◌∷◌, ◌++◌, Some, slice_get, ◌⊎◌}
use Rattle.nef_core.specs.Machine.{State, start, reply, replay, IsLegal}
use Rattle.nef_core.specs.Counts.{is_own_slot, is_done_by, total, at_most_one, claims, deposits, givings_back, claims_of, deposits_of, givings_back_of, handings_out}
use Rattle.nef_core.specs.declared.machine.Slot.TheVariants.{Open, InHand, Done}
use Rattle.nef_core.specs.declared.machine.Event.{Event}
use Rattle.nef_core.specs.declared.machine.Event.TheVariants.{Claim}
use Rattle.nef_core.specs.declared.board.Claim.TheVariants.{Got}

-- the machine with this many jobs after these events
abbrev pub reached : ℕ → List Event → State
reached jobs events = replay (start jobs) events

abbrev pub IsHistory : ℕ → List Event → Type 0
IsHistory jobs events = IsLegal (start jobs) events

-- each job is open, in the hand of one pass, or done by one pass
abbrev pub EachSlotIsOne : Type 0
EachSlotIsOne = (jobs : ℕ) (events : List Event) → IsHistory jobs events → (job : ℕ) → job < jobs
    → (slice_get (reached jobs events).slots job ≡ Some Open)
    ⊎ (((w : ℕ) × (slice_get (reached jobs events).slots job ≡ Some (InHand w)))
    ⊎ ((w : ℕ) × (slice_get (reached jobs events).slots job ≡ Some (Done w))))

abbrev pub NextNeverFalls : Type 0
NextNeverFalls = (jobs : ℕ) (before rest : List Event) → IsHistory jobs (before ++ rest) → (reached jobs before).next ≤ (reached jobs (before ++ rest)).next

-- each claim hands out the next number, which is a job
abbrev pub ClaimsGetTheNext : Type 0
ClaimsGetTheNext = (jobs w : ℕ) (before rest : List Event) → IsHistory jobs (before ++ Claim w ∷ rest)
    → (reply (reached jobs before) (Claim w) ≡ Got (reached jobs before).next) × ((reached jobs before).next < jobs)

-- of two claims the later one hands out the greater number, so no number is handed out twice
abbrev pub NoneTwice : Type 0
NoneTwice = (jobs v w first second : ℕ) (before between rest : List Event) → IsHistory jobs (before ++ Claim v ∷ (between ++ Claim w ∷ rest))
    → reply (reached jobs before) (Claim v) ≡ Got first → reply (reached jobs (before ++ Claim v ∷ between)) (Claim w) ≡ Got second → first < second

abbrev pub DoneStays : Type 0
DoneStays = (jobs job w : ℕ) (before rest : List Event) → IsHistory jobs (before ++ rest)
    → slice_get (reached jobs before).slots job ≡ Some (Done w) → slice_get (reached jobs (before ++ rest)).slots job ≡ Some (Done w)

-- each claim of a pass is a job in its hand, a job that it deposited, or one that it gave back
abbrev pub ClaimsAreAccounted : Type 0
ClaimsAreAccounted = (jobs w : ℕ) (events : List Event) → IsHistory jobs events
    → claims w events ≡ total (is_own_slot w) (reached jobs events).slots + givings_back w events

-- each deposit of a pass is a job that is done by it
abbrev pub DepositsAreDone : Type 0
DepositsAreDone = (jobs w : ℕ) (events : List Event) → IsHistory jobs events
    → deposits w events ≡ total (is_done_by w) (reached jobs events).slots

-- the same for each job by itself
abbrev pub EachClaimIsAccounted : Type 0
EachClaimIsAccounted = (jobs w job : ℕ) (events : List Event) → IsHistory jobs events
    → claims_of w job (start jobs) events ≡ at_most_one (is_own_slot w) (slice_get (reached jobs events).slots job) + givings_back_of w job events

abbrev pub EachDepositIsDone : Type 0
EachDepositIsDone = (jobs w job : ℕ) (events : List Event) → IsHistory jobs events
    → deposits_of w job events ≡ at_most_one (is_done_by w) (slice_get (reached jobs events).slots job)

-- a job was claimed by one pass at most, once
abbrev pub HandedOutOnce : Type 0
HandedOutOnce = (jobs job : ℕ) (events : List Event) → IsHistory jobs events → handings_out job (start jobs) events ≤ 1

-- a job in hand was claimed once by its pass and not given back; a job that is done was claimed once and deposited once by its pass
abbrev pub HeldIsClaimed : Type 0
HeldIsClaimed = (jobs w job : ℕ) (events : List Event) → IsHistory jobs events → slice_get (reached jobs events).slots job ≡ Some (InHand w)
    → (claims_of w job (start jobs) events ≡ 1) × (deposits_of w job events ≡ 0) × (givings_back_of w job events ≡ 0)

abbrev pub DoneIsClaimed : Type 0
DoneIsClaimed = (jobs w job : ℕ) (events : List Event) → IsHistory jobs events → slice_get (reached jobs events).slots job ≡ Some (Done w)
    → (claims_of w job (start jobs) events ≡ 1) × (deposits_of w job events ≡ 1) × (givings_back_of w job events ≡ 0)

-- What a history has of a pass that is seen to hold, to have deposited and to have ended.
use Rattle.std.specs.Prelude.{◌≡◌, ◌↔◌, ℕ, Bool, true, ◌+◌, List, [], ◌∷◌, Option, Some, slice_get}
use Rattle.nef_core.specs.Machine.{start, replay}
use Rattle.nef_core.specs.Counts.{is_own_slot, total, at_most_one, claims, givings_back, claims_of, deposits_of, givings_back_of}
use Rattle.nef_core.specs.declared.machine.Slot.TheVariants.{InHand}
use Rattle.nef_core.specs.declared.machine.Event.{Event}

-- each deposit, a job and the number of a pass, has one claim and one deposit of the job by that pass
abbrev pub AllCounted : ℕ → List Event → List (ℕ × ℕ) → Type 0
AllCounted jobs events [] = Unit {0}
AllCounted jobs events (d ∷ ds) = (claims_of d.1 d.0 (start jobs) events ≡ 1) × (deposits_of d.1 d.0 events ≡ 1) × AllCounted jobs events ds

pub record IsAccounted (jobs : ℕ) (events : List Event) (w : ℕ) (hand : Option ℕ) (ended : Bool) (deposits : List (ℕ × ℕ)) : Type 0 where
  -- the job in the hand of the pass is the one that the machine has there
  pub held : (job : ℕ) → slice_get (replay (start jobs) events).slots job ≡ Some (InHand w) ↔ hand ≡ Some job
  pub claimed_once : (job : ℕ) → hand ≡ Some job → claims_of w job (start jobs) events ≡ 1
  pub deposited_once : AllCounted jobs events deposits
  -- each further claim has its one giving back, all jobs together and each by itself
  pub given_back : claims w events ≡ total (is_own_slot w) (replay (start jobs) events).slots + givings_back w events
  pub each_given_back : (job : ℕ) → claims_of w job (start jobs) events ≡ at_most_one (is_own_slot w) (slice_get (replay (start jobs) events).slots job) + givings_back_of w job events
  pub all_handed_out : ended ≡ true → (replay (start jobs) events).next ≡ jobs

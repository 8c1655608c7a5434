-- The machine of a board, one event after another.
use Rattle.std.specs.Prelude.{◌≡◌, ℕ, ◌+◌, ◌<◌, List, [], ◌∷◌, length, replicate, slice_get, slice_set, Some, nat_lt, if◌then◌else◌}
use Rattle.nef_core.specs.declared.machine.Slot.TheVariants.{Open, InHand, Done}
use Rattle.nef_core.specs.declared.machine.Event.{Event}
use Rattle.nef_core.specs.declared.machine.Event.TheVariants.{Claim, Deposit, GiveBack}
use Rattle.nef_core.specs.declared.board.Claim.{Claim as Reply}
use Rattle.nef_core.specs.declared.board.Claim.TheVariants.{Got, NoneLeft}
use Rattle.nef_core.specs.declared.machine.Slot.{Slot}

-- the number to be handed out next, and what each job is
pub record State : Type 0 where
  pub next : ℕ
  pub slots : List Slot

abbrev pub start : ℕ → State
start jobs = record { next = 0; slots = replicate jobs Open }

-- the machine after one event. A claim changes nothing where no number is left
abbrev pub after : State → Event → State
after s (Claim w) =
    if nat_lt s.next (length s.slots) then record { next = s.next + 1; slots = slice_set s.slots s.next (InHand w) } else s
after s (Deposit w job) = record { next = s.next; slots = slice_set s.slots job (Done w) }
after s (GiveBack w job) = record { next = s.next; slots = slice_set s.slots job Open }

-- what the machine answers to an event
abbrev pub reply : State → Event → Reply
reply s (Claim w) = if nat_lt s.next (length s.slots) then Got s.next else NoneLeft
reply s (Deposit w job) = Got job
reply s (GiveBack w job) = Got job

-- a deposit or a giving back finds the job in the hand of its pass
abbrev pub HoldsItsJob : State → Event → Type 0
HoldsItsJob s (Claim w) = Unit {0}
HoldsItsJob s (Deposit w job) = slice_get s.slots job ≡ Some (InHand w)
HoldsItsJob s (GiveBack w job) = slice_get s.slots job ≡ Some (InHand w)

-- and a claim finds a number
abbrev pub IsLegalStep : State → Event → Type 0
IsLegalStep s (Claim w) = s.next < length s.slots
IsLegalStep s (Deposit w job) = slice_get s.slots job ≡ Some (InHand w)
IsLegalStep s (GiveBack w job) = slice_get s.slots job ≡ Some (InHand w)

-- the machine after a list of events
abbrev pub replay : State → List Event → State
replay s [] = s
replay s (e ∷ es) = replay (after s e) es

abbrev pub IsLegal : State → List Event → Type 0
IsLegal s [] = Unit {0}
IsLegal s (e ∷ es) = IsLegalStep s e × IsLegal (after s e) es

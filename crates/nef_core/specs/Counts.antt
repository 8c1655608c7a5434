-- How often a pass claimed, deposited and gave back, and which jobs are its own.
use Rattle.std.specs.Prelude.{ℕ, Bool, ◌+◌, ◌==◌, ◌&&◌, List, [], ◌∷◌, Option, Some, None, if◌then◌else◌}
use Rattle.nef_core.specs.Machine.{State, after}
use Rattle.nef_core.specs.declared.machine.Slot.{Slot}
use Rattle.nef_core.specs.declared.machine.Slot.TheVariants.{Open, InHand, Done}
use Rattle.nef_core.specs.declared.machine.Event.{Event}
use Rattle.nef_core.specs.declared.machine.Event.TheVariants.{Claim, Deposit, GiveBack}

abbrev pub one_if : Bool → ℕ
one_if b = if b then 1 else 0

-- 1 for a job in the hand of w or done by w
abbrev pub is_own_slot : ℕ → Slot → ℕ
is_own_slot w Open = 0
is_own_slot w (InHand v) = one_if (v == w)
is_own_slot w (Done v) = one_if (v == w)

-- 1 for a job done by w
abbrev pub is_done_by : ℕ → Slot → ℕ
is_done_by w Open = 0
is_done_by w (InHand v) = 0
is_done_by w (Done v) = one_if (v == w)

-- a count over all slots, and over one slot, which may be none
abbrev pub total : (Slot → ℕ) → List Slot → ℕ
total count [] = 0
total count (x ∷ xs) = count x + total count xs

abbrev pub at_most_one : (Slot → ℕ) → Option Slot → ℕ
at_most_one count None = 0
at_most_one count (Some x) = count x

-- the events of the pass w in a list
abbrev pub claims : ℕ → List Event → ℕ
claims w [] = 0
claims w (Claim v ∷ es) = one_if (v == w) + claims w es
claims w (Deposit v job ∷ es) = claims w es
claims w (GiveBack v job ∷ es) = claims w es

abbrev pub deposits : ℕ → List Event → ℕ
deposits w [] = 0
deposits w (Claim v ∷ es) = deposits w es
deposits w (Deposit v job ∷ es) = one_if (v == w) + deposits w es
deposits w (GiveBack v job ∷ es) = deposits w es

abbrev pub givings_back : ℕ → List Event → ℕ
givings_back w [] = 0
givings_back w (Claim v ∷ es) = givings_back w es
givings_back w (Deposit v job ∷ es) = givings_back w es
givings_back w (GiveBack v job ∷ es) = one_if (v == w) + givings_back w es

-- the events of the pass w with the job i. A claim is with the job that it hands out, so these need the machine before the list
abbrev pub claims_of : ℕ → ℕ → State → List Event → ℕ
claims_of w i s [] = 0
claims_of w i s (Claim v ∷ es) = one_if ((s.next == i) && (v == w)) + claims_of w i (after s (Claim v)) es
claims_of w i s (Deposit v job ∷ es) = claims_of w i (after s (Deposit v job)) es
claims_of w i s (GiveBack v job ∷ es) = claims_of w i (after s (GiveBack v job)) es

abbrev pub deposits_of : ℕ → ℕ → List Event → ℕ
deposits_of w i [] = 0
deposits_of w i (Claim v ∷ es) = deposits_of w i es
deposits_of w i (Deposit v job ∷ es) = one_if ((job == i) && (v == w)) + deposits_of w i es
deposits_of w i (GiveBack v job ∷ es) = deposits_of w i es

abbrev pub givings_back_of : ℕ → ℕ → List Event → ℕ
givings_back_of w i [] = 0
givings_back_of w i (Claim v ∷ es) = givings_back_of w i es
givings_back_of w i (Deposit v job ∷ es) = givings_back_of w i es
givings_back_of w i (GiveBack v job ∷ es) = one_if ((job == i) && (v == w)) + givings_back_of w i es

-- the claims, by whichever pass, that the job i was handed out to
abbrev pub handings_out : ℕ → State → List Event → ℕ
handings_out i s [] = 0
handings_out i s (Claim v ∷ es) = one_if (s.next == i) + handings_out i (after s (Claim v)) es
handings_out i s (Deposit v job ∷ es) = handings_out i (after s (Deposit v job)) es
handings_out i s (GiveBack v job ∷ es) = handings_out i (after s (GiveBack v job)) es

-- What each kind of step keeps, and what the rule says of any two passes.
use Rattle.std.specs.Prelude.{◌≡◌, ◌≢◌, ℕ, true, false, ◌+◌, ◌^◌, ◌<◌, ◌≤◌, ◌⊎◌, List, [], ◌∷◌, Option, Some, None, slice_get}
use mathlib.Core.Option.{some}
use lib.ListN.{get_elem?}
use Rattle.crossbeam_queue.specs.Fifo.{Pushes, Pops, Forks, Merges}
use Rattle.nef_sched.specs.declared.pass.View.{View}
use Rattle.nef_sched.specs.Counts.{times}
use Rattle.nef_sched.specs.Line.{numbers_in}
use Rattle.nef_sched.specs.Views.{first_view, put, cut, share, taken_together, spent, total}
use Rattle.nef_sched.specs.Rule.{Kept, Took}
use Rattle.nef_sched.specs.declared.pass.RoundPass.{RoundPass}
use Rattle.nef_sched.specs.Rounds.{known, numbers_of, AreAgreed}

abbrev pub BeginKeeps : Type 0
BeginKeeps = Kept [] (first_view ∷ [])

-- a pass with all parts puts a number that it hasn't put, before it puts an end
abbrev pub PutKeeps : Type 0
PutKeeps = (room place : ℕ) (v : View) (x : ℕ) → v.parts ≡ 2 ^ 32 → v.due ≡ 0 → v.ended ≡ false → times x v.known ≡ 0 → Pushes Kept room place v (Some x) (λ w. w ≡ put v (Some x))

-- a pass with all parts puts an end
abbrev pub EndKeeps : Type 0
EndKeeps = (room place : ℕ) (v : View) → v.parts ≡ 2 ^ 32 → Pushes Kept room place v None (λ w. w ≡ put v None)

-- a pass with a part takes a number or an end. It may still take an end, or it has all parts
abbrev pub TakeKeeps : Type 0
TakeKeeps = (place : ℕ) (v : View) → 0 < v.parts → (0 < v.due) ⊎ (v.parts ≡ 2 ^ 32) → Pops Kept place v (Took v)

-- a pass with two parts or more, which may still take an end, makes another one
abbrev pub ForkKeeps : Type 0
ForkKeeps = (place : ℕ) (v : View) → 1 < v.parts → 0 < v.due → Forks Kept place v (cut v) (share v)

-- a pass with a part takes in another one with a part
abbrev pub MergeKeeps : Type 0
MergeKeeps = (place : ℕ) (v : View) (other : ℕ) (w : View) → 0 < v.parts → 0 < w.parts → Merges Kept place v other w (taken_together v w) spent

-- all passes with a part know the same numbers, and these differ
abbrev pub PassesAgree : Type 0
PassesAgree = (items : List (Option ℕ)) (views : List View) (i j : ℕ) (v w : View) → Kept items views → get_elem? views i ≡ some v → get_elem? views j ≡ some w → 0 < v.parts → 0 < w.parts
    → (v.known ≡ w.known) × ((x : ℕ) → times x v.known ≤ 1)

-- no number was taken twice, by one pass or by two
abbrev pub NoneTwice : Type 0
NoneTwice = (items : List (Option ℕ)) (views : List View) (i j : ℕ) (v w : View) → Kept items views → get_elem? views i ≡ some v → get_elem? views j ≡ some w
    → (x : ℕ) → (times x v.taken ≤ 1) × (i ≢ j → times x v.taken + times x w.taken ≤ 1)

-- no number that was taken is in the queue, and none stands there twice
abbrev pub NoneTakenIsLeft : Type 0
NoneTakenIsLeft = (items : List (Option ℕ)) (views : List View) (i : ℕ) (v : View) → Kept items views → get_elem? views i ≡ some v → (x : ℕ) → times x v.taken + times x (numbers_in items) ≤ 1

-- each number that a pass with a part knows was taken or is in the queue, and nothing else was or is
abbrev pub NoneIsLost : Type 0
NoneIsLost = (items : List (Option ℕ)) (views : List View) (i : ℕ) (v : View) → Kept items views → get_elem? views i ≡ some v → 0 < v.parts
    → (x : ℕ) → total (λ u. times x u.taken) views + times x (numbers_in items) ≡ times x v.known

-- where some pass has ended, the queue holds no number
abbrev pub EndedIsEmpty : Type 0
EndedIsEmpty = (items : List (Option ℕ)) (views : List View) (i : ℕ) (v : View) → Kept items views → get_elem? views i ≡ some v → v.ended ≡ true → numbers_in items ≡ []

-- where any two passes of a list know the same numbers, as those of one round do, each of them knows the numbers that are told of the list
abbrev pub NumbersAreKnown : Type 0
NumbersAreKnown = (ps : List RoundPass) (i : ℕ) (p : RoundPass) → AreAgreed ps → slice_get ps i ≡ Some p → known p ≡ numbers_of ps

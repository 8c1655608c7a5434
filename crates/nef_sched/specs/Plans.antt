-- In which round a number is worked.
use Rattle.std.specs.Prelude.{◌≡◌, ℕ, ◌+◌, ◌<◌, ◌≤◌, max, List, Option, Some, None, length, slice_get, slice_index}
use Rattle.std.specs.declared.vec.Vec.{Vec}
use Rattle.nef_sched.specs.Counts.{times}
use Rattle.nef_sched.specs.Results.{NeedsOf}

-- the round after that of a number, or the first one where there is no number
abbrev pub round_after : List ℕ → Option ℕ → ℕ
round_after rounds None = 0
round_after rounds (Some k) = slice_index rounds k + 1

-- each number comes into the first round after those of the numbers that it needs, which are below it
pub record AreRounds (size : ℕ) (first second : ℕ → Option ℕ) (rounds : List ℕ) : Type 0 where
  pub len : length rounds ≡ size
  pub each : (n : ℕ) → n < size → slice_index rounds n ≡ max (round_after rounds (first n)) (round_after rounds (second n))
  pub below : (n k : ℕ) → n < size → NeedsOf first second n k → k < n
  pub low : (n : ℕ) → n < size → slice_index rounds n ≤ n

-- the list has each of the first numbers whose round is r exactly once, and no other
abbrev pub IsRoundList : ℕ → List ℕ → ℕ → List ℕ → Type 0
IsRoundList count rounds r xs = ((k : ℕ) → k < count → slice_index rounds k ≡ r → times k xs ≡ 1) × ((k : ℕ) → 0 < times k xs → (k < count) × (slice_index rounds k ≡ r))

-- there are so many groups, and the r-th has those of so many numbers whose round is r
abbrev pub AreGroups : {Z : Type 0} → ℕ → List ℕ → List (Vec ℕ Z) → Type 0
AreGroups {Z} count rounds groups = (length groups ≡ count) × ((r : ℕ) (group : Vec ℕ Z) → slice_get groups r ≡ Some group → IsRoundList count rounds r group.items)

-- the groups are those of the rounds in which the numbers are worked
pub record IsPlan {Z : Type 0} (size : ℕ) (first second : ℕ → Option ℕ) (groups : List (Vec ℕ Z)) : Type 0 where
  pub round_of : List ℕ
  pub rounds : AreRounds size first second round_of
  pub each : AreGroups size round_of groups

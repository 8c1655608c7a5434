-- Which values are kept: those at which later steps look.
use Rattle.std.specs.Prelude.{◌≡◌, ◌⊎◌, ℕ, ◌+◌, ◌<◌, true, List, Option, Some, Box, length, slice_get}
use Rattle.nef_core.specs.declared.work.TextVersion.{TextVersion}
use Rattle.nef_plan.specs.declared.step.Step.{Step}
use Rattle.nef_plan.specs.Values.{AreEndedAt, AreSteps, IsAwaited, MakesValue, first_value, second_value}
use Rattle.nef_shell.specs.declared.held.Held.{Held}
use Rattle.nef_shell.specs.Held.{AreHeld, IsThere}

-- when the first n steps are worked, nothing is kept but of values at which a later step looks
abbrev pub IsLean : {X : Type 0} → List Step → ℕ → List (Option X) → Type 0
IsLean steps n list = (k : ℕ) → IsThere list k → IsAwaited steps n k

-- and each value of these steps at which a later one looks is kept
abbrev pub AreAwaitedKept : {X : Type 0} → List Step → ℕ → List (Option X) → Type 0
AreAwaitedKept steps n list = (k : ℕ) → k < n → IsAwaited steps n k → IsThere list k

-- the steps look at values of earlier ones, and say which they end; each has a place among the values, and what is kept there is right
pub record ArePlaced {Z : Type 0} (version : TextVersion) (steps : List Step) (values : List (Option (Box Held Z))) : Type 0 where
  pub right : AreSteps steps
  pub ends : AreEndedAt steps
  pub count : length values ≡ length steps
  pub held : AreHeld version steps values

-- so the values stand when the first n steps are worked, and what later ones need of these is kept
pub record StandAt {Z : Type 0} (version : TextVersion) (steps : List Step) (n : ℕ) (values : List (Option (Box Held Z))) : Type 0 where
  pub placed : ArePlaced version steps values
  pub ready : AreAwaitedKept steps n values

-- nothing comes, and nothing goes but under these numbers
pub record AreLess {X : Type 0} (MayGo : ℕ → Type 0) (old new : List (Option X)) : Type 0 where
  pub count : length new ≡ length old
  pub only : (k : ℕ) (x : X) → slice_get new k ≡ Some (Some x) → slice_get old k ≡ Some (Some x)
  pub stays : (k : ℕ) (x : X) → (MayGo k → ⊥) → slice_get old k ≡ Some (Some x) → slice_get new k ≡ Some (Some x)

-- the step ends value k, which is one of these operands
abbrev pub IsLastUse : Step → Option ℕ → Option ℕ → ℕ → Type 0
IsLastUse s first second k = ((s.ends_first ≡ true) × (first ≡ Some k)) ⊎ ((s.ends_second ≡ true) × (second ≡ Some k))

-- the step, which has the number n, ends value k, at which it looks or which it makes
abbrev pub IsLet : Step → ℕ → ℕ → Type 0
IsLet s n k = IsLastUse s (first_value s.task) (second_value s.task) k ⊎ ((s.ends_made ≡ true) × (k ≡ n))

-- nothing goes, and each thing that comes is of a value at which a step with a number of at least n looks
pub record AreMore {X : Type 0} (steps : List Step) (n : ℕ) (old new : List (Option X)) : Type 0 where
  pub count : length new ≡ length old
  pub stays : (k : ℕ) → IsThere old k → IsThere new k
  pub only : (k : ℕ) → IsThere new k → IsThere old k ⊎ IsAwaited steps n k

-- value n is kept if its step makes one, and nothing else comes; nothing goes of a value at which a later step looks
pub record HasDone {X : Type 0} (steps : List Step) (n : ℕ) (old new : List (Option X)) : Type 0 where
  pub count : length new ≡ length old
  pub stays : (k : ℕ) → IsAwaited steps (n + 1) k → IsThere old k → IsThere new k
  pub only : (k : ℕ) → IsThere new k → IsThere old k ⊎ (k ≡ n)
  pub made : (s : Step) → slice_get steps n ≡ Some s → MakesValue s.task → IsThere new n

-- The values that are worked ahead of a block of steps, and what they need.
use Rattle.std.specs.Prelude.{◌≡◌, ◌⊎◌, ℕ, ◌+◌, ◌<◌, ◌≤◌, List, Option, Some, None, Box, IsSomeAnd, length, option_and_then, slice_get}
use Rattle.nef_complex.specs.declared.complex.Complex.{Complex}
use Rattle.nef_sched.specs.Results.{kept}
use Rattle.nef_plan.specs.declared.step.Step.{Step}
use Rattle.nef_plan.specs.Values.{IsAwaited, MakesValue, first_value, second_value, value_set}
use Rattle.nef_shell.specs.declared.early.Early.{Early}
use Rattle.nef_shell.specs.declared.held.Held.{Held}
use Rattle.nef_shell.specs.Held.{IsNewlyHeld, IsThere, complex_at, complex_in}

-- the n-th of them is value k
abbrev pub IsEarlyAt : List Early → ℕ → ℕ → Type 0
IsEarlyAt early n k = (e : Early) × (slice_get early n ≡ Some e) × (e.value ≡ k)

-- the table, which begins with the step now, has of each value the number that it has among them
abbrev pub IsIndex : ℕ → List (Option ℕ) → List Early → Type 0
IsIndex now index early = (o n : ℕ) → slice_get index o ≡ Some (Some n) → IsEarlyAt early n (now + o)

-- the operand, if there is one, is the one that is named, which is among the first n; or none is named, and it is kept
abbrev pub IsOperandKept : {X : Type 0} → List (Option X) → List Early → ℕ → Option ℕ → Option ℕ → Type 0
IsOperandKept values early n None need = need ≡ None
IsOperandKept values early n (Some i) None = IsThere values i
IsOperandKept values early n (Some i) (Some j) = (j < n) × IsEarlyAt early j i

-- the n-th is one that its step makes, a later step looks at it, and it names those of its operands that aren't kept
pub record IsEarly {X : Type 0} (steps : List Step) (values : List (Option X)) (early : List Early) (n : ℕ) (e : Early) : Type 0 where
  pub step : Step
  pub at : slice_get steps e.value ≡ Some step
  pub makes : MakesValue step.task
  pub awaited : IsAwaited steps (e.value + 1) e.value
  pub first : IsOperandKept values early n (first_value step.task) e.needs.first
  pub second : IsOperandKept values early n (second_value step.task) e.needs.second

abbrev pub AreEarly : {X : Type 0} → List Step → List (Option X) → List Early → Type 0
AreEarly steps values early = (n : ℕ) (e : Early) → slice_get early n ≡ Some e → IsEarly steps values early n e

-- none of them is of an earlier step than this
abbrev pub AreLate : ℕ → List Early → Type 0
AreLate now early = (n : ℕ) (e : Early) → slice_get early n ≡ Some e → now ≤ e.value

-- the numbers of those that the n-th one needs
abbrev pub first_need : List Early → ℕ → Option ℕ
first_need early n = option_and_then (λ e. e.needs.first) (slice_get early n)

abbrev pub second_need : List Early → ℕ → Option ℕ
second_need early n = option_and_then (λ e. e.needs.second) (slice_get early n)

-- the complex of the result that an operand needs, or else the one that is kept
abbrev pub needed_complex : {Z : Type 0} → List (Option (Box Held Z)) → List (Option (Option (Box Held Z))) → Option ℕ → Option ℕ → Option Complex
needed_complex values results operand None = complex_at values operand
needed_complex values results operand (Some n) = option_and_then complex_in (kept results n)

-- what is made for the n-th one shows its set
abbrev pub ShowsItsSet : {Z : Type 0} → List Step → List Early → ℕ → Option (Box Held Z) → Type 0
ShowsItsSet steps early n o = (e : Early) → slice_get early n ≡ Some e → IsSomeAnd o (λ b. IsNewlyHeld (value_set steps e.value) b.value)

-- what stands under a number is what stood there, or the thing of its value
pub record ArePut {X : Type 0} (early : List Early) (things old new : List (Option X)) : Type 0 where
  pub count : length new ≡ length old
  pub only : (k : ℕ) (x : Option X) → slice_get new k ≡ Some x → (slice_get old k ≡ Some x) ⊎ ((n : ℕ) × IsEarlyAt early n k × (slice_get things n ≡ Some x))

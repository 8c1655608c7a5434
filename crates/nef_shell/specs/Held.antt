-- What is kept of values: their complexes, with parts and texts of these.
use Rattle.std.specs.Prelude.{◌≡◌, ◌⊎◌, ℕ, Bool, true, false, List, Option, Some, None, Box, IfSome, length, option_and_then, slice_get, slice_set}
use Rattle.nef_complex.specs.Prelude.{Set, ShowsSet, complex_of, IsParts, Text}
use Rattle.nef_complex.specs.declared.complex.Complex.{Complex}
use Rattle.nef_core.specs.declared.work.TextVersion.{TextVersion}
use Rattle.nef_plan.specs.declared.step.Step.{Step}
use Rattle.nef_plan.specs.Values.{value_set}
use Rattle.nef_shell.specs.declared.held.Held.{Held}
use Rattle.nef_shell.specs.Operations.{IsShown}

-- the complex shows the set, and parts and text, in this version, are the complex's where they are kept
pub record IsHeld (version : TextVersion) (s : Set) (h : Held) : Type 0 where
  pub shows : ShowsSet s h.complex
  pub parts : IfSome h.parts (λ p. IsParts (complex_of h.complex) p)
  pub text : IfSome h.text (λ x. Text version h.complex x.items)

-- the complex shows the set, and neither parts nor text are kept
abbrev pub IsNewlyHeld : Set → Held → Type 0
IsNewlyHeld s h = ShowsSet s h.complex × (h.parts ≡ None) × (h.text ≡ None)

-- the same without parts
abbrev pub without_parts : Held → Held
without_parts h = record { complex = h.complex; parts = None; text = h.text }

-- something is kept under number k
abbrev pub IsThere : {X : Type 0} → List (Option X) → ℕ → Type 0
IsThere {X} list k = (x : X) × (slice_get list k ≡ Some (Some x))

-- what is kept under number k is right of the set
abbrev pub IsHeldAt : {Z : Type 0} → TextVersion → Set → List (Option (Box Held Z)) → ℕ → Type 0
IsHeldAt {Z} version s list k = (b : Box Held Z) × (slice_get list k ≡ Some (Some b)) × IsHeld version s b.value

-- what is kept of each value is right
abbrev pub AreHeld : {Z : Type 0} → TextVersion → List Step → List (Option (Box Held Z)) → Type 0
AreHeld {Z} version steps list = (k : ℕ) (b : Box Held Z) → slice_get list k ≡ Some (Some b) → IsHeld version (value_set steps k) b.value

-- nothing comes or goes, and what is kept stays right of each set of which it is
pub record AreStill {Z : Type 0} (version : TextVersion) (old new : List (Option (Box Held Z))) : Type 0 where
  pub count : length new ≡ length old
  pub there : (k : ℕ) → IsThere old k → IsThere new k
  pub held : (k : ℕ) (b : Box Held Z) → slice_get new k ≡ Some (Some b) → (a : Box Held Z) × (slice_get old k ≡ Some (Some a)) × ((s : Set) → IsHeld version s a.value → IsHeld version s b.value)

-- the complex under the number, if something is kept there
abbrev pub complex_in : {Z : Type 0} → Option (Box Held Z) → Option Complex
complex_in None = None
complex_in (Some b) = Some b.value.complex

-- the complex of a value, if there is a value and it is kept
abbrev pub complex_at : {Z : Type 0} → List (Option (Box Held Z)) → Option ℕ → Option Complex
complex_at list None = None
complex_at list (Some k) = option_and_then complex_in (slice_get list k)

-- the complex of value k is kept, and shows the set
abbrev pub IsShownAt : {Z : Type 0} → Set → List (Option (Box Held Z)) → ℕ → Type 0
IsShownAt s list k = IsShown s (complex_at list (Some k))

-- the list without what is kept of the value that ends, if one does
abbrev pub cleared : {X : Type 0} → Bool → Option ℕ → List (Option X) → List (Option X)
cleared false value list = list
cleared true None list = list
cleared true (Some k) list = slice_set list k None

-- nothing was taken; or what is kept of value k was, which isn't the other one, and which the step ends
abbrev pub IsSpent : {X : Type 0} → ℕ → ℕ → Bool → List (Option X) → List (Option X) → Option X → Type 0
IsSpent k other ends old new taken = ((taken ≡ None) × (new ≡ old)) ⊎ ((k ≡ other → ⊥) × (ends ≡ true) × (slice_get old k ≡ Some taken) × (new ≡ slice_set old k None))

-- the complex of what was taken, or else the one of value k
abbrev pub handed_complex : {Z : Type 0} → Option (Box Held Z) → ℕ → List (Option (Box Held Z)) → Option Complex
handed_complex None k list = complex_at list (Some k)
handed_complex (Some b) k list = Some b.value.complex

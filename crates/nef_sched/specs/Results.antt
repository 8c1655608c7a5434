-- Which number needs which, and results that are there.
use Rattle.std.specs.Prelude.{◌≡◌, ℕ, List, Option, Some, None, slice_get, length, IfSome, IsSomeAnd, All, ◌<◌, ◌⊎◌}

-- j needs the result of k
abbrev pub NeedsOf : (ℕ → Option ℕ) → (ℕ → Option ℕ) → ℕ → ℕ → Type 0
NeedsOf first second j k = (first j ≡ Some k) ⊎ (second j ≡ Some k)

abbrev pub flat : {X : Type 0} → Option (Option X) → Option X
flat None = None
flat (Some x) = x

-- the result that is kept for i
abbrev pub kept : {X : Type 0} → List (Option X) → ℕ → Option X
kept list i = flat (slice_get list i)

-- a result is kept for i
abbrev pub IsKept : {X : Type 0} → List (Option X) → ℕ → Type 0
IsKept {X} list i = (out : X) × (kept list i ≡ Some out)

-- a result is kept for each number that is needed, and it fits
abbrev pub IsReady : {X : Type 0} → (ℕ → X → Type 0) → Option ℕ → Option ℕ → List (Option X) → Type 0
IsReady fits first second list = IfSome first (λ k. IsSomeAnd (kept list k) (fits k)) × IfSome second (λ k. IsSomeAnd (kept list k) (fits k))

-- i is one of so many numbers, and a fitting result is kept for each number that it needs
abbrev pub HasNeeds : {X : Type 0} → ℕ → (ℕ → X → Type 0) → (ℕ → Option ℕ) → (ℕ → Option ℕ) → List (Option X) → ℕ → Type 0
HasNeeds size fits first second list i = (i < size) × IsReady fits (first i) (second i) list

-- there is room for this many results, and each that is kept fits
abbrev pub AreSound : {X : Type 0} → ℕ → (ℕ → X → Type 0) → List (Option X) → Type 0
AreSound {X} size fits list = (length list ≡ size) × ((i : ℕ) (out : X) → kept list i ≡ Some out → fits i out)

-- the results that are there fit, and each of the numbers has what it needs
pub record AreReady {X : Type 0} (size : ℕ) (fits : ℕ → X → Type 0) (first second : ℕ → Option ℕ) (numbers : List ℕ) (list : List (Option X)) : Type 0 where
  pub sound : AreSound size fits list
  pub each : All (HasNeeds size fits first second list) numbers

-- what work leaves: fitting results, and all that were there
pub record HasWorked {X : Type 0} (size : ℕ) (fits : ℕ → X → Type 0) (old new : List (Option X)) : Type 0 where
  pub sound : AreSound size fits new
  pub still : (k : ℕ) → IsKept old k → IsKept new k

-- each number is one of so many, and stands beside a result that fits it
abbrev pub AreFitting : {X : Type 0} → ℕ → (ℕ → X → Type 0) → List (ℕ × X) → Type 0
AreFitting size fits outs = All (λ o. (o.0 < size) × fits o.0 o.1) outs

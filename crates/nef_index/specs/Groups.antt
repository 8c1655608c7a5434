-- Groups and clusters of carriers, and the spans from which they are made.
use Rattle.std.specs.Prelude.{◌≡◌, ◌<◌}
use Rattle.nef_space.specs.Prelude.{ℕ, List, length, IsAt}
use Rattle.nef_index.specs.declared.spans.Span.{Span}
use Rattle.nef_index.specs.declared.groups.Cluster.{Cluster}
use Rattle.nef_index.specs.declared.groups.Group.{Group}
use Rattle.nef_index.specs.Spans.{IsNarrower}

-- some element of the list has the number, where each element has numbers
abbrev pub StandsIn : {X : Type 0} → (X → ℕ → Type 0) → List X → ℕ → Type 0
StandsIn {X} has xs k = (i : ℕ) × (x : X) × IsAt xs i x × has x k

-- the group has the number
abbrev pub IsInGroup : Group → ℕ → Type 0
IsInGroup g k = (j : ℕ) × IsAt g.carriers j k

-- some group of the cluster has the number
abbrev pub IsInCluster : Cluster → ℕ → Type 0
IsInCluster q = StandsIn IsInGroup q.groups

-- the pairs have exactly the numbers below n, each with a key
pub record AreKeyed (n : ℕ) (pairs : List (ℕ × ℕ)) : Type 0 where
  pub within : (i : ℕ) (e : ℕ × ℕ) → IsAt pairs i e → e.1 < n
  pub all : (k : ℕ) → k < n → (i : ℕ) × (e : ℕ × ℕ) × IsAt pairs i e × (e.1 ≡ k)

-- the numbers name spans, and s is at least as wide as each of these spans
pub record IsWide (spans : List Span) (has : ℕ → Type 0) (s : Span) : Type 0 where
  pub within : (k : ℕ) → has k → k < length spans
  pub wide : (k : ℕ) (t : Span) → has k → IsAt spans k t → IsNarrower t s

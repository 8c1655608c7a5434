-- Runs of parallel planes.
use Rattle.std.specs.Prelude.{◌≡◌, ◌+◌, ◌<◌, ◌≤◌, ◌∷◌}
use Rattle.nef_geo.specs.Prelude.{ℕ, List, [], length, IsAt, SpacePoint, normal_of, Vector, form_of}
use Rattle.nef_geo.specs.declared.plane.Plane.{Plane}
use Rattle.nef_index.specs.Carriers.{IsHolder}

-- the planes from number `first` to before number `past` have one normal
pub record IsRun (hs : List Plane) (first past : ℕ) : Type 0 where
  pub normal : Vector
  pub ordered : first ≤ past
  pub within : past ≤ length hs
  pub parallel : (i : ℕ) (h : Plane) → first ≤ i → i < past → IsAt hs i h → normal_of (form_of h) ≡ normal

-- the planes from number `first` to before number `past` are runs: each of the numbers ends one and begins the next
abbrev pub AreRunsTo : List Plane → ℕ → List ℕ → ℕ → Type 0
AreRunsTo hs first [] past = first ≡ past
AreRunsTo hs first (next ∷ rest) past = IsRun hs first next × AreRunsTo hs next rest past

-- the ends are the ends of the runs of all planes
abbrev pub AreRuns : List Plane → List ℕ → Type 0
AreRuns hs ends = AreRunsTo hs 0 ends (length hs)

-- the plane with number k and the next plane have one normal
abbrev pub ContinuesRun : List Plane → ℕ → Type 0
ContinuesRun hs k = (g h : Plane) × IsAt hs k g × IsAt hs (k + 1) h × (normal_of (form_of g) ≡ normal_of (form_of h))

-- the plane with this number is one of the run from `first` to before `past`, and holds the point
abbrev pub IsHolderIn : List Plane → ℕ → ℕ → SpacePoint → ℕ → Type 0
IsHolderIn hs first past p k = (first ≤ k) × (k < past) × IsHolder hs p p k

-- of the run's planes the one with this number holds the point, and no other does
pub record IsOnlyHolder (hs : List Plane) (first past : ℕ) (p : SpacePoint) (k : ℕ) : Type 0 where
  pub holder : IsHolderIn hs first past p k
  pub only : (i : ℕ) → IsHolderIn hs first past p i → i ≡ k

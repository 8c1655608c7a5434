-- The labels of the interior, the closure, the boundary and the complement of the set that a map shows.
use Rattle.std.specs.Prelude.{◌≡◌, ◌⊎◌}
use Rattle.nef_space.specs.Prelude.{Vector, IsDirection, Set}
use Rattle.nef_space.specs.declared.label.Label.{Label}
use Rattle.nef_space.specs.declared.label.Label.TheVariants.{Out, Not, In}
use Rattle.law_geometry.specs.sphere.Maps.{Map, MapLabel, NearLabel}
use Rattle.law_geometry.specs.sphere.Kinds.{Full}

pub data Topology : Type 0 where
  interior : Topology
  closure : Topology
  boundary : Topology
  complement : Topology

-- the set that the topological operation makes of s
abbrev pub set_by : Topology → Set → Set
set_by interior s = Set.inside s
set_by closure s = Set.closed s
set_by boundary s = Set.border s
set_by complement s = Set.other s

-- ---- the new label of a part, by the part's own label and the close labels
-- the own label and all close labels are In
abbrev pub IsInside : {X : Type 0} → (Label → Type 0) → (X → Label → Type 0) → Type 0
IsInside {X} own near = own In × ((x : X) → near x In)

-- the own label or some close label is In
abbrev pub IsClosed : {X : Type 0} → (Label → Type 0) → (X → Label → Type 0) → Type 0
IsClosed {X} own near = own In ⊎ ((x : X) × near x In)

-- the new label is In; the boundary is the closure without the interior
abbrev pub IsInBy : {X : Type 0} → Topology → (Label → Type 0) → (X → Label → Type 0) → Type 0
IsInBy interior own near = IsInside own near
IsInBy closure own near = IsClosed own near
IsInBy boundary own near = IsClosed own near × (IsInside own near → ⊥)
IsInBy complement own near = own Not

-- the new label is Out, Not or In by the own label and the close labels; Out stays Out
abbrev pub ByTopology : {X : Type 0} → Topology → (Label → Type 0) → (X → Label → Type 0) → Label → Type 0
ByTopology k own near Out = own Out
ByTopology k own near Not = (own Out → ⊥) × (IsInBy k own near → ⊥)
ByTopology k own near In = (own Out → ⊥) × IsInBy k own near

-- ---- the new labels of a map
-- the new label of the direction d
abbrev pub TopologyLabel : Topology → Map → Vector → Label → Type 0
TopologyLabel k M d = ByTopology k (MapLabel M d) (NearLabel M d)

-- the new mark of the map
abbrev pub MarkLabel : Topology → Map → Label → Type 0
MarkLabel k M = ByTopology k (λ l. M.mark ≡ l) (Full M)

-- N has the new mark of M, and in each direction the new label of M
pub record IsTopologyMap (k : Topology) (M N : Map) : Type 0 where
  pub mark : MarkLabel k M N.mark
  pub labels : (d : Vector) → IsDirection d → (l : Label) × MapLabel N d l × TopologyLabel k M d l

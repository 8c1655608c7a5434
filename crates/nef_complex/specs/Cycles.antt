-- The next corner of a facet's corner, and cycles of corners.
use Rattle.std.specs.Prelude.{◌≡◌, ◌∷◌, ◌⊎◌}
use Rattle.nef_geo.specs.Prelude.{ℕ, pos, List, [], All, IsBelow, SameDirection}
use Rattle.law_geometry.specs.sphere.Prelude.{InOrder, IsAt, Arc, MapSloop, sloop_item}
use Rattle.law_geometry.specs.complex.Complexes.{Vertex, Edge, Complex, Corner, IsCorner}

-- the edge leads from svertex s of vertex i to svertex t of vertex j
abbrev pub Leads : Edge → ℕ → ℕ → ℕ → ℕ → Type 0
Leads e i s j t = ((e.low ≡ i) × (e.low_svertex ≡ s) × (e.high ≡ j) × (e.high_svertex ≡ t)) ⊎ ((e.high ≡ i) × (e.high_svertex ≡ s) × (e.low ≡ j) × (e.low_svertex ≡ t))

-- the arc at corner k ends where the edge leads that leaves the source of the arc at corner j; both lie in one plane
pub record IsNextArc (C : Complex) (j k : Corner) : Type 0 where
  pub here : Vertex
  pub there : Vertex
  pub this_arc : Arc
  pub that_arc : Arc
  pub is_here : IsAt C.vertices j.vertex here
  pub is_there : IsAt C.vertices k.vertex there
  pub is_this : IsAt here.map.arcs j.item this_arc
  pub is_that : IsAt there.map.arcs k.item that_arc
  pub number : ℕ
  pub edge : Edge
  pub is_edge : IsAt C.edges number edge
  pub leads : Leads edge j.vertex this_arc.source k.vertex that_arc.target
  pub one_normal : SameDirection this_arc.normal that_arc.normal

-- a sloop is its own next corner
abbrev pub IsNextSloop : Complex → Corner → Corner → Type 0
IsNextSloop C j k = (j ≡ k) × (v : Vertex) × (l : MapSloop) × IsCorner C j v (sloop_item l)

abbrev pub NextCorner : Complex → Corner → Corner → Type 0
NextCorner C j k = IsNextArc C j k ⊎ IsNextSloop C j k

abbrev pub IsCornerBelow : Corner → Corner → Type 0
IsCornerBelow j k = IsBelow (pos j.vertex ∷ pos j.item ∷ []) (pos k.vertex ∷ pos k.item ∷ [])

-- from corner j steps to the next corner lead over the corners of the list and then to z
abbrev pub StepsTo : Complex → Corner → List Corner → Corner → Type 0
StepsTo C j [] z = NextCorner C j z
StepsTo C j (k ∷ ks) z = NextCorner C j k × StepsTo C k ks z

-- the list isn't empty, steps lead from its first corner over the others back to the first, and the first is the least
abbrev pub IsCycle : Complex → List Corner → Type 0
IsCycle C [] = ⊥
IsCycle C (j ∷ ks) = StepsTo C j ks j × All (IsCornerBelow j) ks

-- the order of cycles by their first corners
abbrev pub IsCycleBelow : List Corner → List Corner → Type 0
IsCycleBelow x y = (j : Corner) × (k : Corner) × IsAt x 0 j × IsAt y 0 k × IsCornerBelow j k

-- the cycles through the corners that have P, in order
pub record Cycles (C : Complex) (P : Corner → Type 0) (xs : List (List Corner)) : Type 0 where
  pub cycles : (i : ℕ) (x : List Corner) → IsAt xs i x → IsCycle C x
  pub within : (i k : ℕ) (x : List Corner) (j : Corner) → IsAt xs i x → IsAt x k j → P j
  pub complete : (j : Corner) → P j → (i : ℕ) × (k : ℕ) × (x : List Corner) × IsAt xs i x × IsAt x k j
  pub ordered : InOrder IsCycleBelow xs

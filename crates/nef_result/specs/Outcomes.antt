-- What jobs say of candidates, and when that is right.
use Rattle.std.specs.Prelude.{◌≡◌}
use Rattle.nef_complex.specs.Prelude.{ℕ, List, length, map, IsVertex, SpacePoint, SamePoint, Set, point_of, form_of, Plane, Point, Cone, IsAt, Carriers}
use Rattle.nef_smap.specs.Maps.{map_of, IsLeastMap}
use Rattle.nef_smap.specs.declared.map.SphereMap.{SphereMap}
use Rattle.nef_cand.specs.Prelude.{Vertex, IsListed}
use Rattle.nef_cand.specs.declared.named.Operand.{Operand}
use Rattle.nef_cand.specs.declared.named.Operand.TheVariants.{First, Second}
use Rattle.nef_result.specs.declared.outcome.Outcome.{Outcome}
use Rattle.nef_result.specs.declared.outcome.Outcome.TheVariants.{Made, Stays, Turned, Gone}
use Rattle.nef_result.specs.Results.{ArePointsInOrder}

-- those of two lists which the operand tells
abbrev pub of_operand : Operand → List Vertex → List Vertex → List Vertex
of_operand First us vs = us
of_operand Second us vs = vs

-- the vertex with this number stands at p
abbrev pub StandsAt : List Vertex → ℕ → Vertex → SpacePoint → Type 0
StandsAt vs k v p = IsAt vs k v × SamePoint (point_of v.point) p

-- the map n is a least one, and shows the complement of each set that m shows
abbrev pub IsOtherOf : SphereMap → SphereMap → Type 0
IsOtherOf m n = IsLeastMap n × ((s : Set) (p : SpacePoint) → Cone (map_of m) s p → Cone (map_of n) (Set.other s) p)

-- a vertex stands at p whose least map is that of the set there, or whose map is so once In and Not are exchanged
abbrev pub IsKeptAt : List Vertex → ℕ → Set → SpacePoint → Type 0
IsKeptAt vs k s p = (v : Vertex) × StandsAt vs k v p × IsLeastMap v.map × Cone (map_of v.map) s p

abbrev pub IsTurnedAt : List Vertex → ℕ → Set → SpacePoint → Type 0
IsTurnedAt vs k s p = (v : Vertex) × StandsAt vs k v p × IsLeastMap v.map × ((n : SphereMap) → IsOtherOf v.map n → Cone (map_of n) s p)

-- the outcome is what the set has at p; the vertices are those of its operands whose maps may be moved
abbrev pub IsOutcomeAt : List Vertex → List Vertex → Set → SpacePoint → Outcome → Type 0
IsOutcomeAt us vs s p (Made b) = IsVertex s p × IsLeastMap b.value × Cone (map_of b.value) s p
IsOutcomeAt us vs s p (Stays o k) = IsVertex s p × IsKeptAt (of_operand o us vs) k s p
IsOutcomeAt us vs s p (Turned o k) = IsVertex s p × IsTurnedAt (of_operand o us vs) k s p
IsOutcomeAt us vs s p Gone = IsVertex s p → ⊥

-- the planes are the carriers of the set, and the outcomes are what it has at the points, among which all its vertices are
pub record AreOutcomesOf (s : Set) (hs : List Plane) (ps : List Point) (us vs : List Vertex) (os : List Outcome) : Type 0 where
  pub carriers : Carriers s (map form_of hs)
  pub alike : length os ≡ length ps
  pub ordered : ArePointsInOrder ps
  pub right : (k : ℕ) (p : Point) (o : Outcome) → IsAt ps k p → IsAt os k o → IsOutcomeAt us vs s (point_of p) o
  pub complete : (y : SpacePoint) → IsVertex s y → IsListed ps y

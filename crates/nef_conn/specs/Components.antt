-- The components of vertices and of edges, and how many components the points with k flat directions have.
use Rattle.std.specs.Prelude.{◌≡◌, ◌↔◌}
use Rattle.nef_space.specs.Prelude.{ℕ, List, length, FlatDim, Joined, SpacePoint, Set, IsAt}
use Rattle.law_geometry.specs.complex.Prelude.{Complex, Shows, IsVertexPoint, IsEdgePoint}

-- joined points have equally many flat directions
abbrev pub JoinedAreAsFlat : Type 0
JoinedAreAsFlat = (s : Set) (p q : SpacePoint) (k : ℕ) → Joined s p q → FlatDim s p k → FlatDim s q k

-- points at two vertices are joined exactly where the vertices are one
abbrev pub JoinedVertices : Type 0
JoinedVertices = (s : Set) (C : Complex) (i j : ℕ) (p q : SpacePoint) → Shows s C → IsVertexPoint C i p → IsVertexPoint C j q → Joined s p q ↔ (i ≡ j)

-- points on two edges are joined exactly where the edges are one
abbrev pub JoinedEdges : Type 0
JoinedEdges = (s : Set) (C : Complex) (i j : ℕ) (p q : SpacePoint) → Shows s C → IsEdgePoint C i p → IsEdgePoint C j q → Joined s p q ↔ (i ≡ j)

-- ps holds one point of each component of the points with k flat directions
pub record AreComponents (s : Set) (k : ℕ) (ps : List SpacePoint) : Type 0 where
  pub flat : (i : ℕ) (p : SpacePoint) → IsAt ps i p → FlatDim s p k
  pub apart : (i j : ℕ) (p q : SpacePoint) → IsAt ps i p → IsAt ps j q → Joined s p q → i ≡ j
  pub all : (q : SpacePoint) → FlatDim s q k → (i : ℕ) × (p : SpacePoint) × IsAt ps i p × Joined s q p

-- the points of the set s with k flat directions have n components
abbrev pub HasComponents : Set → ℕ → ℕ → Type 0
HasComponents s k n = (ps : List SpacePoint) × (length ps ≡ n) × AreComponents s k ps

-- the number of components is unique
abbrev pub OneCount : Type 0
OneCount = (s : Set) (k m n : ℕ) → HasComponents s k m → HasComponents s k n → m ≡ n

-- the vertices are as many as the components for no flat direction, the edges as many as those for one
abbrev pub VerticesCounted : Type 0
VerticesCounted = (s : Set) (C : Complex) → Shows s C → HasComponents s 0 (length C.vertices)

abbrev pub EdgesCounted : Type 0
EdgesCounted = (s : Set) (C : Complex) → Shows s C → HasComponents s 1 (length C.edges)

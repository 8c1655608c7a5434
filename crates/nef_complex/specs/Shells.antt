-- The numbers of sfaces of sides, and the shells of a complex.
use Rattle.std.specs.Prelude.{◌≡◌, ◌∷◌, ◌⊎◌, ◌↔◌}
use Rattle.nef_space.specs.Prelude.{ℕ, pos, List, [], length, IsAt, Chained, IsBelow}
use Rattle.law_geometry.specs.sphere.Prelude.{InOrder}
use Rattle.nef_smap.specs.Sides.{AreSfaces}
use Rattle.law_geometry.specs.complex.Prelude.{Vertex, Complex, VertexSide}
use Rattle.law_geometry.specs.complex.links.Links.{LinkInSface, LinkAlongEdge, LinkAcrossFacet}
use Rattle.nef_complex.specs.Sides.{IsSideNumber}
use Rattle.nef_complex.specs.declared.parts.Side.{Side}

-- the table has for each vertex a row: the numbers of the sfaces of its sides
pub record SfaceNumbers (C : Complex) (rows : List (List ℕ)) : Type 0 where
  pub as_many : length rows ≡ length C.vertices
  pub row : (i : ℕ) (v : Vertex) (ns : List ℕ) → IsAt C.vertices i v → IsAt rows i ns → AreSfaces v.map ns

-- the links whose classes are the shells: the links of volumes but those down a ray and outside
abbrev pub ShellLink : Complex → VertexSide → VertexSide → Type 0
ShellLink C x y = LinkInSface C x y ⊎ LinkAlongEdge C x y ⊎ LinkAcrossFacet C x y

-- x is the side with this number of this vertex
abbrev pub IsSideNamed : Complex → Side → VertexSide → Type 0
IsSideNamed C s x = (x.vertex ≡ s.vertex) × IsSideNumber C x s.side

-- the order of named sides by their vertices and then by their numbers
abbrev pub IsNameBelow : Side → Side → Type 0
IsNameBelow s t = IsBelow (pos s.vertex ∷ pos s.side ∷ []) (pos t.vertex ∷ pos t.side ∷ [])

abbrev pub IsSideListed : List Side → Side → Type 0
IsSideListed h s = (k : ℕ) × IsAt h k s

-- the list has, in order, a side and exactly the sides that chains of links join with it
pub record IsShell (C : Complex) (h : List Side) : Type 0 where
  pub some : (s : Side) × IsAt h 0 s
  pub sides : (s : Side) → IsSideListed h s → (x : VertexSide) × IsSideNamed C s x
  pub class : (s t : Side) (x y : VertexSide) → IsSideListed h s → IsSideNamed C s x → IsSideNamed C t y → IsSideListed h t ↔ Chained (ShellLink C) x y
  pub ordered : InOrder IsNameBelow h

-- the order of shells by their first sides
abbrev pub IsShellBelow : List Side → List Side → Type 0
IsShellBelow g h = (s : Side) × (t : Side) × IsAt g 0 s × IsAt h 0 t × IsNameBelow s t

-- the shells of the sides that have P, in order
pub record Shells (C : Complex) (P : VertexSide → Type 0) (hs : List (List Side)) : Type 0 where
  pub shells : (i : ℕ) (h : List Side) → IsAt hs i h → IsShell C h
  pub within : (i : ℕ) (h : List Side) (s : Side) (x : VertexSide) → IsAt hs i h → IsSideListed h s → IsSideNamed C s x → P x
  pub complete : (x : VertexSide) → P x → (i : ℕ) × (h : List Side) × (s : Side) × IsAt hs i h × IsSideListed h s × IsSideNamed C s x
  pub ordered : InOrder IsShellBelow hs

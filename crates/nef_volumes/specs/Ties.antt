-- Sides as elements of a table, and which ties join them.
use Rattle.std.specs.Prelude.{◌≡◌, ◌+◌, ◌<◌, ◌≤◌, ◌∷◌, ◌++◌, ◌⊎◌, ℕ, List, length, map, Bool, true, false, cond, Option, Some, MatchOption}
use Rattle.std.specs.List.{Contains}
use Rattle.nef_geo.specs.Prelude.{IsAt, Chained, Label}
use Rattle.nef_space.specs.declared.label.Label.TheVariants.{Out}
use Rattle.law_geometry.specs.sphere.Maps.{MapVertex, Side, around_svertex, pos_item, neg_item, HasSide}
use Rattle.nef_smap.specs.Sides.{sides_of, IsSide, SeeOneWay, AreSfaces}
use Rattle.nef_smap.specs.SideNumbers.{side_number}
use Rattle.law_geometry.specs.complex.Prelude.{Vertex, Edge, Complex, Corner, VertexSide, HasSideLabel, RayDown}
use Rattle.nef_facets.specs.Prelude.{AreTied, cell_of}
use Rattle.nef_classes.specs.declared.table.Cell.{Cell}
use Rattle.nef_classes.specs.declared.table.Tie.{Tie}
use Rattle.law_geometry.specs.complex.links.Links.{FacetLink, IsSideOf, LinkDown, VolumeLink}
use Rattle.nef_complex.specs.Numbers.{count_sides}
use Rattle.nef_complex.specs.Shells.{ShellLink}

-- something with P was found, or nothing has P
abbrev pub Finds : {X : Type 0} → Option X → (X → Type 0) → Type 0
Finds {X} found P = MatchOption found ((x : X) → P x → ⊥) P

-- the element of the outside, alone in the first row
abbrev pub outside_cell : Cell
outside_cell = record { row = 0; column = 0 }

-- the element of side number s of vertex i; the vertices' rows come after that of the outside
abbrev pub side_cell : ℕ → ℕ → Cell
side_cell i s = record { row = i + 1; column = s }

-- how many elements the rows have
abbrev pub row_counts : Complex → List ℕ
row_counts C = 1 ∷ map count_sides C.vertices

-- the element is that of the side
pub record IsCellOf (C : Complex) (x : VertexSide) (a : Cell) : Type 0 where
  pub vertex : Vertex
  pub is_vertex : IsAt C.vertices x.vertex vertex
  pub label : Label
  pub has : HasSide vertex.map x.side label
  pub is_cell : a ≡ side_cell x.vertex (side_number vertex.map x.side)

-- the element is that of the side, or the side is outside and the element is that of the outside
abbrev pub IsEndOf : Complex → VertexSide → Cell → Type 0
IsEndOf C x a = IsCellOf C x a ⊎ ((a ≡ outside_cell) × HasSideLabel C x Out)

-- each tie joins elements of linked sides; End says which element a side has
abbrev pub AreLinks : (VertexSide → Cell → Type 0) → (VertexSide → VertexSide → Type 0) → List Tie → Type 0
AreLinks End Link ts = (t : Tie) → Contains ts t → (x : VertexSide) × (y : VertexSide) × End x t.first × End y t.second × Link x y

-- ties lead from the element of one side to that of the other
abbrev pub AreTiedSides : Complex → List Tie → VertexSide → VertexSide → Type 0
AreTiedSides C ts x y = (a : Cell) × (b : Cell) × IsCellOf C x a × IsCellOf C y b × Chained (AreTied ts) a b

-- the ties join elements of linked sides, and lead to each linked side
pub record AreTiesTo (C : Complex) (End : VertexSide → Cell → Type 0) (Link : VertexSide → VertexSide → Type 0) (ts : List Tie) : Type 0 where
  pub only : AreLinks End Link ts
  pub all : (x y : VertexSide) → Link x y → AreTiedSides C ts x y

-- of which each joins two sides
abbrev pub AreTiesOf : Complex → (VertexSide → VertexSide → Type 0) → List Tie → Type 0
AreTiesOf C Link ts = AreTiesTo C (IsCellOf C) Link ts

-- of which some join sides with the outside
abbrev pub AreTiesWithOutside : Complex → (VertexSide → VertexSide → Type 0) → List Tie → Type 0
AreTiesWithOutside C Link ts = AreTiesTo C (IsEndOf C) Link ts

-- ---- the outside
-- vertex i has the side with the number s, with the label
abbrev pub HasSideNumber : Complex → ℕ → ℕ → Label → Type 0
HasSideNumber C i s l = (v : Vertex) × (o : Side) × IsAt C.vertices i v × IsSide v.map s o l

-- the tie joins the outside with side s of vertex i, which has the label Out
abbrev pub IsTieOutside : Complex → ℕ → ℕ → Tie → Type 0
IsTieOutside C i s t = HasSideNumber C i s Out × (t ≡ record { first = outside_cell; second = side_cell i s })

-- ---- sfaces
-- the tie of sides r and s of vertex i
abbrev pub tie_within : ℕ → ℕ → ℕ → Tie
tie_within i r s = record { first = side_cell i r; second = side_cell i s }

-- the numbers are those of the sfaces of vertex i's sides
abbrev pub HasSfaces : Complex → ℕ → List ℕ → Type 0
HasSfaces C i ns = (v : Vertex) × IsAt C.vertices i v × AreSfaces v.map ns

-- the number first stands in the list under r
abbrev pub IsFirstNumber : List ℕ → ℕ → ℕ → Type 0
IsFirstNumber ns n r = IsAt ns r n × ((k : ℕ) → k < r → IsAt ns k n → ⊥)

-- the tie joins the first side of vertex i that has the number of side s with side s, a later one
abbrev pub IsTieNumbered : ℕ → List ℕ → ℕ → ℕ → Tie → Type 0
IsTieNumbered i ns s r t = (r < s) × (n : ℕ) × IsFirstNumber ns n r × IsAt ns s n × (t ≡ tie_within i r s)

-- vertex i has sides with the numbers r and s, which are of one sface
abbrev pub AreInOneSface : Complex → ℕ → ℕ → ℕ → Type 0
AreInOneSface C i r s = (v : Vertex) × IsAt C.vertices i v × (r < length (sides_of v.map)) × (s < length (sides_of v.map)) × Chained (SeeOneWay v.map) r s

-- the tie joins two sides of vertex i of one sface
abbrev pub IsTieInSface : Complex → ℕ → Tie → Type 0
IsTieInSface C i t = (r : ℕ) × (s : ℕ) × AreInOneSface C i r s × (t ≡ tie_within i r s)

-- us are the ties ts and some between sides of vertex i of one sface; they lead from each side of an sface to each other
pub record AddsInSfaces (C : Complex) (i : ℕ) (ts us : List Tie) : Type 0 where
  pub kept : (t : Tie) → Contains ts t → Contains us t
  pub added : (t : Tie) → Contains us t → Contains ts t ⊎ IsTieInSface C i t
  pub tied : (r s : ℕ) → AreInOneSface C i r s → Chained (AreTied us) (side_cell i r) (side_cell i s)

-- ---- sides of items
abbrev pub side_at : Bool → ℕ → Side
side_at above k = cond above (pos_item k) (neg_item k)

-- the element is that of the upper or the lower side of the item
abbrev pub IsItemSide : Complex → Bool → Cell → Cell → Type 0
IsItemSide C above x a = (v : Vertex) × IsAt C.vertices x.row v × (a ≡ side_cell x.row (side_number v.map (side_at above x.column)))

-- the tie joins the upper, or the lower, sides of the items that the other tie joins
abbrev pub IsSideTie : Complex → Bool → Tie → Tie → Type 0
IsSideTie C above t u = IsItemSide C above t.first u.first × IsItemSide C above t.second u.second

-- the tie joins sides of items that tie k of the list joins
abbrev pub IsTieOfItems : Complex → List Tie → ℕ → Tie → Type 0
IsTieOfItems C ts k u = (t : Tie) × IsAt ts k t × (IsSideTie C true t u ⊎ IsSideTie C false t u)

-- a tie of the list leads from the element of corner j to that of k
abbrev pub AreTiedCorners : List Tie → Corner → Corner → Type 0
AreTiedCorners ts j k = AreTied ts (cell_of j) (cell_of k)

-- both are upper sides of linked items, or both are lower sides
abbrev pub LinkOfItems : Complex → (Corner → Corner → Type 0) → VertexSide → VertexSide → Type 0
LinkOfItems C Link x y = (j : Corner) × (k : Corner) × Link j k
    × ((IsSideOf C x j.vertex (pos_item j.item) × IsSideOf C y k.vertex (pos_item k.item))
    ⊎ (IsSideOf C x j.vertex (neg_item j.item) × IsSideOf C y k.vertex (neg_item k.item)))

-- ---- edges
-- both are the sides round the ends of an edge
abbrev pub LinkOfEnds : Complex → VertexSide → VertexSide → Type 0
LinkOfEnds C x y = (k : ℕ) × (e : Edge) × IsAt C.edges k e
    × IsSideOf C x e.low (around_svertex e.low_svertex) × IsSideOf C y e.high (around_svertex e.high_svertex)

abbrev pub HasSvertex : Complex → ℕ → ℕ → Type 0
HasSvertex C i k = (v : Vertex) × (u : MapVertex) × IsAt C.vertices i v × IsAt v.map.svertices k u

-- the element is that of the side round svertex k of vertex i
abbrev pub IsAroundCell : Complex → ℕ → ℕ → Cell → Type 0
IsAroundCell C i k a = (v : Vertex) × (u : MapVertex) × (l : Label) × IsAt C.vertices i v × IsAt v.map.svertices k u × (u.around ≡ Some l)
    × (a ≡ side_cell i (side_number v.map (around_svertex k)))

-- the tie joins the sides round the ends of edge k
abbrev pub IsTieOfEnds : Complex → ℕ → Tie → Type 0
IsTieOfEnds C k t = (e : Edge) × IsAt C.edges k e × IsAroundCell C e.low e.low_svertex t.first × IsAroundCell C e.high e.high_svertex t.second

-- ---- rays down
-- the side lies above the point where the ray down from vertex i ends
abbrev pub IsSideAtRayDown : Complex → ℕ → VertexSide → Type 0
IsSideAtRayDown C i x = (v : Vertex) × IsAt C.vertices i v × RayDown C v.point x

-- the tie joins a side of vertex i with a side that the link down the ray joins with it
abbrev pub IsTieDown : Complex → ℕ → Tie → Type 0
IsTieDown C i t = (x : VertexSide) × (y : VertexSide) × (x.vertex ≡ i) × IsCellOf C x t.first × IsCellOf C y t.second × LinkDown C x y

-- no side of vertex i has a link down
abbrev pub HasNoLinkDown : Complex → ℕ → Type 0
HasNoLinkDown C i = (x y : VertexSide) → x.vertex ≡ i → LinkDown C x y → ⊥

-- the ties join sides that links down rays join, and there is one for each vertex that has such a link
pub record AreTiesDown (C : Complex) (ts : List Tie) : Type 0 where
  pub only : AreLinks (IsCellOf C) (LinkDown C) ts
  pub all : (x y : VertexSide) → LinkDown C x y → (t : Tie) × Contains ts t × IsTieDown C x.vertex t

-- the same of the vertices from start to before end alone
pub record AreDownBetween (C : Complex) (start end : ℕ) (ts : List Tie) : Type 0 where
  pub only : AreLinks (IsCellOf C) (LinkDown C) ts
  pub all : (x y : VertexSide) → LinkDown C x y → start ≤ x.vertex → x.vertex < end → (t : Tie) × Contains ts t × IsTieDown C x.vertex t

-- the element is that of a side above the point where the ray down from vertex i ends
abbrev pub IsFloorCell : Complex → ℕ → Cell → Type 0
IsFloorCell C i a = (x : VertexSide) × IsCellOf C x a × IsSideAtRayDown C i x

-- ---- all together
abbrev pub AreItemTies : Complex → List Tie → Type 0
AreItemTies C ts = AreTiesOf C (LinkOfItems C (FacetLink C)) ts

-- ties lead from the outside to each side that has the label Out
abbrev pub AreTiedOutside : Complex → List Tie → Type 0
AreTiedOutside C ts = (x : VertexSide) → HasSideLabel C x Out → (a : Cell) × IsCellOf C x a × Chained (AreTied ts) outside_cell a

-- with the ties of shells, the ties join the sides of volumes
pub record AreVolumeTies (C : Complex) (us : List Tie) : Type 0 where
  pub only : AreLinks (IsEndOf C) (VolumeLink C) us
  pub all : (ts : List Tie) → AreTiesOf C (ShellLink C) ts → AreTiesWithOutside C (VolumeLink C) (ts ++ us)
  pub outside : (ts : List Tie) → AreTiedOutside C (ts ++ us)

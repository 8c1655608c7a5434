-- Points that belong to a complex.
use Rattle.std.specs.Prelude.{◌≡◌, ◌<ℤ◌, ◌⊎◌}
use Rattle.nef_space.specs.Prelude.{pos, SpacePoint, toward, IsBetween, Vector, dot, IsAt}
use Rattle.nef_space.specs.declared.label.Label.{Label}
use Rattle.nef_space.specs.declared.label.Label.TheVariants.{In}
use Rattle.law_geometry.specs.sphere.Maps.{Item, item_normal, item_mark, item_pos, item_neg, dir_of, MapLabel, NearLabel}
use Rattle.law_geometry.specs.complex.Complexes.{Vertex, Edge, Complex, IsCorner}
use Rattle.law_geometry.specs.complex.Skeleton.{Spot, at_vertex, on_edge, in_facet, IsSpot, IsSkeletonPoint}

-- the mark l of a skeleton point
abbrev pub SpotMark : Complex → Spot → Label → Type 0
SpotMark C (at_vertex k) l = (v : Vertex) × IsAt C.vertices k v × (v.map.mark ≡ l)
SpotMark C (on_edge k) l = (e : Edge) × IsAt C.edges k e × (e.mark ≡ l)
SpotMark C (in_facet k) l = (v : Vertex) × (x : Item) × IsCorner C k v x × (item_mark x ≡ l)

-- the label of the item x above, on or below its plane, as d points
abbrev pub ItemLabel : Item → Vector → Label → Type 0
ItemLabel x d l = ((pos 0 <ℤ dot (item_normal x) d) × (item_pos x ≡ l)) ⊎ ((dot (item_normal x) d ≡ pos 0) × (item_mark x ≡ l)) ⊎ ((dot (item_normal x) d <ℤ pos 0) × (item_neg x ≡ l))

-- the label from a skeleton point toward the direction d
abbrev pub Towards : Complex → Spot → Vector → Label → Type 0
Towards C (at_vertex k) d l = (v : Vertex) × IsAt C.vertices k v × MapLabel v.map d l
Towards C (on_edge k) d l = (e : Edge) × (v : Vertex) × IsAt C.edges k e × IsAt C.vertices e.low v × NearLabel v.map (dir_of v.map.svertices e.low_svertex) d l
Towards C (in_facet k) d l = (v : Vertex) × (x : Item) × IsCorner C k v x × ItemLabel x d l

-- the point p, off the skeleton, sees the skeleton point y: no skeleton point lies between p and y
pub record SeesSpot (C : Complex) (p : SpacePoint) (o : Spot) (y : SpacePoint) : Type 0 where
  pub off : IsSkeletonPoint C p → ⊥
  pub spot : IsSpot C o y
  pub clear : (q : SpacePoint) → IsBetween p q y → IsSkeletonPoint C q → ⊥

-- p is a skeleton point with the mark In, or sees a skeleton point that has the label In toward p
pub data Belongs (C : Complex) (p : SpacePoint) : Type 0 where
  on_skeleton : (o : Spot) → IsSpot C o p → SpotMark C o In → Belongs C p
  off_skeleton : (o : Spot) (y : SpacePoint) → SeesSpot C p o y → Towards C o (toward y p) In → Belongs C p

-- Places of a complex, the points that lie there, and the labels of places.
use Rattle.std.specs.Prelude.{◌≡◌}
use Rattle.nef_complex.specs.Prelude.{ℕ, Vector, Label, corner_of, IsAt}
use Rattle.nef_space.specs.Points.{SpacePoint, IsAhead, IsBetween}
use Rattle.law_geometry.specs.sphere.Maps.{MapSloop, Item, item_normal, item_pos, item_mark, item_neg, Side}
use Rattle.nef_smap.specs.Sides.{IsSide}
use Rattle.law_geometry.specs.complex.Prelude.{Vertex, Edge, Complex, IsCorner, HasVolumeSide}
use Rattle.law_geometry.specs.complex.Skeleton.{IsVertexPoint, IsEdgePoint, at_vertex, on_edge, in_facet, HasCorner, IsSkeletonPoint}
use Rattle.law_geometry.specs.complex.Belongs.{SpotMark}
use Rattle.nef_locate.specs.declared.point.Place.{Place}
use Rattle.nef_locate.specs.declared.point.Place.TheVariants as place

-- side j of vertex i is the side o, with the label l
abbrev pub IsSideWithLabel : Complex → ℕ → ℕ → Side → Label → Type 0
IsSideWithLabel C i j o l = (v : Vertex) × IsAt C.vertices i v × IsSide v.map j o l

-- the complex has the vertex, the edge, the corner or the side that the place names
abbrev pub IsPlaceIn : Complex → Place → Type 0
IsPlaceIn C (place.Vertex k) = (v : Vertex) × IsAt C.vertices k v
IsPlaceIn C (place.OnEdge k) = (e : Edge) × IsAt C.edges k e
IsPlaceIn C (place.InFacet k) = (v : Vertex) × (x : Item) × IsCorner C (corner_of k) v x
IsPlaceIn C (place.InVolume i j) = (o : Side) × (l : Label) × IsSideWithLabel C i j o l

-- the point y lies at the place: it is the vertex, lies on the edge, has the corner, or has the side
abbrev pub IsPlaceAt : Complex → SpacePoint → Place → Type 0
IsPlaceAt C y (place.Vertex k) = IsVertexPoint C k y
IsPlaceAt C y (place.OnEdge k) = IsEdgePoint C k y
IsPlaceAt C y (place.InFacet k) = HasCorner C y (corner_of k)
IsPlaceAt C y (place.InVolume i j) = (o : Side) × (l : Label) × IsSideWithLabel C i j o l × HasVolumeSide C y (record { vertex = i; side = o })

-- the label of the place: the mark of its vertex, edge or item, or the label of its side
abbrev pub IsPlaceLabel : Complex → Place → Label → Type 0
IsPlaceLabel C (place.Vertex k) l = SpotMark C (at_vertex k) l
IsPlaceLabel C (place.OnEdge k) l = SpotMark C (on_edge k) l
IsPlaceLabel C (place.InFacet k) l = SpotMark C (in_facet (corner_of k)) l
IsPlaceLabel C (place.InVolume i j) l = (o : Side) × IsSideWithLabel C i j o l

-- the sloop l is the plane of the item, with the item's labels
pub record IsPlaneOf (x : Item) (l : MapSloop) : Type 0 where
  pub normal : item_normal x ≡ l.normal
  pub pos : item_pos x ≡ l.pos
  pub mark : item_mark x ≡ l.mark
  pub neg : item_neg x ≡ l.neg

-- the number of flat directions at points of the place
abbrev pub place_dimension : Place → ℕ
place_dimension (place.Vertex k) = 0
place_dimension (place.OnEdge k) = 1
place_dimension (place.InFacet k) = 2
place_dimension (place.InVolume i j) = 3

-- the first skeleton point ahead of p along d lies at the place
pub record IsFirstHit (C : Complex) (p : SpacePoint) (d : Vector) (a : Place) : Type 0 where
  pub place : SpacePoint
  pub ahead : IsAhead p d place
  pub skeleton : IsSkeletonPoint C place
  pub at : IsPlaceAt C place a
  pub first : (q : SpacePoint) → IsBetween p q place → IsSkeletonPoint C q → ⊥

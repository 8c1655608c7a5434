-- The numbered sides of a map, the place of a direction, and the sfaces of a map.
use Rattle.std.specs.Prelude.{◌≡◌, ◌<◌, ◌∷◌, ◌++◌, ℕ, suc, List, [], length, Option, Some, None}
use Rattle.nef_space.specs.Prelude.{IsAt, NumbersClasses, Vector, SameDirection}
use Rattle.nef_space.specs.declared.label.Label.{Label}
use Rattle.law_geometry.specs.sphere.Maps.{MapVertex, Arc, MapSloop, Item, arc_item, sloop_item, Map, items, item_pos, item_neg, OnItem, Side, around_svertex, pos_item, neg_item, whole, Sees}
use Rattle.nef_smap.specs.declared.map.SPlace.{SPlace}
use Rattle.nef_smap.specs.declared.map.SPlace.TheVariants as place

-- a side with its label
abbrev pub LabelledSide : Type 0
LabelledSide = Side × Label

abbrev pub labelled : Side → Option Label → List LabelledSide
labelled o None = []
labelled o (Some l) = (o, l) ∷ []

-- the labelled sides round svertices, where the first svertex has the number k
abbrev pub svertex_sides : ℕ → List MapVertex → List LabelledSide
svertex_sides k [] = []
svertex_sides k (v ∷ vs) = labelled (around_svertex k) v.around ++ svertex_sides (suc k) vs

-- the labelled sides of items, where the first item has the number k
abbrev pub item_sides : ℕ → List Item → List LabelledSide
item_sides k [] = []
item_sides k (x ∷ xs) = (pos_item k, item_pos x) ∷ (neg_item k, item_neg x) ∷ item_sides (suc k) xs

-- the labelled sides by number: the sides round svertices without arcs, both sides of each item, the ground
abbrev pub sides_of : Map → List LabelledSide
sides_of M = svertex_sides 0 M.svertices ++ item_sides 0 (items M) ++ labelled whole M.ground

-- side s of the map is o, with the label l
abbrev pub IsSide : Map → ℕ → Side → Label → Type 0
IsSide M s o l = IsAt (sides_of M) s (o, l)

-- side s sees d
abbrev pub SideSees : Map → ℕ → Vector → Type 0
SideSees M s d = (o : Side) × (l : Label) × IsSide M s o l × Sees M o d

-- the direction d lies at the place of the map
abbrev pub IsPlaceOf : Map → Vector → SPlace → Type 0
IsPlaceOf M d (place.SVertex k) = (v : MapVertex) × IsAt M.svertices k v × SameDirection v.dir d
IsPlaceOf M d (place.Arc k) = (a : Arc) × IsAt M.arcs k a × OnItem M (arc_item a) d
IsPlaceOf M d place.Loop = (l : MapSloop) × (M.sloop ≡ Some l) × OnItem M (sloop_item l) d
IsPlaceOf M d (place.Face s) = SideSees M s d

-- sides s and t see one direction
abbrev pub SeeOneWay : Map → ℕ → ℕ → Type 0
SeeOneWay M s t = (d : Vector) × SideSees M s d × SideSees M t d

-- ns has for each side the number of its sface, by first appearance
pub record AreSfaces (M : Map) (ns : List ℕ) : Type 0 where
  pub as_many : length ns ≡ length (sides_of M)
  pub numbered : NumbersClasses (SeeOneWay M) (λ s t. s < t) 0 (λ s n. IsAt ns s n)

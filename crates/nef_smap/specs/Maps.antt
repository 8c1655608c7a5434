-- The program's sphere maps as maps of any size, and what holds of each sphere map.
use Rattle.nef_geo.specs.Prelude.{Label, ℕ, map, Some, option_map, Option, All, normal_limit, svertex_limit, IsAtMost, vector_of}
use Rattle.std.specs.Prelude.{◌≡◌}
use Rattle.law_geometry.specs.sphere.Prelude.{IsAt, MapVertex, Arc, MapSloop, Item, Map, items, item_normal, Valid, Least, Ordered, RawMap}
use Rattle.nef_star.specs.Stars.{star_of, IsStar}
use Rattle.nef_smap.specs.declared.map.SVertex.{SVertex}
use Rattle.nef_smap.specs.declared.map.SArc.{SArc}
use Rattle.nef_smap.specs.declared.map.SLoop.{SLoop}
use Rattle.nef_smap.specs.declared.map.SphereMap.{SphereMap}
use Rattle.nef_smap.specs.declared.map.RawStars.{RawStars}

abbrev pub svertex_of : SVertex → MapVertex
svertex_of v = record { dir = vector_of v.dir; mark = v.mark; around = v.around }

abbrev pub arc_of : SArc → Arc
arc_of a = record { normal = vector_of a.normal; source = a.source; target = a.target; pos = a.pos; mark = a.mark; neg = a.neg }

abbrev pub sloop_of : SLoop → MapSloop
sloop_of l = record { normal = vector_of l.normal; pos = l.pos; mark = l.mark; neg = l.neg }

abbrev pub map_of : SphereMap → Map
map_of m = let ground : Option Label = m.ground in record { mark = m.mark; svertices = map svertex_of m.svertices; arcs = map arc_of m.arcs; sloop = option_map sloop_of m.sloop; ground = ground }

abbrev pub raw_of : RawStars → RawMap
raw_of r = let ground : Option Label = r.ground in record { mark = r.mark; stars = map star_of r.stars; sloop = option_map sloop_of r.sloop; ground = ground }

-- the numbers of the map's svertices and normals are within their limits
pub record IsSmall (M : Map) : Type 0 where
  pub svertices : (k : ℕ) (v : MapVertex) → IsAt M.svertices k v → IsAtMost svertex_limit v.dir
  pub normals : (k : ℕ) (x : Item) → IsAt (items M) k x → IsAtMost normal_limit (item_normal x)

-- the map is valid, its lists are in order, and its numbers are small
pub record IsSphereMap (m : SphereMap) : Type 0 where
  pub valid : Valid (map_of m)
  pub ordered : Ordered (map_of m)
  pub small : IsSmall (map_of m)

pub record IsLeastMap (m : SphereMap) : Type 0 where
  pub sphere_map : IsSphereMap m
  pub least : Least (map_of m)

-- the stars are stars, and the circle's normal is small, whatever the raw stars show
pub record IsRawStars (r : RawStars) : Type 0 where
  pub stars : All IsStar r.stars
  pub circle_small : (l : SLoop) → r.sloop ≡ Some l → IsAtMost normal_limit (vector_of l.normal)

-- The map of what an operation of topology makes of a set.
use Rattle.nef_spair.specs.Prelude.{SpacePoint, Set, Cone, map_of, IsLeastMap}
use Rattle.law_geometry.specs.sphere.border.Topology.{Topology, IsTopologyMap}
use Rattle.nef_smap.specs.declared.map.SphereMap.{SphereMap}

-- where the operation makes the set made s of each set s, n is the least map of made s if m shows s
pub record IsMadeBy (k : Topology) (made : Set → Set) (m n : SphereMap) : Type 0 where
  pub least : IsLeastMap n
  pub cone : (s : Set) (p : SpacePoint) → Cone (map_of m) s p → Cone (map_of n) (made s) p
  pub labels : IsTopologyMap k (map_of m) (map_of n)

-- The rays and the stars with an operation's marks, as far as they have been made.
use Rattle.std.specs.Prelude.{◌≡◌, ◌∷◌}
use Rattle.nef_spair.specs.Prelude.{ℕ, List, [], length, vector_of, IsAt, star_of, IsStar, map_of}
use Rattle.nef_space.specs.declared.label.Label.{Label}
use Rattle.law_geometry.specs.sphere.border.Topology.{Topology}
use Rattle.law_geometry.specs.sphere.border.Marks.{label_from, IsRemarkedAt}
use Rattle.nef_star.specs.declared.star.Ray.{Ray}
use Rattle.nef_star.specs.declared.star.Star.{Star}
use Rattle.nef_star.specs.Turning.{IsNext}
use Rattle.nef_smap.specs.declared.map.SVertex.{SVertex}
use Rattle.nef_smap.specs.declared.map.SphereMap.{SphereMap}

-- u is the ray r with the operation's mark, where the sectors beside r have the labels l and m
pub record IsRayMarked (k : Topology) (l m : Label) (r u : Ray) : Type 0 where
  pub normal : u.normal ≡ r.normal
  pub ahead : u.ahead ≡ r.ahead
  pub mark : u.mark ≡ label_from k r.mark (l ∷ m ∷ [])

-- us has the first n rays of t with the operation's marks
pub record AreRaysMarked (k : Topology) (t : Star) (n : ℕ) (us : List Ray) : Type 0 where
  pub as_many : length us ≡ n
  pub rays : (i j : ℕ) (r u : Ray) (l m : Label) → IsAt t.rays.items j r → IsAt us j u → IsNext (length t.rays.items) i j → IsAt t.sectors.items i l → IsAt t.sectors.items j m → IsRayMarked k l m r u

-- us has the stars at the first n svertices of the map with the operation's labels
pub record AreRemarked (k : Topology) (m : SphereMap) (n : ℕ) (us : List Star) : Type 0 where
  pub as_many : length us ≡ n
  pub stars : (i : ℕ) (v : SVertex) (u : Star) → IsAt m.svertices i v → IsAt us i u → IsStar u × IsRemarkedAt k (map_of m) (vector_of v.dir) (star_of u)

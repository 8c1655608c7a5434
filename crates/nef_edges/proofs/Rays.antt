-- Points on one line: those that come later in the order of points lie ahead.
use Rattle.nef_edges.proofs.Prelude.{◌≡◌, ℤ, pos, ◌-ℤ◌, ◌*ℤ◌, neg_ℤ, arith, ◌∙◌, [], ◌∷◌, ints, ring, at, neg, ◌⊕◌, ◌⊖◌, ◌⊗◌, SpacePoint, toward, IsAhead, IsBetween, IsPointBelow, Vector, dot, cross, opposite, IsZero, IsNormal, SameDirection, IsOpposite, on_line, SameDirection-turned, SameDirection-trans}
use Rattle.nef_space.proofs.Vectors.{dot-opposite}
use Rattle.law_geometry.proofs.sphere.Compare.{normals-same}
use Rattle.nef_space.proofs.Elementary.{minor-opposite, minor-opposite_back}
use Rattle.law_geometry.proofs.near.Normals.{normal-kept, toward-normal}

pub to_opposite : (d e : Vector) → IsOpposite d e → SameDirection d (opposite e)
to_opposite d e o =
    let z = o.parallel in
    record { parallel = (minor-opposite d.y d.z e.y e.z z.0, minor-opposite d.z d.x e.z e.x z.1, minor-opposite d.x d.y e.x e.y z.2); forward = let h = o.backward in let r = dot-opposite d e in omega (arith, ints) }

pub from_opposite : (d e : Vector) → SameDirection d (opposite e) → IsOpposite d e
from_opposite d e w = record { parallel = (minor-opposite_back d.y d.z e.y e.z w.parallel.0, minor-opposite_back d.z d.x e.z e.x w.parallel.1, minor-opposite_back d.x d.y e.x e.y w.parallel.2); backward = let h = w.forward in let r = dot-opposite d e in omega (arith, ints) }

-- two directions opposite to one are the same
pub opposites-same : (d a b : Vector) → IsOpposite d a → IsOpposite d b → SameDirection a b
opposites-same d a b g h = turned (SameDirection-trans (opposite a) d (opposite b) (SameDirection-turned d (opposite a) (to_opposite d a g)) (to_opposite d b h))
  where
    turned : SameDirection (opposite a) (opposite b) → SameDirection a b
    turned w = record { parallel = (each a.y a.z b.y b.z w.parallel.0, each a.z a.x b.z b.x w.parallel.1, each a.x a.y b.x b.y w.parallel.2); forward = let f = w.forward in let r = both in omega (arith, ints) }
      where
        both : dot (opposite a) (opposite b) ≡ dot a b
        both = ring (a.x ∷ a.y ∷ a.z ∷ b.x ∷ b.y ∷ b.z ∷ []) (neg (at 0) ⊗ neg (at 3) ⊕ neg (at 1) ⊗ neg (at 4) ⊕ neg (at 2) ⊗ neg (at 5)) (at 0 ⊗ at 3 ⊕ at 1 ⊗ at 4 ⊕ at 2 ⊗ at 5) tt

        each : (a b c d : ℤ) → neg_ℤ a *ℤ neg_ℤ d -ℤ neg_ℤ b *ℤ neg_ℤ c ≡ pos 0 → a *ℤ d -ℤ b *ℤ c ≡ pos 0
        each a b c d e = ring (a ∷ b ∷ c ∷ d ∷ []) (at 0 ⊗ at 3 ⊖ at 1 ⊗ at 2) (neg (at 0) ⊗ neg (at 3) ⊖ neg (at 1) ⊗ neg (at 2)) tt ∙ e

-- ---- points on one line, in order
-- a later point on the line through p along a normal d lies ahead
pub later-ahead : (p q : SpacePoint) (d : Vector) → IsNormal d → IsPointBelow p q → IsZero (cross (toward p q) d) → IsAhead p d q
later-ahead p q d n h z = normals-same (toward p q) d (toward-normal p q h) n z

-- and what lies ahead of p, later, lies along a normal
pub ahead-normal : (p q : SpacePoint) (d : Vector) → IsPointBelow p q → IsAhead p d q → IsNormal d
ahead-normal p q d h a = normal-kept (toward p q) d a (toward-normal p q h)

-- of three points in order on one line the second lies between the others
pub middle-between : (p u v : SpacePoint) (d : Vector) → IsNormal d → IsPointBelow p u → IsPointBelow u v → IsZero (cross (toward p u) d) → IsZero (cross (toward p v) d) → IsBetween p u v
middle-between p u v d n h k y z =
    SameDirection-trans (toward p u) d (toward u v) (later-ahead p u d n h y) (SameDirection-turned (toward u v) d (later-ahead u v d n k (on_line p u v d y z)))

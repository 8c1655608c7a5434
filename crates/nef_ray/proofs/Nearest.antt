-- What a ray meets in one plane.
use Rattle.nef_ray.proofs.Prelude.{SpacePoint, SamePoint, toward, IsAhead, IsBetween, Set, Vector, Label, IsCrossing, form_of, hit_point, Hit, Plane, carriers, germs-by_cell, Label-cells, signs-same, one-crossing, ahead-from, at-hit, IsUnchanged, SameDirection-turned, SameDirection-trans}

-- the ray crosses a plane at one point
pub crossings-same : (p : SpacePoint) (d : Vector) (h : Plane) (y q : SpacePoint) → IsCrossing p d (form_of h) y → IsCrossing p d (form_of h) q → SamePoint y q
crossings-same p d h y q Y Q = let v = Y.ahead in let w = Q.ahead in one-crossing (form_of h) d p y q v.parallel w.parallel (Y.on, Q.on) Q.passes

-- what doesn't change at a point doesn't change at an equal one
pub unchanged-same : (s : Set) (d : Vector) (m : Label) (q y : SpacePoint) → SamePoint q y → IsUnchanged s d m q → IsUnchanged s d m y
unchanged-same s d m q y e (h, g) = (Label-cells s m q y (signs-same (carriers s) q y e) h, (germs-by_cell s q y (signs-same (carriers s) q y e) d m).0 g)

-- where a hit doesn't lie before the point q, no crossing of its plane does
pub stays : (p : SpacePoint) (d : Vector) (h : Plane) (hit : Hit) → IsCrossing p d (form_of h) (hit_point hit) → (q : SpacePoint) → (IsAhead (hit_point hit) d q → ⊥) → (y : SpacePoint) → IsCrossing p d (form_of h) y → IsBetween p y q → ⊥
stays p d h hit X q n y Y b = n (ahead-from y (hit_point hit) q d (at-hit p d h hit X y Y) (SameDirection-trans (toward y q) (toward p y) d (SameDirection-turned (toward p y) (toward y q) b) Y.ahead))

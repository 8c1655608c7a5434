-- The planes that a ray crosses, listed one after another, sorted, and gone through.
use Rattle.nef_ray.proofs.Prelude.{◌≡◌, ℕ, ◌+◌, ◌<◌, List, [], ◌∷◌, ◌++◌, length, get_or, subst, refl, All, IsPermutation, All-contains, Contains-append_left, Contains-push, Contains, Contains-permutation, SpacePoint, IsCrossing, form_of, vector_of, point_of, Plane, IsAt, contains-at, at-contains, is-at_read, next-all, Crossed, RayStart, IsCrossedPlane, AreAllCrossed}
use Rattle.nef_complex.proofs.Reading.{all-more}

-- a plane that the ray crosses is among those crossed
abbrev pub CrossedListed : RayStart → List Crossed → Plane → Type 0
CrossedListed ray xs h = (y : SpacePoint) → IsCrossing (point_of ray.from) (vector_of ray.along) (form_of h) y → IsCrossedPlane xs h

-- each of the first n planes is
abbrev pub AreFirstCrossed : List Plane → RayStart → ℕ → List Crossed → Type 0
AreFirstCrossed hs ray n xs = (k : ℕ) (h : Plane) → k < n → IsAt hs k h → CrossedListed ray xs h

-- one more is listed
pub listed-more : (xs : List Crossed) (x : Crossed) (h : Plane) → IsCrossedPlane xs h → IsCrossedPlane (xs ++ x ∷ []) h
listed-more xs x h (z, i, e) = (z, Contains-append_left xs (x ∷ []) z i, e)

pub listed-last : (xs : List Crossed) (x : Crossed) → IsCrossedPlane (xs ++ x ∷ []) x.plane
listed-last xs x = (x, Contains-push xs x, refl)

-- a sort keeps them
pub sorted-kept : (hs : List Plane) (ray : RayStart) (xs zs : List Crossed) → IsPermutation xs zs → AreAllCrossed hs ray xs → AreAllCrossed hs ray zs
sorted-kept hs ray xs zs moved A k h a y X = let l = A k h a y X in (l.0, Contains-permutation xs zs l.0 moved l.1, l.2)

-- what holds of all those listed holds of all that are crossed
pub each-listed : (P : Plane → Type 0) (xs : List Crossed) → ((k : ℕ) (x : Crossed) → IsAt xs k x → P x.plane) → (h : Plane) → IsCrossedPlane xs h → P h
each-listed P xs f h (x, i, e) = let a = contains-at xs x i in subst P e (f a.0 x a.1)

-- what holds of all elements holds of the one read
pub one-listed : {X : Type 0} (P : X → Type 0) (xs zs : List X) (n : ℕ) (x : X) → zs ≡ xs → n < length zs → x ≡ get_or zs n x → All P xs → P x
one-listed {X} P xs zs n x e l r A = All-contains P xs x A (subst (λ (vs : List X). Contains vs x) e (at-contains zs n x (is-at_read zs n x l r)))

-- The way from one direction to another, and the item that the way meets first.
use Rattle.std.specs.Prelude.{◌≡◌, ℕ, ◌<◌, pos, ◌-ℤ◌, ◌*ℤ◌, ◌<ℤ◌, ◌≤ℤ◌, length}
use Rattle.nef_space.specs.Vectors.{Vector, IsDirection, dot, cross}
use Rattle.law_geometry.specs.near.Cones.{combination}
use Rattle.nef_space.specs.Lists.{IsAt}
use Rattle.law_geometry.specs.sphere.Maps.{Item, Map, items, item_normal, OnItem}
use Rattle.nef_smap.specs.declared.meets.SpherePath.{SpherePath}
use Rattle.nef_smap.specs.Linear.{IsLarge}
use Rattle.nef_smap.specs.WideVectors.{start_at, end_at}

-- (n.a)^2 b - (n.a)(n.b) a, a direction in the plane of n, on the way from a to b where the plane parts a and b
abbrev pub way_meet : Vector → Vector → Vector → Vector
way_meet n a b = combination (dot n a *ℤ dot n a) b (pos 0 -ℤ dot n a *ℤ dot n b) a

-- the way from a to b meets the item strictly between
pub record IsMetOnWay (M : Map) (a b : Vector) (x : Item) : Type 0 where
  pub parted : (dot (item_normal x) a *ℤ dot (item_normal x) b) <ℤ pos 0
  pub on : OnItem M x (way_meet (item_normal x) a b)

-- the way from a to b meets y before x: the way meets y on a's side of the plane of x
abbrev pub IsMetBefore : Vector → Vector → Item → Item → Type 0
IsMetBefore a b y x = pos 0 <ℤ (dot (item_normal x) a *ℤ dot (item_normal x) (way_meet (item_normal y) a b))

-- the way meets x, or b lies on x, and none of the first n items is met before x
pub record IsFirstMet (M : Map) (a b : Vector) (n : ℕ) (x : Item) : Type 0 where
  pub not_past : (dot (item_normal x) a *ℤ dot (item_normal x) b) ≤ℤ pos 0
  pub on : OnItem M x (way_meet (item_normal x) a b)
  pub none_before : (i : ℕ) (y : Item) → i < n → IsAt (items M) i y → IsMetOnWay M a b y → IsMetBefore a b y x → ⊥

-- no item's plane holds a, b isn't parallel to a, and b lies on the first item
pub record IsFair (M : Map) (a b : Vector) : Type 0 where
  pub planes : (k : ℕ) (x : Item) → IsAt (items M) k x → dot (item_normal x) a ≡ pos 0 → ⊥
  pub apart : IsDirection (cross a b)
  pub first : Item
  pub listed : IsAt (items M) 0 first
  pub on : OnItem M first b

-- P holds of the ends of the way for all large numbers at which these ends are fair to the map
abbrev pub OnFairPaths : Map → SpherePath → (Vector → Vector → Type 0) → Type 0
OnFairPaths M w P = (j k : ℕ) → IsLarge j k → IsFair M (start_at w j) (end_at w k) → P (start_at w j) (end_at w k)

-- where the way meets the plane of n, at the large numbers j and k
abbrev pub met_at : SpherePath → Vector → ℕ → ℕ → Vector
met_at w n j k = way_meet n (start_at w j) (end_at w k)

-- the way meets item k first, at all large numbers
abbrev pub MeetsFirst : Map → SpherePath → ℕ → Type 0
MeetsFirst M w k = (x : Item) × IsAt (items M) k x × OnFairPaths M w (λ a b. IsFirstMet M a b (length (items M)) x)

-- The axes of an overlay.
use Rattle.std.specs.Prelude.{◌≡◌, ◌⊎◌}
use Rattle.nef_geo.specs.Prelude.{ℕ, List, Option, Some, None, svertex_limit, Vector, IsAtMost, IsDirection, cross, SameDirection, vector_of}
use Rattle.std.specs.List.{Contains}
use Rattle.law_geometry.specs.sphere.Prelude.{VectorBelow, IsAt, Item, Map, items, item_normal, OnItem, InOrder}
use Rattle.law_geometry.specs.sphere.building.Overlays.{OnSvertex, IsAxis}
use Rattle.nef_sover.specs.declared.axes.Axis.{Axis}
use Rattle.nef_sover.specs.declared.axes.Track.{Track}
use Rattle.nef_sover.specs.Tracks.{track_normal, track_number, IsOnTrack}

-- the numbers of an item of each map, which cross in a direction
abbrev pub CrossedItems : Type 0
CrossedItems = Option (ℕ × ℕ)

-- some axis of xs has the direction of d
abbrev pub HasDirection : List Axis → Vector → Type 0
HasDirection xs d = (e : Axis) × Contains xs e × SameDirection (vector_of e.dir) d

-- ys has exactly the axes of xs and the axes with P
pub record AddsAxes (P : CrossedItems → Vector → Type 0) (xs ys : List Axis) : Type 0 where
  pub kept : (e : Axis) → Contains xs e → Contains ys e
  pub added : (e : Axis) → Contains ys e → Contains xs e ⊎ (P e.crossed (vector_of e.dir) × IsAtMost svertex_limit (vector_of e.dir))
  pub all : (c : CrossedItems) (d : Vector) → P c d → HasDirection ys d

-- d is the direction of a svertex, and c names no items
abbrev pub IsOnSvertex : Map → CrossedItems → Vector → Type 0
IsOnSvertex M c d = OnSvertex M d × (c ≡ None)

-- the items x and y both hold d
abbrev pub IsCommon : Track → Track → Vector → Type 0
IsCommon x y d = IsOnTrack x d × IsOnTrack y d

-- c has the numbers of the items x and y
abbrev pub NamesTracks : Track → Track → CrossedItems → Type 0
NamesTracks x y c = c ≡ Some (track_number x, track_number y)

-- the items x and y, which c names, both hold d, the direction of e
abbrev pub IsMeetAlong : Track → Track → Vector → CrossedItems → Vector → Type 0
IsMeetAlong x y e c d = IsCommon x y d × SameDirection e d × NamesTracks x y c

-- the items x and y, which c names, both hold d, and their normals aren't parallel
abbrev pub IsTrackMeet : Track → Track → CrossedItems → Vector → Type 0
IsTrackMeet x y c d = IsCommon x y d × IsDirection (cross (track_normal x) (track_normal y)) × NamesTracks x y c

-- the item x meets some item of ys at d
abbrev pub MeetsOne : Track → List Track → CrossedItems → Vector → Type 0
MeetsOne x ys c d = (k : ℕ) × (y : Track) × IsAt ys k y × IsTrackMeet x y c d

-- some item of xs meets some item of ys at d
abbrev pub MeetsSome : List Track → List Track → CrossedItems → Vector → Type 0
MeetsSome xs ys c d = (i : ℕ) × (x : Track) × IsAt xs i x × MeetsOne x ys c d

-- each direction of the list is below the later ones
abbrev pub AxesAreInOrder : List Axis → Type 0
AxesAreInOrder xs = InOrder (λ (x y : Axis). VectorBelow (vector_of x.dir) (vector_of y.dir)) xs

-- the axes of ys are among xs, and have each direction of xs
pub record HasEachOf (xs ys : List Axis) : Type 0 where
  pub among : (y : Axis) → Contains ys y → Contains xs y
  pub each : (x : Axis) → Contains xs x → (y : Axis) × Contains ys y × (y.dir ≡ x.dir)

-- item i of A meets item k of B, with another normal, at d
pub record IsCrossedAt (A B : Map) (i k : ℕ) (d : Vector) : Type 0 where
  pub x : Item
  pub y : Item
  pub of_a : IsAt (items A) i x
  pub of_b : IsAt (items B) k y
  pub apart : IsDirection (cross (item_normal x) (item_normal y))
  pub on_x : OnItem A x d
  pub on_y : OnItem B y d

-- c names no items, or two items that cross at d
abbrev pub CrossesAt : Map → Map → CrossedItems → Vector → Type 0
CrossesAt A B None d = Unit {0}
CrossesAt A B (Some p) d = IsCrossedAt A B p.0 p.1 d

-- xs has the axes of the overlay of A and B, in order
pub record AreAxes (A B : Map) (xs : List Axis) : Type 0 where
  pub ordered : AxesAreInOrder xs
  pub small : (e : Axis) → Contains xs e → IsAtMost svertex_limit (vector_of e.dir)
  pub axis : (e : Axis) → Contains xs e → IsAxis A B (vector_of e.dir)
  pub all : (d : Vector) → IsAxis A B d → HasDirection xs d
  pub placed : (e : Axis) → Contains xs e → CrossesAt A B e.crossed (vector_of e.dir)

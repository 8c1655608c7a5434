-- Tracks: the items of a map as sets of directions.
use Rattle.std.specs.Prelude.{◌≡◌, ◌↔◌, ℕ, List}
use Rattle.std.specs.List.{AllZip}
use Rattle.nef_smap.specs.Prelude.{normal_limit, Vector, IsAtMost, IsOnCircle, vector_of, normal_vector, IsOn}
use Rattle.nef_space.specs.Lists.{IsAt}
use Rattle.law_geometry.specs.sphere.Maps.{Map, Item as PlainItem, items, item_normal, OnItem}
use Rattle.nef_sover.specs.declared.axes.Track.{Track}
use Rattle.nef_sover.specs.declared.axes.Track.TheVariants.{Arc, Sloop}

abbrev pub track_normal : Track → Vector
track_normal (Arc k a) = normal_vector a
track_normal (Sloop k l) = vector_of l.normal

-- the direction is strictly on the arc, or on the sloop
abbrev pub IsOnTrack : Track → Vector → Type 0
IsOnTrack (Arc k a) d = IsOn a d
IsOnTrack (Sloop k l) d = IsOnCircle (vector_of l.normal) d

-- the number of the track's item
abbrev pub track_number : Track → ℕ
track_number (Arc k a) = k
track_number (Sloop k l) = k

-- the track i has the normal, the directions and the number of the item x of the map
pub record IsTrackOf (M : Map) (i : Track) (x : PlainItem) : Type 0 where
  pub normal : track_normal i ≡ item_normal x
  pub on : (d : Vector) → IsOnTrack i d ↔ OnItem M x d
  pub number : IsAt (items M) (track_number i) x

-- is has the tracks of the map's items, in order
abbrev pub AreTracks : Map → List Track → Type 0
AreTracks M is = AllZip (IsTrackOf M) is (items M)

-- the normals of the tracks are within their limit
abbrev pub AreSmallTracks : List Track → Type 0
AreSmallTracks is = (k : ℕ) (i : Track) → IsAt is k i → IsAtMost normal_limit (track_normal i)

-- What each link that the program makes joins.
use Rattle.std.specs.Prelude.{◌≡◌, ◌<◌}
use Rattle.nef_geo.specs.Prelude.{ℕ, List, length, Some, IsAt, up, Label}
use Rattle.std.specs.Borrow.{Bor}
use Rattle.law_geometry.specs.sphere.Maps.{MapVertex, Arc, MapSloop, Map, sloop_item, items, around_svertex, pos_item, whole}
use Rattle.nef_classes.specs.declared.forest.Link.{Link}
use Rattle.nef_smap.specs.declared.map.SphereMap.{SphereMap}
use Rattle.nef_smap.specs.Sides.{sides_of}
use Rattle.nef_smap.specs.SideNumbers.{side_number}
use Rattle.nef_smap.specs.Joined.{BelowFirsts, BelowFirst, ArcFirst, SloopFirst}
use Rattle.nef_smap.specs.Links.{met_number}

-- l joins what lies over the directions just below svertex k, on both sides of its meridian
abbrev pub JoinsBelow : Map → ℕ → Link → Type 0
JoinsBelow M k l = (v : MapVertex) × IsAt M.svertices k v × ((j : BelowFirsts M up v.dir) × (l.first ≡ met_number M j.left) × (l.second ≡ met_number M j.right))

-- l joins the side round svertex k with what lies over the directions just below the svertex
abbrev pub JoinsAround : Map → ℕ → Link → Type 0
JoinsAround M k l = (v : MapVertex) × (m : Label) × IsAt M.svertices k v × (v.around ≡ Some m)
    × ((j : BelowFirst M up v.dir) × (l.first ≡ side_number M (around_svertex k)) × (l.second ≡ met_number M j.first))

-- l joins the upper side of arc k with what lies over the arc
abbrev pub JoinsArc : Map → ℕ → Link → Type 0
JoinsArc M k l = (a : Arc) × IsAt M.arcs k a × ((j : ArcFirst M up a) × (l.first ≡ side_number M (pos_item k)) × (l.second ≡ met_number M j.first))

-- l joins the upper side of the sloop, which is item k, with what lies over the sloop
abbrev pub JoinsSloop : Map → ℕ → Link → Type 0
JoinsSloop M k l = (c : MapSloop) × IsAt (items M) k (sloop_item c) × ((j : SloopFirst M up c) × (l.first ≡ side_number M (pos_item k)) × (l.second ≡ met_number M j.first))

-- the link is what a call gives for a reference to the map and for the number
abbrev pub ComesOf : (Bor SphereMap → ℕ → Link → Type 0) → SphereMap → ℕ → Link → Type 0
ComesOf joins m k l = (at : Bor SphereMap) × (at.now ≡ m) × joins at k l

-- for each k below n link k of the list has P k
pub record AreEach (P : ℕ → Link → Type 0) (n : ℕ) (ls : List Link) : Type 0 where
  pub as_many : length ls ≡ n
  pub each : (k : ℕ) (l : Link) → IsAt ls k l → P k l

-- some link of the list has P
abbrev pub HasLink : List Link → (Link → Type 0) → Type 0
HasLink ls P = (i : ℕ) × (l : Link) × IsAt ls i l × P l

-- ls has a link for each svertex among the first n that has a label round the svertex
pub record AreArounds (M : Map) (n : ℕ) (ls : List Link) : Type 0 where
  pub only : (i : ℕ) (l : Link) → IsAt ls i l → (k : ℕ) × JoinsAround M k l
  pub each : (k : ℕ) (v : MapVertex) (m : Label) → k < n → IsAt M.svertices k v → v.around ≡ Some m → HasLink ls (JoinsAround M k)

-- l joins the ground with the upward direction
abbrev pub JoinsGround : Map → Link → Type 0
JoinsGround M l = (m : Label) × (M.ground ≡ Some m) × (l.first ≡ side_number M whole) × (l.second ≡ length (sides_of M))

-- ls has a link for the sloop, if there is one
pub record AreSloops (M : Map) (ls : List Link) : Type 0 where
  pub only : (i : ℕ) (l : Link) → IsAt ls i l → (k : ℕ) × JoinsSloop M k l
  pub each : (k : ℕ) (c : MapSloop) → IsAt (items M) k (sloop_item c) → HasLink ls (JoinsSloop M k)

-- ls has a link for the ground, if there is one
pub record AreGrounds (M : Map) (ls : List Link) : Type 0 where
  pub only : (i : ℕ) (l : Link) → IsAt ls i l → JoinsGround M l
  pub each : (m : Label) → M.ground ≡ Some m → HasLink ls (JoinsGround M)

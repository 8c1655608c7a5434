-- Topology by tables: new labels for a map, its stars and its circle, made of the labels that the map lists.
use Rattle.std.specs.Prelude.{◌≡◌, ◌∷◌, ◌++◌, ◌&&◌, ◌||◌, ℕ, List, [], map, length, Option, Some, None, option_map, Bool, true, false, cond, not}
use Rattle.nef_space.specs.Vectors.{Vector}
use Rattle.nef_space.specs.declared.label.Label.{Label}
use Rattle.nef_space.specs.declared.label.Label.TheVariants.{Out, Not, In}
use Rattle.law_geometry.specs.sphere.Prelude.{IsAt, MapVertex, Arc, MapSloop, Map, RawMap, IsWellFormed}
use Rattle.law_geometry.specs.sphere.Forms.{gather}
use Rattle.law_geometry.specs.sphere.Stars.{Ray, Star, StarShows, Follows}
use Rattle.law_geometry.specs.sphere.border.Topology.{Topology, interior, closure, boundary, complement}

-- ---- tables
abbrev pub is_in : Label → Bool
is_in Out = false
is_in Not = false
is_in In = true

abbrev pub all_in : List Label → Bool
all_in [] = true
all_in (l ∷ ls) = is_in l && all_in ls

abbrev pub some_in : List Label → Bool
some_in [] = false
some_in (l ∷ ls) = is_in l || some_in ls

-- whether the new label is In, by the own label l, whether all, and whether some, of the close labels are In
abbrev pub in_by : Topology → Label → Bool → Bool → Bool
in_by interior l all some = is_in l && all
in_by closure l all some = is_in l || some
in_by boundary l all some = (is_in l || some) && not (is_in l && all)
in_by complement l all some = not (is_in l)

abbrev pub label_by : Topology → Label → Bool → Bool → Label
label_by k Out all some = Out
label_by k Not all some = cond (in_by k Not all some) In Not
label_by k In all some = cond (in_by k In all some) In Not

-- the new label of a part with the label l and the close labels ls
abbrev pub label_from : Topology → Label → List Label → Label
label_from k l ls = label_by k l (all_in ls) (some_in ls)

-- the new label of a sface, where all close labels are the own label
abbrev pub face_label : Topology → Label → Label
face_label interior l = l
face_label closure l = l
face_label boundary Out = Out
face_label boundary Not = Not
face_label boundary In = Not
face_label complement Out = Out
face_label complement Not = In
face_label complement In = Not

-- ---- the labels of a map
abbrev pub option_labels : Option Label → List Label
option_labels None = []
option_labels (Some l) = l ∷ []

abbrev pub svertex_labels : MapVertex → List Label
svertex_labels v = v.mark ∷ option_labels v.around

abbrev pub arc_labels : Arc → List Label
arc_labels a = a.pos ∷ a.mark ∷ a.neg ∷ []

abbrev pub sloop_labels : Option MapSloop → List Label
sloop_labels None = []
sloop_labels (Some l) = l.pos ∷ l.mark ∷ l.neg ∷ []

abbrev pub map_labels : Map → List Label
map_labels M = gather svertex_labels M.svertices ++ (gather arc_labels M.arcs ++ (sloop_labels M.sloop ++ option_labels M.ground))

-- ---- stars and circles
abbrev pub ray_mark : Ray → Label
ray_mark r = r.mark

abbrev pub star_labels : Star → List Label
star_labels t = map ray_mark t.rays ++ t.sectors

-- the ray r with the mark l
abbrev pub marked : Ray → Label → Ray
marked r l = record { normal = r.normal; ahead = r.ahead; mark = l }

-- u is the star t with new marks: the axis by all rays and sectors, a ray by its two sectors, a sector as a sface
pub record IsRemarked (k : Topology) (t u : Star) : Type 0 where
  pub axis : u.axis ≡ t.axis
  pub mark : u.mark ≡ label_from k t.mark (star_labels t)
  pub as_many_rays : length u.rays ≡ length t.rays
  pub as_many_sectors : length u.sectors ≡ length t.sectors
  pub rays : (i j : ℕ) (r : Ray) (l m : Label) → IsAt t.rays j r → Follows t.rays i j → IsAt t.sectors i l → IsAt t.sectors j m → IsAt u.rays j (marked r (label_from k r.mark (l ∷ m ∷ [])))
  pub sectors : (j : ℕ) (l : Label) → IsAt t.sectors j l → IsAt u.sectors j (face_label k l)

-- u is the remarked star of the map M at the direction d
pub record IsRemarkedAt (k : Topology) (M : Map) (d : Vector) (u : Star) : Type 0 where
  pub star : Star
  pub axis : star.axis ≡ d
  pub well_formed : IsWellFormed star
  pub shows : StarShows star M
  pub remarked : IsRemarked k star u

abbrev pub sloop_by : Topology → MapSloop → MapSloop
sloop_by k l = record { normal = l.normal; pos = face_label k l.pos; mark = label_from k l.mark (l.pos ∷ l.neg ∷ []); neg = face_label k l.neg }

-- R has a remarked star for each svertex of M, in order, and the new mark, sloop and ground
pub record IsTopologyRaw (k : Topology) (M : Map) (R : RawMap) : Type 0 where
  pub mark : R.mark ≡ label_from k M.mark (map_labels M)
  pub as_many : length R.stars ≡ length M.svertices
  pub stars : (i : ℕ) (v : MapVertex) (u : Star) → IsAt M.svertices i v → IsAt R.stars i u → IsRemarkedAt k M v.dir u
  pub sloop : R.sloop ≡ option_map (sloop_by k) M.sloop
  pub ground : R.ground ≡ option_map (face_label k) M.ground

-- ---- all labels exchanged
abbrev pub exchanged : Label → Label
exchanged = face_label complement

abbrev pub exchanged_svertex : MapVertex → MapVertex
exchanged_svertex v = record { dir = v.dir; mark = exchanged v.mark; around = option_map exchanged v.around }

abbrev pub exchanged_arc : Arc → Arc
exchanged_arc a = record { normal = a.normal; source = a.source; target = a.target; pos = exchanged a.pos; mark = exchanged a.mark; neg = exchanged a.neg }

abbrev pub exchanged_sloop : MapSloop → MapSloop
exchanged_sloop l = record { normal = l.normal; pos = exchanged l.pos; mark = exchanged l.mark; neg = exchanged l.neg }

-- the map M with In and Not exchanged in all labels
abbrev pub exchanged_map : Map → Map
exchanged_map M = record {
  mark = exchanged M.mark;
  svertices = map exchanged_svertex M.svertices;
  arcs = map exchanged_arc M.arcs;
  sloop = option_map exchanged_sloop M.sloop;
  ground = option_map exchanged M.ground;
}

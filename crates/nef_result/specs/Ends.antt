-- The corners of the frame by the ends of its axes, and what the program's maps and vertices there say.
use Rattle.std.specs.Prelude.{◌≡◌, ◌*ℤ◌, ◌∷◌}
use Rattle.nef_space.specs.Prelude.{pos, ℤ, neg_ℤ, List, [], Bool, true, false, Sign, sign, half_side, SpacePoint, Vector, vector, dot, IsDirection}
use Rattle.nef_stopo.specs.Prelude.{Label, MapLabel, op_label, map_of, IsSphereMap, IsLeastMap}
use Rattle.nef_complex.specs.Prelude.{Out, point_of}
use Rattle.law_geometry.specs.sphere.Least.{by_side}
use Rattle.nef_star.specs.declared.star.Op.TheVariants.{And}
use Rattle.nef_smap.specs.declared.map.SphereMap.{SphereMap}
use Rattle.law_geometry.specs.sphere.Forms.{axis_x}
use Rattle.law_geometry.specs.sphere.Forms.{axis_y}
use Rattle.law_geometry.specs.sphere.Forms.{axis_z}
use Rattle.nef_complex.specs.declared.complex.Vertex.{Vertex}

-- the high end of an axis, or the low one
abbrev pub frame_end : Bool → ℤ
frame_end true = pos half_side
frame_end false = neg_ℤ (pos half_side)

-- a corner of the frame: for each axis whether it is at its high end
pub record FrameCorner : Type 0 where
  pub x : Bool
  pub y : Bool
  pub z : Bool

-- the corner of the frame at these ends
abbrev pub ends : Bool → Bool → Bool → FrameCorner
ends x y z = record { x = x; y = y; z = z }

-- all corners of the frame, in order
abbrev pub all_ends : List FrameCorner
all_ends = ends false false false ∷ ends false false true ∷ ends false true false ∷ ends false true true
    ∷ ends true false false ∷ ends true false true ∷ ends true true false ∷ ends true true true ∷ []

-- p is the corner
pub record IsFrameCornerAt (k : FrameCorner) (p : SpacePoint) : Type 0 where
  pub along_x : p.x ≡ frame_end k.x *ℤ pos p.w
  pub along_y : p.y ≡ frame_end k.y *ℤ pos p.w
  pub along_z : p.z ≡ frame_end k.z *ℤ pos p.w

-- by the sign along an axis, the label at a side of the frame at one of its ends: Out but on the inward side
abbrev pub at_wall : Bool → Label → Sign → Label
at_wall true l s = by_side Out Out l s
at_wall false l s = by_side l Out Out s

-- the map of the frame at a side of it
pub record IsWall (axis : Vector) (high : Bool) (l : Label) (m : SphereMap) : Type 0 where
  pub map : IsSphereMap m
  pub mark : m.mark ≡ Out
  pub labels : (d : Vector) → IsDirection d → MapLabel (map_of m) d (at_wall high l (sign (dot axis d)))

-- at the corner of the frame a direction has the label where it leads inward from all three sides, and is Out elsewhere
abbrev pub corner_label : Label → FrameCorner → Vector → Label
corner_label l k d = op_label And (op_label And (at_wall k.x l (sign (dot axis_x d))) (at_wall k.y l (sign (dot axis_y d)))) (at_wall k.z l (sign (dot axis_z d)))

-- the program's vertex at the corner of the frame
pub record IsFrameCornerOf (l : Label) (k : FrameCorner) (v : Vertex) : Type 0 where
  pub place : IsFrameCornerAt k (point_of v.point)
  pub mark : v.map.mark ≡ Out
  pub map : IsLeastMap v.map
  pub labels : (d : Vector) → IsDirection d → MapLabel (map_of v.map) d (corner_label l k d)

-- the vertices are those at the corners of the frame, one by one
abbrev pub AreFrameCorners : Label → List FrameCorner → List Vertex → Type 0
AreFrameCorners l [] [] = Unit {0}
AreFrameCorners l [] (v ∷ vs) = ⊥
AreFrameCorners l (k ∷ ks) [] = ⊥
AreFrameCorners l (k ∷ ks) (v ∷ vs) = IsFrameCornerOf l k v × AreFrameCorners l ks vs

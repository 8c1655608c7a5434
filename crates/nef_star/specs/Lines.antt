-- Great circles that cross in a direction, and the star there.
use Rattle.std.specs.Prelude.{◌≡◌, ◌∷◌, pos, Bool, true, false, not, cond, []}
use Rattle.nef_geo.specs.Prelude.{sign, normal_limit, Vector, dot, cross, IsDirection, IsAtMost, IsNormal, Label, vector_of}
use Rattle.nef_geo.specs.declared.dir.Dir.{Dir}
use Rattle.law_geometry.specs.sphere.Prelude.{by_side, StarLabel}
use Rattle.nef_star.specs.declared.rounds.CircleLabels.{CircleLabels}
use Rattle.nef_star.specs.declared.star.Op.{Op}
use Rattle.nef_star.specs.declared.star.Star.{Star}
use Rattle.nef_star.specs.Ops.{op_label}
use Rattle.nef_star.specs.Stars.{star_of}

-- the line runs through the axis, and its normal is in normal form
pub record IsOnAxis (axis : Vector) (x : CircleLabels) : Type 0 where
  pub level : dot (vector_of x.normal) axis ≡ pos 0
  pub small : IsAtMost normal_limit (vector_of x.normal)
  pub normal : IsNormal (vector_of x.normal)

-- the label at e: on the line or on one of its sides
abbrev pub circle_label : CircleLabels → Vector → Label
circle_label x e = by_side x.pos x.mark x.neg (sign (dot (vector_of x.normal) e))

-- t gives each direction the operation's label of the labels at both lines
abbrev pub IsCrossed : Op → Dir → CircleLabels → CircleLabels → Star → Type 0
IsCrossed op axis x y t = (e : Vector) (l : Label) → IsDirection (cross (vector_of axis) e) → StarLabel (star_of t) e l → l ≡ op_label op (circle_label x e) (circle_label y e)

-- the labels on both sides of the next ray, along y, which goes ahead if b: past this ray, and before it
abbrev pub past_of : Bool → CircleLabels → Label
past_of b y = cond b y.pos y.neg

abbrev pub before_of : Bool → CircleLabels → Label
before_of b y = cond b y.neg y.pos

-- t has the rays of both lines in turn, with the operation's labels
pub record IsFourRays (op : Op) (a : Dir) (x y : CircleLabels) (b : Bool) (t : Star) : Type 0 where
  pub axis : t.axis ≡ a
  pub mark : t.mark ≡ op_label op x.mark y.mark
  pub rays : t.rays.items ≡ record { normal = x.normal; ahead = true; mark = op_label op x.mark (before_of b y) } ∷ record { normal = y.normal; ahead = b; mark = op_label op x.pos y.mark }
      ∷ record { normal = x.normal; ahead = false; mark = op_label op x.mark (past_of b y) } ∷ record { normal = y.normal; ahead = not b; mark = op_label op x.neg y.mark } ∷ []
  pub sectors : t.sectors.items ≡ op_label op x.pos (before_of b y) ∷ op_label op x.pos (past_of b y) ∷ op_label op x.neg (past_of b y) ∷ op_label op x.neg (before_of b y) ∷ []

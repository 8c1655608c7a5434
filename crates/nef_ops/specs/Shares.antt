-- The share of the frame that a set holds close to a point, what is known of a point in a complex, and which map is
-- that of a combination at a point.
use Rattle.std.specs.Prelude.{◌≡◌}
use Rattle.nef_complex.specs.Prelude.{Bool, true, false, Some, HasLabel, Germ, SpacePoint, Set, Vector, IsDirection, Label, Out, Not, In, Cone, complex_of}
use Rattle.law_geometry.specs.near.Cones.{label_not}
use Rattle.nef_smap.specs.declared.map.SVertex.{SVertex}
use Rattle.nef_cand.specs.declared.named.Operand.{Operand}
use Rattle.nef_result.specs.Prelude.{First, Second, Op, SphereMap, map_of, IsLeastMap, op_set}
use Rattle.law_geometry.specs.sphere.Maps.{Map, MapLabel, Item, item_pos, item_mark, item_neg}
use Rattle.nef_star.specs.Ops.{op_label}
use Rattle.nef_ops.specs.declared.share.Share.{Share}
use Rattle.nef_ops.specs.declared.share.Share.TheVariants.{Nothing, Everything, Part}
use Rattle.nef_ops.specs.declared.local.MapChoice.{MapChoice}
use Rattle.nef_ops.specs.declared.local.MapChoice.TheVariants.{One, Both}
use Rattle.nef_complex.specs.declared.complex.Complex.{Complex}
use Rattle.nef_locate.specs.Places.{IsPlaceIn, IsPlaceAt}
use Rattle.nef_ops.specs.declared.local.Finding.{Finding}
use Rattle.nef_ops.specs.declared.local.Finding.TheVariants.{At, Far}
use Rattle.nef_ops.specs.Far.{IsUniformIn}

-- ---- labels that a map doesn't have
-- neither the point nor a direction has the label
pub record LacksLabel (l : Label) (M : Map) : Type 0 where
  pub mark : M.mark ≡ l → ⊥
  pub directions : (d : Vector) → MapLabel M d l → ⊥

pub record SvertexLacks (l : Label) (v : SVertex) : Type 0 where
  pub mark : v.mark ≡ l → ⊥
  pub around : v.around ≡ Some l → ⊥

-- neither the item nor a face beside it has the label
pub record ItemLacks (l : Label) (x : Item) : Type 0 where
  pub pos : item_pos x ≡ l → ⊥
  pub mark : item_mark x ≡ l → ⊥
  pub neg : item_neg x ≡ l → ⊥

-- ---- shares
-- a set with this share of the frame close to a point may have the label at the point or in a direction
abbrev pub InShare : Share → Label → Type 0
InShare Nothing l = l ≡ In → ⊥
InShare Everything l = l ≡ Not → ⊥
InShare Part l = Unit {0}

-- the set has this share of the frame close to p, by the labels of the point and of all directions
pub record HasShare (f : Share) (s : Set) (p : SpacePoint) : Type 0 where
  pub mark : (l : Label) → HasLabel s p l → InShare f l
  pub germs : (d : Vector) (l : Label) → IsDirection d → Germ s p d l → InShare f l

-- labels of two sets at one point: both are Out or neither is
abbrev pub AgreeOnOut : Label → Label → Type 0
AgreeOnOut Out Out = Unit {0}
AgreeOnOut Out Not = ⊥
AgreeOnOut Out In = ⊥
AgreeOnOut Not Out = ⊥
AgreeOnOut Not Not = Unit {0}
AgreeOnOut Not In = Unit {0}
AgreeOnOut In Out = ⊥
AgreeOnOut In Not = Unit {0}
AgreeOnOut In In = Unit {0}

-- ---- choices
-- of two values, one for each operand, that of this operand
abbrev pub either_of : {A : Type 0} → Operand → A → A → A
either_of First x y = x
either_of Second x y = y

-- the label, or, if turned, the label in the complement
abbrev pub complement_label_if : Bool → Label → Label
complement_label_if false l = l
complement_label_if true l = label_not l

-- the set, or, if turned, its complement
abbrev pub complement_if : Bool → Set → Set
complement_if false s = s
complement_if true s = Set.other s

-- the chosen map has the operation's label of k and l; Both isn't looked at
abbrev pub GivesLabel : MapChoice → Op → Label → Label → Type 0
GivesLabel (One o turned) op k l = op_label op k l ≡ complement_label_if turned (either_of o k l)
GivesLabel Both op k l = Unit {0}

-- the choice gives the operation's labels wherever two sets have these shares
abbrev pub IsRightChoice : MapChoice → Op → Share → Share → Type 0
IsRightChoice w op f g = (k l : Label) → AgreeOnOut k l → InShare f k → InShare g l → GivesLabel w op k l

-- the choice gives the operation's labels for some two shares that s and t have at p
abbrev pub LeadsAt : MapChoice → Op → Set → Set → SpacePoint → Type 0
LeadsAt w op s t p = (f : Share) × (g : Share) × HasShare f s p × HasShare g t p × IsRightChoice w op f g

-- m is the least map of the combination of any two sets that the first two maps show
pub record IsCombinedMap (op : Op) (first second m : SphereMap) : Type 0 where
  pub least : IsLeastMap m
  pub cone : (s t : Set) (p : SpacePoint) → Cone (map_of first) s p → Cone (map_of second) t p → Cone (map_of m) (op_set op s t) p

-- the complex has the place, if the finding is a place
abbrev pub IsFindingIn : Complex → Finding → Type 0
IsFindingIn c (At place) = IsPlaceIn (complex_of c) place
IsFindingIn c (Far label) = Unit {0}

-- the point lies at the place, or has the label with all points close to it
abbrev pub IsFoundAt : Complex → SpacePoint → Finding → Type 0
IsFoundAt c y (At place) = IsPlaceAt (complex_of c) y place
IsFoundAt c y (Far label) = IsUniformIn c y label

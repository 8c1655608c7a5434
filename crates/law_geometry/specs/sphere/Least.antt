-- Plain and straight directions of a map by its labels alone, least maps, and two maps that match part by part.
use Rattle.std.specs.Prelude.{◌≡◌, ◌<◌, ◌⊎◌}
use Rattle.nef_space.specs.Prelude.{ℕ, pos, List, Some, Sign, minus, nought, plus, sign, SpacePoint, Vector, IsDirection, cross, dot, SameDirection, HasLabel, Germ, Set, IsAt}
use Rattle.nef_space.specs.declared.label.Label.{Label}
use Rattle.law_geometry.specs.sphere.Vectors.{IsPrimitive, VectorBelow}
use Rattle.law_geometry.specs.sphere.Maps.{MapVertex, Arc, MapSloop, Map, Item, items, item_normal, item_pos, item_mark, item_neg, dir_of, MapLabel, NearLabel, Valid}

-- the label for a sign at a plane: a above, m in, b below the plane
abbrev pub by_side : Label → Label → Label → Sign → Label
by_side a m b plus = a
by_side a m b nought = m
by_side a m b minus = b

-- all directions close to d have the label of d
pub record NearPlain (M : Map) (d : Vector) : Type 0 where
  pub label : Label
  pub at_d : MapLabel M d label
  pub near : (e : Vector) → IsDirection (cross d e) → NearLabel M d e label

-- close to d, a plane through d has the label of d, and each side of this plane has one label
pub record NearStraight (M : Map) (d : Vector) : Type 0 where
  pub normal : Vector
  pub direction : IsDirection normal
  pub level : dot normal d ≡ pos 0
  pub pos : Label
  pub label : Label
  pub neg : Label
  pub at_d : MapLabel M d label
  pub near : (e : Vector) → IsDirection (cross d e) → NearLabel M d e (by_side pos label neg (sign (dot normal e)))

pub record Least (M : Map) : Type 0 where
  pub no_plain : (k : ℕ) (v : MapVertex) → IsAt M.svertices k v → NearPlain M v.dir → ⊥
  pub no_straight : (k : ℕ) (v : MapVertex) → IsAt M.svertices k v → NearStraight M v.dir → ⊥
  pub items_differ : (k : ℕ) (x : Item) → IsAt (items M) k x → item_pos x ≡ item_mark x → item_neg x ≡ item_mark x → ⊥

-- each direction with a label in M has the same label in N
abbrev pub SameLabels : Map → Map → Type 0
SameLabels M N = (d : Vector) (m : Label) → MapLabel M d m → MapLabel N d m

-- ---- maps that match
-- the arc of N that matches the arc a of M: in the direction of its normal, in its ends and in its labels
pub record MatchedArc (M N : Map) (a : Arc) : Type 0 where
  pub number : ℕ
  pub arc : Arc
  pub listed : IsAt N.arcs number arc
  pub normal : SameDirection a.normal arc.normal
  pub source : SameDirection (dir_of M.svertices a.source) (dir_of N.svertices arc.source)
  pub target : SameDirection (dir_of M.svertices a.target) (dir_of N.svertices arc.target)
  pub pos : a.pos ≡ arc.pos
  pub mark : a.mark ≡ arc.mark
  pub neg : a.neg ≡ arc.neg

pub record MatchedSloop (N : Map) (l : MapSloop) : Type 0 where
  pub sloop : MapSloop
  pub listed : N.sloop ≡ Some sloop
  pub normal : SameDirection l.normal sloop.normal
  pub pos : l.pos ≡ sloop.pos
  pub mark : l.mark ≡ sloop.mark
  pub neg : l.neg ≡ sloop.neg

pub record MatchedSvertex (N : Map) (v : MapVertex) : Type 0 where
  pub number : ℕ
  pub svertex : MapVertex
  pub listed : IsAt N.svertices number svertex
  pub dir : SameDirection v.dir svertex.dir
  pub mark : v.mark ≡ svertex.mark
  pub around : v.around ≡ svertex.around

-- each part of M has a matching part of N, up to the lengths of vectors and the order of the lists
pub record MatchesInto (M N : Map) : Type 0 where
  pub svertices : (k : ℕ) (v : MapVertex) → IsAt M.svertices k v → MatchedSvertex N v
  pub arcs : (k : ℕ) (a : Arc) → IsAt M.arcs k a → MatchedArc M N a
  pub sloop : (l : MapSloop) → M.sloop ≡ Some l → MatchedSloop N l
  pub ground : M.ground ≡ N.ground

-- the order of arcs: by normal, then by the number of the source
abbrev pub ArcBelow : Arc → Arc → Type 0
ArcBelow a b = VectorBelow a.normal b.normal ⊎ ((a.normal ≡ b.normal) × (a.source < b.source))

abbrev pub InOrder : {A : Type 0} → (A → A → Type 0) → List A → Type 0
InOrder {A} Below xs = (i k : ℕ) (x y : A) → i < k → IsAt xs i x → IsAt xs k y → Below x y

pub record Ordered (M : Map) : Type 0 where
  pub dirs_lowest : (k : ℕ) (v : MapVertex) → IsAt M.svertices k v → IsPrimitive v.dir
  pub normals_lowest : (k : ℕ) (x : Item) → IsAt (items M) k x → IsPrimitive (item_normal x)
  pub svertices : InOrder (λ (u v : MapVertex). VectorBelow u.dir v.dir) M.svertices
  pub arcs : InOrder ArcBelow M.arcs

-- the map M is valid and shows the germs of the set s at the point p
pub record Cone (M : Map) (s : Set) (p : SpacePoint) : Type 0 where
  pub valid : Valid M
  pub mark : HasLabel s p M.mark
  pub labels : (d : Vector) → IsDirection d → (m : Label) × MapLabel M d m × Germ s p d m

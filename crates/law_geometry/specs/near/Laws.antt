-- The laws on what a set looks like near a point. Each is a clause of a public function.
use Rattle.std.specs.Prelude.{◌≡◌, ◌<◌, ◌≤◌, ◌⊎◌, ◌↔◌}
use Rattle.nef_space.specs.Prelude.{ℕ, ℤ, pos, List, nought, sign, Lies, SpacePoint, Form, normal_of, slope, Ratio, step, Within, SamePoint, InFrame, InClosedFrame, toward, IsAhead, IsBetween, Set, Holds, Vector, dot, cross, IsZero, IsDirection, IsParallel, SameDirection}
use Rattle.nef_space.specs.Local.{HasLabel, SameSet, IsShort, Germ, Flat, FlatDim, IsVertex, IsEven, Joined}
use Rattle.nef_space.specs.declared.label.Label.{Label}
use Rattle.nef_space.specs.declared.label.Label.TheVariants.{Out, Not, In}
use Rattle.law_geometry.specs.near.Cells.{sign_at, carriers, SameSigns, SameSlopes, SameSlopesAt, IsInAllAt}
use Rattle.law_geometry.specs.near.Cones.{combination, NearGerm, FlatCone, SameCone, SameNear, IsMeet, label_and, label_or, label_not, label_less, label_one_of}
use Rattle.law_geometry.specs.near.Homogeneous.{IsOnSegment}

-- ---- cells
-- where two points lie on the same sides of all carriers, the set holds at both or at neither
abbrev pub HoldsByCell : Type 0
HoldsByCell = (s : Set) (p q : SpacePoint) → SameSigns (carriers s) p q → Holds s p → Holds s q

-- points on the same sides of all carriers have the same label
abbrev pub LabelByCell : Type 0
LabelByCell = (s : Set) (p q : SpacePoint) (l : Label) → SameSigns (carriers s) p q → HasLabel s p l → HasLabel s q l

-- points on the same sides of all carriers have the same germs
abbrev pub GermByCell : Type 0
GermByCell = (s : Set) (p q : SpacePoint) (d : Vector) (l : Label) → SameSigns (carriers s) p q → Germ s p d l → Germ s q d l

-- points on the same sides of all carriers have the same flat directions
abbrev pub FlatByCell : Type 0
FlatByCell = (s : Set) (p q : SpacePoint) (d : Vector) → SameSigns (carriers s) p q → Flat s p d → Flat s q d

-- points on the same sides of all carriers have as many independent flat directions
abbrev pub FlatDimByCell : Type 0
FlatDimByCell = (s : Set) (p q : SpacePoint) (k : ℕ) → SameSigns (carriers s) p q → FlatDim s p k → FlatDim s q k

-- equal points lie on the same sides of all planes
abbrev pub SignsAtSamePoint : Type 0
SignsAtSamePoint = (hs : List Form) (p q : SpacePoint) → SamePoint p q → SameSigns hs p q

-- a set holds at both of two equal points or at neither
abbrev pub HoldsAtSamePoint : Type 0
HoldsAtSamePoint = (s : Set) (p q : SpacePoint) → SamePoint p q → Holds s p → Holds s q

-- equal points have the same label
abbrev pub LabelAtSamePoint : Type 0
LabelAtSamePoint = (s : Set) (p q : SpacePoint) (l : Label) → SamePoint p q → HasLabel s p l → HasLabel s q l

-- equal points have the same germs in equal directions
abbrev pub GermAtSamePoint : Type 0
GermAtSamePoint = (s : Set) (p q : SpacePoint) (d e : Vector) (l : Label) → SamePoint p q → SameDirection d e → Germ s p d l → Germ s q e l

-- equal points have as many independent flat directions
abbrev pub FlatDimAtSamePoint : Type 0
FlatDimAtSamePoint = (s : Set) (p q : SpacePoint) (k : ℕ) → SamePoint p q → FlatDim s p k → FlatDim s q k

-- ---- cones
-- each point has a label
abbrev pub LabelExists : Type 0
LabelExists = (s : Set) (p : SpacePoint) → (l : Label) × HasLabel s p l

-- each point has one label only
abbrev pub LabelIsUnique : Type 0
LabelIsUnique = (s : Set) (p : SpacePoint) (l m : Label) → HasLabel s p l → HasLabel s p m → l ≡ m

-- each direction has a germ
abbrev pub GermExists : Type 0
GermExists = (s : Set) (p : SpacePoint) (d : Vector) → (l : Label) × Germ s p d l

-- each direction has one germ only
abbrev pub GermIsUnique : Type 0
GermIsUnique = (s : Set) (p : SpacePoint) (d : Vector) (l m : Label) → Germ s p d l → Germ s p d m → l ≡ m

-- close to p the set is its cone: the label at q is the germ toward q
abbrev pub SetIsItsCone : Type 0
SetIsItsCone = (s : Set) (p : SpacePoint) → (n : ℕ) × (0 < n) × ((q : SpacePoint) → Within n p q → (l : Label) → HasLabel s q l ↔ Germ s p (toward p q) l)

-- close to p the label is the same all along a ray from p
abbrev pub LabelAlongRay : Type 0
LabelAlongRay = (s : Set) (p : SpacePoint) → (n : ℕ) × (0 < n) × ((q r : SpacePoint) → Within n p q → IsBetween p r q → (l : Label) → HasLabel s q l ↔ HasLabel s r l)

-- the germ is decided by the sides of the carriers through p to which the direction leads
abbrev pub GermBySlopes : Type 0
GermBySlopes = (s : Set) (p : SpacePoint) (d e : Vector) (l : Label) → SameSlopesAt (carriers s) p d e → Germ s p d l → Germ s p e l

-- the germ toward the zero vector is the label
abbrev pub GermTowardZero : Type 0
GermTowardZero = (s : Set) (p : SpacePoint) (d : Vector) (l : Label) → IsZero d → Germ s p d l ↔ HasLabel s p l

-- a point of the frame has no germ Out
abbrev pub NoGermOutInFrame : Type 0
NoGermOutInFrame = (s : Set) (p : SpacePoint) (d : Vector) → InFrame p → Germ s p d Out → ⊥

-- where the germ is Out doesn't depend on the set
abbrev pub GermOutForAll : Type 0
GermOutForAll = (s t : Set) (p : SpacePoint) (d : Vector) → Germ s p d Out → Germ t p d Out

-- ---- near directions
-- the germ at p + t d in the direction e, for small t, is the germ at p in the direction n d + e, for large n
abbrev pub GermOnRay : Type 0
GermOnRay = (s : Set) (p : SpacePoint) (d : Vector) → (n : ℕ) × (0 < n) × ((t : Ratio) → IsShort n t → (e : Vector) (l : Label) → Germ s (step p t d) e l ↔ NearGerm s p d e l)

-- each direction near d has a germ
abbrev pub NearGermExists : Type 0
NearGermExists = (s : Set) (p : SpacePoint) (d e : Vector) → (l : Label) × NearGerm s p d e l

-- each direction near d has one germ only
abbrev pub NearGermIsUnique : Type 0
NearGermIsUnique = (s : Set) (p : SpacePoint) (d e : Vector) (l m : Label) → NearGerm s p d e l → NearGerm s p d e m → l ≡ m

-- the germ near d toward the zero vector is that of d
abbrev pub NearGermTowardZero : Type 0
NearGermTowardZero = (s : Set) (p : SpacePoint) (d e : Vector) (l : Label) → IsZero e → NearGerm s p d e l ↔ Germ s p d l

-- the germ near d toward e is decided by the sides of the carriers through p to which d leads, or e where d lies in
-- them
abbrev pub NearGermBySlopes : Type 0
NearGermBySlopes = (s : Set) (p : SpacePoint) (d d' e e' : Vector) (l : Label) → SameSlopesAt (carriers s) p d d'
    → ((h : Form) → Lies (carriers s) h → sign_at h p ≡ nought → sign (slope h d) ≡ nought → sign (slope h e) ≡ sign (slope h e')) → NearGerm s p d e l → NearGerm s p d' e' l

-- close to p the cone at q is the cone at p near the direction toward q
abbrev pub ConeNearby : Type 0
ConeNearby = (s : Set) (p : SpacePoint) → (n : ℕ) × (0 < n) × ((q : SpacePoint) → Within n p q → (v : Vector) (l : Label) → Germ s q v l ↔ NearGerm s p (toward p q) v l)

-- ---- decisions
-- a set holds or doesn't hold
abbrev pub HoldsIsDecided : Type 0
HoldsIsDecided = (s : Set) (p : SpacePoint) → Holds s p ⊎ (Holds s p → ⊥)

-- a point has this label or hasn't
abbrev pub LabelIsDecided : Type 0
LabelIsDecided = (s : Set) (p : SpacePoint) (l : Label) → HasLabel s p l ⊎ (HasLabel s p l → ⊥)

-- a direction has this germ or hasn't
abbrev pub GermIsDecided : Type 0
GermIsDecided = (s : Set) (p : SpacePoint) (d : Vector) (l : Label) → Germ s p d l ⊎ (Germ s p d l → ⊥)

-- the germ near d toward e is l or isn't
abbrev pub NearGermIsDecided : Type 0
NearGermIsDecided = (s : Set) (p : SpacePoint) (d e : Vector) (l : Label) → NearGerm s p d e l ⊎ (NearGerm s p d e l → ⊥)

-- for finitely many planes there are finitely many vectors such that each vector leads to the same sides as one of them
abbrev pub Representatives : Type 0
Representatives = (hs : List Form) → (vs : List Vector) × ((d : Vector) → (v : Vector) × Lies vs v × SameSlopes hs d v)

-- finitely many vectors show all germs at a point
abbrev pub GermRepresentatives : Type 0
GermRepresentatives = (s : Set) (p : SpacePoint) → (vs : List Vector) × ((d : Vector) → (v : Vector) × Lies vs v × ((l : Label) → Germ s p d l ↔ Germ s p v l))

-- all germs at p are l, or there is one that isn't
abbrev pub AllGermsAreDecided : Type 0
AllGermsAreDecided = (s : Set) (p : SpacePoint) (l : Label) → ((d : Vector) → Germ s p d l) ⊎ ((d : Vector) × (Germ s p d l → ⊥))

-- all germs at p but that toward the zero vector are l, or there is one that isn't
abbrev pub AllDirectionsAreDecided : Type 0
AllDirectionsAreDecided = (s : Set) (p : SpacePoint) (l : Label) → ((d : Vector) → IsDirection d → Germ s p d l) ⊎ ((d : Vector) × IsDirection d × (Germ s p d l → ⊥))

-- all germs near d are l, or there is one that isn't
abbrev pub AllNearGermsAreDecided : Type 0
AllNearGermsAreDecided = (s : Set) (p : SpacePoint) (d : Vector) (l : Label) → ((e : Vector) → NearGerm s p d e l) ⊎ ((e : Vector) × (NearGerm s p d e l → ⊥))

-- two sets have equal cones at p or haven't
abbrev pub SameConeIsDecided : Type 0
SameConeIsDecided = (s t : Set) (p : SpacePoint) → SameCone s t p ⊎ (SameCone s t p → ⊥)

-- a direction is flat or isn't
abbrev pub FlatIsDecided : Type 0
FlatIsDecided = (s : Set) (p : SpacePoint) (d : Vector) → Flat s p d ⊎ (Flat s p d → ⊥)

-- each point has a number of independent flat directions
abbrev pub FlatDimExists : Type 0
FlatDimExists = (s : Set) (p : SpacePoint) → (k : ℕ) × FlatDim s p k

-- ---- flat directions
-- a direction is flat exactly where the germs don't change along it
abbrev pub FlatIsFlatCone : Type 0
FlatIsFlatCone = (s : Set) (p : SpacePoint) (d : Vector) → Flat s p d ↔ FlatCone s p d

-- a direction that lies in each carrier through p is flat
abbrev pub FlatInCarriers : Type 0
FlatInCarriers = (s : Set) (p : SpacePoint) (d : Vector) → IsInAllAt (carriers s) p d → Flat s p d

-- sums and multiples of flat directions are flat
abbrev pub FlatCombination : Type 0
FlatCombination = (s : Set) (p : SpacePoint) (d e : Vector) (j k : ℤ) → Flat s p d → Flat s p e → Flat s p (combination j d k e)

-- a direction is flat exactly where the cone near it is the cone
abbrev pub FlatIsNearCone : Type 0
FlatIsNearCone = (s : Set) (p : SpacePoint) (d : Vector) → Flat s p d ↔ ((v : Vector) (l : Label) → Germ s p v l ↔ NearGerm s p d v l)

-- whether a direction is flat is decided by the sides of the carriers through p to which it leads
abbrev pub FlatBySlopes : Type 0
FlatBySlopes = (s : Set) (p : SpacePoint) (d e : Vector) → SameSlopesAt (carriers s) p d e → Flat s p d → Flat s p e

-- directions that are flat at p are flat close to p, and there the way from p is flat too
abbrev pub FlatNearby : Type 0
FlatNearby = (s : Set) (p : SpacePoint) → (n : ℕ) × (0 < n) × ((q : SpacePoint) → Within n p q → Flat s q (toward p q) × ((d : Vector) → Flat s p d → Flat s q d))

-- with three independent flat directions all directions are flat
abbrev pub AllFlat : Type 0
AllFlat = (s : Set) (p : SpacePoint) (d : Vector) → FlatDim s p 3 → Flat s p d

-- outside the closed frame all directions are flat
abbrev pub FlatOutside : Type 0
FlatOutside = (s : Set) (p : SpacePoint) (d : Vector) → (InClosedFrame p → ⊥) → Flat s p d

-- outside the closed frame there are three independent flat directions
abbrev pub FlatDimOutside : Type 0
FlatDimOutside = (s : Set) (p : SpacePoint) → (InClosedFrame p → ⊥) → FlatDim s p 3

-- the number of independent flat directions is one number
abbrev pub FlatDimIsUnique : Type 0
FlatDimIsUnique = (s : Set) (p : SpacePoint) (j k : ℕ) → FlatDim s p j → FlatDim s p k → j ≡ k

-- a vertex is a meet of three carriers with independent normals
abbrev pub VertexIsMeet : Type 0
VertexIsMeet = (s : Set) (p : SpacePoint) → IsVertex s p → IsMeet (carriers s) p

-- e lies in each carrier through p that d lies in
abbrev pub IsHeldBy : Set → SpacePoint → Vector → Vector → Type 0
IsHeldBy s p d e = (h : Form) → Lies (carriers s) h → sign_at h p ≡ nought → slope h d ≡ pos 0 → slope h e ≡ pos 0

-- a direction that lies in each carrier through p that a flat direction lies in is flat
abbrev pub FlatWhereHeld : Type 0
FlatWhereHeld = (s : Set) (p : SpacePoint) (d e : Vector) → Flat s p d → IsHeldBy s p d e → Flat s p e

-- where one independent direction is flat, exactly its multiples are
abbrev pub FlatLine : Type 0
FlatLine = (s : Set) (p : SpacePoint) → FlatDim s p 1 → (d : Vector) × IsDirection d × ((v : Vector) → Flat s p v ↔ IsParallel d v)

-- where two independent directions are flat, exactly the directions of their plane are
abbrev pub FlatPlane : Type 0
FlatPlane = (s : Set) (p : SpacePoint) → FlatDim s p 2 → (n : Vector) × IsDirection n × ((v : Vector) → Flat s p v ↔ (dot n v ≡ pos 0))

-- two carriers through p; the flat directions are those that lie in both
pub record EdgeSupport (s : Set) (p : SpacePoint) : Type 0 where
  pub first : Form
  pub second : Form
  pub first_listed : Lies (carriers s) first
  pub second_listed : Lies (carriers s) second
  pub first_passes : sign_at first p ≡ nought
  pub second_passes : sign_at second p ≡ nought
  pub independent : IsDirection (cross (normal_of first) (normal_of second))
  pub flat_in : (v : Vector) → Flat s p v ↔ ((slope first v ≡ pos 0) × (slope second v ≡ pos 0))

-- a point with one flat direction has two such carriers
abbrev pub EdgeInCarriers : Type 0
EdgeInCarriers = (s : Set) (p : SpacePoint) → FlatDim s p 1 → EdgeSupport s p

-- a carrier through p; the flat directions are those that lie in it
pub record FacetSupport (s : Set) (p : SpacePoint) : Type 0 where
  pub plane : Form
  pub listed : Lies (carriers s) plane
  pub passes : sign_at plane p ≡ nought
  pub has_normal : IsDirection (normal_of plane)
  pub flat_in : (v : Vector) → Flat s p v ↔ (slope plane v ≡ pos 0)

-- a point with two flat directions has such a carrier
abbrev pub FacetInCarrier : Type 0
FacetInCarrier = (s : Set) (p : SpacePoint) → FlatDim s p 2 → FacetSupport s p

-- ---- combinations
-- the labels of combinations are the combinations of the labels l and m, where Has gives labels or germs
pub record LabelsCombine (a b : Set) (l m : Label) (Has : Set → Label → Type 0) : Type 0 where
  pub both : Has (Set.both a b) (label_and l m)
  pub either : Has (Set.either a b) (label_or l m)
  pub less : Has (Set.less a b) (label_less l m)
  pub one_of : Has (Set.one_of a b) (label_one_of l m)
  pub other : Has (Set.other a) (label_not l)

-- the label of a combination is the combination of the labels
abbrev pub LabelOfCombination : Type 0
LabelOfCombination = (a b : Set) (p : SpacePoint) (l m : Label) → HasLabel a p l → HasLabel b p m → LabelsCombine a b l m (λ s. HasLabel s p)

-- the germ of a combination is the combination of the germs
abbrev pub GermOfCombination : Type 0
GermOfCombination = (a b : Set) (p : SpacePoint) (d : Vector) (l m : Label) → Germ a p d l → Germ b p d m → LabelsCombine a b l m (λ s. Germ s p d)

-- the germ of a combination near a direction is the combination of the germs there
abbrev pub NearGermOfCombination : Type 0
NearGermOfCombination = (a b : Set) (p : SpacePoint) (d e : Vector) (l m : Label) → NearGerm a p d e l → NearGerm b p d e m → LabelsCombine a b l m (λ s. NearGerm s p d e)

-- d is flat for what each operation on two sets makes of a and b
pub record IsFlatForBoth (a b : Set) (p : SpacePoint) (d : Vector) : Type 0 where
  pub both : Flat (Set.both a b) p d
  pub either : Flat (Set.either a b) p d
  pub less : Flat (Set.less a b) p d
  pub one_of : Flat (Set.one_of a b) p d

-- a direction that is flat for both operands is flat for union, intersection, difference and symmetric difference
abbrev pub FlatOfTwo : Type 0
FlatOfTwo = (a b : Set) (p : SpacePoint) (d : Vector) → Flat a p d → Flat b p d → IsFlatForBoth a b p d

pub record IsFlatForOne (a : Set) (p : SpacePoint) (d : Vector) : Type 0 where
  pub other : Flat (Set.other a) p d
  pub inside : Flat (Set.inside a) p d
  pub closed : Flat (Set.closed a) p d
  pub border : Flat (Set.border a) p d
  pub regular : Flat (Set.regular a) p d

-- a direction that is flat for the operand is flat for complement, interior, closure, boundary and regularisation
abbrev pub FlatOfOne : Type 0
FlatOfOne = (a : Set) (p : SpacePoint) (d : Vector) → Flat a p d → IsFlatForOne a p d

-- ---- interior, closure, boundary and regularisation in terms of cones
-- the interior holds at p exactly where the operand's label and all its germs are In
abbrev pub InsideAt : Type 0
InsideAt = (a : Set) (p : SpacePoint) → HasLabel (Set.inside a) p In ↔ (HasLabel a p In × ((d : Vector) → Germ a p d In))

-- the closure holds at p exactly where p is in the frame, and the operand's label or some germ is In
abbrev pub ClosedAt : Type 0
ClosedAt = (a : Set) (p : SpacePoint) → HasLabel (Set.closed a) p In ↔ (InFrame p × (HasLabel a p In ⊎ ((d : Vector) × Germ a p d In)))

-- the boundary holds at p exactly where the operand's label or some germ is In, and its label or some germ is Not
abbrev pub BorderAt : Type 0
BorderAt = (a : Set) (p : SpacePoint) → HasLabel (Set.border a) p In ↔ ((HasLabel a p In ⊎ ((d : Vector) × Germ a p d In)) × (HasLabel a p Not ⊎ ((d : Vector) × Germ a p d Not)) × InFrame p)

-- the regularisation holds at p exactly where the operand's germs are In in all directions near some direction
abbrev pub RegularAt : Type 0
RegularAt = (a : Set) (p : SpacePoint) → HasLabel (Set.regular a) p In ↔ (InFrame p × ((d : Vector) × ((e : Vector) → NearGerm a p d e In)))

-- the interior is In toward d exactly where the operand is In toward d and in all directions near d
abbrev pub InsideToward : Type 0
InsideToward = (a : Set) (p : SpacePoint) (d : Vector) → Germ (Set.inside a) p d In ↔ (Germ a p d In × ((e : Vector) → NearGerm a p d e In))

-- the closure is In toward d exactly where the operand is In toward d or somewhere near d, and not Out toward d
abbrev pub ClosedToward : Type 0
ClosedToward = (a : Set) (p : SpacePoint) (d : Vector) → Germ (Set.closed a) p d In ↔ ((Germ a p d Out → ⊥) × (Germ a p d In ⊎ ((e : Vector) × NearGerm a p d e In)))

-- the boundary is In toward d exactly where the operand is In at or near d, and Not at or near d, and not Out toward d
abbrev pub BorderToward : Type 0
BorderToward = (a : Set) (p : SpacePoint) (d : Vector) → Germ (Set.border a) p d In ↔ ((Germ a p d In ⊎ ((e : Vector) × NearGerm a p d e In)) × (Germ a p d Not ⊎ ((e : Vector) × NearGerm a p d e Not)) × (Germ a p d Out → ⊥))

-- the regularisation is In toward d exactly where the interior is In somewhere near d, and the operand not Out toward d
abbrev pub RegularToward : Type 0
RegularToward = (a : Set) (p : SpacePoint) (d : Vector) → Germ (Set.regular a) p d In ↔ ((Germ a p d Out → ⊥) × ((e : Vector) × NearGerm (Set.inside a) p d e In))

-- ---- equal sets
-- sets are equal exactly where they have equal cones at all points
abbrev pub SameSetBySameCones : Type 0
SameSetBySameCones = (s t : Set) → SameSet s t ↔ ((p : SpacePoint) → SameCone s t p)

-- two sets have equal cones at p exactly where they agree close to p
abbrev pub SameConeIsSameNear : Type 0
SameConeIsSameNear = (s t : Set) (p : SpacePoint) → SameCone s t p ↔ SameNear s t p

-- sets with equal cones at p have the same flat directions
abbrev pub FlatBySameCone : Type 0
FlatBySameCone = (s t : Set) (p : SpacePoint) (d : Vector) → SameCone s t p → Flat s p d ↔ Flat t p d

-- sets with equal cones at p have as many independent flat directions
abbrev pub FlatDimBySameCone : Type 0
FlatDimBySameCone = (s t : Set) (p : SpacePoint) (k : ℕ) → SameCone s t p → FlatDim s p k ↔ FlatDim t p k

-- sets with equal cones at p have the same germs near each direction
abbrev pub NearGermBySameCone : Type 0
NearGermBySameCone = (s t : Set) (p : SpacePoint) (d e : Vector) (l : Label) → SameCone s t p → NearGerm s p d e l ↔ NearGerm t p d e l

-- equal sets join the same points
abbrev pub JoinedBySameSet : Type 0
JoinedBySameSet = (s t : Set) (p q : SpacePoint) → SameSet s t → Joined s p q → Joined t p q

-- ---- along a segment
-- each point of the segment agrees on Has with the points of the segment close to it
abbrev pub IsSettled : (SpacePoint → Type 0) → SpacePoint → SpacePoint → Type 0
IsSettled Has p q = (r : SpacePoint) → IsOnSegment p r q → (n : ℕ) × (0 < n) × ((s : SpacePoint) → IsOnSegment p s q → Within n r s → Has r ↔ Has s)

-- a label that changes close to no point of a segment is the same at both ends
abbrev pub LabelAlongSegment : Type 0
LabelAlongSegment = (s : Set) (l : Label) (p q : SpacePoint) → IsSettled (λ r. HasLabel s r l) p q → HasLabel s p l → HasLabel s q l

-- a number of flat directions that changes close to no point of a segment is the same at both ends
abbrev pub FlatDimAlongSegment : Type 0
FlatDimAlongSegment = (s : Set) (k : ℕ) (p q : SpacePoint) → IsSettled (λ r. FlatDim s r k) p q → FlatDim s p k → FlatDim s q k

-- Has holds at p and up to a point before q, where it changes: it fails at that point, which isn't p, or holds there
-- and fails from there on up to `next`
pub record FirstChange (Has : SpacePoint → Type 0) (p q : SpacePoint) : Type 0 where
  pub at_place : SpacePoint
  pub on_segment : SamePoint at_place p ⊎ IsBetween p at_place q
  pub stands_before : (r : SpacePoint) → IsBetween p r at_place → Has r
  pub change : ((Has at_place → ⊥) × IsBetween p at_place q) ⊎ (Has at_place × ((next : SpacePoint) × IsBetween at_place next q × ((r : SpacePoint) → IsBetween at_place r next → Has r → ⊥)))

-- the label stays all the way from p to q, the end left out, or there is a first point where it changes
abbrev pub LabelChangesFirst : Type 0
LabelChangesFirst = (s : Set) (l : Label) (p q : SpacePoint) → HasLabel s p l → ((r : SpacePoint) → IsBetween p r q → HasLabel s r l) ⊎ FirstChange (λ r. HasLabel s r l) p q

-- the number of flat directions stays all the way from p to q, the end left out, or there is a first change of it
abbrev pub FlatDimChangesFirst : Type 0
FlatDimChangesFirst = (s : Set) (k : ℕ) (p q : SpacePoint) → FlatDim s p k → ((r : SpacePoint) → IsBetween p r q → FlatDim s r k) ⊎ FirstChange (λ r. FlatDim s r k) p q

-- ---- edges and the ends of flat ways
-- fewer than k independent directions are flat at p
abbrev pub IsFlatBelow : Set → ℕ → SpacePoint → Type 0
IsFlatBelow s k p = (j : ℕ) × (j < k) × FlatDim s p j

-- close to p no point has fewer flat directions than p
abbrev pub FlatDimNearby : Type 0
FlatDimNearby = (s : Set) (p : SpacePoint) (k : ℕ) → FlatDim s p k → (n : ℕ) × (0 < n) × ((q : SpacePoint) → Within n p q → (j : ℕ) → FlatDim s q j → k ≤ j)

-- the first point strictly between p and q at which Has holds
pub record FirstPoint (Has : SpacePoint → Type 0) (p q : SpacePoint) : Type 0 where
  pub at_place : SpacePoint
  pub between : IsBetween p at_place q
  pub holds : Has at_place
  pub none_before : (r : SpacePoint) → IsBetween p r at_place → Has r → ⊥

-- from a point with at least k flat directions on, all points up to q have as many, or there is a first one with fewer
abbrev pub FlatBelowFirst : Type 0
FlatBelowFirst = (s : Set) (k : ℕ) (p q : SpacePoint) → (IsFlatBelow s k p → ⊥) → ((r : SpacePoint) → IsBetween p r q → IsFlatBelow s k r → ⊥) ⊎ FirstPoint (IsFlatBelow s k) p q

-- a point before q up to which the number of flat directions is k, and at which it is smaller
pub record Drop (s : Set) (k : ℕ) (p q : SpacePoint) : Type 0 where
  pub at_place : SpacePoint
  pub between : IsBetween p at_place q
  pub even_before : (r : SpacePoint) → IsBetween p r at_place → FlatDim s r k
  pub drops : IsFlatBelow s k at_place

-- along a flat direction the number of flat directions stays until it drops: it never rises
abbrev pub EvenUntilDrop : Type 0
EvenUntilDrop = (s : Set) (k : ℕ) (p q : SpacePoint) → FlatDim s p k → Flat s p (toward p q) → ((r : SpacePoint) → IsBetween p r q → FlatDim s r k) ⊎ Drop s k p q

-- a point ahead of p along d up to which the number of flat directions is k, and at which it is smaller
pub record WayEnd (s : Set) (k : ℕ) (p : SpacePoint) (d : Vector) : Type 0 where
  pub at_place : SpacePoint
  pub is_ahead : IsAhead p d at_place
  pub even_before : (r : SpacePoint) → IsBetween p r at_place → FlatDim s r k
  pub drops : IsFlatBelow s k at_place

-- where not all directions are flat, the way along each flat direction ends, since the frame does
abbrev pub FlatWayEnds : Type 0
FlatWayEnds = (s : Set) (k : ℕ) (p : SpacePoint) (d : Vector) → k < 3 → FlatDim s p k → IsDirection d → Flat s p d → WayEnd s k p d

-- two vertices between which p lies, and between which all points have one flat direction
pub record EdgeAround (s : Set) (p : SpacePoint) : Type 0 where
  pub source : SpacePoint
  pub target : SpacePoint
  pub source_is_vertex : IsVertex s source
  pub target_is_vertex : IsVertex s target
  pub between : IsBetween source p target
  pub even : (r : SpacePoint) → IsBetween source r target → FlatDim s r 1

-- each point with one flat direction lies strictly between two such vertices
abbrev pub EdgeHasEnds : Type 0
EdgeHasEnds = (s : Set) (p : SpacePoint) → FlatDim s p 1 → EdgeAround s p

-- a set has finitely many vertices: each is equal to one of a list
abbrev pub FiniteVertices : Type 0
FiniteVertices = (s : Set) → (ps : List SpacePoint) × ((q : SpacePoint) → Lies ps q → IsVertex s q) × ((p : SpacePoint) → IsVertex s p → (q : SpacePoint) × Lies ps q × SamePoint q p)

-- sets with equal cones at the vertices of both are equal
abbrev pub SameSetByVertices : Type 0
SameSetByVertices = (s t : Set) → ((p : SpacePoint) → IsVertex s p → SameCone s t p) → ((p : SpacePoint) → IsVertex t p → SameCone s t p) → SameSet s t

-- ---- joined points
-- the germs at p and q agree
abbrev pub SameGerms : Set → SpacePoint → SpacePoint → Type 0
SameGerms s p q = (v : Vector) (l : Label) → Germ s p v l ↔ Germ s q v l

-- along a segment whose points have as many flat directions there is one cone
abbrev pub OneConeAlongEven : Type 0
OneConeAlongEven = (s : Set) (k : ℕ) (p q : SpacePoint) → IsEven s k p q → SameGerms s p q

-- joined points have one cone
abbrev pub OneConeOfJoined : Type 0
OneConeOfJoined = (s : Set) (p q : SpacePoint) → Joined s p q → SameGerms s p q

-- joined points have one label
abbrev pub OneLabelOfJoined : Type 0
OneLabelOfJoined = (s : Set) (p q : SpacePoint) (l : Label) → Joined s p q → HasLabel s p l → HasLabel s q l

-- to be joined is an equivalence: each point is joined to itself
abbrev pub JoinedToItself : Type 0
JoinedToItself = (s : Set) (p : SpacePoint) → Joined s p p

-- to be joined is symmetric
abbrev pub JoinedSymmetric : Type 0
JoinedSymmetric = (s : Set) (p q : SpacePoint) → Joined s p q → Joined s q p

-- to be joined is transitive
abbrev pub JoinedThrough : Type 0
JoinedThrough = (s : Set) (p q r : SpacePoint) → Joined s p q → Joined s q r → Joined s p r

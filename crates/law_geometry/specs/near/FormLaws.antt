-- The laws of homogeneous vectors, linear forms and signs. Each is a clause of a public function of `near`.
use Rattle.std.specs.Prelude.{◌≡◌, ◌<◌, ◌≤◌, ◌+ℤ◌, ◌-ℤ◌, ◌*ℤ◌, ◌<ℤ◌, ◌⊎◌, ◌↔◌}
use Rattle.nef_space.specs.Prelude.{ℕ, pos, List, Bool, true, false, sign, Lies, Vector, dot, blend, IsDirection, SameDirection, SpacePoint, Form, form_at, slope, Ratio, step, Within, SamePoint, toward, IsBetween}
use Rattle.nef_space.specs.Local.{IsShort}
use Rattle.law_geometry.specs.near.Homogeneous.{Homogeneous, of_point, of_direction, form_on, mix, SameUpToFactor, IsMixed, OnSegment, IsOnSegment, IsPassed, OnWay, SameFormSigns, KeepsFormSigns, IsZeroForm, Avoids, form_amount}
use Rattle.law_geometry.specs.near.Near.{reach, reach_all, span, unit_ratio}

-- ---- vectors of one point, and of one direction, are equal up to a positive factor
abbrev pub SamePointIsFactor : Type 0
SamePointIsFactor = (p q : SpacePoint) → SamePoint p q ↔ SameUpToFactor (of_point p) (of_point q)

-- equal up to a factor are also the zero vector and itself, which isn't a direction
abbrev pub SameDirectionIsFactor : Type 0
SameDirectionIsFactor = (d e : Vector) → SameDirection d e ↔ SameUpToFactor (of_direction d) (of_direction e) × IsDirection d

pub record FactorIsEquivalence : Type 0 where
  pub reflexive : (p : Homogeneous) → SameUpToFactor p p
  pub symmetric : (p q : Homogeneous) → SameUpToFactor p q → SameUpToFactor q p
  pub transitive : (p q r : Homogeneous) → SameUpToFactor p q → SameUpToFactor q r → SameUpToFactor p r

-- a positive factor doesn't change signs of forms
abbrev pub SignsRespectFactor : Type 0
SignsRespectFactor = (h : Form) (p q : Homogeneous) → SameUpToFactor p q → sign (form_on h p) ≡ sign (form_on h q)

-- strictly between different p and q lie the points i p + j q with i, j > 0; p is p + p up to a factor, but not between
abbrev pub BetweenIsMixed : Type 0
BetweenIsMixed = (p r q : SpacePoint) → IsBetween p r q ↔ IsMixed (of_point p) (of_point r) (of_point q) × (SamePoint p q → ⊥)

-- on the segment, ends included, lie the points i p + j q with i + j > 0, where p and q may be one
abbrev pub ClosedIsOnSegment : Type 0
ClosedIsOnSegment = (p r q : SpacePoint) → IsOnSegment p r q ↔ OnSegment (of_point p) (of_point r) (of_point q)

abbrev pub MixedRespectsFactor : Type 0
MixedRespectsFactor = (p r q p' r' q' : Homogeneous) → SameUpToFactor p p' → SameUpToFactor r r' → SameUpToFactor q q' → IsMixed p r q → IsMixed p' r' q'

abbrev pub BetweenRespectsPoint : Type 0
BetweenRespectsPoint = (p r q p' r' q' : SpacePoint) → SamePoint p p' → SamePoint r r' → SamePoint q q' → IsBetween p r q → IsBetween p' r' q'

abbrev pub WithinRespectsPoint : Type 0
WithinRespectsPoint = (n : ℕ) (p p' q q' : SpacePoint) → SamePoint p p' → SamePoint q q' → Within n p q → Within n p' q'

-- ---- a form keeps its sign
-- the form keeps its sign within 1/n of p, with n = (|a| + |b| + |c|) w + 1. The w is needed: x is positive at the
-- point 1/100 of the x axis, and -1/2 is within 1 of it
abbrev pub StableNear : Type 0
StableNear = (h : Form) (p q : SpacePoint) → (form_at h p ≡ pos 0 → ⊥) → Within (reach h p) p q → sign (form_at h q) ≡ sign (form_at h p)

abbrev pub StableListNear : Type 0
StableListNear = (hs : List Form) (p q : SpacePoint) → Within (reach_all hs p) p q → (h : Form) → Lies hs h → (form_at h p ≡ pos 0 → ⊥) → sign (form_at h q) ≡ sign (form_at h p)

-- at k p + e, from a known k on, the form has the sign that it has at p, or at e where it is nought at p
abbrev pub StableFar : Type 0
StableFar = (hs : List Form) (p e : Homogeneous) (k : ℕ) → form_amount hs e ≤ k → KeepsFormSigns hs p (mix k p 1 e) × ((h : Form) → form_on h p ≡ pos 0 → sign (form_on h (mix k p 1 e)) ≡ sign (form_on h e))

-- ---- rays: at p + (i/j) d the form is j h(p) + i w (n.d), up to the weight
abbrev pub RayForm : Type 0
RayForm = (h : Form) (p : SpacePoint) (t : Ratio) (d : Vector) → form_at h (step p t d) ≡ pos t.b *ℤ form_at h p +ℤ t.a *ℤ pos p.w *ℤ slope h d

-- where the form isn't nought at the start, short steps keep its sign
abbrev pub RayKeeps : Type 0
RayKeeps = (h : Form) (p : SpacePoint) (t : Ratio) (d : Vector) → (form_at h p ≡ pos 0 → ⊥) → IsShort (span h p d) t → sign (form_at h (step p t d)) ≡ sign (form_at h p)

-- where the form is nought at the start, all steps forward have the sign of its slope
abbrev pub RayTurns : Type 0
RayTurns = (h : Form) (p : SpacePoint) (t : Ratio) (d : Vector) → form_at h p ≡ pos 0 → pos 0 <ℤ t.a → sign (form_at h (step p t d)) ≡ sign (slope h d)

-- ---- the difference of two points leads from one to the other
abbrev pub DifferenceLeads : Type 0
DifferenceLeads = (p q : SpacePoint) → SamePoint q (step p (unit_ratio p q) (toward p q))

abbrev pub DifferenceSlope : Type 0
DifferenceSlope = (h : Form) (p q : SpacePoint) → slope h (toward p q) ≡ pos p.w *ℤ form_at h q -ℤ pos q.w *ℤ form_at h p

-- ---- general position
-- for each list of forms there is an e at which none of them is nought; at k v + e, from some k on, none is nought
-- either, and each that isn't nought at v has its sign at v
abbrev pub GenericVector : Type 0
GenericVector = (hs : List Form) → (e : Homogeneous) × Avoids hs e × ((v : Homogeneous) (k : ℕ) → form_amount hs e ≤ k → KeepsFormSigns hs v (mix k v 1 e) × Avoids hs (mix k v 1 e))

-- the same for directions and the normals of planes
pub record IsGenericAt (ns : List Vector) (d v : Vector) : Type 0 where
  pub keeps : (n : Vector) → Lies ns n → (dot n d ≡ pos 0 → ⊥) → sign (dot n v) ≡ sign (dot n d)
  pub avoids : (n : Vector) → Lies ns n → IsDirection n → dot n v ≡ pos 0 → ⊥

abbrev pub GenericDirection : Type 0
GenericDirection = (ns : List Vector) → (e : Vector) × (low : ℕ) × ((n : Vector) → Lies ns n → IsDirection n → dot n e ≡ pos 0 → ⊥) × ((d : Vector) (k : ℕ) → low ≤ k → IsGenericAt ns d (blend k d 1 e))

-- for each list of forms and each n there is such a point within 1/n of p
abbrev pub GenericPoint : Type 0
GenericPoint = (hs : List Form) (p : SpacePoint) (n : ℕ) → (q : SpacePoint) × Within n p q
    × ((h : Form) → Lies hs h → (form_at h p ≡ pos 0 → ⊥) → sign (form_at h q) ≡ sign (form_at h p))
    × ((h : Form) → Lies hs h → ¬ IsZeroForm h → form_at h q ≡ pos 0 → ⊥)

-- A clause can't quantify over predicates, so these laws speak of tests P. The lemmas that prove them, settled-segment
-- and first-change in proofs/near/, are over predicates.
-- If vectors of the segment with the same signs on finitely many forms agree on P, and each x of the segment agrees
-- with the vectors k x + y for large k, with y on the segment, then the ends agree.
-- The forms are needed: on the segment from 0 to 2 of the x axis each rational number has a neighbourhood on which "the
-- square is below 2" doesn't change. So are x at the ends (let P hold at p alone) and x inside (let P hold up to the
-- middle).
abbrev pub SegmentLaw : Type 0
SegmentLaw = (hs : List Form) (P : Homogeneous → Bool) (p q : Homogeneous)
    → ((r s : Homogeneous) → OnSegment p r q → OnSegment p s q → SameFormSigns hs r s → P r ≡ P s)
    → ((x y : Homogeneous) → OnSegment p x q → OnSegment p y q → (n : ℕ) × ((k : ℕ) → n ≤ k → P x ≡ P (mix k x 1 y)))
    → P p ≡ P q

-- the same law for points, where each point agrees with the points of the segment within 1/n of it
abbrev pub SegmentOfPoints : Type 0
SegmentOfPoints = (hs : List Form) (P : SpacePoint → Bool) (p q : SpacePoint)
    → ((r s : SpacePoint) → IsOnSegment p r q → IsOnSegment p s q → ((h : Form) → Lies hs h → sign (form_at h r) ≡ sign (form_at h s)) → P r ≡ P s)
    → ((r : SpacePoint) → IsOnSegment p r q → (n : ℕ) × (0 < n) × ((s : SpacePoint) → IsOnSegment p s q → Within n r s → P r ≡ P s))
    → P p ≡ P q

-- the same law for directions along a great circle; with opposite ends the zero vector is on the way
abbrev pub SegmentOfDirections : Type 0
SegmentOfDirections = (ns : List Vector) (P : Vector → Bool) (d e : Vector)
    → ((r s : Vector) → OnWay d r e → OnWay d s e → ((n : Vector) → Lies ns n → sign (dot n r) ≡ sign (dot n s)) → P r ≡ P s)
    → ((r s : Vector) → OnWay d r e → OnWay d s e → (n : ℕ) × ((k : ℕ) → n ≤ k → P r ≡ P (blend k r 1 s)))
    → P d ≡ P e

-- P holds at all vectors strictly between p and `vector`. P fails at `vector`, or holds there and fails strictly
-- between it and a later z: so `vector` doesn't agree with the vectors near it. P need not fail at a first vector (let
-- P hold up to the middle, itself included), nor `vector` lie strictly inside (let P hold at p alone, or but at q).
pub record FirstChangeOf (P : Homogeneous → Bool) (p q : Homogeneous) : Type 0 where
  pub vector : Homogeneous
  pub on : OnSegment p vector q
  pub before : (r : Homogeneous) → IsMixed p r vector → P r ≡ true
  pub change : (P vector ≡ false) ⊎ ((P vector ≡ true) × ((z : Homogeneous) × OnSegment p z q × OnSegment p vector z × ((r : Homogeneous) → IsMixed vector r z → P r ≡ false)))
  pub unsettled : ((y : Homogeneous) → OnSegment p y q → (n : ℕ) × ((k : ℕ) → n ≤ k → P vector ≡ P (mix k vector 1 y))) → ⊥

abbrev pub FirstChangeLaw : Type 0
FirstChangeLaw = (hs : List Form) (P : Homogeneous → Bool) (p q : Homogeneous)
    → ((r s : Homogeneous) → OnSegment p r q → OnSegment p s q → SameFormSigns hs r s → P r ≡ P s)
    → P p ≡ true → P q ≡ false → FirstChangeOf P p q

-- the first change of P at points of a segment
pub record FirstChangeOfPoints (P : SpacePoint → Bool) (p q : SpacePoint) : Type 0 where
  pub place : SpacePoint
  pub on : IsOnSegment p place q
  pub before : (r : SpacePoint) → IsBetween p r place → P r ≡ true
  pub change : (P place ≡ false) ⊎ ((P place ≡ true) × ((z : SpacePoint) × IsOnSegment p z q × IsOnSegment p place z × (SamePoint place z → ⊥) × ((r : SpacePoint) → IsBetween place r z → P r ≡ false)))

abbrev pub FirstChangeAtPoints : Type 0
FirstChangeAtPoints = (hs : List Form) (P : SpacePoint → Bool) (p q : SpacePoint)
    → ((r s : SpacePoint) → IsOnSegment p r q → IsOnSegment p s q → ((h : Form) → Lies hs h → sign (form_at h r) ≡ sign (form_at h s)) → P r ≡ P s)
    → P p ≡ true → P q ≡ false → FirstChangeOfPoints P p q

-- the first change of P at directions along a great circle
pub record FirstChangeOfDirections (P : Vector → Bool) (d e : Vector) : Type 0 where
  pub direction : Vector
  pub on : OnWay d direction e
  pub before : (r : Vector) → IsPassed d r direction → P r ≡ true
  pub change : (P direction ≡ false) ⊎ ((P direction ≡ true) × ((z : Vector) × OnWay d z e × OnWay d direction z × ((r : Vector) → IsPassed direction r z → P r ≡ false)))

abbrev pub FirstChangeAtDirections : Type 0
FirstChangeAtDirections = (ns : List Vector) (P : Vector → Bool) (d e : Vector)
    → ((r s : Vector) → OnWay d r e → OnWay d s e → ((n : Vector) → Lies ns n → sign (dot n r) ≡ sign (dot n s)) → P r ≡ P s)
    → P d ≡ true → P e ≡ false → FirstChangeOfDirections P d e

-- ---- finitely many directions, and points, have all signs that finitely many forms have; their number isn't bounded
-- by any fixed one: n planes through one line need 2 n directions
abbrev pub RepresentativeDirections : Type 0
RepresentativeDirections = (ns : List Vector) → (rs : List Vector) × ((d : Vector) → (r : Vector) × Lies rs r × (IsDirection d → IsDirection r) × ((n : Vector) → Lies ns n → sign (dot n d) ≡ sign (dot n r)))

abbrev pub RepresentativePoints : Type 0
RepresentativePoints = (hs : List Form) → (rs : List SpacePoint) × ((p : SpacePoint) → (r : SpacePoint) × Lies rs r × ((h : Form) → Lies hs h → sign (form_at h p) ≡ sign (form_at h r)))

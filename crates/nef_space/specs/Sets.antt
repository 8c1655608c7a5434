-- Sets as trees of operations, and where sets hold.
use Rattle.std.specs.Prelude.{ℕ, ◌<◌, pos, ◌≤ℤ◌, ◌<ℤ◌, List, [], ◌∷◌, ◌++◌, ◌⊎◌, Bool, true, false}
use Rattle.nef_space.specs.Points.{SpacePoint, Form, form_at, Within, InFrame}

-- a set: a half-space, the empty set, the whole, or an operation on sets
pub data Set : Type 0 where
  half : Form → Bool → Set
  empty : Set
  full : Set
  both : Set → Set → Set
  either : Set → Set → Set
  less : Set → Set → Set
  one_of : Set → Set → Set
  other : Set → Set
  inside : Set → Set
  closed : Set → Set
  border : Set → Set
  regular : Set → Set

-- some neighbourhood of p lies in P, within the frame
abbrev pub Interior : (SpacePoint → Type 0) → SpacePoint → Type 0
Interior P p = (n : ℕ) × (0 < n) × ((q : SpacePoint) → InFrame q → Within n p q → P q)

-- each neighbourhood of p meets P within the frame
abbrev pub Closure : (SpacePoint → Type 0) → SpacePoint → Type 0
Closure P p = (n : ℕ) → 0 < n → (q : SpacePoint) × InFrame q × Within n p q × P q

abbrev pub InHalf : Form → Bool → SpacePoint → Type 0
InHalf h false p = form_at h p <ℤ pos 0
InHalf h true p = form_at h p ≤ℤ pos 0

-- the set holds at the point p of the frame
unfoldable pub Holds : Set → SpacePoint → Type 0
Holds (Set.half h c) p = InHalf h c p
Holds Set.empty p = ⊥
Holds Set.full p = Unit {0}
Holds (Set.both a b) p = Holds a p × Holds b p
Holds (Set.either a b) p = Holds a p ⊎ Holds b p
Holds (Set.less a b) p = Holds a p × (Holds b p → ⊥)
Holds (Set.one_of a b) p = (Holds a p × (Holds b p → ⊥)) ⊎ ((Holds a p → ⊥) × Holds b p)
Holds (Set.other a) p = Holds a p → ⊥
Holds (Set.inside a) p = Interior (Holds a) p
Holds (Set.closed a) p = Closure (Holds a) p
Holds (Set.border a) p = Closure (Holds a) p × (Interior (Holds a) p → ⊥)
Holds (Set.regular a) p = Closure (Interior (Holds a)) p

-- the given forms of all halves in the set's tree
abbrev pub halves : Set → List Form
halves (Set.half h c) = h ∷ []
halves Set.empty = []
halves Set.full = []
halves (Set.both a b) = halves a ++ halves b
halves (Set.either a b) = halves a ++ halves b
halves (Set.less a b) = halves a ++ halves b
halves (Set.one_of a b) = halves a ++ halves b
halves (Set.other a) = halves a
halves (Set.inside a) = halves a
halves (Set.closed a) = halves a
halves (Set.border a) = halves a
halves (Set.regular a) = halves a

-- What a set looks like near a point.
use Rattle.std.specs.Prelude.{◌≡◌, ℕ, zero, suc, ◌<◌, pos, ◌*ℤ◌, ◌<ℤ◌, List, [], ◌∷◌, ◌⊎◌, ◌↔◌}
use Rattle.nef_space.specs.Points.{SpacePoint, Within, InFrame, Ratio, step, SamePoint, IsBetween}
use Rattle.nef_space.specs.Vectors.{Vector, IsDirection, cross, triple}
use Rattle.nef_space.specs.Sets.{Set, Holds}
use Rattle.nef_space.specs.declared.label.Label.{Label}
use Rattle.nef_space.specs.declared.label.Label.TheVariants.{Out, Not, In}

-- the point has the label for the set
abbrev pub HasLabel : Set → SpacePoint → Label → Type 0
HasLabel s p Out = InFrame p → ⊥
HasLabel s p Not = InFrame p × (Holds s p → ⊥)
HasLabel s p In = InFrame p × Holds s p

-- the two sets have the same label at every point
abbrev pub SameSet : Set → Set → Type 0
SameSet s t = (p : SpacePoint) (l : Label) → HasLabel s p l ↔ HasLabel t p l

-- the number t lies between 0 and 1/n
abbrev pub IsShort : ℕ → Ratio → Type 0
IsShort n t = (pos 0 <ℤ t.a) × (pos n *ℤ t.a) <ℤ pos t.b

-- close to p the label along the direction d is l
abbrev pub Germ : Set → SpacePoint → Vector → Label → Type 0
Germ s p d l = (n : ℕ) × (0 < n) × ((t : Ratio) → IsShort n t → HasLabel s (step p t d) l)

-- close to p the set doesn't change along d
abbrev pub Flat : Set → SpacePoint → Vector → Type 0
Flat s p d = (n : ℕ) × (0 < n) × ((q : SpacePoint) (t : Ratio) → Within n p q → Within n p (step q t d) → (l : Label) → HasLabel s q l ↔ HasLabel s (step q t d) l)

-- k independent directions are flat
abbrev pub HasFlat : Set → SpacePoint → ℕ → Type 0
HasFlat s p zero = Unit {0}
HasFlat s p (suc zero) = (d : Vector) × IsDirection d × Flat s p d
HasFlat s p (suc (suc zero)) = (d : Vector) × (e : Vector) × IsDirection (cross d e) × Flat s p d × Flat s p e
HasFlat s p (suc (suc (suc zero))) = (d : Vector) × (e : Vector) × (f : Vector) × (triple d e f ≡ pos 0 → ⊥) × Flat s p d × Flat s p e × Flat s p f
HasFlat s p (suc (suc (suc (suc k)))) = ⊥

-- k is the greatest number of independent flat directions
abbrev pub FlatDim : Set → SpacePoint → ℕ → Type 0
FlatDim s p k = HasFlat s p k × (HasFlat s p (suc k) → ⊥)

abbrev pub IsVertex : Set → SpacePoint → Type 0
IsVertex s p = FlatDim s p 0

-- each point of the segment from p to q, ends included, has k independent flat directions
abbrev pub IsEven : Set → ℕ → SpacePoint → SpacePoint → Type 0
IsEven s k p q = (r : SpacePoint) → SamePoint r p ⊎ IsBetween p r q ⊎ SamePoint r q → FlatDim s r k

-- the segments from p over the points of the list to q are even
abbrev pub IsEvenPath : Set → ℕ → SpacePoint → List SpacePoint → SpacePoint → Type 0
IsEvenPath s k p [] q = IsEven s k p q
IsEvenPath s k p (r ∷ rs) q = IsEven s k p r × IsEvenPath s k r rs q

-- finitely many segments lead from p to q through points that have as many flat directions as p
abbrev pub Joined : Set → SpacePoint → SpacePoint → Type 0
Joined s p q = (k : ℕ) × (rs : List SpacePoint) × FlatDim s p k × IsEvenPath s k p rs q

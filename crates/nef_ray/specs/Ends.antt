-- Where the label along a ray first changes.
use Rattle.std.specs.Prelude.{◌≡◌}
use Rattle.nef_space.specs.Prelude.{Bool, true, false, HasLabel, Germ, SpacePoint, InFrame, SamePoint, IsAhead, IsBetween, Set, Vector, IsDirection}
use Rattle.nef_space.specs.declared.label.Label.{Label}

-- the label along d changes from m to l at q: q has the label l, or q has m and just after it comes l
abbrev pub Changes : Set → SpacePoint → Vector → Label → Bool → Label → Type 0
Changes s q d m false l = HasLabel s q l
Changes s q d m true l = HasLabel s q m × Germ s q d l

-- q is ahead of p, up to q the label is that just after p, and at q, or just after it, the label changes to l
pub record IsRayEnd (s : Set) (p : SpacePoint) (d : Vector) (q : SpacePoint) (after : Bool) (l : Label) : Type 0 where
  pub before : Label
  pub germ : Germ s p d before
  pub ahead : IsAhead p d q
  pub same : (r : SpacePoint) → IsBetween p r q → HasLabel s r before
  pub other : l ≡ before → ⊥
  pub changes : Changes s q d before after l

-- a ray has one end
abbrev pub OneRayEnd : Type 0
OneRayEnd = (s : Set) (p : SpacePoint) (d : Vector) (q r : SpacePoint) (a b : Bool) (l m : Label) → IsRayEnd s p d q a l → IsRayEnd s p d r b m → SamePoint q r × (a ≡ b) × (l ≡ m)

-- a ray from a point of the frame has an end
abbrev pub RayHasEnd : Type 0
RayHasEnd = (s : Set) (p : SpacePoint) (d : Vector) → InFrame p → IsDirection d → (q : SpacePoint) × (after : Bool) × (l : Label) × IsRayEnd s p d q after l

-- Equal points lie on the same planes and have the same dimension in a set, and a point has one.
use Rattle.law_geometry.proofs.near.Prelude.{◌≡◌, ℕ, pos, ap, sym, ◌∙◌, sign, SpacePoint, Form, form_at, SamePoint, Set, FlatDim, IsVertex, carriers}
use Rattle.law_geometry.proofs.near.Alike.{FlatDim-by_germs, FlatDim-one, germs-by_cell}
use Rattle.law_geometry.proofs.near.Rays.{sign-same, signs-same}
use Rattle.nef_space.proofs.Order.{nought-is}

pub dim-same : (s : Set) (p q : SpacePoint) (k : ℕ) → SamePoint p q → FlatDim s p k → FlatDim s q k
dim-same s p q k e = FlatDim-by_germs s s p q (germs-by_cell s p q (signs-same (carriers s) p q e)) k

pub level-same_point : (h : Form) (p q : SpacePoint) → SamePoint p q → form_at h p ≡ pos 0 → form_at h q ≡ pos 0
level-same_point h p q e z = nought-is (form_at h q) (sym (sign-same h p q e) ∙ ap sign z)

pub IsVertex-same : (s : Set) (p q : SpacePoint) → SamePoint p q → IsVertex s p → IsVertex s q
IsVertex-same s p q = dim-same s p q 0

-- a point has one dimension
pub one-not_two : (s : Set) (p : SpacePoint) → FlatDim s p 1 → FlatDim s p 2 → ⊥
one-not_two s p f g = let e = FlatDim-one s p 1 2 f g in cc

pub one-not_zero : (s : Set) (p : SpacePoint) → FlatDim s p 1 → FlatDim s p 0 → ⊥
one-not_zero s p f g = let e = FlatDim-one s p 1 0 f g in cc

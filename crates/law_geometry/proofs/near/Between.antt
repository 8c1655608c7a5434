-- Points between two others, parallel vectors, and rays near a point.
use Rattle.law_geometry.proofs.near.Prelude.{◌≡◌, ℕ, ◌<◌, arith, refl, sym, ◌∙◌, ◌⊎◌, inl, inr, ⊎_elim, ◌↔◌, List, false, SpacePoint, Form, Within, toward, IsBetween, IsDirection, Set, HasLabel, Label, IsMixed, of_point, sign_at, carriers, SameSigns}
use Rattle.nef_space.specs.Signs.{Sign, minus, nought, plus}
use Rattle.law_geometry.proofs.near.Sums.{past-mixed, mixed-mix, mixed-turned, mixed-inner}
use Rattle.law_geometry.proofs.near.Crossings.{opposite_signs, joint, sign-mixed}
use Rattle.law_geometry.proofs.near.Near.{reach_all}
use Rattle.law_geometry.proofs.near.Mixed.{between-is, point-toward}
use Rattle.law_geometry.proofs.near.Points.{mix_point}
use Rattle.law_geometry.proofs.near.Cells.{same-sym, keeps-all, is_nought}
use Rattle.law_geometry.proofs.near.Germs.{Label-cells}
use Rattle.law_geometry.proofs.near.Rays.{same-point_sym}

-- ---- strictly between
pub mixed-of : (p r q : SpacePoint) → IsBetween p r q → IsMixed (of_point p) (of_point r) (of_point q)
mixed-of p r q b = ((between-is p r q).0 b).0

pub between-of : (p r q : SpacePoint) → IsDirection (toward p q) → IsMixed (of_point p) (of_point r) (of_point q) → IsBetween p r q
between-of p r q d m = (between-is p r q).1 (m, λ s. d (point-toward p q s))

pub between-mix : (k : ℕ) (p q : SpacePoint) → 0 < k → IsDirection (toward p q) → IsBetween p (mix_point k p q) q
between-mix k p q h d = between-of p (mix_point k p q) q d (mixed-mix k (of_point p) 1 (of_point q) h (omega arith))

pub between-turned : (p q r : SpacePoint) → IsBetween p r q → IsBetween q r p
between-turned p q r b = let t = (between-is p r q).0 b in (between-is q r p).1 (mixed-turned (of_point p) (of_point r) (of_point q) t.0, λ s. t.1 (same-point_sym q p s))

-- what is between p and a point between p and q is between p and q
pub between-inner : (p r q u : SpacePoint) → IsBetween p r q → IsBetween p u r → IsBetween p u q
between-inner p r q u b c = let t = (between-is p r q).0 b in (between-is p u q).1 (mixed-inner (of_point p) (of_point r) (of_point q) (of_point u) (past-mixed (of_point p) (of_point r) (of_point q) t.0) (mixed-of p u r c), t.1)

-- ---- along a ray
-- a form that is nought at p, or keeps its sign from p to q, has between them the sign that it has at q
sign-between : (h : Form) (p q r : SpacePoint) → IsBetween p r q → (sign_at h p ≡ nought) ⊎ (sign_at h q ≡ sign_at h p) → sign_at h r ≡ sign_at h q
sign-between h p q r b c = sign-mixed h (of_point p) (of_point r) (of_point q) (mixed-of p r q b) (by (sign_at h p) (sign_at h q) c).0 ∙ (by (sign_at h p) (sign_at h q) c).1
  where
    by : (s t : Sign) → (s ≡ nought) ⊎ (t ≡ s) → (opposite_signs s t ≡ false) × (joint s t ≡ t)
    by nought minus d = (refl, refl)
    by nought nought d = (refl, refl)
    by nought plus d = (refl, refl)
    by minus minus d = (refl, refl)
    by minus nought d = (refl, absurd (⊎_elim (λ (e : minus ≡ nought). cc) (λ (e : nought ≡ minus). cc) d))
    by minus plus d = absurd (⊎_elim (λ (e : minus ≡ nought). cc) (λ (e : plus ≡ minus). cc) d)
    by plus minus d = absurd (⊎_elim (λ (e : plus ≡ nought). cc) (λ (e : minus ≡ plus). cc) d)
    by plus nought d = (refl, absurd (⊎_elim (λ (e : plus ≡ nought). cc) (λ (e : nought ≡ plus). cc) d))
    by plus plus d = (refl, refl)

-- close to p, all points of the ray from p to q lie in the cell of q
pub ray-cell : (hs : List Form) (p q r : SpacePoint) → Within (reach_all hs p) p q → IsBetween p r q → SameSigns hs q r
ray-cell hs p q r c b h l = sym (sign-between h p q r b (⊎_elim (λ o. inl o) (λ n. inr (keeps-all hs p q c h l n)) (is_nought (sign_at h p))))

pub label-along_ray : (s : Set) (p q r : SpacePoint) → Within (reach_all (carriers s) p) p q → IsBetween p r q → (l : Label) → HasLabel s q l ↔ HasLabel s r l
label-along_ray s p q r c b l = (Label-cells s l q r (ray-cell (carriers s) p q r c b), Label-cells s l r q (same-sym (carriers s) q r (ray-cell (carriers s) p q r c b)))

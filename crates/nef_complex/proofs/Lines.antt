-- Points on one line, and where a line crosses a plane.
use Rattle.nef_complex.proofs.Prelude.{◌≡◌, ℤ, pos, ◌-ℤ◌, ◌*ℤ◌, arith, ⊎_elim, [], ◌∷◌, ints, at, num, ◌⊖◌, ◌⊗◌, follows_times, given, none, SpacePoint, Form, slope, normal_of, toward, SamePoint, Vector, cross, IsZero, toward-point, plane-way, HoldsBoth, zero-decided, in-span}

-- with u and v on the line through p along d, so is the way from u to v
pub on_line : (p u v : SpacePoint) (d : Vector) → IsZero (cross (toward p u) d) → IsZero (cross (toward p v) d) → IsZero (cross (toward u v) d)
on_line p u v d g h = (each p.y p.z u.y u.z v.y v.z d.y d.z g.0 h.0, each p.z p.x u.z u.x v.z v.x d.z d.x g.1 h.1, each p.x p.y u.x u.y v.x v.y d.x d.y g.2 h.2)
  where
    each : (a b u' u'' v' v'' e f : ℤ) → (u' *ℤ pos p.w -ℤ a *ℤ pos u.w) *ℤ f -ℤ (u'' *ℤ pos p.w -ℤ b *ℤ pos u.w) *ℤ e ≡ pos 0 → (v' *ℤ pos p.w -ℤ a *ℤ pos v.w) *ℤ f -ℤ (v'' *ℤ pos p.w -ℤ b *ℤ pos v.w) *ℤ e ≡ pos 0
        → (v' *ℤ pos u.w -ℤ u' *ℤ pos v.w) *ℤ f -ℤ (v'' *ℤ pos u.w -ℤ u'' *ℤ pos v.w) *ℤ e ≡ pos 0
    each a b u' u'' v' v'' e f g h =
        let n = pos p.w in let k = pos u.w in let l = pos v.w in
        follows_times (a ∷ b ∷ u' ∷ u'' ∷ v' ∷ v'' ∷ e ∷ f ∷ pos p.w ∷ pos u.w ∷ pos v.w ∷ []) (at 8)
        ((at 4 ⊗ at 9 ⊖ at 2 ⊗ at 10) ⊗ at 7 ⊖ (at 5 ⊗ at 9 ⊖ at 3 ⊗ at 10) ⊗ at 6) (num (pos 0))
        (given (at 9) ((at 4 ⊗ at 8 ⊖ at 0 ⊗ at 10) ⊗ at 7 ⊖ (at 5 ⊗ at 8 ⊖ at 1 ⊗ at 10) ⊗ at 6) (num (pos 0)) h
        (given (num (pos 0) ⊖ at 10) ((at 2 ⊗ at 8 ⊖ at 0 ⊗ at 9) ⊗ at 7 ⊖ (at 3 ⊗ at 8 ⊖ at 1 ⊗ at 9) ⊗ at 6) (num (pos 0)) g none))
        (let w = p.proper in omega (arith, ints)) tt

-- a plane that isn't along d holds one point of the line
pub one-crossing : (g : Form) (d : Vector) (p u v : SpacePoint) → IsZero (cross (toward p u) d) → IsZero (cross (toward p v) d) → HoldsBoth g u v → (slope g d ≡ pos 0 → ⊥) → SamePoint u v
one-crossing g d p u v a b (m, n) f = ⊎_elim (toward-point u v) (λ t. absurd (f (in-span (normal_of g) (toward u v) d t (on_line p u v d a b) (plane-way g u v m n)))) (zero-decided (toward u v))

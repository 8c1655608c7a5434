-- The last ray of a star at or before another.
use Rattle.nef_star.proofs.Prelude.{◌≡◌, ℕ, zero, suc, ◌+◌, ◌<◌, ◌≤◌, length, arith, sym, subst, inl, inr, eq-or-lt_of_le, Vector, SameDirection, vector_of, Dir, IsOnCircle, Star, left_at, BeginsAnywhere, LeftUnder, dir-self}
use Rattle.nef_geo.proofs.Unique.{same_directions_equal}
use Rattle.nef_star.proofs.Turns.{some_place}

-- ---- the place of a ray
pub same-as : (v : Vector) (d e : Dir) → vector_of d ≡ v → d ≡ e → SameDirection v (vector_of e)
same-as v d e h s = subst (λ (w : Vector). SameDirection w (vector_of e)) h (subst (λ (b : Dir). SameDirection (vector_of d) (vector_of b)) s (dir-self (vector_of d) d.some))

pub as-same : (v : Vector) (d e : Dir) → vector_of d ≡ v → SameDirection v (vector_of e) → d ≡ e
as-same v d e h s = same_directions_equal d e (subst (λ (w : Vector). SameDirection w (vector_of e)) (sym h) s)

-- d is under none of the first k rays after the first one
abbrev pub NoneUnder : Star → Vector → ℕ → Type 0
NoneUnder t d k = (i : ℕ) → 0 < i → i < k → LeftUnder t d i → ⊥

pub none-more : (t : Star) (d : Vector) (k : ℕ) → NoneUnder t d k → (LeftUnder t d k → ⊥) → NoneUnder t d (k + 1)
none-more t d k h n i s l u = elim (eq-or-lt_of_le {n = i} {m = k} (omega (arith, l))) [ inl e ↦ n (subst (LeftUnder t d) e u) | inr p ↦ h i s p u ]

pub first-under : (t : Star) → BeginsAnywhere t → 0 < length t.rays.items → (d : Vector) → IsOnCircle (vector_of t.axis) d → (k : ℕ) → length t.rays.items ≤ k → NoneUnder t d k → LeftUnder t d 0
first-under t T h d o k l none =
    let p = some_place (vector_of t.axis) t.axis.some (length t.rays.items) (left_at t.rays.items) T.counterclockwise d h o in
    first p.0 p.1 p.2
  where
    first : (i : ℕ) → i < length t.rays.items → LeftUnder t d i → LeftUnder t d 0
    first zero w u = u
    first (suc i) w u = absurd (none (suc i) (omega arith) (omega (arith, w, l)) u)

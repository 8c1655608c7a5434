-- The star of two ends.
use Rattle.nef_star.proofs.Prelude.{◌≡◌, ℕ, zero, suc, ◌<◌, List, [], ◌∷◌, length, Some, arith, refl, sym, ap, subst, ◌∙◌, ◌⊎◌, All, All-cons, All-nil, svertex_limit, IsAt, Vector, SameDirection, IsAtMost, Label, vector_of, Dir, IsOnCircle, Ray, Star, ArcEnd, EndsAreApart, IsRound, IsEndAt, IsWhole, IsTurning, left_of, left_at, mark_at, sector_at, sector_count, IsRay, BeginsAnywhere, KeepsLabels, IsCountedFrom, HasLeft}
use Rattle.nef_star.proofs.Pushed.{left-on_circle}
use Rattle.nef_star.proofs.RoundStars.{finished}

-- the first of two ends is e and the second f
module _ (ends : List ArcEnd) (t : Star) (e f : ArcEnd) (two : length ends ≡ 2) (at_e : IsAt ends 0 e) (at_f : IsAt ends 1 f) (apart : SameDirection (left_of e.0) (left_of f.0) → ⊥) (small : IsAtMost svertex_limit (vector_of t.axis))
    (rays : (k : ℕ) (e : ArcEnd) → IsAt ends k e → IsRay (vector_of t.axis) e.0) (ways : t.rays.items ≡ e.0 ∷ f.0 ∷ []) (labels : t.sectors.items ≡ e.1 ∷ f.1 ∷ []) where
  first : IsRay (vector_of t.axis) e.0
  first = rays 0 e at_e

  second : IsRay (vector_of t.axis) f.0
  second = rays 1 f at_f

  turning : IsTurning (vector_of t.axis) 2 (left_at (e.0 ∷ f.0 ∷ []))
  turning = record { circle = circle; apart = distinct; rising = λ i k x y z. absurd (omega (arith, x, y, z)) }
    where
      circle : (k : ℕ) → k < 2 → IsOnCircle (vector_of t.axis) (left_at (e.0 ∷ f.0 ∷ []) k)
      circle zero h = left-on_circle (vector_of t.axis) e.0 first
      circle (suc zero) h = left-on_circle (vector_of t.axis) f.0 second
      circle (suc (suc k)) h = absurd (omega (arith, h))

      distinct : (k : ℕ) → 0 < k → k < 2 → SameDirection (left_of e.0) (left_at (e.0 ∷ f.0 ∷ []) k) → ⊥
      distinct zero p h s = absurd (omega (arith, p))
      distinct (suc zero) p h s = apart s
      distinct (suc (suc k)) p h s = absurd (omega (arith, h))

  pub two-turned : BeginsAnywhere t
  two-turned = record {
    axis_small = small;
    rays = subst (All (IsRay (vector_of t.axis))) (sym ways) (All-cons (IsRay (vector_of t.axis)) e.0 (f.0 ∷ []) first (All-cons (IsRay (vector_of t.axis)) f.0 [] second (All-nil (IsRay (vector_of t.axis)))));
    counterclockwise = subst (λ (l : List Ray). IsTurning (vector_of t.axis) (length l) (left_at l)) (sym ways) turning;
    sectors = ap length labels ∙ sym (ap sector_count ways);
  }

  as-many : length t.rays.items ≡ 2
  as-many = ap length ways

  end-at : (k : ℕ) → k < length t.rays.items → IsEndAt ends t k
  end-at zero h = record { number = 0; end = e; listed = at_e; left = ap (λ (l : List Ray). left_at l 0) ways; mark = ap (λ (l : List Ray). mark_at l 0) ways; sector = ap (λ (l : List Label). sector_at l 0) labels }
  end-at (suc zero) h = record { number = 1; end = f; listed = at_f; left = ap (λ (l : List Ray). left_at l 1) ways; mark = ap (λ (l : List Ray). mark_at l 1) ways; sector = ap (λ (l : List Label). sector_at l 1) labels }
  end-at (suc (suc k)) h = absurd (omega (arith, h, as-many))

  has-end : (i : ℕ) (g : ArcEnd) → i < length ends → IsAt ends i g → HasLeft t (left_of g.0)
  has-end zero g h a = let z : Some e ≡ Some g = sym at_e ∙ a in let w : e ≡ g = cc in (0, omega (arith, as-many), ap (λ (l : List Ray). left_at l 0) ways ∙ ap (λ (x : ArcEnd). left_of x.0) w)
  has-end (suc zero) g h a = let z : Some f ≡ Some g = sym at_f ∙ a in let w : f ≡ g = cc in (1, omega (arith, as-many), ap (λ (l : List Ray). left_at l 1) ways ∙ ap (λ (x : ArcEnd). left_of x.0) w)
  has-end (suc (suc i)) g h a = absurd (omega (arith, h, two))

  only-ends : (v : Vector) → HasLeft t v → (i : ℕ) × (g : ArcEnd) × IsAt ends i g × (left_of g.0 ≡ v)
  only-ends v (k, h, z) = let x = end-at k h in (x.number, x.end, x.listed, sym x.left ∙ z)

  pub two-whole : IsWhole ends t
  two-whole = (
    t,
    record { turned = two-turned; all = has-end; only = only-ends },
    record { turned = two-turned; axis = refl; mark = refl; count = refl; lefts = λ i. refl; ends_at = end-at },
  )

-- the star u is s, which is whole, counted from a ray on
pub whole-round : (ends : List ArcEnd) (a : Dir) (s u : Star) → IsWhole ends s → s.axis ≡ a → BeginsAnywhere u → KeepsLabels s u → (u ≡ s) ⊎ ((m : ℕ) × (m < length s.rays.items) × IsCountedFrom m s u)
    → 0 < length ends → ((k : ℕ) (e : ArcEnd) → IsAt ends k e → IsRay (vector_of a) e.0) → EndsAreApart ends → IsRound ends u
whole-round ends a s u (t, W, E) f U K c some rays apart =
    finished ends t s u W E U K c some (λ k e h. subst (λ (d : Dir). IsRay (vector_of d) e.0) (sym f ∙ E.axis) (rays k e h)) apart

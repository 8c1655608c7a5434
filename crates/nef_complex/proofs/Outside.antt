-- Carriers whose span doesn't meet a window: what they hold of the skeleton lies outside the window.
use Rattle.nef_complex.proofs.Prelude.{◌≡◌, ℕ, pos, List, IsAt, SpacePoint, form_at, InClosedFrame, Set, form_of, Plane, IsSkeletonIn, Complex, Span, complex_of, ShowsSet, LiesOutside, IsSpanOn, AreSpans, AreSpanned, IsInSpan, points_of}
use Rattle.nef_complex.proofs.Framed.{skeleton-framed}
use Rattle.nef_complex.proofs.Spanned.{spanned}
use Rattle.nef_complex.proofs.Pointed.{span-on}

-- what is read of a list of spans where it ends
abbrev pub no_span : Span
no_span = record { x = record { low = pos 0; high = pos 0 }; y = record { low = pos 0; high = pos 0 }; z = record { low = pos 0; high = pos 0 } }

module _ (c : Complex) (span window : Span) (off : (y : SpacePoint) → IsInSpan span y → IsInSpan window y → ⊥) where
  outside : (h : Plane) → IsSpanOn c.vertices (form_of h) span → (s : Set) (y : SpacePoint) → ShowsSet s c → form_at (form_of h) y ≡ pos 0 → IsSkeletonIn s (complex_of c) (form_of h) y → InClosedFrame y × (IsInSpan window y → ⊥)
  outside h B s y S on i = (skeleton-framed s c S (form_of h) y i, off y (spanned s c S (form_of h) span B y on i))

  pub carrier-outside : (spans : List Span) → AreSpans c.carriers c.vertices spans → (k : ℕ) → IsAt spans k span → LiesOutside c window k
  carrier-outside spans A k b h a = outside h (A.each k h span a b)

  pub all-outside : (has : ℕ → Type 0) → AreSpanned c.carriers (points_of c.vertices) has span → (k : ℕ) → has k → LiesOutside c window k
  all-outside has A k o h a = outside h (span-on c.vertices (form_of h) span (A.each k h o a))

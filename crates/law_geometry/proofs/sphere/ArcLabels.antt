-- The labels beside an arc are the same from its source to its target.
use Rattle.law_geometry.proofs.sphere.Prelude.{◌≡◌, ℕ, ◌+◌, ◌≤◌, pos, arith, List, ◌∷◌, [], Vector, IsDirection, cross, dot, blend, Label, IsStrictlyOn, SameSigns, Labelling, StraightAt, IsSmooth, dir-signs}
use Rattle.law_geometry.proofs.sphere.Generic.{amount}
use Rattle.law_geometry.proofs.sphere.Parallel.{past_source}
use Rattle.law_geometry.proofs.sphere.Walk.{crossings}
use Rattle.law_geometry.proofs.sphere.Along.{along, cells}
use Rattle.law_geometry.proofs.sphere.ArcWays.{arc-all}

module _ (gs : List Vector) (F : Vector → Label → Type 0) (L : Labelling gs F) (directed : (d e : Vector) → SameSigns gs d e → IsDirection d → IsDirection e)
    (far_directed : (d e : Vector) (k : ℕ) → amount gs e ≤ k → IsDirection d → IsDirection (blend k d 1 e))
    (n : Vector) (a m b : Label) (proper : a ≡ m → b ≡ m → ⊥) (hn : IsDirection n)
    (s t : Vector) (hs : IsDirection s) (ht : IsDirection t) (ls : dot n s ≡ pos 0) (lt : dot n t ≡ pos 0)
    (smooth : (d : Vector) → IsStrictlyOn n s t d → IsSmooth F d)
    (K : ℕ) (large : amount (cross t n ∷ []) (cross n s) ≤ K) (start : StraightAt F n a m b (past_source n s K)) where
  abbrev P : Vector → Type 0
  P d = StraightAt F n a m b d

  -- everywhere on the arc the labels are those close to its source
  pub arc-along : (d : Vector) → IsStrictlyOn n s t d → P d
  arc-along = arc-all n s t hn hs ht ls lt P
      (λ d e x o w. cells gs F L directed far_directed n a m b proper d e x.on_circle.direction o.on_circle.direction (λ g l. dir-signs d e g x.on_circle.direction w) o.on_circle.level)
      (λ d e x o f between. along gs F L directed far_directed n a m b proper hn (crossings gs d e + 1) d e (omega arith) f o.on_circle.level (smooth e o) (λ i j si sj. smooth (blend i d j e) (between i j si sj)))
      K large start

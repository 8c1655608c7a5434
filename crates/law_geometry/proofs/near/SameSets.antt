-- Sets of operands that are the same are the same.
use Rattle.nef_space.specs.Sets.{Holds}
use Rattle.law_geometry.proofs.near.Prelude.{◌↔◌, inl, inr, ⊎_elim, SpacePoint, InFrame, Set, Interior, Closure, SameSet, Out, Not, In}

-- they hold at the same points of the frame
abbrev pub Alike : Set → Set → Type 0
Alike s t = (p : SpacePoint) → InFrame p → Holds s p ↔ Holds t p

pub alike-same : (s t : Set) → Alike s t → SameSet s t
alike-same s t h p Out = (λ i. i, λ i. i)
alike-same s t h p Not = (λ i. (i.0, λ k. i.1 ((h p i.0).1 k)), λ i. (i.0, λ k. i.1 ((h p i.0).0 k)))
alike-same s t h p In = (λ i. (i.0, (h p i.0).0 i.1), λ i. (i.0, (h p i.0).1 i.1))

pub same-alike : (s t : Set) → SameSet s t → Alike s t
same-alike s t h p i = (λ k. ((h p In).0 (i, k)).1, λ k. ((h p In).1 (i, k)).1)

pub same-self : (s : Set) → SameSet s s
same-self s p l = (λ h. h, λ h. h)

pub same-turned : (s t : Set) → SameSet s t → SameSet t s
same-turned s t h p l = ((h p l).1, (h p l).0)

pub same-trans : (s t u : Set) → SameSet s t → SameSet t u → SameSet s u
same-trans s t u h k p l = (λ i. (k p l).0 ((h p l).0 i), λ i. (h p l).1 ((k p l).1 i))

-- ---- one operand
module _ (a c : Set) (f : Alike a c) where
  other-alike : Alike (Set.other a) (Set.other c)
  unfolding Holds
  other-alike p i = (λ h k. h ((f p i).1 k), λ h k. h ((f p i).0 k))

  interior-alike : (p : SpacePoint) → Interior (Holds a) p ↔ Interior (Holds c) p
  interior-alike p = (
    λ (n, some, h). (n, some, λ q i w. (f q i).0 (h q i w)),
    λ (n, some, h). (n, some, λ q i w. (f q i).1 (h q i w)),
  )

  closure-alike : (p : SpacePoint) → Closure (Holds a) p ↔ Closure (Holds c) p
  closure-alike p = (
    λ h n some. let r = h n some in (r.0, r.1, r.2, (f r.0 r.1).0 r.3),
    λ h n some. let r = h n some in (r.0, r.1, r.2, (f r.0 r.1).1 r.3),
  )

  inside-alike : Alike (Set.inside a) (Set.inside c)
  unfolding Holds
  inside-alike p i = interior-alike p

  closed-alike : Alike (Set.closed a) (Set.closed c)
  unfolding Holds
  closed-alike p i = closure-alike p

  border-alike : Alike (Set.border a) (Set.border c)
  unfolding Holds
  border-alike p i = (
    λ h. ((closure-alike p).0 h.0, λ k. h.1 ((interior-alike p).1 k)),
    λ h. ((closure-alike p).1 h.0, λ k. h.1 ((interior-alike p).0 k)),
  )

  regular-alike : Alike (Set.regular a) (Set.regular c)
  unfolding Holds
  regular-alike p i = (
    λ h n some. let r = h n some in (r.0, r.1, r.2, (interior-alike r.0).0 r.3),
    λ h n some. let r = h n some in (r.0, r.1, r.2, (interior-alike r.0).1 r.3),
  )

-- ---- two operands
module _ (a b c d : Set) (f : Alike a c) (g : Alike b d) where
  both-alike : Alike (Set.both a b) (Set.both c d)
  unfolding Holds
  both-alike p i = (λ h. ((f p i).0 h.0, (g p i).0 h.1), λ h. ((f p i).1 h.0, (g p i).1 h.1))

  either-alike : Alike (Set.either a b) (Set.either c d)
  unfolding Holds
  either-alike p i = (
    λ h. ⊎_elim (λ x. inl ((f p i).0 x)) (λ y. inr ((g p i).0 y)) h,
    λ h. ⊎_elim (λ x. inl ((f p i).1 x)) (λ y. inr ((g p i).1 y)) h,
  )

  less-alike : Alike (Set.less a b) (Set.less c d)
  unfolding Holds
  less-alike p i = (λ h. ((f p i).0 h.0, λ k. h.1 ((g p i).1 k)), λ h. ((f p i).1 h.0, λ k. h.1 ((g p i).0 k)))

  one_of-alike : Alike (Set.one_of a b) (Set.one_of c d)
  unfolding Holds
  one_of-alike p i = (
    λ h. ⊎_elim (λ x. inl ((f p i).0 x.0, λ k. x.1 ((g p i).1 k))) (λ y. inr (λ k. y.0 ((f p i).1 k), (g p i).0 y.1)) h,
    λ h. ⊎_elim (λ x. inl ((f p i).1 x.0, λ k. x.1 ((g p i).0 k))) (λ y. inr (λ k. y.0 ((f p i).0 k), (g p i).1 y.1)) h,
  )

-- ---- the same for sets that are the same
module _ (a c : Set) (f : SameSet a c) where
  pub same-other : SameSet (Set.other a) (Set.other c)
  same-other = alike-same (Set.other a) (Set.other c) (other-alike a c (same-alike a c f))

  pub same-inside : SameSet (Set.inside a) (Set.inside c)
  same-inside = alike-same (Set.inside a) (Set.inside c) (inside-alike a c (same-alike a c f))

  pub same-closed : SameSet (Set.closed a) (Set.closed c)
  same-closed = alike-same (Set.closed a) (Set.closed c) (closed-alike a c (same-alike a c f))

  pub same-border : SameSet (Set.border a) (Set.border c)
  same-border = alike-same (Set.border a) (Set.border c) (border-alike a c (same-alike a c f))

  pub same-regular : SameSet (Set.regular a) (Set.regular c)
  same-regular = alike-same (Set.regular a) (Set.regular c) (regular-alike a c (same-alike a c f))

module _ (a b c d : Set) (f : SameSet a c) (g : SameSet b d) where
  pub same-both : SameSet (Set.both a b) (Set.both c d)
  same-both = alike-same (Set.both a b) (Set.both c d) (both-alike a b c d (same-alike a c f) (same-alike b d g))

  pub same-either : SameSet (Set.either a b) (Set.either c d)
  same-either = alike-same (Set.either a b) (Set.either c d) (either-alike a b c d (same-alike a c f) (same-alike b d g))

  pub same-less : SameSet (Set.less a b) (Set.less c d)
  same-less = alike-same (Set.less a b) (Set.less c d) (less-alike a b c d (same-alike a c f) (same-alike b d g))

  pub same-one_of : SameSet (Set.one_of a b) (Set.one_of c d)
  same-one_of = alike-same (Set.one_of a b) (Set.one_of c d) (one_of-alike a b c d (same-alike a c f) (same-alike b d g))

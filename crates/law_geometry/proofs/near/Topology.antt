-- Interior, closure, boundary and regularisation in terms of cones.
use Rattle.law_geometry.proofs.near.Prelude.{◌+◌, pos, arith, refl, ◌⊎◌, inl, inr, ⊎_elim, ◌↔◌, subst, ints, SpacePoint, Ratio, step, toward, InFrame, Vector, IsZero, zero_vector, blend, Set, Interior, Closure, HasLabel, Germ, Label, Out, Not, In, frame, carriers, NearGerm}
use Rattle.nef_space.specs.Sets.{Holds}
use Rattle.law_geometry.proofs.near.Near.{stride, step-within, reach_all}
use Rattle.law_geometry.proofs.near.Cells.{reach-some}
use Rattle.law_geometry.proofs.near.Germs.{Germ-unique, Germ-from_sample}
use Rattle.law_geometry.proofs.near.Flats.{germ-toward, label-toward}
use Rattle.law_geometry.proofs.near.Decided.{label_of, germ_of, InFrame-decided}
use Rattle.law_geometry.proofs.near.Rays.{within-self, Germ-zero}
use Rattle.law_geometry.proofs.near.Combine.{shorter}
use Rattle.law_geometry.proofs.near.Frames.{frame-near, no-germ_out}
use Rattle.law_geometry.proofs.near.Decisions.{ahead, near-ahead, all-germs}

-- the cone at p is l somewhere
abbrev pub Somewhere : Set → SpacePoint → Label → Type 0
Somewhere a p l = HasLabel a p l ⊎ ((d : Vector) × Germ a p d l)

-- it is l at d or somewhere near d
abbrev pub SomewhereNear : Set → SpacePoint → Vector → Label → Type 0
SomewhereNear a p d l = Germ a p d l ⊎ ((e : Vector) × NearGerm a p d e l)

-- ---- at a point
pub inside-at : (a : Set) (p : SpacePoint) → HasLabel (Set.inside a) p In ↔ (HasLabel a p In × ((d : Vector) → Germ a p d In))
unfolding Holds
inside-at a p = (there, back)
  where
    there : InFrame p × Interior (Holds a) p → HasLabel a p In × ((d : Vector) → Germ a p d In)
    there (i, (n, some, f)) = (
      (i, f p i (within-self n p)),
      λ d. (
        stride n d + stride (reach_all frame p) d,
        omega arith,
        λ t h.
            let q = step p t d in
            let j = frame-near p q i (step-within (reach_all frame p) p d t (shorter (stride (reach_all frame p) d) (stride n d + stride (reach_all frame p) d) t (omega arith) h)) in
            (j, f q j (step-within n p d t (shorter (stride n d) (stride n d + stride (reach_all frame p) d) t (omega arith) h))),
      ),
    )

    back : HasLabel a p In × ((d : Vector) → Germ a p d In) → InFrame p × Interior (Holds a) p
    back (h, g) = (h.0, (reach_all (carriers a) p, reach-some (carriers a) p, λ q i c. (label-toward a In p q c (g (toward p q))).1))

pub closed-at : (a : Set) (p : SpacePoint) → HasLabel (Set.closed a) p In ↔ (InFrame p × Somewhere a p In)
unfolding Holds
closed-at a p = (there, back)
  where
    there : InFrame p × Closure (Holds a) p → InFrame p × Somewhere a p In
    there (i, f) = let r = f (reach_all (carriers a) p) (reach-some (carriers a) p) in (i, inr (toward p r.0, germ-toward a In p r.0 r.2 (r.1, r.3)))

    back : InFrame p × Somewhere a p In → InFrame p × Closure (Holds a) p
    back (i, inl h) = (i, λ n some. (p, i, within-self n p, h.1))
    back (i, inr (d, (m, more, g))) = (
      i,
      λ n some.
          let t : Ratio = record { a = pos 1; b = m + stride n d + 1; proper = omega arith } in
          let h = g t (omega (arith, ints), omega (arith, ints)) in
          (step p t d, h.0, step-within n p d t (omega (arith, ints), omega (arith, ints)), h.1),
    )

-- in the frame a cone that isn't In throughout is Not somewhere
not-throughout : (a : Set) (p : SpacePoint) → InFrame p → ((HasLabel a p In × ((d : Vector) → Germ a p d In)) → ⊥) → Somewhere a p Not
not-throughout a p i n = ⊎_elim
    (λ all. absurd (n ((Germ-zero a p zero_vector In (refl, refl, refl)).0 (all zero_vector), all)))
    (λ c. inr (c.0, by c.0 (germ_of a p c.0) c.1))
    (all-germs a p In)
  where
    by : (d : Vector) → (l : Label) × Germ a p d l → (Germ a p d In → ⊥) → Germ a p d Not
    by d (Out, g) m = absurd (no-germ_out a p d i g)
    by d (Not, g) m = g
    by d (In, g) m = absurd (m g)

-- a cone that is Not somewhere isn't In throughout
not-somewhere : (a : Set) (p : SpacePoint) → Somewhere a p Not → (HasLabel a p In × ((d : Vector) → Germ a p d In)) → ⊥
not-somewhere a p (inl h) all = h.1 all.0.1
not-somewhere a p (inr (d, g)) all = let e = Germ-unique a p d Not In g (all.1 d) in cc

pub border-at : (a : Set) (p : SpacePoint) → HasLabel (Set.border a) p In ↔ (Somewhere a p In × Somewhere a p Not × InFrame p)
unfolding Holds
border-at a p = (there, back)
  where
    there : HasLabel (Set.border a) p In → Somewhere a p In × Somewhere a p Not × InFrame p
    there (i, (c, n)) = (((closed-at a p).0 (i, c)).1, not-throughout a p i (λ all. n ((inside-at a p).1 all).1), i)

    back : Somewhere a p In × Somewhere a p Not × InFrame p → HasLabel (Set.border a) p In
    back (s, n, i) = (i, (((closed-at a p).1 (i, s)).1, λ k. not-somewhere a p n ((inside-at a p).0 (i, k))))

-- regularisation is the closure of the interior
pub regular-label : (a : Set) (p : SpacePoint) (l : Label) → HasLabel (Set.regular a) p l ↔ HasLabel (Set.closed (Set.inside a)) p l
unfolding Holds
regular-label a p Out = (λ h. h, λ h. h)
regular-label a p Not = (λ h. h, λ h. h)
regular-label a p In = (λ h. h, λ h. h)

-- ---- toward a direction
pub label-ahead : (s : Set) (p : SpacePoint) (d : Vector) (l : Label) → Germ s p d l ↔ HasLabel s (ahead s p d) l
label-ahead s p d l = (
  λ g. let m = label_of s (ahead s p d) in subst (HasLabel s (ahead s p d)) (Germ-unique s p d m.0 l (Germ-from_sample s p d m.0 m.1) g) m.1,
  Germ-from_sample s p d l,
)

in-frame_ahead : (s : Set) (p : SpacePoint) (d : Vector) → (Germ s p d Out → ⊥) ↔ InFrame (ahead s p d)
in-frame_ahead s p d = (
  λ n. ⊎_elim (λ i. i) (λ o. absurd (n ((label-ahead s p d Out).1 o))) (InFrame-decided (ahead s p d)),
  λ i g. (label-ahead s p d Out).0 g i,
)

somewhere-ahead : (s : Set) (p : SpacePoint) (d : Vector) (l : Label) → SomewhereNear s p d l ↔ Somewhere s (ahead s p d) l
somewhere-ahead s p d l = (there, back)
  where
    there : SomewhereNear s p d l → Somewhere s (ahead s p d) l
    there (inl g) = inl ((label-ahead s p d l).0 g)
    there (inr (e, g)) = inr (e, (near-ahead s p d e l).1 g)

    back : Somewhere s (ahead s p d) l → SomewhereNear s p d l
    back (inl h) = inl ((label-ahead s p d l).1 h)
    back (inr (e, g)) = inr (e, (near-ahead s p d e l).0 g)

pub inside-toward : (a : Set) (p : SpacePoint) (d : Vector) → Germ (Set.inside a) p d In ↔ (Germ a p d In × ((e : Vector) → NearGerm a p d e In))
inside-toward a p d = (
  λ g. let h = (inside-at a (ahead a p d)).0 ((label-ahead (Set.inside a) p d In).0 g) in ((label-ahead a p d In).1 h.0, λ e. (near-ahead a p d e In).0 (h.1 e)),
  λ h. (label-ahead (Set.inside a) p d In).1 ((inside-at a (ahead a p d)).1 ((label-ahead a p d In).0 h.0, λ e. (near-ahead a p d e In).1 (h.1 e))),
)

pub closed-toward : (a : Set) (p : SpacePoint) (d : Vector) → Germ (Set.closed a) p d In ↔ ((Germ a p d Out → ⊥) × SomewhereNear a p d In)
closed-toward a p d = (
  λ g. let h = (closed-at a (ahead a p d)).0 ((label-ahead (Set.closed a) p d In).0 g) in ((in-frame_ahead a p d).1 h.0, (somewhere-ahead a p d In).1 h.1),
  λ h. (label-ahead (Set.closed a) p d In).1 ((closed-at a (ahead a p d)).1 ((in-frame_ahead a p d).0 h.0, (somewhere-ahead a p d In).0 h.1)),
)

pub border-toward : (a : Set) (p : SpacePoint) (d : Vector) → Germ (Set.border a) p d In ↔ (SomewhereNear a p d In × SomewhereNear a p d Not × (Germ a p d Out → ⊥))
border-toward a p d = (
  λ g. let h = (border-at a (ahead a p d)).0 ((label-ahead (Set.border a) p d In).0 g) in ((somewhere-ahead a p d In).1 h.0, (somewhere-ahead a p d Not).1 h.1, (in-frame_ahead a p d).1 h.2),
  λ h. (label-ahead (Set.border a) p d In).1 ((border-at a (ahead a p d)).1 ((somewhere-ahead a p d In).0 h.0, (somewhere-ahead a p d Not).0 h.1, (in-frame_ahead a p d).0 h.2)),
)

-- near d toward the zero vector is d itself
pub near-germ_zero : (s : Set) (p : SpacePoint) (d e : Vector) (l : Label) → IsZero e → NearGerm s p d e l ↔ Germ s p d l
near-germ_zero s p d e l z = (
  λ g. (label-ahead s p d l).1 ((Germ-zero s (ahead s p d) e l z).0 ((near-ahead s p d e l).1 g)),
  λ g. (near-ahead s p d e l).0 ((Germ-zero s (ahead s p d) e l z).1 ((label-ahead s p d l).0 g)),
)

-- ---- the regularisation
-- the interior is In toward d where all germs near d are In
pub inside-near : (a : Set) (p : SpacePoint) (d : Vector) → Germ (Set.inside a) p d In ↔ ((e : Vector) → NearGerm a p d e In)
inside-near a p d = (λ g. ((inside-toward a p d).0 g).1, λ f. (inside-toward a p d).1 ((near-germ_zero a p d zero_vector In (refl, refl, refl)).0 (f zero_vector), f))

pub regular-at : (a : Set) (p : SpacePoint) → HasLabel (Set.regular a) p In ↔ (InFrame p × ((d : Vector) × ((e : Vector) → NearGerm a p d e In)))
regular-at a p = (λ h. let k = (closed-at (Set.inside a) p).0 ((regular-label a p In).0 h) in (k.0, there k.1), λ h. (regular-label a p In).1 ((closed-at (Set.inside a) p).1 (h.0, inr (h.1.0, (inside-near a p h.1.0).1 h.1.1))))
  where
    there : Somewhere (Set.inside a) p In → (d : Vector) × ((e : Vector) → NearGerm a p d e In)
    there (inl h) = (zero_vector, λ e. (0, λ k m. ((inside-at a p).0 h).1 (blend k zero_vector 1 e)))
    there (inr (d, g)) = (d, (inside-near a p d).0 g)

pub regular-toward : (a : Set) (p : SpacePoint) (d : Vector) → Germ (Set.regular a) p d In ↔ ((Germ a p d Out → ⊥) × ((e : Vector) × NearGerm (Set.inside a) p d e In))
regular-toward a p d = (there, back)
  where
    there : Germ (Set.regular a) p d In → (Germ a p d Out → ⊥) × ((e : Vector) × NearGerm (Set.inside a) p d e In)
    there g = let h = (regular-at a (ahead a p d)).0 ((label-ahead (Set.regular a) p d In).0 g) in
        ((in-frame_ahead a p d).1 h.0, (h.1.0, (near-ahead (Set.inside a) p d h.1.0 In).0 ((inside-near a (ahead a p d) h.1.0).1 h.1.1)))

    back : (Germ a p d Out → ⊥) × ((e : Vector) × NearGerm (Set.inside a) p d e In) → Germ (Set.regular a) p d In
    back (n, (e, g)) = (label-ahead (Set.regular a) p d In).1 ((regular-at a (ahead a p d)).1 ((in-frame_ahead a p d).0 n, (e, (inside-near a (ahead a p d) e).0 ((near-ahead (Set.inside a) p d e In).1 g))))

-- Labels that the signs of finitely many forms determine, as a labelling; where they are plain or straight.
use Rattle.law_geometry.proofs.sphere.building.Prelude.{◌≡◌, ℕ, ◌+◌, ◌≤◌, pos, arith, refl, ap, sym, ◌∙◌, ⊎_elim, List, ◌++◌, subst, sign, nought-or, lies-left, lies-right, Vector, IsDirection, cross, dot, IsZero, SameDirection, blend, Label, Map, MapLabel, Valid, SameSigns, axes, by_side, Least, Labelling, Near, PlainAt, StraightAt, IsSmooth, plain, straight, IsBuilt, NoneSmooth, amount, far-keeps, far-level, level-same, Axial, far_directed-by, built-valid, built-least, built-labels, Of, IsLabelling, zero-decided, dir-self, dir-signs, direction-right, direction-left, in-span}
use Rattle.law_geometry.proofs.sphere.Lone.{near-same_signs}

-- the forms with the axes, which tell directions
abbrev pub with_axes : List Vector → List Vector
with_axes gs = axes ++ gs

pub labelling : (gs : List Vector) (L : Vector → Label) → IsLabelling gs L → Labelling (with_axes gs) (Of L)
labelling gs L I = record {
  exists = λ d h. (L d, refl);
  one = λ d m n h a b. sym a ∙ b;
  cells = λ d e m h f s a. sym (I d e h f (λ g l. s g (lies-right axes gs g l))) ∙ a;
}

pub axial : (gs : List Vector) → Axial (with_axes gs)
axial gs g l = lies-left axes gs g l

pub labels-build : (gs : List Vector) (L : Vector → Label) (M : Map) → IsLabelling gs L → IsBuilt M (Of L) → NoneSmooth M (Of L)
    → Valid M × Least M × ((d : Vector) → IsDirection d → MapLabel M d (L d))
labels-build gs L M I B K =
    let hs = with_axes gs in
    let W = labelling gs L I in
    (built-valid hs (Of L) W (axial gs) M B, built-least hs (Of L) W (axial gs) M B K, λ d h. (built-labels hs (Of L) W (axial gs) M B d (L d) h).1 refl)

module _ (gs : List Vector) (L : Vector → Label) (I : IsLabelling gs L) where
  abbrev F : Vector → Label → Type 0
  F = Of L

  abbrev hs : List Vector
  hs = with_axes gs

  far : (d e : Vector) (k : ℕ) → amount hs e ≤ k → IsDirection d → IsDirection (blend k d 1 e)
  far d e k l h = far_directed-by hs (axial gs) d e k l h

  -- ---- the same way
  near-same_way : (d c e : Vector) (m : Label) → SameDirection d c → Near F d e m → Near F c e m
  near-same_way d c e m w (n, f) = (
    n + amount hs e,
    λ k l. let j : amount hs e ≤ k = omega arith in
        (labelling gs L I).cells (blend k d 1 e) (blend k c 1 e) m (far d e k j (direction-left d c w)) (far c e k j (direction-right d c w)) (near-same_signs hs d c e k j w) (f k (omega arith)),
  )

  at-same_way : (d c : Vector) (m : Label) → SameDirection d c → F d m → F c m
  at-same_way d c m w a = (labelling gs L I).cells d c m (direction-left d c w) (direction-right d c w) (λ g l. dir-signs d c g (direction-left d c w) w) a

  pub smooth-same_way : (d c : Vector) → SameDirection d c → IsSmooth F d → IsSmooth F c
  smooth-same_way d c w (plain m p) = plain m (record { at_d = at-same_way d c m w p.at_d; near = λ e. near-same_way d c e m w (p.near e) })
  smooth-same_way d c w (straight n a m b hn p) = straight n a m b hn (record {
    level = level-same n n d c (dir-self n hn) w p.level;
    at_d = at-same_way d c m w p.at_d;
    near = λ e. near-same_way d c e (by_side a m b (sign (dot n e))) w (p.near e);
  })

  -- ---- along the direction itself
  near-parallel : (d e : Vector) (m : Label) → IsDirection d → IsZero (cross d e) → F d m → Near F d e m
  near-parallel d e m h z a = (amount hs e, λ k l. (labelling gs L I).cells d (blend k d 1 e) m h (far d e k l h) (same k l) a)
    where
      same : (k : ℕ) → amount hs e ≤ k → SameSigns hs d (blend k d 1 e)
      same k l g i = ⊎_elim
          (λ y. far-level hs d e k l g y ∙ ap sign (in-span g d e h z y) ∙ sym (ap sign y))
          (λ f. far-keeps hs d e k l g i f) (nought-or (dot g d))

  pub plain-from : (d : Vector) (m : Label) → IsDirection d → F d m → ((e : Vector) → IsDirection (cross d e) → Near F d e m) → PlainAt F d m
  plain-from d m h a near = record { at_d = a; near = λ e. ⊎_elim (λ z. near-parallel d e m h z a) (λ f. near e f) (zero-decided (cross d e)) }

  pub straight-from : (n : Vector) (a m b : Label) (d : Vector) → IsDirection d → dot n d ≡ pos 0 → F d m
      → ((e : Vector) → IsDirection (cross d e) → Near F d e (by_side a m b (sign (dot n e)))) → StraightAt F n a m b d
  straight-from n a m b d h l at_d near = record {
    level = l;
    at_d = at_d;
    near = λ e. ⊎_elim
        (λ z. subst (Near F d e) (ap (by_side a m b) (sym (ap sign (in-span n d e h z l)))) (near-parallel d e m h z at_d))
        (λ f. near e f) (zero-decided (cross d e));
  }

-- A star that is kept stands at a direction that is neither plain nor straight.
use Rattle.law_geometry.proofs.sphere.building.Prelude.{◌≡◌, ℕ, zero, ◌+◌, arith, refl, ap, sym, ◌∙◌, inl, inr, ⊎_elim, ◌↔◌, List, ◌∷◌, subst, length, [], sign, Vector, IsDirection, cross, dot, blend, Label, IsAt, MapVertex, Map, MapLabel, NearLabel, Valid, by_side, NearPlain, NearStraight, Least, Ordered, Near, PlainAt, StraightAt, IsSmooth, plain, straight, NoneSmooth, Star, in_only_sector, IsPlain, IsSimplified, StarShows, amount, circle-point, far_directed-by, built-valid, built-labels, plain-no_ray, straight-rays, RawMap, Of, IsLabelling, sector_count, ShowsLabels, IsRawOf, AreSimplified, IsBuiltFrom, square-cross, nought-if, level_cross_second, is-at_nowhere}
use Rattle.law_geometry.proofs.sphere.building.BuiltLabels.{with_axes, labelling, axial, labels-build}
use Rattle.law_geometry.proofs.sphere.Simplified.{off-axis}
use Rattle.law_geometry.proofs.sphere.building.StarRays.{two-straight, rays-apart}
use Rattle.law_geometry.proofs.sphere.building.BuiltAxes.{IsMadeOfStars, kept-shows, kept-simple, svertex-star}
use Rattle.law_geometry.proofs.sphere.building.BuiltAround.{sector-there}
use Rattle.law_geometry.proofs.sphere.building.BuiltMap.{made-built, made-ordered}

one-element : {A : Type 0} (xs : List A) → length xs ≡ 1 → (x : A) × (xs ≡ x ∷ [])
one-element [] e = absurd (omega arith)
one-element (x ∷ []) e = (x, refl)
one-element (x ∷ y ∷ xs) e = absurd (omega arith)

near-of : (L : Vector → Label) (d e : Vector) (k l : Label) → Near (Of L) d e k → Near (Of L) d e l → k ≡ l
near-of L d e k l (i, f) (j, g) = sym (f (i + j) (omega arith)) ∙ g (i + j) (omega arith)

-- a star without rays whose mark is the label near its axis toward e is plain
no-ray-plain : (t : Star) (L : Vector → Label) → ShowsLabels t L → t.rays ≡ [] → (e : Vector) → IsDirection (cross t.axis e) → Near (Of L) t.axis e t.mark → IsPlain t
no-ray-plain t L S none e f near =
    let x = one-element t.sectors (S.star.as_many ∙ ap sector_count none) in
    let s = S.labels e x.0 f (in_only_sector none (subst (λ (ls : List Label). IsAt ls zero x.0) (sym x.1) refl)) in
    record { no_ray = none; one_sector = x.1 ∙ ap (λ l. l ∷ []) (near-of L t.axis e x.0 t.mark s near) }

module _ (gs : List Vector) (L : Vector → Label) (R : RawMap) (M : Map) (C : IsMadeOfStars gs L R M) where
  abbrev F : Vector → Label → Type 0
  F = Of L

  abbrev hs : List Vector
  hs = with_axes gs

  valid : Valid M
  valid = built-valid hs F (labelling gs L C.labelling) (axial gs) M (made-built gs L R M C)

  labels : (d : Vector) (m : Label) → IsDirection d → MapLabel M d m ↔ F d m
  labels = built-labels hs F (labelling gs L C.labelling) (axial gs) M (made-built gs L R M C)

  near-map : (d e : Vector) (m : Label) → IsDirection d → Near F d e m → NearLabel M d e m
  near-map d e m h (k, f) = (k + amount hs e, λ i l. (labels (blend i d 1 e) m (far_directed-by hs (axial gs) d e i (omega arith) h)).1 (f i (omega arith)))

  star-shows : (t : Star) → ShowsLabels t L → StarShows t M
  star-shows t S = record {
    axis = S.star.axis;
    rays = S.star.rays;
    sectors = sector-there t S.star.as_many;
    mark = (labels t.axis t.mark S.star.axis).1 S.mark;
    labels = λ e l f x. near-map t.axis e l S.star.axis (S.labels e l f x);
  }

  -- ---- one kept star
  module _ (k : ℕ) (t : Star) (h : IsAt C.built.kept k t) where
    S : ShowsLabels t L
    S = kept-shows gs L R M C k t h

    kept-not_plain : (m : Label) → PlainAt F t.axis m → ⊥
    kept-not_plain m p =
        let axis = S.star.axis in
        let e = circle-point t.axis axis in
        let P : NearPlain M t.axis = record { label = m; at_d = (labels t.axis m axis).1 p.at_d; near = λ v f. near-map t.axis v m axis (p.near v) } in
        let none = is-at_nowhere t.rays (plain-no_ray t M valid (star-shows t S) (kept-simple gs L R M C k t h) P) in
        C.built.kept_needed k t h (inl (no-ray-plain t L S none e.0 (off-axis t.axis e.0 axis e.1.direction e.1.level) (subst (Near F t.axis e.0) (sym p.at_d ∙ S.mark) (p.near e.0))))

    kept-not_straight : (n : Vector) (a m b : Label) → IsDirection n → StraightAt F n a m b t.axis → ⊥
    kept-not_straight n a m b hn p = C.built.kept_needed k t h (⊎_elim (λ none. inl (without none)) (λ T. inr (two-straight t S.star T))
        (straight-rays t M valid (star-shows t S) simple (rays-apart t S.star M valid (star-shows t S) simple P) P))
      where
        simple : IsSimplified t
        simple = kept-simple gs L R M C k t h

        P : NearStraight M t.axis
        P = record {
          normal = n;
          direction = hn;
          level = p.level;
          pos = a;
          label = m;
          neg = b;
          at_d = (labels t.axis m S.star.axis).1 p.at_d;
          near = λ e f. near-map t.axis e (by_side a m b (sign (dot n e))) S.star.axis (p.near e);
        }

        without : t.rays ≡ [] → IsPlain t
        without none =
            let w = cross n t.axis in
            no-ray-plain t L S none w (off-axis t.axis w S.star.axis (λ z. S.star.axis (nought-if n t.axis hn z p.level)) (level_cross_second n t.axis))
            (subst (Near F t.axis w) (ap (by_side a m b) (ap sign (square-cross n t.axis)) ∙ sym p.at_d ∙ S.mark) (p.near w))

    kept-not_smooth : IsSmooth F t.axis → ⊥
    kept-not_smooth (plain m p) = kept-not_plain m p
    kept-not_smooth (straight n a m b hn p) = kept-not_straight n a m b hn p

  pub made-kept : NoneSmooth M F
  made-kept k v h s =
      let x = svertex-star gs L R M C k v h in
      kept-not_smooth k x.0 x.1 (subst (IsSmooth F) (sym (ap (λ (r : MapVertex). r.dir) x.2)) s)

pub from-stars : (gs : List Vector) (L : Vector → Label) (R : RawMap) (M : Map) → IsLabelling gs L → IsRawOf R L → AreSimplified R.stars → IsBuiltFrom R M
    → Valid M × Least M × Ordered M × ((d : Vector) → IsDirection d → MapLabel M d (L d))
from-stars gs L R M I W simple B =
    let C : IsMadeOfStars gs L R M = record { labelling = I; raw = W; simple = simple; built = B } in
    let x = labels-build gs L M I (made-built gs L R M C) (made-kept gs L R M C) in
    (x.0, x.1, made-ordered gs L R M C, x.2)

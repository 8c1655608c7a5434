-- The laws of segments for tests, from the lemmas for predicates.
use Rattle.law_geometry.proofs.near.Prelude.{◌≡◌, refl, sym, ◌∙◌, ◌⊎◌, inl, inr, ⊎_elim, Bool, true, false, vector}
use Rattle.law_geometry.specs.near.FormLaws.{SegmentLaw, SegmentOfPoints, SegmentOfDirections, FirstChangeLaw, FirstChangeAtPoints, FirstChangeAtDirections}
use Rattle.law_geometry.proofs.near.Segment.{settled-segment}
use Rattle.law_geometry.proofs.near.FirstVector.{first-change, change-unsettled}
use Rattle.law_geometry.proofs.near.Points.{settled-segment_points, settled-segment_ways, first-change_points, first-change_ways}
use Rattle.std.proofs.lemmas.Bool.{false_from_ne_true}

not-false : (b : Bool) → b ≡ false → b ≡ true → ⊥
not-false true e f = cc
not-false false e f = cc

true-decided : (b : Bool) → (b ≡ true) ⊎ (b ≡ true → ⊥)
true-decided true = inl refl
true-decided false = inr (λ e. cc)

pub segment_law : SegmentLaw
segment_law hs P p q c s = sym (settled-segment hs (λ v. P v ≡ P p) p q
    (λ x y a b e f. sym (c x y a b e) ∙ f)
    (λ x y a b. let t = s x y a b in (t.0, λ k l. (λ f. sym (t.1 k l) ∙ f, λ f. t.1 k l ∙ f))) refl)

pub segment_of_points : SegmentOfPoints
segment_of_points hs P p q c s = sym (settled-segment_points hs (λ v. P v ≡ P p) p q
    (λ x y a b e f. sym (c x y a b e) ∙ f)
    (λ r a. let t = s r a in (t.0, t.1, λ z b w. (λ f. sym (t.2 z b w) ∙ f, λ f. t.2 z b w ∙ f))) refl)

pub segment_of_directions : SegmentOfDirections
segment_of_directions ns P d e c s = sym (settled-segment_ways ns (λ v. P v ≡ P d) d e
    (λ x y a b i f. sym (c x y a b i) ∙ f)
    (λ x y a b. let t = s x y a b in (t.0, λ k l. (λ f. sym (t.1 k l) ∙ f, λ f. t.1 k l ∙ f))) refl)

pub first_change_law : FirstChangeLaw
first_change_law hs P p q c x y =
    let d = first-change hs (λ v. P v ≡ true) p q (λ r a. true-decided (P r)) (λ r s a b e f. sym (c r s a b e) ∙ f) x (not-false (P q) y) in
    record {
      vector = d.vector;
      on = d.on;
      before = d.before;
      change = ⊎_elim (λ f. inl (false_from_ne_true (P d.vector) f)) (λ g. let t = g.1 in inr (g.0, (t.0, t.1, t.2, λ r m. false_from_ne_true (P r) (t.3 r m)))) d.change;
      unsettled = λ s. change-unsettled (λ v. P v ≡ true) p q d (λ z a. let t = s z a in (t.0, λ k l. (λ f. sym (t.1 k l) ∙ f, λ f. t.1 k l ∙ f)));
    }

pub first_change_at_points : FirstChangeAtPoints
first_change_at_points hs P p q c x y =
    let d = first-change_points hs (λ v. P v ≡ true) p q (λ r s a b e f. sym (c r s a b e) ∙ f) (λ r a. true-decided (P r)) x (not-false (P q) y) in
    record {
      place = d.place;
      on = d.on;
      before = d.before;
      change = ⊎_elim (λ f. inl (false_from_ne_true (P d.place) f)) (λ g. let t = g.1 in inr (g.0, (t.0, t.1, t.2, t.3, λ r m. false_from_ne_true (P r) (t.4 r m)))) d.change;
    }

pub first_change_at_directions : FirstChangeAtDirections
first_change_at_directions ns P d e c x y =
    let u = first-change_ways ns (λ v. P v ≡ true) d e (λ r s a b i f. sym (c r s a b i) ∙ f) (λ r a. true-decided (P r)) x (not-false (P e) y) in
    record {
      direction = u.direction;
      on = u.on;
      before = u.before;
      change = ⊎_elim (λ f. inl (false_from_ne_true (P u.direction) f)) (λ g. let t = g.1 in inr (g.0, (t.0, t.1, t.2, λ r m. false_from_ne_true (P r) (t.3 r m)))) u.change;
    }

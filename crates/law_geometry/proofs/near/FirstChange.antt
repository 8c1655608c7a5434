-- Along a segment: what is settled is the same at both ends; the first change of a decided predicate, and the first point of a closed one.
use Rattle.law_geometry.proofs.near.Prelude.{ℕ, ◌+◌, ◌*◌, ◌<◌, arith, ◌⊎◌, inl, inr, ⊎_elim, List, SpacePoint, Form, Within, SamePoint, toward, IsBetween, of_point, IsOnSegment, IsSettled, FirstChange, FirstPoint, direction-left}
use Rattle.law_geometry.proofs.near.Sums.{same-sym, mixed-mix, mixed-inner, on-past, on-after}
use Rattle.law_geometry.proofs.near.Mixed.{between-is, between-same, factor-point, points-on, point-toward, end-zero}
use Rattle.law_geometry.proofs.near.Points.{mix_point, mix-close, far, settled-segment_points, PointChange, first-change_or_points}
use Rattle.law_geometry.proofs.near.Cells.{Cells, same-sym as signs-sym}
use Rattle.law_geometry.proofs.near.Rays.{signs-same, same-point_sym}
use Rattle.law_geometry.proofs.near.Between.{between-mix, between-inner}
use Rattle.nef_space.proofs.Elementary.{same-itself}

-- what is settled along a segment is the same at both ends
pub settled-along : (hs : List Form) (P : SpacePoint → Type 0) → Cells hs P → (p q : SpacePoint) → IsSettled P p q → P p → P q
settled-along hs P C p q S h = settled-segment_points hs P p q (λ r s a b same. C r s same) S h

-- before the end, a point z after x leaves room for one between x and z
module _ (p q x z : SpacePoint) (on : IsOnSegment p z q) (after : IsOnSegment p x z) (apart : SamePoint x z → ⊥) where
  abbrev next : SpacePoint
  next = mix_point 1 x z

  next-between : IsBetween x next z
  next-between = (between-is x next z).1 (mixed-mix 1 (of_point x) 1 (of_point z) (omega arith) (omega arith), apart)

  next-before : IsBetween x next q
  next-before =
      let a = on-past (of_point x) (of_point z) (of_point q) (on-after (of_point p) (of_point x) (of_point z) (of_point q) (points-on p x z after) (points-on p z q on))
      (λ s. apart (factor-point x z (same-sym (of_point z) (of_point x) s))) in
      let m = mixed-inner (of_point x) (of_point z) (of_point q) (of_point next) a ((between-is x next z).0 next-between).0 in
      (between-is x next q).1 (m, λ s. direction-left (toward x next) (toward next z) next-between (end-zero x next q m (point-toward x q s)))

  pub room : (P : SpacePoint → Type 0) → ((r : SpacePoint) → IsBetween x r z → P r → ⊥) → (y : SpacePoint) × IsBetween x y q × ((r : SpacePoint) → IsBetween x r y → P r → ⊥)
  room P f = (next, next-before, λ r b. f r (between-inner x next z r next-between b))

module _ (hs : List Form) (P : SpacePoint → Type 0) (C : Cells hs P) (D : (r : SpacePoint) → P r ⊎ (P r → ⊥)) where
  -- the first change
  pub first-change : (p q : SpacePoint) → P p → ((r : SpacePoint) → IsBetween p r q → P r) ⊎ FirstChange P p q
  first-change p q h = ⊎_elim (λ f. inl f) (λ c. by c c.on) (first-change_or_points hs P p q (λ r s a b same. C r s same) (λ r a. D r) h)
    where
      by : (c : PointChange P p q) → IsOnSegment p c.place q → ((r : SpacePoint) → IsBetween p r q → P r) ⊎ FirstChange P p q
      by c (inl s) = inr (record {
        at_place = c.place;
        on_segment = inl s;
        stands_before = c.before;
        change = ⊎_elim (λ f. absurd (f (C p c.place (signs-same hs p c.place (same-point_sym c.place p s)) h))) (λ g. let t = g.1 in inr (g.0, room p q c.place t.0 t.1 t.2 t.3 P t.4)) c.change;
      })
      by c (inr (inl b)) = inr (record {
        at_place = c.place;
        on_segment = inr b;
        stands_before = c.before;
        change = ⊎_elim (λ f. inl (f, b)) (λ g. let t = g.1 in inr (g.0, room p q c.place t.0 t.1 t.2 t.3 P t.4)) c.change;
      })
      by c (inr (inr s)) = inl (λ r b. c.before r (between-same p r q p r c.place (same-itself p) (same-itself r) (same-point_sym c.place q s) b))

-- the first point at which a closed predicate holds
module _ (hs : List Form) (P : SpacePoint → Type 0) (C : Cells hs P) (D : (r : SpacePoint) → P r ⊎ (P r → ⊥))
    (open-not : (r : SpacePoint) → (P r → ⊥) → (n : ℕ) × (0 < n) × ((s : SpacePoint) → Within n r s → P s → ⊥)) where
  abbrev N : SpacePoint → Type 0
  N r = P r → ⊥

  first-of : (p q : SpacePoint) (c : FirstChange N p q) → ((N c.at_place → ⊥) × IsBetween p c.at_place q) ⊎ (N c.at_place × ((y : SpacePoint) × IsBetween c.at_place y q × ((r : SpacePoint) → IsBetween c.at_place r y → N r → ⊥))) → FirstPoint P p q
  first-of p q c (inl (n, b)) = record { at_place = c.at_place; between = b; holds = ⊎_elim (λ x. x) (λ f. absurd (n f)) (D c.at_place); none_before = c.stands_before }
  first-of p q c (inr (f, (y, b, g))) =
      let x = c.at_place in
      let o = open-not x f in
      let k = o.0 * far x y + 1 in
      absurd (g (mix_point k x y) (between-mix k x y (omega arith) (direction-left (toward x y) (toward y q) b)) (o.2 (mix_point k x y) (mix-close o.0 k x y (omega arith))))

  pub first-between : (p q : SpacePoint) → (P p → ⊥) → ((r : SpacePoint) → IsBetween p r q → P r → ⊥) ⊎ FirstPoint P p q
  first-between p q z = ⊎_elim (λ f. inl f) (λ c. inr (first-of p q c c.change))
      (first-change hs N (λ r s same n x. n (C s r (signs-sym hs r s same) x)) (λ r. ⊎_elim (λ x. inr (λ n. n x)) (λ n. inl n) (D r)) p q z)

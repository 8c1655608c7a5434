-- Arcs of one circle from one source lie in each other; the first of a list after a direction; arcs that meet begin together.
use Rattle.law_geometry.proofs.sphere.Prelude.{◌≡◌, ℕ, zero, suc, ℤ, pos, ◌+ℤ◌, ◌-ℤ◌, ◌*ℤ◌, ◌≤ℤ◌, ◌<ℤ◌, arith, refl, ap, sym, ◌⊎◌, inl, inr, ⊎_elim, List, ◌∷◌, subst, [], ints, ring, at, num, ◌⊖◌, ◌⊗◌, by_order, mul_pos, mul_nonneg, Vector, IsDirection, cross, triple, dot, SameDirection, IsOpposite, IsAt, IsStrictlyOn, Decided, dot-comm, dot-zero, self-pos, cross-turned, triple-turned, opposites, SameDirection-turned, SameDirection-trans, dir-self, parallel-in_plane, is-at_first, is-at_none}
use Rattle.law_geometry.proofs.sphere.Turning.{turns}
use Rattle.law_geometry.proofs.sphere.Vectors.{same-plus, same-minus}
use Rattle.law_geometry.proofs.sphere.Places.{IsStrictlyOn-decided, SameDirection-decided}
use Rattle.law_geometry.proofs.sphere.Around.{Beside, same_way, other_way, beside, opposite-triple, turn-minus, opposite-in_plane}
use Rattle.law_geometry.proofs.sphere.Turn.{turn-last, ends-together}

-- signs in c g = e b + a d
product-signs : (c g e b a d : ℤ) → c *ℤ g ≡ e *ℤ b +ℤ a *ℤ d → pos 0 <ℤ c → pos 0 <ℤ e → pos 0 <ℤ b → pos 0 <ℤ a → pos 0 <ℤ d → pos 0 <ℤ g
product-signs c g e b a d q hc he hb ha hd =
    let x = mul_pos e b he hb in
    let y = mul_pos a d ha hd in
    by_order g (pos 0)
    (λ l. let p = mul_pos c (pos 0 -ℤ g) hc (omega (arith, ints)) in let r = ring (c ∷ g ∷ []) (at 0 ⊗ (num (pos 0) ⊖ at 1)) (num (pos 0) ⊖ at 0 ⊗ at 1) tt in absurd (omega (arith, ints)))
    (λ z. let p = ap (λ r. c *ℤ r) z in let r = ring (c ∷ []) (at 0 ⊗ num (pos 0)) (num (pos 0)) tt in absurd (omega (arith, ints)))
    (λ l. l)

product-signs_minus : (c g e b a d : ℤ) → c *ℤ g ≡ e *ℤ b +ℤ a *ℤ d → c <ℤ pos 0 → e ≤ℤ pos 0 → pos 0 <ℤ b → a <ℤ pos 0 → pos 0 <ℤ d → pos 0 <ℤ g
product-signs_minus c g e b a d q hc he hb ha hd =
    let x = mul_nonneg (pos 0 -ℤ e) b (omega (arith, ints)) (omega (arith, ints)) in
    let y = mul_pos (pos 0 -ℤ a) d (omega (arith, ints)) hd in
    let x' = ring (e ∷ b ∷ []) ((num (pos 0) ⊖ at 0) ⊗ at 1) (num (pos 0) ⊖ at 0 ⊗ at 1) tt in
    let y' = ring (a ∷ d ∷ []) ((num (pos 0) ⊖ at 0) ⊗ at 1) (num (pos 0) ⊖ at 0 ⊗ at 1) tt in
    by_order g (pos 0)
    (λ l. let p = mul_pos (pos 0 -ℤ c) (pos 0 -ℤ g) (omega (arith, ints)) (omega (arith, ints)) in let r = ring (c ∷ g ∷ []) ((num (pos 0) ⊖ at 0) ⊗ (num (pos 0) ⊖ at 1)) (at 0 ⊗ at 1) tt in absurd (omega (arith, ints)))
    (λ z. let p = ap (λ r. c *ℤ r) z in let r = ring (c ∷ []) (at 0 ⊗ num (pos 0)) (num (pos 0)) tt in absurd (omega (arith, ints)))
    (λ l. l)

module _ (n s t : Vector) (hn : IsDirection n) (hs : IsDirection s) (ht : IsDirection t) (ls : dot n s ≡ pos 0) (lt : dot n t ≡ pos 0) where
  -- what lies on the way to c, which lies on the way to t, lies on the way to t
  pub nested : (c e : Vector) → IsStrictlyOn n s t c → IsStrictlyOn n s c e → IsStrictlyOn n s t e
  nested c e o p = record {
    on_circle = p.on_circle;
    not_source = p.not_source;
    not_target = not_target;
    less_than_half = λ h. (let q = less h in q.0, let q = less h in q.1);
    more_than_half = more;
    just_half = half;
  }
    where
      plucker : triple n s c *ℤ triple n e t ≡ triple n s e *ℤ triple n c t +ℤ triple n s t *ℤ triple n e c
      plucker =
          let q = turns n s c e t in
          let x = ap (λ r. triple n s t *ℤ r) (triple-turned n e c) in
          let y = ring (triple n s t ∷ triple n c e ∷ []) (at 0 ⊗ (num (pos 0) ⊖ at 1)) (num (pos 0) ⊖ at 0 ⊗ at 1) tt in
          omega (arith, ints)

      less : pos 0 <ℤ triple n s t → (pos 0 <ℤ triple n s e) × (pos 0 <ℤ triple n e t)
      less h =
          let q = o.less_than_half h in
          let r = p.less_than_half q.0 in
          (r.0, product-signs (triple n s c) (triple n e t) (triple n s e) (triple n c t) (triple n s t) (triple n e c) plucker q.0 r.0 q.1 h r.1)

      -- c is opposite to s
      opposite-c : triple n s c ≡ pos 0 → IsOpposite s c
      opposite-c z = by (beside s c hs o.on_circle.direction (parallel-in_plane n s c hn ls o.on_circle.level z))
        where
          by : Beside s c → IsOpposite s c
          by (same_way w) = absurd (o.not_source w)
          by (other_way w) = w

      -- past half the circle
      late : triple n s t <ℤ pos 0 → triple n s e ≤ℤ pos 0 → pos 0 <ℤ triple n e t
      late h l = by_order (triple n s c) (pos 0)
          (λ m.
          let d = ⊎_elim (λ x. absurd (omega (arith, ints))) (λ x. x) (p.more_than_half m) in
          let b = ⊎_elim (λ x. absurd (omega (arith, ints))) (λ x. x) (o.more_than_half h) in
          product-signs_minus (triple n s c) (triple n e t) (triple n s e) (triple n c t) (triple n s t) (triple n e c) plucker m l b h d)
          (λ z. let x = p.just_half (opposite-c z) in absurd (omega (arith, ints)))
          (λ m. let x = (p.less_than_half m).0 in absurd (omega (arith, ints)))

      more : triple n s t <ℤ pos 0 → (pos 0 <ℤ triple n s e) ⊎ (pos 0 <ℤ triple n e t)
      more h = by_order (triple n s e) (pos 0) (λ l. inr (late h (omega (arith, ints)))) (λ z. inr (late h (omega (arith, ints)))) (λ l. inl l)

      half : IsOpposite s t → pos 0 <ℤ triple n s e
      half w = let x = o.just_half w in (p.less_than_half x).0

      not_target : SameDirection t e → ⊥
      not_target w = by_order (triple n s t) (pos 0)
          (λ l. let x = late l (let y = same-minus (triple n s t) (triple n s e) (turn-last n s t e w) l in omega (arith, ints)) in let y = dot-zero n (cross e t) (cross-turned t e w.parallel) in omega (arith, ints))
          (λ z. by (beside s t hs ht (parallel-in_plane n s t hn ls lt z)))
          (λ l. let x = (less l).1 in let y = dot-zero n (cross e t) (cross-turned t e w.parallel) in omega (arith, ints))
        where
          by : Beside s t → ⊥
          by (same_way v) = p.not_source (SameDirection-trans s t e v w)
          by (other_way v) = let x = half v in let y = same-plus (triple n s e) (triple n s t) (sym (turn-last n s t e w)) x in let z = dot-zero n (cross s t) v.parallel in omega (arith, ints)

-- ---- the first of a list
pub record First (n s : Vector) (xs : List Vector) : Type 0 where
  pub target : Vector
  pub listed : (s ≡ target) ⊎ ((k : ℕ) × IsAt xs k target)
  pub direction : IsDirection target
  pub level : dot n target ≡ pos 0
  pub none_before : (k : ℕ) (x : Vector) → IsAt xs k x → IsStrictlyOn n s target x → ⊥

module _ (n s : Vector) (hn : IsDirection n) (hs : IsDirection s) (ls : dot n s ≡ pos 0) where
  pub first-after : (xs : List Vector) → First n s xs
  first-after [] = record { target = s; listed = inl refl; direction = hs; level = ls; none_before = λ k x a o. is-at_none a }
  first-after (x ∷ xs) = by (first-after xs)
    where
      by : First n s xs → First n s (x ∷ xs)
      by r = ⊎_elim
          (λ o. record { target = x; listed = inr (zero, refl); direction = o.on_circle.direction; level = o.on_circle.level; none_before = shorter o })
          (λ f. record { target = r.target; listed = ⊎_elim (λ e. inl e) (λ k. inr (suc k.0, k.1)) r.listed; direction = r.direction; level = r.level; none_before = same f })
          (IsStrictlyOn-decided n s r.target x)
        where
          shorter : IsStrictlyOn n s r.target x → (k : ℕ) (y : Vector) → IsAt (x ∷ xs) k y → IsStrictlyOn n s x y → ⊥
          shorter o zero y e p = p.not_target (subst (SameDirection x) (is-at_first e) (dir-self x o.on_circle.direction))
          shorter o (suc k) y a p = r.none_before k y a (nested n s r.target hn hs r.direction ls r.level x y o p)

          same : (IsStrictlyOn n s r.target x → ⊥) → (k : ℕ) (y : Vector) → IsAt (x ∷ xs) k y → IsStrictlyOn n s r.target y → ⊥
          same f zero y e p = f (subst (IsStrictlyOn n s r.target) (sym (is-at_first e)) p)
          same f (suc k) y a p = r.none_before k y a p

-- ---- arcs that meet
module _ (n s u : Vector) (hn : IsDirection n) (hs : IsDirection s) (hu : IsDirection u) (ls : dot n s ≡ pos 0) (lu : dot n u ≡ pos 0) (off : SameDirection s u → ⊥) where
  -- d on the way from s to u: s on the way from u to d
  pub rotated : (d : Vector) → IsStrictlyOn n s u d → IsStrictlyOn n u d s
  rotated d o = record {
    on_circle = record { direction = hs; level = ls };
    not_source = λ w. off (SameDirection-turned u s w);
    not_target = λ w. o.not_source (SameDirection-turned d s w);
    less_than_half = less;
    more_than_half = more;
    just_half = half;
  }
    where
      opp : triple n s u ≡ pos 0 → IsOpposite s u
      opp = opposite-in_plane n s u hn hs hu ls lu off

      less : pos 0 <ℤ triple n u d → (pos 0 <ℤ triple n u s) × (pos 0 <ℤ triple n s d)
      less h =
          let e = triple-turned n u d in
          let f = triple-turned n u s in
          by_order (triple n s u) (pos 0)
          (λ l. (omega (arith, ints), ⊎_elim (λ x. x) (λ x. absurd (omega (arith, ints))) (o.more_than_half l)))
          (λ z.
          let w = opp z in
          let x = o.just_half w in
          let g = triple-turned n d s in
          -- (s.s) n.(u x d) = (s.u) n.(s x d)
          let y = turn-minus (dot s s) (dot s u) (triple n u d) (triple n s d) (self-pos s hs) (opposite-triple n s d u hs w.parallel) w.backward x in
          absurd (omega (arith, ints)))
          (λ l. let x = (o.less_than_half l).1 in absurd (omega (arith, ints)))

      more : triple n u d <ℤ pos 0 → (pos 0 <ℤ triple n u s) ⊎ (pos 0 <ℤ triple n s d)
      more h = let f = triple-turned n u s in by_order (triple n s u) (pos 0) (λ l. inl (omega (arith, ints))) (λ z. inr (o.just_half (opp z))) (λ l. inr (o.less_than_half l).0)

      half : IsOpposite u d → pos 0 <ℤ triple n u s
      half w = let f = triple-turned n u s in by_order (triple n s u) (pos 0) (λ l. omega (arith, ints))
          (λ z. let v = opp z in absurd (o.not_source (opposites u s d hu (record { parallel = cross-turned s u v.parallel; backward = let e = dot-comm u s in let b = v.backward in omega (arith, ints) }) w)))
          (λ l. let x = (o.less_than_half l).1 in let y = dot-zero n (cross d u) (cross-turned u d w.parallel) in absurd (omega (arith, ints)))

-- arcs of one circle that share a direction, where none holds the source of the other, begin together
pub begin-together : (n s t u v d : Vector) → IsDirection n → IsDirection s → IsDirection t → IsDirection u → IsDirection v → dot n s ≡ pos 0 → dot n t ≡ pos 0 → dot n u ≡ pos 0 → dot n v ≡ pos 0
    → IsStrictlyOn n s t d → IsStrictlyOn n u v d → (IsStrictlyOn n s t u → ⊥) → (IsStrictlyOn n u v s → ⊥) → SameDirection s u
begin-together n s t u v d hn hs ht hu hv ls lt lu lv o p f g = by (SameDirection-decided s u) (IsStrictlyOn-decided n s d u) (IsStrictlyOn-decided n s u d)
  where
    by : Decided (SameDirection s u) → Decided (IsStrictlyOn n s d u) → Decided (IsStrictlyOn n s u d) → SameDirection s u
    by (inl w) b c = w
    by (inr w) (inl b) c = absurd (f (nested n s t hn hs ht ls lt d u o b))
    by (inr w) (inr b) (inl c) = absurd (g (nested n u v hn hu hv lu lv d s p (rotated n s u hn hs hu ls lu w d c)))
    by (inr w) (inr b) (inr c) = absurd (p.not_source (ends-together n s u d hn hs hu o.on_circle.direction ls lu o.on_circle.level c b))

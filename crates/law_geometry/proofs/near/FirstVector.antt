-- The first vector of a segment at which a decided predicate changes.
use Rattle.law_geometry.proofs.near.Prelude.{◌≡◌, ℕ, zero, suc, ◌+◌, ◌<◌, arith, ◌⊎◌, inl, inr, ⊎_elim, List, true, Form}
use Rattle.nef_space.proofs.Order.{Lies}
use Rattle.law_geometry.proofs.near.Sums.{Homogeneous, mix, SameUpToFactor, IsMixed, OnSegment, same-sym, signs-same, mixed-mix, mixed-turned, mixed-itself, on-start, on-end, on-mixed, on-same, on-convex, past-mixed, past-on, past-nearer, before-at-after}
use Rattle.law_geometry.proofs.near.Crossings.{crosses, crossings, CrossesNone, clear-same, find-crossing, split, Split}
use Rattle.law_geometry.proofs.near.Segment.{Cells, cells-part, SettledToward}

-- P holds at all vectors strictly between p and x, and changes at x: it fails at x, or holds there and fails strictly between x and a later z
pub record Change (P : Homogeneous → Type 0) (p q : Homogeneous) : Type 0 where
  pub vector : Homogeneous
  pub on : OnSegment p vector q
  pub before : (r : Homogeneous) → IsMixed p r vector → P r
  pub change : (P vector → ⊥) ⊎ (P vector × ((z : Homogeneous) × OnSegment p z q × OnSegment p vector z × ((r : Homogeneous) → IsMixed vector r z → P r → ⊥)))

-- the same of a given vector
pub record ChangeAt (P : Homogeneous → Type 0) (p v q : Homogeneous) : Type 0 where
  pub on : OnSegment p v q
  pub before : (r : Homogeneous) → IsMixed p r v → P r
  pub change : (P v → ⊥) ⊎ (P v × ((z : Homogeneous) × OnSegment p z q × OnSegment p v z × ((r : Homogeneous) → IsMixed v r z → P r → ⊥)))

pub change-at : (P : Homogeneous → Type 0) (p q : Homogeneous) (d : Change P p q) → ChangeAt P p d.vector q
change-at P p q d = record { on = d.on; before = d.before; change = d.change }

module _ (hs : List Form) (P : Homogeneous → Type 0) where
  -- P is decided on the segment
  abbrev pub DecidedOnSegment : Homogeneous → Homogeneous → Type 0
  DecidedOnSegment p q = (r : Homogeneous) → OnSegment p r q → P r ⊎ (P r → ⊥)

  decided-part : (p q r t : Homogeneous) → OnSegment p r q → OnSegment p t q → DecidedOnSegment p q → DecidedOnSegment r t
  decided-part p q r t a b d x f = d x (on-convex p q r t x a b f)

  abbrev All : Homogeneous → Homogeneous → Type 0
  All p q = (r : Homogeneous) → IsMixed p r q → P r

  carried : (p q r s : Homogeneous) → Cells hs P p q → OnSegment p r q → SameUpToFactor s r → P r → P s
  carried p q r s c a e x = c r s a (on-same p r q s e a) (signs-same hs r s (same-sym s r e)) x

  scan : (n : ℕ) (p q : Homogeneous) → crossings hs p q < n → DecidedOnSegment p q → Cells hs P p q → P p → All p q ⊎ Change P p q
  scan zero p q l D c x = absurd (omega arith)
  scan (suc n) p q l D c x = by (λ r t. scan n r t) (find-crossing p q hs)
    where
      middle : Homogeneous
      middle = mix 1 p 1 q

      clear : CrossesNone hs p q → P middle ⊎ (P middle → ⊥) → All p q ⊎ Change P p q
      clear f d =
          let a = mixed-mix 1 p 1 q (omega arith) (omega arith) in
          let b = on-mixed p middle q a in
          ⊎_elim
          (λ y. inl (λ r m. c middle r b (on-mixed p r q m) (clear-same hs p q middle r f a m) y))
          (λ y. inr (record {
            vector = p;
            on = on-start p q;
            before = λ r m. carried p q p r c (on-start p q) (mixed-itself p r m) x;
            change = inr (x, (q, on-end p q, on-start p q, λ r m w. y (c r middle (on-mixed p r q m) b (clear-same hs p q r middle f m a) w)));
          })) d

      by : ((r t : Homogeneous) → crossings hs r t < n → DecidedOnSegment r t → Cells hs P r t → P r → All r t ⊎ Change P r t) → CrossesNone hs p q ⊎ ((h : Form) × Lies hs h × (crosses h p q ≡ true)) → All p q ⊎ Change P p q
      by again (inl f) = clear f (D middle (on-mixed p middle q (mixed-mix 1 p 1 q (omega arith) (omega arith))))
      by again (inr (h, m, e)) = halves (again p r (let f = u.fewer_left in omega arith) (decided-part p q p r (on-start p q) on_r D) (cells-part hs P p q p r (on-start p q) on_r c) x) (D r on_r)
        where
          u : Split hs p q
          u = split hs p q h m e

          r : Homogeneous
          r = u.middle

          on_r : OnSegment p r q
          on_r = on-mixed p r q u.between

          left : Change P p r → Change P p q
          left d = record {
            vector = d.vector;
            on = on-convex p q p r d.vector (on-start p q) on_r d.on;
            before = d.before;
            change = ⊎_elim (λ f. inl f) (λ g. let t = g.1 in inr (g.0, (t.0, on-convex p q p r t.0 (on-start p q) on_r t.1, t.2, t.3))) d.change;
          }

          right : All p r → P r → Change P r q → Change P p q
          right f y d = record {
            vector = d.vector;
            on = on-convex p q r q d.vector on_r (on-end p q) d.on;
            before = λ s a. ⊎_elim (λ b. f s b) (λ b. ⊎_elim (λ g. carried p q r s c on_r g y) (λ g. d.before s g) b)
                (before-at-after p d.vector r s (past-nearer p r q d.vector u.between d.on) a);
            change = ⊎_elim (λ g. inl g)
                (λ g. let t = g.1 in
                inr (g.0, (t.0, on-convex p q r q t.0 on_r (on-end p q) t.1, on-convex p t.0 r t.0 d.vector (past-on p r t.0 (past-nearer p r q t.0 u.between t.1)) (on-end p t.0) t.2, t.3))) d.change;
          }

          halves : All p r ⊎ Change P p r → P r ⊎ (P r → ⊥) → All p q ⊎ Change P p q
          halves (inr d) k = inr (left d)
          halves (inl f) (inr y) = inr (record { vector = r; on = on_r; before = f; change = inl y })
          halves (inl f) (inl y) = ⊎_elim
              (λ g. inl (λ s a. ⊎_elim (λ b. f s b) (λ b. ⊎_elim (λ i. carried p q r s c on_r i y) (λ i. g s i) b) (before-at-after p q r s (past-mixed p r q u.between) a)))
              (λ d. inr (right f y d))
              (again r q (let f = u.fewer_right in omega arith) (decided-part p q r q on_r (on-end p q) D) (cells-part hs P p q r q on_r (on-end p q) c) y)

  -- P is true all along, or there is a first vector at which it changes
  pub first-change_or : (p q : Homogeneous) → DecidedOnSegment p q → Cells hs P p q → P p → ((r : Homogeneous) → IsMixed p r q → P r) ⊎ Change P p q
  first-change_or p q = scan (crossings hs p q + 1) p q (omega arith)

  -- THE FIRST CHANGE
  pub first-change : (p q : Homogeneous) → DecidedOnSegment p q → Cells hs P p q → P p → (P q → ⊥) → Change P p q
  first-change p q D c x f = ⊎_elim (λ a. record { vector = q; on = on-end p q; before = a; change = inl f }) (λ d. d) (first-change_or p q D c x)

-- where it changes it isn't settled
pub change-unsettled : (P : Homogeneous → Type 0) (p q : Homogeneous) (d : Change P p q) → ((y : Homogeneous) → OnSegment p y q → SettledToward P d.vector y) → ⊥
change-unsettled P p q d s = ⊎_elim
    (λ f. let t = s p (on-start p q) in
    let k = t.0 + 1 in
    f ((t.1 k (omega arith)).1 (d.before (mix k d.vector 1 p) (mixed-turned d.vector (mix k d.vector 1 p) p (mixed-mix k d.vector 1 p (omega arith) (omega arith))))))
    (λ g. let z = g.1 in
    let t = s z.0 z.1 in
    let k = t.0 + 1 in
    z.3 (mix k d.vector 1 z.0) (mixed-mix k d.vector 1 z.0 (omega arith) (omega arith)) ((t.1 k (omega arith)).0 g.0)) d.change

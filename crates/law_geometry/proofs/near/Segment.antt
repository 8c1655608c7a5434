-- What is settled at each vector of a segment is the same at both ends: between two forms nothing happens, and there are finitely many.
use Rattle.law_geometry.proofs.near.Prelude.{◌≡◌, ℕ, zero, suc, ◌+◌, ◌<◌, ◌≤◌, arith, ◌⊎◌, inl, inr, ◌↔◌, List, true, Form}
use Rattle.nef_space.proofs.Order.{Lies}
use Rattle.law_geometry.proofs.near.Sums.{Homogeneous, mix, OnSegment, SameFormSigns, mixed-mix, mixed-turned, on-start, on-end, on-mixed, on-convex}
use Rattle.law_geometry.proofs.near.Crossings.{crosses, crossings, CrossesNone, clear-same, find-crossing, split}

-- the truth of P is the same at x and from some k on at k x + y
abbrev pub SettledToward : (Homogeneous → Type 0) → Homogeneous → Homogeneous → Type 0
SettledToward P x y = (n : ℕ) × ((k : ℕ) → n ≤ k → P x ↔ P (mix k x 1 y))

module _ (hs : List Form) (P : Homogeneous → Type 0) where
  -- vectors of the segment with the same signs agree on P
  abbrev pub Cells : Homogeneous → Homogeneous → Type 0
  Cells p q = (r s : Homogeneous) → OnSegment p r q → OnSegment p s q → SameFormSigns hs r s → P r → P s

  abbrev pub Settled : Homogeneous → Homogeneous → Type 0
  Settled p q = (x y : Homogeneous) → OnSegment p x q → OnSegment p y q → SettledToward P x y

  pub cells-part : (p q r t : Homogeneous) → OnSegment p r q → OnSegment p t q → Cells p q → Cells r t
  cells-part p q r t a b c x y f g = c x y (on-convex p q r t x a b f) (on-convex p q r t y a b g)

  pub settled-part : (p q r t : Homogeneous) → OnSegment p r q → OnSegment p t q → Settled p q → Settled r t
  settled-part p q r t a b c x y f g = c x y (on-convex p q r t x a b f) (on-convex p q r t y a b g)

  -- no form crosses
  clear-segment : (p q : Homogeneous) → Cells p q → Settled p q → CrossesNone hs p q → P p → P q
  clear-segment p q c s clear x =
      let u = s p q (on-start p q) (on-end p q) in
      let v = s q p (on-end p q) (on-start p q) in
      let k = u.0 + 1 in
      let l = v.0 + 1 in
      let a = mixed-mix k p 1 q (omega arith) (omega arith) in
      let b = mixed-turned q (mix l q 1 p) p (mixed-mix l q 1 p (omega arith) (omega arith)) in
      let y = (u.1 k (omega arith)).0 x in
      let z = c (mix k p 1 q) (mix l q 1 p) (on-mixed p (mix k p 1 q) q a) (on-mixed p (mix l q 1 p) q b) (clear-same hs p q (mix k p 1 q) (mix l q 1 p) clear a b) y in
      (v.1 l (omega arith)).1 z

  settled-within : (n : ℕ) (p q : Homogeneous) → crossings hs p q < n → Cells p q → Settled p q → P p → P q
  settled-within zero p q l c s x = absurd (omega arith)
  settled-within (suc n) p q l c s x = by (λ r t. settled-within n r t) (find-crossing p q hs)
    where
      by : ((r t : Homogeneous) → crossings hs r t < n → Cells r t → Settled r t → P r → P t) → CrossesNone hs p q ⊎ ((h : Form) × Lies hs h × (crosses h p q ≡ true)) → P q
      by again (inl clear) = clear-segment p q c s clear x
      by again (inr (h, m, e)) =
          let u = split hs p q h m e in
          let r = u.middle in
          let i = on-start p q in
          let j = on-mixed p r q u.between in
          let k = on-end p q in
          again r q (let f = u.fewer_right in omega arith) (cells-part p q r q j k c) (settled-part p q r q j k s)
          (again p r (let f = u.fewer_left in omega arith) (cells-part p q p r i j c) (settled-part p q p r i j s) x)

  -- WHAT IS SETTLED ALONG A SEGMENT IS THE SAME AT BOTH ENDS
  pub settled-segment : (p q : Homogeneous) → Cells p q → Settled p q → P p → P q
  settled-segment p q = settled-within (crossings hs p q + 1) p q (omega arith)

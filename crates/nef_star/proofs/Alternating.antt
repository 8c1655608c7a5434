-- Two stars of two rays each that alternate, and the star of all four rays.
use Rattle.nef_star.proofs.Prelude.{◌≡◌, ℕ, zero, suc, ◌-◌, ◌<◌, List, [], ◌∷◌, ◌++◌, length, get_or, set, arith, refl, sym, ap, subst, ◌∙◌, inl, inr, ◌⊎◌, All, All-cons, All-nil, Vector, zero_vector, IsDirection, SameDirection, Label, Out, vector_of, Dir, IsOnCircle, Passes, one_is_first, order_is_transitive, order_is_cyclic, seen_from_later, Op, Ray, Star, op_label, IsTurning, IsNext, Gives, on_ray, in_sector, in_only_sector, IsLabelAfter, left_of, left_at, mark_of, mark_at, sector_at, sector_count, IsRay, BeginsAnywhere, LeftGives, AreAlternate, IsCombined, SameDirection-turned}
use Rattle.nef_star.proofs.Turns.{same-self, three, four}
use Rattle.nef_star.proofs.RayOrder.{one-value}
use Rattle.nef_star.proofs.Counted.{count-some, turned-by, renamed}
use Rattle.nef_star.proofs.Straight.{two_items}
use Rattle.nef_star.proofs.Pushed.{at-item, marked-ray, marked-left}
use Rattle.nef_star.proofs.Combined.{combined-gives, combined-equal}
use Rattle.nef_star.proofs.Joined.{left-to_star}

-- the numbers of two rays
abbrev IsOther : ℕ → ℕ → Type 0
IsOther i j = ((i ≡ 0) × (j ≡ 1)) ⊎ ((i ≡ 1) × (j ≡ 0))

after-other : (i j : ℕ) → IsOther i j → IsNext 2 i j
after-other i j (inl (x, y)) = inl (omega (arith, x, y), omega (arith, y))
after-other i j (inr (x, y)) = inr (omega (arith, x), y)

flipped : (i j : ℕ) → IsOther i j → IsOther j i
flipped i j (inl (x, y)) = inr (y, x)
flipped i j (inr (x, y)) = inl (y, x)

below-two : (i j : ℕ) → IsOther i j → i < 2
below-two i j (inl (x, y)) = omega (arith, x)
below-two i j (inr (x, y)) = omega (arith, x)

next-two : (k j : ℕ) → k < 2 → IsNext 2 k j → IsOther k j
next-two zero j h (inl (x, y)) = inl (refl, sym x)
next-two zero j h (inr (x, y)) = absurd (omega (arith, x))
next-two (suc zero) j h (inl (x, y)) = absurd (omega (arith, x, y))
next-two (suc zero) j h (inr (x, y)) = inr (refl, y)
next-two (suc (suc k)) j h x = absurd (omega (arith, h))

which : (i j p : ℕ) → IsOther i j → p < 2 → (p ≡ i) ⊎ (p ≡ j)
which i j zero (inl (x, y)) h = inl (sym x)
which i j zero (inr (x, y)) h = inr (sym y)
which i j (suc zero) (inl (x, y)) h = inr (sym y)
which i j (suc zero) (inr (x, y)) h = inl (sym x)
which i j (suc (suc p)) o h = absurd (omega (arith, h))

-- f 0, h i, f 1 and h j stand in this order about the axis, and are g 0 to g 3
module _ (a : Vector) (axis : IsDirection a) (f : ℕ → Vector) (t : IsTurning a 2 f) (h : ℕ → Vector) (u : IsTurning a 2 h) (i j : ℕ) (o : IsOther i j) (past : Passes a (f 0) (h i) (f 1)) (back : Passes a (f 1) (h j) (f 0)) where
  on_first : IsOnCircle a (f 0)
  on_first = t.circle 0 (omega arith)

  on_second : IsOnCircle a (f 1)
  on_second = t.circle 1 (omega arith)

  on_past : IsOnCircle a (h i)
  on_past = u.circle i (below-two i j o)

  on_back : IsOnCircle a (h j)
  on_back = u.circle j (below-two j i (flipped i j o))

  ends_apart : SameDirection (f 1) (f 0) → ⊥
  ends_apart s = t.apart 1 (omega arith) (omega arith) (SameDirection-turned (f 1) (f 0) s)

  back_to : Passes a (f 0) (f 1) (h j)
  back_to =
      order_is_cyclic a (h j) (f 0) (f 1) (three a (h j) (f 0) (f 1) axis on_back on_first on_second) (λ s. back.not_source (SameDirection-turned (h j) (f 1) s))
      (order_is_cyclic a (f 1) (h j) (f 0) (three a (f 1) (h j) (f 0) axis on_second on_back on_first) ends_apart back)

  past_to : Passes a (f 0) (h i) (h j)
  past_to = order_is_transitive a (f 0) (h i) (f 1) (h j) (four a (f 0) (h i) (f 1) (h j) axis on_first on_past on_second on_back) past back_to

  second_between : Passes a (h i) (f 1) (h j)
  second_between = seen_from_later a (f 0) (h i) (f 1) (h j) (four a (f 0) (h i) (f 1) (h j) axis on_first on_past on_second on_back) past back_to

  first_between : Passes a (h j) (f 0) (h i)
  first_between =
      order_is_cyclic a (h i) (h j) (f 0) (three a (h i) (h j) (f 0) axis on_past on_back on_first) (λ s. past.not_source (SameDirection-turned (h i) (f 0) s))
      (order_is_cyclic a (f 0) (h i) (h j) (three a (f 0) (h i) (h j) axis on_first on_past on_back) back.not_target past_to)

  module _ (g : ℕ → Vector) (g0 : g 0 ≡ f 0) (g1 : g 1 ≡ h i) (g2 : g 2 ≡ f 1) (g3 : g 3 ≡ h j) where
    pub four-turning : IsTurning a 4 g
    four-turning = record { circle = circle; apart = apart; rising = rising }
      where
        circle : (k : ℕ) → k < 4 → IsOnCircle a (g k)
        circle zero l = subst (IsOnCircle a) (sym g0) on_first
        circle (suc zero) l = subst (IsOnCircle a) (sym g1) on_past
        circle (suc (suc zero)) l = subst (IsOnCircle a) (sym g2) on_second
        circle (suc (suc (suc zero))) l = subst (IsOnCircle a) (sym g3) on_back
        circle (suc (suc (suc (suc k)))) l = absurd (omega (arith, l))

        apart : (k : ℕ) → 0 < k → k < 4 → SameDirection (g 0) (g k) → ⊥
        apart zero p l s = absurd (omega (arith, p))
        apart (suc zero) p l s = past.not_source (rw (← g0, ← g1) s)
        apart (suc (suc zero)) p l s = ends_apart (SameDirection-turned (f 0) (f 1) (rw (← g0, ← g2) s))
        apart (suc (suc (suc zero))) p l s = back.not_target (rw (← g0, ← g3) s)
        apart (suc (suc (suc (suc k)))) p l s = absurd (omega (arith, l))

        rising : (m k : ℕ) → 0 < m → m < k → k < 4 → Passes a (g 0) (g m) (g k)
        rising zero k p q l = absurd (omega (arith, p))
        rising (suc zero) zero p q l = absurd (omega (arith, q))
        rising (suc zero) (suc zero) p q l = absurd (omega (arith, q))
        rising (suc zero) (suc (suc zero)) p q l = rw (g0, g1, g2) past
        rising (suc zero) (suc (suc (suc zero))) p q l = rw (g0, g1, g3) past_to
        rising (suc (suc zero)) zero p q l = absurd (omega (arith, q))
        rising (suc (suc zero)) (suc zero) p q l = absurd (omega (arith, q))
        rising (suc (suc zero)) (suc (suc zero)) p q l = absurd (omega (arith, q))
        rising (suc (suc zero)) (suc (suc (suc zero))) p q l = rw (g0, g2, g3) back_to
        rising (suc (suc (suc m))) k p q l = absurd (omega (arith, q, l))
        rising m (suc (suc (suc (suc k)))) p q l = absurd (omega (arith, l))

    -- what was given at two rays is given at four, where each new one has the label of the sector that it cuts
    module _ (M S M' S' : ℕ → Label) (m0 : M' 0 ≡ M 0) (m1 : M' 1 ≡ S 0) (m2 : M' 2 ≡ M 1) (m3 : M' 3 ≡ S 1) (s0 : S' 0 ≡ S 0) (s1 : S' 1 ≡ S 0) (s2 : S' 2 ≡ S 1) (s3 : S' 3 ≡ S 1)
        (d : Vector) (od : IsOnCircle a d) (l : Label) where
      pub cut-gives : Gives a 2 f M S d l → Gives a 4 g M' S' d l
      cut-gives (on_ray zero p s e) = on_ray 0 (omega arith) (subst (λ (v : Vector). SameDirection v d) (sym g0) s) (m0 ∙ e)
      cut-gives (on_ray (suc zero) p s e) = on_ray 2 (omega arith) (subst (λ (v : Vector). SameDirection v d) (sym g2) s) (m2 ∙ e)
      cut-gives (on_ray (suc (suc k)) p s e) = absurd (omega (arith, p))
      cut-gives (in_only_sector z e) = absurd (omega (arith, z))
      cut-gives (in_sector k n p x r e) = by (next-two k n p x)
        where
          first_half : Passes a (f 0) d (f 1) → S 0 ≡ l → SameDirection (h i) d ⊎ Passes a (f 0) (h i) d ⊎ Passes a (f 0) d (h i) → Gives a 4 g M' S' d l
          first_half q z (inl s) = on_ray 1 (omega arith) (subst (λ (v : Vector). SameDirection v d) (sym g1) s) (m1 ∙ z)
          first_half q z (inr (inl w)) =
              in_sector 1 2 (omega arith) (inl (refl, omega arith))
              (rw (g1, g2) (seen_from_later a (f 0) (h i) d (f 1) (four a (f 0) (h i) d (f 1) axis on_first on_past od on_second) w q)) (s1 ∙ z)
          first_half q z (inr (inr w)) = in_sector 0 1 (omega arith) (inl (refl, omega arith)) (rw (g0, g1) w) (s0 ∙ z)

          second_half : Passes a (f 1) d (f 0) → S 1 ≡ l → SameDirection (h j) d ⊎ Passes a (f 1) (h j) d ⊎ Passes a (f 1) d (h j) → Gives a 4 g M' S' d l
          second_half q z (inl s) = on_ray 3 (omega arith) (subst (λ (v : Vector). SameDirection v d) (sym g3) s) (m3 ∙ z)
          second_half q z (inr (inl w)) =
              in_sector 3 0 (omega arith) (inr (refl, refl))
              (rw (g3, g0) (seen_from_later a (f 1) (h j) d (f 0) (four a (f 1) (h j) d (f 0) axis on_second on_back od on_first) w q)) (s3 ∙ z)
          second_half q z (inr (inr w)) = in_sector 2 3 (omega arith) (inl (refl, omega arith)) (rw (g2, g3) w) (s2 ∙ z)

          by : IsOther k n → Gives a 4 g M' S' d l
          by (inl (y, w)) =
              let q : Passes a (f 0) d (f 1) = subst (λ (m : ℕ). Passes a (f 0) d (f m)) w (subst (λ (m : ℕ). Passes a (f m) d (f n)) y r) in
              first_half q (ap S (sym y) ∙ e) (one_is_first a (f 0) (h i) d (three a (f 0) (h i) d axis on_first on_past od) past.not_source q.not_source)
          by (inr (y, w)) =
              let q : Passes a (f 1) d (f 0) = subst (λ (m : ℕ). Passes a (f 1) d (f m)) w (subst (λ (m : ℕ). Passes a (f m) d (f n)) y r) in
              second_half q (ap S (sym y) ∙ e) (one_is_first a (f 1) (h j) d (three a (f 1) (h j) d axis on_second on_back od) back.not_source q.not_source)

    -- the labels of both combined at the four rays
    module _ (op : Op) (M S N R P Q : ℕ → Label)
        (p0 : P 0 ≡ op_label op (M 0) (R j)) (p1 : P 1 ≡ op_label op (S 0) (N i)) (p2 : P 2 ≡ op_label op (M 1) (R i)) (p3 : P 3 ≡ op_label op (S 1) (N j))
        (q0 : Q 0 ≡ op_label op (S 0) (R j)) (q1 : Q 1 ≡ op_label op (S 0) (R i)) (q2 : Q 2 ≡ op_label op (S 1) (R i)) (q3 : Q 3 ≡ op_label op (S 1) (R j)) where
      -- the labels of the first alone at the four rays
      abbrev marks : ℕ → Label
      marks zero = M 0
      marks (suc zero) = S 0
      marks (suc (suc zero)) = M 1
      marks (suc (suc (suc k))) = S 1

      abbrev sectors : ℕ → Label
      sectors zero = S 0
      sectors (suc zero) = S 0
      sectors (suc (suc k)) = S 1

      on : (k : ℕ) → k < 4 → (l : Label) × Gives a 2 h N R (g k) l × (P k ≡ op_label op (marks k) l)
      on zero l = (R j, subst (λ (v : Vector). Gives a 2 h N R v (R j)) (sym g0) (in_sector j i (below-two j i (flipped i j o)) (after-other j i (flipped i j o)) first_between refl), p0)
      on (suc zero) l = (N i, subst (λ (v : Vector). Gives a 2 h N R v (N i)) (sym g1) (on_ray i (below-two i j o) (same-self a (h i) on_past) refl), p1)
      on (suc (suc zero)) l = (R i, subst (λ (v : Vector). Gives a 2 h N R v (R i)) (sym g2) (in_sector i j (below-two i j o) (after-other i j o) second_between refl), p2)
      on (suc (suc (suc zero))) l = (N j, subst (λ (v : Vector). Gives a 2 h N R v (N j)) (sym g3) (on_ray j (below-two j i (flipped i j o)) (same-self a (h j) on_back) refl), p3)
      on (suc (suc (suc (suc k)))) l = absurd (omega (arith, l))

      after : (k : ℕ) → k < 4 → (l : Label) × IsLabelAfter a 2 h R (g k) l × (Q k ≡ op_label op (sectors k) l)
      after zero l = (R j, subst (λ (v : Vector). IsLabelAfter a 2 h R v (R j)) (sym g0) (inl (j, below-two j i (flipped i j o), inr (i, after-other j i (flipped i j o), first_between), refl)), q0)
      after (suc zero) l = (R i, subst (λ (v : Vector). IsLabelAfter a 2 h R v (R i)) (sym g1) (inl (i, below-two i j o, inl (same-self a (h i) on_past), refl)), q1)
      after (suc (suc zero)) l = (R i, subst (λ (v : Vector). IsLabelAfter a 2 h R v (R i)) (sym g2) (inl (i, below-two i j o, inr (j, after-other i j o, second_between), refl)), q2)
      after (suc (suc (suc zero))) l = (R j, subst (λ (v : Vector). IsLabelAfter a 2 h R v (R j)) (sym g3) (inl (j, below-two j i (flipped i j o), inl (same-self a (h j) on_back), refl)), q3)
      after (suc (suc (suc (suc k)))) l = absurd (omega (arith, l))

      has : (p : ℕ) → p < 2 → (x : ℕ) × (x < 4) × (g x ≡ h p)
      has p l = elim (which i j p o l) [ inl e ↦ (1, omega arith, g1 ∙ ap h (sym e)) | inr e ↦ (3, omega arith, g3 ∙ ap h (sym e)) ]

      pub both-gives : (d : Vector) (k l : Label) → IsOnCircle a d → Gives a 2 f M S d k → Gives a 2 h N R d l → Gives a 4 g P Q d (op_label op k l)
      both-gives d k l od x y =
          combined-gives op a axis 4 (omega arith) g four-turning 2 h u has marks sectors N R P Q on after d od k l
          (cut-gives M S marks sectors refl refl refl refl refl refl refl refl d od k x) y

-- ---- stars
some-other : (i : ℕ) → i < 2 → IsOther i (1 - i)
some-other zero h = inl (refl, refl)
some-other (suc zero) h = inr (refl, refl)
some-other (suc (suc i)) h = absurd (omega (arith, h))

four_items : {X : Type 0} (xs ys : List X) (q r a b c d : X) → length xs ≡ 2 → q ≡ get_or xs 0 q → r ≡ get_or xs 1 r → ys ≡ (set (set xs 0 a) 1 b ++ c ∷ []) ++ d ∷ [] → ys ≡ a ∷ b ∷ c ∷ d ∷ []
four_items xs ys q r a b c d n e f g = g ∙ ap (λ l. (set (set l 0 a) 1 b ++ c ∷ []) ++ d ∷ []) (two_items xs q r n e f)

two-sectors : (t : Star) → BeginsAnywhere t → length t.rays.items ≡ 2 → length t.sectors.items ≡ 2
two-sectors t T n = T.sectors ∙ count-some t.rays.items (omega (arith, n)) ∙ n

ray-left : (rays : List Ray) (k : ℕ) (q r : Ray) → k < length rays → q ≡ get_or rays k q → r.normal ≡ q.normal → r.ahead ≡ q.ahead → left_of r ≡ left_at rays k
ray-left rays k q r h e n a = marked-left q r n a ∙ ap left_of e ∙ sym (at-item left_of zero_vector rays k q h)

ray-mark : (rays : List Ray) (k : ℕ) (q : Ray) → k < length rays → q ≡ get_or rays k q → q.mark ≡ mark_at rays k
ray-mark rays k q h e = ap mark_of e ∙ sym (at-item mark_of Out rays k q h)

sector-label : (ls : List Label) (k : ℕ) (l : Label) → k < length ls → l ≡ get_or ls k l → l ≡ sector_at ls k
sector-label ls k l h e = e ∙ one-value ls k l Out h

-- the star s has the rays q and r of t and the rays x and y of b, with the labels of both combined
module _ (op : Op) (t b s : Star) (T : BeginsAnywhere t) (B : BeginsAnywhere b) (e : b.axis ≡ t.axis) (i : ℕ) (below : i < 2) (A : AreAlternate t b i) (f : s.axis ≡ t.axis) (m : s.mark ≡ op_label op t.mark b.mark)
    (q r x y r0 r1 r2 r3 : Ray) (at_q : q ≡ get_or t.rays.items 0 q) (at_r : r ≡ get_or t.rays.items 1 r) (at_x : x ≡ get_or b.rays.items i x) (at_y : y ≡ get_or b.rays.items (1 - i) y)
    (k l past before l0 l1 l2 l3 : Label) (at_k : k ≡ get_or t.sectors.items 0 k) (at_l : l ≡ get_or t.sectors.items 1 l) (at_past : past ≡ get_or b.sectors.items i past) (at_before : before ≡ get_or b.sectors.items (1 - i) before)
    (n0 : r0.normal ≡ q.normal) (a0 : r0.ahead ≡ q.ahead) (m0 : r0.mark ≡ op_label op q.mark before)
    (n1 : r1.normal ≡ x.normal) (a1 : r1.ahead ≡ x.ahead) (m1 : r1.mark ≡ op_label op k x.mark)
    (n2 : r2.normal ≡ r.normal) (a2 : r2.ahead ≡ r.ahead) (m2 : r2.mark ≡ op_label op r.mark past)
    (n3 : r3.normal ≡ y.normal) (a3 : r3.ahead ≡ y.ahead) (m3 : r3.mark ≡ op_label op l y.mark)
    (s0 : l0 ≡ op_label op k before) (s1 : l1 ≡ op_label op k past) (s2 : l2 ≡ op_label op l past) (s3 : l3 ≡ op_label op l before)
    (rays : s.rays.items ≡ (set (set t.rays.items 0 r0) 1 r1 ++ r2 ∷ []) ++ r3 ∷ []) (sectors : s.sectors.items ≡ (set (set t.sectors.items 0 l0) 1 l1 ++ l2 ∷ []) ++ l3 ∷ []) where
  abbrev a : Vector
  a = vector_of t.axis

  other : IsOther i (1 - i)
  other = some-other i below

  four_rays : s.rays.items ≡ r0 ∷ r1 ∷ r2 ∷ r3 ∷ []
  four_rays = four_items t.rays.items s.rays.items q r r0 r1 r2 r3 A.two at_q at_r rays

  four_sectors : s.sectors.items ≡ l0 ∷ l1 ∷ l2 ∷ l3 ∷ []
  four_sectors = four_items t.sectors.items s.sectors.items k l l0 l1 l2 l3 (two-sectors t T A.two) at_k at_l sectors

  first_in : 0 < length t.rays.items
  first_in = let n = A.two in omega (arith, n)

  second_in : 1 < length t.rays.items
  second_in = let n = A.two in omega (arith, n)

  other_in : i < length b.rays.items
  other_in = let n = A.other_two in omega (arith, n, below)

  rest_in : 1 - i < length b.rays.items
  rest_in = let n = A.other_two in omega (arith, n)

  turning : IsTurning a 2 (left_at t.rays.items)
  turning = subst (λ (n : ℕ). IsTurning a n (left_at t.rays.items)) A.two T.counterclockwise

  other_turning : IsTurning a 2 (left_at b.rays.items)
  other_turning = subst (λ (n : ℕ). IsTurning a n (left_at b.rays.items)) A.other_two (subst (λ (d : Dir). IsTurning (vector_of d) (length b.rays.items) (left_at b.rays.items)) e B.counterclockwise)

  next-is : (n j c : ℕ) → n ≡ 2 → IsNext n j c → j < 2 → IsOther j c
  next-is n j c z w h = next-two j c h (subst (λ (v : ℕ). IsNext v j c) z w)

  to_second : Passes a (left_at t.rays.items 0) (left_at b.rays.items i) (left_at t.rays.items 1)
  to_second = by A.past.0 A.past.2 (next-is (length t.rays.items) 0 A.past.0 A.two A.past.1 (omega arith))
    where
      by : (c : ℕ) → Passes a (left_at t.rays.items 0) (left_at b.rays.items i) (left_at t.rays.items c) → IsOther 0 c → Passes a (left_at t.rays.items 0) (left_at b.rays.items i) (left_at t.rays.items 1)
      by c p (inl (z, w)) = subst (λ (v : ℕ). Passes a (left_at t.rays.items 0) (left_at b.rays.items i) (left_at t.rays.items v)) w p
      by c p (inr (z, w)) = absurd (omega (arith, z))

  to_first : Passes a (left_at t.rays.items 1) (left_at b.rays.items (1 - i)) (left_at t.rays.items 0)
  to_first = by A.past_second.0 A.past_second.2 (next-is (length t.rays.items) 1 A.past_second.0 A.two A.past_second.1 (omega arith))
    where
      by : (c : ℕ) → Passes a (left_at t.rays.items 1) (left_at b.rays.items (1 - i)) (left_at t.rays.items c) → IsOther 1 c → Passes a (left_at t.rays.items 1) (left_at b.rays.items (1 - i)) (left_at t.rays.items 0)
      by c p (inl (z, w)) = absurd (omega (arith, z))
      by c p (inr (z, w)) = subst (λ (v : ℕ). Passes a (left_at t.rays.items 1) (left_at b.rays.items (1 - i)) (left_at t.rays.items v)) w p

  g0 : left_at s.rays.items 0 ≡ left_at t.rays.items 0
  g0 = ap (λ (z : List Ray). left_at z 0) four_rays ∙ ray-left t.rays.items 0 q r0 first_in at_q n0 a0

  g1 : left_at s.rays.items 1 ≡ left_at b.rays.items i
  g1 = ap (λ (z : List Ray). left_at z 1) four_rays ∙ ray-left b.rays.items i x r1 other_in at_x n1 a1

  g2 : left_at s.rays.items 2 ≡ left_at t.rays.items 1
  g2 = ap (λ (z : List Ray). left_at z 2) four_rays ∙ ray-left t.rays.items 1 r r2 second_in at_r n2 a2

  g3 : left_at s.rays.items 3 ≡ left_at b.rays.items (1 - i)
  g3 = ap (λ (z : List Ray). left_at z 3) four_rays ∙ ray-left b.rays.items (1 - i) y r3 rest_in at_y n3 a3

  ray_of_first : (c : ℕ) (z v : Ray) → c < length t.rays.items → z ≡ get_or t.rays.items c z → v.normal ≡ z.normal → IsRay a v
  ray_of_first c z v h w n = marked-ray a z v n (subst (IsRay a) (sym w) (T.rays c z h))

  ray_of_other : (c : ℕ) (z v : Ray) → c < length b.rays.items → z ≡ get_or b.rays.items c z → v.normal ≡ z.normal → IsRay a v
  ray_of_other c z v h w n = marked-ray a z v n (subst (λ (d : Dir). IsRay (vector_of d) z) e (subst (IsRay (vector_of b.axis)) (sym w) (B.rays c z h)))

  abbrev marked : Star
  marked = record { axis = t.axis; rays = t.rays; sectors = t.sectors; mark = s.mark }

  marked_turned : BeginsAnywhere marked
  marked_turned = record { axis_small = T.axis_small; rays = T.rays; counterclockwise = T.counterclockwise; sectors = T.sectors }

  crossed-turned : BeginsAnywhere s
  crossed-turned = turned-by marked s marked_turned f refl
      (subst (All (IsRay a)) (sym four_rays)
      (All-cons (IsRay a) r0 (r1 ∷ r2 ∷ r3 ∷ []) (ray_of_first 0 q r0 first_in at_q n0)
      (All-cons (IsRay a) r1 (r2 ∷ r3 ∷ []) (ray_of_other i x r1 other_in at_x n1)
      (All-cons (IsRay a) r2 (r3 ∷ []) (ray_of_first 1 r r2 second_in at_r n2)
      (All-cons (IsRay a) r3 [] (ray_of_other (1 - i) y r3 rest_in at_y n3) (All-nil (IsRay a)))))))
      4 (ap length four_rays)
      (four-turning a t.axis.some (left_at t.rays.items) turning (left_at b.rays.items) other_turning i (1 - i) other to_second to_first (left_at s.rays.items) g0 g1 g2 g3)
      (ap length four_sectors ∙ sym (ap sector_count four_rays))

  is_k : k ≡ sector_at t.sectors.items 0
  is_k = let n = two-sectors t T A.two in sector-label t.sectors.items 0 k (omega (arith, n)) at_k

  is_l : l ≡ sector_at t.sectors.items 1
  is_l = let n = two-sectors t T A.two in sector-label t.sectors.items 1 l (omega (arith, n)) at_l

  is_past : past ≡ sector_at b.sectors.items i
  is_past = let n = two-sectors b B A.other_two in sector-label b.sectors.items i past (omega (arith, n, below)) at_past

  is_before : before ≡ sector_at b.sectors.items (1 - i)
  is_before = let n = two-sectors b B A.other_two in sector-label b.sectors.items (1 - i) before (omega (arith, n)) at_before

  gives : (d : Vector) (v w : Label) → IsOnCircle a d → LeftGives t d v → LeftGives b d w → LeftGives s d (op_label op v w)
  gives d v w o c c' = renamed s t.axis 4 d (op_label op v w) f (ap length four_rays)
      (both-gives a t.axis.some (left_at t.rays.items) turning (left_at b.rays.items) other_turning i (1 - i) other to_second to_first (left_at s.rays.items) g0 g1 g2 g3
      op (mark_at t.rays.items) (sector_at t.sectors.items) (mark_at b.rays.items) (sector_at b.sectors.items) (mark_at s.rays.items) (sector_at s.sectors.items)
      (ap (λ (z : List Ray). mark_at z 0) four_rays ∙ combined-equal op q.mark before _ _ r0.mark m0 (ray-mark t.rays.items 0 q first_in at_q) is_before)
      (ap (λ (z : List Ray). mark_at z 1) four_rays ∙ combined-equal op k x.mark _ _ r1.mark m1 is_k (ray-mark b.rays.items i x other_in at_x))
      (ap (λ (z : List Ray). mark_at z 2) four_rays ∙ combined-equal op r.mark past _ _ r2.mark m2 (ray-mark t.rays.items 1 r second_in at_r) is_past)
      (ap (λ (z : List Ray). mark_at z 3) four_rays ∙ combined-equal op l y.mark _ _ r3.mark m3 is_l (ray-mark b.rays.items (1 - i) y rest_in at_y))
      (ap (λ (z : List Label). sector_at z 0) four_sectors ∙ combined-equal op k before _ _ l0 s0 is_k is_before)
      (ap (λ (z : List Label). sector_at z 1) four_sectors ∙ combined-equal op k past _ _ l1 s1 is_k is_past)
      (ap (λ (z : List Label). sector_at z 2) four_sectors ∙ combined-equal op l past _ _ l2 s2 is_l is_past)
      (ap (λ (z : List Label). sector_at z 3) four_sectors ∙ combined-equal op l before _ _ l3 s3 is_l is_before)
      d v w o
      (subst (λ (n : ℕ). Gives a n (left_at t.rays.items) (mark_at t.rays.items) (sector_at t.sectors.items) d v) A.two c)
      (subst (λ (n : ℕ). Gives a n (left_at b.rays.items) (mark_at b.rays.items) (sector_at b.sectors.items) d w) A.other_two
      (subst (λ (z : Dir). Gives (vector_of z) (length b.rays.items) (left_at b.rays.items) (mark_at b.rays.items) (sector_at b.sectors.items) d w) e c')))

  crossed-combined : IsCombined op t b s
  crossed-combined = left-to_star op b t marked s B T e refl (λ d v c. c) m (record { turned = crossed-turned; axis = f; mark = refl; gives = gives })

  pub crossed : BeginsAnywhere s × IsCombined op t b s
  crossed = (crossed-turned, crossed-combined)

-- Directions in counterclockwise order about an axis: each direction is under one of them, and has one label.
use Rattle.nef_star.proofs.Prelude.{◌≡◌, ℕ, zero, suc, ◌-◌, ◌<◌, ◌≤◌, pos, ◌<ℤ◌, arith, refl, sym, ap, subst, ◌∙◌, inl, inr, ◌⊎◌, ints, eq-or-lt_of_le, Vector, dot, cross, triple, IsDirection, IsParallel, SameDirection, Label, IsOnCircle, Passes, AboutThree, AboutFour, turn_from_parallel, one_is_first, never_both_ways, order_is_transitive, same_in_place, order_is_cyclic, nearer_ones, no_ray_between, Decided, IsTurning, IsNext, Gives, on_ray, in_sector as of_sector, in_only_sector, IsUnder, zero-decided, self-pos, SameDirection-trans, SameDirection-turned, dir-self}
use Rattle.law_geometry.proofs.sphere.cyclic.Cyclic.{in_sector}
use Rattle.law_geometry.proofs.sphere.Vectors.{positive-or}
use Rattle.nef_space.proofs.Elementary.{three-ways}
use Rattle.std.proofs.Math.Nat.{eq-zero-or-pos}

-- ---- directions about an axis
pub same-self : (a d : Vector) → IsOnCircle a d → SameDirection d d
same-self a d h = dir-self d h.direction

-- all but s is passed on the whole way round from s
pub whole_turn : (a s d : Vector) → IsOnCircle a s → IsOnCircle a d → (SameDirection s d → ⊥) → Passes a s d s
whole_turn a s d h k n =
    let p : pos 0 <ℤ dot s s = self-pos s h.direction in
    let z : triple a s s ≡ pos 0 = turn_from_parallel a s s ((same-self a s h).parallel) in
    record {
      on_circle = k;
      not_source = n;
      not_target = n;
      less_than_half = λ q. absurd (omega (arith, ints, q, z));
      more_than_half = λ q. absurd (omega (arith, ints, q, z));
      just_half = λ o. let b = o.backward in absurd (omega (arith, ints, b, p));
    }

pub three : (a p q r : Vector) → IsDirection a → IsOnCircle a p → IsOnCircle a q → IsOnCircle a r → AboutThree a p q r
three a p q r h i j k = record { axis = h; first = i; second = j; third = k }

pub four : (a p q r s : Vector) → IsDirection a → IsOnCircle a p → IsOnCircle a q → IsOnCircle a r → IsOnCircle a s → AboutFour a p q r s
four a p q r s h i j k l = record { axis = h; first = i; second = j; third = k; fourth = l }

pub same_or : (d e : Vector) → SameDirection d e ⊎ (SameDirection d e → ⊥)
same_or d e = by (zero-decided (cross d e)) (positive-or (dot d e))
  where
    by : Decided (IsParallel d e) → Decided (pos 0 <ℤ dot d e) → SameDirection d e ⊎ (SameDirection d e → ⊥)
    by (inl p) (inl q) = inl (record { parallel = p; forward = q })
    by (inr p) q = inr (λ s. p s.parallel)
    by (inl p) (inr q) = inr (λ s. q s.forward)

-- ---- numbers
pub next_in : (n k j : ℕ) → k < n → IsNext n k j → j < n
next_in n k j h (inl (e, i)) = i
next_in n k j h (inr (e, i)) = omega arith

pub has_next : (n k : ℕ) → k < n → (j : ℕ) × IsNext n k j
has_next n k h = by (eq-or-lt_of_le {n = suc k} {m = n} (omega arith))
  where
    by : (suc k ≡ n) ⊎ (suc k < n) → (j : ℕ) × IsNext n k j
    by (inl e) = (0, inr (e, refl))
    by (inr l) = (suc k, inl (refl, l))

-- ---- directions that turn
module _ (a : Vector) (axis : IsDirection a) (n : ℕ) (f : ℕ → Vector) (t : IsTurning a n f) where
  on : (k : ℕ) → k < n → IsOnCircle a (f k)
  on k h = t.circle k h

  -- two of them aren't the same
  pub distinct_up : (i k : ℕ) → i < k → k < n → SameDirection (f i) (f k) → ⊥
  distinct_up zero k h l s = t.apart k h l s
  distinct_up (suc i) k h l s = (t.rising (suc i) k (omega arith) h l).not_target (SameDirection-turned (f (suc i)) (f k) s)

  pub distinct : (i k : ℕ) → i < n → k < n → SameDirection (f i) (f k) → i ≡ k
  distinct i k h l s = by (three-ways i k)
    where
      by : (i < k) ⊎ (i ≡ k) ⊎ (k < i) → i ≡ k
      by (inl p) = absurd (distinct_up i k p l s)
      by (inr (inl e)) = e
      by (inr (inr p)) = absurd (distinct_up k i p h (SameDirection-turned (f i) (f k) s))

  -- seen from the first, one comes before the next
  before_next : (k j : ℕ) → k < n → IsNext n k j → SameDirection (f 0) (f k) ⊎ Passes a (f 0) (f k) (f j)
  before_next zero j h x = inl (same-self a (f 0) (on 0 h))
  before_next (suc k) j h (inl (e, i)) = inr (t.rising (suc k) j (omega arith) (omega arith) i)
  before_next (suc k) j h (inr (e, i)) =
      let whole = whole_turn a (f 0) (f (suc k)) (on 0 (omega arith)) (on (suc k) h) (t.apart (suc k) (omega arith) h) in
      inr (subst (λ (m : ℕ). Passes a (f 0) (f (suc k)) (f m)) (sym i) whole)

  -- none of them lies between one and the next
  pub none_between : (k j i : ℕ) → k < n → IsNext n k j → i < n → Passes a (f k) (f i) (f j) → ⊥
  none_between k j i h x l p =
      no_ray_between a (f 0) (f k) (f j) (f i) (four a (f 0) (f k) (f j) (f i) axis (on 0 (omega arith)) (on k h) (on j (next_in n k j h x)) (on i l))
      (before_next k j h x) (place (eq-zero-or-pos i) (three-ways i k) x) p
    where
      Where : Type 0
      Where = SameDirection (f k) (f i) ⊎ SameDirection (f j) (f i) ⊎ SameDirection (f 0) (f i)
          ⊎ ((SameDirection (f 0) (f k) → ⊥) × Passes a (f 0) (f i) (f k)) ⊎ ((SameDirection (f 0) (f j) → ⊥) × Passes a (f 0) (f j) (f i))

      later : (suc k ≡ j) → j < n → k < i → (j < i) ⊎ (j ≡ i) ⊎ (i < j) → Where
      later e m q (inl r) = inr (inr (inr (inr (t.apart j (omega arith) m, t.rising j i (omega arith) r l))))
      later e m q (inr (inl r)) = inr (inl (subst (λ (m : ℕ). SameDirection (f j) (f m)) r (same-self a (f j) (on j m))))
      later e m q (inr (inr r)) = absurd (omega arith)

      place : (i ≡ 0) ⊎ (0 < i) → (i < k) ⊎ (i ≡ k) ⊎ (k < i) → IsNext n k j → Where
      place (inl e) w y = inr (inr (inl (subst (λ (m : ℕ). SameDirection (f 0) (f m)) (sym e) (same-self a (f 0) (on 0 (omega arith))))))
      place (inr q) (inl w) y = inr (inr (inr (inl (t.apart k (omega arith) h, t.rising i k q w h))))
      place (inr q) (inr (inl w)) y = inl (subst (λ (m : ℕ). SameDirection (f k) (f m)) (sym w) (same-self a (f k) (on k h)))
      place (inr q) (inr (inr w)) (inl (e, m)) = later e m w (three-ways j i)
      place (inr q) (inr (inr w)) (inr (e, m)) = absurd (omega arith)

  -- ---- each direction is on one of them, or between one and the next
  abbrev pub LiesFrom : Vector → ℕ → Type 0
  LiesFrom d k = IsUnder a n f d k

  -- all those from k on come after d, seen from the first
  abbrev pub Later : Vector → ℕ → Type 0
  Later d k = (i : ℕ) → k ≤ i → i < n → Passes a (f 0) d (f i)

  lies_at : (d : Vector) (k : ℕ) → k < n → IsOnCircle a d → SameDirection (f 0) (f k) ⊎ Passes a (f 0) (f k) d → (SameDirection (f 0) d → ⊥) → Later d (suc k) → LiesFrom d k
  lies_at d k h o p u l = inr (from (has_next n k h))
    where
      between : (j : ℕ) → j < n → SameDirection (f 0) (f k) ⊎ (Passes a (f 0) (f k) (f j) × Passes a (f 0) (f k) d) → Passes a (f 0) d (f j) → Passes a (f k) d (f j)
      between j i q r = in_sector a (f 0) (f k) (f j) d (four a (f 0) (f k) (f j) d axis (on 0 (omega arith)) (on k h) (on j i) o) q r

      whole : Passes a (f 0) d (f 0)
      whole = whole_turn a (f 0) d (on 0 (omega arith)) o u

      up : (j : ℕ) → j < n → (suc k ≡ j) → SameDirection (f 0) (f k) ⊎ Passes a (f 0) (f k) d → Passes a (f k) d (f j)
      up j i e (inl s) = between j i (inl s) (l j (omega arith) i)
      up j i e (inr q) = between j i (inr (order_is_transitive a (f 0) (f k) d (f j) (four a (f 0) (f k) d (f j) axis (on 0 (omega arith)) (on k h) o (on j i)) q (l j (omega arith) i), q)) (l j (omega arith) i)

      round : SameDirection (f 0) (f k) ⊎ Passes a (f 0) (f k) d → Passes a (f k) d (f 0)
      round (inl s) = between 0 (omega arith) (inl s) whole
      round (inr q) = between 0 (omega arith) (inr (whole_turn a (f 0) (f k) (on 0 (omega arith)) (on k h) q.not_source, q)) whole

      from : (j : ℕ) × IsNext n k j → (j : ℕ) × IsNext n k j × Passes a (f k) d (f j)
      from (j, inl (e, i)) = (j, inl (e, i), up j i e p)
      from (j, inr (e, i)) = (j, inr (e, i), subst (λ (m : ℕ). Passes a (f k) d (f m)) (sym i) (round p))

  find : (d : Vector) (k : ℕ) → k < n → IsOnCircle a d → (SameDirection (f 0) d → ⊥) → Later d (suc k) → (i : ℕ) × (i < n) × LiesFrom d i
  find d zero h o u l = (0, h, lies_at d 0 h o (inl (same-self a (f 0) (on 0 h))) u l)
  find d (suc k) h o u l = by (λ p. find d k (omega arith) o u (more p)) (one_is_first a (f 0) (f (suc k)) d (three a (f 0) (f (suc k)) d axis (on 0 (omega arith)) (on (suc k) h) o) (t.apart (suc k) (omega arith) h) u)
    where
      more : Passes a (f 0) d (f (suc k)) → Later d (suc k)
      more p i m q = elim (eq-or-lt_of_le {n = suc k} {m = i} m) [ inl e ↦ subst (λ (m : ℕ). Passes a (f 0) d (f m)) e p | inr r ↦ l i (omega arith) q ]

      by : (Passes a (f 0) d (f (suc k)) → (i : ℕ) × (i < n) × LiesFrom d i) → SameDirection (f (suc k)) d ⊎ Passes a (f 0) (f (suc k)) d ⊎ Passes a (f 0) d (f (suc k)) → (i : ℕ) × (i < n) × LiesFrom d i
      by g (inl s) = (suc k, h, inl s)
      by g (inr (inl p)) = (suc k, h, lies_at d (suc k) h o (inr p) u l)
      by g (inr (inr p)) = g p

  pub some_place : (d : Vector) → 0 < n → IsOnCircle a d → (k : ℕ) × (k < n) × LiesFrom d k
  some_place d h o = by (same_or (f 0) d)
    where
      by : SameDirection (f 0) d ⊎ (SameDirection (f 0) d → ⊥) → (k : ℕ) × (k < n) × LiesFrom d k
      by (inl s) = (0, h, inl s)
      by (inr u) = find d (n - 1) (omega arith) o u (λ i p q. absurd (omega arith))

  -- ---- but not on two, nor between two pairs
  pub not_both : (d : Vector) (k i j : ℕ) → k < n → i < n → IsOnCircle a d → SameDirection (f k) d → IsNext n i j → Passes a (f i) d (f j) → ⊥
  not_both d k i j h m o s x p =
      none_between i j k m x h (same_in_place a (f i) d (f k) (f j) (four a (f i) d (f k) (f j) axis (on i m) o (on k h) (on j (next_in n i j m x))) (SameDirection-turned (f k) d s) p)

  pub one_sector : (d : Vector) (k j k' j' : ℕ) → k < n → IsNext n k j → Passes a (f k) d (f j) → k' < n → IsNext n k' j' → Passes a (f k') d (f j') → IsOnCircle a d → (SameDirection (f k) (f k') → ⊥) → ⊥
  one_sector d k j k' j' h x p h' x' p' o u =
      let u' = λ (s : SameDirection (f k') (f k)). u (SameDirection-turned (f k') (f k) s) in
      let there = nearer_ones a (f k) (f j) d (f k') (four a (f k) (f j) d (f k') axis (on k h) (on j (next_in n k j h x)) o (on k' h')) p (none_between k j k' h x h') u in
      let back = nearer_ones a (f k') (f j') d (f k) (four a (f k') (f j') d (f k) axis (on k' h') (on j' (next_in n k' j' h' x')) o (on k h)) p' (none_between k' j' k h' x' h) u' in
      never_both_ways a d (f k) (f k') (three a d (f k) (f k') axis o (on k h) (on k' h'))
      (order_is_cyclic a (f k') d (f k) (three a (f k') d (f k) axis (on k' h') o (on k h)) u' back)
      (order_is_cyclic a (f k) d (f k') (three a (f k) d (f k') axis (on k h) o (on k' h')) u there)

  pub one_place : (d : Vector) (k i : ℕ) → k < n → i < n → IsOnCircle a d → LiesFrom d k → LiesFrom d i → k ≡ i
  one_place d k i h l o (inl s) (inl s') = distinct k i h l (SameDirection-trans (f k) d (f i) s (SameDirection-turned (f i) d s'))
  one_place d k i h l o (inl s) (inr (j, x, p)) = absurd (not_both d k i j h l o s x p)
  one_place d k i h l o (inr (j, x, p)) (inl s) = absurd (not_both d i k j l h o s x p)
  one_place d k i h l o (inr (j, x, p)) (inr (j', x', p')) = by (three-ways k i)
    where
      by : (k < i) ⊎ (k ≡ i) ⊎ (i < k) → k ≡ i
      by (inl w) = absurd (one_sector d k j i j' h x p l x' p' o (distinct_up k i w l))
      by (inr (inl w)) = w
      by (inr (inr w)) = absurd (one_sector d i j' k j l x' p' h x p o (distinct_up i k w h))

  -- ---- what they give
  module _ (marks sectors : ℕ → Label) where
    given : (d : Vector) (k : ℕ) → k < n → LiesFrom d k → (l : Label) × Gives a n f marks sectors d l
    given d k h (inl s) = (marks k, on_ray k h s refl)
    given d k h (inr (j, x, p)) = (sectors k, of_sector k j h x p refl)

    pub some_label : (d : Vector) → IsOnCircle a d → (l : Label) × Gives a n f marks sectors d l
    some_label d o = by (eq-zero-or-pos n)
      where
        by : (n ≡ 0) ⊎ (0 < n) → (l : Label) × Gives a n f marks sectors d l
        by (inl e) = (sectors 0, in_only_sector e refl)
        by (inr h) = let r = some_place d h o in given d r.0 r.1 r.2

    pub one_label : (d : Vector) (l m : Label) → IsOnCircle a d → Gives a n f marks sectors d l → Gives a n f marks sectors d m → l ≡ m
    one_label d l m o (on_ray k h s e) (on_ray i h' s' e') = sym e ∙ ap marks (distinct k i h h' (SameDirection-trans (f k) d (f i) s (SameDirection-turned (f i) d s'))) ∙ e'
    one_label d l m o (on_ray k h s e) (of_sector i j h' x p e') = absurd (not_both d k i j h h' o s x p)
    one_label d l m o (on_ray k h s e) (in_only_sector z e') = absurd (omega arith)
    one_label d l m o (of_sector i j h' x p e) (on_ray k h s e') = absurd (not_both d k i j h h' o s x p)
    one_label d l m o (of_sector k j h x p e) (of_sector k' j' h' x' p' e') = sym e ∙ ap sectors (one_place d k k' h h' o (inr (j, x, p)) (inr (j', x', p'))) ∙ e'
    one_label d l m o (of_sector k j h x p e) (in_only_sector z e') = absurd (omega arith)
    one_label d l m o (in_only_sector z e) (on_ray k h s e') = absurd (omega arith)
    one_label d l m o (in_only_sector z e) (of_sector k j h x p e') = absurd (omega arith)
    one_label d l m o (in_only_sector z e) (in_only_sector z' e') = sym e ∙ e'

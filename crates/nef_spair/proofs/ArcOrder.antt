-- The order of arcs: arcs that are apart are in order once they are sorted.
use Rattle.nef_spair.proofs.Prelude.{◌≡◌, ℕ, ◌<◌, ℤ, ◌<ℤ◌, List, Bool, Ordering, Less, Equal, Greater, arith, refl, sym, ap, ◌∙◌, inl, inr, IsPermutation, IsSortedBy, MatchOrdering, int_cmp, nat_cmp, ordering_then, ordering_reverse, on, then_cmp, is_lt, IsTotalOrder, IsStrictWeakOrder, int_ranks, int_cmp_total, nat_cmp_total, on_total, then_total, ranked, ints, ranks_by, vector_of, InOrder, SArc, same-dirs, IsArcBelow, IsTwin, AreApart, vector-same}
use Rattle.nef_spair.proofs.Apart.{still-apart as stand-apart, sorted-in_order}

-- ---- the order as a function
abbrev pub arc_order : SArc → SArc → Ordering
arc_order = then_cmp (on (λ a. a.normal.x) int_cmp) (then_cmp (on (λ a. a.normal.y) int_cmp) (then_cmp (on (λ a. a.normal.z) int_cmp) (on (λ a. a.source) nat_cmp)))

total : IsTotalOrder arc_order
total = then_total (on_total (λ (a : SArc). a.normal.x) int_cmp_total) (then_total (on_total (λ (a : SArc). a.normal.y) int_cmp_total) (then_total (on_total (λ (a : SArc). a.normal.z) int_cmp_total) (on_total (λ (a : SArc). a.source) nat_cmp_total)))

module _ (a b : SArc) where
  abbrev Ranks : Ordering → Type 0
  Ranks o = MatchOrdering o (IsArcBelow a b) (IsTwin a b) (IsArcBelow b a)

  abbrev ByInt : Ordering → ℤ → ℤ → Type 0
  ByInt o x y = MatchOrdering o (x <ℤ y) (x ≡ y) (y <ℤ x)

  by_each : (o p q r : Ordering) → ByInt o a.normal.x b.normal.x → ByInt p a.normal.y b.normal.y → ByInt q a.normal.z b.normal.z → MatchOrdering r (a.source < b.source) (a.source ≡ b.source) (b.source < a.source)
      → Ranks (ordering_then o (ordering_then p (ordering_then q r)))
  by_each Less p q r h i j k = inl (inl h)
  by_each Greater p q r h i j k = inl (inl h)
  by_each Equal Less q r h i j k = inl (inr (inl (h, i)))
  by_each Equal Greater q r h i j k = inl (inr (inl (sym h, i)))
  by_each Equal Equal Less r h i j k = inl (inr (inr (h, i, j)))
  by_each Equal Equal Greater r h i j k = inl (inr (inr (sym h, sym i, j)))
  by_each Equal Equal Equal Less h i j k = inr (vector-same (vector_of a.normal) (vector_of b.normal) h i j, k)
  by_each Equal Equal Equal Equal h i j k = (same-dirs a.normal b.normal (vector-same (vector_of a.normal) (vector_of b.normal) h i j), k)
  by_each Equal Equal Equal Greater h i j k = inr (sym (vector-same (vector_of a.normal) (vector_of b.normal) h i j), k)

  pub ranks : Ranks (arc_order a b)
  ranks = by_each _ _ _ _ (int_ranks a.normal.x b.normal.x) (int_ranks a.normal.y b.normal.y) (int_ranks a.normal.z b.normal.z) (ranked a.source b.source (nat_cmp a.source b.source) refl)

  int-less : (x y : ℤ) (o : Ordering) → ByInt o x y → x <ℤ y → o ≡ Less
  int-less x y Less m h = refl
  int-less x y Equal m h = absurd (omega (arith, ints, m, h))
  int-less x y Greater m h = absurd (omega (arith, ints, m, h))

  int-equal : (x y : ℤ) (o : Ordering) → ByInt o x y → x ≡ y → o ≡ Equal
  int-equal x y Less m h = absurd (omega (arith, ints, m, h))
  int-equal x y Equal m h = refl
  int-equal x y Greater m h = absurd (omega (arith, ints, m, h))

  nat-less : (x y : ℕ) (o : Ordering) → MatchOrdering o (x < y) (x ≡ y) (y < x) → x < y → o ≡ Less
  nat-less x y Less m h = refl
  nat-less x y Equal m h = absurd (omega (arith, m, h))
  nat-less x y Greater m h = absurd (omega (arith, m, h))

  nat-equal : (x y : ℕ) (o : Ordering) → MatchOrdering o (x < y) (x ≡ y) (y < x) → x ≡ y → o ≡ Equal
  nat-equal x y Less m h = absurd (omega (arith, m, h))
  nat-equal x y Equal m h = refl
  nat-equal x y Greater m h = absurd (omega (arith, m, h))

  -- the four answers, one of which decides
  then-same : (o p q r : Ordering) → int_cmp a.normal.x b.normal.x ≡ o → int_cmp a.normal.y b.normal.y ≡ p → int_cmp a.normal.z b.normal.z ≡ q → nat_cmp a.source b.source ≡ r
      → arc_order a b ≡ ordering_then o (ordering_then p (ordering_then q r))
  then-same o p q r e f g h = rw (e, f, g, h) refl

  px : a.normal.x ≡ b.normal.x → int_cmp a.normal.x b.normal.x ≡ Equal
  px e = int-equal a.normal.x b.normal.x _ (int_ranks a.normal.x b.normal.x) e

  py : a.normal.y ≡ b.normal.y → int_cmp a.normal.y b.normal.y ≡ Equal
  py e = int-equal a.normal.y b.normal.y _ (int_ranks a.normal.y b.normal.y) e

  pz : a.normal.z ≡ b.normal.z → int_cmp a.normal.z b.normal.z ≡ Equal
  pz e = int-equal a.normal.z b.normal.z _ (int_ranks a.normal.z b.normal.z) e

  pub below-less : IsArcBelow a b → arc_order a b ≡ Less
  below-less (inl (inl h)) = then-same Less (int_cmp a.normal.y b.normal.y) (int_cmp a.normal.z b.normal.z) (nat_cmp a.source b.source) (int-less a.normal.x b.normal.x _ (int_ranks a.normal.x b.normal.x) h) refl refl refl
  below-less (inl (inr (inl (e, h)))) = then-same Equal Less (int_cmp a.normal.z b.normal.z) (nat_cmp a.source b.source) (px e) (int-less a.normal.y b.normal.y _ (int_ranks a.normal.y b.normal.y) h) refl refl
  below-less (inl (inr (inr (e, f, h)))) = then-same Equal Equal Less (nat_cmp a.source b.source) (px e) (py f) (int-less a.normal.z b.normal.z _ (int_ranks a.normal.z b.normal.z) h) refl
  below-less (inr (e, h)) =
      then-same Equal Equal Equal Less (px (ap (λ v. v.x) e)) (py (ap (λ v. v.y) e)) (pz (ap (λ v. v.z) e)) (nat-less a.source b.source _ (ranked a.source b.source (nat_cmp a.source b.source) refl) h)

  pub twin-equal : IsTwin a b → arc_order a b ≡ Equal
  twin-equal (e, h) =
      then-same Equal Equal Equal Equal (px (ap (λ v. v.x) e)) (py (ap (λ v. v.y) e)) (pz (ap (λ v. v.z) e)) (nat-equal a.source b.source _ (ranked a.source b.source (nat_cmp a.source b.source) refl) h)

above-greater : (a b : SArc) → IsArcBelow b a → arc_order a b ≡ Greater
above-greater a b h = total.antisymm a b ∙ ap ordering_reverse (below-less b a h)

-- an answer that ranks two arcs is the order's
pub lt-same : (a b : SArc) (o : Ordering) → MatchOrdering o (IsArcBelow a b) (IsTwin a b) (IsArcBelow b a) → is_lt o ≡ is_lt (arc_order a b)
lt-same a b Less h = sym (ap is_lt (below-less a b h))
lt-same a b Equal h = sym (ap is_lt (twin-equal a b h))
lt-same a b Greater h = sym (ap is_lt (above-greater a b h))

abbrev pub arc_lt : SArc → SArc → Bool
arc_lt a b = is_lt (arc_order a b)

pub weak : IsStrictWeakOrder arc_lt
weak = ranks_by total (λ (a : SArc). a)

-- ---- sorted arcs
pub still-apart : (xs ys : List SArc) → IsPermutation xs ys → AreApart xs → AreApart ys
still-apart = stand-apart arc_order total IsArcBelow IsTwin ranks twin-equal

pub ordered : (xs ys : List SArc) → IsPermutation xs ys → AreApart xs → IsSortedBy arc_lt ys → InOrder IsArcBelow ys
ordered = sorted-in_order arc_order total IsArcBelow IsTwin ranks twin-equal

-- The place where the sorted ends of edges pass one.
use Rattle.nef_edges.proofs.Prelude.{◌≡◌, ℕ, ◌+◌, ◌<◌, ◌≤◌, List, length, get_or, true, false, Ordering, Less, Equal, Greater, arith, refl, sym, ap, ◌∙◌, ⊎_elim, IsStrictWeakOrder, upto, IsPermutation, IsPartitionPoint, ordering_reverse, is_lt, is_le, is_gt, false≢true, cases_lt, ranks_by, sorted_far, Contains-permutation, IsPermutation-sym, IsAt, Vertex, EdgeEnd, end_order, end_lt, AreArriving, IsAfter, NoneAfter, IsNextEnd}
use Rattle.std.specs.List.Sorted.{IsSortedBy, IsPartitionedBy}
use Rattle.nef_edges.proofs.Lines.{end_total}
use Rattle.nef_edges.proofs.Places.{at-read}
use Rattle.nef_space.proofs.Lists.{is-at_read, is-at_within}

-- all ends from number p on stand after f
abbrev pub AllAfter : List EdgeEnd → EdgeEnd → ℕ → Type 0
AllAfter hs f p = (k : ℕ) (h : EdgeEnd) → IsAt hs k h → p ≤ k → IsAfter f h

pub weak : IsStrictWeakOrder end_lt
weak = ranks_by end_total (λ (h : EdgeEnd). h)

turned : (o : Ordering) → is_lt (ordering_reverse o) ≡ false → is_gt o ≡ false
turned Less e = refl
turned Equal e = refl
turned Greater e = e

le-no-gt : (o : Ordering) → is_le o ≡ true → is_gt o ≡ false
le-no-gt Less e = refl
le-no-gt Equal e = refl
le-no-gt Greater e = sym e

no-gt-le : (o : Ordering) → is_gt o ≡ false → is_le o ≡ true
no-gt-le Less e = refl
no-gt-le Equal e = refl
no-gt-le Greater e = sym e

no-le-greater : (o : Ordering) → is_le o ≡ false → o ≡ Greater
no-le-greater Less e = absurd (false≢true (sym e))
no-le-greater Equal e = absurd (false≢true (sym e))
no-le-greater Greater e = refl

pub gt-greater : (o : Ordering) → is_gt o ≡ true → o ≡ Greater
gt-greater Less e = absurd (false≢true e)
gt-greater Equal e = absurd (false≢true e)
gt-greater Greater e = refl

module _ (hs : List EdgeEnd) (sorted : IsSortedBy end_lt hs) where
  -- of two sorted ends the later isn't less
  pub not-less : (i k : ℕ) (g h : EdgeEnd) → IsAt hs i g → IsAt hs k h → i ≤ k → end_lt h g ≡ false
  not-less i k g h a b l =
      let far = sorted_far end_lt weak hs sorted i k g l (is-at_within hs k h b) in
      ap (λ r. end_lt r g) (sym (at-read hs k g h b)) ∙ ap (end_lt (get_or hs k g)) (sym (at-read hs i g g a)) ∙ far

  module _ (f : EdgeEnd) where
    -- all from one on that stands after f do
    pub all-after : (p : ℕ) (h : EdgeEnd) → IsAt hs p h → IsAfter f h → AllAfter hs f p
    all-after p h a t k g b l = by (end_order g h) refl
      where
        by : (o : Ordering) → end_order g h ≡ o → end_order g f ≡ Greater
        by Less e = absurd (false≢true (sym (not-less p k h g a b l) ∙ ap is_lt e))
        by Equal e = end_total.congr g h f e ∙ t
        by Greater e = end_total.antisymm g f ∙ ap ordering_reverse (end_total.trans f h g (end_total.antisymm f h ∙ ap ordering_reverse t) (end_total.antisymm h g ∙ ap ordering_reverse e))

    -- where one doesn't, none before it does
    pub none-up_to : (n : ℕ) (h : EdgeEnd) → IsAt hs n h → is_le (end_order h f) ≡ true → NoneAfter hs f (n + 1)
    none-up_to n h a e k g b l t = false≢true (sym (ap is_le (all-after k g b t n h a (omega arith))) ∙ e)

    -- those that don't stand after f come first
    pub parted : IsPartitionedBy (λ (h : EdgeEnd). is_le (end_order h f)) hs
    parted i j d l m e =
        let g = get_or hs i d in let h = get_or hs j d in
        let r = turned (end_order g h) (ap is_lt (sym (end_total.antisymm h g)) ∙ sorted_far end_lt weak hs sorted i j d l m) in
        no-gt-le (end_order g f) (upto end_total g h f r (le-no-gt (end_order h f) e))

    module _ (p : ℕ) (point : IsPartitionPoint (λ (h : EdgeEnd). is_le (end_order h f) ≡ true) (λ (h : EdgeEnd). is_le (end_order h f) ≡ false) hs p) where
      pub none-before : NoneAfter hs f p
      none-before k h a l t = false≢true (sym (ap is_le t) ∙ sym (ap (λ (g : EdgeEnd). is_le (end_order g f)) (at-read hs k h h a)) ∙ point.0 k h (omega arith) l)

      pub all-from : AllAfter hs f p
      all-from k h a l = no-le-greater (end_order h f) (sym (ap (λ (g : EdgeEnd). is_le (end_order g f)) (at-read hs k h h a)) ∙ point.1 k h l (is-at_within hs k h a))

    module _ (p : ℕ) (none : NoneAfter hs f p) (all : AllAfter hs f p) where
      pub next-within : (k : ℕ) (g : EdgeEnd) → IsAt hs k g → IsAfter f g → p < length hs
      next-within k g a t = ⊎_elim (λ l. absurd (none k g a l t)) (λ l. let m = is-at_within hs k g a in omega arith) (cases_lt k p)

      pub next-is : (h : EdgeEnd) → IsAt hs p h → IsNextEnd hs f h
      next-is h a = record {
        listed = (p, a);
        after = all p h a (omega arith);
        first = λ k g b t. ⊎_elim (λ l. absurd (none k g b l t)) (λ l. not-less p k h g a b l) (cases_lt k p);
      }

-- ---- a sort keeps the ends
pub sorted-kept : (vs : List Vertex) (P : ℕ → ℕ → Type 0) (hs gs : List EdgeEnd) → IsPermutation hs gs → AreArriving vs P hs → AreArriving vs P gs
sorted-kept vs P hs gs moved a = record {
  each = λ k h b.
      let c = Contains-permutation gs hs h (IsPermutation-sym hs gs moved) (k, is-at_within gs k h b, at-read gs k h h b) in
      a.each c.0 h (is-at_read hs c.0 h c.1 (sym c.2));
  all = λ j m v s b c up q.
      let r = a.all j m v s b c up q in
      let d = Contains-permutation hs gs r.1 moved (r.0, is-at_within hs r.0 r.1 r.2, at-read hs r.0 r.1 r.1 r.2) in
      (d.0, r.1, is-at_read gs d.0 r.1 d.1 (sym d.2), r.3, r.4);
}

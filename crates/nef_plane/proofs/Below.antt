-- Numbers in increasing order, parted at a limit.
use Rattle.nef_plane.proofs.Prelude.{◌≡◌, ℕ, ◌<◌, ◌≤◌, List, get_or, true, false, ltb, arith, ap, ⊎_elim, subst, eq-or-lt_of_le, ltb-true, ltb-false, IsPartitionedBy-ltb, IsPartitionPoint, IsAt, is-at_get, is-at_is, is-at_within}
use Rattle.std.specs.List.Sorted.{IsPartitionedBy}

module _ (ns : List ℕ) (n : ℕ) where
  pub below-parted : ((i j k l : ℕ) → i < j → IsAt ns i k → IsAt ns j l → k < l) → IsPartitionedBy (λ k. ltb k n) ns
  below-parted ordered = IsPartitionedBy-ltb (λ k. k) ns n (λ i j d l m. ⊎_elim
      (λ e. let f = ap (λ x. get_or ns x d) e in omega (arith, f))
      (λ o. let f = ordered i j (get_or ns i d) (get_or ns j d) o (is-at_get ns i d (omega (arith, l, m))) (is-at_get ns j d m) in omega (arith, f))
      (eq-or-lt_of_le {n = i} {m = j} l))

  module _ (p : ℕ) (point : IsPartitionPoint (λ k. ltb k n ≡ true) (λ k. ltb k n ≡ false) ns p) where
    pub below-point : (i k : ℕ) → i < p → IsAt ns i k → k < n
    below-point i k l a = ltb-true k n (subst (λ x. ltb x n ≡ true) (is-at_is ns i k k a) (point.0 i k (omega arith) l))

    pub beyond-point : (i k : ℕ) → p ≤ i → IsAt ns i k → n ≤ k
    beyond-point i k l a = ltb-false k n (subst (λ x. ltb x n ≡ false) (is-at_is ns i k k a) (point.1 i k l (is-at_within ns i k a)))

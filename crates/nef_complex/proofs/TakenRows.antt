-- The row of a vertex that is renumbered.
use Rattle.nef_complex.proofs.Prelude.{◌≡◌, sym, ℕ, ◌<◌, ◌≤◌, ⊎_elim, List, [], length, get_or, arith, subst, Contains, dedup, IsSorted, IsPermutation, nat_cmp, eqb, Contains-permutation, IsPermutation-sym, IsAt, SpacePoint, form_of, Plane, is-at_one, is-at_within, is-at_get, is-at_is, AreNumbersWith, AreHolders, IsHolder, AreNumbersOf, HoldsBoth, AreRead, HasEntry, StandsAmong, AreTaken, AreAdded}
use Rattle.std.proofs.lemmas.List.Kept.{Contains-dedup_nat, Contains-from_dedup, AllPairs-from_increasing}
use Rattle.std.proofs.lemmas.Map.Keys.{IsStrictlyIncreasing-dedup}
use Rattle.nef_complex.proofs.Walking.{added-none, read-added, read-rise}

entry-contained : (ns : List ℕ) (k : ℕ) → HasEntry ns k → Contains ns k
entry-contained ns k (i, a) = (i, is-at_within ns i k a, is-at_is ns i k k a)

contained-entry : (ns : List ℕ) (k : ℕ) → Contains ns k → HasEntry ns k
contained-entry ns k (i, l, e) = (i, subst (IsAt ns i) e (is-at_get ns i k l))

-- numbers that are sorted and kept once are those that they were, in increasing order
pub once-numbers : (P : ℕ → Type 0) (xs ys : List ℕ) → ((k : ℕ) → HasEntry xs k → P k) → ((k : ℕ) → P k → HasEntry xs k) → IsPermutation xs ys → IsSorted nat_cmp ys → AreNumbersWith P (dedup eqb ys)
once-numbers P xs ys each all moved sorted = let zs : List ℕ = dedup eqb ys in record {
  each = λ i k a. each k (contained-entry xs k (Contains-permutation ys xs k (IsPermutation-sym xs ys moved) (Contains-from_dedup eqb ys k (i, is-at_within zs i k a, is-at_is zs i k k a))));
  all = λ k p. contained-entry zs k (Contains-dedup_nat ys k (Contains-permutation xs ys k moved (entry-contained xs k (all k p))));
  ordered = λ i j k l b x y. subst (λ (r : ℕ). k < r) (is-at_is zs j l 0 y) (subst (λ (r : ℕ). r < get_or zs j 0) (is-at_is zs i k 0 x) (AllPairs-from_increasing zs (IsStrictlyIncreasing-dedup ys sorted) i j 0 b (is-at_within zs j l y)));
}

-- a plane that holds the point holds it among hs
pub holder-among : (gs hs : List Plane) (p : SpacePoint) (j k : ℕ) → IsHolder gs p p j → StandsAmong gs hs j k → IsHolder hs p p k
holder-among gs hs p j k (g, a, b) (h, c, d) = (h, d, subst (λ (r : Plane). HoldsBoth (form_of r) p p) (is-at_one gs j g h a c) b)

pub holder-back : (gs hs : List Plane) (p : SpacePoint) (j k : ℕ) → IsHolder hs p p k → StandsAmong gs hs j k → IsHolder gs p p j
holder-back gs hs p j k (g, a, b) (h, c, d) = (h, c, subst (λ (r : Plane). HoldsBoth (form_of r) p p) (is-at_one hs k g h a d) b)

-- numbers of holders are places in a list that is long enough
pub holders-places : (gs : List Plane) (p : SpacePoint) (ns listed : List ℕ) → length gs ≤ length ns → AreHolders gs p p listed → AreNumbersOf ns listed
holders-places gs p ns listed enough H i k a = let o = H.each i k a in let l = is-at_within gs k o.0 o.1 in omega arith

module _ (gs hs : List Plane) (ns : List ℕ) (others : List Plane) (ks : List ℕ) (T : AreTaken gs hs ns others ks) (p : SpacePoint) (listed found : List ℕ) (H : AreHolders gs p p listed) (F : AreHolders others p p found)
    (mid new : List ℕ) (A : AreAdded ns listed (length listed) [] mid) (B : AreAdded ks found (length found) mid new) where
  -- each number in the row is that of a carrier that holds the point
  pub row-each : (k : ℕ) → HasEntry new k → IsHolder hs p p k
  row-each k e = ⊎_elim
      (λ m. ⊎_elim (λ z. absurd (let l = is-at_within [] z.0 k z.1 in omega arith))
      (λ (i, j, l, a, b). holder-among gs hs p j k (H.each i j a) (T.each j k b)) (A.only k m))
      (λ (i, j, l, a, b). holder-among others hs p j k (F.each i j a) (T.others_each j k b)) (B.only k e)

  -- and each such carrier has its number there
  pub row-all : (k : ℕ) → IsHolder hs p p k → HasEntry new k
  row-all k h = ⊎_elim
      (λ (j, b).
      let o = H.all j (holder-back gs hs p j k h (T.each j k b)) in
      B.kept k (A.added o.0 j k (is-at_within listed o.0 j o.1) o.1 b))
      (λ (j, b).
      let o = F.all j (holder-back others hs p j k h (T.others_each j k b)) in
      B.added o.0 j k (is-at_within found o.0 j o.1) o.1 b)
      (T.all k (is-at_within hs k h.0 h.1))

  pub row-once : (sorted : List ℕ) → IsPermutation new sorted → IsSorted nat_cmp sorted → AreHolders hs p p (dedup eqb sorted)
  row-once sorted moved order = once-numbers (IsHolder hs p p) new sorted row-each row-all moved order

-- where none of the others holds the point, the numbers that were read are in order already
pub row-read : (gs hs : List Plane) (ns : List ℕ) (others : List Plane) (ks : List ℕ) (p : SpacePoint) (listed found row : List ℕ) → AreTaken gs hs ns others ks → AreHolders gs p p listed → AreHolders others p p found → length found ≡ 0 → AreRead ns listed (length listed) row → AreHolders hs p p row
row-read gs hs ns others ks p listed found row T H F e R =
    let A = read-added ns listed row R in
    let B : AreAdded ks found (length found) row row = subst (λ (n : ℕ). AreAdded ks found n row row) (sym e) (added-none ks found row) in
    record {
      each = λ i k a. row-each gs hs ns others ks T p listed found H F row row A B k (i, a);
      all = row-all gs hs ns others ks T p listed found H F row row A B;
      ordered = read-rise ns listed row (length listed) R T.rise H.ordered;
    }

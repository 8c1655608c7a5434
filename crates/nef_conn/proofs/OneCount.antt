-- The number of components is one: of two lists with a point of each component, each point of the one is joined to just one of the other.
use Rattle.nef_conn.proofs.Prelude.{◌≡◌, ℕ, zero, suc, ◌<◌, ◌≤◌, arith, refl, ◌⊎◌, inl, inr, ⊎_elim, List, length, subst, cases_order, Joined, SpacePoint, Set, joined-both, joined-turned, IsAt, is-at_one, AreComponents, OneCount}
use Rattle.nef_space.proofs.Lists.{is-at_some, is-at_within}

-- what has the last number takes the number z instead
abbrev Kept : (ℕ → ℕ → Type 0) → ℕ → ℕ → ℕ → ℕ → ℕ → Type 0
Kept R m n z i j = (i < m) × (R i j ⊎ (R i n × (j ≡ z)))

below-or_at : (n j : ℕ) → j < suc n → (j < n) ⊎ (j ≡ n)
below-or_at n j l = ⊎_elim (λ e. inr e) (λ o. ⊎_elim (λ h. inl h) (λ h. absurd (omega arith)) o) (cases_order j n)

-- where each of m numbers has one of n, and no two have the same, m is at most n
fits : (m n : ℕ) (R : ℕ → ℕ → Type 0) → ((i : ℕ) → i < m → (j : ℕ) × (j < n) × R i j) → ((i k j : ℕ) → R i j → R k j → i ≡ k) → m ≤ n
fits zero n R f g = omega arith
fits (suc m) zero R f g = let x = f 0 (omega arith) in let l = x.1 in absurd (omega (arith, l))
fits (suc m) (suc n) R f g = let rest = fits m n (Kept R m n last.0) found apart in omega (arith, rest)
  where
    last : (j : ℕ) × (j < suc n) × R m j
    last = f m (omega arith)

    found : (i : ℕ) → i < m → (j : ℕ) × (j < n) × Kept R m n last.0 i j
    found i l = let x = f i (omega arith) in ⊎_elim (λ h. (x.0, h, (l, inl x.2))) (λ e. moved (subst (λ (j : ℕ). R i j) e x.2)) (below-or_at n x.0 x.1)
      where
        moved : R i n → (j : ℕ) × (j < n) × Kept R m n last.0 i j
        moved a = ⊎_elim (λ h. (last.0, h, (l, inr (a, refl)))) (λ e. let k = g i m n a (subst (λ (j : ℕ). R m j) e last.2) in absurd (omega (arith, l, k))) (below-or_at n last.0 last.1)

    apart : (i k j : ℕ) → Kept R m n last.0 i j → Kept R m n last.0 k j → i ≡ k
    apart i k j (l, inl a) (h, inl b) = g i k j a b
    apart i k j (l, inl a) (h, inr (b, e)) = let z = g i m last.0 (subst (λ (r : ℕ). R i r) e a) last.2 in absurd (omega (arith, l, z))
    apart i k j (l, inr (a, e)) (h, inl b) = let z = g k m last.0 (subst (λ (r : ℕ). R k r) e b) last.2 in absurd (omega (arith, h, z))
    apart i k j (l, inr (a, e)) (h, inr (b, d)) = g i k n a b

module _ (s : Set) (d : ℕ) (ps qs : List SpacePoint) (A : AreComponents s d ps) (B : AreComponents s d qs) where
  abbrev Meets : ℕ → ℕ → Type 0
  Meets i j = (p : SpacePoint) × (q : SpacePoint) × IsAt ps i p × IsAt qs j q × Joined s p q

  no-more : length ps ≤ length qs
  no-more = fits (length ps) (length qs) Meets found apart
    where
      found : (i : ℕ) → i < length ps → (j : ℕ) × (j < length qs) × Meets i j
      found i l =
          let p = is-at_some ps i l in
          let q = B.all p.0 (A.flat i p.0 p.1) in
          (q.0, is-at_within qs q.0 q.1 q.2, (p.0, q.1, p.1, q.2, q.3))

      apart : (i k j : ℕ) → Meets i j → Meets k j → i ≡ k
      apart i k j (p, q, a, b, J) (r, t, c, e, K) =
          A.apart i k p r a c (joined-both s p q r J (joined-turned s r q (subst (λ (u : SpacePoint). Joined s r u) (is-at_one qs j t q e b) K)))

-- THERE IS ONE NUMBER OF COMPONENTS
pub one-count : OneCount
one-count s d m n (ps, a, A) (qs, b, B) = let x = no-more s d ps qs A B in let y = no-more s d qs ps B A in omega (arith, x, y, a, b)

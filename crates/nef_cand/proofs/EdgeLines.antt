-- The line of an edge: the first two of the carriers that hold it are different planes, so they meet in it.
use Rattle.nef_cand.proofs.Prelude.{◌≡◌, ℕ, ◌<◌, ◌≤◌, List, length, arith, subst, ⊎_elim, cases_lt, IsAt, IsBelow, SpacePoint, form_numbers, form_of, Plane, is-at_one, is-at_within, AreHolders, AreInOrder, HoldsBoth}
use Rattle.nef_cand.proofs.Planes.{IsLineThrough, line-of}
use Rattle.nef_geo.proofs.Orders.{never-below}

-- two different planes of the list hold both points
abbrev pub AreHeldByTwo : List Plane → SpacePoint → SpacePoint → Type 0
AreHeldByTwo hs p q = (i : ℕ) × (k : ℕ) × (g : Plane) × (h : Plane) × IsAt hs i g × IsAt hs k h
    × HoldsBoth (form_of g) p q × HoldsBoth (form_of h) p q × (g ≡ h → ⊥)

module _ (hs : List Plane) (p q : SpacePoint) (ns : List ℕ) (H : AreHolders hs p q ns) where
  -- so at least two are listed
  pub two-listed : AreHeldByTwo hs p q → 1 < length ns
  two-listed (i, k, g, h, a, b, x, y, n) = ⊎_elim (λ l. l) (λ l. absurd (n (same l))) (cases_lt 1 (length ns))
    where
      here : (m j : ℕ) → length ns ≤ 1 → IsAt ns m j → IsAt ns 0 j
      here m j l c = let w = is-at_within ns m j c in let z : m ≡ 0 = omega arith in subst (λ (r : ℕ). IsAt ns r j) z c

      same : length ns ≤ 1 → g ≡ h
      same l =
          let o = H.all i (g, a, x) in
          let r = H.all k (h, b, y) in
          let e : i ≡ k = is-at_one ns 0 i k (here o.0 i l o.1) (here r.0 k l r.1) in
          is-at_one hs k g h (subst (λ (m : ℕ). IsAt hs m g) e a) b

  -- and the first two are different, since each carrier is listed once
  pub first-two : AreInOrder hs → (i k : ℕ) (g h : Plane) → IsAt ns 0 i → IsAt ns 1 k → IsAt hs i g → IsAt hs k h → IsLineThrough g h p q
  first-two order i k g h a b c d =
      let o = H.each 0 i a in
      let r = H.each 1 k b in
      line-of g h p q
      (subst (λ (f : Plane). HoldsBoth (form_of f) p q) (is-at_one hs i o.0 g o.1 c) o.2)
      (subst (λ (f : Plane). HoldsBoth (form_of f) p q) (is-at_one hs k r.0 h r.1 d) r.2)
      (λ e. never-below (form_numbers (form_of g)) (subst (λ (f : Plane). IsBelow (form_numbers (form_of g)) (form_numbers (form_of f))) e (order i k g h (H.ordered 0 1 i k (omega arith) a b) c d)))

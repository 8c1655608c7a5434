-- The listed carriers that hold two points, one after the other.
use Rattle.nef_complex.proofs.Prelude.{◌≡◌, ℕ, ◌+◌, ◌<◌, ◌≤◌, List, length, arith, subst, ⊎_elim, IsAt, SpacePoint, form_of, Plane, is-at_one, is-at_within, AreNumbersOf, AreHolders, HoldsBoth}
use Rattle.nef_space.proofs.Elementary.{less-or-last}

-- Q of the carriers among the first n of the list
abbrev pub AllListed : List Plane → List ℕ → ℕ → (Plane → Type 0) → Type 0
AllListed hs ns n Q = (i k : ℕ) (g : Plane) → i < n → IsAt ns i k → IsAt hs k g → Q g

pub listed-more : (hs : List Plane) (ns : List ℕ) (n k : ℕ) (g : Plane) (Q : Plane → Type 0) → IsAt ns n k → IsAt hs k g → AllListed hs ns n Q → Q g → AllListed hs ns (n + 1) Q
listed-more hs ns n k g Q a b all q i m f l c d = ⊎_elim (λ o. all i m f o c d)
    (λ e.
    let same : m ≡ k = is-at_one ns n m k (subst (λ (j : ℕ). IsAt ns j m) e c) a in
    subst Q (is-at_one hs k g f b (subst (λ (j : ℕ). IsAt hs j f) same d)) q)
    (less-or-last i n l)

module _ (hs : List Plane) (a b : SpacePoint) (ns : List ℕ) (H : AreHolders hs a b ns) where
  pub holders-within : AreNumbersOf hs ns
  holders-within i k l = let o = H.each i k l in is-at_within hs k o.0 o.1

  -- a listed carrier holds both points
  pub holder-holds : (i k : ℕ) (g : Plane) → IsAt ns i k → IsAt hs k g → HoldsBoth (form_of g) a b
  holder-holds i k g l d = let o = H.each i k l in subst (λ (r : Plane). HoldsBoth (form_of r) a b) (is-at_one hs k o.0 g o.1 d) o.2

  -- what holds of all that are listed holds of each carrier that holds both points
  pub all-holders : (Q : Plane → Type 0) (n : ℕ) → length ns ≤ n → AllListed hs ns n Q → (k : ℕ) (g : Plane) → IsAt hs k g → HoldsBoth (form_of g) a b → Q g
  all-holders Q n le all k g l h = let o = H.all k (g, l, h) in all o.0 k g (let m = is-at_within ns o.0 k o.1 in omega arith) o.1 l

-- Candidates added to a list.
use Rattle.nef_cand.proofs.Prelude.{◌≡◌, ℕ, ◌+◌, ◌<◌, ◌≤◌, List, [], ◌∷◌, ◌++◌, length, get_or, arith, subst, inl, inr, ◌⊎◌, ⊎_elim, Contains, eq-or-lt_of_le, cases_lt, Contains-append_left, Contains-push, Contains-push_cases, SpacePoint, SamePoint, point_of, Named, IsAt, is-at_one, is-at_within, is-at_read, IsAmong, AddsAll}

pub listed-more : (ps qs : List Named) → ((p : Named) → Contains ps p → Contains qs p) → (y : SpacePoint) → IsAmong ps y → IsAmong qs y
listed-more ps qs f y (p, h, s) = (p, f p h, s)

-- nothing has Q
pub adds-none : (P Q : SpacePoint → Type 0) (N : Named → Type 0) (ps : List Named) → ((y : SpacePoint) → Q y → ⊥) → AddsAll P Q N ps ps
adds-none P Q N ps n = record { kept = λ p h. h; added = λ p h. inl h; all = λ y h. absurd (n y h) }

-- a point with P is the one with Q
pub adds-one : (P Q : SpacePoint → Type 0) (N : Named → Type 0) (ps : List Named) (p : Named) → P (point_of p.point) → N p → ((y : SpacePoint) → Q y → SamePoint (point_of p.point) y) → AddsAll P Q N ps (ps ++ p ∷ [])
adds-one P Q N ps p h g one = record {
  kept = λ q i. Contains-append_left ps (p ∷ []) q i;
  added = λ q i. by q (Contains-push_cases ps p q i);
  all = λ y i. (p, Contains-push ps p, one y i);
}
  where
    by : (q : Named) → Contains ps q ⊎ (p ≡ q) → Contains ps q ⊎ (P (point_of q.point) × N q)
    by q (inl i) = inl i
    by q (inr e) = inr (subst (λ (r : Named). P (point_of r.point) × N r) e (h, g))

-- some are added and then others
module _ (P P' Q Q' R R' : SpacePoint → Type 0) (N : Named → Type 0) (ps qs rs : List Named) (f : AddsAll P P' N ps qs) (g : AddsAll Q Q' N qs rs) where
  pub adds-both : ((y : SpacePoint) → P y ⊎ Q y → R y) → ((y : SpacePoint) → R' y → P' y ⊎ Q' y) → AddsAll R R' N ps rs
  adds-both to from = record {
    kept = λ p h. g.kept p (f.kept p h);
    added = λ p h. by p (g.added p h);
    all = λ y r. found y (from y r);
  }
    where
      first : (p : Named) → Contains ps p ⊎ (P (point_of p.point) × N p) → Contains ps p ⊎ (R (point_of p.point) × N p)
      first p (inl h) = inl h
      first p (inr (a, n)) = inr (to (point_of p.point) (inl a), n)

      by : (p : Named) → Contains qs p ⊎ (Q (point_of p.point) × N p) → Contains ps p ⊎ (R (point_of p.point) × N p)
      by p (inl h) = first p (f.added p h)
      by p (inr (b, n)) = inr (to (point_of p.point) (inr b), n)

      found : (y : SpacePoint) → P' y ⊎ Q' y → IsAmong rs y
      found y (inl a) = listed-more qs rs g.kept y (f.all y a)
      found y (inr b) = g.all y b

pub adds-as : (P P' Q Q' : SpacePoint → Type 0) (N : Named → Type 0) (ps qs : List Named) → ((y : SpacePoint) → P y → Q y) → ((y : SpacePoint) → Q' y → P' y) → AddsAll P P' N ps qs → AddsAll Q Q' N ps qs
adds-as P P' Q Q' N ps qs f g a = record { kept = a.kept; added = λ p h. by p (a.added p h); all = λ y q. a.all y (g y q) }
  where
    by : (p : Named) → Contains ps p ⊎ (P (point_of p.point) × N p) → Contains ps p ⊎ (Q (point_of p.point) × N p)
    by p (inl h) = inl h
    by p (inr (a, n)) = inr (f (point_of p.point) a, n)

-- what has N has M
pub adds-with : (P Q : SpacePoint → Type 0) (N M : Named → Type 0) (ps qs : List Named) → ((p : Named) → N p → M p) → AddsAll P Q N ps qs → AddsAll P Q M ps qs
adds-with P Q N M ps qs f a = record { kept = a.kept; added = λ p h. by p (a.added p h); all = a.all }
  where
    by : (p : Named) → Contains ps p ⊎ (P (point_of p.point) × N p) → Contains ps p ⊎ (P (point_of p.point) × M p)
    by p (inl h) = inl h
    by p (inr (a, n)) = inr (a, f p n)

-- ---- one element after another
-- one of the first i elements has P with y
abbrev pub AnyFirst : {X : Type 0} → (X → SpacePoint → Type 0) → List X → ℕ → SpacePoint → Type 0
AnyFirst {X} P xs i y = (k : ℕ) × (x : X) × (k < i) × IsAt xs k x × P x y

abbrev pub AnyAt : {X : Type 0} → (X → SpacePoint → Type 0) → List X → SpacePoint → Type 0
AnyAt {X} P xs y = (k : ℕ) × (x : X) × IsAt xs k x × P x y

module _ {X : Type 0} (P : X → SpacePoint → Type 0) (xs : List X) (i : ℕ) (x : X) (here : IsAt xs i x) where
  any-forth : (y : SpacePoint) → AnyFirst P xs i y ⊎ P x y → AnyFirst P xs (i + 1) y
  any-forth y (inl (k, z, h, a, r)) = (k, z, omega (arith, h), a, r)
  any-forth y (inr r) = (i, x, omega arith, here, r)

  any-split : (y : SpacePoint) (k : ℕ) (z : X) → (k ≡ i) ⊎ (k < i) → IsAt xs k z → P z y → AnyFirst P xs i y ⊎ P x y
  any-split y k z (inl o) a r = inr (subst (λ w. P w y) (is-at_one xs i z x (subst (λ (j : ℕ). IsAt xs j z) o a) here) r)
  any-split y k z (inr h) a r = inl (k, z, h, a, r)

  any-back : (y : SpacePoint) → AnyFirst P xs (i + 1) y → AnyFirst P xs i y ⊎ P x y
  any-back y (k, z, h, a, r) = any-split y k z (eq-or-lt_of_le {n = k} {m = i} (omega (arith, h))) a r

module _ {X : Type 0} (P Q : X → SpacePoint → Type 0) (N : Named → Type 0) (xs : List X) where
  pub any-next : (i : ℕ) (x : X) (ps qs rs : List Named) → IsAt xs i x → AddsAll (AnyFirst P xs i) (AnyFirst Q xs i) N ps qs → AddsAll (P x) (Q x) N qs rs → AddsAll (AnyFirst P xs (i + 1)) (AnyFirst Q xs (i + 1)) N ps rs
  any-next i x ps qs rs here f g = adds-both (AnyFirst P xs i) (AnyFirst Q xs i) (P x) (Q x) (AnyFirst P xs (i + 1)) (AnyFirst Q xs (i + 1)) N ps qs rs f g (any-forth P xs i x here) (any-back Q xs i x here)

  pub any-more : (i : ℕ) (x : X) (ps qs rs : List Named) → i < length xs → x ≡ get_or xs i x → AddsAll (AnyFirst P xs i) (AnyFirst Q xs i) N ps qs → AddsAll (P x) (Q x) N qs rs → AddsAll (AnyFirst P xs (i + 1)) (AnyFirst Q xs (i + 1)) N ps rs
  any-more i x ps qs rs l e = any-next i x ps qs rs (is-at_read xs i x l e)

  -- of the later ones none has Q
  pub any-until : (i : ℕ) (ps qs : List Named) → ((k : ℕ) (x : X) (y : SpacePoint) → i ≤ k → IsAt xs k x → Q x y → ⊥) → AddsAll (AnyFirst P xs i) (AnyFirst Q xs i) N ps qs → AddsAll (AnyAt P xs) (AnyAt Q xs) N ps qs
  any-until i ps qs off f = adds-as (AnyFirst P xs i) (AnyFirst Q xs i) (AnyAt P xs) (AnyAt Q xs) N ps qs
      (λ y a. (a.0, a.1, a.3, a.4)) (λ y a. ⊎_elim (λ l. (a.0, a.1, l, a.2, a.3)) (λ l. absurd (off a.0 a.1 y l a.2 a.3)) (cases_lt a.0 i)) f

  pub any-all : (i : ℕ) (ps qs : List Named) → length xs ≤ i → AddsAll (AnyFirst P xs i) (AnyFirst Q xs i) N ps qs → AddsAll (AnyAt P xs) (AnyAt Q xs) N ps qs
  any-all i ps qs l f = any-until i ps qs (λ k x y m a h. absurd (let w = is-at_within xs k x a in omega (arith, l, m, w))) f

-- Circles that no star has its axis on, star by star and circle by circle.
use Rattle.nef_spair.proofs.Prelude.{◌≡◌, ℕ, ◌+◌, ◌<◌, ◌≤◌, pos, List, length, map, arith, sym, subst, inl, inr, eq-or-lt_of_le, Vector, dot, vector_of, IsAt, is-at_one, IsBare, Star, star_of, is-at_map, map-is_at, is-at_within}
use Rattle.law_geometry.specs.sphere.Stars.{Star as PlainStar}

-- P fails at each of the first k elements
abbrev pub NoneUpTo : {A : Type 0} → (A → Type 0) → List A → ℕ → Type 0
NoneUpTo {A} P xs k = (i : ℕ) (x : A) → i < k → IsAt xs i x → P x → ⊥

pub none-more : {A : Type 0} (P : A → Type 0) (xs : List A) (k : ℕ) (x : A) → IsAt xs k x → NoneUpTo P xs k → (P x → ⊥) → NoneUpTo P xs (k + 1)
none-more P xs k x a w n i y h b p =
    elim (eq-or-lt_of_le {n = i} {m = k} (omega (arith, h))) [
      | inl e ↦ n (subst P (is-at_one xs k y x (subst (λ (j : ℕ). IsAt xs j y) e b) a) p)
      | inr l ↦ w i y l b p
    ]

pub none-all : {A : Type 0} (P : A → Type 0) (xs : List A) (k : ℕ) → length xs ≤ k → NoneUpTo P xs k → (i : ℕ) (x : A) → IsAt xs i x → P x → ⊥
none-all P xs k h w i x a p = w i x (omega (arith, h, is-at_within xs i x a)) a p

-- ---- stars on a circle
abbrev pub IsOnCircleOf : Vector → Star → Type 0
IsOnCircleOf n t = dot n (vector_of t.axis) ≡ pos 0

pub bare-all : (kept : List Star) (n : Vector) (k : ℕ) → length kept ≤ k → NoneUpTo (IsOnCircleOf n) kept k → IsBare (map star_of kept) n
bare-all kept n k h w i s a e =
    let t = is-at_map star_of kept i s a in
    none-all (IsOnCircleOf n) kept k h w i t.0 t.1 (subst (λ (x : PlainStar). dot n x.axis ≡ pos 0) (sym t.2) e)

pub not-bare : (kept : List Star) (n : Vector) (k : ℕ) (t : Star) → IsAt kept k t → IsOnCircleOf n t → IsBare (map star_of kept) n → ⊥
not-bare kept n k t a e b = b k (star_of t) (map-is_at star_of kept k t a) e

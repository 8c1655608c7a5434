-- Stars made simple one after another.
use Rattle.nef_spair.proofs.Prelude.{◌≡◌, ℕ, zero, suc, ◌+◌, ◌<◌, ◌≤◌, List, [], ◌∷◌, length, get_or, slice_set, get_or-set_other, get_or-set_same, length-set, ◌≢◌, arith, sym, subst, ◌∙◌, inl, inr, ◌⊎◌, All, eq-or-lt_of_le, IsAt, is-at_one, Star, IsStar, is-at_within, is-at_is, is-at_get, IsSimple, AreSimple, is-at_none}
use Rattle.nef_spair.proofs.Places.{all-at}

-- the first n are simple, and the others are as they were
pub record IsSimpleUpTo (n : ℕ) (ts us : List Star) : Type 0 where
  pub as_many : length us ≡ length ts
  pub done : (k : ℕ) (t s : Star) → k < n → IsAt ts k t → IsAt us k s → IsSimple t s
  pub left : (k : ℕ) (s : Star) → n ≤ k → IsAt us k s → IsAt ts k s

pub simple-all : (n : ℕ) (ts us : List Star) → length us ≤ n → IsSimpleUpTo n ts us → AreSimple ts us
simple-all n ts us h w = record { as_many = w.as_many; each = λ k t s a b. w.done k t s (omega (arith, h, within us k s b)) a b }
  where
    within : (us : List Star) (k : ℕ) (s : Star) → IsAt us k s → k < length us
    within [] k s a = absurd (is-at_none a)
    within (u ∷ us) zero s a = omega arith
    within (u ∷ us) (suc k) s a = omega (arith, within us k s a)

module _ (n : ℕ) (ts us : List Star) (w : IsSimpleUpTo n ts us) (h : n < length us) where
  pub simple-current : (d : Star) → All IsStar ts → IsStar (get_or us n d)
  simple-current d a = all-at IsStar ts a n (get_or us n d) (w.left n (get_or us n d) (omega arith) (is-at_get us n d h))

  module _ (d s : Star) (simple : IsSimple (get_or us n d) s) where
    fits : length (slice_set us n s) ≡ length us
    fits = length-set us n s

    other : (k : ℕ) (r : Star) → k ≢ n → IsAt (slice_set us n s) k r → IsAt us k r
    other k r e a =
        let within = is-at_within (slice_set us n s) k r a in
        let same : get_or us k r ≡ r = sym (get_or-set_other us n k s r e) ∙ is-at_is (slice_set us n s) k r r a in
        subst (IsAt us k) same (is-at_get us k r (omega (arith, within, fits)))

    this : (r : Star) → IsAt (slice_set us n s) n r → s ≡ r
    this r a = sym (get_or-set_same us n s r h) ∙ is-at_is (slice_set us n s) n r r a

    pub simple-more : IsSimpleUpTo (n + 1) ts (slice_set us n s)
    simple-more = record {
      as_many = fits ∙ w.as_many;
      done = λ k t r l a b. at k t r (eq-or-lt_of_le {n = k} {m = n} (omega (arith, l))) a b;
      left = λ k r l a. w.left k r (omega (arith, l)) (other k r (λ e. omega (arith, e, l)) a);
    }
      where
        at : (k : ℕ) (t r : Star) → (k ≡ n) ⊎ (k < n) → IsAt ts k t → IsAt (slice_set us n s) k r → IsSimple t r
        at k t r (inl e) a b =
            let was = w.left n (get_or us n d) (omega arith) (is-at_get us n d h) in
            let one : get_or us n d ≡ t = is-at_one ts n (get_or us n d) t was (subst (λ (i : ℕ). IsAt ts i t) e a) in
            subst (λ (x : Star). IsSimple x r) one (subst (IsSimple (get_or us n d)) (this r (subst (λ (i : ℕ). IsAt (slice_set us n s) i r) e b)) simple)
        at k t r (inr l) a b = w.done k t r l a (other k r (λ e. omega (arith, e, l)) b)

-- A list with one element set.
use Rattle.nef_classes.proofs.Prelude.{◌≡◌, ◌≢◌, ℕ, ◌<◌, List, length, arith, ◌∙◌, ◌⊎◌, inl, inr, ⊎_elim, subst, set, get_or-set_same, get_or-set_other, length-set, IsAt}
use Rattle.std.proofs.lemmas.Bool.{cases_order}
use Rattle.nef_space.proofs.Lists.{is-at_one, is-at_within, is-at_some, is-at_get, is-at_is}

pub set-other : {X : Type 0} (xs : List X) (k i : ℕ) (v x : X) → i ≢ k → IsAt xs i x → IsAt (set xs k v) i x
set-other xs k i v x n a =
    let w = is-at_within xs i x a in
    let m = length-set xs k v in
    subst (IsAt (set xs k v) i) (get_or-set_other xs k i v x n ∙ is-at_is xs i x x a) (is-at_get (set xs k v) i x (omega (arith, m)))

pub set-same : {X : Type 0} (xs : List X) (k : ℕ) (v : X) → k < length xs → IsAt (set xs k v) k v
set-same xs k v h =
    let m = length-set xs k v in
    subst (IsAt (set xs k v) k) (get_or-set_same xs k v v h) (is-at_get (set xs k v) k v (omega (arith, m)))

pub set-at : {X : Type 0} (xs : List X) (k i : ℕ) (v x : X) → IsAt (set xs k v) i x → ((i ≡ k) × (x ≡ v)) ⊎ IsAt xs i x
set-at {X} xs k i v x a = ⊎_elim
    (λ e. inl (e, same e))
    (λ o. inr (other (⊎_elim (λ l e. absurd (omega arith)) (λ l e. absurd (omega arith)) o)))
    (cases_order i k)
  where
    within : i < length xs
    within = let h = is-at_within (set xs k v) i x a in let m = length-set xs k v in omega arith

    same : i ≡ k → x ≡ v
    same e = is-at_one (set xs k v) k x v (subst (λ (j : ℕ). IsAt (set xs k v) j x) e a) (set-same xs k v (let h = within in omega arith))

    other : i ≢ k → IsAt xs i x
    other n = let r = is-at_some xs i within in subst (λ (y : X). IsAt xs i y) (is-at_one (set xs k v) i r.0 x (set-other xs k i v r.0 n r.1) a) r.1

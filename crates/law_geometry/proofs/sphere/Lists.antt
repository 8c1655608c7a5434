-- Elements of lists: searching, joining, gathering.
use Rattle.law_geometry.proofs.sphere.Prelude.{◌≡◌, ℕ, zero, suc, refl, sym, ap, ◌⊎◌, inl, inr, List, ◌∷◌, subst, Some, [], Lies, lies-left, lies-right, IsAt, Decided, is-at_none, is-at_first, ◌++◌, length}
use Rattle.law_geometry.specs.sphere.Least.{InOrder}
use Rattle.nef_space.proofs.Lists.{is-at_more, is-at_within}
use Rattle.nef_space.proofs.Prelude.{arith}
pub use Rattle.law_geometry.specs.sphere.Forms.{gather}

pub record Found {A : Type 0} (xs : List A) (P : ℕ → A → Type 0) : Type 0 where
  pub number : ℕ
  pub element : A
  pub listed : IsAt xs number element
  pub holds : P number element

pub search_list : {A : Type 0} (xs : List A) (P : ℕ → A → Type 0) → ((k : ℕ) (x : A) → Decided (P k x)) → Found xs P ⊎ ((k : ℕ) (x : A) → IsAt xs k x → P k x → ⊥)
search_list [] P D = inr (λ k x a p. is-at_none a)
search_list {A} (y ∷ ys) P D = by (D zero y) (search_list ys (λ k x. P (suc k) x) (λ k x. D (suc k) x))
  where
    none_here : (P zero y → ⊥) → ((k : ℕ) (x : A) → IsAt ys k x → P (suc k) x → ⊥) → (k : ℕ) (x : A) → IsAt (y ∷ ys) k x → P k x → ⊥
    none_here n f zero x e p = n (subst (λ (r : A). P zero r) (sym (is-at_first e)) p)
    none_here n f (suc k) x a p = f k x a p

    by : Decided (P zero y) → Found ys (λ k x. P (suc k) x) ⊎ ((k : ℕ) (x : A) → IsAt ys k x → P (suc k) x → ⊥) → Found (y ∷ ys) P ⊎ ((k : ℕ) (x : A) → IsAt (y ∷ ys) k x → P k x → ⊥)
    by (inl p) r = inl (record { number = zero; element = y; listed = refl; holds = p })
    by (inr n) (inl f) = inl (record { number = suc f.number; element = f.element; listed = f.listed; holds = f.holds })
    by (inr n) (inr f) = inr (none_here n f)

pub none-at : {A : Type 0} (xs : List A) (k : ℕ) (x : A) → xs ≡ [] → IsAt xs k x → ⊥
none-at {A} xs k x e a = is-at_none (subst (λ (r : List A). IsAt r k x) e a)

pub gather-has : {A B : Type 0} (f : A → List B) (xs : List A) (k : ℕ) (x : A) (g : B) → IsAt xs k x → Lies (f x) g → Lies (gather f xs) g
gather-has f [] k x g a l = absurd (is-at_none a)
gather-has {A} f (y ∷ ys) zero x g e l = lies-left (f y) (gather f ys) g (subst (λ (r : A). Lies (f r) g) (sym (is-at_first e)) l)
gather-has f (y ∷ ys) (suc k) x g a l = lies-right (f y) (gather f ys) g (gather-has f ys k x g a l)

pub lies-at : {A : Type 0} (xs : List A) (x : A) → Lies xs x → (k : ℕ) × IsAt xs k x
lies-at [] x l = absurd l
lies-at (y ∷ ys) x (inl e) = (zero, ap Some e)
lies-at (y ∷ ys) x (inr l) = let r = lies-at ys x l in (suc r.0, r.1)

pub at-lies : {A : Type 0} (xs : List A) (k : ℕ) (x : A) → IsAt xs k x → Lies xs x
at-lies [] k x a = absurd (is-at_none a)
at-lies (y ∷ ys) zero x e = inl (is-at_first e)
at-lies (y ∷ ys) (suc k) x a = inr (at-lies ys k x a)

-- one more element that is above all others
pub order-more : {A : Type 0} (Below : A → A → Type 0) (xs : List A) (y : A) → InOrder Below xs → ((k : ℕ) (x : A) → IsAt xs k x → Below x y) → InOrder Below (xs ++ y ∷ [])
order-more {A} Below xs y o f i k x z l a b = by (is-at_more xs y i x a) (is-at_more xs y k z b)
  where
    by : IsAt xs i x ⊎ ((i ≡ length xs) × (y ≡ x)) → IsAt xs k z ⊎ ((k ≡ length xs) × (y ≡ z)) → Below x z
    by (inl c) (inl d) = o i k x z l c d
    by (inl c) (inr d) = subst (Below x) d.1 (f i x c)
    by (inr c) (inl d) = absurd (let m = is-at_within xs k z d in let e = c.0 in omega arith)
    by (inr c) (inr d) = absurd (let e = c.0 in let g = d.0 in omega arith)

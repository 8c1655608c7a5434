-- Weights of lists and totals of views.
use Rattle.nef_sched.proofs.Prelude.{◌≡◌, ◌≢◌, ℕ, zero, suc, ◌+◌, ◌≤◌, cond, List, [], ◌∷◌, ◌++◌, length, set, refl, ap, sym, arith, ◌⊎◌, inl, inr, Bool, eq-eqb, ne_eqb, View, weigh, one, total}
use mathlib.Core.Option.{some, some-injective, some-ne-none}
use lib.ListN.{get_elem?}
use Rattle.nef_core.proofs.Places.{same_or_not}

pub weigh_append : (h : ℕ → ℕ) (xs ys : List ℕ) → weigh h (xs ++ ys) ≡ weigh h xs + weigh h ys
weigh_append h [] ys = omega arith
weigh_append h (x ∷ xs) ys = let e = weigh_append h xs ys in omega arith

pub weigh_one : (xs : List ℕ) → weigh (λ y. 1) xs ≡ length xs
weigh_one [] = refl
weigh_one (x ∷ xs) = let e = weigh_one xs in omega arith

-- a number counts for itself, and for no other
pub counts : (y x : ℕ) → ((y ≡ x) × (one x y ≡ 1)) ⊎ (one x y ≡ 0)
counts y x = elim (same_or_not y x) [ inl e ↦ inl (e, ap (λ (b : Bool). cond b 1 0) (eq-eqb y x e)) | inr n ↦ inr (ap (λ (b : Bool). cond b 1 0) (ne_eqb y x n)) ]

pub counts_itself : (x : ℕ) → one x x ≡ 1
counts_itself x = ap (λ (b : Bool). cond b 1 0) (eq-eqb x x refl)

pub total_set : (f : View → ℕ) (views : List View) (place : ℕ) (v w : View) → get_elem? views place ≡ some v → total f (set views place w) + f v ≡ total f views + f w
total_set f [] place v w e = absurd (some-ne-none v (sym e))
total_set f (x ∷ xs) zero v w e = let q : f x ≡ f v = ap f (some-injective x v e) in omega arith
total_set f (x ∷ xs) (suc place) v w e = let h = total_set f xs place v w e in omega arith

pub total_snoc : (f : View → ℕ) (views : List View) (w : View) → total f (views ++ w ∷ []) ≡ total f views + f w
total_snoc f [] w = omega arith
total_snoc f (x ∷ xs) w = let h = total_snoc f xs w in omega arith

-- a view adds no more than the total, nor do two
pub at_most : (f : View → ℕ) (views : List View) (place : ℕ) (v : View) → get_elem? views place ≡ some v → f v ≤ total f views
at_most f [] place v e = absurd (some-ne-none v (sym e))
at_most f (x ∷ xs) zero v e = let q : f x ≡ f v = ap f (some-injective x v e) in omega arith
at_most f (x ∷ xs) (suc place) v e = let h = at_most f xs place v e in omega arith

pub two_at_most : (f : View → ℕ) (views : List View) (i j : ℕ) (v w : View) → i ≢ j → get_elem? views i ≡ some v → get_elem? views j ≡ some w → f v + f w ≤ total f views
two_at_most f [] i j v w n a b = absurd (some-ne-none v (sym a))
two_at_most f (x ∷ xs) zero zero v w n a b = absurd (n refl)
two_at_most f (x ∷ xs) zero (suc j) v w n a b = let q : f x ≡ f v = ap f (some-injective x v a) in let h = at_most f xs j w b in omega arith
two_at_most f (x ∷ xs) (suc i) zero v w n a b = let q : f x ≡ f w = ap f (some-injective x w b) in let h = at_most f xs i v a in omega arith
two_at_most f (x ∷ xs) (suc i) (suc j) v w n a b = let h = two_at_most f xs i j v w (λ e. n (ap suc e)) a b in omega arith

-- where f is nought of each view without a part, and one view has every part, the total of f is its f
none_of : (f g : View → ℕ) (views : List View) → total g views ≡ 0 → ((place : ℕ) (u : View) → get_elem? views place ≡ some u → g u ≡ 0 → f u ≡ 0) → total f views ≡ 0
none_of f g [] e h = refl
none_of f g (x ∷ xs) e h =
    let a : g x ≡ 0 = omega arith in
    let b : total g xs ≡ 0 = omega arith in
    let c : f x ≡ 0 = h 0 x refl a in
    let d : total f xs ≡ 0 = none_of f g xs b (λ place u at z. h (suc place) u at z) in
    omega arith

pub all_of_one : (f g : View → ℕ) (views : List View) (place : ℕ) (v : View) → get_elem? views place ≡ some v → total g views ≡ g v → ((p : ℕ) (u : View) → get_elem? views p ≡ some u → g u ≡ 0 → f u ≡ 0) → total f views ≡ f v
all_of_one f g [] place v at e h = absurd (some-ne-none v (sym at))
all_of_one f g (x ∷ xs) zero v at e h =
    let p : f x ≡ f v = ap f (some-injective x v at) in
    let q : g x ≡ g v = ap g (some-injective x v at) in
    let r : total g xs ≡ 0 = omega arith in
    let s : total f xs ≡ 0 = none_of f g xs r (λ place u there z. h (suc place) u there z) in
    omega arith
all_of_one f g (x ∷ xs) (suc place) v at e h =
    let m = at_most g xs place v at in
    let a : g x ≡ 0 = omega arith in
    let b : total g xs ≡ g v = omega arith in
    let c : f x ≡ 0 = h 0 x refl a in
    let d : total f xs ≡ f v = all_of_one f g xs place v at b (λ p u there z. h (suc p) u there z) in
    omega arith

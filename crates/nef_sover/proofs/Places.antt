-- Elements of lists by their places.
use Rattle.nef_sover.proofs.Prelude.{ℕ, zero, suc, ◌+◌, ◌≤◌, List, [], ◌∷◌, ◌++◌, length, take, Option, Some, None, refl, sym, ap, subst, ◌∙◌, AllZip, IsAt, is-at_within, is-at_is, is-at_none, is-at_first}
use Rattle.std.specs.Option.{MatchOption}
use Rattle.std.proofs.lemmas.List.{take_more, take_all}

-- two lists place by place
pub zip-second : {X Y : Type 0} (R : X → Y → Type 0) (xs : List X) (ys : List Y) (k : ℕ) (x : X) → AllZip R xs ys → IsAt xs k x → (y : Y) × IsAt ys k y × R x y
zip-second R [] ys k x z h = absurd (is-at_none h)
zip-second R (a ∷ as') [] k x z h = absurd z
zip-second R (a ∷ as') (b ∷ bs) zero x z h = (b, refl, subst (λ c. R c b) (is-at_first h) z.0)
zip-second R (a ∷ as') (b ∷ bs) (suc k) x z h = zip-second R as' bs k x z.1 h

pub zip-first : {X Y : Type 0} (R : X → Y → Type 0) (xs : List X) (ys : List Y) (k : ℕ) (y : Y) → AllZip R xs ys → IsAt ys k y → (x : X) × IsAt xs k x × R x y
zip-first R xs [] k y z h = absurd (is-at_none h)
zip-first R [] (b ∷ bs) k y z h = absurd z
zip-first R (a ∷ as') (b ∷ bs) zero y z h = (a, refl, subst (λ c. R a c) (is-at_first h) z.0)
zip-first R (a ∷ as') (b ∷ bs) (suc k) y z h = zip-first R as' bs k y z.1 h

pub zip-append : {X Y : Type 0} (R : X → Y → Type 0) (xs : List X) (ys : List Y) (us : List X) (vs : List Y) → AllZip R xs ys → AllZip R us vs → AllZip R (xs ++ us) (ys ++ vs)
zip-append R [] [] us vs z w = w
zip-append R [] (b ∷ bs) us vs z w = absurd z
zip-append R (a ∷ as') [] us vs z w = absurd z
zip-append R (a ∷ as') (b ∷ bs) us vs z w = (z.0, zip-append R as' bs us vs z.1 w)

-- one more of the first elements
pub zip-more : {X Y : Type 0} (R : X → Y → Type 0) (xs : List X) (ys : List Y) (k : ℕ) (x : X) (y : Y) → AllZip R xs (take k ys) → IsAt ys k y → R x y → AllZip R (xs ++ x ∷ []) (take (k + 1) ys)
zip-more R xs ys k x y z h r = subst (AllZip R (xs ++ x ∷ [])) (sym (take_more ys k y (is-at_within ys k y h) ∙ ap (λ w. take k ys ++ w ∷ []) (is-at_is ys k y y h))) (zip-append R xs (take k ys) (x ∷ []) (y ∷ []) z (r, tt))

pub zip-all : {X Y : Type 0} (R : X → Y → Type 0) (xs : List X) (ys : List Y) (k : ℕ) → length ys ≤ k → AllZip R xs (take k ys) → AllZip R xs ys
zip-all R xs ys k l z = subst (AllZip R xs) (take_all k ys l) z

pub match-option : {X : Type 0} (o : Option X) (P Q : Type 0) (R S : X → Type 0) → (P → Q) → ((x : X) → R x → S x) → MatchOption o P R → MatchOption o Q S
match-option None P Q R S f g h = f h
match-option (Some x) P Q R S f g h = g x h

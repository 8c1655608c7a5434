-- What holds of each coordinate with its sign holds of turned vectors.
use Rattle.law_geometry.proofs.turns.Prelude.{◌≡◌, ℕ, zero, suc, ◌/◌, ◌%◌, ℤ, ◌+ℤ◌, ◌-ℤ◌, ◌*ℤ◌, neg_ℤ, Bool, true, false, refl, ap, sym, ◌∙◌, subst, arith, [], ◌∷◌, ints, ring, at, neg, ◌⊖◌, ◌⊗◌, Triple, ordered, has_bit, negated_if, turned, differ, is_exchange, is_odd, disordered, unturned}
use Rattle.nef_case.proofs.TurnLemmas.{same_triple, triple_with}
use lib.IntN.{neg_ℤ-neg_ℤ}
use Rattle.law_geometry.proofs.turns.Bools.{each-three}

-- ---- coordinate by coordinate
abbrev pub zipped : (ℤ → ℤ → ℤ) → Triple → Triple → Triple
zipped f v w = (f v.0 w.0, f v.1 w.1, f v.2 w.2)

-- f of opposite numbers is the opposite
abbrev pub IsOddFunction : (ℤ → ℤ → ℤ) → Type 0
IsOddFunction f = (x y : ℤ) → f (neg_ℤ x) (neg_ℤ y) ≡ neg_ℤ (f x y)

zip-sign : (f : ℤ → ℤ → ℤ) → IsOddFunction f → (b : Bool) (x y : ℤ) → f (negated_if b x) (negated_if b y) ≡ negated_if b (f x y)
zip-sign f o true x y = o x y
zip-sign f o false x y = refl

zip-ordered : (f : ℤ → ℤ → ℤ) (o : ℕ) (v w : Triple) → zipped f (ordered o v) (ordered o w) ≡ ordered o (zipped f v w)
zip-ordered f zero v w = refl
zip-ordered f (suc zero) v w = refl
zip-ordered f (suc (suc zero)) v w = refl
zip-ordered f (suc (suc (suc zero))) v w = refl
zip-ordered f (suc (suc (suc (suc zero)))) v w = refl
zip-ordered f (suc (suc (suc (suc (suc n))))) v w = refl

-- what is made of two vectors coordinate by coordinate is turned with them
pub zip-turned : (f : ℤ → ℤ → ℤ) → IsOddFunction f → (k : ℕ) (v w : Triple) → zipped f (turned k v) (turned k w) ≡ turned k (zipped f v w)
zip-turned f odd k v w =
    same_triple _ _ _ _ _ _ (zip-sign f odd (has_bit 1 (k % 8)) _ _) (zip-sign f odd (has_bit 2 (k % 8)) _ _) (zip-sign f odd (has_bit 4 (k % 8)) _ _)
    ∙ ap (λ (t : Triple). triple_with (negated_if (has_bit 1 (k % 8)) t.0) (negated_if (has_bit 2 (k % 8)) t.1) (negated_if (has_bit 4 (k % 8)) t.2)) (zip-ordered f (k / 8) v w)

-- ---- what is said of each coordinate
abbrev pub Each : (ℤ → ℤ → Type 0) → Triple → Triple → Type 0
Each Q v w = Q v.0 w.0 × Q v.1 w.1 × Q v.2 w.2

-- Q doesn't see the signs
abbrev pub SignBlind : (ℤ → ℤ → Type 0) → Type 0
SignBlind Q = (x y : ℤ) → Q x y → Q (neg_ℤ x) (neg_ℤ y)

each-sign : (Q : ℤ → ℤ → Type 0) → SignBlind Q → (b : Bool) (x y : ℤ) → Q x y → Q (negated_if b x) (negated_if b y)
each-sign Q e true x y h = e x y h
each-sign Q e false x y h = h

each-ordered : (Q : ℤ → ℤ → Type 0) (o : ℕ) (v w : Triple) → Each Q v w → Each Q (ordered o v) (ordered o w)
each-ordered Q zero v w (a, b, c) = (a, b, c)
each-ordered Q (suc zero) v w (a, b, c) = (a, c, b)
each-ordered Q (suc (suc zero)) v w (a, b, c) = (b, a, c)
each-ordered Q (suc (suc (suc zero))) v w (a, b, c) = (b, c, a)
each-ordered Q (suc (suc (suc (suc zero)))) v w (a, b, c) = (c, a, b)
each-ordered Q (suc (suc (suc (suc (suc n))))) v w (a, b, c) = (c, b, a)

pub each-turned : (Q : ℤ → ℤ → Type 0) → SignBlind Q → (k : ℕ) (v w : Triple) → Each Q v w → Each Q (turned k v) (turned k w)
each-turned Q e k v w h =
    let i = each-ordered Q (k / 8) v w h in
    (each-sign Q e (has_bit 1 (k % 8)) _ _ i.0, each-sign Q e (has_bit 2 (k % 8)) _ _ i.1, each-sign Q e (has_bit 4 (k % 8)) _ _ i.2)

each-sign-back : (Q : ℤ → ℤ → Type 0) → SignBlind Q → (b : Bool) (x y : ℤ) → Q (negated_if b x) (negated_if b y) → Q x y
each-sign-back Q e true x y h = subst (λ (i : ℤ). Q x i) (neg_ℤ-neg_ℤ y) (subst (λ (i : ℤ). Q i (neg_ℤ (neg_ℤ y))) (neg_ℤ-neg_ℤ x) (e (neg_ℤ x) (neg_ℤ y) h))
each-sign-back Q e false x y h = h

each-ordered-back : (Q : ℤ → ℤ → Type 0) (o : ℕ) (v w : Triple) → Each Q (ordered o v) (ordered o w) → Each Q v w
each-ordered-back Q zero v w (a, b, c) = (a, b, c)
each-ordered-back Q (suc zero) v w (a, b, c) = (a, c, b)
each-ordered-back Q (suc (suc zero)) v w (a, b, c) = (b, a, c)
each-ordered-back Q (suc (suc (suc zero))) v w (a, b, c) = (c, a, b)
each-ordered-back Q (suc (suc (suc (suc zero)))) v w (a, b, c) = (b, c, a)
each-ordered-back Q (suc (suc (suc (suc (suc n))))) v w (a, b, c) = (c, b, a)

pub each-back : (Q : ℤ → ℤ → Type 0) → SignBlind Q → (k : ℕ) (v w : Triple) → Each Q (turned k v) (turned k w) → Each Q v w
each-back Q e k v w (a, b, c) =
    each-ordered-back Q (k / 8) v w (each-sign-back Q e (has_bit 1 (k % 8)) _ _ a, each-sign-back Q e (has_bit 2 (k % 8)) _ _ b, each-sign-back Q e (has_bit 4 (k % 8)) _ _ c)

-- ---- products
sign-product : (b : Bool) (x y : ℤ) → negated_if b x *ℤ negated_if b y ≡ x *ℤ y
sign-product true x y = ring (x ∷ y ∷ []) (neg (at 0) ⊗ neg (at 1)) (at 0 ⊗ at 1) tt
sign-product false x y = refl

abbrev pub dots : Triple → Triple → ℤ
dots v w = v.0 *ℤ w.0 +ℤ v.1 *ℤ w.1 +ℤ v.2 *ℤ w.2

same-sum : (a b c x y z : ℤ) → a ≡ x → b ≡ y → c ≡ z → a +ℤ b +ℤ c ≡ x +ℤ y +ℤ z
same-sum a b c x y z p q r = omega (arith, ints)

dots-ordered : (o : ℕ) (v w : Triple) → dots (ordered o v) (ordered o w) ≡ dots v w
dots-ordered zero v w = refl
dots-ordered (suc zero) v w = omega (arith, ints)
dots-ordered (suc (suc zero)) v w = omega (arith, ints)
dots-ordered (suc (suc (suc zero))) v w = omega (arith, ints)
dots-ordered (suc (suc (suc (suc zero)))) v w = omega (arith, ints)
dots-ordered (suc (suc (suc (suc (suc n))))) v w = omega (arith, ints)

pub dots-turned : (k : ℕ) (v w : Triple) → dots (turned k v) (turned k w) ≡ dots v w
dots-turned k v w =
    let a = ordered (k / 8) v in
    let b = ordered (k / 8) w in
    let x = sign-product (has_bit 1 (k % 8)) a.0 b.0 in
    let y = sign-product (has_bit 2 (k % 8)) a.1 b.1 in
    let z = sign-product (has_bit 4 (k % 8)) a.2 b.2 in
    same-sum _ _ _ _ _ _ x y z ∙ dots-ordered (k / 8) v w

-- ---- cross products
area : (b c : Bool) (p q r s : ℤ) → negated_if b p *ℤ negated_if c q -ℤ negated_if c r *ℤ negated_if b s ≡ negated_if (differ b c) (p *ℤ q -ℤ r *ℤ s)
area true true p q r s = ring (p ∷ q ∷ r ∷ s ∷ []) (neg (at 0) ⊗ neg (at 1) ⊖ neg (at 2) ⊗ neg (at 3)) (at 0 ⊗ at 1 ⊖ at 2 ⊗ at 3) tt
area true false p q r s = ring (p ∷ q ∷ r ∷ s ∷ []) (neg (at 0) ⊗ at 1 ⊖ at 2 ⊗ neg (at 3)) (neg (at 0 ⊗ at 1 ⊖ at 2 ⊗ at 3)) tt
area false true p q r s = ring (p ∷ q ∷ r ∷ s ∷ []) (at 0 ⊗ neg (at 1) ⊖ neg (at 2) ⊗ at 3) (neg (at 0 ⊗ at 1 ⊖ at 2 ⊗ at 3)) tt
area false false p q r s = refl

sign-join : (b c : Bool) (t : ℤ) → negated_if b (negated_if c t) ≡ negated_if (differ b c) t
sign-join true true t = neg_ℤ-neg_ℤ t
sign-join true false t = refl
sign-join false c t = refl

-- the signs of two coordinates are the third's times that of all
first-sign : (b c d : Bool) (t : ℤ) → negated_if (differ c d) t ≡ negated_if (differ b (differ c d)) (negated_if b t)
first-sign b c d t = ap (λ s. negated_if s t) (each-three (λ x y z. differ y z) (λ x y z. differ (differ x (differ y z)) x) refl b c d) ∙ sym (sign-join (differ b (differ c d)) b t)

second-sign : (b c d : Bool) (t : ℤ) → negated_if (differ d b) t ≡ negated_if (differ b (differ c d)) (negated_if c t)
second-sign b c d t = ap (λ s. negated_if s t) (each-three (λ x y z. differ z x) (λ x y z. differ (differ x (differ y z)) y) refl b c d) ∙ sym (sign-join (differ b (differ c d)) c t)

third-sign : (b c d : Bool) (t : ℤ) → negated_if (differ b c) t ≡ negated_if (differ b (differ c d)) (negated_if d t)
third-sign b c d t = ap (λ s. negated_if s t) (each-three (λ x y z. differ x y) (λ x y z. differ (differ x (differ y z)) z) refl b c d) ∙ sym (sign-join (differ b (differ c d)) d t)

abbrev pub crosses : Triple → Triple → Triple
crosses v w = (v.1 *ℤ w.2 -ℤ v.2 *ℤ w.1, v.2 *ℤ w.0 -ℤ v.0 *ℤ w.2, v.0 *ℤ w.1 -ℤ v.1 *ℤ w.0)

abbrev pub signed_triple : Bool → Triple → Triple
signed_triple b t = (negated_if b t.0, negated_if b t.1, negated_if b t.2)

crosses-ordered : (o : ℕ) (v w : Triple) → crosses (ordered o v) (ordered o w) ≡ signed_triple (is_exchange o) (ordered o (crosses v w))
crosses-ordered zero v w = refl
crosses-ordered (suc zero) v w = same_triple _ _ _ _ _ _ (omega (arith, ints)) (omega (arith, ints)) (omega (arith, ints))
crosses-ordered (suc (suc zero)) v w = same_triple _ _ _ _ _ _ (omega (arith, ints)) (omega (arith, ints)) (omega (arith, ints))
crosses-ordered (suc (suc (suc zero))) v w = refl
crosses-ordered (suc (suc (suc (suc zero)))) v w = refl
crosses-ordered (suc (suc (suc (suc (suc n))))) v w = same_triple _ _ _ _ _ _ (omega (arith, ints)) (omega (arith, ints)) (omega (arith, ints))

abbrev flipped : Bool → Bool → Bool → Triple → Triple
flipped b c d t = (negated_if b t.0, negated_if c t.1, negated_if d t.2)

crosses-flipped : (b c d : Bool) (v w : Triple) → crosses (flipped b c d v) (flipped b c d w) ≡ signed_triple (differ b (differ c d)) (flipped b c d (crosses v w))
crosses-flipped b c d v w = same_triple _ _ _ _ _ _
    (area c d v.1 w.2 v.2 w.1 ∙ first-sign b c d (v.1 *ℤ w.2 -ℤ v.2 *ℤ w.1))
    (area d b v.2 w.0 v.0 w.2 ∙ second-sign b c d (v.2 *ℤ w.0 -ℤ v.0 *ℤ w.2))
    (area b c v.0 w.1 v.1 w.0 ∙ third-sign b c d (v.0 *ℤ w.1 -ℤ v.1 *ℤ w.0))

-- signs come out
signs-join : (a e b : Bool) (t : ℤ) → negated_if a (negated_if b (negated_if e t)) ≡ negated_if (differ a e) (negated_if b t)
signs-join a e b t = ap (negated_if a) (sign-join b e t) ∙ sign-join a (differ b e) t ∙ ap (λ s. negated_if s t) (each-three (λ x y z. differ x (differ z y)) (λ x y z. differ (differ x y) z) refl a e b) ∙ sym (sign-join (differ a e) b t)

flipped-signed : (a e b c d : Bool) (t : Triple) → signed_triple a (flipped b c d (signed_triple e t)) ≡ signed_triple (differ a e) (flipped b c d t)
flipped-signed a e b c d t = same_triple _ _ _ _ _ _ (signs-join a e b t.0) (signs-join a e c t.1) (signs-join a e d t.2)

pub crosses-turned : (k : ℕ) (v w : Triple) → crosses (turned k v) (turned k w) ≡ signed_triple (is_odd k) (turned k (crosses v w))
crosses-turned k v w =
    let b = has_bit 1 (k % 8) in
    let c = has_bit 2 (k % 8) in
    let d = has_bit 4 (k % 8) in
    crosses-flipped b c d (ordered (k / 8) v) (ordered (k / 8) w)
    ∙ ap (λ (t : Triple). signed_triple (differ b (differ c d)) (flipped b c d t)) (crosses-ordered (k / 8) v w)
    ∙ flipped-signed (differ b (differ c d)) (is_exchange (k / 8)) b c d (ordered (k / 8) (crosses v w))

-- ---- the way back
pub sign-twice : (b : Bool) (t : ℤ) → negated_if b (negated_if b t) ≡ t
sign-twice true t = omega (arith, ints)
sign-twice false t = refl

flipped-twice : (b c d : Bool) (t : Triple) → flipped b c d (flipped b c d t) ≡ t
flipped-twice b c d t = same_triple _ _ _ _ _ _ (sign-twice b t.0) (sign-twice c t.1) (sign-twice d t.2)

ordered-back : (o : ℕ) (t : Triple) → ordered o (disordered o t) ≡ t
ordered-back zero t = refl
ordered-back (suc zero) t = refl
ordered-back (suc (suc zero)) t = refl
ordered-back (suc (suc (suc zero))) t = refl
ordered-back (suc (suc (suc (suc zero)))) t = refl
ordered-back (suc (suc (suc (suc (suc n))))) t = refl

ordered-there : (o : ℕ) (t : Triple) → disordered o (ordered o t) ≡ t
ordered-there zero t = refl
ordered-there (suc zero) t = refl
ordered-there (suc (suc zero)) t = refl
ordered-there (suc (suc (suc zero))) t = refl
ordered-there (suc (suc (suc (suc zero)))) t = refl
ordered-there (suc (suc (suc (suc (suc n))))) t = refl

pub turned-back : (k : ℕ) (v : Triple) → turned k (unturned k v) ≡ v
turned-back k v =
    let b = has_bit 1 (k % 8) in
    let c = has_bit 2 (k % 8) in
    let d = has_bit 4 (k % 8) in
    ap (flipped b c d) (ordered-back (k / 8) (flipped b c d v)) ∙ flipped-twice b c d v

pub back-turned : (k : ℕ) (v : Triple) → unturned k (turned k v) ≡ v
back-turned k v =
    let b = has_bit 1 (k % 8) in
    let c = has_bit 2 (k % 8) in
    let d = has_bit 4 (k % 8) in
    ap (disordered (k / 8)) (flipped-twice b c d (ordered (k / 8) v)) ∙ ordered-there (k / 8) v

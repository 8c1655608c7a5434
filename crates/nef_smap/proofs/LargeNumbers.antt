-- The sign of an expression that is linear, or bilinear, in large numbers is that of its first coefficient that isn't zero.
use Rattle.nef_smap.proofs.Prelude.{◌≡◌, ℕ, zero, suc, ◌*◌, ◌^◌, ◌<◌, ◌≤◌, ℤ, pos, negsuc, nat_abs, neg_ℤ, ◌+ℤ◌, ◌-ℤ◌, ◌*ℤ◌, arith, refl, ap, sym, ◌∙◌, ⊎_elim, [], ◌∷◌, subst, Bool, true, false, cond, FitsSigned, to_z, of_z, int_eq, Decides-int_eq, ints, to_z-of_z, ring, at, num, ◌⊕◌, ◌⊖◌, ◌⊗◌, Sign, minus, nought, plus, sign, sign-scaled, sign_of_product, sign_turned, sign_times, sign-neg, abs_plus, abs_times, nought-or, sign_of, Minus, Zero, Plus, same-nought, same-off, sign-large, sign-level, leading_of, turn_value, AreAtMost, IsLarge, Values}
use mir.Syntax.{w128}
use Rattle.nef_geo.specs.declared.sign.Sign.{Sign as Answer}

-- ---- the program's signs
answer : Sign → Answer
answer minus = Minus
answer nought = Zero
answer plus = Plus

answer-of : (z : ℤ) → sign_of z ≡ answer (sign z)
unfolding answer
answer-of (pos zero) = refl
answer-of (pos (suc n)) = refl
answer-of (negsuc n) = refl

pub signs-same : (a b : ℤ) → sign a ≡ sign b → sign_of a ≡ sign_of b
signs-same a b e = answer-of a ∙ ap answer e ∙ sym (answer-of b)

-- ---- the first coefficient that isn't zero
leading-zero : (a b : ℤ) → a ≡ pos 0 → leading_of a b ≡ b
leading-zero a b e = ap (λ (r : ℤ). leading_of r b) e

leading-some : (a b : ℤ) → (a ≡ pos 0 → ⊥) → leading_of a b ≡ a
leading-some a b f = by (int_eq a (pos 0)) refl
  where
    by : (t : Bool) → int_eq a (pos 0) ≡ t → cond t b a ≡ a
    by true e = absurd (f ((Decides-int_eq a (pos 0)).0 e))
    by false e = refl

pub sign-linear : (k : ℕ) (a b : ℤ) → nat_abs b < k → sign (pos k *ℤ a +ℤ pos 1 *ℤ b) ≡ sign (leading_of a b)
sign-linear k a b h = ⊎_elim
    (λ z. sign-level k a b z ∙ ap sign (sym (leading-zero a b z)))
    (λ f. sign-large k a b h f ∙ ap sign (sym (leading-some a b f)))
    (nought-or a)

leading-signs : (a b c d : ℤ) → sign a ≡ sign c → sign b ≡ sign d → sign (leading_of a b) ≡ sign (leading_of c d)
leading-signs a b c d e f = ⊎_elim
    (λ z. ap sign (leading-zero a b z) ∙ f ∙ ap sign (sym (leading-zero c d (same-nought a c (sym e) z))))
    (λ g. ap sign (leading-some a b g) ∙ e ∙ ap sign (sym (leading-some c d (same-off a c (sym e) g))))
    (nought-or a)

-- k (j a + b) + (j c + d)
pub sign-bilinear : (j k : ℕ) (a b c d : ℤ) → IsLarge j k → nat_abs b < 2 ^ 128 → nat_abs c < 2 ^ 128 → nat_abs d < 2 ^ 128
    → sign (pos k *ℤ (pos j *ℤ a +ℤ pos 1 *ℤ b) +ℤ pos 1 *ℤ (pos j *ℤ c +ℤ pos 1 *ℤ d)) ≡ sign (leading_of (leading_of a b) (leading_of c d))
sign-bilinear j k a b c d large hb hc hd =
    let first = large.first in
    let second = large.second in
    let one = ring (d ∷ []) (num (pos 1) ⊗ at 0) (at 0) tt in
    let e = abs_times (pos j) c j (2 ^ 128) (omega (arith, ints)) (omega arith) in
    let f = abs_plus (pos j *ℤ c) (pos 1 *ℤ d) (j * 2 ^ 128) (nat_abs d) e (let g = ap nat_abs one in omega arith) in
    sign-linear k (pos j *ℤ a +ℤ pos 1 *ℤ b) (pos j *ℤ c +ℤ pos 1 *ℤ d) (omega arith)
    ∙ leading-signs (pos j *ℤ a +ℤ pos 1 *ℤ b) (pos j *ℤ c +ℤ pos 1 *ℤ d) (leading_of a b) (leading_of c d) (sign-linear j a b (omega arith)) (sign-linear j c d (omega arith))

-- ---- at the meet
module _ (n g : Values) (j k : ℕ) (large : IsLarge j k) where
  -- the four coefficients
  abbrev pub both_large : ℤ
  both_large = n.start.factor *ℤ g.end.factor -ℤ n.end.factor *ℤ g.start.factor

  abbrev pub end_large : ℤ
  end_large = n.start.rest *ℤ g.end.factor -ℤ n.end.factor *ℤ g.start.rest

  abbrev pub start_large : ℤ
  start_large = n.start.factor *ℤ g.end.rest -ℤ n.end.rest *ℤ g.start.factor

  abbrev pub none_large : ℤ
  none_large = n.start.rest *ℤ g.end.rest -ℤ n.end.rest *ℤ g.start.rest

  pub turn-sign : nat_abs end_large < 2 ^ 128 → nat_abs start_large < 2 ^ 128 → nat_abs none_large < 2 ^ 128
      → sign (turn_value n g j k) ≡ sign (leading_of (leading_of both_large end_large) (leading_of start_large none_large))
  turn-sign hb hc hd = ap sign eq ∙ sign-bilinear j k both_large end_large start_large none_large large hb hc hd
    where
      eq : turn_value n g j k ≡ pos k *ℤ (pos j *ℤ both_large +ℤ pos 1 *ℤ end_large) +ℤ pos 1 *ℤ (pos j *ℤ start_large +ℤ pos 1 *ℤ none_large)
      eq =
          let a = at 2 ⊗ at 0 ⊕ num (pos 1) ⊗ at 3 in ring (pos j ∷ pos k ∷ n.start.factor ∷ n.start.rest ∷ n.end.factor ∷ n.end.rest ∷ g.start.factor ∷ g.start.rest ∷ g.end.factor ∷ g.end.rest ∷ [])
          ((at 0 ⊗ at 2 ⊕ num (pos 1) ⊗ at 3) ⊗ (at 1 ⊗ at 8 ⊕ num (pos 1) ⊗ at 9) ⊖ (at 1 ⊗ at 4 ⊕ num (pos 1) ⊗ at 5) ⊗ (at 0 ⊗ at 6 ⊕ num (pos 1) ⊗ at 7))
          (at 1 ⊗ (at 0 ⊗ (at 2 ⊗ at 8 ⊖ at 4 ⊗ at 6) ⊕ num (pos 1) ⊗ (at 3 ⊗ at 8 ⊖ at 4 ⊗ at 7)) ⊕ num (pos 1) ⊗ (at 0 ⊗ (at 2 ⊗ at 9 ⊖ at 5 ⊗ at 6) ⊕ num (pos 1) ⊗ (at 3 ⊗ at 9 ⊖ at 5 ⊗ at 7))) tt

-- ---- as the machine computes it
pub fits-small : (x : ℤ) → FitsSigned w128 x → nat_abs x < 2 ^ 128
fits-small (pos n) h = let q = h.sfits in omega arith
fits-small (negsuc n) h = let q = h.sfits in omega arith

abbrev passed : ℤ → ℤ
passed z = to_z w128 (of_z w128 z)

kept : (z : ℤ) → FitsSigned w128 z → passed z ≡ z
kept z h = to_z-of_z w128 z h

leading-kept : (r a b : ℤ) → FitsSigned w128 a → FitsSigned w128 b → r ≡ leading_of (passed a) (passed b) → r ≡ leading_of a b
leading-kept r a b h i e = e ∙ ap (λ (x : ℤ). leading_of x (passed b)) (kept a h) ∙ ap (leading_of a) (kept b i)

minor-kept : (r a b c d : ℤ) → FitsSigned w128 a → FitsSigned w128 b → FitsSigned w128 c → FitsSigned w128 d → r ≡ passed a *ℤ passed b -ℤ passed c *ℤ passed d → r ≡ a *ℤ b -ℤ c *ℤ d
minor-kept r a b c d h i j k e = e ∙ rw (kept a h, kept b i, kept c j, kept d k) refl

pub linear-read : (s : Answer) (r a b : ℤ) → FitsSigned w128 r → FitsSigned w128 a → FitsSigned w128 b → s ≡ sign_of (passed r) → r ≡ leading_of (passed a) (passed b) → (k : ℕ) → 2 ^ 128 ≤ k → s ≡ sign_of (pos k *ℤ a +ℤ pos 1 *ℤ b)
linear-read s r a b f g h e l k large = e ∙ ap sign_of (kept r f ∙ leading-kept r a b g h l) ∙ sym (signs-same _ _ (sign-linear k a b (let q = fits-small b h in omega arith)))

pub record Fitting (v : Values) : Type 0 where
  pub start_factor : FitsSigned w128 v.start.factor
  pub start_rest : FitsSigned w128 v.start.rest
  pub end_factor : FitsSigned w128 v.end.factor
  pub end_rest : FitsSigned w128 v.end.rest

small-fits : (m : ℕ) (x : ℤ) → m ≤ 2 ^ 74 → nat_abs x ≤ m → FitsSigned w128 x
small-fits m (pos n) few h = record { sfits = omega arith }
small-fits m (negsuc n) few h = record { sfits = omega arith }

pub fitting : (m : ℕ) (v : Values) → m ≤ 2 ^ 74 → AreAtMost m v → Fitting v
fitting m v few a = record {
  start_factor = small-fits m v.start.factor few a.start_factor;
  start_rest = small-fits m v.start.rest few a.start_rest;
  end_factor = small-fits m v.end.factor few a.end_factor;
  end_rest = small-fits m v.end.rest few a.end_rest;
}

pub turn-read : (n g : Values) → Fitting n → Fitting g → (s : Answer) (l both one m1 m2 m3 m4 : ℤ) → FitsSigned w128 l → FitsSigned w128 both → FitsSigned w128 one
    → FitsSigned w128 m1 → FitsSigned w128 m2 → FitsSigned w128 m3 → FitsSigned w128 m4
    → s ≡ sign_of (passed l) → l ≡ leading_of (passed both) (passed one) → both ≡ leading_of (passed m1) (passed m2) → one ≡ leading_of (passed m3) (passed m4)
    → m1 ≡ passed n.start.factor *ℤ passed g.end.factor -ℤ passed n.end.factor *ℤ passed g.start.factor
    → m2 ≡ passed n.start.rest *ℤ passed g.end.factor -ℤ passed n.end.factor *ℤ passed g.start.rest
    → m3 ≡ passed n.start.factor *ℤ passed g.end.rest -ℤ passed n.end.rest *ℤ passed g.start.factor
    → m4 ≡ passed n.start.rest *ℤ passed g.end.rest -ℤ passed n.end.rest *ℤ passed g.start.rest
    → (j k : ℕ) → IsLarge j k → s ≡ sign_of (turn_value n g j k)
turn-read n g N G s l both one m1 m2 m3 m4 fl fb fo f1 f2 f3 f4 es el eb eo e1 e2 e3 e4 j k large =
    let d1 = minor-kept m1 n.start.factor g.end.factor n.end.factor g.start.factor N.start_factor G.end_factor N.end_factor G.start_factor e1 in
    let d2 = minor-kept m2 n.start.rest g.end.factor n.end.factor g.start.rest N.start_rest G.end_factor N.end_factor G.start_rest e2 in
    let d3 = minor-kept m3 n.start.factor g.end.rest n.end.rest g.start.factor N.start_factor G.end_rest N.end_rest G.start_factor e3 in
    let d4 = minor-kept m4 n.start.rest g.end.rest n.end.rest g.start.rest N.start_rest G.end_rest N.end_rest G.start_rest e4 in
    let small = λ (x y : ℤ) (e : x ≡ y) (f : FitsSigned w128 x). subst (λ (r : ℤ). nat_abs r < 2 ^ 128) e (fits-small x f) in
    let t = turn-sign n g j k large (small m2 _ d2 f2) (small m3 _ d3 f3) (small m4 _ d4 f4) in
    let c = kept l fl ∙ leading-kept l both one fb fo el
    ∙ ap (λ (x : ℤ). leading_of x one) (leading-kept both m1 m2 f1 f2 eb ∙ ap (λ (x : ℤ). leading_of x m2) d1 ∙ ap (leading_of (both_large n g j k large)) d2)
    ∙ ap (leading_of (leading_of (both_large n g j k large) (end_large n g j k large))) (leading-kept one m3 m4 f3 f4 eo ∙ ap (λ (x : ℤ). leading_of x m4) d3 ∙ ap (leading_of (start_large n g j k large)) d4) in
    es ∙ ap sign_of c ∙ sym (signs-same _ _ t)

-- a product with a number of known sign
turned : (s : Sign) → sign_times minus s ≡ sign_turned s
turned minus = refl
turned nought = refl
turned plus = refl

pub times-minus : (a b : ℤ) (s r : Answer) → Minus ≡ sign_of a → s ≡ sign_of b → ((n : ℤ) → s ≡ sign_of n → r ≡ sign_of (neg_ℤ n)) → r ≡ sign_of (a *ℤ b)
times-minus a b s r h e f = f b e ∙ sym (signs-same (a *ℤ b) (neg_ℤ b) (by a h))
  where
    by : (a : ℤ) → Minus ≡ sign_of a → sign (a *ℤ b) ≡ sign (neg_ℤ b)
    by (pos zero) h = cc
    by (pos (suc n)) h = cc
    by (negsuc n) h = sign_of_product (negsuc n) b ∙ turned (sign b) ∙ sym (sign-neg b)

pub times-zero : (a b : ℤ) → Zero ≡ sign_of a → Zero ≡ sign_of (a *ℤ b)
times-zero (pos zero) b h = ap sign_of (ring (b ∷ []) (num (pos 0)) (num (pos 0) ⊗ at 0) tt)
times-zero (pos (suc n)) b h = cc
times-zero (negsuc n) b h = cc

pub times-plus : (a b : ℤ) (s : Answer) → Plus ≡ sign_of a → s ≡ sign_of b → s ≡ sign_of (a *ℤ b)
times-plus (pos zero) b s h e = cc
times-plus (pos (suc n)) b s h e = e ∙ sym (signs-same (pos (suc n) *ℤ b) b (sign-scaled (pos (suc n)) b (omega (arith, ints))))
times-plus (negsuc n) b s h e = cc

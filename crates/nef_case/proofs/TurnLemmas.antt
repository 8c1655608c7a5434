-- A turn is known by what it makes of the numbers 1, 2 and 3, so that finitely many tests say all of turns.
use Rattle.nef_case.proofs.Prelude.{◌≡◌, ℕ, zero, suc, ◌+◌, ◌-◌, ◌*◌, ◌/◌, ◌%◌, ◌^◌, ◌<◌, ◌≤◌, ℤ, pos, negsuc, neg_ℤ, List, length, Bool, true, false, cond, refl, sym, ◌∙◌, ap, subst, inl, inr, arith, nat_abs, unsigned_abs, ◌==◌, nat_lt, is_negative, int_eq, All, to_z-of_z, key_number, Triple, ordered, has_bit, negated_if, negated, turned, IsEntry, coordinate, named_by, made_by, IsRowOfTurn, Undoes, IsComposition, row_triple, numbered, IsTurnRow}
use Rattle.std.proofs.lemmas.Bool.{cases_order}
use lib.Dec.{T, eqb→eq, ltb→lt}
use lib.IntN.{neg_ℤ-neg_ℤ}
use mir.Val.{bool_byte, to_z, of_z, SFits}
use mir.Syntax.{w8, w64}
use Rattle.nef_case.proofs.Tables.{int_tests}
use Rattle.nef_space.proofs.Machine.{both_left, both_right}

-- ---- turning the entries of a row turns what the row makes
-- what the row with these three entries makes of a triple
abbrev pub made : Triple → Triple → Triple
made (a, b, c) v = (named_by a v, named_by b v, named_by c v)

abbrev pub triple_with : ℤ → ℤ → ℤ → Triple
triple_with x y z = (x, y, z)

pub same_triple : (a b c x y z : ℤ) → a ≡ x → b ≡ y → c ≡ z → triple_with a b c ≡ triple_with x y z
same_triple a b c x y z p q r = ap (λ (i : ℤ). triple_with i b c) p ∙ ap (λ (i : ℤ). triple_with x i c) q ∙ ap (triple_with x y) r

named_by-neg_ℤ : (e : ℤ) (v : Triple) → named_by (neg_ℤ e) v ≡ neg_ℤ (named_by e v)
named_by-neg_ℤ (pos zero) v = refl
named_by-neg_ℤ (pos (suc n)) v = refl
named_by-neg_ℤ (negsuc n) v = sym (neg_ℤ-neg_ℤ (coordinate (suc n) v))

named_by-negated_if : (b : Bool) (e : ℤ) (v : Triple) → named_by (negated_if b e) v ≡ negated_if b (named_by e v)
named_by-negated_if true e v = named_by-neg_ℤ e v
named_by-negated_if false e v = refl

made-negated : (s : ℕ) (w v : Triple) → made (negated s w) v ≡ negated s (made w v)
made-negated s w v =
    same_triple _ _ _ _ _ _ (named_by-negated_if (has_bit 1 s) w.0 v) (named_by-negated_if (has_bit 2 s) w.1 v) (named_by-negated_if (has_bit 4 s) w.2 v)

made-ordered : (p : ℕ) (w v : Triple) → made (ordered p w) v ≡ ordered p (made w v)
made-ordered zero w v = refl
made-ordered (suc zero) w v = refl
made-ordered (suc (suc zero)) w v = refl
made-ordered (suc (suc (suc zero))) w v = refl
made-ordered (suc (suc (suc (suc zero)))) w v = refl
made-ordered (suc (suc (suc (suc (suc n))))) w v = refl

pub made-turned : (k : ℕ) (w v : Triple) → made (turned k w) v ≡ turned k (made w v)
made-turned k w v = made-negated (k % 8) (ordered (k / 8) w) v ∙ ap (negated (k % 8)) (made-ordered (k / 8) w v)

-- ---- what holds of the numbers 1, 2 and 3 holds of every triple
pub composed-by_numbers : (i j k : ℕ) → turned i numbered ≡ turned j (turned k numbered) → IsComposition i j k
composed-by_numbers i j k e v =
    sym (made-turned i numbered v) ∙ ap (λ (w : Triple). made w v) e ∙ made-turned j (turned k numbered) v ∙ ap (turned j) (made-turned k numbered v)

pub undoes-by_numbers : (j k : ℕ) → turned j (turned k numbered) ≡ numbered → Undoes j k
undoes-by_numbers j k e v =
    sym (ap (turned j) (made-turned k numbered v)) ∙ sym (made-turned j (turned k numbered) v) ∙ ap (λ (w : Triple). made w v) e

-- ---- entries name their own numbers
named_by-numbered : (e : ℤ) → IsEntry e → named_by e numbered ≡ e
named_by-numbered (pos zero) h = absurd (omega (arith, h.low))
named_by-numbered (pos (suc zero)) h = refl
named_by-numbered (pos (suc (suc zero))) h = refl
named_by-numbered (pos (suc (suc (suc zero)))) h = refl
named_by-numbered (pos (suc (suc (suc (suc n))))) h = absurd (omega (arith, h.high))
named_by-numbered (negsuc zero) h = refl
named_by-numbered (negsuc (suc zero)) h = refl
named_by-numbered (negsuc (suc (suc zero))) h = refl
named_by-numbered (negsuc (suc (suc (suc n)))) h = absurd (omega (arith, h.high))

pub row_triple-row : (k : ℕ) (row : List ℤ) → length row ≡ 3 → All IsEntry row → IsRowOfTurn k row → row_triple row ≡ turned k numbered
row_triple-row k row l entries is_row =
    sym (same_triple _ _ _ _ _ _
    (named_by-numbered (key_number row 0) (entries 0 (pos 0) (omega arith)))
    (named_by-numbered (key_number row 1) (entries 1 (pos 0) (omega arith)))
    (named_by-numbered (key_number row 2) (entries 2 (pos 0) (omega arith))))
    ∙ is_row numbered

-- ---- every number below n passes a test
abbrev pub each_below : ℕ → (ℕ → Bool) → Bool
each_below zero p = true
each_below (suc n) p = cond (p n) (each_below n p) false

pub below-passes : (n : ℕ) (p : ℕ → Bool) → T (each_below n p) → (k : ℕ) → k < n → T (p k)
below-passes zero p t k h = absurd (omega (arith, h))
below-passes (suc n) p t k h =
    elim (cases_order k n) [
      | inl e ↦ subst (λ (m : ℕ). T (p m)) (sym e) (both_left (p n) _ t)
      | inr o ↦ below-passes n p (both_right (p n) _ t) k (elim o [ inl less ↦ less | inr more ↦ absurd (omega (arith, h, more)) ])
    ]

-- ---- different turns

-- the number of a turn by the size of its first entry, whether the second is larger than the third, and which are negative
abbrev pub number_from : ℕ → ℕ → ℕ → ℕ → ℕ → ℕ
number_from first falls x y z = 8 * (2 * (first - 1) + falls) + (x + 2 * y + 4 * z)

pub same_number : (a b c d e a' b' c' d' e' : ℕ) → a ≡ a' → b ≡ b' → c ≡ c' → d ≡ d' → e ≡ e' → number_from a b c d e ≡ number_from a' b' c' d' e'
same_number a b c d e a' b' c' d' e' p q r s t = cc

-- the number of the turn whose row has these entries
abbrev pub number_by : Triple → ℕ
number_by (a, b, c) =
    number_from (unsigned_abs a) (bool_byte (nat_lt (unsigned_abs c) (unsigned_abs b))) (bool_byte (is_negative a)) (bool_byte (is_negative b)) (bool_byte (is_negative c))

pub number_by-turned : (k : ℕ) → k < 48 → number_by (turned k numbered) ≡ k
number_by-turned k h = eqb→eq _ _ (below-passes 48 (λ k. number_by (turned k numbered) == k) tt k h)

pub numbers-differ : (j k : ℕ) → j < 48 → k < 48 → turned j numbered ≡ turned k numbered → j ≡ k
numbers-differ j k hj hk e = sym (number_by-turned j hj) ∙ ap number_by e ∙ number_by-turned k hk

-- ---- turns make up a whole
abbrev pub same_parts : Triple → Triple → Bool
same_parts (a, b, c) (x, y, z) = cond (int_eq a x) (cond (int_eq b y) (int_eq c z) false) false

pub parts-same : (v w : Triple) → T (same_parts v w) → v ≡ w
parts-same v w t =
    let rest = both_right (int_eq v.0 w.0) _ t in
    same_triple _ _ _ _ _ _ (int_tests.is_sound v.0 w.0 (both_left _ _ t)) (int_tests.is_sound v.1 w.1 (both_left _ _ rest)) (int_tests.is_sound v.2 w.2 (both_right (int_eq v.1 w.1) _ rest))

abbrev composes : ℕ → ℕ → Bool
composes j k =
    let w = turned j (turned k numbered) in
    let i = number_by w in
    cond (nat_lt i 48) (same_parts (turned i numbered) w) false

pub composition-turns : (j k : ℕ) → j < 48 → k < 48 → IsTurnRow (turned j (turned k numbered))
composition-turns j k hj hk =
    let t = below-passes 48 (composes j) (below-passes 48 (λ j. each_below 48 (composes j)) tt j hj) k hk in
    let i = number_by (turned j (turned k numbered)) in
    (i, ltb→lt i 48 (both_left _ _ t), parts-same (turned i numbered) (turned j (turned k numbered)) (both_right (nat_lt i 48) _ t))

-- a turn that is undone by another is undone by no third, from either side
pub inverse-one : (i j k : ℕ) → i < 48 → j < 48 → Undoes i k → Undoes k i → Undoes j k → j ≡ i
inverse-one i j k hi hj undoes undone other =
    numbers-differ j i hj hi (sym (ap (turned j) (undone numbered)) ∙ other (turned i numbered))

-- the composition of two turns, by its row
pub composed-only : (j k r : ℕ) → r < 48 → turned r numbered ≡ turned j (turned k numbered) → (i : ℕ) → i < 48 → IsComposition i j k → i ≡ r
composed-only j k r hr e i hi other = numbers-differ i r hi hr (other numbered ∙ sym e)

pub composed-undone : (j k r : ℕ) → r < 48 → turned r numbered ≡ turned j (turned k numbered) → Undoes j k → r ≡ 0
composed-undone j k r hr e undoes = numbers-differ r 0 hr (omega arith) (e ∙ undoes numbered)

-- ---- entries as machine numbers
-- an entry of eight bits as a number of 64
abbrev pub wide : ℤ → ℤ
wide e = to_z w64 (of_z w64 (to_z w8 (of_z w8 e)))

-- a number of 64 bits that is handed on
abbrev pub word : ℤ → ℤ
word x = to_z w64 (of_z w64 x)

narrow-fits : (e : ℤ) → IsEntry e → SFits w8 e
narrow-fits (pos n) h = let l = h.high in record { sfits = omega (arith, l) }
narrow-fits (negsuc n) h = let l = h.high in record { sfits = omega (arith, l) }

entry-fits : (e : ℤ) → IsEntry e → SFits w64 e
entry-fits (pos n) h = let l = h.high in record { sfits = omega (arith, l) }
entry-fits (negsuc n) h = let l = h.high in record { sfits = omega (arith, l) }

pub word-is : (e : ℤ) → IsEntry e → word e ≡ e
word-is e h = to_z-of_z w64 e (entry-fits e h)

pub wide-is : (e : ℤ) → IsEntry e → wide e ≡ e
wide-is e h = ap word (to_z-of_z w8 e (narrow-fits e h)) ∙ word-is e h

pub wide-small : (e : ℤ) → IsEntry e → nat_abs (wide e) < 2 ^ 63
wide-small e h = subst (λ (i : ℤ). nat_abs i < 2 ^ 63) (sym (wide-is e h)) (let l = h.high in omega (arith, l))

pub composed-row : (j k : ℕ) (later earlier : List ℤ) (w : Triple) → length earlier ≡ 3 → All IsEntry earlier → IsRowOfTurn k earlier → IsRowOfTurn j later
    → w ≡ made_by later (wide (key_number earlier 0), wide (key_number earlier 1), wide (key_number earlier 2)) → w ≡ turned j (turned k numbered)
composed-row j k later earlier w l entries is_earlier is_later e =
    e ∙ ap (made_by later) (same_triple _ _ _ _ _ _ (wide-is _ (entry 0 (omega (arith, l)))) (wide-is _ (entry 1 (omega (arith, l)))) (wide-is _ (entry 2 (omega (arith, l)))))
    ∙ is_later (row_triple earlier) ∙ ap (turned j) (row_triple-row k earlier l entries is_earlier)
  where
    entry : (i : ℕ) → i < length earlier → IsEntry (key_number earlier i)
    entry i h = entries i (pos 0) h

pub size_read : (u : ℕ) (x : ℤ) → SFits w64 x → u ≡ unsigned_abs (word x) → u ≡ unsigned_abs x
size_read u x fits e = e ∙ ap unsigned_abs (to_z-of_z w64 x fits)

pub sign_read : (f : ℕ) (x : ℤ) → SFits w64 x → f ≡ bool_byte (is_negative (word x)) → f ≡ bool_byte (is_negative x)
sign_read f x fits e = e ∙ ap (λ (i : ℤ). bool_byte (is_negative i)) (to_z-of_z w64 x fits)

pub falls_read : (f u v : ℕ) (y z : ℤ) → u ≡ unsigned_abs y → v ≡ unsigned_abs z → f ≡ bool_byte (nat_lt v u) → f ≡ bool_byte (nat_lt (unsigned_abs z) (unsigned_abs y))
falls_read f u v y z p q e = e ∙ ap (λ (i : ℕ). bool_byte (nat_lt i u)) q ∙ ap (λ (i : ℕ). bool_byte (nat_lt (unsigned_abs z) i)) p

pub at_most-one : (f : ℕ) (b : Bool) → f ≡ bool_byte b → f ≤ 1
at_most-one f true e = omega (arith, e)
at_most-one f false e = omega (arith, e)

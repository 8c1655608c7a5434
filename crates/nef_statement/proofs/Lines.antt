-- The rows of bytes that are made of rows.
use Rattle.nef_statement.proofs.Prelude.{◌≡◌, ℕ, zero, suc, ◌+◌, ◌-◌, ◌*◌, ◌^◌, ◌<◌, ◌≤◌, ◌/◌, ◌%◌, ◌==◌, nat_abs, ℤ, pos, negsuc, neg_ℤ, Bool, true, false, cond, List, [], ◌∷◌, ◌++◌, length, map, Some, None, refl, sym, ap, ◌∙◌, subst, arith, inl, append-nil, append_assoc, length-append, nat_le, nat_lt, unwrap_or, ◌&&◌, ne_eqb, le-leb, All, list_all, flat_map, join_with_byte, digits_onto, digit_glyph, decimal, signed_decimal, All-cons, All-nil, is_line_feed, pieces_of, without_return, words_of, is_gap, LacksFeed, each_ended, is_word_byte, IsWord, IsGap, IsRest, IsParted, is_digits, decimal_value, number_of, number_or_zero, Word, line, line_rows}
use Rattle.std.specs.Prelude.{nat_eq, ◌||◌, not}
use Rattle.std.specs.Char.{is_ascii_digit}
use Rattle.std.specs.Fmt.{digits}
use Rattle.std.proofs.lemmas.Fmt.{decimal_by_steps}
use Rattle.nef_lex.specs.Laws.{BeginsApart, spaced}
use Rattle.nef_lex.proofs.Signs.{number_of_parts}
use Rattle.nef_lex.proofs.Decimal.{decimal_value-push}
use Rattle.nef_lex.proofs.LineLaws.{pieces_of_ended}
use Rattle.nef_lex.proofs.WordLaws.{words_of_spaced}
use Rattle.nef_statement.proofs.text.Words.{spelled}
use Rattle.nef_statement.proofs.text.Lines.{Each, Each-append}

abbrev pub Row : Type 0
Row = List Word

-- a word of a text: it isn't empty, and has neither a blank nor a line's end nor a comment mark
abbrev pub IsByte : ℕ → Type 0
IsByte b = 35 < b

abbrev pub IsGood : Word → Type 0
IsGood w = (0 < length w) × Each IsByte w

abbrev pub AreGood : Row → Type 0
AreGood = Each IsGood

-- ---- bytes
word-byte : (b : ℕ) → 35 < b → is_word_byte b ≡ true
word-byte b h =
    ap (λ t. cond (t || (b == 9)) false (not (b == 35))) (ne_eqb b 32 (λ e. omega (arith, e, h)))
    ∙ ap (λ t. cond t false (not (b == 35))) (ne_eqb b 9 (λ e. omega (arith, e, h)))
    ∙ ap not (ne_eqb b 35 (λ e. omega (arith, e, h)))

no-feed : (b : ℕ) → 31 < b → is_line_feed b ≡ false
no-feed b h = ne_eqb b 10 (λ e. omega (arith, e, h))

abbrev Printed : List ℕ → Type 0
Printed = Each (λ b. 31 < b)

word-printed : (w : Word) → Each IsByte w → Printed w
word-printed [] h = tt
word-printed (b ∷ w) (h, k) = (omega (arith, h), word-printed w k)

join-printed : (ws : Row) → AreGood ws → Printed (join_with_byte 32 ws)
join-printed [] h = tt
join-printed (w ∷ []) (h, k) = word-printed w h.1
join-printed (w ∷ u ∷ ws) (h, k) = Each-append (λ b. 31 < b) w (32 ∷ join_with_byte 32 (u ∷ ws)) (word-printed w h.1) (omega arith, join-printed (u ∷ ws) k)

lacks-feed : (x : List ℕ) → Printed x → LacksFeed x
lacks-feed [] h = All-nil (λ b. is_line_feed b ≡ false)
lacks-feed (b ∷ x) (h, k) = All-cons (λ b. is_line_feed b ≡ false) b x (no-feed b h) (lacks-feed x k)

no-return : (x : List ℕ) → Printed x → without_return x ≡ x
no-return [] h = refl
no-return (b ∷ []) (h, k) = ap (λ t. cond t [] (b ∷ [])) (ne_eqb b 13 (λ e. omega (arith, e, h)))
no-return (b ∷ c ∷ x) (h, k) = ap (λ l. b ∷ l) (no-return (c ∷ x) k)

-- ---- words
abbrev after : Row → List (List ℕ × List ℕ)
after ws = map (λ w. (32 ∷ [], w)) ws

after-join : (w : Word) (ws : Row) → join_with_byte 32 (w ∷ ws) ≡ w ++ spaced (after ws) []
after-join w [] = sym (append-nil w)
after-join w (u ∷ ws) = ap (λ r. w ++ (32 ∷ r)) (after-join u ws)

after-words : (ws : Row) → map (λ (p : List ℕ × List ℕ). p.1) (after ws) ≡ ws
after-words [] = refl
after-words (w ∷ ws) = ap (λ l. w ∷ l) (after-words ws)

no-gap : IsGap []
no-gap = All-nil (λ b. is_gap b ≡ true)

one-gap : IsGap (32 ∷ [])
one-gap = All-cons (λ b. is_gap b ≡ true) 32 [] refl no-gap

word-bytes : (w : Word) → Each IsByte w → All (λ b. is_word_byte b ≡ true) w
word-bytes [] h = All-nil (λ b. is_word_byte b ≡ true)
word-bytes (b ∷ w) (h, k) = All-cons (λ b. is_word_byte b ≡ true) b w (word-byte b h) (word-bytes w k)

is-word : (w : Word) → IsGood w → IsWord w
is-word w (h, k) = (h, word-bytes w k)

after-apart : (ws : Row) → BeginsApart (after ws)
after-apart [] = tt
after-apart (w ∷ ws) = omega arith

after-parted : (ws : Row) → AreGood ws → IsParted (after ws)
after-parted [] h = tt
after-parted (w ∷ ws) (h, k) = (one-gap, is-word w h, after-apart ws, after-parted ws k)

no-rest : IsRest []
no-rest = ([], no-gap, inl refl)

words-joined : (ws : Row) → AreGood ws → words_of (join_with_byte 32 ws) ≡ ws
words-joined [] h = words_of_spaced [] [] tt no-rest
words-joined (w ∷ ws) (h, k) =
    ap words_of (after-join w ws)
    ∙ words_of_spaced (([], w) ∷ after ws) [] (no-gap, is-word w h, after-apart ws, after-parted ws k) no-rest
    ∙ ap (λ l. w ∷ l) (after-words ws)

-- ---- rows
ended-rows : (rows : List Row) → flat_map line rows ≡ each_ended (map (join_with_byte 32) rows) []
ended-rows [] = refl
ended-rows (ws ∷ rows) = append_assoc (join_with_byte 32 ws) (10 ∷ []) (flat_map line rows) ∙ ap (λ r. join_with_byte 32 ws ++ (10 ∷ r)) (ended-rows rows)

all-lack : (rows : List Row) → Each AreGood rows → All LacksFeed (map (join_with_byte 32) rows)
all-lack [] h = All-nil LacksFeed
all-lack (ws ∷ rows) (h, k) = All-cons LacksFeed (join_with_byte 32 ws) (map (join_with_byte 32) rows) (lacks-feed (join_with_byte 32 ws) (join-printed ws h)) (all-lack rows k)

each-row : (rows : List Row) → Each AreGood rows → map words_of (map without_return (map (join_with_byte 32) rows)) ≡ rows
each-row [] h = refl
each-row (ws ∷ rows) (h, k) =
    ap (λ w. w ∷ map words_of (map without_return (map (join_with_byte 32) rows))) (ap words_of (no-return (join_with_byte 32 ws) (join-printed ws h)) ∙ words-joined ws h)
    ∙ ap (λ l. ws ∷ l) (each-row rows k)

-- the rows of lines that are made of rows
pub rows-read : (rows : List Row) → Each AreGood rows → line_rows (flat_map line rows) ≡ rows
rows-read rows h =
    ap (λ x. map words_of (map without_return (pieces_of x))) (ended-rows rows)
    ∙ ap (λ ps. map words_of (map without_return ps)) (pieces_of_ended (map (join_with_byte 32) rows) [] (all-lack rows h) (All-nil (λ b. is_line_feed b ≡ false)) ∙ append-nil (map (join_with_byte 32) rows))
    ∙ each-row rows h

-- ---- numbers
abbrev IsDigit : ℕ → Type 0
IsDigit b = (48 ≤ b) × (b ≤ 57)

-- the digits spell the number
record Spell (n : ℕ) (ds : List ℕ) : Type 0 where
  some : 0 < length ds
  digits : Each IsDigit ds
  value : decimal_value ds ≡ n

spell-one : (n : ℕ) → n < 10 → Spell n ((48 + n) ∷ [])
spell-one n small = record { some = omega arith; digits = ((omega arith, omega (arith, small)), tt); value = decimal_value-push [] (48 + n) ∙ omega arith }

spell-more : (n : ℕ) (ds : List ℕ) → 10 ≤ n → Spell (n / 10) ds → Spell n (ds ++ ((48 + n % 10) ∷ []))
spell-more n ds large h =
    let least : n % 10 < 10 = omega arith in
    let whole : n / 10 * 10 + n % 10 ≡ n = omega arith in
    record {
      some = (let e = length-append ds ((48 + n % 10) ∷ []) in omega (arith, e));
      digits = Each-append IsDigit ds ((48 + n % 10) ∷ []) h.digits ((omega arith, omega (arith, least)), tt);
      value = decimal_value-push ds (48 + n % 10) ∙ ap (λ m. m * 10 + (48 + n % 10 - 48)) h.value ∙ omega (arith, whole);
    }

decimal-spells : (n : ℕ) → n < 2 ^ 64 → Spell n (decimal n)
decimal-spells n small = decimal_by_steps Spell spell-one spell-more n small

is-digit : (b : ℕ) → IsDigit b → is_ascii_digit b ≡ true
is-digit b (h, k) = ap (λ t. t && nat_le b 57) (le-leb 48 b h) ∙ le-leb b 57 k

all-digits : (ds : List ℕ) → Each IsDigit ds → list_all is_ascii_digit ds ≡ true
all-digits [] h = refl
all-digits (b ∷ ds) (h, k) = ap (λ t. t && list_all is_ascii_digit ds) (is-digit b h) ∙ all-digits ds k

digits-are : (ds : List ℕ) → 0 < length ds → Each IsDigit ds → is_digits ds ≡ true
digits-are [] some h = absurd (omega arith)
digits-are (b ∷ ds) some h = all-digits (b ∷ ds) h

-- without a minus sign, and with one
plain-read : (ds : List ℕ) → 0 < length ds → Each IsDigit ds → number_of ds ≡ Some (pos (decimal_value ds))
plain-read [] some h = absurd (omega arith)
plain-read (b ∷ ds) some h =
    let l = h.0.0 in
    let other : (b == 45) ≡ false = ne_eqb b 45 (λ e. omega (arith, e, l)) in
    number_of_parts (b ∷ ds)
    ∙ ap (λ t. cond (is_digits (cond t ds (b ∷ ds))) (Some (cond t (neg_ℤ (pos (decimal_value (cond t ds (b ∷ ds))))) (pos (decimal_value (cond t ds (b ∷ ds)))))) None) other
    ∙ ap (λ t. cond t (Some (pos (decimal_value (b ∷ ds)))) None) (digits-are (b ∷ ds) some h)

minus-read : (ds : List ℕ) → 0 < length ds → Each IsDigit ds → number_of (45 ∷ ds) ≡ Some (neg_ℤ (pos (decimal_value ds)))
minus-read ds some h = number_of_parts (45 ∷ ds) ∙ ap (λ t. cond t (Some (neg_ℤ (pos (decimal_value ds)))) None) (digits-are ds some h)

pub signed-read : (z : ℤ) → nat_abs z < 2 ^ 63 → number_or_zero (signed_decimal z) ≡ z
signed-read (pos n) small =
    let h = decimal-spells n (omega (arith, small)) in
    ap (λ o. unwrap_or o (pos 0)) (plain-read (decimal n) h.some h.digits) ∙ ap pos h.value
signed-read (negsuc n) small =
    let h = decimal-spells (suc n) (omega (arith, small)) in
    ap (λ o. unwrap_or o (pos 0)) (minus-read (decimal (suc n)) h.some h.digits) ∙ ap (λ m. neg_ℤ (pos m)) h.value

pub decimal-read : (n : ℕ) → n < 2 ^ 64 → nat_abs (number_or_zero (decimal n)) ≡ n
decimal-read n small =
    let h = decimal-spells n small in
    ap (λ o. nat_abs (unwrap_or o (pos 0))) (plain-read (decimal n) h.some h.digits) ∙ h.value

-- ---- numbers of any size are good words
glyph-byte : (d : ℕ) → 35 < digit_glyph false d
glyph-byte d = by (nat_lt d 10)
  where
    by : (t : Bool) → 35 < cond t (48 + d) (87 + d)
    by true = omega arith
    by false = omega arith

either-good : (t : Bool) (u v : Word) → IsGood u → IsGood v → IsGood (cond t u v)
either-good true u v h k = h
either-good false u v h k = k

digits-more : (k n : ℕ) (acc : Word) → IsGood acc → IsGood (digits_onto k 10 false n acc)
digits-more zero n acc h = h
digits-more (suc k) n acc h =
    let more = digit_glyph false (n % 10) ∷ acc in
    let p : IsGood more = (omega arith, (glyph-byte (n % 10), h.1)) in
    either-good (nat_eq (n / 10) 0) more (digits_onto k 10 false (n / 10) more) p (digits-more k (n / 10) more p)

digits-some : (k n : ℕ) → IsGood (digits_onto (suc k) 10 false n [])
digits-some k n =
    let more = digit_glyph false (n % 10) ∷ [] in
    let p : IsGood more = (omega arith, (glyph-byte (n % 10), tt)) in
    either-good (nat_eq (n / 10) 0) more (digits_onto k 10 false (n / 10) more) p (digits-more k (n / 10) more p)

pub decimal-good : (n : ℕ) → IsGood (decimal n)
decimal-good n = subst IsGood (spelled n) (digits-some 63 n)

pub signed-good : (z : ℤ) → IsGood (signed_decimal z)
signed-good (pos n) = decimal-good n
signed-good (negsuc n) = (omega arith, (omega arith, (decimal-good (suc n)).1))

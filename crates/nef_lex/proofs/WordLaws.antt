-- The laws of words.
use Rattle.nef_lex.proofs.Prelude.{◌≡◌, ℕ, ◌<◌, Bool, true, false, cond, not, List, [], ◌∷◌, ◌++◌, map, length, inl, inr, arith, refl, ap, sym, ◌∙◌, subst, append-nil, All, filter, before_first, slice_split, cases_Bool, eqb_tells, common_steps, All-head, All-tail, All-cons, All-nil, All-weaker, comment_mark, is_gap, is_filled, is_comment_mark, IsGap, IsWord, is_word_byte, IsRest, spaced, IsParted, WordsOfSpaced, SpacedWords}
use Rattle.std.proofs.lemmas.List.Splits.{slice_split-cons_yes, slice_split_none, slice_split_at}

-- ---- bytes

gap_no_mark : (b : ℕ) → is_gap b ≡ true → is_comment_mark b ≡ false
gap_no_mark b gap = elim (eqb_tells b comment_mark) [
  | inl same ↦ (let odd = subst (λ x. is_gap x ≡ true) same.1 gap in cc)
  | inr other ↦ other.0
]

word_parts : (g m : Bool) → cond g false (not m) ≡ true → (g ≡ false) × (m ≡ false)
word_parts true m e = cc
word_parts false true e = cc
word_parts false false e = (refl, refl)

word_no_gap : (b : ℕ) → is_word_byte b ≡ true → is_gap b ≡ false
word_no_gap b e = (word_parts (is_gap b) (is_comment_mark b) e).0

word_no_mark : (b : ℕ) → is_word_byte b ≡ true → is_comment_mark b ≡ false
word_no_mark b e = (word_parts (is_gap b) (is_comment_mark b) e).1

-- ---- the words of a line without a comment

abbrev words_in : List ℕ → List (List ℕ)
words_in bs = filter is_filled (slice_split is_gap bs)

skip_byte : (b : ℕ) (bs : List ℕ) → is_gap b ≡ true → words_in (b ∷ bs) ≡ words_in bs
skip_byte b bs gap = ap (filter is_filled) (slice_split-cons_yes is_gap b bs gap)

skip_gap : (gap bs : List ℕ) → IsGap gap → words_in (gap ++ bs) ≡ words_in bs
skip_gap [] bs is = refl
skip_gap (g ∷ gap) bs is = skip_byte g (gap ++ bs) (All-head (λ b. is_gap b ≡ true) g gap is) ∙ skip_gap gap bs (All-tail (λ b. is_gap b ≡ true) g gap is)

no_words : (gap : List ℕ) → IsGap gap → words_in gap ≡ []
no_words gap is = ap words_in (sym (append-nil gap)) ∙ skip_gap gap [] is

kept : (word : List ℕ) (words : List (List ℕ)) → 0 < length word → filter is_filled (word ∷ words) ≡ word ∷ filter is_filled words
kept [] words some = absurd (omega arith)
kept (b ∷ bs) words some = refl

lacks_gap : (word : List ℕ) → IsWord word → All (λ b. is_gap b ≡ false) word
lacks_gap word is = All-weaker (λ b. is_word_byte b ≡ true) (λ b. is_gap b ≡ false) word_no_gap word is.1

-- a word before a gap
after_word : (word gap bs : List ℕ) → IsWord word → IsGap gap → 0 < length gap → words_in (word ++ (gap ++ bs)) ≡ word ∷ words_in (gap ++ bs)
after_word word [] bs is gaps some = absurd (omega arith)
after_word word (g ∷ gap) bs is gaps some =
    let first = All-head (λ b. is_gap b ≡ true) g gap gaps in
    ap (filter is_filled) (slice_split_at is_gap word g (gap ++ bs) (lacks_gap word is) first)
    ∙ kept word (slice_split is_gap (gap ++ bs)) is.0
    ∙ ap (λ ws. word ∷ ws) (sym (skip_byte g (gap ++ bs) first))

-- the last word, before a gap or nothing
last_word : (word gap : List ℕ) → IsWord word → IsGap gap → words_in (word ++ gap) ≡ word ∷ []
last_word word [] is gaps =
    ap words_in (append-nil word)
    ∙ ap (filter is_filled) (slice_split_none is_gap word (lacks_gap word is))
    ∙ kept word [] is.0
last_word word (g ∷ gap) is gaps =
    ap (λ l. words_in (word ++ l)) (sym (append-nil (g ∷ gap)))
    ∙ after_word word (g ∷ gap) [] is gaps (omega arith)
    ∙ ap (λ l. word ∷ words_in l) (append-nil (g ∷ gap))
    ∙ ap (λ ws. word ∷ ws) (no_words (g ∷ gap) gaps)

words_in-spaced : (ps : List (List ℕ × List ℕ)) (gap : List ℕ) → IsParted ps → IsGap gap → words_in (spaced ps gap) ≡ map (λ p. p.1) ps
words_in-spaced [] gap parted gaps = no_words gap gaps
words_in-spaced (p ∷ []) gap parted gaps = skip_gap p.0 (p.1 ++ gap) parted.0 ∙ last_word p.1 gap parted.1 gaps
words_in-spaced (p ∷ q ∷ ps) gap parted gaps =
    skip_gap p.0 (p.1 ++ spaced (q ∷ ps) gap) parted.0
    ∙ after_word p.1 q.0 (q.1 ++ spaced ps gap) parted.1 parted.3.0 parted.2
    ∙ ap (λ ws. p.1 ∷ ws) (words_in-spaced (q ∷ ps) gap parted.3 gaps)

-- ---- comments

abbrev strip : List ℕ → List ℕ
strip bs = before_first is_comment_mark bs

strip_byte : (b : ℕ) (bs : List ℕ) → is_comment_mark b ≡ false → strip (b ∷ bs) ≡ b ∷ strip bs
strip_byte b bs other = grind (arith, common_steps)

strip_over : (xs ys : List ℕ) → All (λ b. is_comment_mark b ≡ false) xs → strip (xs ++ ys) ≡ xs ++ strip ys
strip_over [] ys lack = refl
strip_over (x ∷ xs) ys lack =
    strip_byte x (xs ++ ys) (All-head (λ b. is_comment_mark b ≡ false) x xs lack)
    ∙ ap (λ l. x ∷ l) (strip_over xs ys (All-tail (λ b. is_comment_mark b ≡ false) x xs lack))

gap_lacks : (gap : List ℕ) → IsGap gap → All (λ b. is_comment_mark b ≡ false) gap
gap_lacks gap is = All-weaker (λ b. is_gap b ≡ true) (λ b. is_comment_mark b ≡ false) gap_no_mark gap is

word_lacks : (word : List ℕ) → IsWord word → All (λ b. is_comment_mark b ≡ false) word
word_lacks word is = All-weaker (λ b. is_word_byte b ≡ true) (λ b. is_comment_mark b ≡ false) word_no_mark word is.1

strip-spaced : (ps : List (List ℕ × List ℕ)) (rest : List ℕ) → IsParted ps → strip (spaced ps rest) ≡ spaced ps (strip rest)
strip-spaced [] rest parted = refl
strip-spaced (p ∷ ps) rest parted =
    strip_over p.0 (p.1 ++ spaced ps rest) (gap_lacks p.0 parted.0)
    ∙ ap (λ l. p.0 ++ l) (strip_over p.1 (spaced ps rest) (word_lacks p.1 parted.1) ∙ ap (λ l. p.1 ++ l) (strip-spaced ps rest parted.3))

strip-rest : (rest : List ℕ) → IsRest rest → (gap : List ℕ) × IsGap gap × (strip rest ≡ gap)
strip-rest rest (gap, gaps, inl is) = (gap, gaps, ap strip (is ∙ sym (append-nil gap)) ∙ strip_over gap [] (gap_lacks gap gaps) ∙ append-nil gap)
strip-rest rest (gap, gaps, inr (text, is)) = (gap, gaps, ap strip is ∙ strip_over gap (comment_mark ∷ text) (gap_lacks gap gaps) ∙ append-nil gap)

pub words_of_spaced : WordsOfSpaced
words_of_spaced ps rest parted is_rest =
    let stripped = strip-rest rest is_rest in
    ap words_in (strip-spaced ps rest parted ∙ ap (spaced ps) stripped.2)
    ∙ words_in-spaced ps stripped.0 parted stripped.1

-- ---- each line is made of words and gaps

abbrev Made : List ℕ → Type 0
Made line = (ps : List (List ℕ × List ℕ)) × (rest : List ℕ) × IsParted ps × IsRest rest × (line ≡ spaced ps rest)

put_mark : (b : ℕ) (bs : List ℕ) → b ≡ comment_mark → Made (b ∷ bs)
put_mark b bs is = ([], b ∷ bs, tt, ([], All-nil (λ b. is_gap b ≡ true), inr (bs, ap (λ x. x ∷ bs) is)), refl)

put_gap : (b : ℕ) (bs : List ℕ) → is_gap b ≡ true → Made bs → Made (b ∷ bs)
put_gap b bs is ([], rest, parted, (gap, gaps, inl same), made) =
    ([], b ∷ rest, tt, (b ∷ gap, All-cons (λ b. is_gap b ≡ true) b gap is gaps, inl (ap (λ l. b ∷ l) same)), ap (λ l. b ∷ l) made)
put_gap b bs is ([], rest, parted, (gap, gaps, inr (text, same)), made) =
    ([], b ∷ rest, tt, (b ∷ gap, All-cons (λ b. is_gap b ≡ true) b gap is gaps, inr (text, ap (λ l. b ∷ l) same)), ap (λ l. b ∷ l) made)
put_gap b bs is (p ∷ ps, rest, parted, is_rest, made) =
    ((b ∷ p.0, p.1) ∷ ps, rest, (All-cons (λ b. is_gap b ≡ true) b p.0 is parted.0, parted.1, parted.2, parted.3), is_rest, ap (λ l. b ∷ l) made)

one_word : (b : ℕ) → is_word_byte b ≡ true → IsWord (b ∷ [])
one_word b is = (omega arith, All-cons (λ b. is_word_byte b ≡ true) b [] is (All-nil (λ b. is_word_byte b ≡ true)))

longer_word : (b : ℕ) (word : List ℕ) → is_word_byte b ≡ true → IsWord word → IsWord (b ∷ word)
longer_word b word is (some, bytes) = (omega arith, All-cons (λ b. is_word_byte b ≡ true) b word is bytes)

put_word : (b : ℕ) (bs : List ℕ) → is_word_byte b ≡ true → Made bs → Made (b ∷ bs)
put_word b bs is ([], rest, parted, is_rest, made) =
    (([], b ∷ []) ∷ [], rest, (All-nil (λ b. is_gap b ≡ true), one_word b is, tt, tt), is_rest, ap (λ l. b ∷ l) made)
put_word b bs is (([], word) ∷ ps, rest, parted, is_rest, made) =
    (([], b ∷ word) ∷ ps, rest, (parted.0, longer_word b word is parted.1, parted.2, parted.3), is_rest, ap (λ l. b ∷ l) made)
put_word b bs is ((g ∷ gap, word) ∷ ps, rest, parted, is_rest, made) =
    (([], b ∷ []) ∷ (g ∷ gap, word) ∷ ps, rest, (All-nil (λ b. is_gap b ≡ true), one_word b is, omega arith, parted), is_rest, ap (λ l. b ∷ l) made)

put_other : (b : ℕ) (bs : List ℕ) → is_comment_mark b ≡ false → Made bs → Made (b ∷ bs)
put_other b bs other made = elim (cases_Bool (is_gap b)) [
  | inl gap ↦ put_gap b bs gap made
  | inr word ↦ put_word b bs (rw (word, other) refl) made
]

pub spaced_words : SpacedWords
spaced_words [] = ([], [], tt, ([], All-nil (λ b. is_gap b ≡ true), inl refl), refl)
spaced_words (b ∷ bs) = elim (eqb_tells b comment_mark) [
  | inl mark ↦ put_mark b bs mark.1
  | inr other ↦ put_other b bs other.0 (spaced_words bs)
]

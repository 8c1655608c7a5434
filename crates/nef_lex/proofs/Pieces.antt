-- The pieces of bytes between line feeds, one by one.
use Rattle.nef_lex.proofs.Prelude.{◌≡◌, ◌≢◌, ℕ, ◌+◌, ◌-◌, ◌<◌, ◌≤◌, ◌==◌, true, false, cond, List, [], ◌∷◌, ◌++◌, length, map, take, get_or, arith, refl, ap, sym, ◌∙◌, inl, inr, All, enumerate_from, position_or_len, before_first, after_first, onto_first, All-head, All-tail, cases_lt, ne_eqb, common_steps, is_line_feed, pieces_of, without_return, carriage_return, numbered_lines}
use Rattle.std.proofs.lemmas.List.Sums.{split_at_first, fails_before_first, passes_at_first}

pub pieces_of-cons_yes : (b : ℕ) (bs : List ℕ) → is_line_feed b ≡ true → pieces_of (b ∷ bs) ≡ [] ∷ pieces_of bs
pieces_of-cons_yes b bs e = ap (λ t. cond t ([] ∷ pieces_of bs) (onto_first b (pieces_of bs))) e

pub pieces_of-cons_no : (b : ℕ) (bs : List ℕ) → is_line_feed b ≡ false → pieces_of (b ∷ bs) ≡ onto_first b (pieces_of bs)
pieces_of-cons_no b bs e = ap (λ t. cond t ([] ∷ pieces_of bs) (onto_first b (pieces_of bs))) e

-- without a line feed there is one piece
pub pieces_of-whole : (b : ℕ) (bs : List ℕ) → All (λ b. is_line_feed b ≡ false) (b ∷ bs) → pieces_of (b ∷ bs) ≡ (b ∷ bs) ∷ []
pieces_of-whole b [] lacks = pieces_of-cons_no b [] (All-head (λ b. is_line_feed b ≡ false) b [] lacks)
pieces_of-whole b (c ∷ bs) lacks =
    pieces_of-cons_no b (c ∷ bs) (All-head (λ b. is_line_feed b ≡ false) b (c ∷ bs) lacks)
    ∙ ap (onto_first b) (pieces_of-whole c bs (All-tail (λ b. is_line_feed b ≡ false) b (c ∷ bs) lacks))

-- the first piece ends at the first line feed
pub pieces_of-at : (bs : List ℕ) (y : ℕ) (ys : List ℕ) → All (λ b. is_line_feed b ≡ false) bs → is_line_feed y ≡ true → pieces_of (bs ++ y ∷ ys) ≡ bs ∷ pieces_of ys
pieces_of-at [] y ys lacks e = pieces_of-cons_yes y ys e
pieces_of-at (b ∷ bs) y ys lacks e =
    pieces_of-cons_no b (bs ++ y ∷ ys) (All-head (λ b. is_line_feed b ≡ false) b bs lacks)
    ∙ ap (onto_first b) (pieces_of-at bs y ys (All-tail (λ b. is_line_feed b ≡ false) b bs lacks) e)

lacks_before : (bs : List ℕ) → All (λ b. is_line_feed b ≡ false) (before_first is_line_feed bs)
lacks_before bs = λ k d below. let fails = fails_before_first is_line_feed bs k d (grind (arith, common_steps)) in grind (arith, common_steps)

first_of_more : (bs : List ℕ) → position_or_len is_line_feed bs < length bs → pieces_of bs ≡ before_first is_line_feed bs ∷ pieces_of (after_first is_line_feed bs)
first_of_more bs more =
    ap pieces_of (split_at_first is_line_feed bs 0 more)
    ∙ pieces_of-at (before_first is_line_feed bs) _ (after_first is_line_feed bs) (lacks_before bs) (passes_at_first is_line_feed bs 0 more)

before_all : (bs : List ℕ) → length bs ≤ position_or_len is_line_feed bs → before_first is_line_feed bs ≡ bs
before_all bs none = grind (arith, common_steps)

after_all : (bs : List ℕ) → length bs ≤ position_or_len is_line_feed bs → after_first is_line_feed bs ≡ []
after_all bs none = grind (arith, common_steps)

first_of_one : (b : ℕ) (bs : List ℕ) → length (b ∷ bs) ≤ position_or_len is_line_feed (b ∷ bs) → pieces_of (b ∷ bs) ≡ before_first is_line_feed (b ∷ bs) ∷ pieces_of (after_first is_line_feed (b ∷ bs))
first_of_one b bs none =
    let lacks = λ (k : ℕ) (d : ℕ) (below : k < length (b ∷ bs)). fails_before_first is_line_feed (b ∷ bs) k d (omega arith) in
    rw (before_all (b ∷ bs) none, after_all (b ∷ bs) none) (pieces_of-whole b bs lacks)

pub pieces_of-first : (bs : List ℕ) → 0 < length bs → pieces_of bs ≡ before_first is_line_feed bs ∷ pieces_of (after_first is_line_feed bs)
pieces_of-first [] filled = absurd (omega arith)
pieces_of-first (b ∷ bs) filled = elim (cases_lt (position_or_len is_line_feed (b ∷ bs)) (length (b ∷ bs))) [
  | inl more ↦ first_of_more (b ∷ bs) more
  | inr none ↦ first_of_one b bs none
]

pub without_return-push : (bs : List ℕ) (b : ℕ) → without_return (bs ++ b ∷ []) ≡ cond (b == carriage_return) bs (bs ++ b ∷ [])
without_return-push [] b = refl
without_return-push (a ∷ []) b = elim (b == carriage_return) as (λ t. a ∷ cond t [] (b ∷ []) ≡ cond t (a ∷ []) (a ∷ b ∷ [])) [ true ↦ refl | false ↦ refl ]
without_return-push (a ∷ c ∷ bs) b =
    ap (λ l. a ∷ l) (without_return-push (c ∷ bs) b)
    ∙ elim (b == carriage_return) as (λ t. a ∷ cond t (c ∷ bs) (c ∷ bs ++ b ∷ []) ≡ cond t (a ∷ c ∷ bs) (a ∷ c ∷ bs ++ b ∷ [])) [ true ↦ refl | false ↦ refl ]

split_last : (bs : List ℕ) → 0 < length bs → bs ≡ take (length bs - 1) bs ++ get_or bs (length bs - 1) 0 ∷ []
split_last bs filled = grind (arith, common_steps)

-- a carriage return as the last byte
pub without_return-last : (bs : List ℕ) → 0 < length bs → get_or bs (length bs - 1) 0 ≡ carriage_return → without_return bs ≡ take (length bs - 1) bs
without_return-last bs filled last =
    ap without_return (split_last bs filled)
    ∙ without_return-push (take (length bs - 1) bs) (get_or bs (length bs - 1) 0)
    ∙ ap (λ b. cond (b == carriage_return) (take (length bs - 1) bs) (take (length bs - 1) bs ++ b ∷ [])) last

-- another last byte
pub without_return-other : (bs : List ℕ) → 0 < length bs → get_or bs (length bs - 1) 0 ≢ carriage_return → without_return bs ≡ bs
without_return-other bs filled last =
    ap without_return (split_last bs filled)
    ∙ without_return-push (take (length bs - 1) bs) (get_or bs (length bs - 1) 0)
    ∙ ap (λ t. cond t (take (length bs - 1) bs) (take (length bs - 1) bs ++ get_or bs (length bs - 1) 0 ∷ [])) (ne_eqb _ _ last)
    ∙ sym (split_last bs filled)

-- the first of the lines that are left
pub numbered_lines-first : (n : ℕ) (bs piece text rest : List ℕ) → 0 < length bs → piece ≡ before_first is_line_feed bs → text ≡ without_return piece → rest ≡ after_first is_line_feed bs → numbered_lines n bs ≡ (n, text) ∷ numbered_lines (n + 1) rest
numbered_lines-first n bs piece text rest filled is_piece is_text is_rest =
    let cut = pieces_of-first bs filled in
    rw (is_rest, is_text, is_piece) (ap (λ ps. enumerate_from n (map without_return ps)) cut)

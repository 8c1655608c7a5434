-- Scripts whose lines pass, one after the other.
use Rattle.nef_script.proofs.Prelude.{◌≡◌, ℕ, ◌+◌, ◌*◌, ◌≤◌, Bool, true, false, ◌&&◌, ◌||◌, ◌==◌, cond, List, [], ◌∷◌, ◌++◌, map, length, Option, Some, None, is_none, inl, inr, refl, sym, ◌∙◌, ap, subst, arith, append-nil, append_assoc, length-append, nat_lt, All, list_any, ltb-false, eqb_tells, All-head, All-tail, All-cons, All-nil, All-weaker, line_feed, carriage_return, is_line_feed, pieces_of, without_return, lines_of, words_of, LacksFeed, each_ended, line_limit, is_bad_byte, line_refusal, bound_name, names_of, NoneRefused, IsAccepted, script_of, ScriptKind}
use Rattle.nef_lex.proofs.LineLaws.{pieces_of_ended}
use Rattle.nef_script.specs.declared.script.ScriptKind.TheVariants as kind
use Rattle.nef_script.proofs.ByCommand.{refusal-by-words, first_none}
use Rattle.nef_script.proofs.LineByLine.{names_of-push, here_at, passes_more}

-- each of the lines passes, against these names and those that the lines before it bind
abbrev pub passes_after : List (List ℕ) → List (List ℕ) → Bool
passes_after names [] = true
passes_after names (line ∷ lines) = is_none (line_refusal names line) && passes_after (names ++ bound_name (words_of line)) lines

pub and_parts : (a b : Bool) → (a && b) ≡ true → (a ≡ true) × (b ≡ true)
and_parts true b e = (refl, e)
and_parts false b e = cc

and_both : (a b : Bool) → a ≡ true → b ≡ true → (a && b) ≡ true
and_both true b e f = f
and_both false b e f = cc

none_is : (o : Option ScriptKind) → is_none o ≡ true → o ≡ None
none_is None e = refl
none_is (Some k) e = cc

-- more lines
pub passes_after-append : (names xs ys : List (List ℕ)) → passes_after names xs ≡ true → passes_after (names ++ names_of xs) ys ≡ true → passes_after names (xs ++ ys) ≡ true
passes_after-append names [] ys first second = subst (λ l. passes_after l ys ≡ true) (append-nil names) second
passes_after-append names (x ∷ xs) ys first second =
    let new = bound_name (words_of x) in
    let parts = and_parts (is_none (line_refusal names x)) (passes_after (names ++ new) xs) first in
    let later = subst (λ l. passes_after l ys ≡ true) (sym (append_assoc names new (names_of xs))) second in
    and_both _ _ parts.0 (passes_after-append (names ++ new) xs ys parts.1 later)

passes_all : (whole done lines : List (List ℕ)) → whole ≡ done ++ lines → passes_after (names_of done) lines ≡ true → NoneRefused whole (length done) → NoneRefused whole (length whole)
passes_all whole done [] split passes before = subst (λ l. NoneRefused whole (length l)) (sym (split ∙ append-nil done)) before
passes_all whole done (line ∷ lines) split passes before =
    let new = bound_name (words_of line) in
    let parts = and_parts (is_none (line_refusal (names_of done) line)) (passes_after (names_of done ++ new) lines) passes in
    let here = here_at whole done lines line None split (none_is _ parts.0) in
    let longer : length done + 1 ≡ length (done ++ line ∷ []) = sym (length-append done (line ∷ [])) in
    let after = subst (NoneRefused whole) longer (passes_more whole (length done) before here) in
    let later = subst (λ l. passes_after l lines ≡ true) (sym (names_of-push done line)) parts.1 in
    passes_all whole (done ++ line ∷ []) lines (split ∙ sym (append_assoc done (line ∷ []) lines)) later after

-- ---- a line that passes has no byte that ends a line, and isn't too long

abbrev IsClean : List ℕ → Type 0
IsClean line = All (λ b. is_bad_byte b ≡ false) line

or_fails : (a b : Bool) → (a || b) ≡ false → (a ≡ false) × (b ≡ false)
or_fails true b e = cc
or_fails false b e = (refl, e)

all_fail : (line : List ℕ) → list_any is_bad_byte line ≡ false → IsClean line
all_fail [] e = All-nil (λ b. is_bad_byte b ≡ false)
all_fail (b ∷ bs) e =
    let parts = or_fails (is_bad_byte b) (list_any is_bad_byte bs) e in
    All-cons (λ b. is_bad_byte b ≡ false) b bs parts.0 (all_fail bs parts.1)

no_feed : (b : ℕ) → is_bad_byte b ≡ false → is_line_feed b ≡ false
no_feed b good = elim (eqb_tells b line_feed) [
  | inl same ↦ (let odd = subst (λ x. is_bad_byte x ≡ false) same.1 good in cc)
  | inr other ↦ other.0
]

no_return : (b : ℕ) → is_bad_byte b ≡ false → (b == carriage_return) ≡ false
no_return b good = elim (eqb_tells b carriage_return) [
  | inl same ↦ (let odd = subst (λ x. is_bad_byte x ≡ false) same.1 good in cc)
  | inr other ↦ other.0
]

kept_whole : (line : List ℕ) → IsClean line → without_return line ≡ line
kept_whole [] clean = refl
kept_whole (b ∷ []) clean = ap (λ t. cond t [] (b ∷ [])) (no_return b (All-head (λ b. is_bad_byte b ≡ false) b [] clean))
kept_whole (b ∷ c ∷ bs) clean = ap (λ l. b ∷ l) (kept_whole (c ∷ bs) (All-tail (λ b. is_bad_byte b ≡ false) b (c ∷ bs) clean))

clean_line : (names : List (List ℕ)) (line : List ℕ) → line_refusal names line ≡ None → IsClean line
clean_line names line passes =
    let a = first_none (nat_lt line_limit (length line)) kind.LineTooLong _ (sym (refusal-by-words names line) ∙ passes) in
    let b = first_none (list_any is_bad_byte line) kind.BadByte _ a.1 in
    all_fail line b.0

short_line : (names : List (List ℕ)) (line : List ℕ) → line_refusal names line ≡ None → length line ≤ line_limit
short_line names line passes =
    let a = first_none (nat_lt line_limit (length line)) kind.LineTooLong _ (sym (refusal-by-words names line) ∙ passes) in
    ltb-false line_limit (length line) a.0

-- the lines, each with its line feed, are cut apart again
lines_back : (names lines : List (List ℕ)) → passes_after names lines ≡ true → (script_of lines ≡ each_ended lines []) × All LacksFeed lines × (map without_return lines ≡ lines) × (length (script_of lines) ≤ (line_limit + 1) * length lines)
lines_back names [] passes = (refl, All-nil LacksFeed, refl, omega arith)
lines_back names (line ∷ lines) passes =
    let new = bound_name (words_of line) in
    let parts = and_parts (is_none (line_refusal names line)) (passes_after (names ++ new) lines) passes in
    let none = none_is _ parts.0 in
    let clean = clean_line names line none in
    let short = short_line names line none in
    let longer = length-append line (line_feed ∷ script_of lines) in
    let later = lines_back (names ++ new) lines parts.1 in
    let size = later.3 in (
      ap (λ l. line ++ (line_feed ∷ l)) later.0,
      All-cons LacksFeed line lines (All-weaker (λ b. is_bad_byte b ≡ false) (λ b. is_line_feed b ≡ false) no_feed line clean) later.1,
      ap (λ l. l ∷ map without_return lines) (kept_whole line clean) ∙ ap (λ ls. line ∷ ls) later.2,
      omega arith,
    )

-- a script of at most 4,000 lines is accepted where each of them passes
pub accepted_lines : (lines : List (List ℕ)) → passes_after [] lines ≡ true → length lines ≤ 4000 → IsAccepted (script_of lines)
accepted_lines lines passes few =
    let back = lines_back [] lines passes in
    let size = back.3 in
    let pieces : pieces_of (script_of lines) ≡ lines = ap pieces_of back.0 ∙ pieces_of_ended lines [] back.1 (All-nil (λ b. is_line_feed b ≡ false)) ∙ append-nil lines in
    let same : lines_of (script_of lines) ≡ lines = ap (map without_return) pieces ∙ back.2 in
    record {
      short = omega arith;
      passes = subst (λ l. NoneRefused l (length l)) (sym same) (passes_all lines [] lines refl passes (λ m below. absurd (omega arith)));
    }

-- The refusal of a line, by its words.
use Rattle.nef_script.proofs.Prelude.{◌≡◌, Bool, true, false, cond, List, [], ◌∷◌, ℕ, length, map, Option, Some, None, refl, ◌∙◌, ap, nat_lt, find, list_any, option_map, words_of, verb_of, line_limit, is_bad_byte, command_tests, words_tests, line_refusal, command_test, kinds, first_kind_of, Verb, ScriptKind}
use Rattle.nef_script.specs.declared.script.ScriptKind.TheVariants as kind

-- ---- the kinds one after the other

find-first : (test : ScriptKind → Bool) (ks : List ScriptKind) → option_map (λ (t : ScriptKind × Bool). t.0) (find (λ (t : ScriptKind × Bool). t.1) (map (λ k. (k, test k)) ks)) ≡ find test ks
find-first test [] = refl
find-first test (k ∷ ks) = by (test k) (test k) (find-first test ks)
  where
    by : (s t : Bool) → option_map (λ (t : ScriptKind × Bool). t.0) (find (λ (t : ScriptKind × Bool). t.1) (map (λ k. (k, test k)) ks)) ≡ find test ks → option_map (λ (t : ScriptKind × Bool). t.0) (cond t (Some (k, s)) (find (λ (t : ScriptKind × Bool). t.1) (map (λ k. (k, test k)) ks))) ≡ cond t (Some k) (find test ks)
    by s true later = refl
    by s false later = later

-- the first two kinds are before all others
front : (a b s t : Bool) (o : Option (ScriptKind × Bool)) (r : Option ScriptKind) → option_map (λ (t : ScriptKind × Bool). t.0) o ≡ r → option_map (λ (t : ScriptKind × Bool). t.0) (cond a (Some (kind.LineTooLong, s)) (cond b (Some (kind.BadByte, t)) o)) ≡ cond a (Some kind.LineTooLong) (cond b (Some kind.BadByte) r)
front true b s t o r e = refl
front false true s t o r e = refl
front false false s t o r e = e

-- what is refused of the words of a line
abbrev pub command_refusal : List (List ℕ) → Option Verb → List (List ℕ) → Option ScriptKind
command_refusal names None args = Some kind.UnknownCommand
command_refusal names (Some v) args = first_kind_of (λ k. command_test k names v args)

abbrev pub words_refusal : List (List ℕ) → List (List ℕ) → Option ScriptKind
words_refusal names [] = None
words_refusal names (word ∷ args) = command_refusal names (verb_of word) args

words_first : (names words : List (List ℕ)) → option_map (λ (t : ScriptKind × Bool). t.0) (find (λ (t : ScriptKind × Bool). t.1) (words_tests names words)) ≡ words_refusal names words
words_first names [] = refl
words_first names (word ∷ args) = by (verb_of word)
  where
    by : (o : Option Verb) → option_map (λ (t : ScriptKind × Bool). t.0) (find (λ (t : ScriptKind × Bool). t.1) (command_tests names o args)) ≡ command_refusal names o args
    by None = refl
    by (Some v) = find-first (λ k. command_test k names v args) kinds

-- of a line its length, its bytes and its words are tested, in this order
pub refusal-by-words : (names : List (List ℕ)) (line : List ℕ) → line_refusal names line ≡ cond (nat_lt line_limit (length line)) (Some kind.LineTooLong) (cond (list_any is_bad_byte line) (Some kind.BadByte) (words_refusal names (words_of line)))
refusal-by-words names line = front (nat_lt line_limit (length line)) (list_any is_bad_byte line) _ _ _ _ (words_first names (words_of line))

pub first_none : (t : Bool) (k : ScriptKind) (o : Option ScriptKind) → cond t (Some k) o ≡ None → (t ≡ false) × (o ≡ None)
first_none true k o e = cc
first_none false k o e = (refl, e)

-- of a line whose length and bytes pass, and that begins with a command, the command and the words after it
pub line-command : (names : List (List ℕ)) (line word : List ℕ) (args : List (List ℕ)) (v : Verb) → nat_lt line_limit (length line) ≡ false → list_any is_bad_byte line ≡ false → words_of line ≡ word ∷ args → verb_of word ≡ Some v → line_refusal names line ≡ first_kind_of (λ k. command_test k names v args)
line-command names line word args v short clean words verb =
    refusal-by-words names line
    ∙ ap (λ t. cond t (Some kind.LineTooLong) (cond (list_any is_bad_byte line) (Some kind.BadByte) (words_refusal names (words_of line)))) short
    ∙ ap (λ t. cond t (Some kind.BadByte) (words_refusal names (words_of line))) clean
    ∙ ap (words_refusal names) words
    ∙ ap (λ o. command_refusal names o args) verb

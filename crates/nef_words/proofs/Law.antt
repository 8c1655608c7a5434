-- Clap's definitions and the grammar choose the same options.
use Rattle.nef_words.proofs.Prelude.{◌≡◌, ◌∙◌, ◌==◌, ◌+◌, suc, ℕ, Bool, take, drop, not, true, false, List, [], ◌∷◌, ◌++◌, Option, Some, None, refl, sym, ap, subst, codes, inl, inr, arith, fold, find, bytes_eq, option_and_then, unwrap_or, if◌then◌else◌, list_any, before_first, after_first, prefix_len, bytes_eq-Decides, long_of, Row, Text, idle, option, has_row, first_of, used, with_default, more_values, reading_by, check_fault, use_fault, DefaultValue, BoardKind, TextVersion, most_stairs, Options, options_of, options_from, number_to, board_named, version_named, GivenOptions, options_of_values, option_value, once, option_in, all_formed, choice}
use Rattle.std.proofs.lemmas.Bool.Decides.{Decides-eqb, nat_tests}
use Rattle.nef_words.specs.Grammar.{read, options_in}
use Rattle.nef_words.proofs.Walked.{at, clear, answer, rules, top, valued_rule, ahead_rule, at_end, after_end, end_word, chosen, last_fault, options_answer}
use Rattle.nef_words.proofs.Turns.{Opt, workers, board, stairs, text, name, Arm, unknown, valued, ahead, help, arm, by_id, long_unknown, long_value, long_waits, long_ahead, long_ahead_value, long_help, other_refused}
use Rattle.nef_words.proofs.Waits.{is_dashed, no_value, waiting_word, settle}
use Rattle.nef_words.proofs.Rows.{find_append, find_none, append_nil, absent_row, row_of, used_first, ahead_first, HoldsGiven, holds_nothing, holds_more, all_defaults, no_default_fault}

abbrev pick : GivenOptions → Option Options
pick given = options_of_values (option_value (codes "workers") given) (option_value (codes "board") given) (option_value (codes "stairs") given) (option_value (codes "text") given) (option_value (codes "ahead") given)

-- ---- the end of the words

check_none : (rows : List Row) → check_fault top rows false ≡ []
unfolding rules
check_none rows = refl

first_other : (rows : List Row) (r : Row) (n : Text) → bytes_eq r.id n ≡ false → first_of n (rows ++ r ∷ []) ≡ first_of n rows
first_other rows r n other = go (has_row n rows) refl
  where
    go : (b : Bool) → has_row n rows ≡ b → first_of n (rows ++ r ∷ []) ≡ first_of n rows
    go true e = rw (find_append (λ (x : Row). bytes_eq x.id n) rows (r ∷ []), e) refl
    go false e = rw (find_append (λ (x : Row). bytes_eq x.id n) rows (r ∷ []), e, other, find_none (λ (x : Row). bytes_eq x.id n) rows e) refl

first_missing : (rows : List Row) (n : Text) → has_row n rows ≡ false → first_of n rows ≡ None
first_missing rows n e = rw (find_none (λ (x : Row). bytes_eq x.id n) rows e) refl

abbrev no_flag : Row
no_flag = record { id = codes "ahead"; values = codes "false" ∷ []; count = None; source = Some DefaultValue; reading = reading_by ahead_rule }

first_flag : (rows : List Row) → has_row (codes "ahead") rows ≡ false → first_of (codes "ahead") (rows ++ no_flag ∷ []) ≡ Some (codes "false")
first_flag rows e = rw (find_append (λ (x : Row). bytes_eq x.id (codes "ahead")) rows (no_flag ∷ []), e) refl

with_flag : (rows : List Row) → has_row (codes "ahead") rows ≡ false → with_default rows ahead_rule ≡ rows ++ no_flag ∷ []
with_flag rows e = rw e (absent_row (codes "ahead") (more_values DefaultValue (codes "false" ∷ [])) (no_flag ∷ []) rows e)

with_no_flag : (rows : List Row) → has_row (codes "ahead") rows ≡ true → with_default rows ahead_rule ≡ rows
with_no_flag rows e = rw e refl

end_chosen : (rows : List Row) (given : GivenOptions) → HoldsGiven rows given → chosen (last_fault top rows) (fold with_default rows rules) ≡ pick given
end_chosen rows given h = ends ∙ go (has_row (codes "ahead") rows) refl
  where
    ends : chosen (last_fault top rows) (fold with_default rows rules) ≡ chosen [] (with_default rows ahead_rule)
    ends = rw (no_default_fault rows, all_defaults rows, check_none (with_default rows ahead_rule)) refl

    go : (b : Bool) → has_row (codes "ahead") rows ≡ b → chosen [] (with_default rows ahead_rule) ≡ pick given
    go true e = ap (chosen []) (with_no_flag rows e) ∙ rw (h.first (codes "workers"), h.first (codes "board"), h.first (codes "stairs"), h.first (codes "text"), h.first (codes "ahead")) refl
    go false e = ap (chosen []) (with_flag rows e)
        ∙ rw (
          first_flag rows e,
          first_other rows no_flag (codes "workers") refl,
          first_other rows no_flag (codes "board") refl,
          first_other rows no_flag (codes "stairs") refl,
          first_other rows no_flag (codes "text") refl,
          h.first (codes "workers"),
          h.first (codes "board"),
          h.first (codes "stairs"),
          h.first (codes "text"),
          sym (h.first (codes "ahead")) ∙ first_missing rows (codes "ahead") e,
        ) refl

-- what is given where `--` is the last word
abbrev if_last : GivenOptions → List Text → Option GivenOptions
if_last given rest = if list_any (λ (next : Text). true) rest then None else Some given

end_then : (rest : List Text) (rows : List Row) (given : GivenOptions) → HoldsGiven rows given → answer top (at rows None idle true) rest ≡ option_and_then pick (if_last given rest)
end_then [] rows given h = at_end rows None idle true ∙ end_chosen rows given h
end_then (word ∷ rest) rows given h = after_end rows None idle word rest

-- ---- a value that begins with a dash has no form

dash_number : (most : ℕ) (v : Text) → is_dashed v ≡ true → number_to most v ≡ None
dash_number most [] e = cc
dash_number most (x ∷ xs) e = rw ((Decides-eqb x 45).0 e) refl

dash_board : (v : Text) → is_dashed v ≡ true → board_named v ≡ None
dash_board [] e = cc
dash_board (x ∷ xs) e = rw ((Decides-eqb x 45).0 e) refl

dash_version : (v : Text) → is_dashed v ≡ true → version_named v ≡ None
dash_version [] e = cc
dash_version (x ∷ xs) e = rw ((Decides-eqb x 45).0 e) refl

no_board : (w : Option ℕ) (s : Option (Option ℕ)) (t : Option TextVersion) (a : Bool) → options_from [] w None s t a ≡ None
no_board None s t a = refl
no_board (Some w) s t a = refl

no_stairs : (w : Option ℕ) (b : Option BoardKind) (t : Option TextVersion) (a : Bool) → options_from [] w b None t a ≡ None
no_stairs None b t a = refl
no_stairs (Some w) None t a = refl
no_stairs (Some w) (Some b) t a = refl

no_text : (w : Option ℕ) (b : Option BoardKind) (s : Option (Option ℕ)) (a : Bool) → options_from [] w b s None a ≡ None
no_text None b s a = refl
no_text (Some w) None s a = refl
no_text (Some w) (Some b) None a = refl
no_text (Some w) (Some b) (Some s) a = refl

abbrev Spoilt : GivenOptions → Type 0
Spoilt given = (more : GivenOptions) → pick (given ++ more) ≡ None

assoc : {X : Type 0} (xs ys zs : List X) → (xs ++ ys) ++ zs ≡ xs ++ (ys ++ zs)
assoc [] ys zs = refl
assoc (x ∷ xs) ys zs = ap (λ r. x ∷ r) (assoc xs ys zs)

same_name : (o : Opt) → bytes_eq (name o) (name o) ≡ true
same_name workers = refl
same_name board = refl
same_name stairs = refl
same_name text = refl

value_there : (o : Opt) (v : Text) (given more : GivenOptions) → list_any (λ (g : Text × Text). bytes_eq g.0 (name o)) given ≡ false → option_value (name o) ((given ++ (name o, v) ∷ []) ++ more) ≡ Some v
value_there o v given more e = rw (assoc given ((name o, v) ∷ []) more, find_append (λ (g : Text × Text). bytes_eq g.0 (name o)) given ((name o, v) ∷ more), e, same_name o) refl

spoilt_dash : (o : Opt) (v : Text) (given : GivenOptions) → is_dashed v ≡ true → list_any (λ (g : Text × Text). bytes_eq g.0 (name o)) given ≡ false → Spoilt (given ++ (name o, v) ∷ [])
spoilt_dash workers v given d e more = rw (value_there workers v given more e, dash_number 64 v d) refl
spoilt_dash board v given d e more = rw (value_there board v given more e, dash_board v d) (no_board _ _ _ _)
spoilt_dash stairs v given d e more = rw (value_there stairs v given more e, dash_number most_stairs v d) (no_stairs _ _ _ _)
spoilt_dash text v given d e more = rw (value_there text v given more e, dash_version v d) (no_text _ _ _ _)

spoilt_more : (given : GivenOptions) (g : Text × Text) → Spoilt given → Spoilt (given ++ g ∷ [])
spoilt_more given g s more = rw (assoc given (g ∷ []) more) (s (g ∷ more))

spoilt_once : (rest : List Text) (n v : Text) (given : GivenOptions) → ((given : GivenOptions) → Spoilt given → option_and_then pick (read None given rest) ≡ None) → Spoilt given → option_and_then pick (option_and_then (λ more. read None more rest) (once n v given)) ≡ None
spoilt_once rest n v given f s = go (list_any (λ (g : Text × Text). bytes_eq g.0 n) given) refl
  where
    go : (b : Bool) → list_any (λ (g : Text × Text). bytes_eq g.0 n) given ≡ b → option_and_then pick (option_and_then (λ more. read None more rest) (once n v given)) ≡ None
    go true e = rw e refl
    go false e = rw e (f (given ++ (n, v) ∷ []) (spoilt_more given (n, v) s))

spoilt_end : (given : GivenOptions) → Spoilt given → pick given ≡ None
spoilt_end given s = sym (ap pick (append_nil given)) ∙ s []

spoilt_last : (rest : List Text) (given : GivenOptions) → Spoilt given → option_and_then pick (if_last given rest) ≡ None
spoilt_last [] given s = spoilt_end given s
spoilt_last (word ∷ rest) given s = refl

spoilt_word : (word : Text) (rest : List Text) → ((w : Option Text) (given : GivenOptions) → Spoilt given → option_and_then pick (read w given rest) ≡ None) → (given : GivenOptions) → Spoilt given → option_and_then pick (read None given (word ∷ rest)) ≡ None
unfolding read
spoilt_word word rest f given s = go (bytes_eq word (codes "--")) (bytes_eq (codes "--ahead") word) (option_in word) (list_any (λ b. b == 61) word) refl refl refl refl
  where
    go : (a b : Bool) (o : Option Text) (c : Bool) → bytes_eq word (codes "--") ≡ a → bytes_eq (codes "--ahead") word ≡ b → option_in word ≡ o → list_any (λ b. b == 61) word ≡ c → option_and_then pick (read None given (word ∷ rest)) ≡ None
    go true b o c p q r t = rw p (spoilt_last rest given s)
    go false true o c p q r t = rw (p, q) (spoilt_once rest (codes "ahead") (codes "true") given (f None) s)
    go false false None c p q r t = rw (p, q, r) refl
    go false false (Some n) true p q r t = rw (p, q, r, t) (spoilt_once rest n (after_first (λ b. b == 61) word) given (f None) s)
    go false false (Some n) false p q r t = rw (p, q, r, t) (f (Some n) given s)

spoilt_read : (words : List Text) (w : Option Text) (given : GivenOptions) → Spoilt given → option_and_then pick (read w given words) ≡ None
unfolding read
spoilt_read [] None given s = spoilt_end given s
spoilt_read [] (Some n) given s = refl
spoilt_read (word ∷ rest) None given s = spoilt_word word rest (spoilt_read rest) given s
spoilt_read (word ∷ rest) (Some n) given s = spoilt_once rest n word given (spoilt_read rest None) s

-- ---- a use

abbrev Reads : List Text → Type 0
Reads rest = (rows : List Row) (given : GivenOptions) → HoldsGiven rows given → answer top (at rows None idle false) rest ≡ option_and_then pick (read None given rest)

abbrev ReadsWaiting : List Text → Type 0
ReadsWaiting rest = (o : Opt) (rows : List Row) (given : GivenOptions) → HoldsGiven rows given → answer top (at rows (Some (name o, [])) (option (name o)) false) rest ≡ option_and_then pick (read (Some (name o)) given rest)

use_valued : (o : Opt) (v : Text) (rest : List Text) (rows : List Row) (given : GivenOptions) → HoldsGiven rows given → Reads rest
    → clear (use_fault false (valued_rule (name o)) (v ∷ []) rows) (answer top (at (used (valued_rule (name o)) (v ∷ []) rows) None idle false) rest) ≡ option_and_then pick (option_and_then (λ more. read None more rest) (once (name o) v given))
use_valued o v rest rows given h f = go (has_row (name o) rows) refl
  where
    go : (b : Bool) → has_row (name o) rows ≡ b → clear (use_fault false (valued_rule (name o)) (v ∷ []) rows) (answer top (at (used (valued_rule (name o)) (v ∷ []) rows) None idle false) rest) ≡ option_and_then pick (option_and_then (λ more. read None more rest) (once (name o) v given))
    go true e = rw (e, sym (h.has (name o)) ∙ e) refl
    go false e = rw (used_first (name o) v rows e, e, sym (h.has (name o)) ∙ e) (f (rows ++ row_of (valued_rule (name o)) (name o) v ∷ []) (given ++ (name o, v) ∷ []) (holds_more rows given (valued_rule (name o)) (name o) v h))

use_ahead : (rest : List Text) (rows : List Row) (given : GivenOptions) → HoldsGiven rows given → Reads rest
    → clear (use_fault false ahead_rule [] rows) (answer top (at (used ahead_rule [] rows) None idle false) rest) ≡ option_and_then pick (option_and_then (λ more. read None more rest) (once (codes "ahead") (codes "true") given))
use_ahead rest rows given h f = go (has_row (codes "ahead") rows) refl
  where
    go : (b : Bool) → has_row (codes "ahead") rows ≡ b → clear (use_fault false ahead_rule [] rows) (answer top (at (used ahead_rule [] rows) None idle false) rest) ≡ option_and_then pick (option_and_then (λ more. read None more rest) (once (codes "ahead") (codes "true") given))
    go true e = rw (e, sym (h.has (codes "ahead")) ∙ e) refl
    go false e = rw (ahead_first rows e, e, sym (h.has (codes "ahead")) ∙ e) (f (rows ++ row_of ahead_rule (codes "ahead") (codes "true") ∷ []) (given ++ (codes "ahead", codes "true") ∷ []) (holds_more rows given ahead_rule (codes "ahead") (codes "true") h))

-- ---- a word after an option that waits

dash_refused : (o : Opt) (word : Text) (rest : List Text) (given : GivenOptions) → is_dashed word ≡ true → option_and_then pick (option_and_then (λ more. read None more rest) (once (name o) word given)) ≡ None
dash_refused o word rest given d = go (list_any (λ (g : Text × Text). bytes_eq g.0 (name o)) given) refl
  where
    go : (b : Bool) → list_any (λ (g : Text × Text). bytes_eq g.0 (name o)) given ≡ b → option_and_then pick (option_and_then (λ more. read None more rest) (once (name o) word given)) ≡ None
    go true e = rw e refl
    go false e = rw e (spoilt_read rest None (given ++ (name o, word) ∷ []) (spoilt_dash o word given d e))

waiting_case : (word : Text) (rest : List Text) → Reads rest → ReadsWaiting (word ∷ rest)
unfolding read
waiting_case word rest f o rows given h = elim (waiting_word o rows word rest) [
  | inl out ↦ out.0 ∙ sym (dash_refused o word rest given out.1)
  | inr kept ↦ kept ∙ settle rows (Some (name o, word ∷ [])) rest ∙ rw (by_id o) (use_valued o word rest rows given h f)
]

-- ---- a word where nothing waits

abbrev names : List Text
names = codes "workers" ∷ codes "board" ∷ codes "stairs" ∷ codes "text" ∷ []

abbrev option_after : Text → Option Text
option_after front = find (λ n. bytes_eq (codes "--" ++ n) (45 ∷ 45 ∷ front)) names

find_named : (o : Opt) (front : Text) → bytes_eq (name o) front ≡ true → (option_after front ≡ Some (name o)) × (bytes_eq (codes "ahead") front ≡ false)
find_named o front e = subst (λ f. (option_after f ≡ Some (name o)) × (bytes_eq (codes "ahead") f ≡ false)) ((bytes_eq-Decides (name o) front).0 e) (itself o)
  where
    itself : (o : Opt) → (option_after (name o) ≡ Some (name o)) × (bytes_eq (codes "ahead") (name o) ≡ false)
    itself workers = (refl, refl)
    itself board = (refl, refl)
    itself stairs = (refl, refl)
    itself text = (refl, refl)

find_other : (front : Text) → bytes_eq (codes "workers") front ≡ false → bytes_eq (codes "board") front ≡ false → bytes_eq (codes "stairs") front ≡ false → bytes_eq (codes "text") front ≡ false → option_after front ≡ None
find_other front a b c d = rw (a, b, c, d) refl

find_ahead : (front : Text) → bytes_eq (codes "ahead") front ≡ true → option_after front ≡ None
find_ahead front e = subst (λ f. option_after f ≡ None) ((bytes_eq-Decides (codes "ahead") front).0 e) refl

find_help : (front : Text) → bytes_eq (codes "help") front ≡ true → (option_after front ≡ None) × (bytes_eq (codes "ahead") front ≡ false)
find_help front e = subst (λ f. (option_after f ≡ None) × (bytes_eq (codes "ahead") f ≡ false)) ((bytes_eq-Decides (codes "help") front).0 e) (refl, refl)

one_more : (n : ℕ) → 1 + n ≡ suc n
one_more n = omega arith

before_more : (x : ℕ) (xs : Text) → (x == 61) ≡ false → before_first (λ b. b == 61) (x ∷ xs) ≡ x ∷ before_first (λ b. b == 61) xs
before_more x xs e = rw e (ap (λ n. take n (x ∷ xs)) (one_more (prefix_len (λ b. not (b == 61)) xs)))

two_more : (n : ℕ) → (1 + n) + 1 ≡ suc (n + 1)
two_more n = omega arith

after_more : (x : ℕ) (xs : Text) → (x == 61) ≡ false → after_first (λ b. b == 61) (x ∷ xs) ≡ after_first (λ b. b == 61) xs
after_more x xs e = rw e (ap (λ n. drop n (x ∷ xs)) (two_more (prefix_len (λ b. not (b == 61)) xs)))

after_dashes : (tail : Text) → after_first (λ b. b == 61) (45 ∷ 45 ∷ tail) ≡ after_first (λ b. b == 61) tail
after_dashes tail = after_more 45 (45 ∷ tail) refl ∙ after_more 45 tail refl

before_none : (x : ℕ) (xs : Text) → (x == 61) ≡ true → before_first (λ b. b == 61) (x ∷ xs) ≡ []
before_none x xs e = rw e refl

abbrev named_by : Text → Option Text
named_by front = find (λ n. bytes_eq (codes "--" ++ n) front) names

in_dashes : (tail : Text) → option_in (45 ∷ 45 ∷ tail) ≡ option_after (before_first (λ b. b == 61) tail)
in_dashes tail = ap named_by (before_more 45 (45 ∷ tail) refl ∙ ap (λ r. 45 ∷ r) (before_more 45 tail refl))

no_equals : (t : Text) → list_any (λ b. b == 61) t ≡ false → before_first (λ b. b == 61) t ≡ t
no_equals [] e = refl
no_equals (x ∷ xs) e = go (no_equals xs) (x == 61) refl
  where
    go : (list_any (λ b. b == 61) xs ≡ false → before_first (λ b. b == 61) xs ≡ xs) → (b : Bool) → (x == 61) ≡ b → before_first (λ b. b == 61) (x ∷ xs) ≡ x ∷ xs
    go f true t =
        let bad : true ≡ false = rw t at e in
        cc
    go f false t = before_more x xs t ∙ ap (λ r. x ∷ r) (f (rw t at e))

with_equals : (t : Text) → list_any (λ b. b == 61) t ≡ true → bytes_eq (codes "ahead") t ≡ false
with_equals t e = go (bytes_eq (codes "ahead") t) refl
  where
    go : (b : Bool) → bytes_eq (codes "ahead") t ≡ b → bytes_eq (codes "ahead") t ≡ false
    go true q =
        let bad : list_any (λ b. b == 61) (codes "ahead") ≡ true = subst (λ r. list_any (λ b. b == 61) r ≡ true) (sym ((bytes_eq-Decides (codes "ahead") t).0 q)) e in
        let worse : false ≡ true = bad in
        cc
    go false q = q

-- a word that begins with two dashes, and has more
module _ (y : ℕ) (ys : Text) (rest : List Text) (rows : List Row) (given : GivenOptions) (h : HoldsGiven rows given) (f : Reads rest) (g : ReadsWaiting rest) where
  abbrev tail : Text
  tail = y ∷ ys

  abbrev word : Text
  word = 45 ∷ 45 ∷ tail

  abbrev front : Text
  front = before_first (λ b. b == 61) tail

  abbrev Same : Type 0
  Same = answer top (at rows None idle false) (word ∷ rest) ≡ option_and_then pick (read None given (word ∷ rest))

  -- what the grammar does with it
  read_none : bytes_eq (codes "ahead") tail ≡ false → option_after front ≡ None → option_and_then pick (read None given (word ∷ rest)) ≡ None
  unfolding read
  read_none a o = rw (a, in_dashes tail ∙ o) refl

  read_value : (n : Text) → bytes_eq (codes "ahead") tail ≡ false → option_after front ≡ Some n → list_any (λ b. b == 61) tail ≡ true → read None given (word ∷ rest) ≡ option_and_then (λ more. read None more rest) (once n (after_first (λ b. b == 61) tail) given)
  unfolding read
  read_value n a o e = rw (a, in_dashes tail ∙ o, e) (ap (λ v. option_and_then (λ more. read None more rest) (once n v given)) (after_dashes tail))

  read_waits : (n : Text) → bytes_eq (codes "ahead") tail ≡ false → option_after front ≡ Some n → list_any (λ b. b == 61) tail ≡ false → read None given (word ∷ rest) ≡ read (Some n) given rest
  unfolding read
  read_waits n a o e = rw (a, in_dashes tail ∙ o, e) refl

  read_ahead : bytes_eq (codes "ahead") tail ≡ true → read None given (word ∷ rest) ≡ option_and_then (λ more. read None more rest) (once (codes "ahead") (codes "true") given)
  unfolding read
  read_ahead a = rw a refl

  long_bare : list_any (λ b. b == 61) tail ≡ false → long_of word ≡ Some (front, None)
  long_bare e = rw e refl

  long_with : list_any (λ b. b == 61) tail ≡ true → long_of word ≡ Some (front, Some (after_first (λ b. b == 61) tail))
  long_with e = rw e refl

  with_value : list_any (λ b. b == 61) tail ≡ true → Arm front → Same
  with_value e (unknown a w b s t _) = long_unknown rows None word front rest refl (Some (after_first (λ b. b == 61) tail)) (long_with e) a ∙ sym (read_none (with_equals tail e) (find_other front w b s t))
  with_value e (valued o a n) = long_value rows None word front rest refl o (after_first (λ b. b == 61) tail) (long_with e) a ∙ use_valued o (after_first (λ b. b == 61) tail) rest rows given h f
      ∙ ap (option_and_then pick) (sym (read_value (name o) (with_equals tail e) (find_named o front n).0 e))
  with_value e (ahead a n) = long_ahead_value rows None word front rest refl (after_first (λ b. b == 61) tail) (long_with e) a ∙ sym (read_none (with_equals tail e) (find_ahead front n))
  with_value e (help a n) = long_help rows None word front rest refl (Some (after_first (λ b. b == 61) tail)) (long_with e) a ∙ sym (read_none (with_equals tail e) (find_help front n).0)

  abbrev at_tail : (b : Bool) → bytes_eq (codes "ahead") front ≡ b → list_any (λ b. b == 61) tail ≡ false → bytes_eq (codes "ahead") tail ≡ b
  at_tail b n e = subst (λ r. bytes_eq (codes "ahead") r ≡ b) (no_equals tail e) n

  bare : list_any (λ b. b == 61) tail ≡ false → Arm front → Same
  bare e (unknown a w b s t n) = long_unknown rows None word front rest refl None (long_bare e) a ∙ sym (read_none (at_tail false n e) (find_other front w b s t))
  bare e (valued o a n) = long_waits rows None word front rest refl o (long_bare e) a ∙ g o rows given h
      ∙ ap (option_and_then pick) (sym (read_waits (name o) (at_tail false (find_named o front n).1 e) (find_named o front n).0 e))
  bare e (ahead a n) = long_ahead rows None word front rest refl (long_bare e) a ∙ use_ahead rest rows given h f ∙ ap (option_and_then pick) (sym (read_ahead (at_tail true n e)))
  bare e (help a n) = long_help rows None word front rest refl None (long_bare e) a ∙ sym (read_none (at_tail false (find_help front n).1 e) (find_help front n).0)

  by_equals : (b : Bool) → list_any (λ b. b == 61) tail ≡ b → Same
  by_equals true e = with_value e (arm front)
  by_equals false e = bare e (arm front)

  long_case : Same
  long_case = by_equals (list_any (λ b. b == 61) tail) refl

-- any other word is refused
pub record IsOther (word : Text) : Type 0 where
  pub long : long_of word ≡ None
  pub flag : bytes_eq (codes "--ahead") word ≡ false
  pub names_none : option_in word ≡ None

other_byte : (x : ℕ) → (x == 45) ≡ false → (45 == x) ≡ false
other_byte x e = grind (arith, nat_tests)

first_byte_other : (x : ℕ) (xs : Text) → (x == 45) ≡ false → IsOther (x ∷ xs)
first_byte_other x xs e = record { long = rw e refl; flag = rw (other_byte x e) refl; names_none = go (x == 61) refl }
  where
    go : (b : Bool) → (x == 61) ≡ b → option_in (x ∷ xs) ≡ None
    go true t = ap named_by (before_none x xs t)
    go false t = ap named_by (before_more x xs t) ∙ rw (other_byte x e) refl

second_byte_other : (x : ℕ) (xs : Text) → (x == 45) ≡ false → IsOther (45 ∷ x ∷ xs)
second_byte_other x xs e = record { long = rw e refl; flag = rw (other_byte x e) refl; names_none = go (x == 61) refl }
  where
    go : (b : Bool) → (x == 61) ≡ b → option_in (45 ∷ x ∷ xs) ≡ None
    go true t = ap named_by (before_more 45 (x ∷ xs) refl ∙ ap (λ r. 45 ∷ r) (before_none x xs t))
    go false t = ap named_by (before_more 45 (x ∷ xs) refl ∙ ap (λ r. 45 ∷ r) (before_more x xs t)) ∙ rw (other_byte x e) refl

abbrev IdleCase : List Text → Text → Type 0
IdleCase rest word = (rows : List Row) (given : GivenOptions) → HoldsGiven rows given → answer top (at rows None idle false) (word ∷ rest) ≡ option_and_then pick (read None given (word ∷ rest))

other_case : (word : Text) (rest : List Text) → bytes_eq word (codes "--") ≡ false → IsOther word → IdleCase rest word
unfolding read
other_case word rest b i rows given h = other_refused rows None word rest b i.long ∙ sym (rw (b, i.flag, i.names_none) refl)

end_case : (word : Text) (rest : List Text) → bytes_eq word (codes "--") ≡ true → IdleCase rest word
unfolding read
end_case word rest b rows given h = end_word rows None word rest b ∙ end_then rest rows given h ∙ sym (rw b refl)

after_dash : (rest : List Text) → Reads rest → ReadsWaiting rest → (xs : Text) → IdleCase rest (45 ∷ xs)
after_dash rest f g [] = other_case (45 ∷ []) rest refl (record { long = refl; flag = refl; names_none = refl })
after_dash rest f g (x ∷ xs) = go xs (x == 45) refl
  where
    not_end : (zs : Text) → (x == 45) ≡ false → bytes_eq (45 ∷ x ∷ zs) (codes "--") ≡ false
    not_end zs t = rw t refl

    dashes : (zs : Text) → IdleCase rest (45 ∷ 45 ∷ zs)
    dashes [] = end_case (45 ∷ 45 ∷ []) rest refl
    dashes (z ∷ zs) = λ rows given h. long_case z zs rest rows given h f g

    go : (zs : Text) (b : Bool) → (x == 45) ≡ b → IdleCase rest (45 ∷ x ∷ zs)
    go zs true t = subst (λ z. IdleCase rest (45 ∷ z ∷ zs)) (sym ((Decides-eqb x 45).0 t)) (dashes zs)
    go zs false t = other_case (45 ∷ x ∷ zs) rest (not_end zs t) (second_byte_other x zs t)

idle_case : (rest : List Text) → Reads rest → ReadsWaiting rest → (word : Text) → IdleCase rest word
idle_case rest f g [] = other_case [] rest refl (record { long = refl; flag = refl; names_none = refl })
idle_case rest f g (x ∷ xs) = go (x == 45) refl
  where
    go : (b : Bool) → (x == 45) ≡ b → IdleCase rest (x ∷ xs)
    go true t = subst (λ z. IdleCase rest (z ∷ xs)) (sym ((Decides-eqb x 45).0 t)) (after_dash rest f g xs)
    go false t = other_case (x ∷ xs) rest (rw t refl) (first_byte_other x xs t)

both : (words : List Text) → Reads words × ReadsWaiting words
unfolding read
both [] = (λ rows given h. at_end rows None idle false ∙ end_chosen rows given h, λ o rows given h. at_end rows (Some (name o, [])) (option (name o)) false ∙ rw (no_value o rows) refl)
both (word ∷ rest) = (idle_case rest (both rest).0 (both rest).1 word, waiting_case word rest (both rest).0)

-- the values choose the same options
same_flag : (o : Option Text) → bytes_eq (unwrap_or o []) (codes "true") ≡ bytes_eq (unwrap_or o (codes "false")) (codes "true")
same_flag None = refl
same_flag (Some v) = refl

same_formed : (w : Option ℕ) (b : Option BoardKind) (s : Option (Option ℕ)) (t : Option TextVersion) (a : Bool) → options_from [] w b s t a ≡ all_formed w b s t a
same_formed None b s t a = refl
same_formed (Some w) None s t a = refl
same_formed (Some w) (Some b) None t a = refl
same_formed (Some w) (Some b) (Some s) None a = refl
same_formed (Some w) (Some b) (Some s) (Some t) a = refl

same_choice : (given : GivenOptions) → pick given ≡ choice given
same_choice given = rw (same_flag (option_value (codes "ahead") given)) (same_formed _ _ _ _ _)

same_choices : (given : Option GivenOptions) → option_and_then pick given ≡ option_and_then choice given
same_choices None = refl
same_choices (Some given) = same_choice given

pub words-by_grammar : (words : List Text) → options_of words ≡ options_in words
unfolding options_in
words-by_grammar words = options_answer words ∙ (both words).0 [] [] holds_nothing ∙ same_choices (read None [] words)

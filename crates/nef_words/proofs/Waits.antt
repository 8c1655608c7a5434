-- A word after an option that waits for its value, and what it comes to that a value was given.
use Rattle.nef_words.proofs.Prelude.{◌≡◌, ◌∙◌, ◌==◌, ℕ, zero, suc, Bool, true, false, List, [], ◌∷◌, length, Option, Some, None, refl, sym, ap, codes, inl, inr, ◌⊎◌, bytes_eq, slice_get, chars, bytes_eq-Decides, long_of, short_of, Kinds, Row, Text, Walk, idle, option, arg_by_short, settled_rows, option_word, arg_by_id, turn_fault, Options}
use Rattle.clap.specs.declared.error.kind.ErrorKind.TheVariants.{InvalidValue}
use Rattle.clap.specs.Walk.{walked, bundle_met}
use Rattle.clap.specs.Faults.{flags_fault}
use Rattle.nef_words.proofs.Walked.{at, clear, clear_None, answer, walk_step, rules, top, last_rule, at_end, after_end, end_word}
use Rattle.nef_words.proofs.Turns.{Opt, workers, board, stairs, text, name, held, settling, Arm, unknown, valued, ahead, help, arm, short_arm, clear_or, long_unknown, long_value, long_waits, long_ahead, long_ahead_value, long_help, other_refused}

pub plain_value : (o : Opt) (rows : List Row) (word : Text) → option_word (arg_by_id rules (name o)) (name o) word (held rows (Some (name o, []))) ≡ (held rows (Some (name o, word ∷ [])), idle)
unfolding rules
plain_value workers rows word = refl
plain_value board rows word = refl
plain_value stairs rows word = refl
plain_value text rows word = refl

pub no_value : (o : Opt) (rows : List Row) → settling rows (Some (name o, [])) ≡ InvalidValue ∷ []
unfolding rules
no_value workers rows = refl
no_value board rows = refl
no_value stairs rows = refl
no_value text rows = refl

abbrev pub is_dashed : Text → Bool
is_dashed [] = false
is_dashed (x ∷ xs) = x == 45

long_dashed : (word : Text) (q : Text × Option Text) → long_of word ≡ Some q → is_dashed word ≡ true
long_dashed [] q e = cc
long_dashed (x ∷ xs) q e = go (x == 45) refl
  where
    go : (b : Bool) → (x == 45) ≡ b → (x == 45) ≡ true
    go true t = t
    go false t =
        let bad : None ≡ Some q = rw t at e in
        cc

short_dashed : (word flags : Text) → short_of word ≡ Some flags → is_dashed word ≡ true
short_dashed [] q e = cc
short_dashed (x ∷ xs) q e = go (x == 45) refl
  where
    go : (b : Bool) → (x == 45) ≡ b → (x == 45) ≡ true
    go true t = t
    go false t =
        let bad : None ≡ Some q = rw t at e in
        cc

end_dashed : (word : Text) → bytes_eq word (codes "--") ≡ true → is_dashed word ≡ true
end_dashed word e = rw ((bytes_eq-Decides word (codes "--")).0 e) refl

-- a word that waits to be a value is refused with its dash, or is the value
module _ (o : Opt) (rows : List Row) (word : Text) (rest : List Text) where
  abbrev before : Walk
  before = at rows (Some (name o, [])) (option (name o)) false

  abbrev turn : Option Options
  turn = clear (turn_fault top [] before word) (answer top (walked rules [] before word) rest)

  abbrev taken : Option Options
  taken = answer top (at rows (Some (name o, word ∷ [])) idle false) rest

  refused_end : (rest' : List Text) → answer top (at rows (Some (name o, [])) (option (name o)) true) rest' ≡ None
  refused_end [] = at_end rows (Some (name o, [])) (option (name o)) true ∙ rw (no_value o rows) refl
  refused_end (x ∷ xs) = after_end rows (Some (name o, [])) (option (name o)) x xs

  refused_long : (n : Text) (v : Option Text) → bytes_eq word (codes "--") ≡ false → long_of word ≡ Some (n, v) → Arm n → turn ≡ None
  refused_long n v b l (unknown a _ _ _ _ _) = rw (b, l, a) refl
  refused_long n None b l (valued o' a _) = rw (b, l, a, no_value o rows) refl
  refused_long n (Some v) b l (valued o' a _) = rw (b, l, a, no_value o rows) refl
  refused_long n None b l (ahead a _) = rw (b, l, a, no_value o rows) refl
  refused_long n (Some v) b l (ahead a _) = rw (b, l, a) refl
  refused_long n None b l (help a _) = rw (b, l, a, no_value o rows) refl
  refused_long n (Some v) b l (help a _) = rw (b, l, a) refl

  arms : (flags : Text) (k x : ℕ) → bytes_eq word (codes "--") ≡ false → long_of word ≡ None → short_of word ≡ Some flags → length flags ≡ suc k → slice_get (chars flags) 0 ≡ Some x
      → (arg_by_short rules x ≡ None) ⊎ (arg_by_short rules x ≡ Some last_rule) → turn ≡ None
  unfolding flags_fault
  arms flags k x b l e n c (inl a) = rw (b, l, e, n, c, a) refl
  arms flags k x b l e n c (inr a) = rw (b, l, e, n, c, a, no_value o rows) refl

  ofs : (flags : Text) (k : ℕ) → bytes_eq word (codes "--") ≡ false → long_of word ≡ None → short_of word ≡ Some flags → length flags ≡ suc k → (x : Option ℕ) → slice_get (chars flags) 0 ≡ x → ((turn ≡ None) × (is_dashed word ≡ true)) ⊎ (turn ≡ taken)
  unfolding flags_fault bundle_met walked
  ofs flags k b l e n None c = inr (rw (b, l, e, n, c, plain_value o rows word) refl)
  ofs flags k b l e n (Some x) c = inl (arms flags k x b l e n c (short_arm x), short_dashed word flags e)

  of : (flags : Text) → bytes_eq word (codes "--") ≡ false → long_of word ≡ None → short_of word ≡ Some flags → (k : ℕ) → length flags ≡ k → ((turn ≡ None) × (is_dashed word ≡ true)) ⊎ (turn ≡ taken)
  unfolding flags_fault bundle_met walked
  of flags b l e zero n = inr (rw (b, l, e, n, plain_value o rows word) refl)
  of flags b l e (suc k) n = ofs flags k b l e n (slice_get (chars flags) 0) refl

  plain : bytes_eq word (codes "--") ≡ false → long_of word ≡ None → (sh : Option Text) → short_of word ≡ sh → ((turn ≡ None) × (is_dashed word ≡ true)) ⊎ (turn ≡ taken)
  unfolding walked
  plain b l None e = inr (rw (b, l, e, plain_value o rows word) refl)
  plain b l (Some flags) e = of flags b l e (length flags) refl

  word_taken : bytes_eq word (codes "--") ≡ false → (l : Option (Text × Option Text)) → long_of word ≡ l → ((turn ≡ None) × (is_dashed word ≡ true)) ⊎ (turn ≡ taken)
  word_taken b None l = plain b l (short_of word) refl
  word_taken b (Some q) l = inl (refused_long q.0 q.1 b l (arm q.0), long_dashed word q l)

  by_end : (b : Bool) → bytes_eq word (codes "--") ≡ b → ((turn ≡ None) × (is_dashed word ≡ true)) ⊎ (turn ≡ taken)
  unfolding walked
  by_end true b = inl (rw b (refused_end rest), end_dashed word b)
  by_end false b = word_taken b (long_of word) refl

  pub waiting_word : ((answer top before (word ∷ rest) ≡ None) × (is_dashed word ≡ true)) ⊎ (answer top before (word ∷ rest) ≡ taken)
  waiting_word = elim (by_end (bytes_eq word (codes "--")) refl) [ inl h ↦ inl (walk_step top before word rest ∙ h.0, h.1) | inr h ↦ inr (walk_step top before word rest ∙ h) ]

-- where nothing waits, what is pending counts as used
module _ (rows : List Row) (p : Option (Text × List Text)) where
  abbrev rows' : List Row
  rows' = settled_rows rules p rows

  abbrev ks : Kinds
  ks = settling rows p

  none_both : (x y : Option Options) → x ≡ None → y ≡ None → x ≡ clear ks y
  none_both x y e f = e ∙ sym (ap (clear ks) f ∙ clear_None ks)

  settle_end : (t : Bool) → answer top (at rows p idle t) [] ≡ clear ks (answer top (at rows' None idle t) [])
  settle_end t = at_end rows p idle t ∙ ap (clear ks) (sym (at_end rows' None idle t))

  settle_trailing : (rest : List Text) → answer top (at rows p idle true) rest ≡ clear ks (answer top (at rows' None idle true) rest)
  settle_trailing [] = settle_end true
  settle_trailing (x ∷ xs) = none_both _ _ (after_end rows p idle x xs) (after_end rows' None idle x xs)

  module _ (word : Text) (rest : List Text) where
    abbrev Settles : Type 0
    Settles = answer top (at rows p idle false) (word ∷ rest) ≡ clear ks (answer top (at rows' None idle false) (word ∷ rest))

    settle_arm : (n : Text) (v : Option Text) → bytes_eq word (codes "--") ≡ false → long_of word ≡ Some (n, v) → Arm n → Settles
    settle_arm n v b l (unknown a _ _ _ _ _) = none_both _ _ (long_unknown rows p word n rest b v l a) (long_unknown rows' None word n rest b v l a)
    settle_arm n None b l (valued o a _) = long_waits rows p word n rest b o l a ∙ ap (clear ks) (sym (long_waits rows' None word n rest b o l a))
    settle_arm n (Some v) b l (valued o a _) = long_value rows p word n rest b o v l a ∙ clear_or ks _ _ ∙ ap (clear ks) (sym (long_value rows' None word n rest b o v l a))
    settle_arm n None b l (ahead a _) = long_ahead rows p word n rest b l a ∙ clear_or ks _ _ ∙ ap (clear ks) (sym (long_ahead rows' None word n rest b l a))
    settle_arm n (Some v) b l (ahead a _) = none_both _ _ (long_ahead_value rows p word n rest b v l a) (long_ahead_value rows' None word n rest b v l a)
    settle_arm n v b l (help a _) = none_both _ _ (long_help rows p word n rest b v l a) (long_help rows' None word n rest b v l a)

    settle_word : bytes_eq word (codes "--") ≡ false → (l : Option (Text × Option Text)) → long_of word ≡ l → Settles
    settle_word b None l = none_both _ _ (other_refused rows p word rest b l) (other_refused rows' None word rest b l)
    settle_word b (Some q) l = settle_arm q.0 q.1 b l (arm q.0)

    settle_by : (b : Bool) → bytes_eq word (codes "--") ≡ b → Settles
    settle_by true b = end_word rows p word rest b ∙ settle_trailing rest ∙ ap (clear ks) (sym (end_word rows' None word rest b))
    settle_by false b = settle_word b (long_of word) refl

  pub settle : (words : List Text) → answer top (at rows p idle false) words ≡ clear ks (answer top (at rows' None idle false) words)
  settle [] = settle_end false
  settle (word ∷ rest) = settle_by word rest (bytes_eq word (codes "--")) refl

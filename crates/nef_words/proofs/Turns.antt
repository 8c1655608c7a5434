-- What each kind of word does to clap's walk.
use Rattle.nef_words.proofs.Prelude.{◌≡◌, ◌∙◌, ◌==◌, ℕ, zero, suc, Bool, true, false, List, [], ◌∷◌, length, Option, Some, None, refl, codes, inl, inr, ◌⊎◌, bytes_eq, slice_get, chars, long_of, short_of, Kinds, or_else, Row, Text, Held, idle, option, arg_by_id, arg_by_long, arg_by_short, arg_by_index, settled_rows, used, turn_fault, settle_fault, react_fault, Options}
use Rattle.clap.specs.declared.error.kind.ErrorKind.{ErrorKind}
use Rattle.clap.specs.Walk.{walked, bundle_met}
use Rattle.clap.specs.Faults.{flags_fault}
use Rattle.nef_words.proofs.Walked.{at, clear, answer, walk_step, rules, top, valued_rule, ahead_rule, last_rule}

pub data Opt : Type 0 where
  workers : Opt
  board : Opt
  stairs : Opt
  text : Opt

abbrev pub name : Opt → Text
name workers = codes "workers"
name board = codes "board"
name stairs = codes "stairs"
name text = codes "text"

abbrev pub held : List Row → Option (Text × List Text) → Held
held rows p = record { rows = rows; pending = p; skip = 0 }

abbrev pub settling : List Row → Option (Text × List Text) → Kinds
settling rows p = settle_fault rules false (held rows p)

pub by_id : (o : Opt) → arg_by_id rules (name o) ≡ Some (valued_rule (name o))
unfolding rules
by_id workers = refl
by_id board = refl
by_id stairs = refl
by_id text = refl

-- which option a long name is
pub data Arm (n : Text) : Type 0 where
  unknown : arg_by_long rules n ≡ None → bytes_eq (codes "workers") n ≡ false → bytes_eq (codes "board") n ≡ false → bytes_eq (codes "stairs") n ≡ false → bytes_eq (codes "text") n ≡ false → bytes_eq (codes "ahead") n ≡ false → Arm n
  valued : (o : Opt) → arg_by_long rules n ≡ Some (valued_rule (name o)) → bytes_eq (name o) n ≡ true → Arm n
  ahead : arg_by_long rules n ≡ Some ahead_rule → bytes_eq (codes "ahead") n ≡ true → Arm n
  help : arg_by_long rules n ≡ Some last_rule → bytes_eq (codes "help") n ≡ true → Arm n

pub arm : (n : Text) → Arm n
unfolding rules
arm n = go (bytes_eq (codes "workers") n) (bytes_eq (codes "board") n) (bytes_eq (codes "stairs") n) (bytes_eq (codes "text") n) (bytes_eq (codes "ahead") n) (bytes_eq (codes "help") n) refl refl refl refl refl refl
  where
    go : (a b c d e f : Bool) → bytes_eq (codes "workers") n ≡ a → bytes_eq (codes "board") n ≡ b → bytes_eq (codes "stairs") n ≡ c → bytes_eq (codes "text") n ≡ d → bytes_eq (codes "ahead") n ≡ e → bytes_eq (codes "help") n ≡ f → Arm n
    go true b c d e f p q r s t u = valued workers (rw p refl) p
    go false true c d e f p q r s t u = valued board (rw (p, q) refl) q
    go false false true d e f p q r s t u = valued stairs (rw (p, q, r) refl) r
    go false false false true e f p q r s t u = valued text (rw (p, q, r, s) refl) s
    go false false false false true f p q r s t u = ahead (rw (p, q, r, s, t) refl) t
    go false false false false false true p q r s t u = help (rw (p, q, r, s, t, u) refl) u
    go false false false false false false p q r s t u = unknown (rw (p, q, r, s, t, u) refl) p q r s t

pub short_arm : (x : ℕ) → (arg_by_short rules x ≡ None) ⊎ (arg_by_short rules x ≡ Some last_rule)
unfolding rules
short_arm x = go (104 == x) refl
  where
    go : (b : Bool) → (104 == x) ≡ b → (arg_by_short rules x ≡ None) ⊎ (arg_by_short rules x ≡ Some last_rule)
    go true e = inr (rw e refl)
    go false e = inl (rw e refl)

-- the command takes no plain words
pub stray : arg_by_index rules 1 ≡ None
unfolding rules
stray = refl

pub clear_or : (ks ls : Kinds) (x : Option Options) → clear (or_else ks ls) x ≡ clear ks (clear ls x)
clear_or [] ls x = refl
clear_or (k ∷ ks) ls x = refl

clear_nil : (ks : Kinds) (x : Option Options) → clear (or_else ks []) x ≡ clear ks x
clear_nil [] x = refl
clear_nil (k ∷ ks) x = refl

clear_fails : (ks : Kinds) (k : ErrorKind) (ls ms : Kinds) (x : Option Options) → clear (or_else (or_else ks (k ∷ ls)) ms) x ≡ None
clear_fails [] k ls ms x = refl
clear_fails (l ∷ ks) k ls ms x = refl

clear_fails_twice : (ks : Kinds) (k : ErrorKind) (ls ms ns : Kinds) (x : Option Options) → clear (or_else (or_else (or_else ks (k ∷ ls)) ms) ns) x ≡ None
clear_fails_twice [] k ls ms ns x = refl
clear_fails_twice (l ∷ ks) k ls ms ns x = refl

-- ---- a word that begins with `--`, where nothing waits
module _ (rows : List Row) (p : Option (Text × List Text)) (word n : Text) (rest : List Text) (b : bytes_eq word (codes "--") ≡ false) where
  pub long_unknown : (v : Option Text) → long_of word ≡ Some (n, v) → arg_by_long rules n ≡ None → answer top (at rows p idle false) (word ∷ rest) ≡ None
  long_unknown v l a = walk_step top (at rows p idle false) word rest ∙ rw (b, l, a) refl

  pub long_value : (o : Opt) (v : Text) → long_of word ≡ Some (n, Some v) → arg_by_long rules n ≡ Some (valued_rule (name o))
      → answer top (at rows p idle false) (word ∷ rest) ≡ clear (react_fault rules false (valued_rule (name o)) (v ∷ []) (held rows p)) (answer top (at (used (valued_rule (name o)) (v ∷ []) (settled_rows rules p rows)) None idle false) rest)
  unfolding walked
  long_value o v l a = walk_step top (at rows p idle false) word rest ∙ rw (b, l, a) (clear_nil (react_fault rules false (valued_rule (name o)) (v ∷ []) (held rows p)) (answer top (at (used (valued_rule (name o)) (v ∷ []) (settled_rows rules p rows)) None idle false) rest))

  pub long_waits : (o : Opt) → long_of word ≡ Some (n, None) → arg_by_long rules n ≡ Some (valued_rule (name o))
      → answer top (at rows p idle false) (word ∷ rest) ≡ clear (settling rows p) (answer top (at (settled_rows rules p rows) (Some (name o, [])) (option (name o)) false) rest)
  unfolding walked
  long_waits o l a = walk_step top (at rows p idle false) word rest ∙ rw (b, l, a) (clear_nil (settling rows p) (answer top (at (settled_rows rules p rows) (Some (name o, [])) (option (name o)) false) rest))

  pub long_ahead : long_of word ≡ Some (n, None) → arg_by_long rules n ≡ Some ahead_rule
      → answer top (at rows p idle false) (word ∷ rest) ≡ clear (react_fault rules false ahead_rule [] (held rows p)) (answer top (at (used ahead_rule [] (settled_rows rules p rows)) None idle false) rest)
  unfolding walked
  long_ahead l a = walk_step top (at rows p idle false) word rest ∙ rw (b, l, a) (clear_nil (react_fault rules false ahead_rule [] (held rows p)) (answer top (at (used ahead_rule [] (settled_rows rules p rows)) None idle false) rest))

  pub long_ahead_value : (v : Text) → long_of word ≡ Some (n, Some v) → arg_by_long rules n ≡ Some ahead_rule → answer top (at rows p idle false) (word ∷ rest) ≡ None
  long_ahead_value v l a = walk_step top (at rows p idle false) word rest ∙ rw (b, l, a) refl

  pub long_help : (v : Option Text) → long_of word ≡ Some (n, v) → arg_by_long rules n ≡ Some last_rule → answer top (at rows p idle false) (word ∷ rest) ≡ None
  long_help None l a = walk_step top (at rows p idle false) word rest ∙ rw (b, l, a) (clear_fails (settling rows p) _ _ _ _)
  long_help (Some v) l a = walk_step top (at rows p idle false) word rest ∙ rw (b, l, a) refl

-- any other word, where nothing waits
pub other_refused : (rows : List Row) (p : Option (Text × List Text)) (word : Text) (rest : List Text) → bytes_eq word (codes "--") ≡ false → long_of word ≡ None → answer top (at rows p idle false) (word ∷ rest) ≡ None
unfolding flags_fault bundle_met
other_refused rows p word rest b l = walk_step top (at rows p idle false) word rest ∙ go (short_of word) refl
  where
    arms : (flags : Text) (k x : ℕ) → short_of word ≡ Some flags → length flags ≡ suc k → slice_get (chars flags) 0 ≡ Some x → (arg_by_short rules x ≡ None) ⊎ (arg_by_short rules x ≡ Some last_rule)
        → clear (turn_fault top [] (at rows p idle false) word) (answer top (walked rules [] (at rows p idle false) word) rest) ≡ None
    arms flags k x e n c (inl a) = rw (b, l, e, n, c, a) refl
    arms flags k x e n c (inr a) = rw (b, l, e, n, c, a) (clear_fails_twice (settling rows p) _ _ _ _ _)

    ofs : (flags : Text) (k : ℕ) → short_of word ≡ Some flags → length flags ≡ suc k → (x : Option ℕ) → slice_get (chars flags) 0 ≡ x
        → clear (turn_fault top [] (at rows p idle false) word) (answer top (walked rules [] (at rows p idle false) word) rest) ≡ None
    ofs flags k e n None c = rw (b, l, e, n, c, stray) refl
    ofs flags k e n (Some x) c = arms flags k x e n c (short_arm x)

    of : (flags : Text) → short_of word ≡ Some flags → (k : ℕ) → length flags ≡ k
        → clear (turn_fault top [] (at rows p idle false) word) (answer top (walked rules [] (at rows p idle false) word) rest) ≡ None
    of flags e zero n = rw (b, l, e, n, stray) refl
    of flags e (suc k) n = ofs flags k e n (slice_get (chars flags) 0) refl

    go : (sh : Option Text) → short_of word ≡ sh → clear (turn_fault top [] (at rows p idle false) word) (answer top (walked rules [] (at rows p idle false) word) rest) ≡ None
    go None e = rw (b, l, e, stray) refl
    go (Some flags) e = of flags e (length flags) refl

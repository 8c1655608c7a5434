-- Words and bytes mean one thing, and a run does what is meant.
use Rattle.nef_statement.proofs.Prelude.{◌≡◌, ℕ, ◌+◌, ◌<◌, ◌≤◌, arith, refl, sym, ap, ◌∙◌, subst, List, [], ◌++◌, length, Option, Some, None, inl, inr, ◌⊎◌, append-nil, length-append, option_map, Set, TextVersion, Rose, Grows, GrowsWithin, lines_of, Options, options_in, ScriptKind, script_limit, FirstRefusal, IsAccepted, stairs_text, one_refusal, never_both, Status, Refused, Words, ReadFault, WriteFault, OutOfMemory, ReadSource, AreBytesRead, Means, refusal_line, AreSaid, WroteOf, IsMeant, WroteFront, Ended, Traffic}
use Rattle.std.specs.Io.KnownBytes.{Consumes, IsAtEnd}
use Rattle.nef_script.specs.declared.script.ScriptKind.TheVariants.{ScriptTooLong}
use Rattle.nef_statement.specs.Status.{EndsByItself}
use Rattle.nef_statement.proofs.Grown.{grows_within-all, grows_within-none}
use Rattle.nef_statement.proofs.One.{said-one}
use Rattle.nef_core.proofs.Facts.{none-not_some}

-- ---- what words choose
pub some-one : {X : Type 0} (o : Option X) (x y : X) → o ≡ Some x → o ≡ Some y → x ≡ y
some-one o x y e f = let g : Some x ≡ Some y = sym e ∙ f in cc

-- what is chosen without a value of `--stairs` has the source read
pub source-read : (words : List (List ℕ)) (o : Options) → options_in words ≡ Some o → o.stairs ≡ None → ReadSource words
source-read words o is none = ap (option_map (λ (p : Options). p.stairs)) is ∙ ap (λ (s : Option ℕ). Some s) none

pub read-none : (words : List (List ℕ)) (o : Options) → options_in words ≡ Some o → ReadSource words → o.stairs ≡ None
read-none words o is source = some-one _ o.stairs None (ap (option_map (λ (p : Options). p.stairs)) is) source

pub read-not_refused : (words : List (List ℕ)) → options_in words ≡ None → ReadSource words → ⊥
read-not_refused words out source = let e : None ≡ Some None = sym (ap (option_map (λ (p : Options). p.stairs)) out) ∙ source in cc

chosen-not_refused : (words : List (List ℕ)) (o : Options) → options_in words ≡ None → options_in words ≡ Some o → ⊥
chosen-not_refused words o out is = let e : None ≡ Some o = sym out ∙ is in cc

-- ---- the bytes of a source that tells them
-- it had bytes, and these were taken to its end
pub taken-whole : (bytes taken : List ℕ) (new : Option (List ℕ)) → Consumes (Some bytes) new taken → IsAtEnd new → bytes ≡ taken
taken-whole bytes taken None c e = absurd c
taken-whole bytes taken (Some rest) c e = c ∙ ap (λ z. taken ++ z) e ∙ append-nil taken

-- these were taken from its front
taken-front : (bytes taken : List ℕ) (new : Option (List ℕ)) → Consumes (Some bytes) new taken → length taken ≤ length bytes
taken-front bytes taken None c = absurd c
taken-front bytes taken (Some rest) c = let e = ap length c in omega (arith, length-append {A = ℕ})

-- a script with too many bytes is refused for that
first-long : (bytes : List ℕ) (line : ℕ) (kind : ScriptKind) → script_limit < length bytes → FirstRefusal bytes line kind → (line ≡ 0) × (kind ≡ ScriptTooLong)
first-long bytes line kind long (FirstRefusal.too_long h) = (refl, refl)
first-long bytes line kind long (FirstRefusal.at_line n k short here before) = absurd (omega arith)

-- the refusal of what was read is that of all that the source had
refused-whole : (bytes taken : List ℕ) (new : Option (List ℕ)) (line : ℕ) (kind : ScriptKind) → AreBytesRead (Some bytes) new taken → FirstRefusal taken line kind → FirstRefusal bytes line kind
refused-whole bytes taken new line kind read refused = elim read.1 [
  | inl end ↦ subst (λ z. FirstRefusal z line kind) (sym (taken-whole bytes taken new read.0 end)) refused
  | inr long ↦
      let longer = taken-front bytes taken new read.0 in
      let is = first-long taken line kind (omega arith) refused in
      subst (λ z. FirstRefusal bytes z kind) (sym is.0) (subst (FirstRefusal bytes 0) (sym is.1) (FirstRefusal.too_long (omega arith)))
]

-- what was read and is accepted is all of it
accepted-whole : (bytes taken : List ℕ) (new : Option (List ℕ)) → AreBytesRead (Some bytes) new taken → IsAccepted taken → taken ≡ bytes
accepted-whole bytes taken new read accepted = elim read.1 [
  | inl end ↦ sym (taken-whole bytes taken new read.0 end)
  | inr long ↦ absurd (let short = accepted.short in omega (arith, short, long))
]

module _ (Text : TextVersion → Set → List ℕ → Type 0) where
  -- what is meant with the bytes that were read is meant with all that the source had
  pub meant-whole : (words : List (List ℕ)) (io : Traffic) (bytes : List ℕ) (s : Status) (x : List ℕ) → (ReadSource words → io.before.rest ≡ Some bytes) → IsMeant Text words io s x → Means Text words bytes s x
  meant-whole words io bytes s x told (taken, read, meant) = by meant
    where
      read-of : ReadSource words → AreBytesRead (Some bytes) io.after.rest taken
      read-of source = subst (λ z. AreBytesRead z io.after.rest taken) (told source) (read source)

      by : {s : Status} {x : List ℕ} → Means Text words taken s x → Means Text words bytes s x
      by (Means.refused_words out) = Means.refused_words out
      by (Means.refused line kind source first) = Means.refused line kind source (refused-whole bytes taken io.after.rest line kind (read-of source) first)
      by (Means.worked o y is none accepted said) =
          let same = accepted-whole bytes taken io.after.rest (read-of (source-read words o is none)) accepted in
          Means.worked o y is none (subst IsAccepted same accepted) (subst (λ z. AreSaid (Text o.text) [] (lines_of z) y) same said)
      by (Means.generated o n y is some said) = Means.generated o n y is some said

  module _ (one : (version : TextVersion) (s : Set) (x y : List ℕ) → Text version s x → Text version s y → x ≡ y) where
    -- what texts of one choice say of the same lines is one
    chosen-one : (words : List (List ℕ)) (o p : Options) (lines : List (List ℕ)) (x y : List ℕ) → options_in words ≡ Some o → options_in words ≡ Some p → AreSaid (Text o.text) [] lines x → AreSaid (Text p.text) [] lines y → x ≡ y
    chosen-one words o p lines x y is also h k =
        let same = some-one (options_in words) p o also is in
        said-one (Text o.text) (one o.text) [] lines x y h (subst (λ (q : Options). AreSaid (Text q.text) [] lines y) same k)

    stairs-one : (words : List (List ℕ)) (o p : Options) (m n : ℕ) → options_in words ≡ Some o → options_in words ≡ Some p → o.stairs ≡ Some m → p.stairs ≡ Some n → m ≡ n
    stairs-one words o p m n is also e f =
        let same = some-one (options_in words) p o also is in
        some-one o.stairs m n e (subst (λ (q : Options). q.stairs ≡ Some n) same f)

    stairs-other : (words : List (List ℕ)) (o p : Options) (n : ℕ) → options_in words ≡ Some o → options_in words ≡ Some p → o.stairs ≡ None → p.stairs ≡ Some n → ⊥
    stairs-other words o p n is also e f =
        let same = some-one (options_in words) p o also is in
        none-not_some o.stairs n e (subst (λ (q : Options). q.stairs ≡ Some n) same f)

    -- WORDS AND BYTES MEAN ONE THING
    pub meaning-one : (words : List (List ℕ)) (bytes : List ℕ) {s : Status} {x : List ℕ} {t : Status} {y : List ℕ} → Means Text words bytes s x → Means Text words bytes t y → (s ≡ t) × (x ≡ y)
    meaning-one words bytes (Means.refused_words out) (Means.refused_words out') = (refl, refl)
    meaning-one words bytes (Means.refused_words out) (Means.refused l k source first) = absurd (read-not_refused words out source)
    meaning-one words bytes (Means.refused_words out) (Means.worked o y is none accepted said) = absurd (chosen-not_refused words o out is)
    meaning-one words bytes (Means.refused_words out) (Means.generated o n y is some said) = absurd (chosen-not_refused words o out is)
    meaning-one words bytes (Means.refused l k source first) (Means.refused_words out) = absurd (read-not_refused words out source)
    meaning-one words bytes (Means.refused l k source first) (Means.refused m j source' first') =
        let same = one_refusal bytes l m k j first first' in
        (ap (λ z. Refused z k) same.0 ∙ ap (Refused m) same.1, ap (λ z. refusal_line z k) same.0 ∙ ap (refusal_line m) same.1)
    meaning-one words bytes (Means.refused l k source first) (Means.worked o y is none accepted said) = absurd (never_both bytes l k first accepted)
    meaning-one words bytes (Means.refused l k source first) (Means.generated o n y is some said) = absurd (none-not_some o.stairs n (read-none words o is source) some)
    meaning-one words bytes (Means.worked o x is none accepted said) (Means.refused_words out) = absurd (chosen-not_refused words o out is)
    meaning-one words bytes (Means.worked o x is none accepted said) (Means.refused l k source first) = absurd (never_both bytes l k first accepted)
    meaning-one words bytes (Means.worked o x is none accepted said) (Means.worked p y also none' accepted' said') = (refl, chosen-one words o p (lines_of bytes) x y is also said said')
    meaning-one words bytes (Means.worked o x is none accepted said) (Means.generated p n y also some said') = absurd (stairs-other words o p n is also none some)
    meaning-one words bytes (Means.generated o n x is some said) (Means.refused_words out) = absurd (chosen-not_refused words o out is)
    meaning-one words bytes (Means.generated o n x is some said) (Means.refused l k source first) = absurd (none-not_some o.stairs n (read-none words o is source) some)
    meaning-one words bytes (Means.generated o n x is some said) (Means.worked p y also none accepted said') = absurd (stairs-other words p o n also is none some)
    meaning-one words bytes (Means.generated o m x is some said) (Means.generated p n y also some' said') =
        (refl, chosen-one words o p (lines_of (stairs_text m)) x y is also said (subst (λ z. AreSaid (Text p.text) [] (lines_of (stairs_text z)) y) (stairs-one words p o n m also is some' some) said'))

    -- ---- a run does what is meant
    module _ (words : List (List ℕ)) (bytes output : List ℕ) (meant : Status) (io : Traffic) (means : Means Text words bytes meant output) where
      -- what the run's status and output are, by what it read
      same-meant : (s : Status) (x : List ℕ) → (ReadSource words → io.before.rest ≡ Some bytes) → IsMeant Text words io s x → (s ≡ meant) × (x ≡ output)
      same-meant s x told is = meaning-one words bytes (meant-whole words io bytes s x told is) means

      pub ends-so : {status : Status} → Ended Text words io status → (ReadSource words → (io.before.rest ≡ Some bytes) × (Rose io.before.read_faults io.after.read_faults → ⊥)) → (Rose io.before.write_faults io.after.write_faults → ⊥) → (status ≡ meant) ⊎ (status ≡ OutOfMemory)
      ends-so (Ended.by_itself s x is grown) told quiet = inl (same-meant s x (λ source. (told source).0) is).0
      ends-so (Ended.read_fault source rose nothing) told quiet = absurd ((told source).1 rose)
      ends-so (Ended.write_fault rose front) told quiet = absurd (quiet rose)
      ends-so (Ended.out_of_memory wrote) told quiet = inr refl

      abbrev HasWritten : Status → Type 0
      HasWritten status = WroteOf output status io × (EndsByItself status → status ≡ meant)

      module _ (told : ReadSource words → io.before.rest ≡ Some bytes) where
        nothing-written : (status : Status) → (EndsByItself status → ⊥) → io.after.written ≡ io.before.written → HasWritten status
        nothing-written status cut same = ((subst (λ z. GrowsWithin io.before.written z output) (sym same) (grows_within-none io.before.written output), λ own. absurd (cut own)), λ own. absurd (cut own))

        front-written : (status : Status) → (EndsByItself status → ⊥) → WroteFront Text words io → HasWritten status
        front-written status cut (s, x, is, within) = ((subst (λ z. GrowsWithin io.before.written io.after.written z) (same-meant s x told is).1 within, λ own. absurd (cut own)), λ own. absurd (cut own))

        pub written-so : {status : Status} → Ended Text words io status → HasWritten status
        written-so (Ended.by_itself s x is grown) =
            let same = same-meant s x told is in
            let all = subst (λ z. Grows io.before.written io.after.written z) same.1 grown in
            ((grows_within-all io.before.written io.after.written output all, λ own. all), λ own. same.0)
        written-so (Ended.read_fault source rose nothing) = nothing-written ReadFault (λ own. own) nothing
        written-so (Ended.write_fault rose front) = front-written WriteFault (λ own. own) front
        written-so (Ended.out_of_memory (inl nothing)) = nothing-written OutOfMemory (λ own. own) nothing
        written-so (Ended.out_of_memory (inr front)) = front-written OutOfMemory (λ own. own) front

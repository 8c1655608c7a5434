-- Every words and bytes mean something, and two runs that are asked for the same do the same.
use Rattle.nef_statement.proofs.Prelude.{◌≡◌, ℕ, ◌≤◌, refl, sym, ap, ◌∙◌, subst, List, [], Option, Some, None, inl, inr, Set, TextVersion, lines_of, Options, options_in, IsAccepted, stairs_text, decided, Status, Done, Refused, Words, ReadSource, Means, refusal_line, words_line, AreSaid, OneMeaning, AsMeant, AskTheSame, SameOutput, SameStatus, Traffic}
use Rattle.nef_words.proofs.Formed.{stairs-within}
use Rattle.nef_script.proofs.StairLines.{stairs-accepted}
use Rattle.nef_statement.proofs.Meant.{some-one, source-read, read-none, read-not_refused, meaning-one, written-so}

module _ (Text : TextVersion → Set → List ℕ → Type 0) (one : (version : TextVersion) (s : Set) (x y : List ℕ) → Text version s x → Text version s y → x ≡ y)
    (some : (version : TextVersion) (bytes : List ℕ) → IsAccepted bytes → (x : List ℕ) × AreSaid (Text version) [] (lines_of bytes) x) where
  -- ---- a meaning
  abbrev HasMeaning : List (List ℕ) → List ℕ → Type 0
  HasMeaning words bytes = (s : Status) × (x : List ℕ) × Means Text words bytes s x

  script-means : (words : List (List ℕ)) (bytes : List ℕ) (o : Options) → options_in words ≡ Some o → (s : Option ℕ) → o.stairs ≡ s → HasMeaning words bytes
  script-means words bytes o is None none = elim (decided bytes) [
    | inl accepted ↦ (let (x, said) = some o.text bytes accepted in (Done, x, Means.worked o x is none accepted said))
    | inr (line, kind, first) ↦ (Refused line kind, refusal_line line kind, Means.refused line kind (source-read words o is none) first)
  ]
  script-means words bytes o is (Some n) boxes =
      let within = stairs-within words o n is boxes in
      let (x, said) = some o.text (stairs_text n) (stairs-accepted n within.0 within.1) in
      (Done, x, Means.generated o n x is boxes said)

  some-meaning : (words : List (List ℕ)) (bytes : List ℕ) → HasMeaning words bytes
  some-meaning words bytes = by (options_in words) refl
    where
      by : (c : Option Options) → options_in words ≡ c → HasMeaning words bytes
      by None out = (Words, words_line, Means.refused_words out)
      by (Some o) is = script-means words bytes o is o.stairs refl

  pub one-meaning : OneMeaning Text
  one-meaning words bytes = let (s, x, means) = some-meaning words bytes in (s, x, means, λ t y also. meaning-one Text one words bytes means also)

  -- ---- runs
  pub as-meant : AsMeant Text
  as-meant words bytes output meant status io means run told = written-so Text one words bytes output meant io means told run.ended

  -- words that choose the same version and the same script mean the same
  means-too : (words words' : List (List ℕ)) (o o' : Options) (bytes : List ℕ) → options_in words ≡ Some o → options_in words' ≡ Some o' → o.text ≡ o'.text → o.stairs ≡ o'.stairs → {s : Status} {x : List ℕ} → Means Text words bytes s x → Means Text words' bytes s x
  means-too words words' o o' bytes is is' text stairs (Means.refused_words out) = absurd (let e : None ≡ Some o = sym out ∙ is in cc)
  means-too words words' o o' bytes is is' text stairs (Means.refused line kind source first) = Means.refused line kind (source-read words' o' is' (sym stairs ∙ read-none words o is source)) first
  means-too words words' o o' bytes is is' text stairs (Means.worked p x also none accepted said) =
      let same = some-one (options_in words) p o also is in
      Means.worked o' x is' (sym stairs ∙ subst (λ (q : Options). q.stairs ≡ None) same none) accepted (subst (λ z. AreSaid (Text z) [] (lines_of bytes) x) (ap (λ (q : Options). q.text) same ∙ text) said)
  means-too words words' o o' bytes is is' text stairs (Means.generated p n x also boxes said) =
      let same = some-one (options_in words) p o also is in
      Means.generated o' n x is' (sym stairs ∙ subst (λ (q : Options). q.stairs ≡ Some n) same boxes) (subst (λ z. AreSaid (Text z) [] (lines_of (stairs_text n)) x) (ap (λ (q : Options). q.text) same ∙ text) said)

  -- what both are asked for
  record Shared (words words' : List (List ℕ)) (io io' : Traffic) : Type 0 where
    bytes : List ℕ
    meant : Status
    output : List ℕ
    means : Means Text words bytes meant output
    other_means : Means Text words' bytes meant output
    told : ReadSource words → io.before.rest ≡ Some bytes
    other_told : ReadSource words' → io'.before.rest ≡ Some bytes

  shared : (words words' : List (List ℕ)) (io io' : Traffic) → AskTheSame words words' io io' → Shared words words' io io'
  shared words words' io io' (AskTheSame.of_words out out') = record {
    bytes = [];
    meant = Words;
    output = words_line;
    means = Means.refused_words out;
    other_means = Means.refused_words out';
    told = λ source. absurd (read-not_refused words out source);
    other_told = λ source. absurd (read-not_refused words' out' source);
  }
  shared words words' io io' (AskTheSame.of_script o o' bytes is is' text stairs both) =
      let (s, x, means) = some-meaning words bytes in
      record {
        bytes = bytes;
        meant = s;
        output = x;
        means = means;
        other_means = means-too words words' o o' bytes is is' text stairs means;
        told = λ source. (both (read-none words o is source)).0;
        other_told = λ source. (both (stairs ∙ read-none words' o' is' source)).1;
      }

  pub same-output : SameOutput Text
  same-output words words' status status' io io' run run' same =
      let h = shared words words' io io' same in
      (h.output, (as-meant words h.bytes h.output h.meant status io h.means run h.told).0, (as-meant words' h.bytes h.output h.meant status' io' h.other_means run' h.other_told).0)

  pub same-status : SameStatus Text
  same-status words words' status status' io io' run run' same own own' =
      let h = shared words words' io io' same in
      (as-meant words h.bytes h.output h.meant status io h.means run h.told).1 own ∙ sym ((as-meant words' h.bytes h.output h.meant status' io' h.other_means run' h.other_told).1 own')

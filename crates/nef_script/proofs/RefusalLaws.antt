-- A script is accepted or has one first refusal.
use Rattle.nef_script.proofs.Prelude.{◌≡◌, ℕ, zero, suc, ◌+◌, ◌≤◌, List, [], length, take, get_or, Option, Some, None, ◌⊎◌, inl, inr, refl, sym, ◌∙◌, ap, subst, arith, cases_lt, slice_get_within, slice_get-get_or, lines_of, script_limit, line_refusal, names_of, RefusalAt, NoneRefused, FirstRefusal, IsAccepted, CommandsFound, OneRefusal, NeverBoth, AcceptedOrRefused, ScriptKind}
use Rattle.nef_script.specs.declared.arguments.Verb.TheVariants as verb
use Rattle.nef_script.specs.declared.script.ScriptKind.TheVariants as kind
use Rattle.nef_script.proofs.LineByLine.{passes_more}

-- a line has one first kind, or none
refusal_same : (lines : List (List ℕ)) (n : ℕ) (r s : Option ScriptKind) → RefusalAt lines n r → RefusalAt lines n s → r ≡ s
refusal_same lines n r s (line, at, is) (other, at_other, is_other) =
    let found : Some line ≡ Some other = sym at ∙ at_other in
    let same : line ≡ other = cc in
    sym is ∙ ap (line_refusal (names_of (take n lines))) same ∙ is_other

same_line : (lines : List (List ℕ)) (m n : ℕ) (j k : ScriptKind) → RefusalAt lines m (Some j) → RefusalAt lines n (Some k) → NoneRefused lines m → NoneRefused lines n → (m + 1 ≡ n + 1) × (j ≡ k)
same_line lines m n j k at_m at_n before_m before_n = elim (cases_lt m n) [
  | inl earlier ↦ (let odd = refusal_same lines m (Some j) None at_m (before_n m earlier) in cc)
  | inr past ↦ elim (cases_lt n m) [
    | inl later ↦ (let odd = refusal_same lines n (Some k) None at_n (before_m n later) in cc)
    | inr back ↦ (
        let here : m ≡ n = omega arith in
        let both = refusal_same lines n (Some j) (Some k) (subst (λ i. RefusalAt lines i (Some j)) here at_m) at_n in
        let kinds : j ≡ k = cc in
        (ap (λ i. i + 1) here, kinds))
  ]
]

pub one_refusal : OneRefusal
one_refusal bytes _ _ _ _ (FirstRefusal.too_long long) (FirstRefusal.too_long other) = (refl, refl)
one_refusal bytes _ _ _ _ (FirstRefusal.too_long long) (FirstRefusal.at_line n k short at before) = absurd (omega arith)
one_refusal bytes _ _ _ _ (FirstRefusal.at_line m j short at before) (FirstRefusal.too_long long) = absurd (omega arith)
one_refusal bytes _ _ _ _ (FirstRefusal.at_line m j short at before) (FirstRefusal.at_line n k short_n at_n before_n) = same_line (lines_of bytes) m n j k at at_n before before_n

pub never_both : NeverBoth
never_both bytes _ _ (FirstRefusal.too_long long) accepted = (let short = accepted.short in absurd (omega arith))
never_both bytes _ _ (FirstRefusal.at_line n k short at before) accepted =
    let within = slice_get_within (lines_of bytes) n at.0 at.1 in
    let odd = refusal_same (lines_of bytes) n (Some k) None at (accepted.passes n within) in
    cc

-- the first lines pass, or one of them is the first that is refused
abbrev Scanned : List (List ℕ) → ℕ → Type 0
Scanned lines n = NoneRefused lines n ⊎ ((m : ℕ) × (k : ScriptKind) × RefusalAt lines m (Some k) × NoneRefused lines m)

scan_next : (lines : List (List ℕ)) (n : ℕ) (r : Option ScriptKind) → RefusalAt lines n r → NoneRefused lines n → Scanned lines (n + 1)
scan_next lines n None here before = inl (passes_more lines n before here)
scan_next lines n (Some k) here before = inr (n, k, here, before)

scan : (lines : List (List ℕ)) (n : ℕ) → n ≤ length lines → Scanned lines n
scan lines zero le = inl (λ m below. absurd (omega arith))
scan lines (suc n) le = elim (scan lines n (omega arith)) [
  | inl before ↦ (
      let at = slice_get-get_or lines n [] (omega arith) in
      let step : n + 1 ≡ suc n = omega arith in
      subst (Scanned lines) step (scan_next lines n (line_refusal (names_of (take n lines)) (get_or lines n [])) (get_or lines n [], at, refl) before))
  | inr found ↦ inr found
]

decide_short : (bytes : List ℕ) → length bytes ≤ script_limit → IsAccepted bytes ⊎ ((n : ℕ) × (k : ScriptKind) × FirstRefusal bytes n k)
decide_short bytes short = elim (scan (lines_of bytes) (length (lines_of bytes)) (omega arith)) [
  | inl passes ↦ inl (record { short = short; passes = passes })
  | inr found ↦ inr (found.0 + 1, found.1, FirstRefusal.at_line found.0 found.1 short found.2 found.3)
]

pub decided : AcceptedOrRefused
decided bytes = elim (cases_lt script_limit (length bytes)) [
  | inl long ↦ inr (0, kind.ScriptTooLong, FirstRefusal.too_long long)
  | inr short ↦ decide_short bytes short
]

-- the word of each command
pub commands_found : CommandsFound
commands_found verb.Half = refl
commands_found verb.Empty = refl
commands_found verb.Full = refl
commands_found verb.And = refl
commands_found verb.Or = refl
commands_found verb.Diff = refl
commands_found verb.Xor = refl
commands_found verb.Not = refl
commands_found verb.Int = refl
commands_found verb.Cl = refl
commands_found verb.Bd = refl
commands_found verb.Reg = refl
commands_found verb.Turn = refl
commands_found verb.Has = refl
commands_found verb.Joined = refl
commands_found verb.Ray = refl
commands_found verb.Same = refl
commands_found verb.Count = refl
commands_found verb.Print = refl

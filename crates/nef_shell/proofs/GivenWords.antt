-- The words behind the program's name, from what the environment gave.
use Rattle.nef_shell.proofs.Prelude.{◌≡◌, ℕ, refl, sym, ap, subst, ◌∙◌, arith, List, [], ◌∷◌, None, map, Result, Ok, Err, string_bytes, drop, IsOkAnd, IsErrAnd, Status, Done, Refused, Words, ReadFault, WriteFault, OutOfMemory, status_code, Traffic, RunSays, ProgramSays, IsText, RunEnds}
use Rattle.std.specs.Vec.Iter.{into_iter_items}
use Rattle.std.specs.IoError.{error_kind}
use Rattle.std.specs.declared.io.Error.{Error}
use Rattle.std.specs.declared.io.ErrorKind.TheVariants.{InvalidData}
use Rattle.std.specs.declared.vec.IntoIter.{IntoIter}
use Rattle.std.specs.declared.vec.Vec.{Vec}
use Rattle.std.specs.declared.string.String.{String}
use Rattle.nef_words.specs.Grammar.{read, options_in}
use Rattle.nef_words.specs.declared.words.WordsFault.{WordsFault}
use Rattle.nef_words.specs.declared.words.WordsFault.TheVariants as fault
use Rattle.nef_shell.specs.Program.{IsCollected, ProgramEnds}

abbrev IsRefused : {X : Type 0} → Result X WordsFault → Type 0
IsRefused (Ok words) = ⊥
IsRefused (Err fault.Refused) = Unit {0}
IsRefused (Err fault.OutOfMemory) = ⊥

-- the words but the first
pub words-given : {X Y Z : Type 0} (line : Result (IntoIter X Y) Error) (all : Result (Vec X Z) Error) (words : List X) → IsCollected line all → IsOkAnd all (λ v. words ≡ drop 1 v.items) → (it : IntoIter X Y) × (line ≡ Ok it) × (words ≡ drop 1 (into_iter_items it))
words-given (Ok it) (Ok all) words same is = (it, refl, is ∙ ap (λ z. drop 1 z) same)
words-given (Ok it) (Err e) words same is = absurd same
words-given (Err e) (Ok all) words same is = absurd same
words-given (Err e) (Err f) words same is = absurd is

-- words that aren't text
pub no-text : {X Y Z : Type 0} (line : Result (IntoIter X Y) Error) (all : Result (Vec X Z) Error) → IsCollected line all → IsErrAnd all (λ e. error_kind e ≡ InvalidData) → (error : Error) × (line ≡ Err error) × (error_kind error ≡ InvalidData)
no-text (Ok it) (Ok all) same is = absurd is
no-text (Ok it) (Err e) same is = absurd same
no-text (Err e) (Ok all) same is = absurd same
no-text (Err e) (Err f) same is = (e, refl, ap error_kind (sym same) ∙ is)

-- a line that has a word that isn't text tells so of what was had of it
pub still-no-text : {X Y Z : Type 0} (line : Result (IntoIter X Y) Error) (all : Result (Vec X Z) Error) → IsCollected line all → (error : Error) → line ≡ Err error → error_kind error ≡ InvalidData → IsErrAnd all (λ e. error_kind e ≡ InvalidData)
still-no-text line all same error is none = kept line all same (subst (λ z. IsErrAnd z (λ e. error_kind e ≡ InvalidData)) (sym is) none) where
  kept : {X Y Z : Type 0} (line : Result (IntoIter X Y) Error) (all : Result (Vec X Z) Error) → IsCollected line all → IsErrAnd line (λ e. error_kind e ≡ InvalidData) → IsErrAnd all (λ e. error_kind e ≡ InvalidData)
  kept (Ok it) all same none = absurd none
  kept (Err e) (Ok all) same none = absurd same
  kept (Err e) (Err f) same none = ap error_kind same ∙ none

-- one fault isn't the other
pub refused-alone : {X : Type 0} (words : Result X WordsFault) → words ≡ Err fault.Refused → words ≡ Err fault.OutOfMemory → ⊥
refused-alone words refused wanted = subst IsRefused (sym refused ∙ wanted) tt

-- the exit status 0 is that of a run that is done
done-alone : (s : Status) → status_code s ≡ 0 → s ≡ Done
done-alone Done e = refl
done-alone (Refused l k) e = absurd (omega (arith, e))
done-alone Words e = absurd (omega (arith, e))
done-alone ReadFault e = absurd (omega (arith, e))
done-alone WriteFault e = absurd (omega (arith, e))
done-alone OutOfMemory e = absurd (omega (arith, e))

-- what the program says, and what it ends with
abbrev pub HasSaid : {Y Z : Type 0} → Result (IntoIter (String Y) Z) Error → ℕ → Traffic → Type 0
HasSaid line code io = ProgramSays IsText line code io × ProgramEnds line code io

-- of one that ran with the words behind its name
pub ended-run : {Y Z : Type 0} (line : Result (IntoIter (String Y) Z) Error) (code : ℕ) (io : Traffic) (it : IntoIter (String Y) Z) (words : List (List ℕ)) (status : Status) → line ≡ Ok it → words ≡ map string_bytes (drop 1 (into_iter_items it))
    → RunSays IsText words status io → RunEnds words status io → code ≡ status_code status → HasSaid line code io
ended-run line code io it words status given same says ends is = (
  ProgramSays.ran it status given (subst (λ z. RunSays IsText z status io) same says) is,
  λ them also zero.
      let one : Ok it ≡ Ok them = sym given ∙ also in
      let them_is : it ≡ them = cc in
      let done = done-alone status (sym is ∙ zero) in
      subst (λ z. RunEnds z Done io) (same ∙ ap (λ z. map string_bytes (drop 1 (into_iter_items z))) them_is) (subst (λ z. RunEnds words z io) done ends),
)

-- the empty word is refused
pub empty-refused : options_in ([] ∷ []) ≡ None
unfolding options_in read
empty-refused = refl

-- of one that refused its words, of which one isn't text
pub ended-refused : {Y Z : Type 0} (line : Result (IntoIter (String Y) Z) Error) (code : ℕ) (io : Traffic) (error : Error) (words : List (List ℕ)) (status : Status) → line ≡ Err error → error_kind error ≡ InvalidData → options_in words ≡ None → RunSays IsText words status io
    → (status ≡ OutOfMemory → ⊥) → code ≡ status_code status → HasSaid line code io
ended-refused line code io error refused status given kind out says other is = (ProgramSays.no_text error refused status given kind out says other is, λ words also zero. absurd (let f : Err error ≡ Ok words = sym given ∙ also in cc))

-- of one that found no memory for its words
pub ended-wanting : {Y Z : Type 0} (line : Result (IntoIter (String Y) Z) Error) (code : ℕ) (io : Traffic) → ((error : Error) → line ≡ Err error → error_kind error ≡ InvalidData → ⊥) → io.after ≡ io.before → code ≡ status_code OutOfMemory
    → HasSaid line code io
ended-wanting line code io other same is = (ProgramSays.no_memory other same is, λ words also zero. absurd (let f = sym is ∙ zero in omega (arith, f)))

-- The statement, and the laws beside it.
use Rattle.nef_statement.proofs.Prelude.{◌≡◌, ℕ, ap, ◌∙◌, List, [], ◌++◌, take, TextVersion, Set, lines_of, IsAccepted, AreSaid, OneOutput, FirstLinesSay, OneMeaning, AsMeant, SameOutput, SameStatus, Statement, IsText}
use Rattle.nef_statement.proofs.Meant.{ends-so}
use Rattle.nef_statement.proofs.One.{said-one, first-said}
use Rattle.nef_statement.proofs.Runs.{one-meaning, as-meant, same-output, same-status}
use Rattle.nef_statement.proofs.SomeOutput.{some-output}
use Rattle.nef_statement.proofs.Texts.{text-says, one-text}
use Rattle.law_geometry.proofs.near.SameSets.{same-self}

text-one : (version : TextVersion) (s : Set) (x y : List ℕ) → IsText version s x → IsText version s y → x ≡ y
text-one version s x y h k = (one-text version s s x y h k).1 (same-self s)

pub one-output : OneOutput IsText
one-output version lines = said-one (IsText version) (text-one version) [] lines

-- what the first lines of an accepted script say is a front of its output
pub whole-output : (version : TextVersion) (bytes : List ℕ) (count : ℕ) (y : List ℕ) → IsAccepted bytes → AreSaid (IsText version) [] (take count (lines_of bytes)) y → (x : List ℕ) × (rest : List ℕ) × AreSaid (IsText version) [] (lines_of bytes) x × (x ≡ y ++ rest)
whole-output version bytes count y accepted first =
    let (x, said) = some-output version bytes accepted in
    let (z, rest, also, e) = first-said (IsText version) [] (lines_of bytes) count x said in
    (x, rest, said, e ∙ ap (λ (w : List ℕ). w ++ rest) (one-output version (take count (lines_of bytes)) z y also first))

the-output : (version : TextVersion) (bytes : List ℕ) → IsAccepted bytes → (x : List ℕ) × AreSaid (IsText version) [] (lines_of bytes) x × ((y : List ℕ) → AreSaid (IsText version) [] (lines_of bytes) y → x ≡ y)
the-output version bytes accepted = let (x, said) = some-output version bytes accepted in (x, said, λ y also. one-output version (lines_of bytes) x y said also)

pub statement : Statement IsText
statement = record {
  one_text = one-text;
  text_says = text-says;
  the_output = the-output;
  completes = λ words bytes output meant status io means run. ends-so IsText text-one words bytes output meant io means run.ended;
}

-- ---- the laws beside it
pub first-lines : FirstLinesSay IsText
first-lines version lines count x said = first-said (IsText version) [] lines count x said

pub meaning : OneMeaning IsText
meaning = one-meaning IsText text-one some-output

pub meant : AsMeant IsText
meant = as-meant IsText text-one some-output

pub output-shared : SameOutput IsText
output-shared = same-output IsText text-one some-output

pub status-shared : SameStatus IsText
status-shared = same-status IsText text-one some-output

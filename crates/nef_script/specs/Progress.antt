-- How far a script is read.
use Rattle.std.specs.Prelude.{◌≡◌, ℕ, ◌+◌, List, ◌++◌, Some, length, slice_get}
use Rattle.std.specs.List.{All, enumerate_from}
use Rattle.nef_script.specs.Refusal.{names_of, NoneRefused}
use Rattle.nef_script.specs.Meaning.{MeansLines, SpeaksOfFirst, bases_of}
use Rattle.nef_script.specs.Commands.{AreBoundBefore, IsBound, TurnsRight}
use Rattle.nef_script.specs.Reading.{ReadState, IsSoundState, sets_of}

-- the lines that are read have this state, and the lines that are left have these numbers
pub record HasRead (lines : List (List ℕ)) (left : List (ℕ × List ℕ)) (s : ReadState) : Type 0 where
  pub done : List (List ℕ)
  pub rest : List (List ℕ)
  pub split : lines ≡ done ++ rest
  pub left_are : left ≡ enumerate_from (length done + 1) rest
  pub names_are : s.names ≡ names_of done
  pub bases_are : s.table.bases ≡ bases_of done
  pub sound : IsSoundState s
  pub passes : NoneRefused lines (length done)
  pub means : MeansLines done (sets_of s) s.commands
  pub within : All (SpeaksOfFirst (length s.table.nodes)) s.commands
  pub turns : All (TurnsRight s.table.nodes) s.commands
  pub before : AreBoundBefore s.table.nodes s.commands
  pub bound : (i k : ℕ) → slice_get s.bound i ≡ Some k → IsBound s.commands k

-- What is written while steps are worked.
use Rattle.std.specs.Prelude.{◌≡◌, ℕ, List, Option, Result, OnOk, IfErr, take}
use Rattle.nef_core.specs.declared.work.TextVersion.{TextVersion}
use Rattle.nef_plan.specs.Prelude.{Node, Command}
use Rattle.nef_io.specs.Bytes.{Rose, Grows, GrowsWithin}
use Rattle.nef_statement.specs.declared.status.Status.{Status}
use Rattle.nef_shell.specs.Output.{IsOutput}
use Rattle.nef_shell.specs.Status.{MatchStatus}

-- the output of all commands was written
abbrev pub HasWrittenAll : TextVersion → List Node → List Command → Option (List ℕ) → Option (List ℕ) → Type 0
HasWrittenAll version nodes cs before after = (output : List ℕ) × IsOutput version nodes cs output × Grows before after output

-- a front of the output of some number of the first commands was
abbrev pub FrontOf : TextVersion → List Node → List Command → Option (List ℕ) → Option (List ℕ) → Type 0
FrontOf version nodes cs before after = (count : ℕ) × (output : List ℕ) × IsOutput version nodes (take count cs) output × GrowsWithin before after output

-- how the work of commands ends: their output was written, and no count of faults rose; or a front of it was, where a write failed, or memory was wanted and no count rose
pub record WorkEnds {A : Type 0} (version : TextVersion) (nodes : List Node) (commands : List Command) (before after : Option (List ℕ)) (faults faults' : ℕ) (result : Result A Status) : Type 0 where
  pub done : OnOk result (HasWrittenAll version nodes commands before after)
  pub quiet : OnOk result (faults' ≡ faults)
  pub stopped : IfErr result (λ status. MatchStatus status ⊥ (λ line kind. ⊥) ⊥ ⊥ (Rose faults faults') (faults' ≡ faults))
  pub front : IfErr result (λ _. FrontOf version nodes commands before after)

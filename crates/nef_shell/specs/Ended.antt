-- What a run that is done has written, for those who take apart what it prints.
use Rattle.std.specs.Prelude.{◌≡◌, ℕ, List}
use Rattle.nef_statement.specs.declared.status.Status.{Status}
use Rattle.nef_statement.specs.declared.status.Status.TheVariants.{Done}
use Rattle.nef_statement.specs.Traffic.{Traffic}
use Rattle.nef_shell.specs.Answers.{HasOutput}
use Rattle.nef_shell.specs.Prints.{AreTextsCompared, AreTextsMeant}

pub record RunEnds (words : List (List ℕ)) (status : Status) (io : Traffic) : Type 0 where
  -- the output of the script's commands
  pub done : status ≡ Done → HasOutput words io
  -- of such output: of any two texts that are printed, they are equal exactly where their sets are the same; and a point of the frame belongs to what a text spells exactly
  -- where the set holds
  pub compared : (h : HasOutput words io) → AreTextsCompared h.options.text h.nodes h.commands h.output
  pub meant : (h : HasOutput words io) → AreTextsMeant h.options.text h.nodes h.commands h.output

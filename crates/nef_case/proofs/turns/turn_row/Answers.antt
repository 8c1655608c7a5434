use Rattle.nef_case.proofs.TurnTables.{row-entries, row-is, row-one}
use Rattle.nef_case.proofs.turns.turn_row.Goals as goal

pub returns : goal.returns
returns c = record {
  entries = row-entries c.args.k c.requires.turn;
  row = row-is c.args.k c.requires.turn;
  only = row-one c.args.k c.requires.turn;
}

use Rattle.nef_case.proofs.TurnTables.{inverse-is, inverse-only}
use Rattle.nef_case.proofs.turns.turn_inverse.Goals as goal

pub returns : goal.returns
returns c =
    let one = inverse-is c.args.k c.requires.turn in
    record { below = one.below; undoes = one.undoes; undone = one.undone; only = inverse-only c.args.k _ one }

use Rattle.nef_board.proofs.Prelude.{arith}
use Rattle.nef_board.proofs.Opens.{sound_of}
use Rattle.nef_board.proofs.state.BoardState.new.Goals as goal

pub returns-clause-sound : goal.returns-clause-sound
returns-clause-sound g c = sound_of c.args.jobs _ _ _ _ c.in_ok-machine.ensures.machine c.in_ok-history.ensures.items c.in_ok-results.ensures.items (let a = c.in_ok-history.ensures.capacity in omega arith)

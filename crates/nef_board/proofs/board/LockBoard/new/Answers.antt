use Rattle.nef_board.proofs.Opens.{opens}
use Rattle.nef_board.proofs.board.LockBoard.new.Goals as goal

pub new-requires-2 : goal.new-requires-2
new-requires-2 g c =
    let state = c.in_ok-state.ensures in
    opens _ _ _ _ _ _ c.as_slice.ensures (rw c.in_ok-slots.ensures.items at c.push_reserved.ensures.items) state.machine state.results state.sound c.requires

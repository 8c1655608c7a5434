use Rattle.nef_free.proofs.Prelude.{arith}
use Rattle.nef_free.proofs.Ends.{opens}
use Rattle.nef_free.proofs.board.FreeBoard.new.Goals as goal

pub vacant-requires : goal.vacant-requires
vacant-requires g c =
    let more = c.in-Some.ensures.1 in
    let items = c.in_ok-words.ensures.items_if_clones_equal (λ y h. h) in
    let len = c.in_ok-words.ensures.len in
    let ok = c.in_ok-words.words.ok in
    let small = c.in_ok-words.words.small in
    rw (c.as_slice.ensures.value, items, more) (opens _ _ _ (let b = c.ranges.seats.fits in omega arith) c.requires)

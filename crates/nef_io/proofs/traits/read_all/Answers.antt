use Rattle.nef_io.proofs.Prelude.{◌++◌, take, arith, length-append}
use Rattle.std.proofs.KnownBytes.{Consumes-trans}
use Rattle.std.proofs.lemmas.List.{length-take}
use Rattle.nef_io.proofs.traits.read_all.Goals as goal

-- the last read's bytes were taken and not kept
pub returns-in_err-extend_from_slice-clause-before_memory :
    goal.returns-in_err-extend_from_slice-clause-before_memory
returns-in_err-extend_from_slice-clause-before_memory g c out =
    let given = take c.in-Ok.taken c.read.new.buf in
    let kept = c.read.auto.buf in
    let offered = length-take c.min-room.result c.loop-buf.buf in (
      c.loop-buf.all.items ++ given,
      Consumes-trans _ _ _ _ _ c.loop-buf.invariant.bytes c.in-Ok.ensures.bytes,
      rw (length-append c.loop-buf.all.items given, length-take c.in-Ok.taken c.read.new.buf)
          (omega (arith, c.loop-buf.all.ok.0, kept, offered, c.min-room.ensures, c.len.ensures, c.loop-buf-test.true, c.len-in-loop-buf.ensures)),
    )

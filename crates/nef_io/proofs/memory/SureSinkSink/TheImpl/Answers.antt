use Rattle.nef_io.proofs.Prelude.{refl, take-length}
use Rattle.std.proofs.Math.Nat.{le_refl}
use Rattle.nef_io.proofs.Told.{Grows-written_of}
use Rattle.nef_io.proofs.memory.SureSinkSink.TheImpl.Goals as goal

pub write-tells : goal.write-tells
write-tells g c = record {
  within = rw c.ensures.takes (c.requires, le_refl _);
  bytes = rw (c.ensures.takes, take-length c.args.piece.now) (Grows-written_of _ _ _ c.ensures.kept c.ensures.lost);
  failed = rw c.ensures.takes tt;
  quiet = rw c.ensures.takes refl;
  count = le_refl _;
}

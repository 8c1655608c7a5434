use Rattle.nef_shell.proofs.Prelude.{◌∙◌, refl, sym, slice_get_read}
use Rattle.nef_shell.proofs.Kept.{there-of}
use Rattle.nef_shell.proofs.values.is_there.Goals as goal

pub returns : goal.returns
returns g c = record { there = λ is. there-of _ c.index-places-k.result (slice_get_read c.args.places.now _ c.args.k c.index-places-k.result refl c.requires.within c.index-places-k.is) (sym c.is_some.ensures ∙ is) }

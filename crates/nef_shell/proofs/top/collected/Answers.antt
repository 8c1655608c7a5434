use Rattle.nef_shell.proofs.Prelude.{refl, YieldsList-from_vec}
use Rattle.std.proofs.lemmas.Iterator.{items_from_collect}
use Rattle.nef_shell.proofs.top.collected.Goals as goal

pub returns-in_ok-collect-in-Ok : goal.returns-in_ok-collect-in-Ok
returns-in_ok-collect-in-Ok c =
    let items = items_from_collect c.collect.result c.collect.ensures.ran (YieldsList-from_vec _ refl c.in-Ok.args.rest.ok.0) in
    record { words = rw c.in-Ok.is (rw c.in_ok-collect-in-Ok.was at items); memory = λ failed. rw c.in-Ok.is refl }

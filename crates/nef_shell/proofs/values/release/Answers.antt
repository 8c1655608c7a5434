use Rattle.nef_shell.proofs.Prelude.{◌≡◌, ◌∙◌, ◌<◌, arith, length, sym}
use Rattle.nef_shell.proofs.Kept.{cleared-length, let-less, let-gone}
use Rattle.nef_shell.proofs.Operands.{some-of}
use Rattle.nef_shell.proofs.Sets.{looks-first, looks-second}
use Rattle.nef_shell.proofs.values.release.Goals as goal

pub let_go-requires : goal.let_go-requires
let_go-requires c = record { within = some-of _ _ (λ k is. c.requires.within k (looks-first c.args.step.now.task k (sym c.looked_at-first.ensures.first ∙ is))) }

pub let_go-requires-2 : goal.let_go-requires-2
let_go-requires-2 c =
    let count = cleared-length c.args.step.now.ends_first c.looked_at-first.result.0 c.args.values.now c.let_go.new.values c.let_go.ensures.cleared in
    record { within = some-of c.looked_at-first.result.1 (λ k. k < length c.let_go.new.values) (λ k is. let low = c.requires.within k (looks-second c.args.step.now.task k (sym c.looked_at-first.ensures.second ∙ is)) in omega (arith, low, count)) }

pub returns-clause-less : goal.returns-clause-less
returns-clause-less c =
    let looked = c.looked_at-first.ensures in
    let-less c.args.step.now c.args.now _ _ c.args.values.now c.let_go.new.values c.let_go-2.new.values c.let_go-3.new.values looked.first looked.second c.let_go.ensures.cleared c.let_go-2.ensures.cleared c.let_go-3.ensures.cleared

pub returns-clause-gone : goal.returns-clause-gone
returns-clause-gone c k =
    let looked = c.looked_at-first.ensures in
    let-gone c.args.step.now c.args.now _ _ c.args.values.now c.let_go.new.values c.let_go-2.new.values c.let_go-3.new.values looked.first looked.second c.let_go.ensures.cleared c.let_go-2.ensures.cleared c.let_go-3.ensures.cleared k

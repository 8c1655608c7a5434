use Rattle.nef_smap.proofs.Prelude.{rules, FitsSigned}
use mir.Syntax.{w128}
use Rattle.nef_smap.proofs.LargeNumbers.{linear-read}
use Rattle.nef_smap.proofs.meets.Linear.sign.Goals as goal

pub returns : goal.returns
returns c =
    let l = c.args.self.now in
    let f : FitsSigned w128 c.leading.result = search rules in
    let g : FitsSigned w128 l.factor = search rules in
    let h : FitsSigned w128 l.rest = search rules in
    record { sign = linear-read c.of.result c.leading.result l.factor l.rest f g h c.of.ensures.sign c.leading.ensures.leading }

-- A turned direction is in lowest terms.
use Rattle.nef_turn.proofs.Prelude.{sym, subst, direction_limit, Vector, IsAtMost, IsDirection, SameDirection, vector_of}
use Rattle.nef_turn.proofs.Exact.{dir-words, dir-small, dir-some, dir-one}
use Rattle.nef_turn.proofs.turning.turned_dir.Goals as goal

pub reduced-requires : goal.reduced-requires
reduced-requires c =
    let k = c.args.turn.now.number in let d = c.args.d.now in
    let e = dir-words k d c.turned-x.result c.x.result c.y.result c.z.result c.turned-x.ensures.turned c.x.ensures.x c.y.ensures.y c.z.ensures.z in
    record { small = subst (IsAtMost direction_limit) (sym e) (dir-small k d); some = subst IsDirection (sym e) (dir-some k d) }

pub returns : goal.returns
returns c =
    let k = c.args.turn.now.number in let d = c.args.d.now in let r = c.reduced.result in
    let e = dir-words k d c.turned-x.result c.x.result c.y.result c.z.result c.turned-x.ensures.turned c.x.ensures.x c.y.ensures.y c.z.ensures.z in
    record { turned = dir-one k d r (subst (λ (v : Vector). SameDirection v (vector_of r)) e c.reduced.ensures.same) }

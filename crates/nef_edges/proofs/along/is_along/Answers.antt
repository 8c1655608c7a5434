use Rattle.nef_edges.proofs.Prelude.{rules, point_limit}
use Rattle.nef_edges.proofs.Ways.{along-step, read}
use Rattle.nef_edges.proofs.along.is_along.Goals as goal

pub step-x-requires : goal.step-x-requires
step-x-requires c = record { a_small = read point_limit c.x.result _ (record { sfits = c.x.type_inv }) c.x.ensures.x c.args.p.now.x_small; b_small = read point_limit c.x-2.result _ (record { sfits = c.x-2.type_inv }) c.x-2.ensures.x c.args.q.now.x_small }

pub step-y-requires : goal.step-y-requires
step-y-requires c = record { a_small = read point_limit c.y.result _ (record { sfits = c.y.type_inv }) c.y.ensures.y c.args.p.now.y_small; b_small = read point_limit c.y-2.result _ (record { sfits = c.y-2.type_inv }) c.y-2.ensures.y c.args.q.now.y_small }

pub step-z-requires : goal.step-z-requires
step-z-requires c = record { a_small = read point_limit c.z.result _ (record { sfits = c.z.type_inv }) c.z.ensures.z c.args.p.now.z_small; b_small = read point_limit c.z-2.result _ (record { sfits = c.z-2.type_inv }) c.z-2.ensures.z c.args.q.now.z_small }

pub returns : goal.returns
returns c =
    let x = c.step-x in let y = c.step-y in let z = c.step-z in
    record { along = λ t. along-step c.args.p.now c.args.q.now c.args.dir.now x.result y.result z.result (search (rules, c.if-w.false)) (search rules) (search rules) (search rules) x.ensures.small y.ensures.small z.ensures.small (c.is_multiple.ensures.multiple t) }

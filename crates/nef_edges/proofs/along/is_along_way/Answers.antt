use Rattle.nef_edges.proofs.Prelude.{sym, ◌∙◌, w64, point_limit, direction_limit}
use Rattle.nef_edges.proofs.Products.{kept, weight-small}
use Rattle.nef_edges.proofs.Ways.{along-way, difference-read, handed, read}
use Rattle.nef_edges.proofs.along.is_along_way.Goals as goal

pub minor-x-requires : goal.minor-x-requires
minor-x-requires c = record { a_small = read point_limit c.x.result _ (record { sfits = c.x.type_inv }) c.x.ensures.x c.args.q.now.x_small; b_small = read point_limit c.x-2.result _ (record { sfits = c.x-2.type_inv }) c.x-2.ensures.x c.args.p.now.x_small; e_small = handed w64 direction_limit c.w-v.result (record { sfits = c.w-v.type_inv }) (weight-small c.args.q.now c.w-v.result c.w-v.ensures.w); f_small = handed w64 direction_limit c.w-w.result (record { sfits = c.w-w.type_inv }) (weight-small c.args.p.now c.w-w.result c.w-w.ensures.w) }

pub minor-y-requires : goal.minor-y-requires
minor-y-requires c = record { a_small = read point_limit c.y.result _ (record { sfits = c.y.type_inv }) c.y.ensures.y c.args.q.now.y_small; b_small = read point_limit c.y-2.result _ (record { sfits = c.y-2.type_inv }) c.y-2.ensures.y c.args.p.now.y_small; e_small = handed w64 direction_limit c.w-v.result (record { sfits = c.w-v.type_inv }) (weight-small c.args.q.now c.w-v.result c.w-v.ensures.w); f_small = handed w64 direction_limit c.w-w.result (record { sfits = c.w-w.type_inv }) (weight-small c.args.p.now c.w-w.result c.w-w.ensures.w) }

pub minor-z-requires : goal.minor-z-requires
minor-z-requires c = record { a_small = read point_limit c.z.result _ (record { sfits = c.z.type_inv }) c.z.ensures.z c.args.q.now.z_small; b_small = read point_limit c.z-2.result _ (record { sfits = c.z-2.type_inv }) c.z-2.ensures.z c.args.p.now.z_small; e_small = handed w64 direction_limit c.w-v.result (record { sfits = c.w-v.type_inv }) (weight-small c.args.q.now c.w-v.result c.w-v.ensures.w); f_small = handed w64 direction_limit c.w-w.result (record { sfits = c.w-w.type_inv }) (weight-small c.args.p.now c.w-w.result c.w-w.ensures.w) }

pub returns : goal.returns
returns c =
    let x = c.minor-x in let y = c.minor-y in let z = c.minor-z in
    let ex = sym (kept x.result x.ensures.small) ∙ difference-read x.result c.x.result c.w-w.result c.x-2.result c.w-v.result _ _ _ _ (record { sfits = x.type_inv }) (record { sfits = c.x.type_inv }) (record { sfits = c.w-w.type_inv }) (record { sfits = c.x-2.type_inv }) (record { sfits = c.w-v.type_inv }) c.x.ensures.x c.w-w.ensures.w c.x-2.ensures.x c.w-v.ensures.w x.ensures.minor in
    let ey = sym (kept y.result y.ensures.small) ∙ difference-read y.result c.y.result c.w-w.result c.y-2.result c.w-v.result _ _ _ _ (record { sfits = y.type_inv }) (record { sfits = c.y.type_inv }) (record { sfits = c.w-w.type_inv }) (record { sfits = c.y-2.type_inv }) (record { sfits = c.w-v.type_inv }) c.y.ensures.y c.w-w.ensures.w c.y-2.ensures.y c.w-v.ensures.w y.ensures.minor in
    let ez = sym (kept z.result z.ensures.small) ∙ difference-read z.result c.z.result c.w-w.result c.z-2.result c.w-v.result _ _ _ _ (record { sfits = z.type_inv }) (record { sfits = c.z.type_inv }) (record { sfits = c.w-w.type_inv }) (record { sfits = c.z-2.type_inv }) (record { sfits = c.w-v.type_inv }) c.z.ensures.z c.w-w.ensures.w c.z-2.ensures.z c.w-v.ensures.w z.ensures.minor in
    record { along = λ t. along-way c.args.p.now c.args.q.now c.args.dir.now x.result y.result z.result ex ey ez x.ensures.small y.ensures.small z.ensures.small (c.is_multiple.ensures.multiple t) }

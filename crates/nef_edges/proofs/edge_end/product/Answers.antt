use Rattle.nef_edges.proofs.Prelude.{point_limit, direction_limit, moment_limit}
use mir.Syntax.{w128}
use Rattle.nef_edges.proofs.Ways.{handed, read, difference-read}
use Rattle.nef_edges.proofs.edge_end.product.Goals as goal

pub minor-requires : goal.minor-requires
minor-requires c = record { a_small = read point_limit c.y.result _ (record { sfits = c.y.type_inv }) c.y.ensures.y c.args.point.now.y_small; b_small = read point_limit c.z.result _ (record { sfits = c.z.type_inv }) c.z.ensures.z c.args.point.now.z_small; e_small = read direction_limit c.y-2.result _ (record { sfits = c.y-2.type_inv }) c.y-2.ensures.y c.args.dir.now.y_small; f_small = read direction_limit c.z-2.result _ (record { sfits = c.z-2.type_inv }) c.z-2.ensures.z c.args.dir.now.z_small }

pub minor-requires-2 : goal.minor-requires-2
minor-requires-2 c = record { a_small = read point_limit c.z-3.result _ (record { sfits = c.z-3.type_inv }) c.z-3.ensures.z c.args.point.now.z_small; b_small = read point_limit c.x.result _ (record { sfits = c.x.type_inv }) c.x.ensures.x c.args.point.now.x_small; e_small = read direction_limit c.z-4.result _ (record { sfits = c.z-4.type_inv }) c.z-4.ensures.z c.args.dir.now.z_small; f_small = read direction_limit c.x-2.result _ (record { sfits = c.x-2.type_inv }) c.x-2.ensures.x c.args.dir.now.x_small }

pub minor-requires-3 : goal.minor-requires-3
minor-requires-3 c = record { a_small = read point_limit c.x-3.result _ (record { sfits = c.x-3.type_inv }) c.x-3.ensures.x c.args.point.now.x_small; b_small = read point_limit c.y-3.result _ (record { sfits = c.y-3.type_inv }) c.y-3.ensures.y c.args.point.now.y_small; e_small = read direction_limit c.x-4.result _ (record { sfits = c.x-4.type_inv }) c.x-4.ensures.x c.args.dir.now.x_small; f_small = read direction_limit c.y-4.result _ (record { sfits = c.y-4.type_inv }) c.y-4.ensures.y c.args.dir.now.y_small }

pub returns-clause-x : goal.returns-clause-x
returns-clause-x c = difference-read c.minor.result c.y.result c.z-2.result c.z.result c.y-2.result _ _ _ _ (record { sfits = c.minor.type_inv }) (record { sfits = c.y.type_inv }) (record { sfits = c.z-2.type_inv }) (record { sfits = c.z.type_inv }) (record { sfits = c.y-2.type_inv }) c.y.ensures.y c.z-2.ensures.z c.z.ensures.z c.y-2.ensures.y c.minor.ensures.minor

pub returns-clause-y : goal.returns-clause-y
returns-clause-y c = difference-read c.minor-2.result c.z-3.result c.x-2.result c.x.result c.z-4.result _ _ _ _ (record { sfits = c.minor-2.type_inv }) (record { sfits = c.z-3.type_inv }) (record { sfits = c.x-2.type_inv }) (record { sfits = c.x.type_inv }) (record { sfits = c.z-4.type_inv }) c.z-3.ensures.z c.x-2.ensures.x c.x.ensures.x c.z-4.ensures.z c.minor-2.ensures.minor

pub returns-clause-z : goal.returns-clause-z
returns-clause-z c = difference-read c.minor-3.result c.x-3.result c.y-4.result c.y-3.result c.x-4.result _ _ _ _ (record { sfits = c.minor-3.type_inv }) (record { sfits = c.x-3.type_inv }) (record { sfits = c.y-4.type_inv }) (record { sfits = c.y-3.type_inv }) (record { sfits = c.x-4.type_inv }) c.x-3.ensures.x c.y-4.ensures.y c.y-3.ensures.y c.x-4.ensures.x c.minor-3.ensures.minor

pub returns-clause-x_small : goal.returns-clause-x_small
returns-clause-x_small c = handed w128 moment_limit c.minor.result (record { sfits = c.minor.type_inv }) c.minor.ensures.small

pub returns-clause-y_small : goal.returns-clause-y_small
returns-clause-y_small c = handed w128 moment_limit c.minor-2.result (record { sfits = c.minor-2.type_inv }) c.minor-2.ensures.small

pub returns-clause-z_small : goal.returns-clause-z_small
returns-clause-z_small c = handed w128 moment_limit c.minor-3.result (record { sfits = c.minor-3.type_inv }) c.minor-3.ensures.small

use Rattle.nef_stopo.proofs.Prelude.{◌∙◌, forms, raw-shows_op, map_of, raw_of, op_label}
use Rattle.std.specs.Prelude.{◌++◌}
use Rattle.law_geometry.proofs.sphere.building.Chosen.{op-labels}
use Rattle.nef_stopo.proofs.Cones.{cone-by_op}
use Rattle.nef_stopo.proofs.operations.combine.Goals as goal

pub build-requires-clause-labels : goal.build-requires-clause-labels
build-requires-clause-labels c =
    let A = map_of c.args.a.now in
    let B = map_of c.args.b.now in
    let V = c.requires.first.valid in
    let W = c.requires.second.valid in
    let o = op-labels A B (op_label c.args.op) V W in
    (forms A ++ forms B, o.0, o.1, raw-shows_op A B (op_label c.args.op) (raw_of c.in_ok-raw.raw) o.0 V W c.in_ok-raw.ensures.raw o.2)

pub returns-clause-labels : goal.returns-clause-labels
returns-clause-labels c d l f = c.in_ok-map.ensures.op (map_of c.args.a.now) (map_of c.args.b.now) (op_label c.args.op) c.requires.first.valid c.requires.second.valid c.in_ok-raw.ensures.raw d l f

pub returns-clause-cone : goal.returns-clause-cone
returns-clause-cone c s t p K L =
    let A = map_of c.args.a.now in
    let B = map_of c.args.b.now in
    let R = c.in_ok-raw.ensures.raw in
    cone-by_op c.args.op A B (map_of c.in_ok-map.map) s t p c.in_ok-map.ensures.least.sphere_map.valid (c.in_ok-map.ensures.mark ∙ R.mark)
    (λ d l f. c.in_ok-map.ensures.op A B (op_label c.args.op) c.requires.first.valid c.requires.second.valid R d l f) K L

use Rattle.nef_edges.proofs.Prelude.{moment_limit, direction_limit, w64}
use Rattle.nef_edges.proofs.Ways.{handed, equal-products}
use mir.Syntax.{w128}
use Rattle.std.proofs.lemmas.Bool.{eqb-true}
use Rattle.nef_edges.proofs.along.is_flat.Goals as goal

pub scaled-requires : goal.scaled-requires
scaled-requires c = record { n_small = handed w128 moment_limit c.args.a c.ranges.a c.requires.a_small; m_small = handed w64 direction_limit c.args.f c.ranges.f c.requires.f_small }

pub scaled-requires-2 : goal.scaled-requires-2
scaled-requires-2 c = record { n_small = handed w128 moment_limit c.args.b c.ranges.b c.requires.b_small; m_small = handed w64 direction_limit c.args.e c.ranges.e c.requires.e_small }

pub returns : goal.returns
returns c =
    let r = c.scaled in
    let s = c.scaled-2 in
    record { flat = λ t. equal-products w128 c.args.a c.args.b c.args.e c.args.f r.result s.result c.ranges.a c.ranges.b c.ranges.e c.ranges.f (record { sfits = r.type_inv }) (record { sfits = s.type_inv }) r.ensures.scaled s.ensures.scaled (eqb-true _ _ t) }

use Rattle.nef_smap.proofs.Prelude.{refl, vector_of}
use Rattle.nef_smap.proofs.Joining.{cross-level, plane-some}
use Rattle.nef_smap.proofs.item.on_circle.Goals as goal

pub returns-in-Some-clause-on : goal.returns-in-Some-clause-on
returns-in-Some-clause-on c = record {
  direction = c.in-Some.d.some;
  level = cross-level (vector_of c.args.normal.now) (vector_of c.axis_x.result) (vector_of c.in-Some.d) c.in-Some.ensures.cross;
}

pub common_perpendicular-requires-clause-apart : goal.common_perpendicular-requires-clause-apart
common_perpendicular-requires-clause-apart c =
    plane-some (vector_of c.args.normal.now) (vector_of c.axis_x.result) (vector_of c.axis_y.result) c.args.normal.now.some c.axis_x.ensures.axis c.axis_y.ensures.axis (c.in_default.ensures.none.0 refl)

pub returns-clause-on : goal.returns-clause-on
returns-clause-on c = record {
  direction = c.common_perpendicular.result.some;
  level = cross-level (vector_of c.args.normal.now) (vector_of c.axis_y.result) (vector_of c.common_perpendicular.result) c.common_perpendicular.ensures.cross;
}

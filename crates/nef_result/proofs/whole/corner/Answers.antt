use Rattle.nef_result.proofs.Prelude.{pos, ◌<ℤ◌, arith, refl, sym, subst, inl, inr, ints, Lies, Vector, axes, IsWall}
use Rattle.nef_result.proofs.CornerMaps.{corner-of, corner-place}
use Rattle.nef_result.proofs.whole.corner.Goals as goal

pub wall-x_wall-requires : goal.wall-x_wall-requires
wall-x_wall-requires c = record { axis = subst (Lies axes) (sym c.axis_x.ensures.axis) (inl refl) }

pub wall-y_wall-requires : goal.wall-y_wall-requires
wall-y_wall-requires c = record { axis = subst (Lies axes) (sym c.axis_y.ensures.axis) (inr (inl refl)) }

pub wall-z_wall-requires : goal.wall-z_wall-requires
wall-z_wall-requires c = record { axis = subst (Lies axes) (sym c.axis_z.ensures.axis) (inr (inr (inl refl))) }

pub returns : goal.returns
returns c =
    let l = c.args.label in
    let one : pos 0 <ℤ pos 1 = omega (arith, ints) in
    record {
      corner = corner-of l c.args.x c.args.y c.args.z c.wall-x_wall.result c.wall-y_wall.result c.wall-z_wall.result c.in_ok-two_walls.two_walls c.in_ok-map.map c.of.result
          (subst (λ (n : Vector). IsWall n c.args.x l c.wall-x_wall.result) c.axis_x.ensures.axis c.wall-x_wall.ensures.wall)
          (subst (λ (n : Vector). IsWall n c.args.y l c.wall-y_wall.result) c.axis_y.ensures.axis c.wall-y_wall.ensures.wall)
          (subst (λ (n : Vector). IsWall n c.args.z l c.wall-z_wall.result) c.axis_z.ensures.axis c.wall-z_wall.ensures.wall)
          c.in_ok-two_walls.ensures.mark c.in_ok-two_walls.ensures.labels c.in_ok-map.ensures.mark c.in_ok-map.ensures.labels c.in_ok-map.ensures.least
          (corner-place c.args.x c.args.y c.args.z c.end.result c.end-2.result c.end-3.result c.of.result one c.end.ensures.end c.end-2.ensures.end c.end-3.ensures.end (c.of.ensures.same one));
    }

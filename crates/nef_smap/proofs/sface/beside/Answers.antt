use Rattle.nef_smap.proofs.Prelude.{◌≡◌, ◌≢◌, rules, cross, dot, up, vector_of, Zero}
use Rattle.nef_smap.proofs.Axes.{zero-of, off-of, axes-nought, up-triple}
use Rattle.nef_smap.proofs.sface.beside.Goals as goal

pub returns-then-ne-clause-off : goal.returns-then-ne-clause-off
returns-then-ne-clause-off c =
    let d = vector_of c.args.d.now in
    let off : c.triple.result ≢ Zero = search rules in
    off-of c.triple.result (dot (cross up d) (vector_of c.axis_x-x.result)) (up-triple c.triple.result (vector_of c.up-up.result) d (vector_of c.axis_x-x.result) c.triple.ensures.triple c.up-up.ensures.up) off

pub returns-then-ne-2-clause-off : goal.returns-then-ne-2-clause-off
returns-then-ne-2-clause-off c =
    let d = vector_of c.args.d.now in
    let off : c.triple-2.result ≢ Zero = search rules in
    off-of c.triple-2.result (dot (cross up d) (vector_of c.axis_y-y.result)) (up-triple c.triple-2.result (vector_of c.up-up.result) d (vector_of c.axis_y-y.result) c.triple-2.ensures.triple c.up-up.ensures.up) off

pub returns-clause-off : goal.returns-clause-off
returns-clause-off c =
    let d = vector_of c.args.d.now in
    let x : c.triple.result ≡ Zero = search rules in
    let y : c.triple-2.result ≡ Zero = search rules in
    λ z. c.requires.apart (axes-nought (cross up d) (vector_of c.axis_x-x.result) (vector_of c.axis_y-y.result) (vector_of c.axis_z.result) c.axis_x-x.ensures.axis c.axis_y-y.ensures.axis c.axis_z.ensures.axis
    (zero-of c.triple.result (dot (cross up d) (vector_of c.axis_x-x.result)) (up-triple c.triple.result (vector_of c.up-up.result) d (vector_of c.axis_x-x.result) c.triple.ensures.triple c.up-up.ensures.up) x)
    (zero-of c.triple-2.result (dot (cross up d) (vector_of c.axis_y-y.result)) (up-triple c.triple-2.result (vector_of c.up-up.result) d (vector_of c.axis_y-y.result) c.triple-2.ensures.triple c.up-up.ensures.up) y) z)

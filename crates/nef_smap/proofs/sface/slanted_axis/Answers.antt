use Rattle.nef_smap.proofs.Prelude.{◌≡◌, ◌≢◌, pos, rules, arith, subst, sym, ◌∙◌, ints, Vector, dot, vector_of, axis_x, axis_y, axis_z}
use Rattle.nef_smap.proofs.sface.slanted_axis.Goals as goal

-- the product with an axis is a number of the direction
along : (d a e : Vector) → a ≡ e → dot d a ≡ pos 0 → dot d e ≡ pos 0
along d a e f h = subst (λ (w : Vector). dot d w ≡ pos 0) f h

pub returns-then-x-ne0-clause-off : goal.returns-then-x-ne0-clause-off
returns-then-x-ne0-clause-off c z =
    let d = vector_of c.args.d.now in
    let some : c.x-x.result ≢ pos 0 = search rules in
    let e : dot d axis_x ≡ pos 0 = along d (vector_of c.axis_x.result) axis_x c.axis_x.ensures.axis z in
    let n : d.x ≡ pos 0 = omega (arith, ints) in
    some (c.x-x.ensures.x ∙ n)

pub returns-then-y-ne0-clause-off : goal.returns-then-y-ne0-clause-off
returns-then-y-ne0-clause-off c z =
    let d = vector_of c.args.d.now in
    let some : c.y-y.result ≢ pos 0 = search rules in
    let e : dot d axis_y ≡ pos 0 = along d (vector_of c.axis_y.result) axis_y c.axis_y.ensures.axis z in
    let n : d.y ≡ pos 0 = omega (arith, ints) in
    some (c.y-y.ensures.y ∙ n)

pub returns-clause-off : goal.returns-clause-off
returns-clause-off c z =
    let d = vector_of c.args.d.now in
    let x : c.x-x.result ≡ pos 0 = search rules in
    let y : c.y-y.result ≡ pos 0 = search rules in
    let e : dot d axis_z ≡ pos 0 = along d (vector_of c.axis_z.result) axis_z c.axis_z.ensures.axis z in
    let n : d.z ≡ pos 0 = omega (arith, ints) in
    c.args.d.now.some (sym c.x-x.ensures.x ∙ x, sym c.y-y.ensures.y ∙ y, n)

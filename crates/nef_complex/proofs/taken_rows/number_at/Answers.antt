use Rattle.nef_complex.proofs.Prelude.{ℕ, List, length, refl, sym, ◌∙◌, slice_get_read, Vertex}
use Rattle.nef_complex.proofs.SamePoints.{points-tested}
use Rattle.nef_complex.proofs.taken_rows.number_at.Goals as goal

pub returns-then-eq : goal.returns-then-eq
returns-then-eq c =
    let vs : List Vertex = c.args.vertices.now in
    let k : ℕ = c.loop-number.number in
    let v : Vertex = c.index-vertices-number.result in
    record { at = (v, slice_get_read vs (length vs) k v refl c.loop-number-test.true c.index-vertices-number.is, points-tested v.point c.args.point.now (sym c.eq.ensures ∙ c.if-eq.true)) }

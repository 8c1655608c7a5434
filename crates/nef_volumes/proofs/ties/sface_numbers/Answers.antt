use Rattle.nef_volumes.proofs.Prelude.{ℕ, List, [], ◌∷◌, ◌+◌, ◌++◌, ap, sym, ◌∙◌, subst, vertex_of, complex_of}
use Rattle.nef_volumes.proofs.ReadVertex.{vertex-there}
use Rattle.nef_volumes.proofs.SfaceTies.{AreSfacesTo, sfaces-more}
use Rattle.nef_volumes.proofs.ties.sface_numbers.Goals as goal

pub sfaces-requires : goal.sfaces-requires
sfaces-requires c = record { map = (c.requires.shows.1.maps c.loop-vertex.vertex c.at.result.now c.at.ensures.element).sphere_map }

pub loop-vertex-preserved : goal.loop-vertex-preserved
loop-vertex-preserved c =
    let C = complex_of c.args.c.now in
    let i = c.loop-vertex.vertex in
    let u = c.at.result.now in
    let rows : List (List ℕ) = c.loop-vertex.rows in
    let ns : List ℕ = c.in_ok-numbers.numbers.items in
    subst (λ (rs : List (List ℕ)). AreSfacesTo C (i + 1) rs) (sym (c.in_ok-push.ensures.ok ∙ ap (λ (ms : List ℕ). rows ++ ms ∷ []) c.from_vec.ensures.all))
    (sfaces-more C i rows (vertex_of u) ns (vertex-there c.args.c.now i u c.at.ensures.element) c.in_ok-numbers.ensures.faces c.loop-vertex.invariant)

use Rattle.nef_canon.proofs.Prelude.{◌≡◌, List, ℕ, ◌++◌, ap, ◌∙◌, on_ok_weaker, flat_map, vertex_line, svertex_line, arc_line, sloop_line}
use Rattle.nef_smap.specs.declared.map.SVertex.{SVertex}
use Rattle.nef_smap.specs.declared.map.SArc.{SArc}
use Rattle.nef_smap.specs.declared.map.SLoop.{SLoop}
use Rattle.nef_canon.proofs.Lines.{four-pieces, as-list}
use Rattle.nef_canon.proofs.text.add_vertex.Goals as goal

pub returns : goal.returns
returns c =
    let o : List ℕ = c.args.text.now.items in
    let v = c.args.v.now in
    let s : List ℕ = c.add_line.new.text.items in
    let t : List ℕ = c.add_each.new.text.items in
    let apex : s ≡ o ++ vertex_line v = c.in_ok-add_line.ensures.added in
    let svertices = c.in_ok-add_each.ensures.added svertex_line (λ before item outcome after p. p) ∙ ap (λ (vs : List SVertex). s ++ flat_map svertex_line vs) c.as_slice.ensures.all in
    let arcs = c.in_ok-add_each-2.ensures.added arc_line (λ before item outcome after p. p) ∙ ap (λ (ks : List SArc). t ++ flat_map arc_line ks) c.as_slice-2.ensures.all in
    let u : List ℕ = c.add_each-2.new.text.items in
    let sloop = ap (λ (ls : List SLoop). u ++ flat_map sloop_line ls) (as-list v.map.sloop c.as_slice-3.result.now c.as_slice-3.ensures) in
    record {
      added = on_ok_weaker c.add_each-3.result (λ h. four-pieces _ _ _ _ _ _ _ _ _ apex svertices arcs (h ∙ sloop))
          (c.add_each-3.ensures.added sloop_line (λ before item outcome after p. p));
    }

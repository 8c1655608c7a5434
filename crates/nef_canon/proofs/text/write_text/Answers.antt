use Rattle.nef_canon.proofs.Prelude.{◌≡◌, List, ℕ, ◌++◌, ap, ◌∙◌, flat_map, first_line, vertices_text, edge_line, facet_text, volumes_text, text}
use Rattle.nef_index.specs.declared.skeleton.Edge.{Edge}
use Rattle.nef_complex.specs.declared.parts.Facet.{Facet}
use Rattle.nef_canon.proofs.Lines.{pieces-behind}
use Rattle.nef_canon.proofs.text.write_text.Goals as goal

pub returns : goal.returns
returns c =
    let d = c.args.c.now in
    let p = c.args.parts.now in
    let version = c.args.version in
    let t : List ℕ = c.add_vertices.new.text.items in
    let u : List ℕ = c.add_each.new.text.items in
    let first : c.add_first.new.text.items ≡ first_line version d p = c.in_ok-add_first.ensures.added ∙ ap (λ (r : List ℕ). r ++ first_line version d p) c.new-out.ensures.items in
    let edges = c.in_ok-add_each.ensures.added edge_line (λ before item outcome after q. q) ∙ ap (λ (es : List Edge). t ++ flat_map edge_line es) c.as_slice.ensures.all in
    let facets = c.in_ok-add_each-2.ensures.added facet_text (λ before item outcome after q. q) ∙ ap (λ (fs : List Facet). u ++ flat_map facet_text fs) c.as_slice-2.ensures.all in
    let rest = pieces-behind c.add_first.new.text.items t u c.add_each-2.new.text.items c.add_volumes.new.text.items (vertices_text version d p) (flat_map edge_line d.edges) (flat_map facet_text p.facets) (volumes_text version p)
    c.in_ok-add_vertices.ensures.added edges facets c.in_ok-add_volumes.ensures.added in
    let all : c.add_volumes.new.text.items ≡ text version d p = rest ∙ ap (λ (r : List ℕ). r ++ vertices_text version d p ++ flat_map edge_line d.edges ++ flat_map facet_text p.facets ++ volumes_text version p) first in
    record { text = all; of_complex = (p, c.requires.parts, all) }

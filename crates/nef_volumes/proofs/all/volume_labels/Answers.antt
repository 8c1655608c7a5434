use Rattle.nef_volumes.proofs.Prelude.{ℕ, List, length, arith, sym, ap, ◌∙◌, subst, length-map, Label, map_of, vertex_of, complex_of, HasAppeared, AreLabelsTo, AreVolumeLabels}
use Rattle.nef_volumes.proofs.ReadVertex.{vertex-there}
use Rattle.nef_volumes.proofs.VolumeLabels.{as-long, row-appeared, row-added, labels-of_volumes}
use Rattle.nef_volumes.proofs.all.volume_labels.Goals as goal

pub add_labels-requires-clause-sides : goal.add_labels-requires-clause-sides
add_labels-requires-clause-sides c =
    let n = c.loop-vertex.vertex in
    let u = c.at-in-loop-vertex.result.now in
    ap (λ (ns : List ℕ). length ns) c.as_slice-row.ensures.all ∙ as-long (complex_of c.args.c.now) c.args.volume_of.now c.requires.numbers n (vertex_of u) (vertex-there c.args.c.now n u c.at-in-loop-vertex.ensures.element)
    c.at.result.now c.at.ensures.element c.loop-vertex.labels.items c.loop-vertex.invariant

pub add_labels-requires-clause-appeared : goal.add_labels-requires-clause-appeared
add_labels-requires-clause-appeared c =
    let n = c.loop-vertex.vertex in
    let u = c.at-in-loop-vertex.result.now in
    subst (λ (ns : List ℕ). HasAppeared (length c.loop-vertex.labels.items) ns) (sym c.as_slice-row.ensures.all)
    (row-appeared (complex_of c.args.c.now) c.args.volume_of.now c.requires.numbers n (vertex_of u) (vertex-there c.args.c.now n u c.at-in-loop-vertex.ensures.element)
    c.at.result.now c.at.ensures.element c.loop-vertex.labels.items c.loop-vertex.invariant)

pub loop-vertex-preserved : goal.loop-vertex-preserved
loop-vertex-preserved c =
    let n = c.loop-vertex.vertex in
    let u = c.at-in-loop-vertex.result.now in
    let ys = c.loop-vertex.labels.items in
    let zs = c.add_labels.new.labels.items in
    row-added (complex_of c.args.c.now) c.args.volume_of.now c.requires.numbers n (vertex_of u) (vertex-there c.args.c.now n u c.at-in-loop-vertex.ensures.element) c.at.result.now c.at.ensures.element ys c.loop-vertex.invariant zs
    (subst (λ (ns : List ℕ). AreLabelsTo (map_of u.map) ns ys (length ns) zs) c.as_slice-row.ensures.all c.in_ok-add_labels.ensures.added)

pub returns : goal.returns
returns c =
    let S = c.requires.shows in
    let rows = c.args.volume_of.now in
    let N = c.requires.numbers in
    let shape = N.shape in
    let e = shape.as_many in
    let f = length-map c.args.c.now.vertices vertex_of in
    record {
      labels = subst (λ (ls : List Label). AreVolumeLabels (complex_of c.args.c.now) rows ls) (sym c.from_vec.ensures.all)
          (labels-of_volumes S.0 c.args.c.now S.1 rows N c.loop-vertex.vertex c.loop-vertex.labels.items (omega (arith, e, f, c.loop-vertex-test.false, c.len-vertex-end.ensures.len)) c.loop-vertex.invariant);
    }

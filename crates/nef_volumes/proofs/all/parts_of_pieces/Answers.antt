use Rattle.nef_volumes.proofs.Prelude.{sym, ◌∙◌, complex_of}
use Rattle.nef_volumes.proofs.AllParts.{all-first, parts-are}
use Rattle.nef_volumes.proofs.all.parts_of_pieces.Goals as goal

pub list_facets-requires : goal.list_facets-requires
list_facets-requires c =
    let p = c.args.facets.parts in
    let F = c.requires.pieces.facets in
    record {
      shows = c.requires.shows;
      numbers = c.in_ok-volume_of.ensures.volumes.numbers;
      planes = sym F.as_many_cycles;
      marks = F.as_many_marks ∙ sym F.as_many_cycles;
      first = all-first (complex_of c.args.c.now) p.planes p.marks p.cycles p.facet_of F;
    }

pub returns : goal.returns
returns c =
    let C = complex_of c.args.c.now in
    let p = c.args.facets.parts in
    let rows = c.in_ok-volume_of.volume_of in
    let labels = c.in_ok-volume_of.labels in
    let V = c.in_ok-volume_of.ensures.volumes in
    let all = parts-are C p.planes p.marks p.cycles p.facet_of c.requires.pieces.facets rows V.numbers labels V.labels c.in_ok-listed.listed c.in_ok-listed.ensures.facets
    c.args.sface_of V.sfaces c.in_ok-volume_of.shells V.as_many V.shells in
    record { parts = all }

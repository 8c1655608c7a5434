use Rattle.nef_canon.proofs.Prelude.{List, ℕ, ◌++◌, arith, ap, ◌∙◌, vertex_text, sface_line}
use Rattle.nef_canon.proofs.Lines.{versioned, row-more, rows-all, first-version, second-version, vertices-all}
use Rattle.nef_canon.proofs.text.add_vertices.Goals as goal
use Rattle.nef_canon.proofs.text.add_vertices.Goals.{in-One, in-Two+in_ok-add_faces-in-Two}

pub at-requires : goal.at-requires
at-requires c = record { within = let m = c.requires.as_many in let n = c.len-number-end.ensures.len in let t = c.loop-number-test.true in omega arith }

pub loop-number-preserved : goal.loop-number-preserved
loop-number-preserved c =
    let version = c.args.version in
    let x = c.at-v.result.now in
    let row : List ℕ = c.at.result.now in
    let s : List ℕ = c.loop-number.text.items in
    let u : List ℕ = c.add_vertex.new.text.items in
    row-more (versioned vertex_text sface_line version) c.args.c.now.vertices c.args.parts.now.sface_of c.loop-number.number x row c.at-v.ensures.element c.at.ensures.element
    (let n = c.len-number-end.ensures.len in let t = c.loop-number-test.true in omega arith) c.args.text.now.items s c.match-version.text.items c.loop-number.invariant
    (elim c.match-version.branch [
      | in-One w ↦ first-version vertex_text sface_line version x row s c.match-version.text.items w.in-One.is (ap (λ v. v.items) w.text-is ∙ c.in_ok-add_vertex.ensures.added)
      | in-Two+in_ok-add_faces-in-Two w ↦ second-version vertex_text sface_line version x row s u c.match-version.text.items w.in-Two.is c.in_ok-add_vertex.ensures.added
          (ap (λ v. v.items) w.text-is ∙ w.in_ok-add_faces-in-Two.ensures.added ∙ ap (λ (r : List ℕ). u ++ sface_line r) c.as_slice-faces.ensures.all)
    ])

pub returns : goal.returns
returns c =
    let d = c.args.c.now in
    let p = c.args.parts.now in
    let all = rows-all (versioned vertex_text sface_line c.args.version) d.vertices p.sface_of c.loop-number.number (let n = c.len-number-end.ensures.len in let t = c.loop-number-test.false in omega arith) in
    record { added = c.loop-number.invariant ∙ ap (λ (r : List ℕ). c.args.text.now.items ++ r) (all ∙ vertices-all c.args.version d p) }

use Rattle.nef_canon.proofs.Prelude.{List, ℕ, ◌++◌, ap, ◌∙◌, append_assoc, on_ok_weaker, flat_map, cycle_line, facet_line}
use Rattle.nef_complex.specs.declared.parts.Cycle.{Cycle}
use Rattle.nef_canon.proofs.text.add_facet.Goals as goal

pub returns : goal.returns
returns c =
    let o : List ℕ = c.args.text.now.items in
    let f = c.args.f.now in
    let s : List ℕ = c.add_line.new.text.items in
    let same = ap (λ (ys : List Cycle). s ++ flat_map cycle_line ys) c.as_slice.ensures.all in
    let rest = flat_map cycle_line f.cycles in
    record {
      added = on_ok_weaker c.add_each.result (λ h. h ∙ same ∙ ap (λ (r : List ℕ). r ++ rest) c.in_ok-add_line.ensures.added ∙ append_assoc o (facet_line f) rest)
          (c.add_each.ensures.added cycle_line (λ before item outcome after p. p));
    }

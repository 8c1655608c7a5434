use Rattle.nef_spair.proofs.Prelude.{◌≡◌, [], ◌∷◌, rules}
use Rattle.nef_spair.proofs.OneKind.{edge-if, two-listed, edge-fields, opposite-if, opposite-then}
use Rattle.nef_spair.proofs.least.edge_direction.Goals as goal
use Rattle.nef_spair.proofs.least.edge_direction.Goals.{else-eq-via-then-eq+then-eq-2+else-is_same, else-eq-via-then-eq+else-eq-2, else-eq-via-else-eq}

pub returns-then-is_same : goal.returns-then-is_same
returns-then-is_same c =
    let m = c.args.map.now in let a = c.at-first.result.now in let b = c.at-second.result.now in
    let two : m.svertices ≡ a ∷ b ∷ [] = two-listed m.svertices a b (search rules) c.at-first.ensures.element c.at-second.ensures.element in
    record { edge = edge-if m a b two (search rules) (search rules) (search rules) (opposite-if a.dir c.back.result b.dir c.back.ensures.back (c.is_same.ensures.same.0 (search rules))) }

pub returns-else-eq : goal.returns-else-eq
returns-else-eq c =
    let m = c.args.map.now in let a = c.at-first.result.now in let b = c.at-second.result.now in
    let two : m.svertices ≡ a ∷ b ∷ [] = two-listed m.svertices a b (search rules) c.at-first.ensures.element c.at-second.ensures.element in
    elim c.else-eq.branch [
      | else-eq-via-then-eq+then-eq-2+else-is_same w ↦ record { edge = λ d e. let t = edge-fields m d e a b two in let o = w.is_same.ensures.same.1 (opposite-then a.dir w.back.result b.dir w.back.ensures.back t.2) in absurd (search rules) }
      | else-eq-via-then-eq+else-eq-2 w ↦ record { edge = λ d e. let t = edge-fields m d e a b two in let o = t.1 in absurd (search rules) }
      | else-eq-via-else-eq w ↦ record { edge = λ d e. let t = edge-fields m d e a b two in let o = t.0 in absurd (search rules) }
    ]

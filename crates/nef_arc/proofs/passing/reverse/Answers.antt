use Rattle.nef_arc.proofs.Prelude.{◌≡◌, pos, sym, subst, rules, Vector, dot, opposite, normal_vector, source_vector, target_vector, level-opposite}
use Rattle.nef_arc.proofs.Ends.{source_on, target_on}
use Rattle.nef_arc.proofs.Ways.{back_passes_the_same}
use Rattle.nef_arc.proofs.passing.reverse.Goals as goal

pub of-requires-clause-source_level : goal.of-requires-clause-source_level
of-requires-clause-source_level c =
    let a = c.args.arc.now in
    subst (λ (v : Vector). dot v (target_vector a) ≡ pos 0) (sym c.back.ensures.back) (level-opposite (normal_vector a) (target_vector a) a.target_level)

pub of-requires-clause-target_level : goal.of-requires-clause-target_level
of-requires-clause-target_level c =
    let a = c.args.arc.now in
    subst (λ (v : Vector). dot v (source_vector a) ≡ pos 0) (sym c.back.ensures.back) (level-opposite (normal_vector a) (source_vector a) a.source_level)

pub returns-clause-directions : goal.returns-clause-directions
returns-clause-directions c =
    let a = c.args.arc.now in let r = c.of.result in
    let normal : normal_vector r ≡ opposite (normal_vector a) = search rules in
    let source : source_vector r ≡ target_vector a = search rules in
    let target : target_vector r ≡ source_vector a = search rules in
    back_passes_the_same (normal_vector a) (source_vector a) (target_vector a) (normal_vector r) (source_vector r) (target_vector r) normal source target a.normal.some (source_on a) (target_on a)

use Rattle.nef_geo.proofs.Prelude.{ap, sym, ◌∙◌}
use Rattle.nef_geo.proofs.Unique.{equal_test, equal_to_itself, same_if_equal, same_directions_equal}
use Rattle.nef_geo.proofs.dir.Dir.is_same.Goals as goal

pub returns-clause-direction : goal.returns-clause-direction
returns-clause-direction c =
    let d = c.args.self.now in let e = c.args.other.now in (
      λ h. same_if_equal d e (sym h ∙ c.eq.ensures),
      λ s. c.eq.ensures ∙ ap (equal_test d) (sym (same_directions_equal d e s)) ∙ equal_to_itself d,
    )

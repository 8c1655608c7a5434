use Rattle.nef_arc.proofs.Prelude.{◌≡◌, pos, rules, sym, ◌∙◌, dot, vector_of, normal_vector}
use Rattle.nef_geo.specs.declared.sign.Sign.TheVariants.{Zero}
use Rattle.nef_geo.proofs.Signs.{zero_sign}
use Rattle.nef_arc.proofs.Ends.{level_on}
use Rattle.nef_arc.proofs.OnWays.{passed_is_on}
use Rattle.nef_arc.proofs.passing.strictly_on.Goals as goal

pub returns-then-eq : goal.returns-then-eq
returns-then-eq c =
    let a = c.args.arc.now in let d = c.args.d.now in
    let zero : c.dot.result ≡ Zero = search rules in
    let level : dot (normal_vector a) (vector_of d) ≡ pos 0 = zero_sign _ (sym c.dot.ensures.dot ∙ zero) in
    let law = passed_is_on a (vector_of d) (level_on a d level) in
    record { on = (λ h. law.0 (c.is_inside.ensures.inside.0 h), λ h. c.is_inside.ensures.inside.1 (law.1 h)) }

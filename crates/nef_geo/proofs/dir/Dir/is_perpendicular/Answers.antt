use Rattle.nef_geo.proofs.Prelude.{◌≡◌, rules, sym, ap, ◌∙◌, dot, vector_of, sign_of, Zero}
use Rattle.std.proofs.Common.{IsTrue}
use Rattle.nef_geo.proofs.Signs.{zero_sign}
use Rattle.nef_geo.proofs.dir.Dir.is_perpendicular.Goals as goal

zero-if : (c : goal.After-eq) → IsTrue c.eq.result → c.dot.result ≡ Zero
zero-if c h = search rules

if-zero : (c : goal.After-eq) → c.dot.result ≡ Zero → IsTrue c.eq.result
if-zero c h = search rules

pub returns : goal.returns
returns c = record {
  perpendicular = (λ h. zero_sign (dot (vector_of c.args.self.now) (vector_of c.args.other.now)) (sym c.dot.ensures.dot ∙ zero-if c h), λ o. if-zero c (c.dot.ensures.dot ∙ ap sign_of o));
}

use Rattle.nef_plane.proofs.Prelude.{◌≡◌, IsTrue, rules, sym, ap, ◌∙◌, slope, form_of, vector_of, sign_of, Zero, zero_sign}
use Rattle.nef_plane.proofs.along.is_along.Goals as goal

zero-if : (c : goal.After-eq) → IsTrue c.eq.result → c.dir_side.result ≡ Zero
zero-if c h = search rules

if-zero : (c : goal.After-eq) → c.dir_side.result ≡ Zero → IsTrue c.eq.result
if-zero c h = search rules

pub returns : goal.returns
returns c =
    let z = slope (form_of c.args.g.now) (vector_of c.args.d.now) in
    record { along = (λ h. zero_sign z (sym c.dir_side.ensures.side ∙ zero-if c h), λ h. if-zero c (c.dir_side.ensures.side ∙ ap sign_of h)) }

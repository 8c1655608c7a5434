use Rattle.nef_index.proofs.Prelude.{◌≡◌, IsTrue, rules, sym, ap, ◌∙◌, form_at, form_of, point_of, sign_of, Zero}
use Rattle.nef_geo.proofs.Signs.{zero_sign}
use Rattle.nef_index.proofs.sorted_carriers.holds.Goals as goal

zero-if : (c : goal.After-eq) → IsTrue c.eq.result → c.side.result ≡ Zero
zero-if c h = search rules

if-zero : (c : goal.After-eq) → c.side.result ≡ Zero → IsTrue c.eq.result
if-zero c h = search rules

pub returns : goal.returns
returns c = record {
  holds = (
    λ h. zero_sign (form_at (form_of c.args.h.now) (point_of c.args.point.now)) (sym c.side.ensures.side ∙ zero-if c h),
    λ h. if-zero c (c.side.ensures.side ∙ ap sign_of h),
  );
}

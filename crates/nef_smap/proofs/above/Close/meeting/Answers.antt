use Rattle.nef_smap.proofs.Prelude.{◌≡◌, sym, ap, ◌∙◌, Vector, dot, up, vector_of, Close, rise_form, first_sign, geo_sign, close_sign}
use Rattle.nef_space.specs.Signs.{sign}
use Rattle.nef_smap.proofs.Rise.{rise_form-level}
use Rattle.nef_smap.proofs.CloseSigns.{read-meeting, level-sign, first-minus, first-nought, first-plus}
use Rattle.nef_smap.proofs.above.Close.meeting.Goals as goal

level : (n k : Vector) (w : Close) → geo_sign (first_sign (sign (dot (rise_form up n k) (vector_of w.at))) (sign (dot (rise_form up n k) (vector_of w.aside)))) ≡ geo_sign (close_sign (rise_form up n k) w)
level n k w = sym (ap geo_sign (level-sign (rise_form up n k) w (rise_form-level up n k)))

pub returns-in-Minus : goal.returns-in-Minus
returns-in-Minus c =
    let n = vector_of c.args.first.now in
    let k = vector_of c.args.second.now in
    let w = c.args.self.now in
    let first = read-meeting c.quad.result (vector_of w.at) n k (vector_of c.up-up.result) c.quad.ensures.quad c.up-up.ensures.up in
    record { meeting = first-minus c.quad.result (sign (dot (rise_form up n k) (vector_of w.at))) (sign (dot (rise_form up n k) (vector_of w.aside))) first c.in-Minus.is ∙ level n k w }

pub returns-in-Zero : goal.returns-in-Zero
returns-in-Zero c =
    let n = vector_of c.args.first.now in
    let k = vector_of c.args.second.now in
    let w = c.args.self.now in
    let first = read-meeting c.quad.result (vector_of w.at) n k (vector_of c.up-up.result) c.quad.ensures.quad c.up-up.ensures.up in
    let second = read-meeting c.quad-in-Zero.result (vector_of w.aside) n k (vector_of c.up-up.result) c.quad-in-Zero.ensures.quad c.up-up.ensures.up in
    record { meeting = first-nought c.quad.result c.quad-in-Zero.result (sign (dot (rise_form up n k) (vector_of w.at))) (sign (dot (rise_form up n k) (vector_of w.aside))) first c.in-Zero.is second ∙ level n k w }

pub returns-in-Plus : goal.returns-in-Plus
returns-in-Plus c =
    let n = vector_of c.args.first.now in
    let k = vector_of c.args.second.now in
    let w = c.args.self.now in
    let first = read-meeting c.quad.result (vector_of w.at) n k (vector_of c.up-up.result) c.quad.ensures.quad c.up-up.ensures.up in
    record { meeting = first-plus c.quad.result (sign (dot (rise_form up n k) (vector_of w.at))) (sign (dot (rise_form up n k) (vector_of w.aside))) first c.in-Plus.is ∙ level n k w }

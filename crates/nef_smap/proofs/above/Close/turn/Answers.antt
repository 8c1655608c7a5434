use Rattle.nef_smap.proofs.Prelude.{◌≡◌, sym, ap, ◌∙◌, Vector, dot, cross, up, vector_of, cross-self, Close, first_sign, geo_sign, close_sign}
use Rattle.nef_space.specs.Signs.{sign}
use Rattle.nef_smap.proofs.CloseSigns.{read-turn, level-sign, first-minus, first-nought, first-plus}
use Rattle.nef_smap.proofs.above.Close.turn.Goals as goal

level : (d : Vector) (w : Close) → geo_sign (first_sign (sign (dot (cross up d) (vector_of w.at))) (sign (dot (cross up d) (vector_of w.aside)))) ≡ geo_sign (close_sign (cross up d) w)
level d w = sym (ap geo_sign (level-sign (cross up d) w (cross-self up d)))

pub returns-in-Minus : goal.returns-in-Minus
returns-in-Minus c =
    let d = vector_of c.args.d.now in
    let w = c.args.self.now in
    let first = read-turn c.triple.result d (vector_of w.at) (vector_of c.up-up.result) c.triple.ensures.triple c.up-up.ensures.up in
    record { turn = first-minus c.triple.result (sign (dot (cross up d) (vector_of w.at))) (sign (dot (cross up d) (vector_of w.aside))) first c.in-Minus.is ∙ level d w }

pub returns-in-Zero : goal.returns-in-Zero
returns-in-Zero c =
    let d = vector_of c.args.d.now in
    let w = c.args.self.now in
    let first = read-turn c.triple.result d (vector_of w.at) (vector_of c.up-up.result) c.triple.ensures.triple c.up-up.ensures.up in
    let second = read-turn c.triple-in-Zero.result d (vector_of w.aside) (vector_of c.up-up.result) c.triple-in-Zero.ensures.triple c.up-up.ensures.up in
    record { turn = first-nought c.triple.result c.triple-in-Zero.result (sign (dot (cross up d) (vector_of w.at))) (sign (dot (cross up d) (vector_of w.aside))) first c.in-Zero.is second ∙ level d w }

pub returns-in-Plus : goal.returns-in-Plus
returns-in-Plus c =
    let d = vector_of c.args.d.now in
    let w = c.args.self.now in
    let first = read-turn c.triple.result d (vector_of w.at) (vector_of c.up-up.result) c.triple.ensures.triple c.up-up.ensures.up in
    record { turn = first-plus c.triple.result (sign (dot (cross up d) (vector_of w.at))) (sign (dot (cross up d) (vector_of w.aside))) first c.in-Plus.is ∙ level d w }

use Rattle.nef_smap.proofs.Prelude.{◌≡◌, sym, ◌∙◌, subst, IsTrue, ◌↔◌, nat_eq, rules, Minus, Plus, Vector, cross, triple, up, vector_of, dir_of, map_of, close_sign, ArcPasses}
use Rattle.nef_space.specs.Signs.{Sign, minus, plus, sign}
use Rattle.nef_smap.proofs.CloseSigns.{geo-of, sign-test, passes-alike, passes-agreed, dir-from_get}
use Rattle.nef_smap.proofs.above.passes.Goals as goal

pub returns-then-not-is_whole : goal.returns-then-not-is_whole
returns-then-not-is_whole c =
    let arc = c.args.arc.now in
    let w = c.args.way.now in
    let s = vector_of c.at.result.now.dir in
    let t = vector_of c.at-2.result.now.dir in
    let s' = dir-from_get c.args.map.now.svertices arc.source c.at.result.now c.at.ensures.element in
    let t' = dir-from_get c.args.map.now.svertices arc.target c.at-2.result.now c.at-2.ensures.element in
    let d1 : IsTrue c.eq-past_source.result ↔ (c.turn.result ≡ Plus) = search rules in
    let d2 : IsTrue c.eq-before_target.result ↔ (c.turn-2.result ≡ Minus) = search rules in
    let one : c.eq-past_source.result ≡ c.eq-before_target.result = search rules in
    let apart : arc.source ≡ arc.target → ⊥ = search rules in
    let past = sign-test (IsTrue c.eq-past_source.result) c.turn.result (close_sign (cross up s) w) plus d1 c.turn.ensures.turn in
    let before = sign-test (IsTrue c.eq-before_target.result) c.turn-2.result (close_sign (cross up t) w) minus d2 c.turn-2.ensures.turn in
    let at : Vector → Vector → Type 0 = λ x y. IsTrue c.eq-past_source.result ↔ ArcPasses (sign (triple (vector_of arc.normal) x y)) (close_sign (cross up x) w ≡ plus) (close_sign (cross up y) w ≡ minus) (arc.source ≡ arc.target) in
    record {
      passes = subst (λ (x : Vector). at x (dir_of (map_of c.args.map.now).svertices arc.target)) (sym s')
          (subst (λ (y : Vector). at s y) (sym t') (passes-agreed (sign (triple (vector_of arc.normal) s t)) c.eq-past_source.result c.eq-before_target.result
          (close_sign (cross up s) w ≡ plus) (close_sign (cross up t) w ≡ minus) (arc.source ≡ arc.target) one past before apart));
    }

pub returns : goal.returns
returns c =
    let arc = c.args.arc.now in
    let w = c.args.way.now in
    let s = vector_of c.at.result.now.dir in
    let t = vector_of c.at-2.result.now.dir in
    let s' = dir-from_get c.args.map.now.svertices arc.source c.at.result.now c.at.ensures.element in
    let t' = dir-from_get c.args.map.now.svertices arc.target c.at-2.result.now c.at-2.ensures.element in
    let turn : Sign = sign (triple (vector_of arc.normal) s t) in
    let passed = c.is_passed.ensures.passed turn (c.triple-turn.ensures.triple ∙ geo-of (triple (vector_of arc.normal) s t)) in
    let d1 : IsTrue c.eq-past_source.result ↔ (c.turn.result ≡ Plus) = search rules in
    let d2 : IsTrue c.eq-before_target.result ↔ (c.turn-2.result ≡ Minus) = search rules in
    let d3 : IsTrue (nat_eq arc.source arc.target) ↔ (arc.source ≡ arc.target) = search rules in
    let past = sign-test (IsTrue c.eq-past_source.result) c.turn.result (close_sign (cross up s) w) plus d1 c.turn.ensures.turn in
    let before = sign-test (IsTrue c.eq-before_target.result) c.turn-2.result (close_sign (cross up t) w) minus d2 c.turn-2.ensures.turn in
    let alike = passes-alike turn (IsTrue c.eq-past_source.result) (close_sign (cross up s) w ≡ plus) (IsTrue c.eq-before_target.result) (close_sign (cross up t) w ≡ minus) (IsTrue (nat_eq arc.source arc.target)) (arc.source ≡ arc.target) past before d3 in
    let at : Vector → Vector → Type 0 = λ x y. IsTrue c.is_passed.result ↔ ArcPasses (sign (triple (vector_of arc.normal) x y)) (close_sign (cross up x) w ≡ plus) (close_sign (cross up y) w ≡ minus) (arc.source ≡ arc.target) in
    record {
      passes = subst (λ (x : Vector). at x (dir_of (map_of c.args.map.now).svertices arc.target)) (sym s')
          (subst (λ (y : Vector). at s y) (sym t') (λ h. alike.0 (passed.0 h), λ h. passed.1 (alike.1 h)));
    }

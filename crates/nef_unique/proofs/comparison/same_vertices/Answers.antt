use Rattle.nef_unique.proofs.Prelude.{◌≡◌, ℕ, length, take, sym, ◌∙◌, refl, subst, rules, arith, take_all}
use Rattle.std.proofs.lemmas.List.{take_more_same, length_push}
use Rattle.std.proofs.lemmas.Slice.Zip.{zip_turn, zip_end}
use Rattle.nef_unique.proofs.comparison.same_vertices.Goals as goal

pub loop-v-init : goal.loop-v-init
loop-v-init c = refl

pub loop-v-preserved : goal.loop-v-preserved
loop-v-preserved c =
    let left = c.args.a.now.vertices in
    let right = c.args.b.now.vertices in
    let xs = c.loop-v.yielded in
    let t = zip_turn left right xs c.into_iter-v-iterator.result c.loop-v.v-iterator c.next.new.self c.next.result (search rules) (search rules)
    c.loop-v.yielded_by (c.in-Some.v, c.in-Some.w) c.in-Some.is c.next.ensures.steps in
    let v = c.in-Some.v.now in
    let same = sym (t.2 v) ∙ c.same_vertex.ensures.same.0 c.if-not-same_vertex.false ∙ t.3 v in
    let more = take_more_same left right (length xs) v t.0 t.1 c.loop-v.invariant same in
    subst (λ (n : ℕ). take n left ≡ take n right) (sym (length_push xs (c.in-Some.v, c.in-Some.w))) more

pub returns : goal.returns
returns c =
    let left = c.args.a.now.vertices in
    let right = c.args.b.now.vertices in
    let n = length c.loop-v.yielded in
    let t = zip_end left right c.loop-v.yielded c.into_iter-v-iterator.result c.loop-v.v-iterator c.next.new.self c.next.result (search rules) (search rules)
    c.loop-v.yielded_by c.in-None.is c.next.ensures.steps in
    let e : length left ≡ length right = search rules in
    record { same = (λ _. sym (take_all n left (omega (arith, t, e))) ∙ c.loop-v.invariant ∙ take_all n right (omega (arith, t, e)), λ _. refl) }

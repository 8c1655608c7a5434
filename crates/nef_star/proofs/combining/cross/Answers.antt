use Rattle.nef_star.proofs.Prelude.{◌≡◌, ℕ, ◌<◌, ◌-◌, List, [], ◌∷◌, ◌++◌, length, arith, refl, ap, ◌∙◌, vec_len, Label, Ray, Star, BeginsAnywhere}
use Rattle.nef_star.proofs.Labelled.{sectors-fill}
use Rattle.nef_star.proofs.Alternating.{crossed}
use Rattle.nef_star.proofs.combining.cross.Goals as goal

-- places in a star with two rays
ray-place : (t : Star) (k : ℕ) → length t.rays.items ≡ 2 → k < 2 → k < vec_len t.rays
ray-place t k e l = let o = t.rays.ok.0 in omega (arith, e, l, o)

sector-place : (t : Star) (k : ℕ) → BeginsAnywhere t → length t.rays.items ≡ 2 → k < 2 → k < vec_len t.sectors
sector-place t k T e l = let s = sectors-fill t.rays.items (length t.sectors.items) k T.sectors (omega (arith, e, l)) in let o = t.sectors.ok.0 in omega (arith, s, o)

pub index-requires : goal.index-requires
index-requires c = ray-place c.args.star.now 0 c.requires.alternate.two (omega arith)

pub index-requires-2 : goal.index-requires-2
index-requires-2 c = ray-place c.args.star.now 1 c.requires.alternate.two (omega arith)

pub index-requires-3 : goal.index-requires-3
index-requires-3 c = sector-place c.args.star.now 0 c.requires.turned c.requires.alternate.two (omega arith)

pub index-requires-4 : goal.index-requires-4
index-requires-4 c = sector-place c.args.star.now 1 c.requires.turned c.requires.alternate.two (omega arith)

pub index-requires-5 : goal.index-requires-5
index-requires-5 c = ray-place c.args.other.now c.args.first c.requires.alternate.other_two c.requires.within

pub index-requires-6 : goal.index-requires-6
index-requires-6 c = ray-place c.args.other.now (1 - c.args.first) c.requires.alternate.other_two (omega arith)

pub index-requires-7 : goal.index-requires-7
index-requires-7 c = sector-place c.args.other.now c.args.first c.requires.other c.requires.alternate.other_two c.requires.within

pub index-requires-8 : goal.index-requires-8
index-requires-8 c = sector-place c.args.other.now (1 - c.args.first) c.requires.other c.requires.alternate.other_two (omega arith)

pub index_mut-requires : goal.index_mut-requires
index_mut-requires c = ray-place c.args.star.now 0 c.requires.alternate.two (omega arith)

pub index_mut-requires-3 : goal.index_mut-requires-3
index_mut-requires-3 c = sector-place c.args.star.now 0 c.requires.turned c.requires.alternate.two (omega arith)

pub returns : goal.returns
returns c =
    let m0 = c.with_mark.ensures in let m1 = c.with_mark-2.ensures in let m2 = c.with_mark-3.ensures in let m3 = c.with_mark-4.ensures in
    let s : Star = record { axis = c.args.star.now.axis; rays = c.push-2.new.self; sectors = c.push-4.new.self; mark = c.label-star.result } in
    let both = crossed c.args.op c.args.star.now c.args.other.now s c.requires.turned c.requires.other c.requires.one_axis c.args.first c.requires.within c.requires.alternate refl c.label-star.ensures.label
    c.index.result.now c.index-2.result.now c.index-5.result.now c.index-6.result.now c.with_mark.result c.with_mark-2.result c.with_mark-3.result c.with_mark-4.result c.index.ensures c.index-2.ensures c.index-5.ensures c.index-6.ensures
    c.index-3.result.now c.index-4.result.now c.index-7.result.now c.index-8.result.now c.label-5.result c.label-6.result c.label-7.result c.label-8.result c.index-3.ensures c.index-4.ensures c.index-7.ensures c.index-8.ensures
    m0.normal m0.ahead (m0.mark ∙ c.label.ensures.label) m1.normal m1.ahead (m1.mark ∙ c.label-2.ensures.label) m2.normal m2.ahead (m2.mark ∙ c.label-3.ensures.label) m3.normal m3.ahead (m3.mark ∙ c.label-4.ensures.label)
    c.label-5.ensures.label c.label-6.ensures.label c.label-7.ensures.label c.label-8.ensures.label
    (c.in_ok-push-2.ensures.items ∙ ap (λ (l : List Ray). l ++ c.with_mark-4.result ∷ []) c.in_ok-push.ensures.items) (c.in_ok-push-4.ensures.items ∙ ap (λ (l : List Label). l ++ c.label-8.result ∷ []) c.in_ok-push-3.ensures.items) in
    record { turned = both.0; combined = both.1 }

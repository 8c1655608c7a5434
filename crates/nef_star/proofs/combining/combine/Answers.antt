use Rattle.nef_star.proofs.Prelude.{◌≡◌, length, refl, rules, Star, BeginsAnywhere}
use Rattle.nef_star.proofs.Joined.{none-too, only-turned, only-combined, left-to_star}
use Rattle.nef_star.proofs.combining.combine.Goals as goal

pub returns-then-is_empty-clause-turned : goal.returns-then-is_empty-clause-turned
returns-then-is_empty-clause-turned c =
    let t = c.args.star.now in let b = c.args.other.now in let T = c.requires.turned in
    let marked : Star = record { axis = t.axis; rays = t.rays; sectors = t.sectors; mark = c.label-star.result } in
    let turned : BeginsAnywhere marked = record { axis_small = T.axis_small; rays = T.rays; counterclockwise = T.counterclockwise; sectors = T.sectors } in
    let none : length t.rays.items ≡ 0 = search rules in
    only-turned c.args.op b marked _ c.requires.other turned none (none-too t b c.requires.all none) refl refl refl c.index.result.now c.index-then-is_empty.result.now c.label.result c.index.ensures c.index-then-is_empty.ensures c.label.ensures.label refl

pub returns-then-is_empty-clause-combined : goal.returns-then-is_empty-clause-combined
returns-then-is_empty-clause-combined c =
    let t = c.args.star.now in let b = c.args.other.now in let T = c.requires.turned in
    let marked : Star = record { axis = t.axis; rays = t.rays; sectors = t.sectors; mark = c.label-star.result } in
    let turned : BeginsAnywhere marked = record { axis_small = T.axis_small; rays = T.rays; counterclockwise = T.counterclockwise; sectors = T.sectors } in
    let none : length t.rays.items ≡ 0 = search rules in
    left-to_star c.args.op b t marked _ c.requires.other T c.requires.one_axis refl (λ d k g. g) c.label-star.ensures.label
    (only-combined c.args.op b marked _ c.requires.other turned none (none-too t b c.requires.all none) refl refl refl c.index.result.now c.index-then-is_empty.result.now c.label.result c.index.ensures c.index-then-is_empty.ensures c.label.ensures.label refl)

pub returns-clause-combined : goal.returns-clause-combined
returns-clause-combined c =
    let t = c.args.star.now in
    let marked : Star = record { axis = t.axis; rays = t.rays; sectors = t.sectors; mark = c.label-star.result } in
    left-to_star c.args.op c.args.other.now t marked c.combine_rays.new.star c.requires.other c.requires.turned c.requires.one_axis refl (λ d k g. g) c.label-star.ensures.label c.combine_rays.ensures.combined

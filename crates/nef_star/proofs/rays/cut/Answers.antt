use Rattle.nef_star.proofs.Prelude.{◌≡◌, ℕ, ◌<◌, length, arith, rules, refl, sym, ap, subst, ◌∙◌, Vector, vector_of, IsOnCircle, IsNext, left_of, left_at, LeftPast}
use Rattle.std.proofs.lemmas.Result.{on_ok_weaker}
use Rattle.nef_star.proofs.Needed.{true_or_false}
use Rattle.nef_star.proofs.LastAt.{as-same}
use Rattle.nef_star.proofs.Pushed.{left-on_circle}
use Rattle.nef_star.proofs.Cuts.{cut-first, counted-cut, counted-past, only-past, uncut}
use Rattle.nef_star.proofs.rays.cut.Goals as goal

pub place_of-place-requires-clause-circle : goal.place_of-place-requires-clause-circle
place_of-place-requires-clause-circle c =
    subst (IsOnCircle (vector_of c.args.star.now.axis)) (sym c.left-left.ensures.left) (left-on_circle (vector_of c.args.star.now.axis) c.args.ray.now c.requires.ray)

pub returns-then-is_empty : goal.returns-then-is_empty
returns-then-is_empty c =
    let t = c.args.star.now in let r = c.with_mark.ensures in
    let none : length t.rays.items ≡ 0 = search rules in
    record { cut = cut-first t _ c.requires.turned c.args.ray.now c.with_mark.result c.requires.ray r.normal r.ahead _ r.mark refl refl c.in_ok-push.ensures.items none refl c.index-label.ensures }

pub returns-then-is_same : goal.returns-then-is_same
returns-then-is_same c =
    let same = c.is_same.ensures.same.0 c.if-is_same.true in
    record {
      cut = uncut c.args.star.now c.requires.turned (left_of c.args.ray.now)
          (c.place_of-place.result, c.place_of-place.ensures.within, sym c.left_of_ray.ensures.left ∙ ap vector_of same ∙ c.left-left.ensures.left);
    }

pub add_last-requires-clause-past : goal.add_last-requires-clause-past
add_last-requires-clause-past c =
    let t = c.args.star.now in let k = c.place_of-place.result in let v = vector_of c.left-left.result in
    let past = only-past t v k
    (λ s. true_or_false (sym (c.is_same.ensures.same.1 (as-same (left_at t.rays.items k) c.left_of_ray.result c.left-left.result c.left_of_ray.ensures.left s)) ∙ c.if-is_same.false))
    c.place_of-place.ensures.under in
    let count : c.len.result ≡ length t.rays.items = omega (arith, c.len.ensures) in
    let next = subst (λ (n : ℕ). IsNext n k c.next_of-next.result) count c.next_of-next.ensures.next in
    let within : c.next_of-next.result < length t.rays.items = omega (arith, c.next_of-next.ensures.within, c.len.ensures) in
    counted-past t c.count_from.new.star c.requires.turned c.count_from.ensures.kept c.next_of-next.result within c.count_from.ensures.counted (left_of c.args.ray.now) k c.place_of-place.ensures.within next
    (subst (λ (w : Vector). LeftPast t w k) c.left-left.ensures.left past)

pub returns : goal.returns
returns c =
    let t = c.args.star.now in
    let within : c.next_of-next.result < length t.rays.items = omega (arith, c.next_of-next.ensures.within, c.len.ensures) in
    record {
      cut = on_ok_weaker c.add_last.result
          (λ cut. counted-cut t c.count_from.new.star c.requires.turned c.count_from.ensures.kept c.next_of-next.result within c.count_from.ensures.counted (left_of c.args.ray.now) c.add_last.new.star cut)
          c.add_last.ensures.cut;
    }

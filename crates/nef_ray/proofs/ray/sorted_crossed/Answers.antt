use Rattle.nef_ray.proofs.Prelude.{◌≡◌, ◌+◌, ◌*ℤ◌, ◌<ℤ◌, ◌++◌, [], ◌∷◌, All, arith, rules, refl, subst, sym, ap, ◌∙◌, All-push, answers_always, All-permutation, MatchOrdering, is-at_within, next-all, Crossed, IsHitOf, crossed_lt}
use Rattle.nef_ray.proofs.Listed.{AreFirstCrossed, CrossedListed, listed-more, listed-last, sorted-kept}
use Rattle.nef_ray.proofs.Nearness.{steps_weak, answers-step}
use Rattle.nef_ray.proofs.ray.sorted_crossed.Goals as goal
use Rattle.nef_ray.proofs.ray.sorted_crossed.Goals.{in-Some+in_ok-push, in_default}

pub loop-number-preserved : goal.loop-number-preserved
loop-number-preserved c =
    let hs = c.args.c.now.carriers in let ray = c.args.ray.now in let n = c.loop-number.number in let h = c.at.result.now in let xs = c.loop-number.crossed.items in
    record {
      all = elim c.match-ray_hit.branch [
        | in-Some+in_ok-push w ↦
            let x : Crossed = record { plane = h; at = w.in-Some.at } in
            subst (AreFirstCrossed hs ray (n + 1)) (sym (ap (λ v. v.items) w.crossed-is ∙ w.in_ok-push.ensures.items))
            (next-all (CrossedListed ray (xs ++ x ∷ [])) hs n h c.at.ensures.element (λ k g l a y X. listed-more xs x g (c.loop-number.invariant.all k g l a y X)) (λ y X. listed-last xs x))
        | in_default w ↦ subst (AreFirstCrossed hs ray (n + 1)) (sym (ap (λ v. v.items) w.crossed-is))
            (next-all (CrossedListed ray xs) hs n h c.at.ensures.element c.loop-number.invariant.all (λ y X. absurd (w.in_default.ensures.none.0 refl y X)))
      ];
      hits = elim c.match-ray_hit.branch [
        | in-Some+in_ok-push w ↦
            let x : Crossed = record { plane = h; at = w.in-Some.at } in
            subst (All (IsHitOf ray)) (sym (ap (λ v. v.items) w.crossed-is ∙ w.in_ok-push.ensures.items))
            (All-push (IsHitOf ray) xs x c.loop-number.invariant.hits (record { crossing = w.in-Some.ensures.crossing; reached = w.in-Some.ensures.step }))
        | in_default w ↦ subst (All (IsHitOf ray)) (sym (ap (λ v. v.items) w.crossed-is)) c.loop-number.invariant.hits
      ];
    }

pub returns-clause-all : goal.returns-clause-all
returns-clause-all c = sorted-kept c.args.c.now.carriers c.args.ray.now c.loop-number.crossed.items c.sort_unstable_by.new.self.items c.sort_unstable_by.ensures.permutation
    (λ k h a y X. let l = is-at_within c.args.c.now.carriers k h a in let t = c.loop-number-test.false in let e = c.len-number-end.ensures.len in c.loop-number.invariant.all k h (omega (arith, l, t, e)) a y X)

pub returns-clause-hits : goal.returns-clause-hits
returns-clause-hits c = All-permutation (IsHitOf c.args.ray.now) c.loop-number.crossed.items c.sort_unstable_by.new.self.items c.sort_unstable_by.ensures.permutation c.loop-number.invariant.hits

pub returns-clause-sorted : goal.returns-clause-sorted
returns-clause-sorted c = c.sort_unstable_by.ensures.sorted crossed_lt steps_weak (answers_always _ _ _ (λ f a r g h.
    let x = a.0.now in let y = a.1.0.now in
    let k : MatchOrdering r ((x.at.num *ℤ y.at.den) <ℤ (y.at.num *ℤ x.at.den)) (x.at.num *ℤ y.at.den ≡ y.at.num *ℤ x.at.den) ((y.at.num *ℤ x.at.den) <ℤ (x.at.num *ℤ y.at.den)) = search rules in
    answers-step x y r k))

use Rattle.nef_spair.proofs.Prelude.{List, [], ◌∷◌, ◌++◌, sym, subst, ◌∙◌, inl, inr, Star, true_or_false, SLoop, IsDropped, AreAllKept, AreOthers, AreCircles}
use Rattle.nef_spair.proofs.Places.{others-same, others-keep, others-leave}
use Rattle.nef_spair.proofs.Parting.{no-circles, circles-more, circles-same, not-dropped}
use Rattle.nef_spair.proofs.making.parted.Goals as goal

pub returns-then-are_all_kept : goal.returns-then-are_all_kept
returns-then-are_all_kept c =
    let ts = c.args.stars in let all = subst AreAllKept c.as_slice.ensures.all (c.are_all_kept.ensures.kept c.if-are_all_kept.true) in
    record {
      kept = subst (AreOthers IsDropped ts) (sym {A = List Star} c.into_vec.ensures.all) (others-same IsDropped ts all);
      circles = subst (AreCircles ts) (sym {A = List SLoop} c.new.ensures.items) (no-circles ts all);
    }

pub loop-star-preserved-then-is_straight : goal.loop-star-preserved-then-is_straight
loop-star-preserved-then-is_straight c =
    let ts = c.loop-star.yielded in let t = c.in-Some.star in let w = c.loop-star.invariant in
    record {
      kept = others-leave IsDropped ts c.loop-star.kept.items t w.kept (inr (c.is_straight.ensures.straight.0 c.if-is_straight.true));
      circles = subst (AreCircles (ts ++ t ∷ [])) (sym {A = List SLoop} c.in_ok-push.ensures.items) (circles-more ts c.loop-star.circles.items t w.circles c.circle_of.result c.circle_of.ensures.circle c.circle_of.ensures.small);
    }

pub loop-star-preserved-in-Continue-branch-2 : goal.loop-star-preserved-in-Continue-branch-2
loop-star-preserved-in-Continue-branch-2 c =
    let ts = c.loop-star.yielded in let t = c.in-Some.star in let w = c.loop-star.invariant in
    record {
      kept = subst (AreOthers IsDropped (ts ++ t ∷ [])) (sym {A = List Star} c.in_ok-push-2.ensures.items) (others-keep IsDropped ts c.loop-star.kept.items t w.kept
          (not-dropped t (λ p. true_or_false (sym (c.is_plain.ensures.plain.1 p) ∙ c.if-not-is_plain.true)) (λ s. true_or_false (sym (c.is_straight.ensures.straight.1 s) ∙ c.if-is_straight.false))));
      circles = circles-same ts c.loop-star.circles.items t w.circles (λ s. true_or_false (sym (c.is_straight.ensures.straight.1 s) ∙ c.if-is_straight.false));
    }

pub loop-star-preserved : goal.loop-star-preserved
loop-star-preserved c =
    let ts = c.loop-star.yielded in let t = c.in-Some.star in let w = c.loop-star.invariant in
    record {
      kept = others-leave IsDropped ts c.loop-star.kept.items t w.kept (inl (c.is_plain.ensures.plain.0 c.if-not-is_plain.false));
      circles = circles-same ts c.loop-star.circles.items t w.circles (λ s. true_or_false (sym (c.is_straight.ensures.straight.1 s) ∙ c.if-is_straight.false));
    }

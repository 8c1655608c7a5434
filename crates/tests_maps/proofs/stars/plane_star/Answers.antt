use Rattle.tests_maps.proofs.Prelude.{◌≡◌, List, [], ◌∷◌, ◌++◌, length, ap, ◌∙◌, Label, Ray}
use Rattle.nef_star.proofs.Straight.{plane-star-of}
use Rattle.tests_maps.proofs.stars.plane_star.Goals as goal

pub returns-clause-star : goal.returns-clause-star
returns-clause-star c =
    let rays : c.of-3.result.rays.items ≡ c.of.result ∷ c.of-2.result ∷ [] = c.of-3.ensures.rays ∙ c.in_ok-push-2.ensures.items ∙ ap (λ (l : List Ray). l ++ c.of-2.result ∷ []) (c.in_ok-push.ensures.items ∙ ap (λ (l : List Ray). l ++ c.of.result ∷ []) c.new-rays.ensures.items) in
    let sectors : c.of-3.result.sectors.items ≡ c.args.above ∷ c.args.below ∷ [] = c.of-3.ensures.sectors ∙ c.in_ok-push-4.ensures.items ∙ ap (λ (l : List Label). l ++ c.args.below ∷ []) (c.in_ok-push-3.ensures.items ∙ ap (λ (l : List Label). l ++ c.args.above ∷ []) c.new-sectors.ensures.items) in
    plane-star-of c.of-3.result c.of.result c.of-2.result c.args.axis c.args.normal c.of-3.ensures.axis rays (ap length sectors) c.requires.axis_small c.requires.level c.requires.normal_small c.requires.normal c.of.ensures.normal c.of-2.ensures.normal c.of.ensures.ahead c.of-2.ensures.ahead

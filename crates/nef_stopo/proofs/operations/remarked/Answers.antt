use Rattle.nef_stopo.proofs.Prelude.{List, length, map, sym, ap, subst, ◌∙◌, Label, face_label, star_labels, Ray, star_of, topology_of, AreRaysMarked}
use Rattle.nef_stopo.proofs.Labels.{label-near}
use Rattle.nef_stopo.proofs.Remarked.{star-remarked, labels-remarked}
use Rattle.nef_stopo.proofs.operations.remarked.Goals as goal

pub returns-clause-star : goal.returns-clause-star
returns-clause-star c =
    let k = topology_of c.args.topology in let t = c.args.star.now in
    star-remarked k t c.of.result c.requires.star c.of.ensures.axis
    (subst (AreRaysMarked k t (length t.rays.items)) (sym {A = List Ray} c.of.ensures.rays) c.in_ok-rays.ensures.rays)
    (c.of.ensures.sectors ∙ c.in_ok-sectors.ensures.sectors ∙ ap (λ (ls : List Label). map (face_label k) ls) c.as_slice.ensures.value)

pub returns-clause-remarked : goal.returns-clause-remarked
returns-clause-remarked c =
    let k = topology_of c.args.topology in let t = c.args.star.now in
    labels-remarked k t c.of.result c.requires.star c.of.ensures.axis
    (subst (AreRaysMarked k t (length t.rays.items)) (sym {A = List Ray} c.of.ensures.rays) c.in_ok-rays.ensures.rays)
    (c.of.ensures.sectors ∙ c.in_ok-sectors.ensures.sectors ∙ ap (λ (ls : List Label). map (face_label k) ls) c.as_slice.ensures.value)
    (c.of.ensures.mark ∙ label-near k t.mark c.label-mark.result c.near_star.result (star_labels (star_of t)) c.label-mark.ensures.label c.near_star.ensures)

use Rattle.nef_star.proofs.Prelude.{List, take, drop, ◌++◌, refl, sym, ap, ◌∙◌, with_items, Star, Label, Ray, IsCountedFrom}
use Rattle.nef_star.proofs.Counted.{refilled, counted-turned, counted-kept}
use Rattle.nef_star.proofs.rays.count_from.Goals as goal

pub returns : goal.returns
returns c =
    let m = c.args.first in let t = c.args.star.now in
    let s : Star = record { axis = t.axis; rays = with_items t.rays c.turn.new.xs; sectors = with_items t.sectors c.turn-2.new.xs; mark = t.mark } in
    let counted : IsCountedFrom m t s = record {
      rays = refilled t.rays.len c.turn.new.xs _ (sym (c.turn.ensures.len ∙ c.as_mut_slice.ensures.len)) ∙ c.turn.ensures.turned ∙ ap (λ (l : List Ray). drop m l ++ take m l) c.as_mut_slice.ensures.value;
      sectors = refilled t.sectors.len c.turn-2.new.xs _ (sym (c.turn-2.ensures.len ∙ c.as_mut_slice-2.ensures.len)) ∙ c.turn-2.ensures.turned ∙ ap (λ (l : List Label). drop m l ++ take m l) c.as_mut_slice-2.ensures.value;
    } in
    record { turned = counted-turned t s c.requires.turned refl refl m c.requires.within counted; kept = counted-kept t s c.requires.turned refl refl m c.requires.within counted; counted = counted }

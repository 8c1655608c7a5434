use Rattle.nef_spair.proofs.Prelude.{List, length, map, refl, sym, ap, subst, ◌∙◌, InOrder, svertex_at, Star, star_of, IsStar, SArc, SLoop, svertex_of, All, AreArcs, IsArcBelow, Pieces, IsChosen, ArePiecesOf}
use Rattle.std.specs.Prelude.{MatchOption}
use Rattle.nef_spair.proofs.Built.{kept-stars}
use Rattle.nef_spair.proofs.Sorted.{sorted-arcs}
use Rattle.nef_spair.proofs.making.map_of_simple.Goals as goal

pub svertices_of-requires : goal.svertices_of-requires
svertices_of-requires c =
    let p : Pieces = record { kept = c.in_ok-kept.kept.items; circles = c.in_ok-kept.circles.items; ground = c.some_label-label.result } in
    let are : ArePiecesOf c.args.raw p = record { kept = c.in_ok-kept.ensures.kept; circles = c.in_ok-kept.ensures.circles; ground = c.some_label-label.ensures.ground } in
    record { stars = subst (All IsStar) (sym c.deref.ensures.value) (kept-stars c.args.raw p are c.requires.stars) }

pub arcs_of-requires : goal.arcs_of-requires
arcs_of-requires c =
    let p : Pieces = record { kept = c.in_ok-kept.kept.items; circles = c.in_ok-kept.circles.items; ground = c.some_label-label.result } in
    let are : ArePiecesOf c.args.raw p = record { kept = c.in_ok-kept.ensures.kept; circles = c.in_ok-kept.ensures.circles; ground = c.some_label-label.ensures.ground } in
    record { stars = subst (All IsStar) (sym c.deref-2.ensures.value) (kept-stars c.args.raw p are c.requires.stars) }

pub returns : goal.returns
returns c =
    let kept = c.in_ok-kept.kept.items in
    let given = c.args.raw.sloop in
    let same = c.from_vec.ensures.all in let value = c.deref-5.ensures.value in
    let found = subst (λ (l : List Star). AreArcs l (length l) 0 c.in_ok-arcs.arcs.items) c.deref-2.ensures.value c.in_ok-arcs.ensures.arcs in
    let arcs = sorted-arcs kept (length kept) 0 c.in_ok-arcs.arcs.items c.sort_arcs.new.arcs.items c.sort_arcs.ensures.permutation found in
    let chosen = subst (λ (k : List Star). MatchOption c.sloop_of-sloop.result ((l : SLoop) → IsChosen k c.in_ok-kept.circles.items given l → ⊥) (IsChosen k c.in_ok-kept.circles.items given)) c.deref-4.ensures.value
    (subst (λ (cs : List SLoop). MatchOption c.sloop_of-sloop.result ((l : SLoop) → IsChosen c.deref-4.result.now cs given l → ⊥) (IsChosen c.deref-4.result.now cs given)) c.deref-3.ensures.value c.sloop_of-sloop.ensures.chosen) in
    record {
      made = record {
        pieces = record { kept = kept; circles = c.in_ok-kept.circles.items; ground = c.some_label-label.result };
        are_pieces = record { kept = c.in_ok-kept.ensures.kept; circles = c.in_ok-kept.ensures.circles; ground = c.some_label-label.ensures.ground };
        made = record {
          mark = refl;
          svertices = ap (map svertex_of) same ∙ c.in_ok-svertices.ensures.svertices ∙ ap (λ (l : List Star). map svertex_at (map star_of l)) c.deref.ensures.value;
          arcs = subst (AreArcs kept (length kept) 0) (sym {A = List SArc} c.from_vec-2.ensures.all) arcs;
          ordered = subst (InOrder IsArcBelow) (sym {A = List SArc} c.from_vec-2.ensures.all) c.sort_arcs.ensures.ordered;
          sloop = chosen;
          ground = λ e f. c.ground_of-ground.ensures.alone (value ∙ sym same ∙ e) f;
          ground_not = λ l e. let o = c.ground_of-ground.ensures.only l e in (same ∙ sym value ∙ o.0, o.1);
        };
      };
    }

use Rattle.nef_facets.proofs.Prelude.{List, arith, sym, ap, ◌∙◌, subst, Tie, complex_of, IsTieAcross, Adds}
use Rattle.nef_facets.proofs.Adding.{adds-none, any-next, any-all}
use Rattle.nef_facets.proofs.AcrossLinks.{tie-added, tie-none}
use Rattle.nef_facets.proofs.ItemCarriers.{has-item}
use Rattle.nef_facets.proofs.WayInward.{item-below}
use Rattle.nef_facets.proofs.ties.add_vertex_ties.Goals as goal
use Rattle.nef_facets.proofs.ties.add_vertex_ties.Goals.{in-Some+in_ok-push, in_default}

pub across-requires-clause-corner : goal.across-requires-clause-corner
across-requires-clause-corner c =
    has-item c.args.c.now c.args.vertex c.loop-item.item c.at.result.now c.at.ensures.element (let e = c.item_count-item-end.ensures.count in let h = c.loop-item-test.true in omega (arith, e, h))

pub loop-item-preserved : goal.loop-item-preserved
loop-item-preserved c =
    let C = complex_of c.args.c.now in
    let S = c.requires.shows in
    let i = c.args.vertex in let j = c.loop-item.item in
    let now = c.loop-item.ties.items in
    record {
      added = any-next (IsTieAcross C i) j c.args.ties.now.items now c.match-across.ties.items c.loop-item.invariant.added
          (elim c.match-across.branch [
            | in-Some+in_ok-push w ↦ subst (λ (ts : List Tie). Adds (IsTieAcross C i j) now ts) (sym (ap (λ v. v.items) w.ties-is ∙ w.in_ok-push.ensures.items))
                (tie-added S.0 C S.1.shows i j w.in-Some.there w.in-Some.ensures.linked now)
            | in_default w ↦ subst (λ (ts : List Tie). Adds (IsTieAcross C i j) now ts) (sym (ap (λ v. v.items) w.ties-is))
                (adds-none (IsTieAcross C i j) now (tie-none S.0 C S.1.shows i j w.in_default.ensures.linked))
          ]);
    }

pub returns : goal.returns
returns c =
    let C = c.args.c.now in
    record {
      added = any-all (IsTieAcross (complex_of C) c.args.vertex) c.loop-item.item c.args.ties.now.items c.loop-item.ties.items
          (λ k t p. let b = item-below C c.args.vertex c.at.result.now c.at.ensures.element k t p in let e = c.item_count-item-end.ensures.count in let f = c.loop-item-test.false in omega (arith, b, e, f)) c.loop-item.invariant.added;
    }

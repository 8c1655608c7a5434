use Rattle.nef_cand.proofs.Prelude.{◌<◌, length, arith, ap, sym, ◌∙◌, subst, is-at_some, complex_of, IsNamedIn, AddsPoints, CutsEdge}
use Rattle.nef_cand.proofs.Adding.{adds-none, adds-one, any-next, any-all}
use Rattle.nef_cand.proofs.Held.{cut-named, cuts-all}
use Rattle.nef_cand.proofs.listing.add_plane_cuts.Goals.{in-Some+in_ok-push, in_default}
use Rattle.nef_cand.proofs.listing.add_plane_cuts.Goals as goal

pub loop-number-init : goal.loop-number-init
loop-number-init c = record { added = adds-none _ _ _ _ (λ y (k, x, l, a, p). absurd (omega (arith, l))) }

pub loop-number-preserved : goal.loop-number-preserved
loop-number-preserved c =
    let C = c.args.c.now in let i = c.loop-number.number in let N = IsNamedIn c.args.operand (complex_of C) in let h = c.args.h.now in
    let P = CutsEdge C h in let old = c.loop-number.listed.items in
    let l : i < length C.edges = (let t = c.loop-number-test.true in let n = c.len-number-end.ensures.len in omega arith) in
    let e = is-at_some C.edges i l in let at = e.1 in
    record {
      added = any-next P P N C.edges i e.0 c.args.listed.now.items old c.match-crossing.listed.items at c.loop-number.invariant.added
          (elim c.match-crossing.branch [
            | in-Some+in_ok-push w ↦
                let near = w.in-Some.ensures.crossing e.0 e.1 in
                subst (AddsPoints (P e.0) N old) (sym (ap (λ v. v.items) w.listed-is ∙ w.in_ok-push.ensures.items))
                (adds-one (P e.0) (P e.0) N old _ near.0 (cut-named c.args.operand C h i e.0 at w.in-Some.point near.0) near.1)
            | in_default w ↦ subst (AddsPoints (P e.0) N old) (sym (ap (λ v. v.items) w.listed-is)) (adds-none (P e.0) (P e.0) N old (w.in_default.ensures.crossing e.0 e.1))
          ]);
    }

pub returns : goal.returns
returns c =
    let C = c.args.c.now in let i = c.loop-number.number in let N = IsNamedIn c.args.operand (complex_of C) in let P = CutsEdge C c.args.h.now in
    record {
      added = cuts-all C c.args.h.now N c.args.listed.now.items c.loop-number.listed.items
          (any-all P P N C.edges i c.args.listed.now.items c.loop-number.listed.items (let f = c.loop-number-test.false in let e = c.len-number-end.ensures.len in omega arith) c.loop-number.invariant.added);
    }

use Rattle.nef_volumes.proofs.Prelude.{List, get_or, arith, sym, ap, ◌∙◌, subst, Tie, is-at_get, Adds, Any, any-start, any-next, any-all, complex_of, IsTieNumbered}
use Rattle.nef_volumes.proofs.SfaceTies.{numbered-added, numbered-none, numbered-sface, numbered-below}
use Rattle.nef_volumes.proofs.ties.add_sfaces.Goals as goal
use Rattle.nef_volumes.proofs.ties.add_sfaces.Goals.{in-Some+in_ok-push, in_default}

pub loop-side-init : goal.loop-side-init
loop-side-init c = any-start (λ s. Any (IsTieNumbered c.args.vertex c.args.numbers.now s)) c.args.ties.now.items

pub loop-side-preserved : goal.loop-side-preserved
loop-side-preserved c =
    let i = c.args.vertex in let ns = c.args.numbers.now in let s = c.loop-side.side in
    let now = c.loop-side.ties.items in
    let at_s = is-at_get ns s 0 (omega (arith, c.loop-side-test.true)) in
    any-next (λ r. Any (IsTieNumbered i ns r)) s c.args.ties.now.items now c.match-first_place.ties.items c.loop-side.invariant
    (elim c.match-first_place.branch [
      | in-Some+in_ok-push w ↦ subst (λ (ts : List Tie). Adds (Any (IsTieNumbered i ns s)) now ts) (sym (ap (λ v. v.items) w.ties-is ∙ w.in_ok-push.ensures.items))
          (numbered-added i s ns (get_or ns s 0) at_s now w.in-Some.earlier w.in-Some.ensures.place w.cell-first.result w.cell-second.result w.cell-first.ensures.cell w.cell-second.ensures.cell)
      | in_default w ↦ subst (λ (ts : List Tie). Adds (Any (IsTieNumbered i ns s)) now ts) (sym (ap (λ v. v.items) w.ties-is))
          (numbered-none i s ns (get_or ns s 0) at_s now w.in_default.ensures.place)
    ])

pub returns : goal.returns
returns c =
    let i = c.args.vertex in
    let ns = c.args.numbers.now in
    let (v, a, F) = c.requires.numbers in
    record {
      added = numbered-sface (complex_of c.args.c.now) i v a ns F c.args.ties.now.items c.loop-side.ties.items
          (any-all (λ r. Any (IsTieNumbered i ns r)) c.loop-side.side c.args.ties.now.items c.loop-side.ties.items
          (λ k t p. let l = numbered-below i ns k t p in omega (arith, l, c.loop-side-test.false)) c.loop-side.invariant);
    }

use Rattle.nef_sover.proofs.Prelude.{◌≡◌, ◌<◌, ◌≤◌, List, length, get_or, subst, SVertex}
use Rattle.nef_sover.proofs.Adding.{any-none}
use Rattle.nef_sover.proofs.Meets.{IsSvertexAlong, svertex-more, svertices-all}
use Rattle.nef_sover.proofs.axes.add_svertices.Goals as goal

pub loop-svertex-init : goal.loop-svertex-init
loop-svertex-init c = record { added = any-none IsSvertexAlong c.args.map.now.svertices c.args.axes.now.items }

pub loop-svertex-preserved : goal.loop-svertex-preserved
loop-svertex-preserved c =
    let i = c.loop-svertex.svertex-index in let v = c.svertex-item.result in let all = c.as_slice-svertex-items.ensures.all in
    record {
      added = svertex-more c.args.map.now c.requires.map i v c.args.axes.now.items c.loop-svertex.axes.items c.push.new.self.items
          (subst (λ (vs : List SVertex). i < length vs) all c.loop-svertex-test.true) (subst (λ (vs : List SVertex). v ≡ get_or vs i v) all c.svertex-item.is)
          c.loop-svertex.invariant.added c.in_ok-push.ensures.items;
    }

pub returns : goal.returns
returns c =
    let i = c.loop-svertex.svertex-index in let all = c.as_slice-svertex-items.ensures.all in
    record {
      added = svertices-all c.args.map.now c.requires.map i c.args.axes.now.items c.loop-svertex.axes.items (subst (λ (vs : List SVertex). length vs ≤ i) all c.loop-svertex-test.false) c.loop-svertex.invariant.added;
    }

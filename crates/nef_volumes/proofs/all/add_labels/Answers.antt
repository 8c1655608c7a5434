use Rattle.nef_volumes.proofs.Prelude.{◌≡◌, ◌+◌, ◌<◌, List, length, get_or, arith, sym, ap, ◌∙◌, subst, Label, map_of, is-at_get, AreLabelsTo}
use Rattle.nef_volumes.proofs.VolumeLabels.{labels-start, labels-more, labels-pass, labels-all}
use Rattle.nef_volumes.proofs.all.add_labels.Goals as goal
use Rattle.nef_volumes.proofs.all.add_labels.Goals.{then-number-len+in_ok-push, else-number-len}

pub loop-side-init : goal.loop-side-init
loop-side-init c = labels-start (map_of c.args.map.now) c.args.row.now c.args.labels.now.items

pub loop-side-preserved : goal.loop-side-preserved
loop-side-preserved c =
    let M = map_of c.args.map.now in
    let row = c.args.row.now in
    let xs = c.args.labels.now.items in
    let n = c.loop-side.side in
    let ys = c.loop-side.labels.items in
    let m = get_or row n 0 in
    let h : n < length row = omega arith in
    let a = is-at_get row n 0 h in
    elim c.if-number-len.branch [
      | then-number-len+in_ok-push w ↦
          let g = w.side_label.ensures.label in
          let l = c.len.ensures in let o = c.loop-side.labels.ok in let p = w.if-number-len.true in let e : m ≡ length ys = omega arith in
          subst (λ (ls : List Label). AreLabelsTo M row xs (n + 1) ls) (sym (ap (λ v. v.items) w.labels-is ∙ w.in_ok-push.ensures.items))
          (labels-more M row xs n m ys g.0 w.side_label.result c.loop-side.invariant a e g.1)
      | else-number-len w ↦ subst (λ (ls : List Label). AreLabelsTo M row xs (n + 1) ls) (sym (ap (λ v. v.items) w.labels-is))
          (labels-pass M row xs n m ys c.requires.appeared c.loop-side.invariant a (λ f. w.if-number-len.false (let l = c.len.ensures in let o = c.loop-side.labels.ok in omega arith)))
    ]

pub returns : goal.returns
returns c = record { added = labels-all (map_of c.args.map.now) c.args.row.now c.args.labels.now.items c.loop-side.side c.loop-side.labels.items (omega arith) c.loop-side.invariant }

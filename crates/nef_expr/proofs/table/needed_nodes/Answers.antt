use Rattle.nef_expr.proofs.Prelude.{◌≡◌, ◌+◌, ◌-◌, [], ◌∷◌, drop, length, true, arith, ap, sym, subst, ◌∙◌, length-append, Some, refl, slice_get, take-append_seam, slice_get_read, slice_get-get_or, IsMarked}
use Rattle.nef_expr.specs.declared.nodes.Node.TheVariants as node
use Rattle.nef_expr.proofs.Operands.{names-wider}
use Rattle.nef_expr.proofs.Marks.{MarksFrom, marks-start, marks-more, marks-passed, marks-end, marked-last}
use Rattle.nef_expr.proofs.table.needed_nodes.Goals as goal
use Rattle.nef_expr.proofs.table.needed_nodes.Goals.{then-list-i, else-list-i}

pub loop-back-init : goal.loop-back-init
loop-back-init c =
    let old = c.in_ok-marks.marks.items in
    let value = c.as_mut_slice-list.ensures.value ∙ c.in_ok-push.ensures.items in
    let longer = ap length value ∙ length-append old (true ∷ []) in
    let len = c.in_ok-marks.ensures.len in let ok = c.in_ok-marks.marks.ok in
    let count : length old ≡ c.args.k = omega (arith, len, ok) in
    marks-start c.args.nodes.now c.args.k _ (omega (arith, longer, len, ok)) (subst (λ marks. IsMarked marks c.args.k) (sym value) (marked-last old c.args.k count))

pub mark_operands-requires : goal.mark_operands-requires
mark_operands-requires c =
    let nodes = c.args.nodes.now in
    let i = c.args.k - c.loop-back.back in
    let l = c.loop-back-test.true in let e = c.requires.existing in
    let n = c.index-nodes-i.result in
    let is : slice_get nodes i ≡ Some n = slice_get_read nodes (length nodes) i n refl (omega (arith, l, e)) c.index-nodes-i.is in
    let count = c.loop-back.invariant.count in
    record { operands = names-wider i (length c.loop-back.list) n (omega (arith, l, count)) (c.requires.ordered i n is) }

pub loop-back-preserved : goal.loop-back-preserved
loop-back-preserved c =
    let nodes = c.args.nodes.now in
    let i = c.args.k - c.loop-back.back in
    let l = c.loop-back-test.true in let e = c.requires.existing in
    elim c.if-list-i.branch [
      | then-list-i w ↦ (
          let n = w.index-nodes-i.result in
          let is : slice_get nodes i ≡ Some n = slice_get_read nodes (length nodes) i n refl (omega (arith, l, e)) w.index-nodes-i.is in
          subst (MarksFrom nodes c.args.k (c.loop-back.back + 1)) (sym w.list-is)
          (marks-more nodes c.requires.ordered c.args.k c.loop-back.back i (omega (arith, l)) n is c.loop-back.list w.mark_operands.new.marks c.loop-back.invariant w.mark_operands.ensures.marked))
      | else-list-i w ↦ (
          let is = slice_get-get_or nodes i node.Empty (omega (arith, l, e)) in
          subst (MarksFrom nodes c.args.k (c.loop-back.back + 1)) (sym w.list-is)
          (marks-passed nodes c.requires.ordered c.args.k c.loop-back.back i (omega (arith, l)) _ is c.loop-back.list c.loop-back.invariant w.if-list-i.false))
    ]

pub returns : goal.returns
returns c =
    let list = c.loop-back.list in
    let count : c.push.new.self.len ≡ length list = omega (arith, c.loop-back.auto.list, c.as_mut_slice-list.ensures.len) in
    record {
      needed = rw (count, take-append_seam list (drop (length list) c.push.new.self.items))
          (marks-end c.args.nodes.now c.args.k c.loop-back.back list c.loop-back-test.false c.loop-back.invariant);
    }

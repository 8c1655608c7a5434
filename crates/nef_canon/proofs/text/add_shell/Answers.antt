use Rattle.nef_canon.proofs.Prelude.{List, ℕ, [], ◌∷◌, ◌++◌, codes, on_ok_weaker, flat_map, side_words}
use Rattle.nef_complex.specs.declared.parts.Side.{Side}
use Rattle.nef_canon.proofs.Lines.{appended, line-begun, more-elements, all-elements, line-ended}
use Rattle.nef_canon.proofs.text.add_shell.Goals as goal

pub loop-s-init : goal.loop-s-init
loop-s-init c = line-begun c.args.text.now.items (codes "h") _ c.in_ok-push.ensures.items

pub loop-s-preserved : goal.loop-s-preserved
loop-s-preserved c =
    let xs : List Side = c.as_slice-s-items.result.now in
    let i = c.loop-s.s-index in
    let d : Side = record { vertex = 0; side = 0 } in
    more-elements side_words xs c.args.shell.now.sides c.as_slice-s-items.ensures.all i d c.loop-s-test.true c.args.text.now.items (codes "h") _ _ c.loop-s.invariant
    c.in_ok-add_counts.ensures.added

pub returns : goal.returns
returns c =
    let o : List ℕ = c.args.text.now.items in
    let xs : List Side = c.as_slice-s-items.result.now in
    let ks : List Side = c.args.shell.now.sides in
    let all = all-elements side_words xs ks c.as_slice-s-items.ensures.all c.loop-s.s-index c.loop-s-test.false o (codes "h") _ c.loop-s.invariant in
    let t : List ℕ = c.loop-s.text.items in
    record { added = on_ok_weaker c.extend_from_slice.result (λ h. line-ended o (codes "h") t _ (flat_map side_words ks) all h) (appended c.extend_from_slice.result _ (t ++ 10 ∷ []) t c.extend_from_slice.ensures.items) }

use Rattle.nef_canon.proofs.Prelude.{List, ℕ, [], ◌∷◌, ◌++◌, codes, on_ok_weaker, flat_map, corner_words}
use Rattle.nef_complex.specs.declared.complex.Corner.{Corner}
use Rattle.nef_canon.proofs.Lines.{appended, line-begun, more-elements, all-elements, line-ended}
use Rattle.nef_canon.proofs.text.add_cycle.Goals as goal

pub loop-k-init : goal.loop-k-init
loop-k-init c = line-begun c.args.text.now.items (codes "c") _ c.in_ok-push.ensures.items

pub loop-k-preserved : goal.loop-k-preserved
loop-k-preserved c =
    let xs : List Corner = c.as_slice-k-items.result.now in
    let i = c.loop-k.k-index in
    let d : Corner = record { vertex = 0; item = 0 } in
    more-elements corner_words xs c.args.cycle.now.corners c.as_slice-k-items.ensures.all i d c.loop-k-test.true c.args.text.now.items (codes "c") _ _ c.loop-k.invariant
    c.in_ok-add_counts.ensures.added

pub returns : goal.returns
returns c =
    let o : List ℕ = c.args.text.now.items in
    let xs : List Corner = c.as_slice-k-items.result.now in
    let ks : List Corner = c.args.cycle.now.corners in
    let all = all-elements corner_words xs ks c.as_slice-k-items.ensures.all c.loop-k.k-index c.loop-k-test.false o (codes "c") _ c.loop-k.invariant in
    let t : List ℕ = c.loop-k.text.items in
    record { added = on_ok_weaker c.extend_from_slice.result (λ h. line-ended o (codes "c") t _ (flat_map corner_words ks) all h) (appended c.extend_from_slice.result _ (t ++ 10 ∷ []) t c.extend_from_slice.ensures.items) }

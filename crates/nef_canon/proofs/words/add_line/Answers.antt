use Rattle.nef_canon.proofs.Prelude.{List, ℕ, [], ◌∷◌, ◌++◌, refl, ap, ◌∙◌, flat_map, on_ok_weaker, blanked}
use Rattle.nef_canon.specs.Words.{entry_words}
use Rattle.nef_canon.specs.declared.words.Entry.{Entry}
use Rattle.nef_canon.proofs.Lines.{appended, line-begun, more-elements, all-elements, line-ended}
use Rattle.nef_canon.proofs.words.add_line.Goals as goal

pub loop-entry-init : goal.loop-entry-init
loop-entry-init c = line-begun c.args.text.now.items c.args.first.now _ c.in_ok-extend_from_slice.ensures.items

pub loop-entry-preserved : goal.loop-entry-preserved
loop-entry-preserved c =
    let s : List ℕ = c.loop-entry.text.items in
    let es : List Entry = c.args.entries.now in
    more-elements entry_words es es refl c.loop-entry.entry-index c.entry-item.result c.loop-entry-test.true c.args.text.now.items c.args.first.now s _ c.loop-entry.invariant
    (c.in_ok-add_entry.ensures.added ∙ ap (λ (e : Entry). s ++ blanked (entry_words e)) c.entry-item.is)

pub returns : goal.returns
returns c =
    let o : List ℕ = c.args.text.now.items in
    let es : List Entry = c.args.entries.now in
    let t : List ℕ = c.loop-entry.text.items in
    let all = all-elements entry_words es es refl c.loop-entry.entry-index c.loop-entry-test.false o c.args.first.now _ c.loop-entry.invariant in
    record { added = on_ok_weaker c.extend_from_slice-2.result (λ h. line-ended o c.args.first.now t _ (flat_map entry_words es) all h) (appended c.extend_from_slice-2.result _ (t ++ 10 ∷ []) t c.extend_from_slice-2.ensures.items) }

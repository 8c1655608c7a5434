use Rattle.nef_smap.proofs.Prelude.{arith, is_some, ap, sym, ◌∙◌, whole, item_of}
use mir.Val.{bool_byte}
use Rattle.nef_smap.proofs.SideLists.{length-sides, side-around, side-item, side-whole}
use Rattle.nef_smap.proofs.item.side_label.Goals as goal
use Rattle.nef_smap.proofs.item.side_label.Goals.{in_default-ground-via-in-Some-ground+else-of_items-item_count, in_default-ground-via-in_default-ground}
use Rattle.nef_smap.proofs.Lists.{get-past}

pub returns-in-Some : goal.returns-in-Some
returns-in-Some c = record { label = side-around c.args.map.now c.args.side c.in-Some.label (sym c.in-Some.ensures.label) }

pub overflow_sub-of_items : goal.overflow_sub-of_items
overflow_sub-of_items c = let h = get-past _ c.args.side (sym c.around_label.ensures.label ∙ c.in_default.is) in omega arith

pub item_at-requires : goal.item_at-requires
item_at-requires c =
    let h = get-past _ c.args.side (sym c.around_label.ensures.label ∙ c.in_default.is) in
    let e = length-sides c.args.map.now in
    let within = c.requires.within in
    let count = c.around_sides.ensures.count in
    record {
      within = elim c.in_default-ground.branch [
        | in_default-ground-via-in-Some-ground+else-of_items-item_count w ↦ (let f = ap (λ o. bool_byte (is_some o)) w.in-Some-ground.is in let l = w.item_count.ensures.count in let n = w.if-of_items-item_count in omega arith)
        | in_default-ground-via-in_default-ground w ↦ (let f = ap (λ o. bool_byte (is_some o)) w.in_default-ground.is in omega arith)
      ];
    }

pub returns-in-Some-ground : goal.returns-in-Some-ground
returns-in-Some-ground c =
    let h = get-past _ c.args.side (sym c.around_label.ensures.label ∙ c.in_default.is) in
    let e = length-sides c.args.map.now in
    record { label = (whole, side-whole c.args.map.now c.args.side c.in-Some-ground.label (omega arith) c.in-Some-ground.is) }

pub returns-in_default-ground : goal.returns-in_default-ground
returns-in_default-ground c =
    let h = get-past _ c.args.side (sym c.around_label.ensures.label ∙ c.in_default.is) in
    record { label = side-item c.args.map.now c.args.side _ (item_of c.item_at.result) c.label.result (omega arith) c.item_at.ensures.item c.label.ensures.label }

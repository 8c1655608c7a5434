use Rattle.nef_smap.proofs.Prelude.{arith, is_some, ap}
use mir.Val.{bool_byte}
use Rattle.nef_smap.proofs.MapLists.{length-items, item-arc, item-sloop}
use Rattle.nef_smap.proofs.map.SphereMap.item_at.Goals as goal
use Rattle.nef_smap.proofs.map.SphereMap.item_at.Goals.{in_default-via-in-Some+else-number-len, in_default-via-in_default}

pub at-requires : goal.at-requires
at-requires c =
    let e = length-items c.args.self.now.arcs c.args.self.now.sloop in
    let within = c.requires.within in
    record {
      within = elim c.in_default.branch [
        | in_default-via-in-Some+else-number-len w ↦ (let f = ap (λ o. bool_byte (is_some o)) w.in-Some.is in let l = w.len.ensures in let n = w.if-number-len in omega arith)
        | in_default-via-in_default w ↦ (let f = ap (λ o. bool_byte (is_some o)) w.in_default.is in omega arith)
      ];
    }

pub returns-in-Some : goal.returns-in-Some
returns-in-Some c = record { item = item-sloop c.args.self.now.arcs c.args.self.now.sloop c.args.number c.in-Some.circle (omega arith) c.in-Some.is }

pub returns-in_default : goal.returns-in_default
returns-in_default c = record { item = item-arc c.args.self.now.arcs c.args.self.now.sloop c.args.number c.at.result.now c.at.ensures.element }

use Rattle.nef_smap.proofs.Prelude.{◌+◌, ◌*◌, cond, item_pos, item_neg, pos_item, neg_item, map_of}
use Rattle.nef_smap.proofs.SideLists.{side-of}
use Rattle.nef_smap.proofs.SideNumbers.{number-one}
use Rattle.nef_smap.proofs.map.SphereMap.item_side.Goals as goal

pub returns : goal.returns
returns c =
    let m = c.args.self.now in
    let above = c.args.above in
    let e = c.around_sides.ensures.count in
    let f = c.from.ensures in
    let n = c.around_sides.result + 2 * c.args.number + c.from.result in
    let s = side-of m n c.args.number above c.requires.within (cc) in
    record { number = number-one (map_of m) n (cond above (pos_item c.args.number) (neg_item c.args.number)) (cond above (item_pos s.0) (item_neg s.0)) s.2; side = s }

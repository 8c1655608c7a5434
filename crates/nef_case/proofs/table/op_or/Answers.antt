use Rattle.nef_case.proofs.Prelude.{◌≡◌, length, pos, rules, or_of}
use Rattle.nef_case.proofs.Tables.{number_is_plain}
use Rattle.nef_case.proofs.table.op_or.Goals as goal

pub returns : goal.returns
returns c =
    let long : length c.args.key.now ≡ 2 = search rules in
    record { label = number_is_plain (pos 0) 2 or_of _ c.new.result.rows.now c.args.key.now c.at.result c.at.type_inv c.new.ensures.rows c.at.ensures.row tt long c.requires.signs }

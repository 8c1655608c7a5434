use Rattle.nef_case.proofs.Prelude.{◌≡◌, length, false, rules}
use Rattle.nef_case.specs.Between.{between_of}
use Rattle.nef_case.proofs.Tables.{same_bool, bool_tests, row_is_plain}
use Rattle.nef_case.proofs.table.between.Goals as goal

pub returns : goal.returns
returns c =
    let long : length c.args.key.now ≡ 5 = search rules in
    record { value = row_is_plain same_bool bool_tests false 5 between_of _ c.new.result.rows.now c.args.key.now c.at.result c.new.ensures.rows c.at.ensures.row tt long c.requires.signs }

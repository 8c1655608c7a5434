use Rattle.nef_script.proofs.Prelude.{◌≡◌, ◌∙◌, true, false, is_some, length, refl, sym, ap, arith, le-leb, list_any, bytes_eq, name_count_limit}
use Rattle.std.specs.Prelude.{nat_le}
use Rattle.nef_script.proofs.Positions.{position-any}
use Rattle.nef_script.proofs.Firsts.{above, new-first}
use Rattle.nef_script.proofs.arguments.new_name.Goals as goal
use Rattle.nef_space.proofs.Elementary.{none-told}

pub returns-then-is_some : goal.returns-then-is_some
returns-then-is_some c =
    let w = c.args.word.now in let names = c.args.names.now in
    let among : list_any (bytes_eq w) names ≡ true = sym (position-any (bytes_eq w) names) ∙ ap is_some (sym c.find.ensures.place) ∙ sym c.is_some.ensures ∙ c.if-is_some.true in
    record { read = record { refusal = sym (new-first names w _ _ _ (sym c.is_name.ensures.name ∙ c.if-not-is_name.false) among refl); value = tt } }

pub returns-then-len-ge-NAME_COUNT_LIMIT : goal.returns-then-len-ge-NAME_COUNT_LIMIT
returns-then-len-ge-NAME_COUNT_LIMIT c =
    let w = c.args.word.now in let names = c.args.names.now in
    let among : list_any (bytes_eq w) names ≡ false = sym (position-any (bytes_eq w) names) ∙ ap is_some (sym c.find.ensures.place) ∙ sym c.is_some.ensures ∙ c.if-is_some.false in
    let many = c.if-len-ge-NAME_COUNT_LIMIT.true in let len = c.len.ensures.len in
    let full : nat_le name_count_limit (length names) ≡ true = le-leb name_count_limit (length names) (omega (arith, many, len)) in
    record { read = record { refusal = sym (new-first names w _ _ _ (sym c.is_name.ensures.name ∙ c.if-not-is_name.false) among full); value = tt } }

pub returns-else-len-ge-NAME_COUNT_LIMIT : goal.returns-else-len-ge-NAME_COUNT_LIMIT
returns-else-len-ge-NAME_COUNT_LIMIT c =
    let w = c.args.word.now in let names = c.args.names.now in
    let among : list_any (bytes_eq w) names ≡ false = sym (position-any (bytes_eq w) names) ∙ ap is_some (sym c.find.ensures.place) ∙ sym c.is_some.ensures ∙ c.if-is_some.false in
    let few = c.if-len-ge-NAME_COUNT_LIMIT.false in let len = c.len.ensures.len in
    let full : nat_le name_count_limit (length names) ≡ false = above name_count_limit (length names) (omega (arith, few, len)) in
    record { read = record { refusal = sym (new-first names w _ _ _ (sym c.is_name.ensures.name ∙ c.if-not-is_name.false) among full); value = (refl, none-told _ (position-any (bytes_eq w) names ∙ among), omega (arith, few, len)) } }

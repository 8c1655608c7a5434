use Rattle.nef_script.proofs.Prelude.{◌≡◌, ◌∙◌, true, false, Some, is_some, sym, ap, arith, list_any, position, bytes_eq, slice_get-get_or}
use Rattle.nef_script.proofs.Positions.{position-any, position-below}
use Rattle.nef_script.proofs.Firsts.{known-first}
use Rattle.nef_script.proofs.arguments.operand.Goals as goal

pub returns-in-Some : goal.returns-in-Some
returns-in-Some c =
    let w = c.args.word.now in let names = c.args.names.now in
    let at : position (bytes_eq w) names ≡ Some c.in-Some.place = sym c.find.ensures.place ∙ c.in-Some.is in
    let below = position-below (bytes_eq w) names c.in-Some.place at in
    let level = c.requires.level in
    let among : list_any (bytes_eq w) names ≡ true = sym (position-any (bytes_eq w) names) ∙ ap is_some at in
    record { read = record { refusal = sym (known-first names w _ _ (sym c.is_name.ensures.name ∙ c.if-not-is_name.false) among); value = (c.in-Some.place, at, slice_get-get_or c.args.bound.now c.in-Some.place 0 (omega (arith, below, level))) } }

pub returns-in-None : goal.returns-in-None
returns-in-None c =
    let w = c.args.word.now in let names = c.args.names.now in
    let among : list_any (bytes_eq w) names ≡ false = sym (position-any (bytes_eq w) names) ∙ ap is_some (sym c.find.ensures.place ∙ c.in-None.is) in
    record { read = record { refusal = sym (known-first names w _ _ (sym c.is_name.ensures.name ∙ c.if-not-is_name.false) among); value = tt } }

use Rattle.nef_case.proofs.Prelude.{rules, ◌≡◌, ◌∙◌, pos, sym, subst, length, arith, turned, numbered, IsTurnRow}
use Rattle.nef_case.proofs.TurnLemmas.{composition-turns, composed-row, composed-by_numbers, composed-only, composed-undone, wide-small}
use Rattle.nef_case.proofs.TurnTables.{turn-entries, words-are}
use Rattle.nef_case.proofs.turns.turn_compose.Goals as goal

pub turned_coordinates-x-requires-clause-x_small : goal.turned_coordinates-x-requires-clause-x_small
turned_coordinates-x-requires-clause-x_small c =
    let row = c.turn_row-row in
    let long : length row.result ≡ 3 = search rules in
    wide-small _ (row.ensures.entries 0 (pos 0) (omega (arith, long)))

pub turned_coordinates-x-requires-clause-y_small : goal.turned_coordinates-x-requires-clause-y_small
turned_coordinates-x-requires-clause-y_small c =
    let row = c.turn_row-row in
    let long : length row.result ≡ 3 = search rules in
    wide-small _ (row.ensures.entries 1 (pos 0) (omega (arith, long)))

pub turned_coordinates-x-requires-clause-z_small : goal.turned_coordinates-x-requires-clause-z_small
turned_coordinates-x-requires-clause-z_small c =
    let row = c.turn_row-row in
    let long : length row.result ≡ 3 = search rules in
    wide-small _ (row.ensures.entries 2 (pos 0) (omega (arith, long)))

pub number_of-requires : goal.number_of-requires
number_of-requires c =
    let row = c.turn_row-row in
    let later = c.turn_row-later in
    let t = c.turned_coordinates-x.result in
    let long : length row.result ≡ 3 = search rules in
    let is = composed-row c.args.j c.args.k later.result row.result t long row.ensures.entries row.ensures.row later.ensures.row c.turned_coordinates-x.ensures.made in
    let turn = composition-turns c.args.j c.args.k c.requires.later c.requires.earlier in
    let is_row : IsTurnRow t = (turn.0, turn.1, turn.2 ∙ sym is) in
    record { turn = subst IsTurnRow (sym (words-are t (turn-entries t is_row))) is_row }

pub returns : goal.returns
returns c =
    let row = c.turn_row-row in
    let later = c.turn_row-later in
    let t = c.turned_coordinates-x.result in
    let long : length row.result ≡ 3 = search rules in
    let is = composed-row c.args.j c.args.k later.result row.result t long row.ensures.entries row.ensures.row later.ensures.row c.turned_coordinates-x.ensures.made in
    let turn = composition-turns c.args.j c.args.k c.requires.later c.requires.earlier in
    let is_row : IsTurnRow t = (turn.0, turn.1, turn.2 ∙ sym is) in
    let result = c.number_of.result in
    let composed : turned result numbered ≡ turned c.args.j (turned c.args.k numbered) = c.number_of.ensures.row ∙ words-are t (turn-entries t is_row) ∙ is in
    record {
      below = c.number_of.ensures.below;
      composed = composed-by_numbers result c.args.j c.args.k composed;
      only = composed-only c.args.j c.args.k result c.number_of.ensures.below composed;
      undone = composed-undone c.args.j c.args.k result c.number_of.ensures.below composed;
    }

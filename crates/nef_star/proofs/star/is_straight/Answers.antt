use Rattle.nef_star.proofs.Prelude.{◌≡◌, length, rules}
use Rattle.nef_star.proofs.Straight.{two_items, straight_if, straight_two, straight_then}
use Rattle.nef_star.proofs.star.is_straight.Goals as goal

pub returns-then-len-ne2 : goal.returns-then-len-ne2
returns-then-len-ne2 c =
    let t = c.args.star.now in
    let other : length t.rays.items ≡ 2 → ⊥ = search rules in
    record { straight = (λ h. absurd (search rules), λ s. absurd (other (straight_two t s))) }

pub returns : goal.returns
returns c =
    let t = c.args.star.now in let q = c.index.result.now in let r = c.index-2.result.now in
    let two : length t.rays.items ≡ 2 = search rules in
    let items = two_items t.rays.items q r two c.index.ensures c.index-2.ensures in
    record { straight = (λ h. straight_if t c.requires.star q r items (c.are_straight.ensures.both.0 h), λ s. c.are_straight.ensures.both.1 (straight_then t s q r items)) }

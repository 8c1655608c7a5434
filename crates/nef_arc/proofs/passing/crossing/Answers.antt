use Rattle.nef_arc.proofs.Prelude.{refl, sym, subst, inl, inr, vector_of, IsArcCrossing}
use Rattle.nef_arc.proofs.SignNumbers.{not_true}
use Rattle.nef_arc.proofs.Candidates.{Candidates, none_on, first_on, second_on, both_on, both_on_turned}
use Rattle.nef_arc.proofs.passing.crossing.Goals as goal

pub returns-in-true-true : goal.returns-in-true-true
returns-in-true-true c =
    let a = c.args.a.now in let b = c.args.b.now in let x = vector_of c.common_perpendicular-ahead.result in let y = vector_of c.back-behind.result in
    let pair : Candidates a b x y = record { apart = c.requires.apart; crossed = c.common_perpendicular-ahead.ensures.cross; opposed = c.back-behind.ensures.back } in
    let n = c.in-true-true.ensures.on.0 refl in let m = c.in-true-true.ensures'.on.0 refl in
    record {
      crossing = elim c.in_order.ensures.in_order [
        | inl h ↦ subst (IsArcCrossing a b) (sym h.0) (both_on a b x y pair n m h.1)
        | inr h ↦ subst (IsArcCrossing a b) (sym h.0) (both_on_turned a b x y pair n m h.1)
      ];
    }

pub returns-in-true-false : goal.returns-in-true-false
returns-in-true-false c =
    let a = c.args.a.now in let b = c.args.b.now in let x = vector_of c.common_perpendicular-ahead.result in let y = vector_of c.back-behind.result in
    let pair : Candidates a b x y = record { apart = c.requires.apart; crossed = c.common_perpendicular-ahead.ensures.cross; opposed = c.back-behind.ensures.back } in
    record { crossing = first_on a b x y pair (c.in-true-false.ensures.on.0 refl) (λ h. not_true (c.in-true-false.ensures'.on.1 h)) }

pub returns-in-false-true : goal.returns-in-false-true
returns-in-false-true c =
    let a = c.args.a.now in let b = c.args.b.now in let x = vector_of c.common_perpendicular-ahead.result in let y = vector_of c.back-behind.result in
    let pair : Candidates a b x y = record { apart = c.requires.apart; crossed = c.common_perpendicular-ahead.ensures.cross; opposed = c.back-behind.ensures.back } in
    record { crossing = second_on a b x y pair (λ h. not_true (c.in-false-true.ensures.on.1 h)) (c.in-false-true.ensures'.on.0 refl) }

pub returns-in-false-false : goal.returns-in-false-false
returns-in-false-false c =
    let a = c.args.a.now in let b = c.args.b.now in let x = vector_of c.common_perpendicular-ahead.result in let y = vector_of c.back-behind.result in
    let pair : Candidates a b x y = record { apart = c.requires.apart; crossed = c.common_perpendicular-ahead.ensures.cross; opposed = c.back-behind.ensures.back } in
    record { crossing = none_on a b x y pair (λ h. not_true (c.in-false-false.ensures.on.1 h)) (λ h. not_true (c.in-false-false.ensures'.on.1 h)) }

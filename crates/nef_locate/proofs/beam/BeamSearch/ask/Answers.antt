use Rattle.nef_locate.proofs.Prelude.{ℕ, refl, rules, arith, IsTrue, List, Some, get_or, subst, IsAt, vector_of, point_of, is-at_get, complex_of, Span, no_span, MetPlace, IsMet}
use Rattle.std.specs.Option.{IsNone}
use Rattle.nef_locate.proofs.RayMeets.{on-carrier, reached-of, stays, taken, passed, found, begun-met, begun-kept, kept-begun, span-passed}
use Rattle.nef_locate.proofs.Upward.{upright-some}
use Rattle.nef_locate.proofs.beam.BeamSearch.ask.Goals as goal

pub returns-then-not-may_lead_into-clause-passed : goal.returns-then-not-may_lead_into-clause-passed
returns-then-not-may_lead_into-clause-passed c =
    let b = c.args.self.now in let n = c.args.number in let spans : List Span = c.carrier_spans.result.now in
    let A = c.carrier_spans.ensures.spans in let m = A.as_many in let l = c.requires.number in
    let off : IsTrue c.may_lead_into.result → ⊥ = search rules in
    span-passed c.args.c.now (point_of b.start.now) (vector_of b.direction.now) c.args.best.now n spans (get_or spans n no_span) A (is-at_get spans n no_span (omega (arith, m, l)))
    (λ y f a i. off (c.may_lead_into.ensures.leads y (b.amid y f a) i))

pub returns-then-number-self-clause-passed : goal.returns-then-number-self-clause-passed
returns-then-number-self-clause-passed c = λ h a s y S X I.
    let g : IsNone c.args.self.now.guess = search rules in
    absurd (c.requires.right.3 g h (subst (λ (k : ℕ). IsAt c.args.c.now.carriers k h) c.if-number-self.true a) s y S X I)

pub returns-in_default-clause-passed : goal.returns-in_default-clause-passed
returns-in_default-clause-passed c =
    let b = c.args.self.now in
    on-carrier c.args.c.now (point_of b.start.now) (vector_of b.direction.now) c.args.best.now c.args.number c.at-h.result.now c.at-h.ensures.element (λ s y S X I. absurd (c.in_default.ensures.none.0 refl y X))

-- ---- with what is known to be met taken over
pub returns-then-not-is_sooner-clause-right : goal.returns-then-not-is_sooner-clause-right
returns-then-not-is_sooner-clause-right c =
    let b = c.args.self.now in let R = c.requires.right in
    (R.0, begun-met (IsMet (complex_of c.args.c.now) (point_of b.start.now) (vector_of b.direction.now)) c.args.best.now b.guess c.or.result c.or.ensures R.1 R.2, R.2, R.3)

pub returns-then-not-is_sooner-clause-kept : goal.returns-then-not-is_sooner-clause-kept
returns-then-not-is_sooner-clause-kept c = let b = c.args.self.now in kept-begun c.args.c.now (point_of b.start.now) (vector_of b.direction.now) c.args.best.now c.or.result (begun-kept c.args.best.now c.args.self.now.guess c.or.result c.or.ensures)

pub returns-then-not-is_sooner-clause-passed : goal.returns-then-not-is_sooner-clause-passed
returns-then-not-is_sooner-clause-passed c =
    let b = c.args.self.now in let C = c.args.c.now in let h = c.at-h.result.now in let R = c.requires.right in let best = c.or.result in
    let p = point_of b.start.now in let d = vector_of b.direction.now in let hit = c.in-Some.hit in
    let M = begun-met (IsMet (complex_of C) p d) c.args.best.now b.guess c.or.result c.or.ensures R.1 R.2 in
    let q = c.is_sooner.ensures.sooner p d (upright-some d R.0) c.in-Some.ensures.step (reached-of (complex_of C) p d best M) in
    let off : IsTrue c.is_sooner.result → ⊥ = search rules in
    on-carrier C p d best c.args.number h c.at-h.ensures.element (λ s y S X I. stays p d h hit c.in-Some.ensures.crossing best (λ w. off (q.1 w)) y X)

pub returns-in-Some-place_on-clause-right : goal.returns-in-Some-place_on-clause-right
returns-in-Some-place_on-clause-right c = let X = c.in-Some.ensures.crossing in let R = c.requires.right in (R.0, record { reached = c.in-Some.ensures.step; ahead = X.ahead; on = c.in-Some-place_on.ensures.at }, R.2, R.3)

pub returns-in-Some-place_on-clause-kept : goal.returns-in-Some-place_on-clause-kept
returns-in-Some-place_on-clause-kept c = λ k n g a s y S X I.
    let b = c.args.self.now in let R = c.requires.right in let best = c.or.result in
    let p = point_of b.start.now in let d = vector_of b.direction.now in let hit = c.in-Some.hit in
    let M = begun-met (IsMet (complex_of c.args.c.now) p d) c.args.best.now b.guess c.or.result c.or.ensures R.1 R.2 in
    let q = c.is_sooner.ensures.sooner p d (upright-some d R.0) c.in-Some.ensures.step (reached-of (complex_of c.args.c.now) p d best M) in
    let on : IsTrue c.is_sooner.result = search rules in
    passed p d c.at-h.result.now hit c.in-Some.ensures.crossing best (q.0 on) y (kept-begun c.args.c.now p d c.args.best.now best (begun-kept c.args.best.now c.args.self.now.guess c.or.result c.or.ensures) k n g a s y S X I)

pub returns-in-Some-place_on-clause-passed : goal.returns-in-Some-place_on-clause-passed
returns-in-Some-place_on-clause-passed c =
    let b = c.args.self.now in let p = point_of b.start.now in let d = vector_of b.direction.now in let h = c.at-h.result.now in
    let m : MetPlace = record { place = c.in-Some-place_on.place; at = c.in-Some.hit } in
    on-carrier c.args.c.now p d (Some m) c.args.number h c.at-h.ensures.element (λ s y S X I r. taken p d h c.in-Some.hit c.in-Some.ensures.crossing y X r)

pub returns-in_default-place_on-clause-right : goal.returns-in_default-place_on-clause-right
returns-in_default-place_on-clause-right c =
    let b = c.args.self.now in let R = c.requires.right in
    (R.0, begun-met (IsMet (complex_of c.args.c.now) (point_of b.start.now) (vector_of b.direction.now)) c.args.best.now b.guess c.or.result c.or.ensures R.1 R.2, R.2, R.3)

pub returns-in_default-place_on-clause-kept : goal.returns-in_default-place_on-clause-kept
returns-in_default-place_on-clause-kept c = let b = c.args.self.now in kept-begun c.args.c.now (point_of b.start.now) (vector_of b.direction.now) c.args.best.now c.or.result (begun-kept c.args.best.now c.args.self.now.guess c.or.result c.or.ensures)

pub returns-in_default-place_on-clause-passed : goal.returns-in_default-place_on-clause-passed
returns-in_default-place_on-clause-passed c =
    let b = c.args.self.now in let p = point_of b.start.now in let d = vector_of b.direction.now in let h = c.at-h.result.now in
    on-carrier c.args.c.now p d c.or.result c.args.number h c.at-h.ensures.element
    (λ s y S X I. absurd (c.in_default-place_on.ensures.none refl s S (found p d h c.in-Some.hit c.in-Some.ensures.crossing s (complex_of c.args.c.now) y X I)))

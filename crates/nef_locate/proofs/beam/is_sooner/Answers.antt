use Rattle.nef_locate.proofs.Prelude.{Option, IfSome, IsTrue, Bool, subst, sym, ◌≡◌, ◌∙◌, ◌↔◌, Ordering, Less, Equal, Greater, MatchOrdering, is_lt, false≢true, SpacePoint, SamePoint, IsAhead, Vector, hit_point, MetPlace, IsReachedMet, IsSooner}
use Rattle.nef_locate.proofs.RayMeets.{never-same, never-both}
use Rattle.nef_locate.proofs.beam.is_sooner.Goals as goal

-- the lesser of two steps is that of the point ahead of which the other lies
lesser-ahead : (a b : SpacePoint) (d : Vector) (o : Ordering) (t : Bool) → t ≡ is_lt o → MatchOrdering o (IsAhead a d b) (SamePoint a b) (IsAhead b d a) → IsTrue t ↔ IsAhead a d b
lesser-ahead a b d Less t e m = (λ _. m, λ _. e)
lesser-ahead a b d Equal t e m = (λ z. absurd (false≢true (sym e ∙ z)), λ w. absurd (never-same a b d w m))
lesser-ahead a b d Greater t e m = (λ z. absurd (false≢true (sym e ∙ z)), λ w. absurd (never-both a b d w m))

pub returns-in-Some : goal.returns-in-Some
returns-in-Some c = record {
  sooner = λ p d i r s.
      let m = c.hit_order.ensures.along p d i r (subst (λ (o : Option MetPlace). IfSome o (IsReachedMet p d)) c.in-Some.is s) in
      let h = lesser-ahead (hit_point c.args.hit.now) (hit_point c.in-Some.met.at) d c.hit_order.result c.is_lt.result c.is_lt.ensures m in
      (λ t. subst (IsSooner d c.args.hit.now) (sym c.in-Some.is) (h.0 t), λ w. h.1 (subst (IsSooner d c.args.hit.now) c.in-Some.is w));
}

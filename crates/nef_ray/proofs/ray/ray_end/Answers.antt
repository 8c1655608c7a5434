use Rattle.nef_ray.proofs.Prelude.{inl, subst, arith, rules, IfSome, IsNone, Option, Set, SamePoint, point_of, vector_of, hit_point, is-at_within, is-at_read, ShowsSet, Crossed, RayEnd, RayStart, IsHitOf, IsUnchangedOn, IsChangeOf}
use Rattle.nef_ray.proofs.Found.{all-seen, ordered-seen, end-some, end-none}
use Rattle.nef_ray.proofs.Listed.{one-listed}
use Rattle.nef_ray.proofs.ray.ray_end.Goals as goal
use Rattle.nef_complex.proofs.Reading.{all-more}

pub change_on-requires-clause-hit : goal.change_on-requires-clause-hit
change_on-requires-clause-hit c =
    let ray : RayStart = record { from = c.args.p.now; along = c.args.d.now; before = c.in_ok-label_after.field-0 } in
    one-listed (IsHitOf ray) c.in_ok-crossed.crossed.items c.as_slice-next-items.result.now c.loop-next.next-index c.next-item.result c.as_slice-next-items.ensures.value c.loop-next-test.true c.next-item.is c.in_ok-crossed.ensures.hits

pub loop-next-preserved : goal.loop-next-preserved
loop-next-preserved c =
    let C = c.args.c.now in let ray : RayStart = record { from = c.args.p.now; along = c.args.d.now; before = c.in_ok-label_after.field-0 } in
    all-more (λ (x : Crossed). (s : Set) → ShowsSet s C → IsUnchangedOn s ray x.plane) c.as_slice-next-items.result.now c.loop-next.next-index c.next-item.result c.loop-next-test.true c.next-item.is c.loop-next.invariant
    (let e : IsNone c.in_ok-end.field-0 = search rules in c.in_ok-end.ensures.none e)

pub returns-in-Some : goal.returns-in-Some
returns-in-Some c =
    let C = c.args.c.now in let ray : RayStart = record { from = c.args.p.now; along = c.args.d.now; before = c.in_ok-label_after.field-0 } in
    let zs = c.as_slice-next-items.result.now in let n = c.loop-next.next-index in let x = c.next-item.result in
    let a = is-at_read zs n x c.loop-next-test.true c.next-item.is in
    let H = one-listed (IsHitOf ray) c.in_ok-crossed.crossed.items zs n x c.as_slice-next-items.ensures.value c.loop-next-test.true c.next-item.is c.in_ok-crossed.ensures.hits in
    record {
      end = λ s S.
          end-some s C S ray c.requires.framed (c.in_ok-label_after.ensures.germ s S) x c.in-Some.end H
          (subst (λ (o : Option RayEnd). IfSome o (λ e. SamePoint (hit_point x.at) (point_of e.point))) c.in-Some.is c.in_ok-end.ensures.point)
          (subst (λ (o : Option RayEnd). IfSome o (λ e. (s : Set) → ShowsSet s C → IsChangeOf s (vector_of ray.along) ray.before e)) c.in-Some.is c.in_ok-end.ensures.change s S)
          (ordered-seen s C ray c.in_ok-crossed.crossed.items zs c.as_slice-next-items.ensures.value c.in_ok-crossed.ensures.all c.in_ok-crossed.ensures.hits c.in_ok-crossed.ensures.sorted n x a
          (λ k z l b. c.loop-next.invariant k z l b s S));
    }

pub unreachable-requires : goal.unreachable-requires
unreachable-requires c =
    let C = c.args.c.now in let ray : RayStart = record { from = c.args.p.now; along = c.args.d.now; before = c.in_ok-label_after.field-0 } in
    let zs = c.as_slice-next-items.result.now in let S = c.requires.shows in
    end-none S.0 C S.1 ray c.requires.framed (c.in_ok-label_after.ensures.germ S.0 S.1)
    (all-seen S.0 C ray (λ y. ⊥) c.in_ok-crossed.crossed.items zs c.as_slice-next-items.ensures.value c.in_ok-crossed.ensures.all
    (λ k x a y X i. inl (c.loop-next.invariant k x (let w = is-at_within zs k x a in let t = c.loop-next-test.false in omega (arith, w, t)) a S.0 S.1 y X i)))

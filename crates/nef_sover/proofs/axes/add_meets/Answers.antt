use Rattle.nef_sover.proofs.Prelude.{refl, subst, svertex_limit, Vector, cross, IsParallel, SameDirection, vector_of, track_normal}
use Rattle.std.proofs.lemmas.Result.{on_ok_weaker}
use Rattle.nef_smap.proofs.Joining.{back-small}
use Rattle.nef_sover.proofs.Meets.{meets-add, parallel-adds}
use Rattle.nef_sover.proofs.axes.add_meets.Goals as goal

pub add_common-requires-2 : goal.add_common-requires-2
add_common-requires-2 c = record { small = back-small svertex_limit (vector_of c.in-Some.ahead) (vector_of c.back.result) c.back.ensures.back c.in-Some.ensures.small }

pub returns : goal.returns
returns c =
    let x = c.args.x.now in let y = c.args.y.now in
    let n = c.normal.ensures.normal in let m = c.normal-2.ensures.normal in
    let apart : IsParallel (vector_of c.normal.result.now) (vector_of c.normal-2.result.now) → ⊥ = λ p. let e = c.in-Some.ensures.none.1 p in cc in
    let apart' = subst (λ (v : Vector). IsParallel (track_normal x) v → ⊥) m (subst (λ (v : Vector). IsParallel v (vector_of c.normal-2.result.now) → ⊥) n apart) in
    let along = subst (λ (v : Vector). SameDirection (cross (track_normal x) v) (vector_of c.in-Some.ahead)) m (subst (λ (v : Vector). SameDirection (cross v (vector_of c.normal-2.result.now)) (vector_of c.in-Some.ahead)) n c.in-Some.ensures.cross) in
    record {
      added = on_ok_weaker c.add_common-2.result
          (meets-add x y c.args.axes.now.items c.add_common.new.axes.items c.add_common-2.new.axes.items (vector_of c.in-Some.ahead) (vector_of c.back.result) apart' along c.back.ensures.back c.in_ok-add_common.ensures.added)
          c.add_common-2.ensures.added;
    }

pub returns-in_default : goal.returns-in_default
returns-in_default c =
    let x = c.args.x.now in let y = c.args.y.now in
    record {
      added = parallel-adds x y c.args.axes.now.items
          (subst (λ (v : Vector). IsParallel (track_normal x) v) c.normal-2.ensures.normal (subst (λ (v : Vector). IsParallel v (vector_of c.normal-2.result.now)) c.normal.ensures.normal (c.in_default.ensures.none.0 refl)));
    }

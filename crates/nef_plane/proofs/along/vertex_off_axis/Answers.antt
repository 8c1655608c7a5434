use Rattle.nef_plane.proofs.Prelude.{ℕ, ⊎_elim, arith, rules, refl, below_more, meets_vertex, IsVertexPoint, hit_point, complex_of}
use Rattle.nef_plane.proofs.Found.{vertex-within}
use Rattle.nef_plane.proofs.along.vertex_off_axis.Goals as goal

pub returns-then-is_at_vertex-clause-some : goal.returns-then-is_at_vertex-clause-some
returns-then-is_at_vertex-clause-some c =
    let t = c.loop-number-test.true in
    let e = c.len-number-end.ensures.len in
    (omega (arith, t, e), c.is_at_vertex.ensures.at.0 c.if-is_at_vertex.true)

pub loop-number-preserved : goal.loop-number-preserved
loop-number-preserved c = below_more _ _ c.loop-number.invariant (λ v. absurd (search (rules, c.is_at_vertex.ensures.at.1 v, c.if-is_at_vertex.false)))

pub returns-clause-none : goal.returns-clause-none
returns-clause-none c _ = ⊎_elim (λ a. a) (λ v. absurd (off v.0.0 v.0.1)) c.requires.direction
  where
    off : (k : ℕ) → IsVertexPoint (complex_of c.args.c.now) k (hit_point c.args.p.now) → ⊥
    off k v =
        let l = vertex-within c.args.c.now k (meets_vertex k) (hit_point c.args.p.now) (refl, v) in
        let t = c.loop-number-test.false in
        let e = c.len-number-end.ensures.len in
        c.loop-number.invariant k (omega (arith, l, t, e)) v

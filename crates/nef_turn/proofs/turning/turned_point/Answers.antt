-- A turned point has the turned numbers.
use Rattle.nef_turn.proofs.Prelude.{◌≡◌, ℤ, nat_abs, pos, ◌<ℤ◌, arith, ap, sym, subst, point_limit, Vector, IsAtMost, point_of, turned_point}
use Rattle.nef_turn.proofs.Exact.{word, word-is, point-words, point-small, same-numbers}
use Rattle.nef_turn.proofs.turning.turned_point.Goals as goal

pub of-requires-clause-x_small : goal.of-requires-clause-x_small
of-requires-clause-x_small c =
    let k = c.args.turn.now.number in let p = c.args.p.now in
    let e = point-words k p c.turned-x.result c.x.result c.y.result c.z.result c.turned-x.ensures.turned c.x.ensures.x c.y.ensures.y c.z.ensures.z in
    (subst (IsAtMost point_limit) (sym e) (point-small k p)).of_x

pub of-requires-clause-y_small : goal.of-requires-clause-y_small
of-requires-clause-y_small c =
    let k = c.args.turn.now.number in let p = c.args.p.now in
    let e = point-words k p c.turned-x.result c.x.result c.y.result c.z.result c.turned-x.ensures.turned c.x.ensures.x c.y.ensures.y c.z.ensures.z in
    (subst (IsAtMost point_limit) (sym e) (point-small k p)).of_y

pub of-requires-clause-z_small : goal.of-requires-clause-z_small
of-requires-clause-z_small c =
    let k = c.args.turn.now.number in let p = c.args.p.now in
    let e = point-words k p c.turned-x.result c.x.result c.y.result c.z.result c.turned-x.ensures.turned c.x.ensures.x c.y.ensures.y c.z.ensures.z in
    (subst (IsAtMost point_limit) (sym e) (point-small k p)).of_z

pub returns : goal.returns
returns c =
    let k = c.args.turn.now.number in let p = c.args.p.now in let t = c.turned-x.result in
    let e = point-words k p t c.x.result c.y.result c.z.result c.turned-x.ensures.turned c.x.ensures.x c.y.ensures.y c.z.ensures.z in
    let l = p.w_small in
    let w : word c.w.result ≡ p.w = word-is c.w.result p.w c.w.ensures.w (omega (arith, l)) in
    let h : pos 0 <ℤ word c.w.result = subst (λ (n : ℤ). pos 0 <ℤ n) (sym w) p.proper in
    record {
      same = same-numbers (word t.0) (word t.1) (word t.2) (word c.w.result) h (point_of c.of.result) (turned_point k (point_of p))
          (ap (λ (v : Vector). v.x) e) (ap (λ (v : Vector). v.y) e) (ap (λ (v : Vector). v.z) e) (ap nat_abs w) (c.of.ensures.same h);
    }

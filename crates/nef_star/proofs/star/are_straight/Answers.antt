use Rattle.nef_star.proofs.Prelude.{◌≡◌, ◌↔◌, IsTrue, rules}
use Rattle.nef_star.proofs.star.are_straight.Goals as goal

pub returns-then-eq : goal.returns-then-eq
returns-then-eq c =
    let q = c.args.first.now in let r = c.args.second.now in
    let normals : q.normal ≡ r.normal = c.is_same.ensures.same.0 c.if-not-is_same.false in
    let first : q.mark ≡ c.args.mark = search rules in
    let second : IsTrue c.eq-then-eq.result ↔ (r.mark ≡ c.args.mark) = search rules in
    record { both = (λ h. (normals, first, second.0 h), λ e. second.1 e.2) }

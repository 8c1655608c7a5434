use Rattle.nef_star.proofs.Prelude.{◌≡◌, ℕ, ◌-◌, suc, take, length, arith, refl, ap, subst, ◌∙◌, IsNeedless, Star}
use Rattle.nef_star.proofs.Counted.{fewer-length, fewer-turned, fewer-kept, fewer-needed}
use Rattle.nef_star.proofs.rays.drop_last.Goals as goal

pub returns-then-last-gt0 : goal.returns-then-last-gt0
returns-then-last-gt0 c =
    let t = c.args.star.now in let k = length t.rays.items - 2 in let T = c.requires.turned in
    let n : length t.rays.items ≡ suc (suc k) = omega (arith, c.len-last.ensures, c.if-last-gt0.true) in
    let less : c.len-last.result - 1 ≡ suc k = omega (arith, c.len-last.ensures, c.if-last-gt0.true) in
    let one : length t.rays.items - 1 ≡ suc k = omega (arith, n) in
    let s : Star = record { axis = t.axis; rays = c.truncate.new.self; sectors = c.truncate-then-last-gt0.new.self; mark = t.mark } in
    let rays = c.truncate.ensures.items ∙ ap (λ (i : ℕ). take i t.rays.items) less in
    let sectors = c.truncate-then-last-gt0.ensures.items ∙ ap (λ (i : ℕ). take i t.sectors.items) less in
    let needless = subst (IsNeedless t k) one c.requires.needless in
    let count = fewer-length t s T refl refl k n rays sectors needless in
    record {
      turned = fewer-turned t s T refl refl k n rays sectors needless;
      kept = fewer-kept t s T refl refl k n rays sectors needless;
      fewer = omega (arith, count, n);
      needed = fewer-needed t s T refl refl k n rays sectors needless;
    }

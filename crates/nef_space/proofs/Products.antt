-- The laws of a ring for the integers that the library leaves out: the product is associative and distributes over the sum.
use Rattle.nef_space.proofs.Prelude.{◌≡◌, ◌*◌, ℤ, ◌+ℤ◌, ◌*ℤ◌, neg_ℤ, arith, ap, ints}
use borrow.Author.Differences.{up, down, product_is, sum_is_lem, neg_is}

pub *ℤ_distribute : (a b c : ℤ) → a *ℤ (b +ℤ c) ≡ a *ℤ b +ℤ a *ℤ c
*ℤ_distribute a b c =
    let s = sum_is_lem b c in
    let u = ap (λ x. up a * x) s in
    let d = ap (λ x. down a * x) s in
    omega (arith, ints)

pub *ℤ_assoc : (a b c : ℤ) → a *ℤ b *ℤ c ≡ a *ℤ (b *ℤ c)
*ℤ_assoc a b c =
    let p = product_is a b in
    let q = product_is b c in
    let p0 = ap (λ x. x * up c) p.0 in
    let p1 = ap (λ x. x * up c) p.1 in
    let p2 = ap (λ x. x * down c) p.0 in
    let p3 = ap (λ x. x * down c) p.1 in
    let q0 = ap (λ x. up a * x) q.0 in
    let q1 = ap (λ x. up a * x) q.1 in
    let q2 = ap (λ x. down a * x) q.0 in
    let q3 = ap (λ x. down a * x) q.1 in
    omega (arith, ints)

pub neg-*ℤ : (a b : ℤ) → neg_ℤ a *ℤ b ≡ neg_ℤ (a *ℤ b)
neg-*ℤ a b = let p = product_is a b in let n = neg_is a in let e0 = ap (λ x. x * up b) n.0 in let e1 = ap (λ x. x * down b) n.0 in let e2 = ap (λ x. x * up b) n.1 in let e3 = ap (λ x. x * down b) n.1 in omega (arith, ints)

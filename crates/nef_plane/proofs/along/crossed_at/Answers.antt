use Rattle.nef_plane.proofs.Prelude.{◌≡◌, ℕ, pos, length, get_or, arith, rules, refl, slice_get_read, slope, form_of, point_of, vector_of, Plane, is-at_get, listed-more, holder-holds, all-holders}
use Rattle.nef_plane.proofs.Reached.{across-through, across-none}
use Rattle.nef_plane.proofs.along.crossed_at.Goals as goal

pub returns-then-not-is_along-clause-through : goal.returns-then-not-is_along-clause-through
returns-then-not-is_along-clause-through c a b H =
    let hs = c.args.carriers.now in
    let ns = c.args.holders.now in
    let n = c.loop-number.number-index in
    let k : ℕ = get_or ns n 0 in
    let g = c.index-carriers-number.result in
    let at_n = is-at_get ns n 0 c.loop-number-test.true in
    across-through c.ray_hit.result (point_of c.args.ray.now.start.now) (vector_of c.args.ray.now.direction.now) g a b
    (holder-holds hs a b ns H n k g at_n (slice_get_read hs (length hs) k g refl (c.requires.within n k at_n) c.index-carriers-number.is), λ e. absurd (search (rules, c.is_along.ensures.along.1 e, c.if-not-is_along.true)))
    c.ray_hit.ensures.crossing c.ray_hit.ensures.step

pub returns-then-not-is_along-clause-none : goal.returns-then-not-is_along-clause-none
returns-then-not-is_along-clause-none c a b H z y w m =
    let hs = c.args.carriers.now in
    let ns = c.args.holders.now in
    let n = c.loop-number.number-index in
    let k : ℕ = get_or ns n 0 in
    let g = c.index-carriers-number.result in
    let at_n = is-at_get ns n 0 c.loop-number-test.true in
    absurd (across-none c.ray_hit.result (point_of c.args.ray.now.start.now) (vector_of c.args.ray.now.direction.now) g a b
    (holder-holds hs a b ns H n k g at_n (slice_get_read hs (length hs) k g refl (c.requires.within n k at_n) c.index-carriers-number.is), λ e. absurd (search (rules, c.is_along.ensures.along.1 e, c.if-not-is_along.true)))
    c.ray_hit.ensures.none z y w m)

pub loop-number-preserved : goal.loop-number-preserved
loop-number-preserved c =
    let hs = c.args.carriers.now in
    let ns = c.args.holders.now in
    let n = c.loop-number.number-index in
    let k : ℕ = get_or ns n 0 in
    let g = c.index-carriers-number.result in
    let at_n = is-at_get ns n 0 c.loop-number-test.true in
    listed-more hs ns n k g (λ (h : Plane). slope (form_of h) (vector_of c.args.ray.now.direction.now) ≡ pos 0) at_n
    (slice_get_read hs (length hs) k g refl (c.requires.within n k at_n) c.index-carriers-number.is) c.loop-number.invariant (c.is_along.ensures.along.0 (search (rules, c.if-not-is_along.false)))

pub returns-clause-through : goal.returns-clause-through
returns-clause-through c a b H = tt

pub returns-clause-none : goal.returns-clause-none
returns-clause-none c a b H z y w m =
    all-holders c.args.carriers.now a b c.args.holders.now H (λ (h : Plane). slope (form_of h) (vector_of c.args.ray.now.direction.now) ≡ pos 0) c.loop-number.number-index
    (let f = c.loop-number-test.false in omega arith) c.loop-number.invariant

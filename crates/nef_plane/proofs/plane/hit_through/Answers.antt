use Rattle.nef_plane.proofs.Prelude.{ℕ, length, get_or, arith, refl, slice_get_read, SpacePoint, IsCrossing, form_of, hit_point, vector_of, Plane, is-at_get, listed-more, holder-holds, all-holders}
use Rattle.nef_plane.proofs.plane.hit_through.Goals as goal

pub returns-in-Some : goal.returns-in-Some
returns-in-Some c = record {
  hit = λ a b H.
      let hs = c.args.carriers.now in
      let ns = c.args.holders.now in
      let n = c.loop-number.number-index in
      let k : ℕ = get_or ns n 0 in
      let g = c.index-carriers-number.result in
      let at_n = is-at_get ns n 0 c.loop-number-test.true in
      record {
        plane = g;
        holds = holder-holds hs a b ns H n k g at_n (slice_get_read hs (length hs) k g refl (c.requires.within n k at_n) c.index-carriers-number.is);
        crosses = c.in-Some.ensures.crossing;
        reached = c.in-Some.ensures.step;
      };
}

pub loop-number-preserved : goal.loop-number-preserved
loop-number-preserved c =
    let hs = c.args.carriers.now in
    let ns = c.args.holders.now in
    let n = c.loop-number.number-index in
    let k : ℕ = get_or ns n 0 in
    let g = c.index-carriers-number.result in
    let at_n = is-at_get ns n 0 c.loop-number-test.true in
    listed-more hs ns n k g (λ (h : Plane). (q : SpacePoint) → IsCrossing (hit_point c.args.ray.now.start.now) (vector_of c.args.ray.now.direction.now) (form_of h) q → ⊥) at_n
    (slice_get_read hs (length hs) k g refl (c.requires.within n k at_n) c.index-carriers-number.is) c.loop-number.invariant (c.in_default.ensures.none.0 refl)

pub returns : goal.returns
returns c = record {
  hit = λ a b H k g l h. all-holders c.args.carriers.now a b c.args.holders.now H (λ (h : Plane). (q : SpacePoint) → IsCrossing (hit_point c.args.ray.now.start.now) (vector_of c.args.ray.now.direction.now) (form_of h) q → ⊥) c.loop-number.number-index
      (let f = c.loop-number-test.false in omega arith) c.loop-number.invariant k g l h;
}

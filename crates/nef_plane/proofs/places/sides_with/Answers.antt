use Rattle.nef_plane.proofs.Prelude.{◌≡◌, ◌∙◌, ℕ, length, get_or, arith, rules, refl, sym, slice_get_read, form_at, point_of, hit_point, form_of, sign_of, Plane, not_true, is-at_get, listed-more, holder-holds, all-holders}
use Rattle.nef_plane.proofs.places.sides_with.Goals as goal

pub returns-then-ne : goal.returns-then-ne
returns-then-ne c = record {
  sides = λ a H.
      let hs = c.args.carriers.now in
      let ns = c.args.holders.now in
      let n = c.loop-number.number-index in
      let k : ℕ = get_or ns n 0 in
      let g = c.index-carriers-number.result in
      let at_n = is-at_get ns n 0 c.loop-number-test.true in
      let here = slice_get_read hs (length hs) k g refl (c.requires.within n k at_n) c.index-carriers-number.is in (
        λ h. absurd (not_true h),
        λ A.
            let at_g = A k g here (holder-holds hs a a ns H n k g at_n here).0 in
            let differ : c.hit_side.result ≡ c.side.result → ⊥ = search (rules, c.if-ne.true) in
            absurd (differ (c.hit_side.ensures.side ∙ at_g ∙ sym c.side.ensures.side)),
      );
}

pub loop-number-preserved : goal.loop-number-preserved
loop-number-preserved c =
    let hs = c.args.carriers.now in
    let ns = c.args.holders.now in
    let n = c.loop-number.number-index in
    let k : ℕ = get_or ns n 0 in
    let g = c.index-carriers-number.result in
    let at_n = is-at_get ns n 0 c.loop-number-test.true in
    let same : c.hit_side.result ≡ c.side.result = search (rules, c.if-ne.false) in
    listed-more hs ns n k g (λ (h : Plane). sign_of (form_at (form_of h) (hit_point c.args.q.now)) ≡ sign_of (form_at (form_of h) (point_of c.args.b.now))) at_n
    (slice_get_read hs (length hs) k g refl (c.requires.within n k at_n) c.index-carriers-number.is) c.loop-number.invariant (sym c.hit_side.ensures.side ∙ same ∙ c.side.ensures.side)

pub returns : goal.returns
returns c = record {
  sides = λ a H. (
    λ t k h l z. all-holders c.args.carriers.now a a c.args.holders.now H (λ (h : Plane). sign_of (form_at (form_of h) (hit_point c.args.q.now)) ≡ sign_of (form_at (form_of h) (point_of c.args.b.now))) c.loop-number.number-index
        (let f = c.loop-number-test.false in omega arith) c.loop-number.invariant k h l (z, z),
    λ A. refl,
  );
}

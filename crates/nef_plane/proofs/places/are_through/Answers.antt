use Rattle.nef_plane.proofs.Prelude.{◌≡◌, ◌∙◌, ℕ, pos, length, get_or, arith, rules, refl, ap, sym, slice_get_read, form_at, hit_point, form_of, sign_of, Plane, Zero, zero_sign, not_true, is-at_get, listed-more, holder-holds, all-holders}
use Rattle.nef_plane.proofs.places.are_through.Goals as goal

pub returns-then-ne : goal.returns-then-ne
returns-then-ne c = record {
  through = λ a b H.
      let hs = c.args.carriers.now in
      let ns = c.args.holders.now in
      let n = c.loop-number.number-index in
      let k : ℕ = get_or ns n 0 in
      let g = c.index-carriers-number.result in
      let at_n = is-at_get ns n 0 c.loop-number-test.true in
      let here = slice_get_read hs (length hs) k g refl (c.requires.within n k at_n) c.index-carriers-number.is in (
        λ t. absurd (not_true t),
        λ A.
            let zero : form_at (form_of g) (hit_point c.args.q.now) ≡ pos 0 = A k g here (holder-holds hs a b ns H n k g at_n here) in
            let e : c.hit_side.result ≡ Zero = c.hit_side.ensures.side ∙ ap sign_of zero in
            absurd (search (rules, e, c.if-ne.true)),
      );
}

pub loop-number-preserved : goal.loop-number-preserved
loop-number-preserved c =
    let hs = c.args.carriers.now in
    let ns = c.args.holders.now in
    let n = c.loop-number.number-index in
    let k : ℕ = get_or ns n 0 in
    let g = c.index-carriers-number.result in
    let at_n = is-at_get ns n 0 c.loop-number-test.true in
    let e : c.hit_side.result ≡ Zero = search (rules, c.if-ne.false) in
    listed-more hs ns n k g (λ (h : Plane). form_at (form_of h) (hit_point c.args.q.now) ≡ pos 0) at_n
    (slice_get_read hs (length hs) k g refl (c.requires.within n k at_n) c.index-carriers-number.is) c.loop-number.invariant (zero_sign (form_at (form_of g) (hit_point c.args.q.now)) (sym c.hit_side.ensures.side ∙ e))

pub returns : goal.returns
returns c = record {
  through = λ a b H. (
    λ t k h l z. all-holders c.args.carriers.now a b c.args.holders.now H (λ (h : Plane). form_at (form_of h) (hit_point c.args.q.now) ≡ pos 0) c.loop-number.number-index
        (let f = c.loop-number-test.false in omega arith) c.loop-number.invariant k h l z,
    λ A. refl,
  );
}

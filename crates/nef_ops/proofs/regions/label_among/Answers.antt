use Rattle.nef_ops.proofs.Prelude.{ℕ, ◌+◌, ◌<◌, List, IsNone, arith, rules, sym, refl, IsAt, SpacePoint, point_of, is-at_get, is-at_is, is-at_within, Region, IsFar}
use Rattle.nef_ops.proofs.Lacking.{all-more}
use Rattle.nef_ops.proofs.regions.label_among.Goals as goal

-- the region has no label where the point lies in it
abbrev IsUntold : SpacePoint → Region → Type 0
IsUntold p r = IsFar r.side p → IsNone r.label

one-more : (rs : List Region) (p : SpacePoint) (n : ℕ) (x : Region) → IsAt rs n x → IsUntold p x → ((k : ℕ) (r : Region) → k < n → IsAt rs k r → IsUntold p r) → (k : ℕ) (r : Region) → k < n + 1 → IsAt rs k r → IsUntold p r
one-more rs p n x here untold before = all-more (IsUntold p) rs n x (sym (is-at_is rs n x x here)) untold before

pub returns-then-not-in_frame-clause-none : goal.returns-then-not-in_frame-clause-none
returns-then-not-in_frame-clause-none c none k r a f = absurd (search (rules, c.in_frame.ensures.in_frame.1 f.0, c.if-not-in_frame.true))

pub returns-in-Some-clause-told : goal.returns-in-Some-clause-told
returns-in-Some-clause-told c C told =
    let rs : List Region = c.args.regions.now in
    let n = c.loop-region.region-index in
    c.in-Some.ensures.told C (told n _ (is-at_get rs n _ c.loop-region-test.true))

pub loop-region-preserved : goal.loop-region-preserved
loop-region-preserved c =
    let rs : List Region = c.args.regions.now in
    let n = c.loop-region.region-index in
    one-more rs (point_of c.args.point.now) n _ (is-at_get rs n _ c.loop-region-test.true) (c.in_default.ensures.none refl) c.loop-region.invariant

pub returns-clause-none : goal.returns-clause-none
returns-clause-none c none k r a f = c.loop-region.invariant k r (let l = is-at_within c.args.regions.now k r a in let t = c.loop-region-test.false in omega (arith, l, t)) a f

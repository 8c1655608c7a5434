use Rattle.nef_sover.proofs.Prelude.{◌≡◌, ℕ, ◌<◌, pos, arith, refl, subst, inl, inr, ◌⊎◌, rules, eq-or-lt_of_le, dot, vector_of, Axis, IsAt, is-at_one, not_true, is-at_within, at-contains, contains-at}
use Rattle.nef_sover.proofs.overlaid.is_bare.Goals as goal
use Rattle.nef_space.proofs.Lists.{is-at_read}

pub loop-axis-preserved : goal.loop-axis-preserved
loop-axis-preserved c = record { off = λ k e l h z. by k e (eq-or-lt_of_le {n = k} {m = c.loop-axis.axis-index} (omega (arith, l))) h z }
  where
    axis : Axis
    axis = c.axis-item.result

    by : (k : ℕ) (e : Axis) → (k ≡ c.loop-axis.axis-index) ⊎ (k < c.loop-axis.axis-index) → IsAt c.args.axes.now k e → dot (vector_of c.args.sloop.now.normal) (vector_of e.dir) ≡ pos 0 → ⊥
    by k e (inr l) h z = c.loop-axis.invariant.off k e l h z
    by k e (inl q) h z =
        let here = is-at_read c.args.axes.now c.loop-axis.axis-index axis c.loop-axis-test.true c.axis-item.is in
        let same = is-at_one c.args.axes.now c.loop-axis.axis-index e axis (subst (λ (j : ℕ). IsAt c.args.axes.now j e) q h) here in
        let level = subst (λ (f : Axis). dot (vector_of c.args.sloop.now.normal) (vector_of f.dir) ≡ pos 0) same z in
        absurd (search (rules, c.holds.ensures.on.1 (record { direction = axis.dir.some; level = level }), c.if-holds.false))

pub returns : goal.returns
returns c = record {
  bare = (
    λ t e h z. let k = contains-at c.args.axes.now e h in let l = is-at_within c.args.axes.now k.0 e k.1 in c.loop-axis.invariant.off k.0 e (omega (arith, l, c.loop-axis-test.false)) k.1 z,
    λ off. refl,
  );
}

pub returns-then-holds : goal.returns-then-holds
returns-then-holds c =
    let i = c.loop-axis.axis-index in let e = c.axis-item.result in
    let here = is-at_read c.args.axes.now i e c.loop-axis-test.true c.axis-item.is in
    let on = c.holds.ensures.on.0 c.if-holds.true in
    record { bare = (λ t. absurd (not_true t), λ off. absurd (off e (at-contains c.args.axes.now i e here) on.level)) }

use Rattle.nef_sover.proofs.Prelude.{◌≡◌, refl, subst, normal_limit, IsAtMost, vector_of, op_label, SLoop, map_of}
use Rattle.nef_sover.proofs.Sloops.{along-both, lone-uncrossed_a, lone-uncrossed_b, merged-sloop}
use Rattle.nef_sover.proofs.overlaid.merged_sloop.Goals as goal

pub labels_along-requires-clause-small : goal.labels_along-requires-clause-small
labels_along-requires-clause-small c = c.in-Some.ensures.lone.small

pub labels_along-requires-clause-normal : goal.labels_along-requires-clause-normal
labels_along-requires-clause-normal c = c.in-Some.ensures.lone.normal

pub labels_along-requires-clause-uncrossed : goal.labels_along-requires-clause-uncrossed
labels_along-requires-clause-uncrossed c = lone-uncrossed_a c.args.a.now c.args.b.now c.requires.first c.requires.second c.in-Some.normal c.in-Some.ensures.lone

pub labels_along-requires-2-clause-small : goal.labels_along-requires-2-clause-small
labels_along-requires-2-clause-small c = c.in-Some.ensures.lone.small

pub labels_along-requires-2-clause-normal : goal.labels_along-requires-2-clause-normal
labels_along-requires-2-clause-normal c = c.in-Some.ensures.lone.normal

pub labels_along-requires-2-clause-uncrossed : goal.labels_along-requires-2-clause-uncrossed
labels_along-requires-2-clause-uncrossed c = lone-uncrossed_b c.args.a.now c.args.b.now c.requires.first c.requires.second c.in-Some.normal c.in-Some.ensures.lone

pub returns-clause-circle : goal.returns-clause-circle
returns-clause-circle c =
    let A = map_of c.args.a.now in let B = map_of c.args.b.now in let op = op_label c.args.op in let n = c.in-Some.normal in
    let l : SLoop = record { normal = n; mark = c.label.result; pos = c.label-2.result; neg = c.label-3.result } in
    merged-sloop A B op n l c.in-Some.ensures.lone refl
    (along-both A B op n c.in_ok-first.first c.in_ok-second.second l c.in_ok-first.ensures.labels c.in_ok-second.ensures.labels c.label.ensures.label c.label-2.ensures.label c.label-3.ensures.label)

pub returns-clause-small : goal.returns-clause-small
returns-clause-small c l e =
    let made : SLoop = record { normal = c.in-Some.normal; mark = c.label.result; pos = c.label-2.result; neg = c.label-3.result } in
    let same : made ≡ l = cc in
    subst (λ (k : SLoop). IsAtMost normal_limit (vector_of k.normal)) same c.in-Some.ensures.lone.small

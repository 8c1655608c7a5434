use Rattle.nef_cand.proofs.Prelude.{First, Second}
use Rattle.nef_cand.proofs.NearCuts.{cuts-halved, parts-spanned}
use Rattle.nef_cand.proofs.by_threads.cuts_by_four.Goals as goal

pub all_four-requires-clause-first : goal.all_four-requires-clause-first
all_four-requires-clause-first g c κs within = (c.requires.first, c.requires.second, (parts-spanned c.args.b.now c.args.of_b.now _ _ c.split_at-2.ensures.by_index.0 c.requires.of_b).0)

pub all_four-requires-clause-second : goal.all_four-requires-clause-second
all_four-requires-clause-second g c κs within = (c.requires.first, c.requires.second, (parts-spanned c.args.b.now c.args.of_b.now _ _ c.split_at-2.ensures.by_index.0 c.requires.of_b).1)

pub all_four-requires-clause-third : goal.all_four-requires-clause-third
all_four-requires-clause-third g c κs within = (c.requires.second, c.requires.first, (parts-spanned c.args.a.now c.args.of_a.now _ _ c.split_at.ensures.by_index.0 c.requires.of_a).0)

pub all_four-requires-clause-fourth : goal.all_four-requires-clause-fourth
all_four-requires-clause-fourth g c κs within = (c.requires.second, c.requires.first, (parts-spanned c.args.a.now c.args.of_a.now _ _ c.split_at.ensures.by_index.0 c.requires.of_a).1)

pub returns-clause-inside_a : goal.returns-clause-inside_a
returns-clause-inside_a g c =
    let found = c.in_ok-front_in_a in
    cuts-halved First c.args.a.now c.args.b.now c.split_at-2.result.0.now c.split_at-2.result.1.now c.args.of_b.now c.split_at-2.ensures.by_index.0
    found.front_in_a.items c.as_slice.result.now found.back_in_a.items c.as_slice-2.result.now c.in_ok-inside_a.inside_a.items c.as_slice.ensures.value c.as_slice-2.ensures.value found.ensures.first found.ensures.second c.in_ok-inside_a.ensures.both

pub returns-clause-inside_b : goal.returns-clause-inside_b
returns-clause-inside_b g c =
    let found = c.in_ok-front_in_a in
    cuts-halved Second c.args.b.now c.args.a.now c.split_at.result.0.now c.split_at.result.1.now c.args.of_a.now c.split_at.ensures.by_index.0
    found.front_in_b.items c.as_slice-3.result.now found.back_in_b.items c.as_slice-4.result.now c.in_ok-inside_b.inside_b.items c.as_slice-3.ensures.value c.as_slice-4.ensures.value found.ensures.third found.ensures.fourth c.in_ok-inside_b.ensures.both

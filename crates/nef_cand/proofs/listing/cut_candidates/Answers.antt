use Rattle.nef_cand.proofs.Prelude.{◌∙◌, List, ◌++◌, map, ap, sym, subst, form_of, complex_of, Named, First, IsCutBy, AreCutCandidates, named_point, IsNamedIn, AddsPoints, HasBoth}
use Rattle.nef_cand.proofs.Apart.{adds-after, once-after}
use Rattle.nef_cand.proofs.Both.{two-together}
use Rattle.nef_cand.proofs.Halves.{cut-all, half-listed}
use Rattle.nef_cand.proofs.Framed.{cuts-framed}
use Rattle.nef_cand.proofs.listing.cut_candidates.Goals as goal

pub returns-clause-exactly : goal.returns-clause-exactly
returns-clause-exactly c =
    let C = complex_of c.args.c.now in let N = IsNamedIn First C in let P = IsCutBy C (form_of c.args.h.now) in
    let us = c.in_ok-vertices.vertices.items in let vs = c.add_plane_cuts.new.listed.items in let ws = c.in_ok-listed.listed.items in let rs = c.sort_once.new.listed.items in
    let cuts = subst (λ (zs : List Named). AddsPoints P N zs vs) c.new-inside.ensures.items c.in_ok-add_plane_cuts.ensures.added in
    let both : HasBoth us vs ws = subst (λ (zs : List Named). HasBoth us zs ws) c.as_slice-2.ensures.value (subst (λ (zs : List Named). HasBoth zs c.as_slice-2.result.now ws) c.as_slice.ensures.value c.in_ok-listed.ensures.both) in
    let once = once-after (us ++ vs) ws rs (λ n h. (two-together us vs ws both n).0 h) (λ n h. (two-together us vs ws both n).1 h) c.in_ok-sort_once.ensures.once in
    let exactly = cut-all C (form_of c.args.h.now) N us (us ++ vs) rs c.in_ok-vertices.ensures.vertices (adds-after P P N us vs cuts) once in
    subst (AreCutCandidates C (form_of c.args.h.now)) (sym (c.in_ok-points.ensures.points ∙ ap (map named_point) c.as_slice-3.ensures.value)) exactly

pub returns-clause-frame : goal.returns-clause-frame
returns-clause-frame c = λ f closed y P S v. half-listed (complex_of c.args.c.now) S.shows (form_of c.args.h.now) f P closed y c.in_ok-points.points.items (returns-clause-exactly c) v

pub returns-clause-framed : goal.returns-clause-framed
returns-clause-framed c = let S = c.requires.shows in cuts-framed S.0 c.args.c.now (form_of c.args.h.now) c.in_ok-points.points.items S.1.shows (returns-clause-exactly c)

use Rattle.nef_facets.proofs.Prelude.{◌++◌, List, map, ap, ◌∙◌, complex_of, count_items, Tie}
use Rattle.nef_facets.proofs.Numbering.{both-within, both-links}
use Rattle.nef_facets.proofs.parts.facet_ties.Goals as goal

pub returns-clause-within : goal.returns-clause-within
returns-clause-within c =
    both-within (map count_items (complex_of c.args.c.now).vertices) c.in_ok-ties.ties.items c.in_ok-across.across.items c.extend_from_slice.new.self.items
    (c.in_ok-extend_from_slice.ensures.items ∙ ap (λ (ts : List Tie). c.in_ok-ties.ties.items ++ ts) c.deref.ensures.value) c.in_ok-ties.ensures.within c.in_ok-across.ensures.within

pub returns-clause-links : goal.returns-clause-links
returns-clause-links c =
    both-links (complex_of c.args.c.now) c.in_ok-ties.ties.items c.in_ok-across.across.items c.extend_from_slice.new.self.items
    (c.in_ok-extend_from_slice.ensures.items ∙ ap (λ (ts : List Tie). c.in_ok-ties.ties.items ++ ts) c.deref.ensures.value) c.in_ok-ties.ensures.along c.in_ok-across.ensures.across

use Rattle.nef_volumes.proofs.Prelude.{List, map, sym, subst, ◌↔◌, Corner, Tie, AreTied, AreTiedWithin, complex_of, FacetLink, count_items, cell_of}
use Rattle.nef_volumes.proofs.ties.facet_pieces.Goals as goal

pub facets_of_ties-requires-clause-within : goal.facets_of_ties-requires-clause-within
facets_of_ties-requires-clause-within c = subst (λ (ts : List Tie). AreTiedWithin (map count_items (complex_of c.args.c.now).vertices) ts) (sym c.as_slice.ensures.value) c.in_ok-ties.ensures.within

pub facets_of_ties-requires-clause-links : goal.facets_of_ties-requires-clause-links
facets_of_ties-requires-clause-links c =
    subst (λ (ts : List Tie). (j k : Corner) → AreTied ts (cell_of j) (cell_of k) ↔ FacetLink (complex_of c.args.c.now) j k) (sym c.as_slice.ensures.value) c.in_ok-ties.ensures.links

pub item_ties-requires-clause-within : goal.item_ties-requires-clause-within
item_ties-requires-clause-within c = subst (λ (ts : List Tie). AreTiedWithin (map count_items (complex_of c.args.c.now).vertices) ts) (sym c.as_slice-2.ensures.value) c.in_ok-ties.ensures.within

pub item_ties-requires-clause-links : goal.item_ties-requires-clause-links
item_ties-requires-clause-links c =
    subst (λ (ts : List Tie). (j k : Corner) → AreTied ts (cell_of j) (cell_of k) ↔ FacetLink (complex_of c.args.c.now) j k) (sym c.as_slice-2.ensures.value) c.in_ok-ties.ensures.links

pub returns : goal.returns
returns c = record { pieces = record { facets = c.in_ok-parts.ensures.parts; items = c.in_ok-items.ensures.ties } }

use Rattle.nef_facets.proofs.Prelude.{List, map, sym, subst, ◌↔◌, complex_of, FacetLink, count_items, Tie, AreTied, AreTiedWithin, cell_of}
use Rattle.law_geometry.specs.complex.Complexes.{Corner}
use Rattle.nef_facets.proofs.parts.facets.Goals as goal

pub facets_of_ties-requires-clause-within : goal.facets_of_ties-requires-clause-within
facets_of_ties-requires-clause-within c = subst (λ (ts : List Tie). AreTiedWithin (map count_items (complex_of c.args.c.now).vertices) ts) (sym c.as_slice.ensures.value) c.in_ok-ties.ensures.within

pub facets_of_ties-requires-clause-links : goal.facets_of_ties-requires-clause-links
facets_of_ties-requires-clause-links c =
    subst (λ (ts : List Tie). (j k : Corner) → AreTied ts (cell_of j) (cell_of k) ↔ FacetLink (complex_of c.args.c.now) j k) (sym c.as_slice.ensures.value) c.in_ok-ties.ensures.links

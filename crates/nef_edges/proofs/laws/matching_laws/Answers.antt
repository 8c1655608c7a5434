-- The laws of matched ends, from the lemmas.
use Rattle.nef_edges.proofs.Matched.{matched-are_edges, edges-are_matched}
use Rattle.nef_edges.proofs.laws.matching_laws.Goals as goal

pub returns-clause-matched : goal.returns-clause-matched
returns-clause-matched c = matched-are_edges

pub returns-clause-edges : goal.returns-clause-edges
returns-clause-edges c = edges-are_matched

-- The laws of sphere maps, from the lemmas.
use Rattle.law_geometry.proofs.sphere.Prelude.{ℕ, ◌⊎◌, inl, inr, SameDirection, IsAt, MapVertex, Item, items, OnItem, IsFree}
use Rattle.law_geometry.proofs.sphere.Generic.{generic}
use Rattle.law_geometry.proofs.sphere.Forms.{PlaceOf, svertex_place, item_place, free_place, place_of, direction-by_signs, at_svertex-by_signs, on_item-by_signs, free-by_signs}
use Rattle.law_geometry.proofs.sphere.laws.place_laws.Goals as goal

pub returns-clause-generic : goal.returns-clause-generic
returns-clause-generic c gs v = let g = generic gs v in (g.vector, g.keeps, g.off)

pub returns-clause-places : goal.returns-clause-places
returns-clause-places c M d f = by (place_of M d f)
  where
    by : PlaceOf M d → ((k : ℕ) × (v : MapVertex) × IsAt M.svertices k v × SameDirection v.dir d) ⊎ ((k : ℕ) × (x : Item) × IsAt (items M) k x × OnItem M x d) ⊎ IsFree M d
    by (svertex_place k v a w) = inl (k, v, a, w)
    by (item_place k x a o) = inr (inl (k, x, a, o))
    by (free_place F) = inr (inr F)

pub returns-clause-by_signs : goal.returns-clause-by_signs
returns-clause-by_signs c M d e s f = (λ k v a w. at_svertex-by_signs M d e s k v a (direction-by_signs M d e s f) w, λ k x a o. on_item-by_signs M d e s k x a o, λ F. free-by_signs M d e s F)

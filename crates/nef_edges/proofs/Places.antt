-- Elements of lists by their places.
use Rattle.nef_edges.proofs.Prelude.{◌≡◌, ℕ, ◌<◌, List, [], ◌∷◌, ◌++◌, length, map, get_or, slice_get, Some, ◌⊎◌, IsAt, is-at_left, is-at_last, is-at_more, is-at_within, is-at_get, is-at_is, is-at_read, is-at_map, map-is_at}

module _ {A : Type 0} where
  pub at-read : (xs : List A) (k : ℕ) (d x : A) → IsAt xs k x → get_or xs k d ≡ x
  at-read xs k d x h = is-at_is xs k x d h

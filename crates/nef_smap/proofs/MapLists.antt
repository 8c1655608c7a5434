-- The svertices and items of the program's maps by their numbers.
use Rattle.nef_smap.proofs.Prelude.{◌≡◌, ℕ, zero, suc, ◌+◌, List, [], ◌∷◌, length, map, Option, Some, None, option_map, is_some, arith, refl, ap, slice_get, IsAt, MapSloop, arc_item, sloop_item, items_then, SArc, SLoop, arc_of, sloop_of}
use mir.Val.{bool_byte}

pub length-items : (as' : List SArc) (l : Option SLoop) → length (items_then (map arc_of as') (option_map sloop_of l)) ≡ length as' + bool_byte (is_some l)
length-items [] None = refl
length-items [] (Some l) = refl
length-items (a ∷ as') l = let e = length-items as' l in omega arith

pub item-arc : (as' : List SArc) (l : Option SLoop) (k : ℕ) (a : SArc) → slice_get as' k ≡ Some a → IsAt (items_then (map arc_of as') (option_map sloop_of l)) k (arc_item (arc_of a))
item-arc [] l k a e = cc
item-arc (b ∷ as') l zero a e = ap (option_map (λ (r : SArc). arc_item (arc_of r))) e
item-arc (b ∷ as') l (suc k) a e = item-arc as' l k a e

pub item-sloop : (as' : List SArc) (o : Option SLoop) (k : ℕ) (l : SLoop) → k ≡ length as' → o ≡ Some l → IsAt (items_then (map arc_of as') (option_map sloop_of o)) k (sloop_item (sloop_of l))
item-sloop [] None k l e f = cc
item-sloop [] (Some m) zero l e f = ap (option_map (λ (r : SLoop). sloop_item (sloop_of r))) f
item-sloop [] (Some m) (suc k) l e f = absurd (omega arith)
item-sloop (b ∷ as') o zero l e f = absurd (omega arith)
item-sloop (b ∷ as') o (suc k) l e f = item-sloop as' o k l (omega arith) f

-- the sloop stands after the arcs
pub sloop-listed : (as' : List SArc) (o : Option SLoop) (l : MapSloop) → option_map sloop_of o ≡ Some l → IsAt (items_then (map arc_of as') (option_map sloop_of o)) (length as') (sloop_item l)
sloop-listed [] None l e = cc
sloop-listed [] (Some m) l e = ap (option_map sloop_item) e
sloop-listed (a ∷ as') o l e = sloop-listed as' o l e

pub sloop-was : (o : Option SLoop) (l : MapSloop) → option_map sloop_of o ≡ Some l → (m : SLoop) × (o ≡ Some m) × (sloop_of m ≡ l)
sloop-was None l e = cc
sloop-was (Some m) l e = let i : Some (sloop_of m) ≡ Some l = e in (m, refl, cc)

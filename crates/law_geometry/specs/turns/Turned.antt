-- What a turn makes of vectors, forms, points and sets.
use Rattle.std.specs.Prelude.{◌/◌, ◌%◌, ◌∷◌, ℕ, zero, suc, ℤ, pos, List, [], Bool, true, false}
use Rattle.nef_space.specs.Prelude.{Vector, vector, SpacePoint, Form, form, Set}
use Rattle.nef_case.specs.Turns.{Triple, has_bit, negated_if, negated, turned}

abbrev pub vector_of_triple : Triple → Vector
vector_of_triple t = vector t.0 t.1 t.2

abbrev pub triple_of : Vector → Triple
triple_of d = (d.x, d.y, d.z)

-- the vector whose numbers the turn makes of the numbers of d
abbrev pub turned_vector : ℕ → Vector → Vector
turned_vector k d = vector_of_triple (turned k (triple_of d))

-- the form with the turned normal and the same offset
abbrev pub turned_plane : ℕ → Form → Form
turned_plane k h = let t = turned k (h.a, h.b, h.c) in form t.0 t.1 t.2 h.d

-- the point with turned numbers and the same weight
abbrev pub turned_point : ℕ → SpacePoint → SpacePoint
turned_point k p = record {
  x = (turned k (p.x, p.y, p.z)).0;
  y = (turned k (p.x, p.y, p.z)).1;
  z = (turned k (p.x, p.y, p.z)).2;
  w = p.w;
  proper = p.proper;
}

abbrev pub point_numbers : SpacePoint → List ℤ
point_numbers p = p.x ∷ p.y ∷ p.z ∷ pos p.w ∷ []

-- the set whose halves have the turned forms
abbrev pub turned_set : ℕ → Set → Set
turned_set k (Set.half h c) = Set.half (turned_plane k h) c
turned_set k Set.empty = Set.empty
turned_set k Set.full = Set.full
turned_set k (Set.both a b) = Set.both (turned_set k a) (turned_set k b)
turned_set k (Set.either a b) = Set.either (turned_set k a) (turned_set k b)
turned_set k (Set.less a b) = Set.less (turned_set k a) (turned_set k b)
turned_set k (Set.one_of a b) = Set.one_of (turned_set k a) (turned_set k b)
turned_set k (Set.other a) = Set.other (turned_set k a)
turned_set k (Set.inside a) = Set.inside (turned_set k a)
turned_set k (Set.closed a) = Set.closed (turned_set k a)
turned_set k (Set.border a) = Set.border (turned_set k a)
turned_set k (Set.regular a) = Set.regular (turned_set k a)

-- ---- the way back
-- the inverse of each of the six permutations of coordinates, by the number of the permutation
abbrev pub disordered : ℕ → Triple → Triple
disordered zero (x, y, z) = (x, y, z)
disordered (suc zero) (x, y, z) = (x, z, y)
disordered (suc (suc zero)) (x, y, z) = (y, x, z)
disordered (suc (suc (suc zero))) (x, y, z) = (z, x, y)
disordered (suc (suc (suc (suc zero)))) (x, y, z) = (y, z, x)
disordered (suc (suc (suc (suc (suc n))))) (x, y, z) = (z, y, x)

-- the triple that the turn k turns into v
abbrev pub unturned : ℕ → Triple → Triple
unturned k v = disordered (k / 8) (negated (k % 8) v)

abbrev pub unturned_vector : ℕ → Vector → Vector
unturned_vector k d = vector_of_triple (unturned k (triple_of d))

abbrev pub unturned_point : ℕ → SpacePoint → SpacePoint
unturned_point k p = record {
  x = (unturned k (p.x, p.y, p.z)).0;
  y = (unturned k (p.x, p.y, p.z)).1;
  z = (unturned k (p.x, p.y, p.z)).2;
  w = p.w;
  proper = p.proper;
}

-- ---- the sense of a turn
abbrev pub differ : Bool → Bool → Bool
differ true true = false
differ true false = true
differ false b = b

-- the permutation with this number exchanges two coordinates and keeps the third
abbrev pub is_exchange : ℕ → Bool
is_exchange zero = false
is_exchange (suc zero) = true
is_exchange (suc (suc zero)) = true
is_exchange (suc (suc (suc zero))) = false
is_exchange (suc (suc (suc (suc zero)))) = false
is_exchange (suc (suc (suc (suc (suc n))))) = true

abbrev pub negates_odd : ℕ → Bool
negates_odd s = differ (has_bit 1 s) (differ (has_bit 2 s) (has_bit 4 s))

-- the turn makes counterclockwise clockwise: either it is an exchange, or it negates one or three coordinates, not both
abbrev pub is_odd : ℕ → Bool
is_odd k = differ (negates_odd (k % 8)) (is_exchange (k / 8))

-- the vector d, or the opposite of d if b is set
abbrev pub signed : Bool → Vector → Vector
signed b d = vector (negated_if b d.x) (negated_if b d.y) (negated_if b d.z)

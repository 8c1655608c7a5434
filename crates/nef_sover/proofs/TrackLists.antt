-- Where the items of a map lie, one after the other.
use Rattle.nef_sover.proofs.Prelude.{ℕ, ◌+◌, ◌≤◌, List, [], ◌∷◌, ◌++◌, length, take, sym, subst, AllZip, normal_limit, IsAtMost, IsAt, Map, Item, items, SphereMap, map_of, IsSphereMap, Track, IsTrackOf, AreTracks, AreSmallTracks}
use Rattle.nef_sover.proofs.Places.{zip-second, zip-more, zip-all}

-- they are those of the first k items
abbrev pub AreFirst : Map → ℕ → List Track → Type 0
AreFirst M k ts = AllZip (IsTrackOf M) ts (take k (items M))

pub first-more : (M : Map) (k : ℕ) (ts : List Track) (t : Track) → AreFirst M k ts → (x : Item) → IsAt (items M) k x → IsTrackOf M t x → AreFirst M (k + 1) (ts ++ t ∷ [])
first-more M k ts t F x a r = zip-more (IsTrackOf M) ts (items M) k t x F a r

pub first-all : (M : Map) (k : ℕ) (ts : List Track) → AreFirst M k ts → length (items M) ≤ k → AreTracks M ts
first-all M k ts F l = zip-all (IsTrackOf M) ts (items M) k l F

pub tracks-small : (m : SphereMap) (ts : List Track) → IsSphereMap m → AreTracks (map_of m) ts → AreSmallTracks ts
tracks-small m ts S z k t h = let x = zip-second (IsTrackOf (map_of m)) ts (items (map_of m)) k t z h in subst (IsAtMost normal_limit) (sym x.2.normal) (S.small.normals k x.0 x.1)

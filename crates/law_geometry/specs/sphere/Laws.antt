-- What is proved of sphere maps: each law is one statement that a function's contract cites.
use Rattle.std.specs.Prelude.{◌≡◌, ◌≤◌, ◌↔◌, ◌⊎◌}
use Rattle.nef_space.specs.Prelude.{ℕ, pos, List, Lies, SpacePoint, Vector, IsDirection, cross, dot, blend, SameDirection, IsZero, Set, HasLabel, Germ, Flat, FlatDim, IsAt}
use Rattle.nef_space.specs.declared.label.Label.{Label}
use Rattle.law_geometry.specs.sphere.Maps.{Map, MapVertex, Item, items, item_normal, OnItem, IsFree, IsClear, HasSide, Side, Sees, SeenAs, MapLabel, NearLabel, Shaped, Valid}
use Rattle.law_geometry.specs.sphere.Forms.{SameSigns, Keeps, forms}
use Rattle.law_geometry.specs.sphere.Least.{NearPlain, NearStraight, Least, SameLabels, Ordered, Cone}
use Rattle.law_geometry.specs.sphere.Labelling.{Agrees, ByOp, IsSmooth}
use Rattle.law_geometry.specs.sphere.Builds.{IsBuilt, NoneSmooth}
use Rattle.law_geometry.specs.sphere.Kinds.{IsInVolume, IsInFacet, IsOnEdge}

-- for each v some vector keeps the signs of v that aren't nought, and has no sign nought
abbrev pub SignsKeptGenerically : Type 0
SignsKeptGenerically = (gs : List Vector) (v : Vector) → (w : Vector) × Keeps gs v w × ((g : Vector) → Lies gs g → IsDirection g → dot g w ≡ pos 0 → ⊥)

-- each direction lies on a svertex, lies on an item, or is free
abbrev pub PlacesDecided : Type 0
PlacesDecided = (M : Map) (d : Vector) → IsDirection d
    → ((k : ℕ) × (v : MapVertex) × IsAt M.svertices k v × SameDirection v.dir d) ⊎ ((k : ℕ) × (x : Item) × IsAt (items M) k x × OnItem M x d) ⊎ IsFree M d

-- directions with the same signs on the map's forms lie on the same svertices and items, or are both free
abbrev pub PlacesBySigns : Type 0
PlacesBySigns = (M : Map) (d e : Vector) → SameSigns (forms M) d e → IsDirection d
    → ((k : ℕ) (v : MapVertex) → IsAt M.svertices k v → SameDirection v.dir d → SameDirection v.dir e)
    × ((k : ℕ) (x : Item) → IsAt (items M) k x → OnItem M x d → OnItem M x e)
    × (IsFree M d → IsFree M e)

-- some side of the map sees each free direction that lies off the plane of some item
abbrev pub SeenDirectly : Type 0
SeenDirectly = (M : Map) (d : Vector) (k : ℕ) (x : Item) → Valid M → IsFree M d → IsAt (items M) k x → (dot (item_normal x) d ≡ pos 0 → ⊥) → (m : Label) × SeenAs M d m

-- one side of the map sees both ends of a clear way between free directions
abbrev pub OneSideSeesBoth : Type 0
OneSideSeesBoth = (M : Map) (d e : Vector) → Valid M → IsClear M d e → IsFree M e → (o : Side) × (m : Label) × HasSide M o m × Sees M o d × Sees M o e

abbrev pub FreeSeen : Type 0
FreeSeen = (M : Map) (d : Vector) → Valid M → IsFree M d → (m : Label) × SeenAs M d m

abbrev pub ClearLabel : Type 0
ClearLabel = (M : Map) (d e : Vector) (m n : Label) → Valid M → IsClear M d e → IsFree M e → MapLabel M d m → MapLabel M e n → m ≡ n

-- each direction of a valid map has exactly one label
abbrev pub OneLabel : Type 0
OneLabel = (M : Map) (d : Vector) → Valid M → IsDirection d → (m : Label) × MapLabel M d m × ((n : Label) → MapLabel M d n → m ≡ n)

abbrev pub LabelBySigns : Type 0
LabelBySigns = (M : Map) (d e : Vector) (m : Label) → Valid M → SameSigns (forms M) d e → MapLabel M d m → MapLabel M e m

-- close to d, toward each e, there is exactly one label: the label of k d + e from some k on
abbrev pub OneNearLabel : Type 0
OneNearLabel = (M : Map) (d e : Vector) → Valid M → IsDirection d → (m : Label) × NearLabel M d e m × ((n : Label) → NearLabel M d e n → m ≡ n)

abbrev pub NearIsFar : Type 0
NearIsFar = (M : Map) (d e : Vector) → Valid M → IsDirection d → (n : ℕ) × ((k : ℕ) (m : Label) → n ≤ k → NearLabel M d e m ↔ MapLabel M (blend k d 1 e) m)

-- ---- least maps
-- a direction is a svertex of a least map exactly where the labels around it are neither plain nor straight
abbrev pub SvertexExactly : Type 0
SvertexExactly = (M : Map) (d : Vector) → Valid M → Least M → IsDirection d
    → ((k : ℕ) × (v : MapVertex) × IsAt M.svertices k v × SameDirection v.dir d) ↔ (NearPlain M d ⊎ NearStraight M d → ⊥)

-- two least maps with one mark and with one label in every direction are equal
abbrev pub LeastUnique : Type 0
LeastUnique = (M N : Map) → Valid M → Valid N → Ordered M → Ordered N → Least M → Least N → M.mark ≡ N.mark → SameLabels M N → M ≡ N

abbrev pub LeastMapUnique : Type 0
LeastMapUnique = (M N : Map) (s : Set) (p : SpacePoint) → Cone M s p → Cone N s p → Ordered M → Ordered N → Least M → Least N → M ≡ N

-- a well shaped map that agrees with a set's germs at a point, piece by piece, shows the set there
abbrev pub ConeFromPieces : Type 0
ConeFromPieces = (M : Map) (s : Set) (p : SpacePoint) → Shaped M → HasLabel s p M.mark → Agrees M (Germ s p) → Cone M s p

abbrev pub OpFromPieces : Type 0
OpFromPieces = (A B M : Map) (op : Label → Label → Label) → Valid A → Valid B → Shaped M → Agrees M (ByOp A B op)
    → Valid M × ((d : Vector) (m : Label) → IsDirection d → MapLabel M d m ↔ ByOp A B op d m)

-- the kind of a least map of a set at a point is the dimension of the set's flat directions at this point
abbrev pub KindByDimension : Type 0
KindByDimension = (M : Map) (s : Set) (p : SpacePoint) → Cone M s p → Least M
    → (IsInVolume M → FlatDim s p 3)
    × ((n : Vector) → IsInFacet M n → FlatDim s p 2 × ((d : Vector) → Flat s p d ↔ (dot n d ≡ pos 0)))
    × ((d : Vector) → IsOnEdge M d → FlatDim s p 1 × ((e : Vector) → Flat s p e ↔ IsZero (cross d e)))
    × ((IsInVolume M → ⊥) → ((n : Vector) → IsInFacet M n → ⊥) → ((d : Vector) → IsOnEdge M d → ⊥) → FlatDim s p 0)

-- a map that is built of op of two maps is valid and least, and has op of the two maps' labels
abbrev pub OpBuild : Type 0
OpBuild = (A B M : Map) (op : Label → Label → Label) → Valid A → Valid B → IsBuilt M (ByOp A B op) → NoneSmooth M (ByOp A B op)
    → Valid M × Least M × ((d : Vector) (m : Label) → IsDirection d → MapLabel M d m ↔ ByOp A B op d m)

-- a map that is built of a set's germs at a point is a least map of the set
abbrev pub SetBuild : Type 0
SetBuild = (M : Map) (s : Set) (p : SpacePoint) → HasLabel s p M.mark → IsBuilt M (Germ s p) → NoneSmooth M (Germ s p) → Cone M s p × Least M

-- away from the svertices and the crossings of two maps, op of the two maps is plain or straight
abbrev pub OpSmooth : Type 0
OpSmooth = (A B : Map) (op : Label → Label → Label) → Valid A → Valid B → (d : Vector) → IsDirection d
    → ((k : ℕ) (v : MapVertex) → IsAt A.svertices k v → SameDirection v.dir d → ⊥) → ((k : ℕ) (v : MapVertex) → IsAt B.svertices k v → SameDirection v.dir d → ⊥)
    → ((i j : ℕ) (x y : Item) → IsAt (items A) i x → IsAt (items B) j y → OnItem A x d → OnItem B y d → IsZero (cross (item_normal x) (item_normal y)))
    → IsSmooth (ByOp A B op) d

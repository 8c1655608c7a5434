-- Vertices whose maps are still to come, and from where.
use Rattle.std.specs.Prelude.{◌≡◌, ◌<◌, ◌⊎◌, ◌∷◌, ◌++◌}
use Rattle.nef_complex.specs.Prelude.{ℕ, List, [], length, SpacePoint, IsPointBelow, point_of, Point, IsAt}
use Rattle.nef_spair.specs.Prelude.{InOrder, IsLeastMap}
use Rattle.nef_smap.specs.declared.map.SphereMap.{SphereMap}
use Rattle.nef_complex.specs.declared.complex.Vertex.{Vertex}
use Rattle.nef_cand.specs.declared.named.Operand.{Operand}
use Rattle.nef_result.specs.declared.outcome.Outcome.{Outcome}
use Rattle.nef_result.specs.declared.outcome.Outcome.TheVariants as outcome
use Rattle.nef_result.specs.declared.parting.MapSource.{MapSource}
use Rattle.nef_result.specs.declared.parting.MapSource.TheVariants.{Here, Kept, Turned}
use Rattle.nef_result.specs.Outcomes.{of_operand, StandsAt, IsOtherOf}

-- the outcome says that there is a vertex whose map is, or comes from, there; m is the one that stands with it
abbrev pub Begins : Outcome → SphereMap → MapSource → Type 0
Begins (outcome.Made b) m f = (m ≡ b.value) × (f ≡ Here)
Begins (outcome.Stays o k) m f = f ≡ Kept o k
Begins (outcome.Turned o k) m f = f ≡ Turned o k
Begins outcome.Gone m f = ⊥

abbrev pub vertex_at : Point → SphereMap → Vertex
vertex_at p m = record { point = p; map = m }

-- a vertex at p with its source was added, or there is none
abbrev pub IsAdded : Point → Outcome → List Vertex → List MapSource → List Vertex → List MapSource → Type 0
IsAdded p o vs fs ws gs = ((o ≡ outcome.Gone) × (ws ≡ vs) × (gs ≡ fs))
    ⊎ ((m : SphereMap) × (f : MapSource) × Begins o m f × (ws ≡ vs ++ vertex_at p m ∷ []) × (gs ≡ fs ++ f ∷ []))

-- the vertices are the points with outcomes that say so, in their order, with their sources
pub record AreBegun (ps : List Point) (os : List Outcome) (vs : List Vertex) (fs : List MapSource) : Type 0 where
  pub alike : length fs ≡ length vs
  pub each : (i : ℕ) (v : Vertex) (f : MapSource) → IsAt vs i v → IsAt fs i f → (k : ℕ) × (o : Outcome) × IsAt ps k v.point × IsAt os k o × Begins o v.map f
  pub all : (k : ℕ) (p : Point) (o : Outcome) → IsAt ps k p → IsAt os k o → (o ≡ outcome.Gone → ⊥) → (i : ℕ) × (v : Vertex) × IsAt vs i v × (v.point ≡ p)
  pub ordered : InOrder (λ (u v : Vertex). IsPointBelow (point_of u.point) (point_of v.point)) vs

-- ---- maps that are put in
-- a vertex stands at p whose map the source names
abbrev pub HasSourceAt : List Vertex → List Vertex → SpacePoint → MapSource → Type 0
HasSourceAt us vs p Here = Unit {0}
HasSourceAt us vs p (Kept o k) = (v : Vertex) × StandsAt (of_operand o us vs) k v p
HasSourceAt us vs p (Turned o k) = (v : Vertex) × StandsAt (of_operand o us vs) k v p × IsLeastMap v.map

-- the vertices stand in order, and each source names a vertex at its vertex's point
pub record AreThere (us vs ys : List Vertex) (fs : List MapSource) : Type 0 where
  pub alike : length fs ≡ length ys
  pub each : (i : ℕ) (y : Vertex) (f : MapSource) → IsAt ys i y → IsAt fs i f → HasSourceAt us vs (point_of y.point) f
  pub ordered : InOrder (λ (u v : Vertex). IsPointBelow (point_of u.point) (point_of v.point)) ys

-- of a vertex with the map m, n is the map that the source names
abbrev pub IsFilled : List Vertex → List Vertex → MapSource → SphereMap → SphereMap → Type 0
IsFilled us vs Here m n = n ≡ m
IsFilled us vs (Kept o k) m n = (v : Vertex) × IsAt (of_operand o us vs) k v × (n ≡ v.map)
IsFilled us vs (Turned o k) m n = (v : Vertex) × IsAt (of_operand o us vs) k v × IsOtherOf v.map n

-- the source names this vertex of the operand
abbrev pub NamesVertex : MapSource → Operand → ℕ → Type 0
NamesVertex Here o k = ⊥
NamesVertex (Kept p n) o k = (p ≡ o) × (k ≡ n)
NamesVertex (Turned p n) o k = (p ≡ o) × (k ≡ n)

-- there is the vertex that the source names
abbrev pub HasNamed : List Vertex → List Vertex → MapSource → Type 0
HasNamed us vs Here = Unit {0}
HasNamed us vs (Kept o k) = (v : Vertex) × IsAt (of_operand o us vs) k v
HasNamed us vs (Turned o k) = (v : Vertex) × IsAt (of_operand o us vs) k v × IsLeastMap v.map

-- vertex number k, which was y, has the map that its source names
abbrev pub IsFilledAt : List Vertex → List Vertex → MapSource → ℕ → Vertex → List Vertex → Type 0
IsFilledAt us vs f k y xs = (x : Vertex) × IsAt xs k x × (x.point ≡ y.point) × IsFilled us vs f y.map x.map

-- the first vertices have their maps, and the others are as they were
pub record AreFilledTo (us vs ys : List Vertex) (fs : List MapSource) (n : ℕ) (xs : List Vertex) : Type 0 where
  pub alike : length xs ≡ length ys
  pub done : (i : ℕ) (y : Vertex) (f : MapSource) → i < n → IsAt ys i y → IsAt fs i f → IsFilledAt us vs f i y xs
  pub rest : (i : ℕ) (y : Vertex) → (i < n → ⊥) → IsAt ys i y → IsAt xs i y

-- of the vertices of an operand those at none of the first points are as they were
abbrev pub AreLeft : List Vertex → ℕ → List Vertex → List Vertex → Type 0
AreLeft ys n us ws = (k : ℕ) (u : Vertex) → IsAt us k u → ((i : ℕ) (y : Vertex) → i < n → IsAt ys i y → StandsAt us k u (point_of y.point) → ⊥) → IsAt ws k u

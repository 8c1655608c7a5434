-- The carriers of a complex among the carriers of a result.
use Rattle.std.specs.Prelude.{◌≡◌, ◌⊎◌, ◌<◌, ◌≤◌, ◌∷◌, ◌++◌}
use Rattle.nef_space.specs.Prelude.{ℕ, List, [], length, IsAt, SpacePoint, Set}
use Rattle.nef_geo.specs.declared.plane.Plane.{Plane}
use Rattle.nef_complex.specs.declared.taken_rows.CarrierSource.{CarrierSource}
use Rattle.nef_complex.specs.Complexes.{ShowsSet}
use Rattle.nef_index.specs.Numbers.{HasEntry, DoRise}
use Rattle.nef_index.specs.Carriers.{AreHolders}

-- the plane number i of gs is the plane number k of hs
abbrev pub StandsAmong : List Plane → List Plane → ℕ → ℕ → Type 0
StandsAmong gs hs i k = (g : Plane) × IsAt gs i g × IsAt hs k g

-- in increasing order, ns has the numbers among hs of the planes of gs, and ks the numbers of the other planes of hs
pub record AreTaken (gs hs : List Plane) (ns : List ℕ) (others : List Plane) (ks : List ℕ) : Type 0 where
  pub enough : length gs ≤ length ns
  pub each : (i k : ℕ) → IsAt ns i k → StandsAmong gs hs i k
  pub rise : DoRise ns
  pub others_enough : length others ≤ length ks
  pub others_each : (i k : ℕ) → IsAt ks i k → StandsAmong others hs i k
  pub all : (k : ℕ) → k < length hs → HasEntry ns k ⊎ HasEntry ks k

-- the new list has exactly the numbers of the old list, and those of the table that stand under the first n of the other numbers
pub record AreAdded (table places : List ℕ) (n : ℕ) (old new : List ℕ) : Type 0 where
  pub kept : (k : ℕ) → HasEntry old k → HasEntry new k
  pub added : (i j k : ℕ) → i < n → IsAt places i j → IsAt table j k → HasEntry new k
  pub only : (k : ℕ) → HasEntry new k → HasEntry old k ⊎ ((i : ℕ) × (j : ℕ) × (i < n) × IsAt places i j × IsAt table j k)

-- the source's complex shows a set; the source's numbers tell where hs has its carriers and the other planes
abbrev pub IsSourceAmong : List Plane → CarrierSource → Type 0
IsSourceAmong hs t = ((s : Set) × ShowsSet s t.complex.now) × AreTaken t.complex.now.carriers hs t.numbers.items t.others t.other_numbers.items

-- one row is added: the numbers of the carriers that hold the point
abbrev pub IsRowAdded : List Plane → SpacePoint → List (List ℕ) → List (List ℕ) → Type 0
IsRowAdded hs p rows more = (ns : List ℕ) × AreHolders hs p p ns × (more ≡ rows ++ ns ∷ [])

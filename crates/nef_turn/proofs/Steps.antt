-- The steps that lead from the complex of a set to that of the turned set.
use Rattle.nef_turn.proofs.Prelude.{◌≡◌, ℕ, List, map, subst, Set, form_of, Plane, vertex_of, ShowsSet, AreVerticesOf, Vertex, Complex, turned_set, AreTurnedPlanes, AreTurnedVertices, HaveLeastMaps}
use Rattle.nef_turn.proofs.Pairing.{paired-turned}

module _ (s : Set) (c : Complex) (S : ShowsSet s c) where
  pub maps-least : HaveLeastMaps c.vertices
  maps-least j v a = S.maps j v a

  pub ready : (k i : ℕ) (gs hs : List Plane) (us vs : List Vertex) → i ≡ k → gs ≡ c.carriers → us ≡ c.vertices → AreTurnedPlanes i (map form_of gs) (map form_of hs) → AreTurnedVertices i (map vertex_of us) (map vertex_of vs)
      → AreVerticesOf (turned_set k s) hs vs
  ready k i gs hs us vs n d e P T =
      paired-turned k s c hs vs S
      (subst (λ (j : ℕ). AreTurnedPlanes j (map form_of c.carriers) (map form_of hs)) n (subst (λ (l : List Plane). AreTurnedPlanes i (map form_of l) (map form_of hs)) d P))
      (subst (λ (j : ℕ). AreTurnedVertices j (map vertex_of c.vertices) (map vertex_of vs)) n (subst (λ (l : List Vertex). AreTurnedVertices i (map vertex_of l) (map vertex_of vs)) e T))

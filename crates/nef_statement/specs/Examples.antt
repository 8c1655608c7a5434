-- The definitions at worked examples.
use Rattle.std.specs.Prelude.{◌≡◌, ◌∷◌, pos, negsuc, true, List, [], Option, Some, None, codes}
use Rattle.nef_geo.specs.Prelude.{form, Set, vector, Label}
use Rattle.nef_space.specs.declared.label.Label.TheVariants.{Not, In}
use Rattle.law_geometry.specs.sphere.Maps.{MapVertex, Arc, MapSloop, Map}
use Rattle.nef_script.specs.Prelude.{lines_of, script_of}
use Rattle.nef_statement.specs.Denotes.{denoted}
use Rattle.nef_statement.specs.Reader.{positive, vertices_told}

-- a half-space, its complement, and the complement turned by turn 8, which exchanges y and z
abbrev pub DenotedExample : Type 0
DenotedExample =
    denoted [] (lines_of (script_of (codes "half A 1 2 3 -4 closed" ∷ codes "" ∷ codes "  not B A # outside" ∷ codes "has B 0 0 0 1" ∷ codes "turn C B 8" ∷ [])))
    ≡ (codes "A", Set.half (form (pos 1) (pos 2) (pos 3) (negsuc 3)) true)
    ∷ (codes "B", Set.other (Set.half (form (pos 1) (pos 2) (pos 3) (negsuc 3)) true))
    ∷ (codes "C", Set.other (Set.half (form (pos 1) (pos 3) (pos 2) (negsuc 3)) true))
    ∷ []

-- a map with this mark and these lists, sloop and ground
abbrev pub map_with : Label → List MapVertex → List Arc → Option MapSloop → Option Label → Map
map_with mark svertices arcs sloop around = let ground : Option Label = around in record { mark = mark; svertices = svertices; arcs = arcs; sloop = sloop; ground = ground }

-- a vertex with a svertex and an arc, and a vertex with a sloop, among rows that tell no vertex
abbrev pub ToldExample : Type 0
ToldExample =
    vertices_told (script_of (codes "nef3 1 2 0 0 2" ∷ codes "v -1 2 3 4 i -" ∷ codes "s 1 0 0 n i" ∷ codes "a 0 0 0 0 -1 i n i" ∷ codes "v 0 0 0 1 n i" ∷ codes "l 1 2 3 i n n" ∷ codes "w o" ∷ []))
    ≡ record {
      point = record { x = negsuc 0; y = pos 2; z = pos 3; w = 4; proper = positive 3 };
      map = map_with In
          (record { dir = vector (pos 1) (pos 0) (pos 0); mark = Not; around = Some In } ∷ [])
          (record { normal = vector (pos 0) (pos 0) (negsuc 0); source = 0; target = 0; pos = Not; mark = In; neg = In } ∷ [])
          None
          None;
    }
    ∷ record {
      point = record { x = pos 0; y = pos 0; z = pos 0; w = 1; proper = positive 0 };
      map = map_with Not [] [] (Some (record { normal = vector (pos 1) (pos 2) (pos 3); pos = Not; mark = In; neg = Not })) (Some In);
    }
    ∷ []

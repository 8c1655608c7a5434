use Rattle.nef_spair.proofs.Prelude.{rules, map_of, IsVertexMap, Vertex, OnEdge, InFacet, InVolume}
use Rattle.nef_spair.proofs.OneKind.{exactly, fits}
use Rattle.nef_spair.proofs.least.kind.Goals as goal

pub returns-then-is_in_volume : goal.returns-then-is_in_volume
returns-then-is_in_volume c =
    let M = map_of c.args.map.now in let h = c.is_in_volume.ensures.volume.0 c.if-is_in_volume.true in
    record { exactly = exactly M InVolume h; dimension = fits M InVolume h c.requires.least.least }

pub returns-in-Some : goal.returns-in-Some
returns-in-Some c =
    let M = map_of c.args.map.now in let k = InFacet c.in-Some.normal in let h = c.in-Some.ensures.facet in
    record { exactly = exactly M k h; dimension = fits M k h c.requires.least.least }

pub returns-in-Some-edge_direction : goal.returns-in-Some-edge_direction
returns-in-Some-edge_direction c =
    let M = map_of c.args.map.now in let k = OnEdge c.in-Some-edge_direction.direction in let h = c.in-Some-edge_direction.ensures.edge in
    record { exactly = exactly M k h; dimension = fits M k h c.requires.least.least }

pub returns-in-None : goal.returns-in-None
returns-in-None c =
    let M = map_of c.args.map.now in
    let v : IsVertexMap M = record { no_volume = λ h. absurd (search (rules, c.is_in_volume.ensures.volume.1 h)); no_facet = c.in_default.ensures.facet; no_edge = c.in-None.ensures.edge } in
    record { exactly = exactly M Vertex v; dimension = fits M Vertex v c.requires.least.least }

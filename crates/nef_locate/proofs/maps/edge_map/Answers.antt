use Rattle.nef_locate.proofs.Prelude.{◌*◌, length, refl, svertex_of, edge_of}
use Rattle.nef_locate.proofs.Marks.{image-read}
use Rattle.nef_locate.proofs.EdgeFound.{low-within, low-map, low-svertex, edge-least, edge-cone}
use Rattle.nef_locate.proofs.maps.edge_map.Goals as goal
use Rattle.nef_smap.proofs.Lists.{map-within}

pub at-edge-requires : goal.at-edge-requires
at-edge-requires c = record { within = map-within edge_of c.args.c.now.edges c.args.number c.requires.place.0 c.requires.place.1 }

pub at-requires : goal.at-requires
at-requires c = record { within = low-within c.requires.shows.0 c.args.c.now c.requires.shows.1 c.args.number c.at-edge.result.now c.at-edge.ensures.element }

pub at-requires-2 : goal.at-requires-2
at-requires-2 c = record { within = low-svertex c.requires.shows.0 c.args.c.now c.requires.shows.1 c.args.number c.at-edge.result.now c.at-edge.ensures.element c.at.result.now c.at.ensures.element }

pub half_circles-requires-clause-map : goal.half_circles-requires-clause-map
half_circles-requires-clause-map c =
    let l = low-map c.requires.shows.0 c.args.c.now c.requires.shows.1 c.args.number c.at-edge.result.now c.at-edge.ensures.element c.at.result.now c.at.ensures.element in
    l.sphere_map

pub half_circles-requires-clause-svertex : goal.half_circles-requires-clause-svertex
half_circles-requires-clause-svertex c =
    let x = c.at-2.result.now in
    (svertex_of x, image-read svertex_of c.at.result.now.map.svertices c.at-edge.result.now.low_svertex x c.at-2.ensures.element)

pub returns-clause-least : goal.returns-clause-least
returns-clause-least c =
    let v = c.at.result.now in
    rw (c.from_vec.ensures.all, c.from_vec-2.ensures.all)
    (edge-least c.requires.shows.0 c.args.c.now c.requires.shows.1 c.args.number c.at-edge.result.now c.at-edge.ensures.element v c.at.ensures.element c.at-2.result.now c.at-2.ensures.element
    c.in_ok-svertices.svertices.items c.in_ok-svertices.ensures.ends (2 * length v.map.arcs) c.in_ok-arcs.arcs.items c.sort_arcs.new.arcs.items c.in_ok-arcs.ensures.halves refl c.sort_arcs.ensures.permutation c.sort_arcs.ensures.ordered)

pub returns-clause-cone : goal.returns-clause-cone
returns-clause-cone c s y S p =
    let v = c.at.result.now in
    rw (c.from_vec.ensures.all, c.from_vec-2.ensures.all)
    (edge-cone s c.args.c.now S c.args.number c.at-edge.result.now c.at-edge.ensures.element v c.at.ensures.element c.at-2.result.now c.at-2.ensures.element
    c.in_ok-svertices.svertices.items c.in_ok-svertices.ensures.ends (2 * length v.map.arcs) c.in_ok-arcs.arcs.items c.sort_arcs.new.arcs.items c.in_ok-arcs.ensures.halves refl c.sort_arcs.ensures.permutation c.sort_arcs.ensures.ordered y p)

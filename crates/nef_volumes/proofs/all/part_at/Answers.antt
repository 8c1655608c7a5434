use Rattle.nef_volumes.proofs.Prelude.{point_of, complex_of, corner_of}
use Rattle.nef_volumes.proofs.PartNumbers.{item-facet, side-volume, volume-part}
use Rattle.nef_volumes.proofs.all.part_at.Goals as goal
use Rattle.nef_space.proofs.Elementary.{frame-closed}

pub locate-requires-clause-framed : goal.locate-requires-clause-framed
locate-requires-clause-framed c = frame-closed (point_of c.args.p.now) c.requires.framed

pub number_at-requires : goal.number_at-requires
number_at-requires c = record { some = item-facet (complex_of c.args.c.now) c.args.parts.now c.requires.parts (corner_of c.in-InFacet.corner) c.in-InFacet.ensures.place }

pub number_at-requires-in-InVolume : goal.number_at-requires-in-InVolume
number_at-requires-in-InVolume c = record { some = side-volume (complex_of c.args.c.now) c.args.parts.now c.requires.parts c.in-InVolume.vertex c.in-InVolume.side c.in-InVolume.ensures.place }

pub returns-in-Vertex : goal.returns-in-Vertex
returns-in-Vertex c = record { part = c.in-Vertex.ensures.at }

pub returns-in-OnEdge : goal.returns-in-OnEdge
returns-in-OnEdge c = record { part = c.in-OnEdge.ensures.at }

pub returns-in-InFacet : goal.returns-in-InFacet
returns-in-InFacet c = record { part = (corner_of c.in-InFacet.corner, c.in-InFacet.ensures.at, c.number_at.ensures.number) }

pub returns-in-InVolume : goal.returns-in-InVolume
returns-in-InVolume c = record { part = volume-part (complex_of c.args.c.now) c.args.parts.now c.requires.parts (point_of c.args.p.now) c.in-InVolume.vertex c.in-InVolume.side c.number_at-in-InVolume.result c.in-InVolume.ensures.at c.number_at-in-InVolume.ensures.number }

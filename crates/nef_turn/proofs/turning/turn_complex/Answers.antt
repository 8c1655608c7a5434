-- The turned carriers and vertices, paired, show the turned set.
use Rattle.nef_turn.proofs.Prelude.{List, sym, subst, Plane, AreSorted, AreInOrder, Vertex, turned_set, HaveLeastMaps}
use Rattle.nef_turn.proofs.Steps.{maps-least, ready}
use Rattle.nef_turn.proofs.turning.turn_complex.Goals as goal
use Rattle.nef_cand.proofs.Held.{carriers-ordered}
use Rattle.nef_cand.proofs.Prelude.{vertices-sorted}

pub turned_carriers-requires : goal.turned_carriers-requires
turned_carriers-requires c =
    let (s, S) = c.requires.shows in
    record { ordered = subst AreInOrder (sym {A = List Plane} c.as_slice.ensures.all) (carriers-ordered s c.args.c.now S) }

pub turned_vertices-requires : goal.turned_vertices-requires
turned_vertices-requires c =
    let (s, S) = c.requires.shows in
    let e = sym {A = List Vertex} c.as_slice-2.ensures.all in
    record { least = subst HaveLeastMaps e (maps-least s c.args.c.now S); sorted = subst AreSorted e (vertices-sorted s c.args.c.now S) }

pub pair-requires : goal.pair-requires
pair-requires c =
    let (s, S) = c.requires.shows in
    record {
      vertices = (
        turned_set c.args.k s,
        ready s c.args.c.now S c.args.k c.of-turn.result.number c.as_slice.result.now c.in_ok-carriers.carriers c.as_slice-2.result.now c.in_ok-vertices.vertices
            c.of-turn.ensures.number c.as_slice.ensures.all c.as_slice-2.ensures.all c.in_ok-carriers.ensures.turned c.in_ok-vertices.ensures.turned,
      );
    }

pub returns : goal.returns
returns c = record {
  shows = λ s S. c.in_ok-complex.ensures.shows (turned_set c.args.k s)
      (ready s c.args.c.now S c.args.k c.of-turn.result.number c.as_slice.result.now c.in_ok-carriers.carriers c.as_slice-2.result.now c.in_ok-vertices.vertices
      c.of-turn.ensures.number c.as_slice.ensures.all c.as_slice-2.ensures.all c.in_ok-carriers.ensures.turned c.in_ok-vertices.ensures.turned);
}

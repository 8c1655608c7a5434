use Rattle.nef_smap.proofs.Prelude.{◌≡◌, List, ◌++◌, length, refl, sym, ap, subst, ◌∙◌, length-map, up, Link, map_of, svertex_of, arc_of, AreLinked, JoinsBelow, JoinsArc, AreJoins}
use Rattle.nef_smap.proofs.LinkLists.{each-joined, all-joins}
use Rattle.nef_smap.proofs.sface.links.Goals as goal

next : (all slice more before : List Link) {next : List Link} → all ≡ before → next ≡ all ++ slice → slice ≡ more → next ≡ before ++ more
next all slice more before e f g = f ∙ ap (λ (ls : List Link). ls ++ slice) e ∙ ap (λ (ls : List Link). before ++ ls) g

pub returns : goal.returns
returns c =
    let m = c.args.map.now in
    let M = map_of m in
    let below = c.in_ok-links.links.items in
    let around = c.in_ok-around_links.field-0.items in
    let arcs = c.in_ok-arcs.arcs.items in
    let sloops = c.in_ok-sloop_links.field-0.items in
    let grounds = c.in_ok-ground_links.field-0.items in
    let to_around = next below c.as_slice.result.now around below refl c.in_ok-extend_from_slice.ensures.items c.as_slice.ensures.value in
    let to_arcs = next c.extend_from_slice.new.self.items c.as_slice-2.result.now arcs (below ++ around) to_around c.in_ok-extend_from_slice-2.ensures.items c.as_slice-2.ensures.value in
    let to_sloops = next c.extend_from_slice-2.new.self.items c.as_slice-3.result.now sloops (below ++ around ++ arcs) to_arcs c.in_ok-extend_from_slice-3.ensures.items c.as_slice-3.ensures.value in
    let all = next c.extend_from_slice-3.new.self.items c.as_slice-4.result.now grounds (below ++ around ++ arcs ++ sloops) to_sloops c.in_ok-extend_from_slice-4.ensures.items c.as_slice-4.ensures.value in
    record {
      joins = subst (λ (ls : List Link). AreJoins M up (AreLinked ls)) (sym {A = List Link} all)
          (all-joins M below around arcs sloops grounds (length m.svertices) (length m.arcs) (sym (length-map m.svertices svertex_of)) (sym (length-map m.arcs arc_of))
          (each-joined _ (λ x. JoinsBelow (map_of x)) m c.len.result (length m.svertices) below (λ at k l j. j) c.len.ensures.len c.in_ok-links.ensures.links) c.in_ok-around_links.ensures.links
          (each-joined _ (λ x. JoinsArc (map_of x)) m c.len-2.result (length m.arcs) arcs (λ at k l j. j) c.len-2.ensures.len c.in_ok-arcs.ensures.links) c.in_ok-sloop_links.ensures.links c.in_ok-ground_links.ensures.links);
    }

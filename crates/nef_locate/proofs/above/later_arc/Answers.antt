use Rattle.nef_locate.proofs.Prelude.{◌≡◌, ◌≢◌, sym, ◌∙◌, rules, subst, triple, up, vector_of, Plus, dir_of, map_of, arc_of, end_of, IsLast, sign_of-positive}
use Rattle.nef_locate.proofs.LastArcs.{last-skip, last-first, last-kept, last-taken}
use Rattle.nef_locate.proofs.Marks.{image-read}
use Rattle.nef_locate.proofs.UpwardSides.{some-svertex, arc-upward, turn-read}
use Rattle.nef_locate.proofs.above.later_arc.Goals as goal
use Rattle.nef_smap.proofs.Lists.{map-within}
use Rattle.nef_geo.proofs.Signs.{plus-above}

pub returns-then-arc_end-svertex : goal.returns-then-arc_end-svertex
returns-then-arc_end-svertex c =
    let m = c.args.map.now in let s = c.args.svertex in let V = c.requires.map.valid in
    let v = some-svertex m s c.requires.within in
    let a = c.at-arc.result.now in
    let off : end_of (arc_of a) c.args.begins ≡ s → ⊥ = λ e. let f = c.arc_end.ensures.end in search (rules, f, e) in
    record { last = last-skip (map_of m) V.shaped s v.0 v.1 up (arc-upward m c.requires.map) c.args.begins c.args.number (arc_of a) (image-read arc_of m.arcs c.args.number a c.at-arc.ensures.element) off c.args.last c.requires.last }

pub at-requires-in-Some : goal.at-requires-in-Some
at-requires-in-Some c =
    let m = c.args.map.now in
    let L = subst (IsLast (map_of m) (dir_of (map_of m).svertices c.args.svertex) c.args.svertex c.args.begins c.args.number) c.in-Some.is c.requires.last in
    record { within = map-within arc_of m.arcs c.in-Some.before L.arc L.listed }

pub returns-in-None : goal.returns-in-None
returns-in-None c =
    let m = c.args.map.now in let s = c.args.svertex in let V = c.requires.map.valid in
    let v = some-svertex m s c.requires.within in
    let a = c.at-arc.result.now in
    let on : end_of (arc_of a) c.args.begins ≡ s = let f = c.arc_end.ensures.end in search (rules, f) in
    record {
      last = last-first (map_of m) V.shaped s v.0 v.1 up (arc-upward m c.requires.map) c.args.begins c.args.number (arc_of a) (image-read arc_of m.arcs c.args.number a c.at-arc.ensures.element) on
          (subst (IsLast (map_of m) (dir_of (map_of m).svertices s) s c.args.begins c.args.number) c.in-None.is c.requires.last);
    }

pub returns-then-eq : goal.returns-then-eq
returns-then-eq c =
    let m = c.args.map.now in let s = c.args.svertex in let V = c.requires.map.valid in
    let v = some-svertex m s c.requires.within in
    let a = c.at-arc.result.now in
    let on : end_of (arc_of a) c.args.begins ≡ s = let f = c.arc_end.ensures.end in search (rules, f) in
    let L = subst (IsLast (map_of m) (dir_of (map_of m).svertices s) s c.args.begins c.args.number) c.in-Some.is c.requires.last in
    let read = turn-read m s c.in-Some.before c.at.result.now c.at-in-Some.result.now L.arc (vector_of a.normal) c.triple-turn.result c.at.ensures.element c.at-in-Some.ensures.element L.listed c.triple-turn.ensures.triple in
    let plus : c.triple-turn.result ≡ Plus = search rules in
    record {
      last = last-taken (map_of m) V.shaped s v.0 v.1 up (arc-upward m c.requires.map) c.args.begins c.args.number (arc_of a) (image-read arc_of m.arcs c.args.number a c.at-arc.ensures.element) on c.in-Some.before L
          (plus-above (triple (dir_of (map_of m).svertices s) L.arc.normal (vector_of a.normal)) (sym plus ∙ read));
    }

pub returns-else-eq : goal.returns-else-eq
returns-else-eq c =
    let m = c.args.map.now in let s = c.args.svertex in let V = c.requires.map.valid in
    let v = some-svertex m s c.requires.within in
    let a = c.at-arc.result.now in
    let on : end_of (arc_of a) c.args.begins ≡ s = let f = c.arc_end.ensures.end in search (rules, f) in
    let L = subst (IsLast (map_of m) (dir_of (map_of m).svertices s) s c.args.begins c.args.number) c.in-Some.is c.requires.last in
    let read = turn-read m s c.in-Some.before c.at.result.now c.at-in-Some.result.now L.arc (vector_of a.normal) c.triple-turn.result c.at.ensures.element c.at-in-Some.ensures.element L.listed c.triple-turn.ensures.triple in
    let other : c.triple-turn.result ≢ Plus = search rules in
    let kept = last-kept (map_of m) V.shaped s v.0 v.1 up (arc-upward m c.requires.map) c.args.begins c.args.number (arc_of a) (image-read arc_of m.arcs c.args.number a c.at-arc.ensures.element) on c.in-Some.before L
    (λ t. other (read ∙ sign_of-positive (triple (dir_of (map_of m).svertices s) L.arc.normal (vector_of a.normal)) t)) in
    record { last = kept }

use Rattle.nef_sover.proofs.Prelude.{vector_of, items, op_label, IsStar, IsCombined, map_of, is-at_within, IsMergedAt}
use Rattle.nef_sover.proofs.CrossedStars.{crossed-at, item-line, line-at, lines-apart, crossed-ok}
use Rattle.nef_sover.proofs.StarsMerged.{merged-at}
use Rattle.nef_sover.proofs.overlaid.merged_star.Goals as goal
use Rattle.nef_space.proofs.Elementary.{if-ok_both}

pub line-x-requires : goal.line-x-requires
line-x-requires c =
    let A = map_of c.args.a.now in let n = c.in-Some.numbers in
    let C = crossed-at A (map_of c.args.b.now) c.args.axis.now.crossed n (vector_of c.args.axis.now.dir) c.in-Some.is c.requires.placed in
    record { within = is-at_within (items A) n.0 C.x C.of_a }

pub line-y-requires : goal.line-y-requires
line-y-requires c =
    let B = map_of c.args.b.now in let n = c.in-Some.numbers in
    let C = crossed-at (map_of c.args.a.now) B c.args.axis.now.crossed n (vector_of c.args.axis.now.dir) c.in-Some.is c.requires.placed in
    record { within = is-at_within (items B) n.1 C.y C.of_b }

pub crossed-requires-clause-first : goal.crossed-requires-clause-first
crossed-requires-clause-first c =
    let m = c.args.a.now in let n = c.in-Some.numbers in let d = c.args.axis.now.dir in let x = c.line-x.result in
    let C = crossed-at (map_of m) (map_of c.args.b.now) c.args.axis.now.crossed n (vector_of d) c.in-Some.is c.requires.placed in
    item-line m c.requires.first n.0 C.x C.of_a d C.on_x x (line-at (map_of m) n.0 C.x x C.of_a c.line-x.ensures.line)

pub crossed-requires-clause-second : goal.crossed-requires-clause-second
crossed-requires-clause-second c =
    let m = c.args.b.now in let n = c.in-Some.numbers in let d = c.args.axis.now.dir in let y = c.line-y.result in
    let C = crossed-at (map_of c.args.a.now) (map_of m) c.args.axis.now.crossed n (vector_of d) c.in-Some.is c.requires.placed in
    item-line m c.requires.second n.1 C.y C.of_b d C.on_y y (line-at (map_of m) n.1 C.y y C.of_b c.line-y.ensures.line)

pub crossed-requires-clause-apart : goal.crossed-requires-clause-apart
crossed-requires-clause-apart c =
    let a = c.args.a.now in let b = c.args.b.now in let n = c.in-Some.numbers in let d = c.args.axis.now.dir in let x = c.line-x.result in let y = c.line-y.result in
    let C = crossed-at (map_of a) (map_of b) c.args.axis.now.crossed n (vector_of d) c.in-Some.is c.requires.placed in
    lines-apart a b c.requires.first c.requires.second c.args.op n.0 n.1 d C x y (line-at (map_of a) n.0 C.x x C.of_a c.line-x.ensures.line) (line-at (map_of b) n.1 C.y y C.of_b c.line-y.ensures.line)

pub returns-in-Some : goal.returns-in-Some
returns-in-Some c =
    let a = c.args.a.now in let b = c.args.b.now in let n = c.in-Some.numbers in let d = c.args.axis.now.dir in let x = c.line-x.result in let y = c.line-y.result in let e = c.crossed.ensures in
    let C = crossed-at (map_of a) (map_of b) c.args.axis.now.crossed n (vector_of d) c.in-Some.is c.requires.placed in
    record {
      merged = crossed-ok a b c.requires.first c.requires.second c.args.op n.0 n.1 d C x y (line-at (map_of a) n.0 C.x x C.of_a c.line-x.ensures.line)
          (line-at (map_of b) n.1 C.y y C.of_b c.line-y.ensures.line) c.crossed.result e.star e.axis e.mark e.labels;
    }

pub returns : goal.returns
returns c =
    let A = map_of c.args.a.now in let B = map_of c.args.b.now in let op = c.args.op in let d = c.args.axis.now.dir in
    let p = c.in_ok-first.first in let q = c.in_ok-second.second in let u = c.in_ok-first.ensures in let v = c.in_ok-second.ensures in
    record {
      merged = if-ok_both IsStar (IsCombined op p q) (IsMergedAt A B (op_label op) d) c.merge.result
          (λ t T m. merged-at A B op d p q t (record { first = u.star; second = v.star; first_axis = u.axis; second_axis = v.axis; shows_first = u.shows; shows_second = v.shows }) T m) c.merge.ensures.star c.merge.ensures.combined;
    }

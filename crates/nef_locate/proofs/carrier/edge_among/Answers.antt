use Rattle.nef_locate.proofs.Prelude.{◌≡◌, ◌-◌, ◌+◌, ◌<◌, IsTrue, length, get_or, arith, rules, hit_point, is-at_get}
use Rattle.nef_plane.proofs.Rising.{edges-within}
use Rattle.nef_locate.proofs.EdgeOrder.{number-edge, none-beyond, none-below, none-more}
use Rattle.nef_locate.proofs.carrier.edge_among.Goals as goal

pub edges_before-count-requires : goal.edges_before-count-requires
edges_before-count-requires c = let P = c.requires.parts in record { shows = c.requires.shows; edges = (P.0, P.1) }

pub last_reaching-place-requires : goal.last_reaching-place-requires
last_reaching-place-requires c =
    let P = c.requires.parts in record { within = edges-within c.args.c.now P.0 c.args.items.now.edges.now P.1; peaks = c.requires.peaks; count = c.edges_before-count.ensures.within }

pub loop-place-init : goal.loop-place-init
loop-place-init c =
    let S = c.requires.shows in let P = c.requires.parts in let C = c.args.c.now in let ns = c.args.items.now.edges.now in let q = hit_point c.args.q.now in (
      c.last_reaching-place.ensures.count,
      c.last_reaching-place.ensures.reaches,
      none-below S.0 C S.1.shows P.0 q c.args.next P.2 ns P.1 c.last_reaching-place.result c.edges_before-count.result c.last_reaching-place.ensures.passed
          (none-beyond S.0 C S.1.shows P.0 q c.args.next P.2 ns P.1 c.edges_before-count.result c.edges_before-count.ensures.beyond),
    )

pub is_along-requires-clause-within : goal.is_along-requires-clause-within
is_along-requires-clause-within c =
    let P = c.requires.parts in let ns = c.args.items.now.edges.now in let i = c.loop-place.place - 1 in
    let t = c.loop-place-test.true in let w = c.loop-place.invariant.0 in let b = c.edges_before-count.ensures.within in
    let inside : i < length ns = omega (arith, t, w, b) in
    edges-within c.args.c.now P.0 ns P.1 i (get_or ns i 0) (is-at_get ns i 0 inside)

pub last_reaching-place-requires-in-loop-place : goal.last_reaching-place-requires-in-loop-place
last_reaching-place-requires-in-loop-place c =
    let P = c.requires.parts in let w = c.loop-place.invariant.0 in let b = c.edges_before-count.ensures.within in
    record { within = edges-within c.args.c.now P.0 c.args.items.now.edges.now P.1; peaks = c.requires.peaks; count = omega (arith, w, b) }

pub returns-then-is_along : goal.returns-then-is_along
returns-then-is_along c =
    let S = c.requires.shows in let P = c.requires.parts in let C = c.args.c.now in let ns = c.args.items.now.edges.now in let n = c.loop-place.place in let i = n - 1 in let k = get_or ns i 0 in
    let t = c.loop-place-test.true in let w = c.loop-place.invariant in let o = w.0 in let b = c.edges_before-count.ensures.within in
    let inside : i < length ns = omega (arith, t, o, b) in
    let l = is-at_get ns i 0 inside in
    let L = P.1.each i k l in
    record {
      edge = number-edge S.0 C S.1.shows P.0 (hit_point c.args.q.now) c.args.next P.2 k L.0 L.1 L (c.edges_before-count.ensures.before i k L.0 (omega (arith, t, o)) l L.1) (w.1 i k L.0 (omega (arith, t)) l L.1) (c.is_along.ensures.line c.if-is_along.true);
    }

pub loop-place-preserved : goal.loop-place-preserved
loop-place-preserved c =
    let S = c.requires.shows in let P = c.requires.parts in let C = c.args.c.now in let ns = c.args.items.now.edges.now in let n = c.loop-place.place in let i = n - 1 in let k = get_or ns i 0 in
    let q = hit_point c.args.q.now in
    let t = c.loop-place-test.true in let w = c.loop-place.invariant in let o = w.0 in let b = c.edges_before-count.ensures.within in
    let inside : i < length ns = omega (arith, t, o, b) in
    let next : n ≡ i + 1 = omega (arith, t) in
    let l = is-at_get ns i 0 inside in
    let L = P.1.each i k l in
    let off : IsTrue c.is_along.result → ⊥ = λ u. absurd (search (rules, u, c.if-is_along.false)) in
    let m = c.last_reaching-place-in-loop-place.result in let f = c.last_reaching-place-in-loop-place.ensures.count in (
      omega (arith, f, o),
      c.last_reaching-place-in-loop-place.ensures.reaches,
      none-below S.0 C S.1.shows P.0 q c.args.next P.2 ns P.1 m i c.last_reaching-place-in-loop-place.ensures.passed (none-more S.0 C S.1.shows P.0 q c.args.next P.2 ns P.1 i n k next l (λ x. off (c.is_along.ensures.on x)) w.2),
    )

pub returns : goal.returns
returns c = record { edge = λ i k a x. let t = c.loop-place-test.false in c.loop-place.invariant.2 i k (omega (arith, t)) a x }

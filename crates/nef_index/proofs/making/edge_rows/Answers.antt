use Rattle.nef_index.proofs.Prelude.{◌≡◌, ℕ, ◌+◌, List, length, get_or, arith, ap, sym, subst, Out, is-at_get, is-at_one, Edge, AreCommon, AreCommonAlong, AreCommonRows, rows_of, AreRowEnds}
use Rattle.nef_index.proofs.Rows.{ends-written, rows-written}
use Rattle.nef_index.proofs.Numbered.{AreValuesTo, values-none, values-more}
use Rattle.nef_index.proofs.making.edge_rows.Goals as goal

abbrev none : Edge
none = record { low = 0; low_svertex = 0; high = 0; high_svertex = 0; mark = Out }

pub loop-edge-init : goal.loop-edge-init
loop-edge-init c =
    let P = AreCommonAlong c.args.at_point.now in let es = c.args.edges.now in
    let e = c.in_ok-ends.ensures.items in let f = c.in_ok-numbers.ensures.items in
    record {
      ended = subst (λ (xs : List ℕ). AreRowEnds 0 xs (length c.in_ok-numbers.numbers.items)) (sym e) (sym (ap (length {A = ℕ}) f));
      rows = subst (λ (xs : List ℕ). AreValuesTo P es 0 (rows_of 0 xs c.in_ok-numbers.numbers.items)) (sym e) (values-none P es);
    }

pub row-requires : goal.row-requires
row-requires c = let es = c.args.edges.now in let n = c.loop-edge.edge-index in record { within = (c.requires.ends n (get_or es n none) (is-at_get es n none c.loop-edge-test.true)).0 }

pub row-requires-in-loop-edge : goal.row-requires-in-loop-edge
row-requires-in-loop-edge c = let es = c.args.edges.now in let n = c.loop-edge.edge-index in record { within = (c.requires.ends n (get_or es n none) (is-at_get es n none c.loop-edge-test.true)).1 }

pub add_common-requires : goal.add_common-requires
add_common-requires c =
    let es = c.args.edges.now in
    let e : Edge = get_or es c.loop-edge.edge-index none in
    record { first = c.requires.rise e.low c.row.result.now c.row.ensures.row; second = c.requires.rise e.high c.row-in-loop-edge.result.now c.row-in-loop-edge.ensures.row }

pub loop-edge-preserved : goal.loop-edge-preserved
loop-edge-preserved c =
    let es = c.args.edges.now in
    let rows : List (List ℕ) = c.args.at_point.now in
    let n = c.loop-edge.edge-index in
    let e : Edge = get_or es n none in
    let I = c.loop-edge.invariant in
    let added = c.in_ok-add_common.ensures.common in
    let P = AreCommonAlong rows in
    let row : P e added.0 = λ ms ns a b.
    subst (λ (x : List ℕ). AreCommon x ns added.0) (is-at_one rows e.low c.row.result.now ms c.row.ensures.row a)
    (subst (λ (x : List ℕ). AreCommon c.row.result.now x added.0) (is-at_one rows e.high c.row-in-loop-edge.result.now ns c.row-in-loop-edge.ensures.row b) added.2) in
    let new : List ℕ = c.add_common.new.numbers.items in
    let all : c.len.result ≡ length new = omega (arith, c.len.ensures, c.add_common.new.numbers.ok.0) in
    let ended = c.in_ok-push.ensures.items in
    record {
      ended = ends-written c.loop-edge.ends.items c.loop-edge.numbers.items added.0 c.push.new.self.items new c.len.result I.ended added.1 ended all;
      rows = subst (AreValuesTo P es (n + 1)) (sym (rows-written c.loop-edge.ends.items c.loop-edge.numbers.items added.0 c.push.new.self.items new c.len.result I.ended added.1 ended all))
          (values-more P es n (rows_of 0 c.loop-edge.ends.items c.loop-edge.numbers.items) e added.0 (is-at_get es n none c.loop-edge-test.true) row I.rows);
    }

pub of-requires : goal.of-requires
of-requires c = record { ends = c.loop-edge.invariant.ended }

pub returns : goal.returns
returns c =
    let es = c.args.edges.now in
    let made : AreCommonRows c.args.at_point.now es (rows_of 0 c.loop-edge.ends.items c.loop-edge.numbers.items) = record {
      as_many = let f = c.loop-edge-test.false in let g = c.loop-edge.auto in let e = c.loop-edge.invariant.rows.as_many in omega arith;
      each = c.loop-edge.invariant.rows.each;
    } in
    record { common = subst (AreCommonRows c.args.at_point.now es) (sym c.of.ensures.rows) made }

use Rattle.nef_index.proofs.Prelude.{sym, subst, ◌∙◌, AreCommonRows, HavePeaks, ArePointSpans, AreRowsOfOnce, HaveEnds}
use Rattle.nef_index.specs.Index.{IsIndex}
use Rattle.nef_index.specs.Skeleton.{IndexedLists}
use Rattle.nef_index.proofs.CommonRows.{holders-rise, ends-rows, edges-held}
use Rattle.nef_index.proofs.Turned.{points-once, edges-once, carrier-points, carrier-edges}
use Rattle.nef_index.proofs.index.Index.of.Goals as goal

pub edge_rows-requires : goal.edge_rows-requires
edge_rows-requires g c =
    let G = c.requires in let hs = g.of.carriers in let ps = g.of.points in
    record { rise = holders-rise hs ps c.args.at_point G.rows; ends = ends-rows hs ps c.args.at_point G.rows c.args.edges.now (subst (HaveEnds ps) G.edges G.ends) }

pub transposed-requires : goal.transposed-requires
transposed-requires g c = let G = c.requires in record { once = subst (λ n. AreRowsOfOnce n c.args.at_point) G.count (points-once g.of.carriers g.of.points c.args.at_point G.rows) }

pub edges_in_carriers-requires : goal.edges_in_carriers-requires
edges_in_carriers-requires g c =
    let G = c.requires in let hs = g.of.carriers in let ps = g.of.points in let es = c.args.edges.now in let rows = c.in_ok-at_edge.at_edge in
    let E = edges-held hs ps c.args.at_point G.rows es rows c.in_ok-at_edge.ensures.common in
    record { as_many = E.as_many; once = subst (λ n. AreRowsOfOnce n rows) G.count (edges-once hs ps es (subst (HaveEnds ps) G.edges G.ends) rows E) }

pub carriers_spanned-requires : goal.carriers_spanned-requires
carriers_spanned-requires g c =
    let G = c.requires in let t = c.in_ok-on_carrier.ensures in
    (carrier-points g.of.carriers g.of.points c.args.at_point G.rows c.in_ok-on_carrier.on_carrier (t.as_many ∙ sym G.count) t.transposed, subst (ArePointSpans g.of.points) (sym c.as_slice.ensures.all) G.spans)

pub invariant_of-result : goal.invariant_of-result
invariant_of-result g c =
    let G = c.requires in let hs = g.of.carriers in let ps = g.of.points in let es = g.of.edges in
    let rows = c.in_ok-at_edge.at_edge in let on = c.in_ok-on_carrier.on_carrier in let within = c.in_ok-in_carrier.in_carrier in let peaks = c.in_ok-in_carrier.peaks in
    let o = c.in_ok-on_carrier.ensures in let t = c.in_ok-in_carrier.ensures in let q = c.in_ok-carriers.ensures in
    let E = edges-held hs ps c.args.at_point G.rows es rows (subst (λ ds. AreCommonRows c.args.at_point ds rows) (sym G.edges) c.in_ok-at_edge.ensures.common) in
    subst
    (λ (s : IndexedLists). IsIndex (record { at_point = c.args.at_point; at_edge = rows; on_carrier = on; in_carrier = within; points = c.args.points; carriers = c.in_ok-carriers.carriers; clusters = c.in_ok-carriers.clusters; peaks = peaks; told = record { skeleton = s } }))
    (sym c.new-told.ensures)
    (record {
      at_point = G.rows;
      at_edge = E;
      on_carrier = carrier-points hs ps c.args.at_point G.rows on (o.as_many ∙ sym G.count) o.transposed;
      in_carrier = carrier-edges hs ps es G.ends rows E within (t.as_many ∙ sym G.count) t.transposed;
      points = G.spans;
      carriers = q.spans;
      clusters = q.clusters;
      peaks = subst (λ ds. HavePeaks ds within peaks) (sym G.edges) t.peaks;
    })

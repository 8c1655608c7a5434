use Rattle.nef_locate.proofs.Prelude.{refl, hit_point}
use Rattle.nef_locate.proofs.Listed.{flat-item}
use Rattle.nef_locate.proofs.facet.in_facet.Goals as goal

pub returns-in_err-plane_items-clause-none : goal.returns-in_err-plane_items-clause-none
returns-in_err-plane_items-clause-none c _ = λ s S F. c.in_err-plane_items.ensures.none refl (flat-item s c.args.c.now S c.args.h.now (hit_point c.args.p.now) c.requires.on F)

pub in_facet_among-requires-clause-items : goal.in_facet_among-requires-clause-items
in_facet_among-requires-clause-items c = record { edges = c.in_ok-plane_items.ensures.edges; vertices = c.in_ok-plane_items.ensures.vertices; peaks = c.in_ok-plane_items.ensures.peaks }

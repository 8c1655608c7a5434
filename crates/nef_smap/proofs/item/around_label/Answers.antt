use Rattle.nef_smap.proofs.Prelude.{rules, ◌∙◌, sym}
use Rattle.std.proofs.lemmas.Iterator.Consumers.{nth_from_yields_List, YieldsList-from_filter_map}
use Rattle.std.proofs.lemmas.Iterator.{YieldsList-from_slice}
use Rattle.std.proofs.lemmas.Iterator.Adapters.{option_map_id}
use Rattle.nef_smap.proofs.item.around_label.Goals as goal

pub returns : goal.returns
returns c = record { label = sym (option_map_id c.nth.result) ∙ nth_from_yields_List c.nth.result _ c.args.side c.nth.ensures.ran (YieldsList-from_filter_map _ _ (YieldsList-from_slice c.args.map.now.svertices cc) c.filter_map.ensures.closure (λ x r q k. search rules)) }

use Rattle.nef_smap.proofs.Prelude.{◌≡◌, List, ap, ◌∙◌, SVertex, SArc, SphereMap}
use Rattle.nef_smap.proofs.simple.copy.Goals as goal

abbrev with_lists : SphereMap → List SVertex → List SArc → SphereMap
with_lists m vs as' = record { mark = m.mark; svertices = vs; arcs = as'; sloop = m.sloop; ground = m.ground }

same-map : (m : SphereMap) (vs : List SVertex) (as' : List SArc) → vs ≡ m.svertices → as' ≡ m.arcs → with_lists m vs as' ≡ m
same-map m vs as' e f = ap (λ (ws : List SVertex). with_lists m ws as') e ∙ ap (with_lists m m.svertices) f

pub returns : goal.returns
returns c = record { same = same-map c.args.map.now c.in_ok-svertices.svertices c.in_ok-arcs.arcs c.in_ok-svertices.ensures.same c.in_ok-arcs.ensures.same }

use Rattle.nef_stopo.proofs.Prelude.{map_labels, RawStars, map_of, topology_of}
use Rattle.nef_stopo.proofs.Labels.{label-near}
use Rattle.nef_stopo.proofs.Relabelled.{raw-stars, topology-raw, is-labelled, made-if_ok}
use Rattle.nef_stopo.proofs.operations.made.Goals as goal

pub build-requires-clause-raw : goal.build-requires-clause-raw
build-requires-clause-raw c =
    let k = topology_of c.args.topology in let m = c.args.map.now in
    let raw : RawStars = record { mark = c.label.result; stars = c.in_ok-remarked_stars.field-0; sloop = c.sloop.result; ground = c.ground.result } in
    raw-stars k m c.requires.map raw (label-near k m.mark c.label.result c.near_map.result (map_labels (map_of m)) c.label.ensures.label c.near_map.ensures)
    c.in_ok-remarked_stars.ensures.stars c.sloop.ensures.sloop c.ground.ensures.ground

pub build-requires-clause-labels : goal.build-requires-clause-labels
build-requires-clause-labels c =
    let k = topology_of c.args.topology in let m = c.args.map.now in
    let raw : RawStars = record { mark = c.label.result; stars = c.in_ok-remarked_stars.field-0; sloop = c.sloop.result; ground = c.ground.result } in
    is-labelled k m raw c.requires.map (topology-raw k m c.requires.map raw (label-near k m.mark c.label.result c.near_map.result (map_labels (map_of m)) c.label.ensures.label c.near_map.ensures)
    c.in_ok-remarked_stars.ensures.stars c.sloop.ensures.sloop c.ground.ensures.ground)

pub returns : goal.returns
returns c =
    let k = topology_of c.args.topology in let m = c.args.map.now in let built = c.build.ensures in
    let raw : RawStars = record { mark = c.label.result; stars = c.in_ok-remarked_stars.field-0; sloop = c.sloop.result; ground = c.ground.result } in
    let T = topology-raw k m c.requires.map raw (label-near k m.mark c.label.result c.near_map.result (map_labels (map_of m)) c.label.ensures.label c.near_map.ensures)
    c.in_ok-remarked_stars.ensures.stars c.sloop.ensures.sloop c.ground.ensures.ground in
    record { made = made-if_ok k m raw c.build.result c.requires.map T built.least built.mark built.labels }

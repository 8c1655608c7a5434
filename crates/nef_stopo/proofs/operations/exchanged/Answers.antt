use Rattle.nef_stopo.proofs.Prelude.{◌∙◌, option_map, sloop_of}
use Rattle.nef_stopo.proofs.Others.{other-sloop, other-least, other-cone}
use Rattle.nef_stopo.proofs.operations.exchanged.Goals as goal

pub returns-clause-least : goal.returns-clause-least
returns-clause-least c = other-least c.args.map _ c.requires.least (record {
  mark = c.face_label.ensures.label;
  svertices = c.exchanged_svertices.ensures.other;
  arcs = c.exchanged_arcs.ensures.other;
  sloop = c.sloop.ensures.sloop ∙ other-sloop (option_map sloop_of c.args.map.sloop);
  ground = c.ground.ensures.ground;
})

pub returns-clause-cone : goal.returns-clause-cone
returns-clause-cone c = other-cone c.args.map _ c.requires.least (record {
  mark = c.face_label.ensures.label;
  svertices = c.exchanged_svertices.ensures.other;
  arcs = c.exchanged_arcs.ensures.other;
  sloop = c.sloop.ensures.sloop ∙ other-sloop (option_map sloop_of c.args.map.sloop);
  ground = c.ground.ensures.ground;
})

use Rattle.nef_stopo.proofs.Prelude.{Option, Some, [], ◌∷◌, sym, ap, ◌∙◌, option_map, Vector, Label, MapSloop, face_label, label_from, sloop_by, vector_of, SLoop, sloop_of, topology_of}
use Rattle.nef_stopo.proofs.Labels.{label-near}
use Rattle.nef_stopo.proofs.topology.Topology.sloop.Goals as goal

abbrev some_sloop : Vector → Label → Label → Label → Option MapSloop
some_sloop n pos mark neg = Some (record { normal = n; pos = pos; mark = mark; neg = neg })

pub returns : goal.returns
returns c =
    let k = topology_of c.args.self in let l = c.in_ok-circle.circle in let n = vector_of l.normal in let sides = l.pos ∷ l.neg ∷ [] in
    let mark = label-near k l.mark c.label.result c.and-near.result sides c.label.ensures.label (c.and-near.ensures (l.pos ∷ []) (l.neg ∷ []) c.of.ensures c.of-2.ensures) in
    record {
      sloop =
          ap (λ (x : Label). some_sloop n x c.label.result c.face_label-2.result) c.face_label.ensures.label
          ∙ ap (λ (x : Label). some_sloop n (face_label k l.pos) x c.face_label-2.result) mark
          ∙ ap (λ (x : Label). some_sloop n (face_label k l.pos) (label_from k l.mark sides) x) c.face_label-2.ensures.label
          ∙ sym (ap (λ (o : Option SLoop). option_map (sloop_by k) (option_map sloop_of o)) c.in_ok-circle.was);
    }

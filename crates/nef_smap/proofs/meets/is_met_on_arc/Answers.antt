use Rattle.nef_smap.proofs.Prelude.{◌*◌, ◌^◌, lit≤, arith, ap, sym, ◌∙◌, subst, ◌↔◌, normal_limit, svertex_limit, direction_limit, Vector, dot, IsAtMost, IsStrictlyOn, read_sign, five_signs, between_read, test_of, true_of, vector_of, sign_of, IsAtMost-weaken, cross_is, dir_within, dir_of, slid-level, map_of, way_meet, start_at, end_at, triple-dot}
use Rattle.std.specs.Bool.{IsTrue}
use Rattle.law_geometry.proofs.sphere.cyclic.Directions.{classes_are_arcs}
use Rattle.nef_smap.proofs.ArcEnds.{source-within, target-within, source-end, target-end, normal-direction, normal-small}
use Rattle.nef_smap.proofs.MeetSigns.{own-sign, turn-target}
use Rattle.nef_smap.proofs.meets.is_met_on_arc.Goals as goal

pub at-requires : goal.at-requires
at-requires c = record { within = source-within c.args.map.now c.requires.map c.requires.arc.0 c.args.arc.now c.requires.arc.1 }

pub at-requires-2 : goal.at-requires-2
at-requires-2 c = record { within = target-within c.args.map.now c.requires.map c.requires.arc.0 c.args.arc.now c.requires.arc.1 }

pub cross_wide-requires : goal.cross_wide-requires
cross_wide-requires c = record {
  left = subst (IsAtMost direction_limit) (sym c.wide-normal.ensures.wide) (dir_within c.args.arc.now.normal);
  right = subst (IsAtMost direction_limit) (sym c.wide-from.ensures.wide) (dir_within c.at.result.now.dir);
}

pub cross_wide-requires-2 : goal.cross_wide-requires-2
cross_wide-requires-2 c = record {
  left = subst (IsAtMost direction_limit) (sym c.wide-normal.ensures.wide) (dir_within c.args.arc.now.normal);
  right = subst (IsAtMost direction_limit) (sym c.wide-to.ensures.wide) (dir_within c.at-2.result.now.dir);
}

pub sign_where_met-past_source-requires-clause-g_small : goal.sign_where_met-past_source-requires-clause-g_small
sign_where_met-past_source-requires-clause-g_small c =
    let m = c.args.map.now in let a = c.args.arc.now in
    let e = source-end m c.requires.map c.requires.arc.0 a c.requires.arc.1 c.at.result.now c.at.ensures.element in
    IsAtMost-weaken (2 * (normal_limit * svertex_limit)) (2 ^ 35) _ (lit≤ tt)
    (c.cross_wide.ensures.small normal_limit svertex_limit (subst (IsAtMost normal_limit) (sym c.wide-normal.ensures.wide) (normal-small m c.requires.map c.requires.arc.0 a c.requires.arc.1)) (subst (IsAtMost svertex_limit) (sym c.wide-from.ensures.wide) e.small))

pub sign_where_met-past_target-requires-clause-g_small : goal.sign_where_met-past_target-requires-clause-g_small
sign_where_met-past_target-requires-clause-g_small c =
    let m = c.args.map.now in let a = c.args.arc.now in
    let e = target-end m c.requires.map c.requires.arc.0 a c.requires.arc.1 c.at-2.result.now c.at-2.ensures.element in
    IsAtMost-weaken (2 * (normal_limit * svertex_limit)) (2 ^ 35) _ (lit≤ tt)
    (c.cross_wide-2.ensures.small normal_limit svertex_limit (subst (IsAtMost normal_limit) (sym c.wide-normal.ensures.wide) (normal-small m c.requires.map c.requires.arc.0 a c.requires.arc.1)) (subst (IsAtMost svertex_limit) (sym c.wide-to.ensures.wide) e.small))

pub sign_where_met-requires-clause-g_small : goal.sign_where_met-requires-clause-g_small
sign_where_met-requires-clause-g_small c =
    let e = source-end c.args.map.now c.requires.map c.requires.arc.0 c.args.arc.now c.requires.arc.1 c.at.result.now c.at.ensures.element in
    subst (IsAtMost (2 ^ 35)) (sym c.wide-from.ensures.wide) (IsAtMost-weaken svertex_limit (2 ^ 35) _ (omega arith) e.small)

pub between-requires : goal.between-requires
between-requires c = record {
  signs = five_signs _ _ _ _ _ _ _ _ _ _
      (read_sign c.number.result c.triple.result _ c.number.type_inv c.number.ensures.number c.triple.ensures.triple)
      (read_sign c.number-2.result c.dot.result _ c.number-2.type_inv c.number-2.ensures.number c.dot.ensures.dot)
      (read_sign c.number-3.result c.sign_where_met-past_source.result _ c.number-3.type_inv c.number-3.ensures.number (own-sign c.sign_where_met-past_source.result))
      (read_sign c.number-4.result c.sign_where_met.result _ c.number-4.type_inv c.number-4.ensures.number (own-sign c.sign_where_met.result))
      (read_sign c.number-5.result c.opposite.result _ c.number-5.type_inv c.number-5.ensures.number (own-sign c.opposite.result));
}

pub returns : goal.returns
returns c = record {
  on = λ j k large some.
      let m = c.args.map.now in
      let a = c.args.arc.now in
      let s = source-end m c.requires.map c.requires.arc.0 a c.requires.arc.1 c.at.result.now c.at.ensures.element in
      let t = target-end m c.requires.map c.requires.arc.0 a c.requires.arc.1 c.at-2.result.now c.at-2.ensures.element in
      let n = vector_of a.normal in
      let from = vector_of c.at.result.now.dir in
      let to = vector_of c.at-2.result.now.dir in
      let p = way_meet n (start_at c.args.way.now j) (end_at c.args.way.now k) in
      let hn = normal-direction m c.requires.map c.requires.arc.0 a c.requires.arc.1 in
      let law = classes_are_arcs n from to p hn s.on t.on (record { direction = some; level = slid-level n (start_at c.args.way.now j) (end_at c.args.way.now k) }) in
      let x = c.sign_where_met-past_source.ensures.sign n j k c.requires.values large
      ∙ ap sign_of (ap (λ (v : Vector). dot v p) (cross_is n from _ _ _ c.wide-normal.ensures.wide c.wide-from.ensures.wide c.cross_wide.ensures.cross) ∙ sym (triple-dot n from p)) in
      let y = c.sign_where_met.ensures.sign n j k c.requires.values large ∙ ap sign_of (ap (λ (v : Vector). dot v p) c.wide-from.ensures.wide) in
      let z = c.opposite.ensures.opposite _ (c.sign_where_met-past_target.ensures.sign n j k c.requires.values large
      ∙ ap sign_of (ap (λ (v : Vector). dot v p) (cross_is n to _ _ _ c.wide-normal.ensures.wide c.wide-to.ensures.wide c.cross_wide-2.ensures.cross))) ∙ ap sign_of (turn-target n to p) in
      let answer = between_read c.between.result _ _ _ _ _ _ _ _ _ _
      (read_sign c.number.result c.triple.result _ c.number.type_inv c.number.ensures.number c.triple.ensures.triple)
      (read_sign c.number-2.result c.dot.result _ c.number-2.type_inv c.number-2.ensures.number c.dot.ensures.dot)
      (read_sign c.number-3.result c.sign_where_met-past_source.result _ c.number-3.type_inv c.number-3.ensures.number x)
      (read_sign c.number-4.result c.sign_where_met.result _ c.number-4.type_inv c.number-4.ensures.number y)
      (read_sign c.number-5.result c.opposite.result _ c.number-5.type_inv c.number-5.ensures.number z)
      c.between.ensures.value in
      subst (λ (u : Vector). IsTrue c.between.result ↔ IsStrictlyOn n u (dir_of (map_of m).svertices a.target) p) (sym s.dir)
      (subst (λ (u : Vector). IsTrue c.between.result ↔ IsStrictlyOn n from u p) (sym t.dir)
      (rw answer (λ h. law.0 (test_of h), λ h. true_of _ (law.1 h))));
}

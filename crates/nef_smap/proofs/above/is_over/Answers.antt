use Rattle.nef_smap.proofs.Prelude.{◌≡◌, ◌≢◌, ◌<ℤ◌, pos, refl, sym, ap, ◌∙◌, subst, IsTrue, ◌↔◌, rules, true, Vector, dot, up, Minus, IsAt, Item, items, item_normal, map_of, arc_of, sloop_of, item_of, IsOver, geo_sign, close_sign, not_true}
use Rattle.nef_space.specs.Signs.{minus}
use Rattle.nef_smap.proofs.CloseSigns.{geo-one}
use Rattle.nef_smap.proofs.Upward.{map-ahead, below-is, sloop-over, arc-over, ends-within}
use Rattle.nef_smap.proofs.above.is_over.Goals as goal

pub side-requires : goal.side-requires
side-requires c = let l = c.requires.listed in record { ahead = subst (λ (n : Vector). pos 0 <ℤ dot n up) (sym c.normal.ensures.normal) (map-ahead c.args.map.now c.requires.map l.0 (item_of c.args.item.now) l.1) }

pub returns-then-ne : goal.returns-then-ne
returns-then-ne c =
    let l = c.requires.listed in
    let n = c.normal.ensures.normal in
    let off : c.side.result ≢ Minus = search rules in
    record {
      over = λ d close. (
        λ h. absurd (not_true h),
        λ o. let b = below-is c.args.map.now c.requires.map c.args.way.now c.requires.off d close l.0 (item_of c.args.item.now) l.1 in
            absurd (off (c.side.ensures.side ∙ ap geo_sign (ap (λ (r : Vector). close_sign r c.args.way.now) n ∙ b.1 o.below))),
      );
    }

pub passes-requires-clause-source : goal.passes-requires-clause-source
passes-requires-clause-source c =
    let l = c.requires.listed in
    let e = ends-within c.args.map.now c.requires.map l.0 c.in-Arc.arc (subst (IsAt (items (map_of c.args.map.now)) l.0) (ap item_of c.in-Arc.is) l.1) in e.0

pub passes-requires-clause-target : goal.passes-requires-clause-target
passes-requires-clause-target c =
    let l = c.requires.listed in
    let e = ends-within c.args.map.now c.requires.map l.0 c.in-Arc.arc (subst (IsAt (items (map_of c.args.map.now)) l.0) (ap item_of c.in-Arc.is) l.1) in e.1

pub returns-in-Arc : goal.returns-in-Arc
returns-in-Arc c =
    let l = c.requires.listed in
    let x = ap item_of c.in-Arc.is in
    let a = subst (IsAt (items (map_of c.args.map.now)) l.0) x l.1 in
    let below : c.side.result ≡ Minus = search rules in
    let n = geo-one (close_sign (item_normal (item_of c.args.item.now)) c.args.way.now) minus (ap geo_sign (ap (λ (r : Vector). close_sign r c.args.way.now) (sym c.normal.ensures.normal)) ∙ sym c.side.ensures.side ∙ below) in
    let n' = ap (λ (y : Item). close_sign (item_normal y) c.args.way.now) (sym x) ∙ n in
    record {
      over = λ d close.
          let o = arc-over c.args.map.now c.requires.map c.args.way.now c.requires.off d close l.0 (arc_of c.in-Arc.arc) a in
          subst (λ (y : Item). IsTrue c.passes.result ↔ IsOver (map_of c.args.map.now) up y d) (sym x)
          (λ h. o.0 (n', c.passes.ensures.passes.0 h), λ h. let q = o.1 h in c.passes.ensures.passes.1 q.1);
    }

pub returns-in-Loop : goal.returns-in-Loop
returns-in-Loop c =
    let l = c.requires.listed in
    let x = ap item_of c.in-Loop.is in
    let a = subst (IsAt (items (map_of c.args.map.now)) l.0) x l.1 in
    let below : c.side.result ≡ Minus = search rules in
    let n = geo-one (close_sign (item_normal (item_of c.args.item.now)) c.args.way.now) minus (ap geo_sign (ap (λ (r : Vector). close_sign r c.args.way.now) (sym c.normal.ensures.normal)) ∙ sym c.side.ensures.side ∙ below) in
    let n' = ap (λ (y : Item). close_sign (item_normal y) c.args.way.now) (sym x) ∙ n in
    record {
      over = λ d close.
          let o = sloop-over c.args.map.now c.requires.map c.args.way.now c.requires.off d close l.0 (sloop_of c.in-Loop.field-0) a in
          subst (λ (y : Item). IsTrue true ↔ IsOver (map_of c.args.map.now) up y d) (sym x) (λ h. o.0 n', λ h. refl);
    }

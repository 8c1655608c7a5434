use Rattle.nef_smap.proofs.Prelude.{◌≡◌, ◌≢◌, ℕ, pos, ◌≤ℤ◌, arith, sym, ap, ◌∙◌, subst, IsTrue, rules, Option, ints, minus, sign-minus, minus-is, by_order, Vector, dot, up, vector_of, Minus, item_normal, map_of, item_of, rise, rise_form, IsFirstOf, geo_sign, close_sign, IsAtMost, normal_limit}
use Rattle.nef_smap.proofs.CloseSigns.{geo-one}
use Rattle.nef_smap.proofs.FirstOf.{pass-first, only-first, lower-first, higher-first}
use Rattle.nef_smap.proofs.Upward.{map-ahead, rise-sign}
use Rattle.nef_smap.proofs.above.first_met.Goals as goal

pub meeting-requires-clause-first_small : goal.meeting-requires-clause-first_small
meeting-requires-clause-first_small c =
    subst (IsAtMost normal_limit) (sym c.normal.ensures.normal) (c.requires.map.small.normals c.args.number (item_of c.item_at-item.result) c.item_at-item.ensures.item)

pub meeting-requires-clause-second_small : goal.meeting-requires-clause-second_small
meeting-requires-clause-second_small c =
    subst (IsAtMost normal_limit) (sym c.normal-in-Some.ensures.normal) (c.requires.map.small.normals c.in-Some.best (item_of c.item_at.result) c.item_at.ensures.item)

pub returns-then-not-is_over-clause-first : goal.returns-then-not-is_over-clause-first
returns-then-not-is_over-clause-first c =
    let m = c.args.map.now in
    let off : IsTrue c.is_over.result → ⊥ = search rules in
    λ d close f. let q = c.is_over.ensures.over d close in
    pass-first (map_of m) up (map-ahead m c.requires.map) d c.args.number (item_of c.item_at-item.result) c.item_at-item.ensures.item (λ o. off (q.1 o)) c.args.earlier f

pub returns-in-None-clause-first : goal.returns-in-None-clause-first
returns-in-None-clause-first c =
    let m = c.args.map.now in
    let on : IsTrue c.is_over.result = search rules in
    λ d close f. let q = c.is_over.ensures.over d close in
    only-first (map_of m) up (map-ahead m c.requires.map) d c.args.number (item_of c.item_at-item.result) c.item_at-item.ensures.item (q.0 on)
    (subst (λ (r : Option ℕ). IsFirstOf (map_of m) up d c.args.number r) c.in-None.is f)

pub returns-then-lower-clause-first : goal.returns-then-lower-clause-first
returns-then-lower-clause-first c =
    let m = c.args.map.now in
    let x = item_of c.item_at-item.result in
    let y = item_of c.item_at.result in
    let w = c.args.way.now in
    let on : IsTrue c.is_over.result = search rules in
    let minus_sign : c.meeting.result ≡ Minus = search rules in
    let read : c.meeting.result ≡ geo_sign (close_sign (rise_form up (item_normal x) (item_normal y)) w) =
    c.meeting.ensures.meeting ∙ ap (λ (n : Vector). geo_sign (close_sign (rise_form up n (vector_of c.normal-in-Some.result.now)) w)) c.normal.ensures.normal ∙ ap (λ (n : Vector). geo_sign (close_sign (rise_form up (item_normal x) n) w)) c.normal-in-Some.ensures.normal in
    let low = geo-one (close_sign (rise_form up (item_normal x) (item_normal y)) w) minus (sym read ∙ minus_sign) in
    λ d close f.
    let q = c.is_over.ensures.over d close in
    let s = rise-sign m c.requires.map w c.requires.off d close c.args.number c.in-Some.best x y c.item_at-item.ensures.item c.item_at.ensures.item in
    lower-first (map_of m) up (map-ahead m c.requires.map) d c.args.number x c.item_at-item.ensures.item c.in-Some.best y c.item_at.ensures.item (minus-is (dot (item_normal y) (rise up (item_normal x) d)) (s ∙ low)) (q.0 on)
    (subst (λ (r : Option ℕ). IsFirstOf (map_of m) up d c.args.number r) c.in-Some.is f)

pub returns-else-lower-clause-first : goal.returns-else-lower-clause-first
returns-else-lower-clause-first c =
    let m = c.args.map.now in
    let x = item_of c.item_at-item.result in
    let y = item_of c.item_at.result in
    let w = c.args.way.now in
    let other : c.meeting.result ≢ Minus = search rules in
    let read : c.meeting.result ≡ geo_sign (close_sign (rise_form up (item_normal x) (item_normal y)) w) =
    c.meeting.ensures.meeting ∙ ap (λ (n : Vector). geo_sign (close_sign (rise_form up n (vector_of c.normal-in-Some.result.now)) w)) c.normal.ensures.normal ∙ ap (λ (n : Vector). geo_sign (close_sign (rise_form up (item_normal x) n) w)) c.normal-in-Some.ensures.normal in
    λ d close f.
    let s = rise-sign m c.requires.map w c.requires.off d close c.args.number c.in-Some.best x y c.item_at-item.ensures.item c.item_at.ensures.item in
    let high : pos 0 ≤ℤ dot (item_normal y) (rise up (item_normal x) d) =
    by_order (dot (item_normal y) (rise up (item_normal x) d)) (pos 0)
    (λ l. absurd (other (read ∙ ap geo_sign (sym s ∙ sign-minus (dot (item_normal y) (rise up (item_normal x) d)) l)))) (λ z. omega (arith, ints)) (λ l. omega (arith, ints)) in
    higher-first (map_of m) up (map-ahead m c.requires.map) d c.args.number x c.item_at-item.ensures.item c.in-Some.best y c.item_at.ensures.item high
    (subst (λ (r : Option ℕ). IsFirstOf (map_of m) up d c.args.number r) c.in-Some.is f)

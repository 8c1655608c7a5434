use Rattle.nef_complex.proofs.Prelude.{◌≡◌, ◌↔◌, ◌∙◌, ◌+◌, Bool, IsTrue, List, [], length, arith, refl, sym, subst, slice_get_read, IsAt, form_of, Plane, Point, Vertex, HasItemIn, points_of, AreNumbersWith, IsPointOn, LiesOn}
use Rattle.nef_index.proofs.Numbered.{numbers-same, AreValuesTo, values-none, values-more}
use Rattle.nef_complex.proofs.Pointed.{on-point}
use Rattle.nef_complex.proofs.indexing.item_flags.Goals as goal

abbrev IsFlag : List Vertex → Plane → Bool → Type 0
IsFlag vs h b = IsTrue b ↔ HasItemIn vs (form_of h)

pub loop-number-init : goal.loop-number-init
loop-number-init c =
    let hs = c.args.carriers.now in let vs = c.args.vertices.now in
    let e : c.from_vec-flags.result ≡ [] = c.from_vec-flags.ensures.all ∙ c.in_ok-with_capacity.ensures.items in
    subst (AreValuesTo (IsFlag vs) hs 0) (sym e) (values-none (IsFlag vs) hs)

pub has_item-requires : goal.has_item-requires
has_item-requires c =
    let hs = c.args.carriers.now in let vs = c.args.vertices.now in
    let n = c.loop-number.number in
    let h = c.index-carriers-number.result in
    let ns = c.carrier_points.result.now in
    let here = slice_get_read hs (length hs) n h refl c.loop-number-test.true c.index-carriers-number.is in
    let N = c.carrier_points.ensures.points h (subst (λ (gs : List Plane). IsAt gs n h) (sym c.requires.carriers) here) in
    record { on = numbers-same (IsPointOn (points_of vs) (form_of h)) (LiesOn vs (form_of h)) ns (on-point vs (form_of h)) (subst (λ (ps : List Point). AreNumbersWith (IsPointOn ps (form_of h)) ns) c.requires.points N) }

pub loop-number-preserved : goal.loop-number-preserved
loop-number-preserved c =
    let hs = c.args.carriers.now in let vs = c.args.vertices.now in
    let n = c.loop-number.number in
    let h = c.index-carriers-number.result in
    let here = slice_get_read hs (length hs) n h refl c.loop-number-test.true c.index-carriers-number.is in
    subst (AreValuesTo (IsFlag vs) hs (n + 1)) (sym c.in_ok-push.ensures.ok) (values-more (IsFlag vs) hs n c.loop-number.flags h c.has_item.result here c.has_item.ensures.item c.loop-number.invariant)

pub returns : goal.returns
returns c = record {
  flags = record {
    as_many = let f = c.loop-number-test.false in let g = c.loop-number.auto in let e = c.loop-number.invariant.as_many in omega arith;
    each = c.loop-number.invariant.each;
  };
}

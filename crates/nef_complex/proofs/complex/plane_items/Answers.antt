use Rattle.nef_complex.proofs.Prelude.{List, arith, sym, ◌∙◌, subst, slice_get_within, not_true, IsAt, Plane, AreInOrder}
use Rattle.nef_complex.proofs.PlaneSearch.{planes-rise, plane-there, no-plane}
use Rattle.nef_complex.proofs.complex.plane_items.Goals as goal

pub at-requires : goal.at-requires
at-requires c =
    let h = c.args.h.now in let n = c.in-Ok.number in
    let a = subst (λ (gs : List Plane). IsAt gs n h) c.as_slice.ensures.all (plane-there c.as_slice.result.now h n c.in-Ok.ensures.bound (c.in-Ok.ensures.ok h)) in
    let l = slice_get_within c.args.c.now.carriers n h a in
    let e = c.requires.shows.1.flagged.flags.as_many in
    record { within = omega (arith, l, e) }

pub carrier_items-requires : goal.carrier_items-requires
carrier_items-requires c =
    let h = c.args.h.now in let n = c.in-Ok.number in
    let a = subst (λ (gs : List Plane). IsAt gs n h) c.as_slice.ensures.all (plane-there c.as_slice.result.now h n c.in-Ok.ensures.bound (c.in-Ok.ensures.ok h)) in
    record { indexed = c.requires.shows.1.indexed; within = slice_get_within c.args.c.now.carriers n h a }

pub returns-then-at-clause-item : goal.returns-then-at-clause-item
returns-then-at-clause-item c =
    let h = c.args.h.now in let n = c.in-Ok.number in
    let a = subst (λ (gs : List Plane). IsAt gs n h) c.as_slice.ensures.all (plane-there c.as_slice.result.now h n c.in-Ok.ensures.bound (c.in-Ok.ensures.ok h)) in
    (c.requires.shows.1.flagged.flags.each n h c.at.result.now a c.at.ensures.element).0 c.if-at.true

pub returns-then-at-clause-edges : goal.returns-then-at-clause-edges
returns-then-at-clause-edges c =
    let h = c.args.h.now in let n = c.in-Ok.number in
    c.carrier_items.ensures.edges h (subst (λ (gs : List Plane). IsAt gs n h) c.as_slice.ensures.all (plane-there c.as_slice.result.now h n c.in-Ok.ensures.bound (c.in-Ok.ensures.ok h)))

pub returns-then-at-clause-vertices : goal.returns-then-at-clause-vertices
returns-then-at-clause-vertices c =
    let h = c.args.h.now in let n = c.in-Ok.number in
    c.carrier_items.ensures.vertices h (subst (λ (gs : List Plane). IsAt gs n h) c.as_slice.ensures.all (plane-there c.as_slice.result.now h n c.in-Ok.ensures.bound (c.in-Ok.ensures.ok h)))

pub returns-else-at-clause-none : goal.returns-else-at-clause-none
returns-else-at-clause-none c _ o =
    let h = c.args.h.now in let n = c.in-Ok.number in
    let a = subst (λ (gs : List Plane). IsAt gs n h) c.as_slice.ensures.all (plane-there c.as_slice.result.now h n c.in-Ok.ensures.bound (c.in-Ok.ensures.ok h)) in
    not_true (sym c.if-at.false ∙ (c.requires.shows.1.flagged.flags.each n h c.at.result.now a c.at.ensures.element).1 o)

pub returns-in-Err-clause-none : goal.returns-in-Err-clause-none
returns-in-Err-clause-none c _ o =
    let x = c.requires.shows.1.flagged in
    let h = c.args.h.now in let hs = c.as_slice.result.now in
    let i = x.planes h o in
    no-plane hs h c.in-Err._place (c.in-Err.ensures.position (planes-rise hs h (subst AreInOrder (sym c.as_slice.ensures.all) x.ordered))) (i.0) (subst (λ (gs : List Plane). IsAt gs (i.0) h) (sym c.as_slice.ensures.all) i.1)

use Rattle.nef_facets.proofs.Prelude.{◌≡◌, ◌↔◌, ◌+◌, ℕ, pos, get_or, arith, sym, ◌∙◌, subst, not_true, form_at, normal_of, Vector, SameDirection, form_of, point_of, vector_of, Plane, IsAt, item_normal, is-at_one, item_of, none-more, at-read, is-at_within, corner_of, SameDirection-turned, SameDirection-trans}
use Rattle.nef_complex.specs.declared.complex.Vertex.{Vertex}
use Rattle.nef_facets.proofs.ItemCarriers.{CarriesWith, holder-left}
use Rattle.nef_facets.proofs.ItemCarriers.{vertex-within, item-within, of-item}
use Rattle.nef_facets.proofs.ties.carrier_of.Goals as goal
use Rattle.nef_space.proofs.Lists.{is-at_get}

-- a test of one of two like directions is one of the other
of-like : {T : Type 0} (n d e : Vector) → SameDirection n d → (T ↔ SameDirection d e) → (T ↔ SameDirection n e)
of-like n d e w f = (λ t. SameDirection-trans n d e w (f.0 t), λ p. f.1 (SameDirection-trans d n e (SameDirection-turned n d w) p))

pub at-vertex-requires : goal.at-vertex-requires
at-vertex-requires c = record { within = vertex-within c.args.c.now (corner_of c.args.k.now) c.requires.corner }

pub item_at-item-requires : goal.item_at-item-requires
item_at-item-requires c = record { within = item-within c.args.c.now (corner_of c.args.k.now) c.requires.corner c.at-vertex.result.now c.at-vertex.ensures.element }

pub vertex_holders-holders-requires-clause-within : goal.vertex_holders-holders-requires-clause-within
vertex_holders-holders-requires-clause-within c = vertex-within c.args.c.now (corner_of c.args.k.now) c.requires.corner

pub loop-normal-init : goal.loop-normal-init
loop-normal-init c = (
  holder-left c.requires.shows.0 c.args.c.now (corner_of c.args.k.now) c.at-vertex.result.now (item_of c.item_at-item.result) (vector_of c.normal-normal.result.now) c.vertex_holders-holders.result.now 0 c.requires.shows.1.shows c.requires.corner
      c.at-vertex.ensures.element c.item_at-item.ensures.item (sym c.normal-normal.ensures.normal) (c.vertex_holders-holders.ensures.holders c.at-vertex.result.now c.at-vertex.ensures.element) (λ j k l. absurd (omega (arith, l))),
  λ j k l. absurd (omega (arith, l)),
)

pub bounds-holders-place : goal.bounds-holders-place
bounds-holders-place c = c.loop-normal.invariant.0

pub loop-normal-smaller : goal.loop-normal-smaller
loop-normal-smaller c = let l = c.loop-normal.invariant.0 in omega (arith, l)

pub at-requires : goal.at-requires
at-requires c =
    let hs = c.args.c.now.carriers in
    let ns = c.vertex_holders-holders.result.now in
    let i = c.loop-normal.place in
    let g = get_or ns i 0 in
    let l = c.loop-normal.invariant.0 in
    let r = (c.vertex_holders-holders.ensures.holders c.at-vertex.result.now c.at-vertex.ensures.element).each i g (is-at_get ns i 0 l) in
    record { within = is-at_within hs g r.0 r.1 }

pub returns-then-is_same : goal.returns-then-is_same
returns-then-is_same c =
    let u = c.at-vertex.result.now in
    let a = c.at-vertex.ensures.element in
    let hs = c.args.c.now.carriers in
    let ns = c.vertex_holders-holders.result.now in
    let i = c.loop-normal.place in
    let l = c.loop-normal.invariant.0 in
    let g = get_or ns i 0 in
    let r = (c.vertex_holders-holders.ensures.holders u c.at-vertex.ensures.element).each i g (is-at_get ns i 0 l) in
    let e = is-at_one hs g r.0 c.at.result.now r.1 c.at.ensures.element in
    let h = form_of c.at.result.now in
    let on = subst (λ (f : Plane). form_at (form_of f) (point_of u.point) ≡ pos 0) e r.2.0 in
    record {
      plane = (
        c.at.result.now,
        c.at.ensures.element,
        of-item c.args.c.now (corner_of c.args.k.now) c.requires.corner u a (λ v x. (form_at h v.point ≡ pos 0) × SameDirection (normal_of h) (item_normal x)) (item_of c.item_at-item.result) c.item_at-item.ensures.item
            (on, subst (λ (n : Vector). SameDirection (normal_of h) n) c.normal-normal.ensures.normal ((of-like (normal_of h) (vector_of c.plane_normal.result) (vector_of c.normal-normal.result.now) c.plane_normal.ensures.normal c.is_same.ensures.direction).0 c.if-is_same.true)),
      );
    }

pub loop-normal-preserved : goal.loop-normal-preserved
loop-normal-preserved c =
    let hs = c.args.c.now.carriers in
    let ns = c.vertex_holders-holders.result.now in
    let i = c.loop-normal.place in
    let l = c.loop-normal.invariant.0 in
    let g = get_or ns i 0 in
    let vs = c.args.c.now.vertices in
    let n = vector_of c.normal-normal.result.now in
    let h = c.at.result.now in
    let none = none-more (λ (k : ℕ). (u : Vertex) × IsAt vs c.args.k.now.vertex u × CarriesWith c.args.c.now (point_of u.point) n k) ns i g l (sym (at-read ns i g g (is-at_get ns i 0 l))) c.loop-normal.invariant.1
    (λ (u, a, w). not_true (sym c.if-is_same.false ∙ (of-like (normal_of (form_of h)) (vector_of c.plane_normal.result) n c.plane_normal.ensures.normal c.is_same.ensures.direction).1
    (subst (λ (k : Plane). SameDirection (normal_of (form_of k)) n) (is-at_one hs g w.0 h w.1 c.at.ensures.element) w.2.1))) in (
      holder-left c.requires.shows.0 c.args.c.now (corner_of c.args.k.now) c.at-vertex.result.now (item_of c.item_at-item.result) n ns (i + 1) c.requires.shows.1.shows c.requires.corner
          c.at-vertex.ensures.element c.item_at-item.ensures.item (sym c.normal-normal.ensures.normal) (c.vertex_holders-holders.ensures.holders c.at-vertex.result.now c.at-vertex.ensures.element) none,
      none,
    )

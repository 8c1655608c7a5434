use Rattle.nef_volumes.proofs.Prelude.{◌≡◌, ℕ, inr, refl, ap, sym, ◌∙◌, subst, IsAhead, Vector, opposite, up, not_true, point_of, IsFree, map_of, SideSees, sides_of, SphereMap, is-at_within, complex_of, IsFirstHit, as-none}
use Rattle.nef_volumes.proofs.Downward.{down-free, vertex-framed, above-within, cell-above, none-below, out-none, nothing-below, tie-down}
use Rattle.nef_volumes.proofs.ties.down_tie.Goals as goal

-- the side sees the downward direction
downward : (m : SphereMap) (side : ℕ) (d : Vector) → d ≡ opposite up → SideSees (map_of m) side d → SideSees (map_of m) side (opposite up)
downward m side d e s = subst (λ (v : Vector). SideSees (map_of m) side v) e s

pub face_toward-side-requires : goal.face_toward-side-requires
face_toward-side-requires c =
    let m = c.at-here.result.now.map in
    let M = (c.requires.shows.1.maps c.args.vertex c.at-here.result.now c.at-here.ensures.element).sphere_map in
    record { map = M; free = subst (IsFree (map_of m)) (sym (c.back-down.ensures.back ∙ ap opposite c.up.ensures.up)) (down-free m M) }

pub is_outside-requires : goal.is_outside-requires
is_outside-requires c = let (o, l, g, v) = c.face_toward-side.ensures.side in record { within = is-at_within (sides_of (map_of c.at-here.result.now.map)) c.face_toward-side.result (o, l) g }

pub first_hit-requires-clause-framed : goal.first_hit-requires-clause-framed
first_hit-requires-clause-framed c = vertex-framed c.requires.shows.0 c.args.c.now c.requires.shows.1 c.args.vertex c.at-here.result.now c.at-here.ensures.element

pub first_hit-requires-clause-upright : goal.first_hit-requires-clause-upright
first_hit-requires-clause-upright c = inr (c.back-down.ensures.back ∙ ap opposite c.up.ensures.up)

pub cell-second-requires : goal.cell-second-requires
cell-second-requires c =
    let F = subst (λ (d : Vector). IsFirstHit (complex_of c.args.c.now) (point_of c.at-here.result.now.point) d c.in_ok-floor.floor) (c.back-down.ensures.back ∙ ap opposite c.up.ensures.up) c.in_ok-floor.ensures.some in
    record { within = above-within c.requires.shows.0 c.args.c.now c.requires.shows.1 c.args.vertex c.at-here.result.now c.at-here.ensures.element c.in_ok-floor.floor F c.side_above-low.result.0 c.side_above-low.result.1 c.side_above-low.ensures.above }

pub returns-then-is_outside : goal.returns-then-is_outside
returns-then-is_outside c = record {
  tie = out-none c.requires.shows.0 c.args.c.now c.requires.shows.1 c.args.vertex c.at-here.result.now c.at-here.ensures.element c.face_toward-side.result (downward c.at-here.result.now.map c.face_toward-side.result _ (c.back-down.ensures.back ∙ ap opposite c.up.ensures.up) c.face_toward-side.ensures.side) (c.is_outside.ensures.out.0 c.if-is_outside.true);
}

pub returns-in_err-floor : goal.returns-in_err-floor
returns-in_err-floor c =
    let apart = none-below c.requires.shows.0 c.args.c.now c.requires.shows.1 c.args.vertex c.at-here.result.now c.at-here.ensures.element
    (λ q w o. c.in_err-floor.ensures.none refl q (subst (λ (d : Vector). IsAhead (point_of c.at-here.result.now.point) d q) (sym (c.back-down.ensures.back ∙ ap opposite c.up.ensures.up)) w) o) in
    record { tie = as-none _ _ c.from_residual.result c.from_residual.ensures (nothing-below c.requires.shows.0 c.args.c.now c.requires.shows.1 c.args.vertex c.at-here.result.now c.at-here.ensures.element c.face_toward-side.result (downward c.at-here.result.now.map c.face_toward-side.result _ (c.back-down.ensures.back ∙ ap opposite c.up.ensures.up) c.face_toward-side.ensures.side) apart) }

pub returns : goal.returns
returns c =
    let F = subst (λ (d : Vector). IsFirstHit (complex_of c.args.c.now) (point_of c.at-here.result.now.point) d c.in_ok-floor.floor) (c.back-down.ensures.back ∙ ap opposite c.up.ensures.up) c.in_ok-floor.ensures.some in
    let below = cell-above c.requires.shows.0 c.args.c.now c.requires.shows.1 c.args.vertex c.at-here.result.now c.at-here.ensures.element c.in_ok-floor.floor F c.side_above-low.result.0 c.side_above-low.result.1 c.side_above-low.ensures.above c.cell-second.result c.cell-second.ensures.cell in
    record {
      tie = tie-down c.requires.shows.0 c.args.c.now c.requires.shows.1 c.args.vertex c.at-here.result.now c.at-here.ensures.element c.face_toward-side.result (downward c.at-here.result.now.map c.face_toward-side.result _ (c.back-down.ensures.back ∙ ap opposite c.up.ensures.up) c.face_toward-side.ensures.side)
          (λ p. not_true (sym c.if-is_outside.false ∙ c.is_outside.ensures.out.1 p)) c.cell-first.result c.cell-second.result c.cell-first.ensures.cell below;
    }

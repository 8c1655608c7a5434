use Rattle.tests_places.proofs.Prelude.{◌+◌, pos, arith, sym, subst, ints, HasLabel, Germ, SpacePoint, Ratio, InFrame, Set, Vector, Label, Out, Not, In, point_of, germ_of}
use Rattle.nef_space.specs.Sets.{Holds}
use Rattle.law_geometry.proofs.near.Frames.{no-germ_out}
use Rattle.tests_places.proofs.results.whole_map.Goals as goal

full-label : (p : SpacePoint) → InFrame p → HasLabel Set.full p In
unfolding Holds
full-label p i = (i, tt)

never-not : (p : SpacePoint) (d : Vector) → Germ Set.full p d Not → ⊥
unfolding Holds
never-not p d (n, some, f) =
    let t : Ratio = record { a = pos 1; b = n + 1; proper = omega arith } in
    (f t (omega (arith, ints), omega (arith, ints))).1 tt

full-germ : (p : SpacePoint) (d : Vector) → InFrame p → Germ Set.full p d In
full-germ p d i = let g = germ_of Set.full p d in by g.0 g.1
  where
    by : (l : Label) → Germ Set.full p d l → Germ Set.full p d In
    by Out g = absurd (no-germ_out Set.full p d i g)
    by Not g = absurd (never-not p d g)
    by In g = g

pub returns-then-is_inside-clause-cone : goal.returns-then-is_inside-clause-cone
returns-then-is_inside-clause-cone c =
    let p = point_of c.args.p.now in let m = c.face_map-map.ensures in let l = m.map in
    let i = c.in_frame-is_inside.ensures.in_frame.0 c.if-is_inside.true in
    record { valid = l.sphere_map.valid; mark = subst (HasLabel Set.full p) (sym m.mark) (full-label p i); labels = λ d e. (In, m.labels d e, full-germ p d i) }

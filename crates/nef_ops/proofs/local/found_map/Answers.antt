use Rattle.nef_ops.proofs.Prelude.{subst, IfOk-weaker, map_of, cone-flat, IsFindingIn, IsFoundAt}
use Rattle.nef_ops.proofs.local.found_map.Goals as goal

pub place_map-requires-clause-place : goal.place_map-requires-clause-place
place_map-requires-clause-place c = subst (IsFindingIn c.args.c.now) c.in-At.is c.requires.has

pub returns-in-At-clause-cone : goal.returns-in-At-clause-cone
returns-in-At-clause-cone c = IfOk-weaker c.place_map.result _ _ (λ m shows s y S a. shows s y S (subst (IsFoundAt c.args.c.now y) c.in-At.is a)) c.place_map.ensures.cone

pub returns-in-Far-clause-cone : goal.returns-in-Far-clause-cone
returns-in-Far-clause-cone c s y S a =
    let u = subst (IsFoundAt c.args.c.now y) c.in-Far.is a s S in
    cone-flat (map_of c.face_map.result) s y c.in-Far.label c.face_map.ensures.map.sphere_map.valid c.face_map.ensures.mark c.face_map.ensures.labels u.0 u.1

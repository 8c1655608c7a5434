use Rattle.nef_spair.proofs.Prelude.{List, length, get_or, arith, refl, ap, subst, Label, Out, IsStar, IsNext, is-at_within, is-at_get}
use Rattle.nef_spair.proofs.Places.{all-at}
use Rattle.nef_spair.proofs.Leaving.{as-many-sectors, ray-leaves, arc-from}
use Rattle.nef_spair.proofs.along.arc_along.Goals as goal

pub before_of-before-requires : goal.before_of-before-requires
before_of-before-requires c =
    let kept = c.args.kept.now in let t = get_or kept c.args.from c.index-kept-from.result in let n = c.args.number in
    let a = is-at_get kept c.args.from c.index-kept-from.result c.requires.within in let b = c.requires.ray t a in
    let T = all-at IsStar kept c.requires.stars c.args.from t a in
    let m = as-many-sectors t T.turned n c.args.ray.now b in let w = is-at_within t.rays.items n c.args.ray.now b in
    record { within = omega (arith, m, w, ap length c.as_slice-sectors.ensures.value) }

pub target_of-requires-clause-level : goal.target_of-requires-clause-level
target_of-requires-clause-level c =
    let kept = c.args.kept.now in
    λ t a.
    let T = all-at IsStar kept c.requires.stars c.args.from t a in let l = ray-leaves t T.turned c.args.number c.args.ray.now (c.requires.ray t a) in l.level

pub bounds-sectors-number : goal.bounds-sectors-number
bounds-sectors-number c =
    let kept = c.args.kept.now in let t = get_or kept c.args.from c.index-kept-from.result in let n = c.args.number in
    let a = is-at_get kept c.args.from c.index-kept-from.result c.requires.within in let b = c.requires.ray t a in
    let T = all-at IsStar kept c.requires.stars c.args.from t a in
    let m = as-many-sectors t T.turned n c.args.ray.now b in let w = is-at_within t.rays.items n c.args.ray.now b in
    omega (arith, m, w, ap length c.as_slice-sectors.ensures.value)

pub returns-clause-arc : goal.returns-clause-arc
returns-clause-arc c =
    let kept = c.args.kept.now in let t = get_or kept c.args.from c.index-kept-from.result in let n = c.args.number in
    let a = is-at_get kept c.args.from c.index-kept-from.result c.requires.within in let b = c.requires.ray t a in
    let T = all-at IsStar kept c.requires.stars c.args.from t a in let e = c.as_slice-sectors.ensures.value in
    arc-from kept _ t c.args.ray.now n c.before_of-before.result T.turned a b c.requires.ahead refl refl
    (ap (λ (l : List Label). get_or l n Out) e) (ap (λ (l : List Label). get_or l c.before_of-before.result Out) e)
    (subst (λ (l : List Label). IsNext (length l) c.before_of-before.result n) e c.before_of-before.ensures.before)
    (c.target_of.ensures.first t a)

pub returns-clause-along : goal.returns-clause-along
returns-clause-along c =
    let kept = c.args.kept.now in let t = get_or kept c.args.from c.index-kept-from.result in
    let a = is-at_get kept c.args.from c.index-kept-from.result c.requires.within in
    record { star = t; ray = c.args.ray.now; has_star = a; has_ray = c.requires.ray t a; ahead = c.requires.ahead; normal = refl }

use Rattle.nef_ray.proofs.Prelude.{◌≡◌, rules, IsTrue, subst, HasLabel, Germ, vector_of, point_of, hit_point, closed-same}
use Rattle.nef_ray.proofs.Nearest.{crossings-same, unchanged-same}
use Rattle.nef_ray.proofs.change.change_on.Goals as goal

pub crossing-point-requires-clause-crosses : goal.crossing-point-requires-clause-crosses
crossing-point-requires-clause-crosses c = let H = c.requires.hit in (hit_point c.args.crossed.now.at, H.crossing)

pub returns-then-not-is_framed-clause-none : goal.returns-then-not-is_framed-clause-none
returns-then-not-is_framed-clause-none c =
    let p = point_of c.args.ray.now.from in let d = vector_of c.args.ray.now.along in let q = point_of c.crossing-point.result in
    let off : IsTrue c.is_framed.result → ⊥ = search rules in
    λ e s S y X i. absurd (off (c.is_framed.ensures.framed.1 (closed-same y q (crossings-same p d c.args.crossed.now.plane y q X c.crossing-point.ensures.crossing) i)))

pub returns-then-ne-clause-point : goal.returns-then-ne-clause-point
returns-then-ne-clause-point c =
    let p = point_of c.args.ray.now.from in let d = vector_of c.args.ray.now.along in let q = hit_point c.args.crossed.now.at in let H = c.requires.hit in
    crossings-same p d c.args.crossed.now.plane q (point_of c.crossing-point.result) H.crossing c.crossing-point.ensures.crossing

pub returns-then-ne-clause-change : goal.returns-then-ne-clause-change
returns-then-ne-clause-change c = λ s S. record { other = search (rules, c.if-ne.true); changes = c.place_label-label.ensures.set s (point_of c.crossing-point.result) S c.locate.ensures.at }

pub returns-then-ne-2-clause-point : goal.returns-then-ne-2-clause-point
returns-then-ne-2-clause-point c =
    let p = point_of c.args.ray.now.from in let d = vector_of c.args.ray.now.along in let q = hit_point c.args.crossed.now.at in let H = c.requires.hit in
    crossings-same p d c.args.crossed.now.plane q (point_of c.crossing-point.result) H.crossing c.crossing-point.ensures.crossing

pub returns-then-ne-2-clause-change : goal.returns-then-ne-2-clause-change
returns-then-ne-2-clause-change c =
    let same : c.place_label-label.result ≡ c.args.ray.now.before = search (rules, c.if-ne.false) in let q = point_of c.crossing-point.result in
    λ s S. record { other = search (rules, c.if-ne-2.true); changes = (subst (HasLabel s q) same (c.place_label-label.ensures.set s q S c.locate.ensures.at), c.in_ok-next.ensures.germ s S) }

pub returns-clause-none : goal.returns-clause-none
returns-clause-none c =
    let same : c.place_label-label.result ≡ c.args.ray.now.before = search (rules, c.if-ne.false) in
    let next : c.in_ok-next.next ≡ c.args.ray.now.before = search (rules, c.if-ne-2.false) in
    let p = point_of c.args.ray.now.from in let d = vector_of c.args.ray.now.along in let q = point_of c.crossing-point.result in
    λ n s S y Y i. unchanged-same s d c.args.ray.now.before q y (crossings-same p d c.args.crossed.now.plane q y c.crossing-point.ensures.crossing Y)
    (subst (HasLabel s q) same (c.place_label-label.ensures.set s q S c.locate.ensures.at), subst (Germ s q d) next (c.in_ok-next.ensures.germ s S))

-- The cyclic order of directions about an axis n. Any test on the signs of the products of three or four of them is decided by
-- computing it at all signs that they can have, and each law of the order is such a test.
use Rattle.law_geometry.proofs.sphere.cyclic.Prelude.{◌≡◌, zero, suc, ℤ, neg_ℤ, Bool, true, false, cond, List, [], ◌∷◌, arith, refl, ap, ◌∙◌, inl, inr, ◌⊎◌, All, IsSign, every_key, passes_at, Vector, dot, triple, IsDirection, SameDirection, IsOnCircle, Passes, AboutThree, AboutFour, OneIsFirst, NeverBothWays, OrderIsTransitive, SameInPlace, OrderIsCyclic, WaysGlue, WaysSplit, NearerOnes, SeenFromLater, SeenFromBetween, SeenFromAfter, NextRises, InSector, SectorHolds, NoRayBetween, dot-comm, triple-back}
use lib.Dec.{T}
use Rattle.law_geometry.proofs.sphere.cyclic.Signs.{sgn, is_not, both, one_of, rule, consistent, every_three, ThreeTest, holds_at_signs, sgn_is_sign, use_test, related_consistent, sgn-neg_ℤ, both_of, both_left, both_right, one_of_left, one_of_right, either_sign, not_of, not_is}
use Rattle.law_geometry.proofs.sphere.cyclic.StrictlyOn.{Setting, related, passes_test, same_test, is_same, same_is, is_same_if, strict_from_rule, rule_from_strict}

-- ---- a fact that a test decides
pub record Says (P : Type 0) (t : Bool) : Type 0 where
  pub test : P → T t
  pub fact : T t → P

pub says_both : {P Q : Type 0} {s t : Bool} → Says P s → Says Q t → Says (P × Q) (both s t)
says_both {P} {Q} {s} {t} p q = record { test = λ h. both_of s t (p.test h.0) (q.test h.1); fact = λ h. (p.fact (both_left s t h), q.fact (both_right s t h)) }

pub says_one : {P Q : Type 0} {s t : Bool} → Says P s → Says Q t → Says (P ⊎ Q) (one_of s t)
says_one {P} {Q} {s} {t} p q = record { test = λ h. elim h [ inl x ↦ one_of_left s t (p.test x) | inr y ↦ one_of_right s t (q.test y) ]; fact = λ h. either_sign s t p.fact q.fact h }

pub says_not : {P : Type 0} {s : Bool} → Says P s → Says (P → ⊥) (is_not s)
says_not {P} {s} p = record { test = λ f. not_of s (λ x. f (p.fact x)); fact = λ h x. not_is s h (p.test x) }

pub says_never : Says ⊥ false
says_never = record { test = λ h. h; fact = λ h. h }

pub implied : {P Q : Type 0} {s t : Bool} → Says P s → Says Q t → T (cond s t true) → P → Q
implied {P} {Q} {s} {t} p q c h = q.fact (use_test s t (p.test h) c)

-- ---- what the tests on directions say
setting : (n a b c : Vector) → AboutThree n a b c → Setting n a c b
setting n a b c g = record { normal = g.axis; source = g.first; target = g.third; passed = g.second }

pub says_passes : (n a b c : Vector) → AboutThree n a b c → Says (Passes n a b c) (passes_test n a b c)
says_passes n a b c g = record { test = rule_from_strict n a c b (setting n a b c g); fact = strict_from_rule n a c b (setting n a b c g) }

pub says_same : (n a b : Vector) → IsDirection n → IsOnCircle n a → IsOnCircle n b → Says (SameDirection a b) (is_same n a b)
says_same n a b h p q = record { test = is_same_if n a b; fact = same_is n a b h p q }

sgn-triple-back : (n a b : Vector) → sgn (triple n b a) ≡ neg_ℤ (sgn (triple n a b))
sgn-triple-back n a b = ap sgn (triple-back n a b) ∙ sgn-neg_ℤ (triple n a b)

acb : (n a b c : Vector) → AboutThree n a b c → AboutThree n a c b
acb n a b c g = record { axis = g.axis; first = g.first; second = g.third; third = g.second }

bca : (n a b c : Vector) → AboutThree n a b c → AboutThree n b c a
bca n a b c g = record { axis = g.axis; first = g.second; second = g.third; third = g.first }

bac : (n a b c : Vector) → AboutThree n a b c → AboutThree n b a c
bac n a b c g = record { axis = g.axis; first = g.second; second = g.first; third = g.third }

-- c passed from a to b, by the signs of the pairs of a, b and c in this order
says_acb : (n a b c : Vector) → AboutThree n a b c → Says (Passes n a c b) (rule (sgn (triple n a b)) (sgn (dot a b)) (sgn (triple n a c)) (sgn (dot a c)) (neg_ℤ (sgn (triple n b c))) (sgn (dot b c)))
says_acb n a b c g = rw (← sgn-triple-back n b c, dot-comm b c) (says_passes n a c b (acb n a b c g))

-- c passed from b to a
says_bca : (n a b c : Vector) → AboutThree n a b c → Says (Passes n b c a) (rule (neg_ℤ (sgn (triple n a b))) (sgn (dot a b)) (sgn (triple n b c)) (sgn (dot b c)) (neg_ℤ (sgn (triple n a c))) (sgn (dot a c)))
says_bca n a b c g = rw (← sgn-triple-back n a b, dot-comm a b, ← sgn-triple-back n a c, dot-comm a c) (says_passes n b c a (bca n a b c g))

-- a passed from b to c
says_bac : (n a b c : Vector) → AboutThree n a b c → Says (Passes n b a c) (rule (sgn (triple n b c)) (sgn (dot b c)) (neg_ℤ (sgn (triple n a b))) (sgn (dot a b)) (sgn (triple n a c)) (sgn (dot a c)))
says_bac n a b c g = rw (← sgn-triple-back n a b, dot-comm a b) (says_passes n b a c (bac n a b c g))

-- ---- tests on the turn and the dot product of the pairs ac, ab and bc
pub holds_at_three : (test : ThreeTest) → T (every_three test) → (n a b c : Vector) → AboutThree n a b c
    → T (test (sgn (triple n a c)) (sgn (dot a c)) (sgn (triple n a b)) (sgn (dot a b)) (sgn (triple n b c)) (sgn (dot b c)))
holds_at_three test t n a b c g = holds_at_signs test t _ _ _ _ _ _ _ _ (related n a c b (setting n a b c g))

abbrev one_is_first_test : ThreeTest
one_is_first_test ac ac' ab ab' bc bc' = cond (both (is_not (same_test ab ab')) (is_not (same_test ac ac'))) (one_of (same_test bc bc') (one_of (rule ac ac' ab ab' bc bc') (rule ab ab' ac ac' (neg_ℤ bc) bc'))) true

all_one_is_first : T (every_three one_is_first_test)
all_one_is_first = tt

pub one_is_first : OneIsFirst
one_is_first n a b c g h k =
    implied (says_both (says_not (says_same n a b g.axis g.first g.second)) (says_not (says_same n a c g.axis g.first g.third))) (says_one (says_same n b c g.axis g.second g.third) (says_one (says_passes n a b c g) (says_acb n a b c g))) (holds_at_three one_is_first_test all_one_is_first n a b c g) (h, k)

abbrev never_both_ways_test : ThreeTest
never_both_ways_test ac ac' ab ab' bc bc' = cond (both (rule ac ac' ab ab' bc bc') (rule ab ab' ac ac' (neg_ℤ bc) bc')) false true

all_never_both_ways : T (every_three never_both_ways_test)
all_never_both_ways = tt

pub never_both_ways : NeverBothWays
never_both_ways n a b c g h k =
    implied (says_both (says_passes n a b c g) (says_acb n a b c g)) says_never (holds_at_three never_both_ways_test all_never_both_ways n a b c g) (h, k)

abbrev order_is_cyclic_test : ThreeTest
order_is_cyclic_test ac ac' ab ab' bc bc' = cond (both (is_not (same_test ac ac')) (rule ac ac' ab ab' bc bc')) (rule (neg_ℤ ab) ab' bc bc' (neg_ℤ ac) ac') true

all_order_is_cyclic : T (every_three order_is_cyclic_test)
all_order_is_cyclic = tt

pub order_is_cyclic : OrderIsCyclic
order_is_cyclic n a b c g h k =
    implied (says_both (says_not (says_same n a c g.axis g.first g.third)) (says_passes n a b c g)) (says_bca n a b c g) (holds_at_three order_is_cyclic_test all_order_is_cyclic n a b c g) (h, k)

abbrev next_rises_test : ThreeTest
next_rises_test ac ac' ab ab' bc bc' = cond (both (is_not (same_test ac ac')) (both (is_not (same_test ab ab')) (both (is_not (same_test bc bc')) (is_not (rule bc bc' (neg_ℤ ab) ab' ac ac'))))) (rule ac ac' ab ab' bc bc') true

all_next_rises : T (every_three next_rises_test)
all_next_rises = tt

pub next_rises : NextRises
next_rises n a b c g h k l m =
    implied (says_both (says_not (says_same n a c g.axis g.first g.third)) (says_both (says_not (says_same n a b g.axis g.first g.second)) (says_both (says_not (says_same n b c g.axis g.second g.third)) (says_not (says_bac n a b c g))))) (says_passes n a b c g) (holds_at_three next_rises_test all_next_rises n a b c g) (h, (k, (l, m)))

-- ---- four directions: the signs of the six pairs, tried pair by pair, and only where they are consistent so far
abbrev pub at_two : (ℤ → ℤ → Bool) → List ℤ → Bool
at_two p [] = true
at_two p (x ∷ []) = true
at_two p (x ∷ y ∷ rest) = p x y

abbrev pub every_pair : (ℤ → ℤ → Bool) → Bool
every_pair p = every_key 2 (at_two p)

two_signs : (x y : ℤ) → All IsSign (sgn x ∷ sgn y ∷ [])
two_signs x y zero z h = sgn_is_sign x
two_signs x y (suc zero) z h = sgn_is_sign y
two_signs x y (suc (suc k)) z h = absurd (omega arith)

pub pair_at : (p : ℤ → ℤ → Bool) → T (every_pair p) → (x y : ℤ) → T (p (sgn x) (sgn y))
pair_at p t x y = passes_at 2 (at_two p) t (sgn x ∷ sgn y ∷ []) refl (two_signs x y)

-- the test's arguments: the turn and the dot product of ab, ac, ad, bc, bd, cd
abbrev pub FourTest : Type 0
FourTest = ℤ → ℤ → ℤ → ℤ → ℤ → ℤ → ℤ → ℤ → ℤ → ℤ → ℤ → ℤ → Bool

-- the stages, from the last pair to the first
abbrev stage_cd : FourTest → ℤ → ℤ → ℤ → ℤ → ℤ → ℤ → ℤ → ℤ → ℤ → ℤ → ℤ → ℤ → Bool
stage_cd test ab ab' ac ac' bc bc' ad ad' bd bd' cd cd' =
    cond (consistent ad ad' ac ac' cd cd') (cond (consistent bd bd' bc bc' cd cd') (test ab ab' ac ac' ad ad' bc bc' bd bd' cd cd') true) true

abbrev stage_bd : FourTest → ℤ → ℤ → ℤ → ℤ → ℤ → ℤ → ℤ → ℤ → ℤ → ℤ → Bool
stage_bd test ab ab' ac ac' bc bc' ad ad' bd bd' = cond (consistent ad ad' ab ab' bd bd') (every_pair (stage_cd test ab ab' ac ac' bc bc' ad ad' bd bd')) true

abbrev stage_ad : FourTest → ℤ → ℤ → ℤ → ℤ → ℤ → ℤ → ℤ → ℤ → Bool
stage_ad test ab ab' ac ac' bc bc' ad ad' = every_pair (stage_bd test ab ab' ac ac' bc bc' ad ad')

abbrev stage_bc : FourTest → ℤ → ℤ → ℤ → ℤ → ℤ → ℤ → Bool
stage_bc test ab ab' ac ac' bc bc' = cond (consistent ac ac' ab ab' bc bc') (every_pair (stage_ad test ab ab' ac ac' bc bc')) true

abbrev stage_ac : FourTest → ℤ → ℤ → ℤ → ℤ → Bool
stage_ac test ab ab' ac ac' = every_pair (stage_bc test ab ab' ac ac')

abbrev stage_ab : FourTest → ℤ → ℤ → Bool
stage_ab test ab ab' = every_pair (stage_ac test ab ab')

abbrev pub every_four : FourTest → Bool
every_four test = every_pair (stage_ab test)

pub holds_at_four : (test : FourTest) → T (every_four test) → (n a b c d : Vector) → AboutFour n a b c d
    → T (test (sgn (triple n a b)) (sgn (dot a b)) (sgn (triple n a c)) (sgn (dot a c)) (sgn (triple n a d)) (sgn (dot a d)) (sgn (triple n b c)) (sgn (dot b c)) (sgn (triple n b d)) (sgn (dot b d)) (sgn (triple n c d)) (sgn (dot c d)))
holds_at_four test t n a b c d g =
    let p = g.first in let q = g.second in let r = g.third in let s = g.fourth in let h = g.axis in
    let ab = sgn (triple n a b) in let ab' = sgn (dot a b) in let ac = sgn (triple n a c) in let ac' = sgn (dot a c) in
    let ad = sgn (triple n a d) in let ad' = sgn (dot a d) in let bc = sgn (triple n b c) in let bc' = sgn (dot b c) in
    let bd = sgn (triple n b d) in let bd' = sgn (dot b d) in let cd = sgn (triple n c d) in let cd' = sgn (dot c d) in
    let abc : T (consistent ac ac' ab ab' bc bc') = related_consistent _ _ _ _ _ _ _ _ (related n a c b (record { normal = h; source = p; target = r; passed = q })) in
    let abd : T (consistent ad ad' ab ab' bd bd') = related_consistent _ _ _ _ _ _ _ _ (related n a d b (record { normal = h; source = p; target = s; passed = q })) in
    let acd : T (consistent ad ad' ac ac' cd cd') = related_consistent _ _ _ _ _ _ _ _ (related n a d c (record { normal = h; source = p; target = s; passed = r })) in
    let bcd : T (consistent bd bd' bc bc' cd cd') = related_consistent _ _ _ _ _ _ _ _ (related n b d c (record { normal = h; source = q; target = s; passed = r })) in
    let at_ab = pair_at (stage_ab test) t (triple n a b) (dot a b) in
    let at_ac = pair_at (stage_ac test ab ab') at_ab (triple n a c) (dot a c) in
    let at_bc = pair_at (stage_bc test ab ab' ac ac') at_ac (triple n b c) (dot b c) in
    let past_abc = use_test (consistent ac ac' ab ab' bc bc') (every_pair (stage_ad test ab ab' ac ac' bc bc')) abc at_bc in
    let at_ad = pair_at (stage_ad test ab ab' ac ac' bc bc') past_abc (triple n a d) (dot a d) in
    let at_bd = pair_at (stage_bd test ab ab' ac ac' bc bc' ad ad') at_ad (triple n b d) (dot b d) in
    let past_abd = use_test (consistent ad ad' ab ab' bd bd') (every_pair (stage_cd test ab ab' ac ac' bc bc' ad ad' bd bd')) abd at_bd in
    let at_cd = pair_at (stage_cd test ab ab' ac ac' bc bc' ad ad' bd bd') past_abd (triple n c d) (dot c d) in
    let all = test ab ab' ac ac' ad ad' bc bc' bd bd' cd cd' in
    use_test (consistent bd bd' bc bc' cd cd') all bcd (use_test (consistent ad ad' ac ac' cd cd') (cond (consistent bd bd' bc bc' cd cd') all true) acd at_cd)

-- ---- the laws that are tests on four
abc : (n a b c d : Vector) → AboutFour n a b c d → AboutThree n a b c
abc n a b c d g = record { axis = g.axis; first = g.first; second = g.second; third = g.third }

pub abd : (n a b c d : Vector) → AboutFour n a b c d → AboutThree n a b d
abd n a b c d g = record { axis = g.axis; first = g.first; second = g.second; third = g.fourth }

pub acd : (n a b c d : Vector) → AboutFour n a b c d → AboutThree n a c d
acd n a b c d g = record { axis = g.axis; first = g.first; second = g.third; third = g.fourth }

bcd : (n a b c d : Vector) → AboutFour n a b c d → AboutThree n b c d
bcd n a b c d g = record { axis = g.axis; first = g.second; second = g.third; third = g.fourth }

abbrev order_is_transitive_test : FourTest
order_is_transitive_test ab ab' ac ac' ad ad' bc bc' bd bd' cd cd' = cond (both (rule ac ac' ab ab' bc bc') (rule ad ad' ac ac' cd cd')) (rule ad ad' ab ab' bd bd') true

all_order_is_transitive : T (every_four order_is_transitive_test)
all_order_is_transitive = tt

pub order_is_transitive : OrderIsTransitive
order_is_transitive n a b c d g h k =
    implied (says_both (says_passes n a b c (abc n a b c d g)) (says_passes n a c d (acd n a b c d g))) (says_passes n a b d (abd n a b c d g)) (holds_at_four order_is_transitive_test all_order_is_transitive n a b c d g) (h, k)

abbrev same_in_place_test : FourTest
same_in_place_test ab ab' ac ac' ad ad' bc bc' bd bd' cd cd' = cond (both (same_test bc bc') (rule ad ad' ab ab' bd bd')) (rule ad ad' ac ac' cd cd') true

all_same_in_place : T (every_four same_in_place_test)
all_same_in_place = tt

pub same_in_place : SameInPlace
same_in_place n a b c d g h k =
    implied (says_both (says_same n b c g.axis g.second g.third) (says_passes n a b d (abd n a b c d g))) (says_passes n a c d (acd n a b c d g)) (holds_at_four same_in_place_test all_same_in_place n a b c d g) (h, k)

abbrev ways_glue_test : FourTest
ways_glue_test ab ab' ac ac' ad ad' bc bc' bd bd' cd cd' = cond (both (rule ad ad' ab ab' bd bd') (rule bd bd' bc bc' cd cd')) (rule ad ad' ac ac' cd cd') true

all_ways_glue : T (every_four ways_glue_test)
all_ways_glue = tt

pub ways_glue : WaysGlue
ways_glue n a b c d g h k =
    implied (says_both (says_passes n a b d (abd n a b c d g)) (says_passes n b c d (bcd n a b c d g))) (says_passes n a c d (acd n a b c d g)) (holds_at_four ways_glue_test all_ways_glue n a b c d g) (h, k)

abbrev ways_split_test : FourTest
ways_split_test ab ab' ac ac' ad ad' bc bc' bd bd' cd cd' = cond (both (rule ad ad' ab ab' bd bd') (rule ad ad' ac ac' cd cd')) (one_of (same_test bc bc') (one_of (both (rule ac ac' ab ab' bc bc') (rule bd bd' bc bc' cd cd')) (both (rule ab ab' ac ac' (neg_ℤ bc) bc') (rule cd cd' (neg_ℤ bc) bc' bd bd')))) true

all_ways_split : T (every_four ways_split_test)
all_ways_split = tt

pub ways_split : WaysSplit
ways_split n a b c d g h k =
    implied (says_both (says_passes n a b d (abd n a b c d g)) (says_passes n a c d (acd n a b c d g))) (says_one (says_same n b c g.axis g.second g.third) (says_one (says_both (says_passes n a b c (abc n a b c d g)) (says_passes n b c d (bcd n a b c d g))) (says_both (says_acb n a b c (abc n a b c d g)) (says_bac n b c d (bcd n a b c d g))))) (holds_at_four ways_split_test all_ways_split n a b c d g) (h, k)

abbrev nearer_ones_test : FourTest
nearer_ones_test ab ab' ac ac' ad ad' bc bc' bd bd' cd cd' = cond (both (rule ab ab' ac ac' (neg_ℤ bc) bc') (both (is_not (rule ab ab' ad ad' (neg_ℤ bd) bd')) (is_not (same_test ad ad')))) (rule ad ad' ac ac' cd cd') true

all_nearer_ones : T (every_four nearer_ones_test)
all_nearer_ones = tt

pub nearer_ones : NearerOnes
nearer_ones n a b c d g h k l =
    implied (says_both (says_acb n a b c (abc n a b c d g)) (says_both (says_not (says_acb n a b d (abd n a b c d g))) (says_not (says_same n a d g.axis g.first g.fourth)))) (says_passes n a c d (acd n a b c d g)) (holds_at_four nearer_ones_test all_nearer_ones n a b c d g) (h, (k, l))

abbrev seen_from_later_test : FourTest
seen_from_later_test ab ab' ac ac' ad ad' bc bc' bd bd' cd cd' = cond (both (rule ac ac' ab ab' bc bc') (rule ad ad' ac ac' cd cd')) (rule bd bd' bc bc' cd cd') true

all_seen_from_later : T (every_four seen_from_later_test)
all_seen_from_later = tt

pub seen_from_later : SeenFromLater
seen_from_later n a b c d g h k =
    implied (says_both (says_passes n a b c (abc n a b c d g)) (says_passes n a c d (acd n a b c d g))) (says_passes n b c d (bcd n a b c d g)) (holds_at_four seen_from_later_test all_seen_from_later n a b c d g) (h, k)

abbrev seen_from_between_test : FourTest
seen_from_between_test ab ab' ac ac' ad ad' bc bc' bd bd' cd cd' = cond (both (is_not (same_test ac ac')) (both (rule ac ac' ab ab' bc bc') (one_of (same_test ad ad') (rule ab ab' ad ad' (neg_ℤ bd) bd')))) (rule bd bd' bc bc' cd cd') true

all_seen_from_between : T (every_four seen_from_between_test)
all_seen_from_between = tt

pub seen_from_between : SeenFromBetween
seen_from_between n a b c d g h k l =
    implied (says_both (says_not (says_same n a c g.axis g.first g.third)) (says_both (says_passes n a b c (abc n a b c d g)) (says_one (says_same n a d g.axis g.first g.fourth) (says_acb n a b d (abd n a b c d g))))) (says_passes n b c d (bcd n a b c d g)) (holds_at_four seen_from_between_test all_seen_from_between n a b c d g) (h, (k, l))

abbrev seen_from_after_test : FourTest
seen_from_after_test ab ab' ac ac' ad ad' bc bc' bd bd' cd cd' = cond (both (is_not (same_test ab ab')) (both (rule ab ab' ac ac' (neg_ℤ bc) bc') (one_of (same_test ad ad') (rule ac ac' ad ad' (neg_ℤ cd) cd')))) (rule bc bc' bd bd' (neg_ℤ cd) cd') true

all_seen_from_after : T (every_four seen_from_after_test)
all_seen_from_after = tt

pub seen_from_after : SeenFromAfter
seen_from_after n a b c d g h k l =
    implied (says_both (says_not (says_same n a b g.axis g.first g.second)) (says_both (says_acb n a b c (abc n a b c d g)) (says_one (says_same n a d g.axis g.first g.fourth) (says_acb n a c d (acd n a b c d g))))) (says_acb n b c d (bcd n a b c d g)) (holds_at_four seen_from_after_test all_seen_from_after n a b c d g) (h, (k, l))

abbrev in_sector_test : FourTest
in_sector_test ab ab' ac ac' ad ad' bc bc' bd bd' cd cd' = cond (both (one_of (same_test ab ab') (both (rule ac ac' ab ab' bc bc') (rule ad ad' ab ab' bd bd'))) (rule ac ac' ad ad' (neg_ℤ cd) cd')) (rule bc bc' bd bd' (neg_ℤ cd) cd') true

all_in_sector : T (every_four in_sector_test)
all_in_sector = tt

pub in_sector : InSector
in_sector n a b c d g h k =
    implied (says_both (says_one (says_same n a b g.axis g.first g.second) (says_both (says_passes n a b c (abc n a b c d g)) (says_passes n a b d (abd n a b c d g)))) (says_acb n a c d (acd n a b c d g))) (says_acb n b c d (bcd n a b c d g)) (holds_at_four in_sector_test all_in_sector n a b c d g) (h, k)

abbrev sector_holds_test : FourTest
sector_holds_test ab ab' ac ac' ad ad' bc bc' bd bd' cd cd' = cond (both (one_of (same_test ab ab') (rule ac ac' ab ab' bc bc')) (rule bc bc' bd bd' (neg_ℤ cd) cd')) (both (rule ac ac' ad ad' (neg_ℤ cd) cd') (one_of (same_test ab ab') (rule ad ad' ab ab' bd bd'))) true

all_sector_holds : T (every_four sector_holds_test)
all_sector_holds = tt

pub sector_holds : SectorHolds
sector_holds n a b c d g h k =
    implied (says_both (says_one (says_same n a b g.axis g.first g.second) (says_passes n a b c (abc n a b c d g))) (says_acb n b c d (bcd n a b c d g))) (says_both (says_acb n a c d (acd n a b c d g)) (says_one (says_same n a b g.axis g.first g.second) (says_passes n a b d (abd n a b c d g)))) (holds_at_four sector_holds_test all_sector_holds n a b c d g) (h, k)

abbrev no_ray_between_test : FourTest
no_ray_between_test ab ab' ac ac' ad ad' bc bc' bd bd' cd cd' = cond (both (one_of (same_test ab ab') (rule ac ac' ab ab' bc bc')) (one_of (same_test bd bd') (one_of (same_test cd cd') (one_of (same_test ad ad') (one_of (both (is_not (same_test ab ab')) (rule ab ab' ad ad' (neg_ℤ bd) bd')) (both (is_not (same_test ac ac')) (rule ad ad' ac ac' cd cd'))))))) (is_not (rule bc bc' bd bd' (neg_ℤ cd) cd')) true

all_no_ray_between : T (every_four no_ray_between_test)
all_no_ray_between = tt

pub no_ray_between : NoRayBetween
no_ray_between n a b c d g h k =
    implied (says_both (says_one (says_same n a b g.axis g.first g.second) (says_passes n a b c (abc n a b c d g))) (says_one (says_same n b d g.axis g.second g.fourth) (says_one (says_same n c d g.axis g.third g.fourth) (says_one (says_same n a d g.axis g.first g.fourth) (says_one (says_both (says_not (says_same n a b g.axis g.first g.second)) (says_acb n a b d (abd n a b c d g))) (says_both (says_not (says_same n a c g.axis g.first g.third)) (says_passes n a c d (acd n a b c d g)))))))) (says_not (says_acb n b c d (bcd n a b c d g))) (holds_at_four no_ray_between_test all_no_ray_between n a b c d g) (h, k)

use Rattle.nef_ops.proofs.Prelude.{◌≡◌, rules, refl, subst, IfSome, point_of, Operand, First, Second, operand_of, other_of, IsPlaceIn, IsPlaceAt}
use Rattle.law_geometry.specs.complex.Complexes.{Complex as PlainComplex}
use Rattle.nef_locate.specs.declared.point.Place.{Place}
use Rattle.nef_ops.proofs.local.finding_in.Goals as goal

-- of two complexes each is one operand or the other
other-own : (o own : Operand) (C D : PlainComplex) → (o ≡ own → ⊥) → other_of o C D ≡ operand_of own C D
other-own First First C D n = absurd (n refl)
other-own First Second C D n = refl
other-own Second First C D n = refl
other-own Second Second C D n = absurd (n refl)

pub returns-then-eq : goal.returns-then-eq
returns-then-eq c =
    let C = c.requires.named.0 in
    let D = c.requires.named.1 in
    let y = point_of c.args.candidate.now.point in
    let at = c.told_places-operand.result.1 in
    let e : c.told_places-operand.result.0 ≡ c.args.own = search rules in
    record {
      has = subst (λ (B : PlainComplex). IsPlaceIn B at) c.requires.named.2 (subst (λ (o : Operand). IsPlaceIn (operand_of o C D) at) e (c.told_places-operand.ensures.place C D y c.requires.named.3));
      found = subst (λ (B : PlainComplex). IsPlaceAt B y at) c.requires.named.2 (subst (λ (o : Operand). IsPlaceAt (operand_of o C D) y at) e (c.told_places-operand.ensures.at C D y c.requires.named.3));
    }

pub returns-in-Some : goal.returns-in-Some
returns-in-Some c =
    let C = c.requires.named.0 in
    let D = c.requires.named.1 in
    let y = point_of c.args.candidate.now.point in
    let a = c.in-Some.place in
    let off : c.told_places-operand.result.0 ≡ c.args.own → ⊥ = search rules in
    let told = subst (λ o. IfSome o (λ (b : Place). IsPlaceIn (other_of c.told_places-operand.result.0 C D) b × IsPlaceAt (other_of c.told_places-operand.result.0 C D) y b)) c.in-Some.is (c.told_places-operand.ensures.across C D y c.requires.named.3) in
    let here = subst (λ (B : PlainComplex). IsPlaceIn B a × IsPlaceAt B y a) c.requires.named.2 (subst (λ (B : PlainComplex). IsPlaceIn B a × IsPlaceAt B y a) (other-own c.told_places-operand.result.0 c.args.own C D off) told) in
    record { has = here.0; found = here.1 }

pub returns-in-Some-label_among-clause-found : goal.returns-in-Some-label_among-clause-found
returns-in-Some-label_among-clause-found c = c.in-Some-label_among.ensures.told c.args.input.now.complex.now c.requires.input.1

use Rattle.nef_geo.proofs.Prelude.{rules, ℤ, w64, ◌≡◌, ◌<◌, ◌^◌, sym, ap, ◌∙◌, to_z, of_z, ◌*ℤ◌, FitsSigned, to_z-of_z}
use lib.Signed.{mag}
use Rattle.nef_geo.proofs.Divisors.{IsReduced-from_parts}
use Rattle.nef_geo.proofs.gcd.lowest_terms.Goals as goal

pub part-requires-clause-divides : goal.part-requires-clause-divides
part-requires-clause-divides c =
    let fg : FitsSigned w64 c.gcd_of_four-divisor.result = search rules in
    rw (to_z-of_z w64 c.gcd_of_four-divisor.result fg) c.gcd_of_four-divisor.ensures.gcd.divides.0

pub part-requires-2-clause-divides : goal.part-requires-2-clause-divides
part-requires-2-clause-divides c =
    let fg : FitsSigned w64 c.gcd_of_four-divisor.result = search rules in
    rw (to_z-of_z w64 c.gcd_of_four-divisor.result fg) c.gcd_of_four-divisor.ensures.gcd.divides.1.0

pub part-requires-3-clause-divides : goal.part-requires-3-clause-divides
part-requires-3-clause-divides c =
    let fg : FitsSigned w64 c.gcd_of_four-divisor.result = search rules in
    rw (to_z-of_z w64 c.gcd_of_four-divisor.result fg) c.gcd_of_four-divisor.ensures.gcd.divides.1.1.0

pub part-requires-4-clause-divides : goal.part-requires-4-clause-divides
part-requires-4-clause-divides c =
    let fg : FitsSigned w64 c.gcd_of_four-divisor.result = search rules in
    rw (to_z-of_z w64 c.gcd_of_four-divisor.result fg) c.gcd_of_four-divisor.ensures.gcd.divides.1.1.1.0

-- what `part` ensures, without the passage through the machine
whole : (x g r : ℤ) → FitsSigned w64 x → FitsSigned w64 g → to_z w64 (of_z w64 x) ≡ to_z w64 (of_z w64 g) *ℤ r → x ≡ g *ℤ r
whole x g r fx fg e = sym (to_z-of_z w64 x fx) ∙ e ∙ ap (λ z. z *ℤ r) (to_z-of_z w64 g fg)

pub returns : goal.returns
returns c =
    let g = c.gcd_of_four-divisor.result in
    let fg : FitsSigned w64 c.gcd_of_four-divisor.result = search rules in
    let fits : (r : ℤ) → mag r < 2 ^ 63 → FitsSigned w64 r = λ r h. record { sfits = h } in
    rw (to_z-of_z w64 c.part.result (fits _ c.part.type_inv), to_z-of_z w64 c.part-2.result (fits _ c.part-2.type_inv), to_z-of_z w64 c.part-3.result (fits _ c.part-3.type_inv), to_z-of_z w64 c.part-4.result (fits _ c.part-4.type_inv))
    (record {
      reduced = IsReduced-from_parts c.args.x c.args.y c.args.z c.args.w g c.part.result c.part-2.result c.part-3.result c.part-4.result
          (rw (to_z-of_z w64 c.args.x c.ranges.x, to_z-of_z w64 c.args.y c.ranges.y, to_z-of_z w64 c.args.z c.ranges.z, to_z-of_z w64 c.args.w c.ranges.w) at c.gcd_of_four-divisor.ensures.gcd)
          (whole c.args.x g _ c.ranges.x fg c.part.ensures.whole)
          (whole c.args.y g _ c.ranges.y fg c.part-2.ensures.whole)
          (whole c.args.z g _ c.ranges.z fg c.part-3.ensures.whole)
          (whole c.args.w g _ c.ranges.w fg c.part-4.ensures.whole);
    })

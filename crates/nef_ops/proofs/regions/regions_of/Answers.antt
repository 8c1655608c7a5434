use Rattle.nef_ops.proofs.Prelude.{ℕ, IsNone, List, [], ◌∷◌, arith, sym, subst, ⊎_elim, point_of, Point, IsAt, Region, IsFar}
use Rattle.nef_ops.proofs.FarLabels.{each-none, each-more}
use Rattle.nef_ops.proofs.regions.regions_of.Goals as goal

-- where there are many points all were asked, and none lies in a region without a label
pub returns-clause-many : goal.returns-clause-many
returns-clause-many c many i k r p a b f n =
    ⊎_elim
    (λ e.
    let P : Region → Type 0 = λ (q : Region). IsNone q.label → (j : ℕ) (t : Point) → IsAt c.asked_of-asked.result.now j t → IsFar q.side (point_of t) → ⊥ in
    let all = each-more P c.region_past.result (c.region_past-2.result ∷ c.region_past-3.result ∷ c.region_past-4.result ∷ c.region_past-5.result ∷ c.region_past-6.result ∷ []) (c.region_past.ensures.none) (each-more P c.region_past-2.result (c.region_past-3.result ∷ c.region_past-4.result ∷ c.region_past-5.result ∷ c.region_past-6.result ∷ []) (c.region_past-2.ensures.none) (each-more P c.region_past-3.result (c.region_past-4.result ∷ c.region_past-5.result ∷ c.region_past-6.result ∷ []) (c.region_past-3.ensures.none) (each-more P c.region_past-4.result (c.region_past-5.result ∷ c.region_past-6.result ∷ []) (c.region_past-4.ensures.none) (each-more P c.region_past-5.result (c.region_past-6.result ∷ []) (c.region_past-5.ensures.none) (each-more P c.region_past-6.result ([]) (c.region_past-6.ensures.none) (each-none P)))))) in
    all i r a n k p (subst (λ (ps : List Point). IsAt ps k p) (sym e) b) f)
    (λ e. let l = e.1 in absurd (omega (arith, l, many)))
    c.asked_of-asked.ensures.asked

-- What the answers to questions say of a set.
use Rattle.example_bracket.proofs.Prelude.{◌≡◌, ◌↔◌, Bool, refl, subst, SpacePoint, InFrame, Set, Holds, Vector, HasLabel, Label, Out, Not, In}
use Rattle.nef_ray.specs.Ends.{IsRayEnd}
use Rattle.nef_ray.proofs.OneEnd.{one-end}
use Rattle.example_bracket.specs.Answers.{IsRayClear}

-- at a point of the frame the label is In just where the set holds
pub label-inside : (s : Set) (p : SpacePoint) (l : Label) → InFrame p → HasLabel s p l → (l ≡ In) ↔ Holds s p
label-inside s p In f h = (λ _. h.1, λ _. refl)
label-inside s p Not f h = (λ e. absurd (cc), λ g. absurd (h.1 g))
label-inside s p Out f h = (λ e. absurd (cc), λ g. absurd (h f))

-- the label at the end of a ray is Out just where nothing else comes before
pub end-clear : (s : Set) (p : SpacePoint) (d : Vector) (q : SpacePoint) (a : Bool) (l : Label) → IsRayEnd s p d q a l → (l ≡ Out) ↔ IsRayClear s p d
end-clear s p d q a l e = (λ o. (q, a, subst (λ (m : Label). IsRayEnd s p d q a m) o e), λ c. let one = one-end s p d q c.0 a c.1 l Out e c.2 in one.2)

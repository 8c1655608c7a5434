-- What is said of all Booleans is one equation that computes.
use Rattle.law_geometry.proofs.turns.Prelude.{◌≡◌, ap, Bool, true, false}

pub record Both (A : Type 0) : Type 0 where
  pub low : A
  pub high : A

abbrev pub both : {A : Type 0} → (Bool → A) → Both A
both f = record { low = f false; high = f true }

abbrev pub of_three : {A : Type 0} → (Bool → Bool → Bool → A) → Both (Both (Both A))
of_three f = both (λ b. both (λ c. both (f b c)))

pub each-bool : {A : Type 0} (f g : Bool → A) → both f ≡ both g → (b : Bool) → f b ≡ g b
each-bool {A} f g e true = ap (λ (r : Both A). r.high) e
each-bool {A} f g e false = ap (λ (r : Both A). r.low) e

pub each-three : {A : Type 0} (f g : Bool → Bool → Bool → A) → of_three f ≡ of_three g → (b c d : Bool) → f b c d ≡ g b c d
each-three f g e b c = each-bool (f b c) (g b c) (each-bool (λ i. both (f b i)) (λ i. both (g b i)) (each-bool (λ i. both (λ j. both (f i j))) (λ i. both (λ j. both (g i j))) e b) c)

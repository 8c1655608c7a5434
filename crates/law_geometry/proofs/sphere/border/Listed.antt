-- Elements of lists by their places, the sectors of stars, and what an option was made of.
use Rattle.law_geometry.proofs.sphere.border.Prelude.{◌≡◌, zero, arith, refl, ap, List, ◌∷◌, length, Option, Some, None, [], option_map, Label, IsAt, Ray, sector_count}

pub count-same : (rs qs : List Ray) → length qs ≡ length rs → sector_count qs ≡ sector_count rs
count-same [] [] e = refl
count-same [] (q ∷ qs) e = absurd (omega arith)
count-same (r ∷ rs) [] e = absurd (omega arith)
count-same (r ∷ rs) (q ∷ qs) e = e

-- a star without rays has one sector
pub sector-one : (rs : List Ray) (ls : List Label) → rs ≡ [] → length ls ≡ sector_count rs → (l : Label) × IsAt ls zero l
sector-one [] [] z e = absurd (omega arith)
sector-one [] (l ∷ ls) z e = (l, refl)
sector-one (r ∷ rs) ls z e = cc

-- ---- options
pub option-was : {A B : Type 0} (f : A → B) (o : Option A) (y : B) → option_map f o ≡ Some y → (x : A) × (o ≡ Some x) × (f x ≡ y)
option-was f None y e = cc
option-was {A} {B} f (Some x) y e = (x, refl, ap (get y) e)
  where
    get : B → Option B → B
    get d None = d
    get d (Some z) = z

pub none-was : {A B : Type 0} (f : A → B) (o : Option A) → option_map f o ≡ None → o ≡ None
none-was f None e = refl
none-was f (Some x) e = cc

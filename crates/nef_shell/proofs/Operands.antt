-- Operands, of which there may be none, one or two.
use Rattle.nef_shell.proofs.Prelude.{◌≡◌, ap, refl, IfSome, Option, Some, None, Bor, option_map, option_copied, option_zip, Set, Complex, IsShown}
use Rattle.std.proofs.lemmas.Option.{same_Some}

-- what holds of each that it is holds of it, if it is one
pub some-of : {A : Type 0} (o : Option A) (P : A → Type 0) → ((x : A) → o ≡ Some x → P x) → IfSome o P
some-of None P h = tt
some-of (Some x) P h = h x refl

pub zip-some : {A B : Type 0} (a : Option A) (b : Option B) (x : A) (y : B) → option_zip a b ≡ Some (x, y) → (a ≡ Some x) × (b ≡ Some y)
zip-some None b x y e = let f : None ≡ Some (x, y) = e in cc
zip-some (Some u) None x y e = let f : None ≡ Some (x, y) = e in cc
zip-some {A} {B} (Some u) (Some v) x y e = let same : (u, v) ≡ (x, y) = same_Some (u, v) (x, y) e in (ap (λ z. Some z.0) same, ap (λ z. Some z.1) same)

-- where they show sets both are there
pub zip-none : {A B : Type 0} (f : A → Complex) (g : B → Complex) (a : Option A) (b : Option B) (s t : Set) → option_zip a b ≡ None → IsShown s (option_map f a) → IsShown t (option_map g b) → ⊥
zip-none f g None b s t e shown also = shown
zip-none f g (Some u) None s t e shown also = also
zip-none f g (Some u) (Some v) s t e shown also = let h : Some (u, v) ≡ None = e in cc

-- and so are those of references
pub zip-lent : (a b : Option (Bor Complex)) (s t : Set) → option_zip a b ≡ None → IsShown s (option_copied a) → IsShown t (option_copied b) → ⊥
zip-lent None b s t e shown also = shown
zip-lent (Some u) None s t e shown also = also
zip-lent (Some u) (Some v) s t e shown also = let h : Some (u, v) ≡ None = e in cc

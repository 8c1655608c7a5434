-- What several boards want of options.
use Rattle.nef_core.proofs.Prelude.{◌≡◌, ℕ, Option, Some, None}

pub none-not_some : (h : Option ℕ) (n : ℕ) → h ≡ None → h ≡ Some n → ⊥
none-not_some h n a b = cc

pub some-some : {X : Type 0} (x y : X) → Some (Some x) ≡ Some (Some y) → x ≡ y
some-some x y e = cc

-- Half-spaces of forms that are positive multiples are the same set.
use Rattle.nef_statement.proofs.Prelude.{◌≡◌, refl, ◌∙◌, Bool, true, false, IsTrue, Form, form_at, Set, InHalf, SameSet, IsPositiveMultiple, sign_of, Minus, Zero, Plus}
use Rattle.std.specs.Prelude.{◌↔◌}
use Rattle.nef_space.specs.Sets.{Holds}
use Rattle.law_geometry.proofs.near.SameSets.{Alike, alike-same}
use Rattle.nef_geo.specs.declared.sign.Sign.{Sign}
use Rattle.nef_geo.proofs.Signs.{sign_of-multiple}
use Rattle.nef_expr.proofs.Holding.{half-minus, half-zero, half-plus}

half-alike : (h g : Form) (c : Bool) → IsPositiveMultiple h g → Alike (Set.half h c) (Set.half g c)
unfolding Holds
half-alike h g c m p i = by (sign_of (form_at h p)) refl
  where
    through : (b : Bool) → IsTrue b ↔ InHalf h c p → IsTrue b ↔ InHalf g c p → InHalf h c p ↔ InHalf g c p
    through b x y = (λ k. y.0 (x.1 k), λ k. x.0 (y.1 k))

    by : (s : Sign) → s ≡ sign_of (form_at h p) → InHalf h c p ↔ InHalf g c p
    by Minus e = through true (half-minus h c p e) (half-minus g c p (e ∙ sign_of-multiple h g m p))
    by Zero e = through c (half-zero h c p e) (half-zero g c p (e ∙ sign_of-multiple h g m p))
    by Plus e = through false (half-plus h c p e) (half-plus g c p (e ∙ sign_of-multiple h g m p))

pub same-half : (h g : Form) (c : Bool) → IsPositiveMultiple h g → SameSet (Set.half h c) (Set.half g c)
same-half h g c m = alike-same (Set.half h c) (Set.half g c) (half-alike h g c m)

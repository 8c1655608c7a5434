-- Signs of the program's products, and directions along the coordinate axes.
use Rattle.nef_smap.proofs.Prelude.{◌≡◌, ◌≢◌, ℤ, pos, ◌<ℤ◌, arith, ap, sym, ◌∙◌, subst, ints, minus, nought, plus, sign, plus-is, minus-is, nought-is, Vector, vector, IsZero, cross, triple, dot, up, opposite, sign_of, Minus, Zero, Plus, triple-dot}
use Rattle.nef_geo.specs.declared.sign.Sign.{Sign as GeoSign}
use Rattle.nef_smap.proofs.CloseSigns.{geo-of, geo-one}
use Rattle.law_geometry.specs.sphere.Forms.{axis_x}
use Rattle.law_geometry.specs.sphere.Forms.{axis_y}
use Rattle.law_geometry.specs.sphere.Forms.{axis_z}
use Rattle.nef_smap.proofs.Stands.{dot-opposite}

pub plus-of : (r : GeoSign) (z : ℤ) → r ≡ sign_of z → r ≡ Plus → pos 0 <ℤ z
plus-of r z e f = plus-is z (geo-one (sign z) plus (sym (geo-of z) ∙ sym e ∙ f))

pub minus-of : (r : GeoSign) (z : ℤ) → r ≡ sign_of z → r ≡ Minus → z <ℤ pos 0
minus-of r z e f = minus-is z (geo-one (sign z) minus (sym (geo-of z) ∙ sym e ∙ f))

pub zero-of : (r : GeoSign) (z : ℤ) → r ≡ sign_of z → r ≡ Zero → z ≡ pos 0
zero-of r z e f = nought-is z (geo-one (sign z) nought (sym (geo-of z) ∙ sym e ∙ f))

pub off-of : (r : GeoSign) (z : ℤ) → r ≡ sign_of z → r ≢ Zero → z ≢ pos 0
off-of r z e f h = f (e ∙ ap sign_of h)

pub back-along : (d a b : Vector) → b ≡ opposite a → dot d a <ℤ pos 0 → pos 0 <ℤ dot d b
back-along d a b e h = let q = dot-opposite d a in subst (λ (r : Vector). pos 0 <ℤ dot d r) (sym e) (omega (arith, ints))

-- a form that is nought along all axes is nought
pub axes-nought : (d x y z : Vector) → x ≡ axis_x → y ≡ axis_y → z ≡ axis_z → dot d x ≡ pos 0 → dot d y ≡ pos 0 → dot d z ≡ pos 0 → IsZero d
axes-nought d x y z a b c p q r =
    let along = λ (v e : Vector) (f : v ≡ e) (h : dot d v ≡ pos 0). subst (λ (w : Vector). dot d w ≡ pos 0) f h in
    let i : dot d axis_x ≡ pos 0 = along x axis_x a p in
    let j : dot d axis_y ≡ pos 0 = along y axis_y b q in
    let k : dot d axis_z ≡ pos 0 = along z axis_z c r in
    (omega (arith, ints), omega (arith, ints), omega (arith, ints))

-- the triple product with the upward direction
pub up-triple : (r : GeoSign) (u d a : Vector) → r ≡ sign_of (triple u d a) → u ≡ up → r ≡ sign_of (dot (cross up d) a)
up-triple r u d a e f = e ∙ ap sign_of (triple-dot u d a ∙ ap (λ (v : Vector). dot (cross v d) a) f)

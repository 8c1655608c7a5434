-- A set that is turned in plain words is the turned set of the laws of turns.
use Rattle.nef_statement.proofs.Prelude.{◌≡◌, ℕ, zero, suc, ◌/◌, ◌%◌, ℤ, refl, ap, get_or, Form, form, Set, Triple, ordered, turned_plane, orders, signed_by, turned_form, turned_set}
use Rattle.law_geometry.specs.turns.Turned.{turned_set as turned_image}
use Rattle.nef_space.proofs.Elementary.{equal-pairs}

order-same : (n : ℕ) (x y z : ℤ) → get_or (orders x y z) n (z, y, x) ≡ ordered n (x, y, z)
order-same zero x y z = refl
order-same (suc zero) x y z = refl
order-same (suc (suc zero)) x y z = refl
order-same (suc (suc (suc zero))) x y z = refl
order-same (suc (suc (suc (suc zero)))) x y z = refl
order-same (suc (suc (suc (suc (suc zero))))) x y z = refl
order-same (suc (suc (suc (suc (suc (suc n)))))) x y z = refl

form-same : (k : ℕ) (f : Form) → turned_form k f ≡ turned_plane k f
form-same k f = ap (λ (n : Triple). form (signed_by 1 (k % 8) n.0) (signed_by 2 (k % 8) n.1) (signed_by 4 (k % 8) n.2) f.d) (order-same (k / 8) f.a f.b f.c)

pub set-same : (k : ℕ) (s : Set) → turned_set k s ≡ turned_image k s
set-same k (Set.half f c) = ap (λ g. Set.half g c) (form-same k f)
set-same k Set.empty = refl
set-same k Set.full = refl
set-same k (Set.both a b) = equal-pairs Set.both (set-same k a) (set-same k b)
set-same k (Set.either a b) = equal-pairs Set.either (set-same k a) (set-same k b)
set-same k (Set.less a b) = equal-pairs Set.less (set-same k a) (set-same k b)
set-same k (Set.one_of a b) = equal-pairs Set.one_of (set-same k a) (set-same k b)
set-same k (Set.other a) = ap Set.other (set-same k a)
set-same k (Set.inside a) = ap Set.inside (set-same k a)
set-same k (Set.closed a) = ap Set.closed (set-same k a)
set-same k (Set.border a) = ap Set.border (set-same k a)
set-same k (Set.regular a) = ap Set.regular (set-same k a)

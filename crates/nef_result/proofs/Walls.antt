-- The sides of the frame by their axis and end, and the germs of a set that holds all of the frame or nothing of it.
use Rattle.nef_result.proofs.Prelude.{◌≡◌, pos, negsuc, arith, refl, sym, ◌∙◌, ◌⊎◌, inl, inr, Bool, true, false, subst, ints, minus, nought, sign, Lies, lies-left, SpacePoint, Form, slope, InFrame, Vector, Set, halves, HasLabel, Germ, Label, Out, Not, In, reach_all, step-within, sign_at, side, frame, carriers, keeps-all, coordinate-in, label_of, frame-minus, Germ-from_sample, sample, sample-short, sign-along}
use Rattle.nef_space.specs.Sets.{Holds}
use Rattle.law_geometry.proofs.near.Decisions.{ahead}
use Rattle.nef_space.proofs.Elementary.{minus-not_nought}

pub data Axis : Type 0 where
  on_x : Axis
  on_y : Axis
  on_z : Axis

abbrev pub wall : Axis → Bool → Form
wall on_x true = side (pos 1) (pos 0) (pos 0)
wall on_x false = side (negsuc 0) (pos 0) (pos 0)
wall on_y true = side (pos 0) (pos 1) (pos 0)
wall on_y false = side (pos 0) (negsuc 0) (pos 0)
wall on_z true = side (pos 0) (pos 0) (pos 1)
wall on_z false = side (pos 0) (pos 0) (negsuc 0)

pub wall-listed : (a : Axis) (b : Bool) → Lies frame (wall a b)
wall-listed on_x true = inl refl
wall-listed on_x false = inr (inl refl)
wall-listed on_y true = inr (inr (inl refl))
wall-listed on_y false = inr (inr (inr (inl refl)))
wall-listed on_z true = inr (inr (inr (inr (inl refl))))
wall-listed on_z false = inr (inr (inr (inr (inr (inl refl)))))

pub listed-wall : (h : Form) → Lies frame h → (a : Axis) × (b : Bool) × (wall a b ≡ h)
listed-wall h (inl e) = (on_x, true, e)
listed-wall h (inr (inl e)) = (on_x, false, e)
listed-wall h (inr (inr (inl e))) = (on_y, true, e)
listed-wall h (inr (inr (inr (inl e)))) = (on_y, false, e)
listed-wall h (inr (inr (inr (inr (inl e))))) = (on_z, true, e)
listed-wall h (inr (inr (inr (inr (inr (inl e)))))) = (on_z, false, e)
listed-wall h (inr (inr (inr (inr (inr (inr e)))))) = absurd e

-- a point on the inward side of all six is in the frame
pub inside-all : (q : SpacePoint) → ((a : Axis) (b : Bool) → sign_at (wall a b) q ≡ minus) → InFrame q
inside-all q f = record {
  along_x = (coordinate-in (wall on_x true) (wall on_x false) q.x q (omega (arith, ints)) (omega (arith, ints))).1 (f on_x true, f on_x false);
  along_y = (coordinate-in (wall on_y true) (wall on_y false) q.y q (omega (arith, ints)) (omega (arith, ints))).1 (f on_y true, f on_y false);
  along_z = (coordinate-in (wall on_z true) (wall on_z false) q.z q (omega (arith, ints)) (omega (arith, ints))).1 (f on_z true, f on_z false);
}

-- a set with one label in all of the frame, and no carriers but the frame's sides
pub record IsOneLabelSet (s : Set) (l : Label) : Type 0 where
  pub inside : (p : SpacePoint) → InFrame p → HasLabel s p l
  pub only : (h : Form) → Lies (carriers s) h → Lies frame h
  pub some : l ≡ Out → ⊥

pub full-whole : IsOneLabelSet Set.full In
unfolding Holds
full-whole = record { inside = λ p i. (i, tt); only = λ h l. l; some = λ e. cc }

pub empty-whole : IsOneLabelSet Set.empty Not
unfolding Holds
empty-whole = record { inside = λ p i. (i, λ h. h); only = λ h l. l; some = λ e. cc }

-- the point is on the inward side of the wall, or on the wall with the direction leading inward
abbrev pub LeadsIn : SpacePoint → Vector → Axis → Bool → Type 0
LeadsIn p d a b = (sign_at (wall a b) p ≡ minus) ⊎ ((sign_at (wall a b) p ≡ nought) × (sign (slope (wall a b) d) ≡ minus))

-- a direction that leads inward from all six leads into the frame
inward-framed : (s : Set) (p : SpacePoint) (d : Vector) → ((a : Axis) (b : Bool) → LeadsIn p d a b) → InFrame (ahead s p d)
inward-framed s p d f = inside-all (ahead s p d) (λ a b. by a b (f a b))
  where
    by : (a : Axis) (b : Bool) → LeadsIn p d a b → sign_at (wall a b) (ahead s p d) ≡ minus
    by a b (inl e) = keeps-all (carriers s) p (ahead s p d) (step-within (reach_all (carriers s) p) p d (sample s p d) (sample-short s p d)) (wall a b)
        (lies-left frame (halves s) (wall a b) (wall-listed a b)) (minus-not_nought (sign_at (wall a b) p) e) ∙ e
    by a b (inr (z, e)) = sign-along (wall a b) p (sample s p d) d z (sample-short s p d).0 ∙ e

pub germ-inward : (s : Set) (l : Label) → IsOneLabelSet s l → (p : SpacePoint) (d : Vector) → ((a : Axis) (b : Bool) → LeadsIn p d a b) → Germ s p d l
germ-inward s l W p d f = Germ-from_sample s p d l (W.inside (ahead s p d) (inward-framed s p d f))

-- so the germ there isn't Out, whatever the set
pub germ-framed : (s : Set) (p : SpacePoint) (d : Vector) → ((a : Axis) (b : Bool) → LeadsIn p d a b) → (l : Label) × (l ≡ Out → ⊥) × Germ s p d l
germ-framed s p d f =
    let l = label_of s (ahead s p d) in
    (l.0, λ e. subst (HasLabel s (ahead s p d)) e l.1 (inward-framed s p d f), Germ-from_sample s p d l.0 l.1)

pub germ-outward : (s : Set) (p : SpacePoint) (d : Vector) (a : Axis) (b : Bool) → sign_at (wall a b) p ≡ nought → (sign (slope (wall a b) d) ≡ minus → ⊥) → Germ s p d Out
germ-outward s p d a b z n = Germ-from_sample s p d Out (λ i.
    n (sym (sign-along (wall a b) p (sample s p d) d z (sample-short s p d).0) ∙ frame-minus (ahead s p d) i (wall a b) (wall-listed a b)))

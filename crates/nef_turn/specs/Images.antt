-- Lists of images, and lists without two elements that are the same in some respect.
use Rattle.std.specs.Prelude.{◌≡◌, ℕ, List, length}
use Rattle.nef_space.specs.Lists.{IsAt}
-- no two numbers have elements of the list that are the same in some respect
pub use Rattle.nef_spair.specs.Arcs.{StandApart as AreApart}

-- ys has the images of the first n elements of xs, one by one, where R relates an element to its images
pub record AreImages {A B : Type 0} (R : ℕ → A → B → Type 0) (n : ℕ) (xs : List A) (ys : List B) : Type 0 where
  pub count : length ys ≡ n
  pub each : (j : ℕ) (y : B) → IsAt ys j y → (x : A) × IsAt xs j x × R j x y

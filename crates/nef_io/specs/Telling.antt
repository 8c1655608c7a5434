-- Writers that tell what they hold.
use Rattle.std.specs.Prelude.{◌≢◌, ℕ, List, [], Option, None, Some}

-- each writer of this kind tells what it holds
abbrev pub AlwaysTells : {W : Type 0} → (W → Option (List ℕ)) → Type 0
AlwaysTells {W = W} contents = (w : W) → contents w ≢ None

-- the bytes that are told, or no bytes where none are told
abbrev pub told_bytes : Option (List ℕ) → List ℕ
told_bytes None = []
told_bytes (Some bytes) = bytes

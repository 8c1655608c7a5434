-- What shows a set, where an error is left out.
use Rattle.tests_places.proofs.Prelude.{◌≡◌, Option, Result, Ok, Err, IfOk, IfSome, sym, subst, Set, Complex, ShowsSet}
use Rattle.std.specs.Result.{result_ok}

abbrev pub ShowsSome : Complex → Type 0
ShowsSome c = (s : Set) × ShowsSet s c

pub shown : {E : Type 0} {P : Complex → Type 0} (r : Result Complex E) (o : Option Complex) → o ≡ result_ok r → ((c : Complex) → P c → ShowsSome c) → IfOk r P → IfSome o ShowsSome
shown (Ok x) o e f p = subst (λ (t : Option Complex). IfSome t ShowsSome) (sym e) (f x p)
shown (Err x) o e f p = subst (λ (t : Option Complex). IfSome t ShowsSome) (sym e) tt

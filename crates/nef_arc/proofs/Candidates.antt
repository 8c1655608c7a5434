-- The directions on two arcs: two opposite candidates, and what is left where each is tried.
use Rattle.nef_arc.proofs.Prelude.{◌≡◌, ◌⊎◌, inl, inr, sym, subst, Vector, cross, opposite, IsParallel, SameDirection, direction_numbers, IsBelow, arcs_are_of_directions, two_meets_at, Arc, normal_vector, source_vector, target_vector, IsOnBoth, IsOneCrossing, IsTwoCrossings, SameDirection-turned}
use Rattle.nef_arc.proofs.Ends.{source_on, target_on}

-- x and y are opposite, and x is that of the cross product of the normals
pub record Candidates (a b : Arc) (x y : Vector) : Type 0 where
  pub apart : IsParallel (normal_vector a) (normal_vector b) → ⊥
  pub crossed : SameDirection (cross (normal_vector a) (normal_vector b)) x
  pub opposed : y ≡ opposite x

same_on_both : (a b : Arc) (d e : Vector) → SameDirection d e → IsOnBoth a b d → IsOnBoth a b e
same_on_both a b d e h on = record {
  first = arcs_are_of_directions (normal_vector a) (source_vector a) (target_vector a) d e a.normal.some (source_on a) (target_on a) h on.first;
  second = arcs_are_of_directions (normal_vector b) (source_vector b) (target_vector b) d e b.normal.some (source_on b) (target_on b) h on.second;
}

one_of_two : (a b : Arc) (x y d : Vector) → Candidates a b x y → IsOnBoth a b d → SameDirection x d ⊎ SameDirection y d
one_of_two a b x y d c on =
    subst (λ (v : Vector). SameDirection x d ⊎ SameDirection v d) (sym c.opposed)
    (two_meets_at (normal_vector a) (normal_vector b) x d c.apart (SameDirection-turned (cross (normal_vector a) (normal_vector b)) x c.crossed) on.first.on_circle on.second.on_circle)

pub none_on : (a b : Arc) (x y : Vector) → Candidates a b x y → (IsOnBoth a b x → ⊥) → (IsOnBoth a b y → ⊥) → (d : Vector) → IsOnBoth a b d → ⊥
none_on a b x y c n m d on = from (one_of_two a b x y d c on)
  where
    from : SameDirection x d ⊎ SameDirection y d → ⊥
    from (inl h) = n (same_on_both a b d x (SameDirection-turned x d h) on)
    from (inr h) = m (same_on_both a b d y (SameDirection-turned y d h) on)

pub first_on : (a b : Arc) (x y : Vector) → Candidates a b x y → IsOnBoth a b x → (IsOnBoth a b y → ⊥) → IsOneCrossing a b x
first_on a b x y c n m = record { on = n; alone = λ d on. from d on (one_of_two a b x y d c on) }
  where
    from : (d : Vector) → IsOnBoth a b d → SameDirection x d ⊎ SameDirection y d → SameDirection x d
    from d on (inl h) = h
    from d on (inr h) = absurd (m (same_on_both a b d y (SameDirection-turned y d h) on))

pub second_on : (a b : Arc) (x y : Vector) → Candidates a b x y → (IsOnBoth a b x → ⊥) → IsOnBoth a b y → IsOneCrossing a b y
second_on a b x y c n m = record { on = m; alone = λ d on. from d on (one_of_two a b x y d c on) }
  where
    from : (d : Vector) → IsOnBoth a b d → SameDirection x d ⊎ SameDirection y d → SameDirection y d
    from d on (inr h) = h
    from d on (inl h) = absurd (n (same_on_both a b d x (SameDirection-turned x d h) on))

pub both_on : (a b : Arc) (x y : Vector) → Candidates a b x y → IsOnBoth a b x → IsOnBoth a b y → IsBelow (direction_numbers x) (direction_numbers y) → IsTwoCrossings a b x y
both_on a b x y c n m below = record { first_on = n; second_on = m; in_order = below; alone = λ d on. one_of_two a b x y d c on }

pub both_on_turned : (a b : Arc) (x y : Vector) → Candidates a b x y → IsOnBoth a b x → IsOnBoth a b y → IsBelow (direction_numbers y) (direction_numbers x) → IsTwoCrossings a b y x
both_on_turned a b x y c n m below = record { first_on = m; second_on = n; in_order = below; alone = λ d on. turned (one_of_two a b x y d c on) }
  where
    turned : {P Q : Type 0} → P ⊎ Q → Q ⊎ P
    turned (inl h) = inr h
    turned (inr h) = inl h

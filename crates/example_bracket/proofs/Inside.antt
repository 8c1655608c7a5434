-- The bracket holds at the points that are in one of its legs by their numbers.
use Rattle.example_bracket.proofs.Prelude.{◌↔◌, pos, arith, inl, inr, ints, SpacePoint, turned_set, hole, leg, bracket, IsInHole, IsInLeg, IsInBracket}
use Rattle.nef_space.specs.Sets.{Holds}

module _ (p : SpacePoint) where
  hole-numbers : Holds hole p → IsInHole p.x p.y (pos p.w)
  unfolding Holds
  hole-numbers h =
      let a = h.0.0.0.1 in let b = h.0.0.1 in let c = h.0.1 in let d = h.1 in
      record { left = omega (arith, ints, a); right = omega (arith, ints, b); front = omega (arith, ints, c); back = omega (arith, ints, d) }

  numbers-hole : IsInHole p.x p.y (pos p.w) → Holds hole p
  unfolding Holds
  numbers-hole n =
      let a = n.left in let b = n.right in let c = n.front in let d = n.back in
      ((((tt, omega (arith, ints, a)), omega (arith, ints, b)), omega (arith, ints, c)), omega (arith, ints, d))

  pub leg-numbers : Holds leg p → IsInLeg p.x p.y p.z (pos p.w)
  unfolding Holds
  leg-numbers h =
      let g = h.0 in
      let a = g.0.0.0.0.0.1 in let b = g.0.0.0.0.1 in let c = g.0.0.0.1 in let d = g.0.0.1 in let e = g.0.1 in let f = g.1 in
      record {
        left = omega (arith, ints, a);
        right = omega (arith, ints, b);
        front = omega (arith, ints, c);
        back = omega (arith, ints, d);
        under = omega (arith, ints, e);
        over = omega (arith, ints, f);
        beside = λ n. h.1 (numbers-hole n);
      }

  pub numbers-leg : IsInLeg p.x p.y p.z (pos p.w) → Holds leg p
  unfolding Holds
  numbers-leg n =
      let a = n.left in let b = n.right in let c = n.front in let d = n.back in let e = n.under in let f = n.over in
      (((((((tt, omega (arith, ints, a)), omega (arith, ints, b)), omega (arith, ints, c)), omega (arith, ints, d)), omega (arith, ints, e)), omega (arith, ints, f)), (λ h. n.beside (hole-numbers h)))

  -- the leg with x and z exchanged
  turned-numbers : Holds (turned_set 40 leg) p → IsInLeg p.z p.y p.x (pos p.w)
  unfolding Holds
  turned-numbers h =
      let g = h.0 in
      let a = g.0.0.0.0.0.1 in let b = g.0.0.0.0.1 in let c = g.0.0.0.1 in let d = g.0.0.1 in let e = g.0.1 in let f = g.1 in
      record {
        left = omega (arith, ints, a);
        right = omega (arith, ints, b);
        front = omega (arith, ints, c);
        back = omega (arith, ints, d);
        under = omega (arith, ints, e);
        over = omega (arith, ints, f);
        beside = λ n.
            let q = n.left in let r = n.right in let s = n.front in let t = n.back in
            h.1 ((((tt, omega (arith, ints, q)), omega (arith, ints, r)), omega (arith, ints, s)), omega (arith, ints, t));
      }

  numbers-turned : IsInLeg p.z p.y p.x (pos p.w) → Holds (turned_set 40 leg) p
  unfolding Holds
  numbers-turned n =
      let a = n.left in let b = n.right in let c = n.front in let d = n.back in let e = n.under in let f = n.over in (
        ((((((tt, omega (arith, ints, a)), omega (arith, ints, b)), omega (arith, ints, c)), omega (arith, ints, d)), omega (arith, ints, e)), omega (arith, ints, f)),
        (λ h.
            let q = h.0.0.0.1 in let r = h.0.0.1 in let s = h.0.1 in let t = h.1 in
            n.beside (record { left = omega (arith, ints, q); right = omega (arith, ints, r); front = omega (arith, ints, s); back = omega (arith, ints, t) })),
      )

  pub bracket-inside : Holds bracket p ↔ IsInBracket p
  unfolding Holds
  bracket-inside = (
    λ h. elim h as (λ _. IsInBracket p) [ inl x ↦ inl (leg-numbers x) | inr y ↦ inr (turned-numbers y) ],
    λ n. elim n as (λ _. Holds bracket p) [ inl x ↦ inl (numbers-leg x) | inr y ↦ inr (numbers-turned y) ],
  )

-- The names that most proofs cite, passed on from one place. Declares nothing.
pub use Rattle.nef_geo.proofs.Prelude.{Bool, Equal, Greater, IsBelow, IsDirection, IsParallel, Less, MatchOrdering, Ordering, SameDirection, Vector, [], ap, arith, cross, direction_numbers, dot, false, inl, inr, ints, negsuc, of_z, opposite, pos, refl, rules, self-pos, sign_of, subst, suc, sym, to_z, to_z-of_z, triple, true, vector_of, zero, ℤ, ◌<ℤ◌, ◌<◌, ◌^◌, ◌↔◌, ◌∙◌, ◌∷◌, ◌≡◌, ◌⊎◌}
pub use Rattle.law_geometry.proofs.sphere.cyclic.Prelude.{AboutThree, All, IsOnCircle, IsSign, IsStrictlyOn, SameDirection-turned, between_signs, level-opposite}
pub use Rattle.std.proofs.Common.{w8}
pub use Rattle.nef_geo.specs.Signs.{sign_number}
pub use Rattle.nef_geo.specs.declared.sign.Sign.{Sign}
pub use Rattle.law_geometry.proofs.sphere.cyclic.Directions.{arcs_are_of_directions, two_meets_at, way_back_passes_the_same}
pub use Rattle.nef_arc.specs.Arcs.{IsArcCrossing, IsBeforeTarget, IsEndOfArc, IsOn, IsOnBefore, IsOnBoth, IsOneCrossing, IsPassedByArc, IsPastSource, IsTwoCrossings, PastAndBefore, normal_vector, source_vector, target_vector}
pub use Rattle.nef_arc.specs.declared.arc.Arc.{Arc}

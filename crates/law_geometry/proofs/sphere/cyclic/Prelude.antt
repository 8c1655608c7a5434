-- The names that most proofs cite, passed on from one place. Declares nothing.
pub use Rattle.nef_space.proofs.Prelude.{Bool, List, [], ap, arith, cond, false, inl, inr, ints, neg_ℤ, negsuc, pos, refl, subst, suc, sym, true, zero, ℤ, ◌*ℤ◌, ◌+ℤ◌, ◌+◌, ◌-ℤ◌, ◌<ℤ◌, ◌↔◌, ◌∙◌, ◌∷◌, ◌≡◌, ◌≤ℤ◌, ◌⊎◌}
pub use Rattle.nef_case.proofs.Prelude.{All, IsSign}
pub use Rattle.nef_space.proofs.Ring.{neg, num, ◌⊕◌, ◌⊖◌, ◌⊗◌}
pub use Rattle.nef_space.proofs.Vectors.{SameDirection-trans, SameDirection-turned, crossed, direction-left, direction-opposite, direction-right, dot-comm, dot-scaled, dot-zero, dot_poly, level-opposite, level-opposite-back, level-way, nought-if, numbers, opposite-same, parallel-in_plane, pos-self, same_or_opposite, self-pos, triple-back, triple-dot, triple-middle, triple-opposite, triple_poly}
pub use Rattle.nef_space.specs.Vectors.{IsDirection, IsParallel, SameDirection, Vector, cross, dot, opposite, triple}
pub use Rattle.nef_case.proofs.Rows.{every_key, passes_at}
pub use Rattle.nef_case.specs.Between.{between_signs}
pub use Rattle.law_geometry.specs.sphere.cyclic.Arcs.{AboutFour, AboutThree, IsOnCircle, IsStrictlyOn, Passes}
pub use Rattle.law_geometry.specs.sphere.cyclic.Laws.{ArcsAreOfDirections, ClassesAreArcs, InSector, NearerOnes, NeverBothWays, NextRises, NoRayBetween, OneIsFirst, OrderIsCyclic, OrderIsTransitive, SameInPlace, SectorHolds, SeenFromAfter, SeenFromBetween, SeenFromLater, TwoMeets, WayBackPassesTheSame, WaysGlue, WaysSplit}

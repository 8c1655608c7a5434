use Rattle.nef_cand.proofs.Prelude.{[], SpacePoint, form_of, Plane, complex_of, IsCutBy, IsNamedIn, AddsPoints}
use Rattle.nef_cand.proofs.Adding.{AnyFirst}
use Rattle.nef_cand.proofs.listing.plane_cuts.Given as goal

abbrev pub invariant-loop-h : goal.invariant-loop-h
invariant-loop-h l = record { added : AddsPoints (AnyFirst (λ (h : Plane) (y : SpacePoint). IsCutBy (complex_of l.c) (form_of h) y) l.planes l.h-index) (IsNamedIn l.operand (complex_of l.c)) [] l.listed.items }

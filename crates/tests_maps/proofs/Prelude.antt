-- The names that most proofs cite, passed on from one place. Declares nothing.
pub use Rattle.nef_spair.proofs.Prelude.{IsLeastMap, Label, List, Ray, [], ap, length, ◌++◌, ◌∙◌, ◌∷◌, ◌≡◌}

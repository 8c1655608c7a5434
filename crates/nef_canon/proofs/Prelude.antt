-- The names that most proofs cite, passed on from one place. Declares nothing.
pub use Rattle.nef_complex.proofs.Prelude.{Err, rules, List, None, Ok, Option, Result, Some, [], ap, append-nil, append_assoc, arith, get_or, get_or_from_slice_get, length, refl, slice_get, subst, suc, sym, take, take_all, zero, ℕ, ℤ, ◌++◌, ◌+◌, ◌<◌, ◌∙◌, ◌∷◌, ◌≡◌, ◌≤◌}
pub use Rattle.std.proofs.Common.{MatchOption, OnOk, codes, decimal, if◌then◌else◌, is_ok, option_to_list}
pub use Rattle.std.proofs.lemmas.List.{flat_map_more, map-append, take_more}
pub use Rattle.std.proofs.lemmas.Result.{on_ok_weaker}
pub use Rattle.std.specs.Fmt.{signed_decimal}
pub use Rattle.std.specs.List.{flat_map, join_with_byte}
pub use Rattle.nef_core.specs.declared.work.TextVersion.{TextVersion}
pub use Rattle.nef_complex.specs.Text.{Word, arc_line, corner_words, cycle_line, edge_line, facet_line, facet_text, first_line, line, numbers, sface_line, shell_line, side_words, sloop_line, svertex_line, text, vertex_line, vertex_text, vertices_text, volume_line, volumes_text, with_rows}
pub use Rattle.nef_canon.specs.Words.{blanked}

-- The names that most proofs cite, passed on from one place. Declares nothing.
pub use Rattle.nef_geo.proofs.Prelude.{IsStretched, IsZeroStep, ◌&&◌}
pub use Rattle.nef_conn.proofs.Prelude.{between-way, is-at_first, is-at_none}
pub use Rattle.nef_smap.proofs.Prelude.{Minus, Plus, Zero}
pub use Rattle.nef_ray.proofs.Prelude.{Changes, Complex, Decided, Germ-same, HasOppositeSigns, IsCrossing, IsRayEnd, IsReachedBy, Label-cells, ahead-back, ahead-same, between-same, between-turned, direction-left, label-one, label_of, near-same, one-crossing, opposite, plane-point, plane-slope, plane-turned, reach_all, same-point_sym, sign-toward, signs-same, slope-same, start, start-between, start-close, within-self}
pub use Rattle.law_geometry.proofs.turns.Prelude.{Closure, Interior, ordered}
pub use Rattle.nef_expr.proofs.Prelude.{AreWithOperands, InHalf, IsComposition, IsMarked, IsOrdered, IsTrue, IsTurnedNode, OperandsTurned, Oriented, Shape, node_set, set_of, sets_after, sign_of, slice_index}
pub use Rattle.nef_statement.proofs.text.Prelude.{All, Arc, Belongs, Bool, Corner, Cycle, Dir, Edges, Facet, FlatDim-by_cone, Form, Germ, HasLabel, Holds, In, InFrame, IsAt, IsCorner, IsDirection, IsEdgePoint, IsFacetPoint, IsNormal, IsOnEdges, IsParts, IsSkeletonPoint, IsSpot, Item, Label, Lies, List, MapSloop, MapVertex, NearLabel, None, Not, One, Option, Out, Parts, Plane, Point, SArc, SLoop, SVertex, SameDirection, SameDirection-trans, SameDirection-turned, SamePoint, SameSet, Set, Shell, Shows, Some, SpacePoint, Spells, Spot, SpotMark, TextVersion, Towards, Two, Vector, Vertex, Word, [], ap, append_assoc, arc_line, arc_of, arith, at, is-at_one, at_vertex, carriers, complex_of, cond, cones-of_same, corner_words, counts, cycle_line, decimal, digit_glyph, digits_onto, dir-self, dir_of, direction_limit, edge_line, edge_of, faced_text, facet-of, facet_line, facet_text, false, first_line, flat_map, form_at, form_of, get_or, in_facet, inl, inr, ints, label_word, length, length-map, line, map, mul_pos, nat_abs, nat_eq, neg, neg_ℤ, negsuc, normal_of, num, numbers, off_skeleton, offset_limit, on_edge, on_skeleton, option_word, point_limit, point_of, pos, refl, ring, same_points_equal, set-vertices, sface_line, shell_line, shelled_text, side_words, sign, signed_decimal, slice_get, sloop_line, sloop_of, slope, subst, suc, svertex_line, svertex_of, sym, text, toward, true, vector, version_word, vertex_line, vertex_of, vertex_text, vertices_text, volume_line, volumes_text, weight_limit, with_rows, zero, ℕ, ℤ, ⊎_elim, ◌%◌, ◌*ℤ◌, ◌*◌, ◌++◌, ◌+ℤ◌, ◌+◌, ◌/◌, ◌<ℤ◌, ◌<◌, ◌==◌, ◌^◌, ◌↔◌, ◌∙◌, ◌∷◌, ◌≡◌, ◌≤◌, ◌⊎◌, ◌⊕◌, ◌⊗◌}
pub use Rattle.nef_statement.proofs.text.existence.Prelude.{AreSmallForms, AreTurnsOf, DividesAll, HasComponents, IsEven, IsEvenPath, IsSmallForm, Joined, SamePlane, Triple, dot_size, eq-decided, lies-append, lowest_form-turned, negated_if, normal-choice, normal_within, part_small, same-point_trans, signed, turned_plane, upright-by_maps}
pub use Rattle.nef_io.proofs.Prelude.{Grows, take-length}
pub use Rattle.nef_lex.proofs.Prelude.{IsGap, IsParted, IsRest, IsWord, decimal_value, is_digits, is_gap, is_word_byte, number_of}
pub use Rattle.nef_words.proofs.Prelude.{option_map, unwrap_or}
pub use Rattle.nef_script.proofs.Prelude.{AddsLine, AddsWords, All-cons, All-nil, AreOrigins, FirstRefusal, HasOrigin, HasRead, IsAccepted, IsAtMost, IsBind, IsBinding, IsCopyOf, IsNodeOfLine, IsPointAtMost, IsPositiveMultiple, IsQuestion, IsQuotient, IsSoundState, IsTurn, KeepsRayLimits, LacksFeed, MeansCommand, MeansLines, MeansWords, NamesNode, Node, NodeTable, ReadState, Sets, Stays, TurnOf, append-nil, bases_of, binds, bound_name, bytes_eq, cases_Bool, command_tests, each_ended, enumerate_from, eqb-true, filter, filter-append, form, given_form, has_words, has_zero_direction, has_zero_normal, if◌then◌else◌, is_bad_byte, is_line_feed, is_own, is_some, is_zero, le-leb, leb-true, length-append, line_limit, line_refusal, lines_of, list_any, ltb-false, name_count_limit, names_of, nat_lt, ne_eqb, normal_limit, not, number_or_zero, on_verb, origin, pieces_of, point_at, pos-abs, position, position_from, query_limit, query_weight_limit, ray_direction_limit, ray_point_limit, ray_weight_limit, roles, script_limit, sets_of, slice_get-get_or, slice_get-left, slice_get-seam, slice_get_within, stairs_text, state, table, take, take-append_seam, vector_of, verb_of, without_return, word_test, words_of, words_tests, ◌-◌, ◌||◌}
pub use Rattle.std.proofs.Common.{find}
pub use Rattle.std.proofs.Props.{props}
pub use Rattle.std.proofs.lemmas.Bool.{and_parts, leb-false, or_parts}
pub use Rattle.std.proofs.lemmas.List.{take-append-drop}
pub use Rattle.std.specs.List.{join_with_byte, list_all, zip}
pub use Rattle.std.specs.Prelude.{codes, drop, int_le, nat_le, option_to_list}
pub use Rattle.law_geometry.proofs.near.Alike.{Joined-same}
pub use Rattle.law_geometry.proofs.near.Decided.{InFrame-decided}
pub use Rattle.nef_index.specs.declared.skeleton.Edge.{Edge}
pub use Rattle.nef_expr.proofs.Operands.{names-from, operand-below}
pub use Rattle.nef_expr.proofs.Tables.{IsCopying, base-image, base-new, copy-image, copy-is, copy-there, copying-length, copying-more, copying-operands, copying-start, new-image, new-names, ordered-push, origins-push, stays-same, stays-twice}
pub use Rattle.nef_statement.proofs.text.existence.Points.{point-with}
pub use Rattle.nef_io.specs.Bytes.{GrowsWithin, Rose}
pub use Rattle.nef_words.specs.Grammar.{options_in}
pub use Rattle.nef_words.specs.declared.words.Options.{Options}
pub use Rattle.nef_script.proofs.LineByLine.{HasRead-end, HasRead-next, HasRead-refused, HasRead-start, first_state, names_of-push}
pub use Rattle.nef_script.proofs.RefusalLaws.{decided, never_both, one_refusal}
pub use Rattle.nef_script.specs.Meaning.{MeansScript}
pub use Rattle.nef_script.specs.Tests.{is_from}
pub use Rattle.nef_script.specs.declared.arguments.Verb.{Verb}
pub use Rattle.nef_script.specs.declared.script.Command.{Command}
pub use Rattle.nef_script.specs.declared.script.ScriptKind.{ScriptKind}
pub use Rattle.nef_statement.specs.Denotes.{Bindings, bound_after, bound_set, denoted, made_of_both, orders, set_named, signed_by, turned_form, turned_set}
pub use Rattle.nef_statement.specs.Meanings.{EachMeans, NodesDenote}
pub use Rattle.nef_statement.specs.Means.{AreBytesRead, Means, ReadSource}
pub use Rattle.nef_statement.specs.Output.{IsJoinedAnswer, IsRayAnswer, IsSameAnswer, answer_of, end_line, framed, line_end, number_and_blank, refusal_line, words_line}
pub use Rattle.nef_statement.specs.Reader.{AreAllEdges, TextSays, Told, line_rows, number_at, positive, told_by, vertices_told, with_edges, with_row, word_at}
pub use Rattle.nef_statement.specs.Said.{AreSaid, IsSaid, IsSaidBy}
pub use Rattle.nef_statement.specs.Same.{AsMeant, AskTheSame, FirstLinesSay, OneMeaning, OneOutput, SameOutput, SameStatus, WroteOf}
pub use Rattle.nef_statement.specs.Statement.{Ended, IsMeant, Statement, WroteFront}
pub use Rattle.nef_statement.specs.Texts.{IsText, IsWrittenOf, count_line}
pub use Rattle.nef_statement.specs.Traffic.{Traffic}
pub use Rattle.nef_statement.specs.Written.{CountTells}
pub use Rattle.nef_statement.specs.declared.status.Status.{Status}
pub use Rattle.nef_statement.specs.declared.status.Status.TheVariants.{Done, OutOfMemory, ReadFault, Refused, Words, WriteFault}

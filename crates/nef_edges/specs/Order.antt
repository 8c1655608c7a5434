-- The order of the ends of edges: by their lines, then by their vertices.
use Rattle.std.specs.Prelude.{ℤ, ◌*ℤ◌, Bool}
use Rattle.std.specs.declared.cmp.Ordering.{Ordering}
use Rattle.std.specs.Ordering.{int_cmp, nat_cmp, ordering_then, on, then_cmp, is_lt}
use Rattle.nef_space.specs.Vectors.{Vector}
use Rattle.nef_geo.specs.declared.dir.Dir.{Dir}
use Rattle.nef_edges.specs.declared.edge_end.EdgeEnd.{EdgeEnd}
use Rattle.nef_edges.specs.Moments.{product_of}

-- w times the moment of the end's line, for the end's point (x/w, y/w, z/w)
abbrev pub moment_of : EdgeEnd → Vector
moment_of h = product_of h.point h.dir

-- the order of two ends by one number of their lines' moments
abbrev pub ratio_order : (EdgeEnd → ℤ) → EdgeEnd → EdgeEnd → Ordering
ratio_order part a b = int_cmp (part a *ℤ b.point.w) (part b *ℤ a.point.w)

abbrev pub moment_order : EdgeEnd → EdgeEnd → Ordering
moment_order = then_cmp (then_cmp (ratio_order (λ h. (moment_of h).x)) (ratio_order (λ h. (moment_of h).y))) (ratio_order (λ h. (moment_of h).z))

abbrev pub dir_order : Dir → Dir → Ordering
dir_order a b = ordering_then (int_cmp a.x b.x) (ordering_then (int_cmp a.y b.y) (int_cmp a.z b.z))

-- the order of two ends' lines: by the keys, then by the directions, then by the moments
abbrev pub line_order : EdgeEnd → EdgeEnd → Ordering
line_order = then_cmp (on (λ h. h.key) int_cmp) (then_cmp (on (λ h. h.dir) dir_order) moment_order)

-- the order of ends: by their lines, then by the numbers of their vertices
abbrev pub end_order : EdgeEnd → EdgeEnd → Ordering
end_order = then_cmp line_order (on (λ h. h.vertex) nat_cmp)

abbrev pub end_lt : EdgeEnd → EdgeEnd → Bool
end_lt a b = is_lt (end_order a b)

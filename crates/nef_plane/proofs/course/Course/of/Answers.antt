use Rattle.nef_plane.proofs.Prelude.{◌≡◌, ℕ, pos, negsuc, List, length, true, false, ◌⊎◌, inl, inr, sym, ◌∙◌, refl, SpacePoint, Form, InClosedFrame, Vector, form_of, point_of, vector_of, Vertex, IsCourseFirst, IsCoursePast, IsCourseBeside, shifted_form}
use Rattle.nef_plane.proofs.Close.{ahead-beyond, ahead-short, first-all, past-all}
use Rattle.nef_plane.proofs.Passed.{start-framed, first-forward, past-back}
use Rattle.nef_plane.proofs.course.Course.of.Goals as goal

-- what is beside the line is beyond all that the ray meets, or nothing is known
past-beside : (vs : List Vertex) (h : Form) (p : SpacePoint) (d : Vector) (n m : ℕ) → InClosedFrame p → m ≡ length vs → IsCourseBeside vs h p d (pos 1) false n ⊎ (n ≡ m) → IsCoursePast vs h p d n
past-beside vs h p d n m i e (inl b) = (shifted_form h p (pos 1), ahead-short vs h p d (pos 1) b.close i refl, b.far)
past-beside vs h p d n m i e (inr f) = past-all vs h p d n (f ∙ e)

first-beside : (vs : List Vertex) (h : Form) (p : SpacePoint) (d : Vector) (n : ℕ) → InClosedFrame p → IsCourseBeside vs h p d (negsuc 0) true n ⊎ (n ≡ 0) → IsCourseFirst vs h p d n
first-beside vs h p d n i (inl b) = (shifted_form h p (negsuc 0), ahead-beyond vs h p d (negsuc 0) b.close i refl, b.short)
first-beside vs h p d n i (inr f) = first-all vs h p d n f

pub returns-in-Plus : goal.returns-in-Plus
returns-in-Plus c =
    let S = c.requires.shows in let ray = c.args.ray.now in
    record {
      course = record {
        holds = c.requires.holds;
        first = first-forward S.0 c.args.c.now S.1.shows ray.plane.now ray.start.now (vector_of ray.direction.now) c.requires.holds.0 c.args.start c.requires.start (sym c.in-Plus.ensures.sweep);
        past = past-beside c.args.c.now.vertices (form_of ray.plane.now) (point_of ray.start.now) (vector_of ray.direction.now) c.number_beside.result c.len-count.result (start-framed S.0 c.args.c.now S.1.shows ray.plane.now ray.start.now (vector_of ray.direction.now) c.requires.holds.0 c.args.start c.requires.start) c.len-count.ensures.len c.number_beside.ensures.beside;
        across = c.normal_beside-normal.ensures.across;
      };
    }

pub returns-in-Minus : goal.returns-in-Minus
returns-in-Minus c =
    let S = c.requires.shows in let ray = c.args.ray.now in
    record {
      course = record {
        holds = c.requires.holds;
        first = first-beside c.args.c.now.vertices (form_of ray.plane.now) (point_of ray.start.now) (vector_of ray.direction.now) c.number_beside-in-Minus.result (start-framed S.0 c.args.c.now S.1.shows ray.plane.now ray.start.now (vector_of ray.direction.now) c.requires.holds.0 c.args.start c.requires.start) c.number_beside-in-Minus.ensures.beside;
        past = past-back S.0 c.args.c.now S.1.shows ray.plane.now ray.start.now (vector_of ray.direction.now) c.requires.holds.0 c.args.start c.requires.start (sym c.in-Minus.ensures.sweep);
        across = c.normal_beside-normal.ensures.across;
      };
    }

pub returns-in-Zero : goal.returns-in-Zero
returns-in-Zero c =
    let vs = c.args.c.now.vertices in let ray = c.args.ray.now in let h = form_of ray.plane.now in let p = point_of ray.start.now in let d = vector_of ray.direction.now in
    record {
      course = record {
        holds = c.requires.holds;
        first = first-all vs h p d 0 refl;
        past = past-all vs h p d c.len-count.result c.len-count.ensures.len;
        across = c.normal_beside-normal.ensures.across;
      };
    }

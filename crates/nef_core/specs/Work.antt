-- How an operation runs, and how many workers share work.
use Rattle.std.specs.Prelude.{ℕ, ◌&&◌, ◌/◌, min, max, nat_le, nat_lt, if◌then◌else◌}
use Rattle.nef_core.specs.declared.work.BoardKind.{BoardKind}
use Rattle.nef_core.specs.declared.work.BoardKind.TheVariants.{Lock, Free}
use Rattle.nef_core.specs.declared.work.Work.{Work}
use Rattle.nef_core.specs.declared.work.Work.TheVariants.{LightJobs, HeavyJobs, Listing, Parts, Round}

-- by how many workers an operation runs, and over which board
pub record Choice : Type 0 where
  pub workers : ℕ
  pub board : BoardKind

-- the jobs of two sets, of which each has so many carriers at least, and which have so many vertices together: all count where they are heavy, and else no more than there are vertices
abbrev pub combination_work : BoardKind → ℕ → ℕ → ℕ → Work
combination_work board jobs carriers vertices = if nat_lt carriers 24 then LightJobs board (min jobs vertices) else HeavyJobs jobs

-- how many of the workers that were asked for share the work, the calling thread among them
abbrev pub crew_of : Work → ℕ → ℕ
crew_of (LightJobs Lock jobs) workers = min workers (max 1 (jobs / 1024))
crew_of (LightJobs Free jobs) workers = min workers (max 1 (jobs / 512))
crew_of (HeavyJobs jobs) workers = min workers (max 1 (jobs / 128))
crew_of (Round numbers load) workers = min workers (max 1 (min numbers (load / 500)))
crew_of (Listing carriers) workers = if nat_le 4 workers && nat_le 48 carriers then 4 else 1
crew_of (Parts vertices) workers = if nat_le 4 workers && nat_le 128 vertices then 4 else (if nat_le 2 workers && nat_le 128 vertices then 2 else 1)

-- Which files are translated, and what stands in the way of the others.
use Rattle.std.specs.Prelude.{◌≡◌, ℕ, ◌≤◌, ◌<◌, List, [], ◌∷◌, max, Option, Some, None, Result, Ok, Err}
use Rattle.cf_base.specs.declared.limit.Bound.TheVariants as bound
use Rattle.cf_base.specs.declared.limit.Limit.{Limit}
use Rattle.cf_base.specs.declared.rule.Broken.{Broken}
use Rattle.cf_core.specs.FromUnit.{Unit as CoreUnit, file_of}
use Rattle.cf_frame.specs.Bound.{frames_of}
use Rattle.cf_first.specs.First.{First, Refusal, breaks, passes, not_built}
use Rattle.cf_sequence_built.specs.Unbuilt.{in_file}
use Rattle.cf_compile.specs.Tests.{Lowers}

-- a form that is not built, at this place
abbrev pub unbuilt_at : ℕ → Broken
unbuilt_at at = record { rule = 48; at = at }

abbrev pub greatest : List ℕ → ℕ
greatest [] = 0
greatest (n ∷ ns) = max n (greatest ns)

-- the greatest bound of the frames of a file's functions, in bytes
abbrev pub frame_bound : CoreUnit → ℕ
frame_bound core = greatest (frames_of (file_of core))

abbrev pub most_frame : ℕ
most_frame = 65536

abbrev pub frame_limit : Limit
frame_limit = record { bound = bound.Frame; most = most_frame }

-- A file is taken with its core, or refused. It is refused where it has no core; then at the first form of its core that sequencing does not take; then where the frame of a
-- function may pass the limit; and then, at the file's begin, where it is not as lowering asks.
pub data Takes (bytes : List ℕ) : Result CoreUnit Refusal → Type 0 where
  has_no_core : (r : Refusal) → First bytes (Err r) → Takes bytes (Err r)
  is_not_sequenced : (core : CoreUnit) (at : ℕ) → First bytes (Ok core) → in_file core ≡ Some at → Takes bytes (Err (breaks (unbuilt_at at)))
  passes_frame : (core : CoreUnit) → First bytes (Ok core) → in_file core ≡ None → most_frame < frame_bound core → Takes bytes (Err (passes frame_limit))
  is_not_lowered : (core : CoreUnit) → First bytes (Ok core) → in_file core ≡ None → frame_bound core ≤ most_frame → (Lowers core → ⊥)
      → Takes bytes (Err (breaks not_built))
  is_taken : (core : CoreUnit) → First bytes (Ok core) → in_file core ≡ None → frame_bound core ≤ most_frame → Lowers core → Takes bytes (Ok core)

-- no file is answered in two ways
abbrev pub FilesAreTakenOnce : Type 0
FilesAreTakenOnce = (bytes : List ℕ) (a b : Result CoreUnit Refusal) → Takes bytes a → Takes bytes b → a ≡ b

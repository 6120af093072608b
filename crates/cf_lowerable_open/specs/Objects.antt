-- Which object without a first value each register holds, at each place of a function whose registers hold what is taken. No more of what registers hold matters to what is
-- open there.
use Rattle.std.specs.Prelude.{ℕ, Bool, ◌==◌, if◌then◌else◌, Option, Some, None}
use Rattle.cf_plain.specs.Plain.{Register, Action, declare, Plain, Plains, act, set, branch, loop, switch, case_label, default_label, nothing, more}
use Rattle.cf_plain_kept.specs.Kept.{all_set}
use Rattle.cf_lower_kept.specs.Opened.{same_begun}

-- the local whose object a register holds
abbrev pub Objects : Type 0
Objects = Register → Option ℕ

abbrev pub no_objects : Objects
no_objects r = None

abbrev pub placed : Objects → Register → Option ℕ → Objects
placed g r x q = if q == r then x else g q

-- where some registers hold no object any more
abbrev pub without : (Register → Bool) → Objects → Objects
without test g r = if test r then None else g r

-- what registers hold on both of two ways
abbrev pub shared : Objects → Objects → Objects
shared g h r = same_begun (g r) (h r)

-- the local whose object an action gives
abbrev pub object_given : Action → Option ℕ
object_given (declare i t) = Some i
object_given a = None

-- the objects behind a statement
abbrev mutual
  pub behind : Plain → Objects → Objects
  behind (act a) g = g
  behind (set r a) g = placed g r (object_given a)
  behind (branch r ss ts) g = shared (behind_all ss g) (behind_all ts g)
  behind (loop ss ts) g = no_objects
  behind (switch r ss) g = without (λ q. all_set q ss) g
  behind (case_label z) g = no_objects
  behind default_label g = no_objects
  behind s g = g

  pub behind_all : Plains → Objects → Objects
  behind_all nothing g = g
  behind_all (more s rest) g = behind_all rest (behind s g)

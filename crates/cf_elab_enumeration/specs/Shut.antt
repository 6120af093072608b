-- The rows of enumerations, each under a name of its own that does not unfold. `Rattle.cf_elab_enumeration.proofs` says what each is.
use Rattle.std.specs.Prelude.{ℕ, Bool, not, ◌||◌, List, Option, None, Some}
use Rattle.cf_elab.specs.Answer.{Elab, ◌>>=◌, known, need}
use Rattle.cf_elab.specs.ClassScope.{declare_enumerator}
use Rattle.cf_elab.specs.Enumeration as enumeration
use Rattle.cf_elab.specs.Enumeration.{Counted}
use Rattle.cf_elab.specs.Env.{Name, enumerator}
use Rattle.cf_elab.specs.Names.{declare, is_file_scope}

-- what is new is neither in the scope nor among the names before; else K8
unfoldable pub needs_new : Name → ℕ → List Name → Elab (Unit {0})
needs_new = enumeration.needs_new

unfoldable pub all_new : List Name → List Counted → Elab (Unit {0})
all_new = enumeration.all_new

-- a named one stands in the file's own scope, K48
unfoldable pub need_place : Bool → ℕ → Elab (Unit {0})
need_place named at = known >>= (λ env. need (is_file_scope env.scopes || not named) 48 at)

unfoldable pub all_constant : List Counted → Elab (Unit {0})
all_constant = enumeration.all_constant

unfoldable pub all_ints : List Counted → Elab (Unit {0})
all_ints = enumeration.all_ints

unfoldable pub declare_all : ℕ → List Counted → Elab (Unit {0})
declare_all = enumeration.declare_all

-- an enumerator, for the expressions behind it, where one past int counts as 0
unfoldable pub declare_counted : ℕ → Counted → Elab (Unit {0})
declare_counted t c = declare c.name (enumerator t (Some (enumeration.int_or_zero c.number)))

-- an enumerator, for its own expression, where it has no value yet
unfoldable pub declare_own : ℕ → Name → Elab (Unit {0})
declare_own t name = declare name (enumerator t None)

unfoldable pub declare_one : ℕ → Counted → Elab (Unit {0})
declare_one t c = declare_enumerator c.name c.at t (enumeration.number_or_zero c.number)

unfoldable pub name_checked : Option (ℕ × Name) → Elab (Unit {0})
name_checked = enumeration.name_checked

-- an enumeration's name, for the expressions
unfoldable pub name_known : ℕ → Option (ℕ × Name) → Elab (Unit {0})
name_known = enumeration.name_known

unfoldable pub name_declared : ℕ → ℕ → Option (ℕ × Name) → Elab (Unit {0})
name_declared = enumeration.name_declared

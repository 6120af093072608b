-- A class object from another object of its class, or of one derived from it (12.8).
use Rattle.std.specs.Prelude.{ℕ, Bool, true, false, not, ◌==◌, ◌&&◌, ◌||◌, if◌then◌else◌, List, [], Option, None, Some, is_some}
use Rattle.std.specs.Option.{option_map_or}
use Rattle.cf_types.specs.declared.ty.Ty.TheVariants as ty
use Rattle.cf_convert.specs.Converts.{base_path}
use Rattle.cf_classes.specs.Special.{Made, Absent, specials}
use Rattle.cf_core.specs.declared.node.Core.{Core as Node}
use Rattle.cf_core.specs.declared.node.Core.TheVariants as node
use Rattle.cf_elab.specs.Env.{Env}
use Rattle.cf_elab.specs.Answer.{Elab, ◌>>=◌, ◌>>◌, gives, breaks, need, known}
use Rattle.cf_elab.specs.Made.{intern}
use Rattle.cf_elab.specs.Operand.{Value, defs, sort_of}
use Rattle.cf_elab.specs.Members.{class_defs, need_base, base_at, class_number}

-- the object, as a place of the class
abbrev pub source_of : ℕ → ℕ → Value → Option ℕ → Elab Value
source_of at c v None = breaks 13 at
source_of at c v (Some d) = do
  need_base at d c
  env ← known
  base_at at (if d == c then [] else option_map_or (λ p. p) (base_path (class_defs env) d c) []) (placed v)
  where
    placed : Value → Value
    placed v = if v.is_lvalue then v else record v { node = node.Temporary v.at v.type v.node; is_lvalue = true }

-- a result of the class itself is built in place (12.2)
abbrev pub is_result_of : Env → ℕ → Value → Bool
is_result_of env c v = not v.is_lvalue && same (class_number (sort_of env.types v.type))
  where
    same : Option ℕ → Bool
    same None = false
    same (Some d) = c == d

abbrev pub copied : ℕ → ℕ → Value → List Node → Elab Node
copied at c v further = do
  env ← known
  t ← intern (ty.Class c)
  x ← source_of at c v (class_number (sort_of env.types v.type))
  gives (if is_result_of env c v then v.node else node.Copy at t x.node further)

-- whether a value is of the class or of one derived from it
abbrev pub is_of : Env → ℕ → Option ℕ → Bool
is_of env c None = false
is_of env c (Some d) = (d == c) || is_some (base_path (class_defs env) d c)

-- its copy constructor, declared or generated; without one K44
abbrev pub by_copy : ℕ → ℕ → Value → Made → Elab Node
by_copy at c v Absent = breaks 44 at
by_copy at c v made = copied at c v []

-- the value of a parameter or a result of class type; a value of no such class is K13
abbrev pub copy_of : ℕ → ℕ → Value → Elab Node
copy_of at c v = do
  env ← known
  need (is_of env c (class_number (sort_of env.types v.type))) 13 at
  if is_result_of env c v then gives v.node else by_copy at c v (specials env.types (defs env) c).copy

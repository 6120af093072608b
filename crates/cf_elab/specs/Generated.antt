-- The functions that are generated for a class and needed (12.1, 12.4, 12.8). They are defined where the class ends.
use Rattle.std.specs.Prelude.{ℕ, true, false, List, [], ◌∷◌, ◌++◌, codes, Option, None, Some}
use Rattle.std.specs.Option.{option_map_or}
use Rattle.cf_types.specs.declared.ty.Ty.{Ty}
use Rattle.cf_types.specs.declared.ty.Ty.TheVariants as ty
use Rattle.cf_convert.specs.Constness.{type_at}
use Rattle.cf_classes.specs.Special.{Made, Declared, Generated, Trivial, Absent, Specials, specials}
use Rattle.cf_core.specs.FromTypes.{class_code}
use Rattle.cf_core.specs.declared.node.Core.{Core as Node}
use Rattle.cf_core.specs.declared.node.Core.TheVariants as node
use Rattle.cf_core.specs.declared.node.Holder.TheVariants as holder
use Rattle.cf_core.specs.declared.node.BuiltPart.{BuiltPart}
use Rattle.cf_core.specs.declared.node.BuiltPart.TheVariants as built
use Rattle.cf_core.specs.declared.node.PartStart.{PartStart}
use Rattle.cf_core.specs.declared.unit.CoreFn.{CoreFn}
use Rattle.cf_core.specs.declared.unit.Role.{Role}
use Rattle.cf_core.specs.declared.unit.Role.TheVariants as role
use Rattle.cf_elab.specs.Env.{Env, Name}
use Rattle.cf_elab.specs.Answer.{Elab, ◌>>=◌, ◌>>◌, gives, done, known, changed, each}
use Rattle.cf_elab.specs.Made.{intern, void, const_of, reference_to}
use Rattle.cf_elab.specs.Operand.{defs, sort_of}
use Rattle.cf_elab.specs.Members.{class_number}
use Rattle.cf_elab.specs.Bodies.{parts_of, part_start, type_of_part, class_of_step}
use Rattle.cf_elab.specs.ClassScope.{in_class_scope}

abbrev pub scope_of : Env → ℕ → Name
scope_of env c = class_code env.classes c

-- of no parameters, and of a reference to a const object of the class
abbrev pub plain_link : Env → Name → ℕ → Name
plain_link env name c = name ++ codes "__" ++ scope_of env c ++ codes "Fv"

abbrev pub copying_link : Env → Name → ℕ → Name
copying_link env name c = name ++ codes "__" ++ scope_of env c ++ codes "FRC" ++ scope_of env c

abbrev pub generated_function : Name → Role → ℕ → List ℕ → Node → CoreFn
generated_function link r result params body = record {
  name = link;
  role = r;
  result = result;
  params = params;
  locals = [];
  body = body;
  is_shared = true;
  is_local = false;
}

abbrev pub define : CoreFn → Elab (Unit {0})
define f = changed (λ env. record env { functions = env.functions ++ f ∷ [] })

abbrev pub source_type : ℕ → Elab ℕ
source_type c = intern (ty.Class c) >>= const_of >>= reference_to

-- ---- parts of the object and of the one that is copied

abbrev pub part_place : ℕ → Node → BuiltPart → Node
part_place at object (built.Base s) = node.Up at (s ∷ []) object
part_place at object (built.Field i) = node.Member at object i

abbrev pub part_type : Env → ℕ → BuiltPart → Elab ℕ
part_type env c (built.Base s) = intern (ty.Class (class_of_step env c s))
part_type env c (built.Field i) = gives (option_map_or (λ t. t) (type_of_part env c (built.Field i)) 0)

-- a reference member refers to what the other's does
abbrev pub copy_node : ℕ → ℕ → Ty → Node → Node
copy_node at t (ty.Ref u) from = node.Bind at holder.NoTemporary from
copy_node at t other from = node.Copy at t from []

abbrev pub copied_part : ℕ → ℕ → BuiltPart → Elab PartStart
copied_part at c p = do
  env ← known
  t ← part_type env c p
  now ← known
  gives (record { part = p; start = copy_node at t (type_at now.types t) (part_place at (node.Local at 0) p) })

abbrev pub assigned_part : ℕ → ℕ → BuiltPart → Elab Node
assigned_part at c p = do
  env ← known
  t ← part_type env c p
  gives (node.Full at (node.Assign at t (part_place at (node.This at) p) (part_place at (node.Local at 0) p) []))

-- ---- the four

abbrev pub default_constructor : ℕ → ℕ → Elab (Unit {0})
default_constructor at c = do
  env ← known
  v ← void
  ps ← in_class_scope c (each (λ p. part_start at c p None) (parts_of env c))
  define (generated_function (plain_link env (codes "__ct") c) (role.Constructor c) v [] (node.Parts at ps (node.Block at [])))

abbrev pub copy_constructor : ℕ → ℕ → Elab (Unit {0})
copy_constructor at c = do
  env ← known
  v ← void
  s ← source_type c
  ps ← each (copied_part at c) (parts_of env c)
  define (generated_function (copying_link env (codes "__ct") c) (role.Constructor c) v (s ∷ []) (node.Parts at ps (node.Block at [])))

-- it gives the object itself (12.8)
abbrev pub copying_assignment : ℕ → ℕ → Elab (Unit {0})
copying_assignment at c = do
  env ← known
  s ← source_type c
  t ← intern (ty.Class c)
  r ← reference_to t
  ns ← each (assigned_part at c) (parts_of env c)
  define (generated_function (copying_link env (codes "__as") c) (role.Member c) r (s ∷ []) (node.Block at (ns ++ node.Return at (Some (node.Bind at holder.NoTemporary (node.This at))) ∷ [])))

abbrev pub destructor : ℕ → ℕ → Elab (Unit {0})
destructor at c = do
  env ← known
  v ← void
  define (generated_function (plain_link env (codes "__dt") c) (role.Destructor c) v [] (node.Block at []))

abbrev pub where_needed : Made → Elab (Unit {0}) → Elab (Unit {0})
where_needed Declared run = done
where_needed Generated run = run
where_needed Trivial run = done
where_needed Absent run = done

abbrev pub needed : ℕ → ℕ → Specials → Elab (Unit {0})
needed at c has = do
  where_needed has.constructor (default_constructor at c)
  where_needed has.copy (copy_constructor at c)
  where_needed has.assign (copying_assignment at c)
  where_needed has.destructor (destructor at c)

abbrev pub generated_of : ℕ → Option ℕ → Elab (Unit {0})
generated_of at None = done
generated_of at (Some c) = known >>= (λ env. needed at c (specials env.types (defs env) c))

-- of the class that a type is, at the place of its name
abbrev pub generated : ℕ → ℕ → Elab (Unit {0})
generated at t = known >>= (λ env. generated_of at (class_number (sort_of env.types t)))

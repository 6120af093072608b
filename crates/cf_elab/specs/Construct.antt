-- Objects of classes: built by constructors, by default, or from another object (8.4, 12.1, 12.6, 12.8).
use Rattle.std.specs.Prelude.{ℕ, ◌-◌, Bool, true, false, not, ◌==◌, ◌&&◌, if◌then◌else◌, List, [], ◌∷◌, ◌++◌, length, map, drop, reverse, codes, Option, None, Some, slice_get, is_some}
use Rattle.cf_types.specs.declared.ty.Ty.{Ty}
use Rattle.cf_types.specs.declared.ty.Ty.TheVariants as ty
use Rattle.cf_types.specs.Table.{Table}
use Rattle.cf_classes.specs.declared.class.MemberDef.{MemberDef}
use Rattle.cf_classes.specs.declared.class.MemberRef.{MemberRef}
use Rattle.cf_classes.specs.declared.class.What.{What}
use Rattle.cf_classes.specs.declared.class.What.TheVariants as what
use Rattle.cf_classes.specs.ClassTable.{members_of}
use Rattle.cf_classes.specs.Lookup.{places_from}
use Rattle.cf_classes.specs.Overrider.{is_abstract}
use Rattle.cf_classes.specs.Signature.{member_params}
use Rattle.cf_classes.specs.Special.{Made, Declared, Generated, Trivial, Absent, specials}
use Rattle.cf_classes.specs.TypeTree.{class_in, of_types}
use Rattle.cf_core.specs.FromTypes.{class_code}
use Rattle.cf_core.specs.declared.node.Core.{Core as Node}
use Rattle.cf_core.specs.declared.node.Core.TheVariants as node
use Rattle.cf_elab.specs.Env.{Env, Name}
use Rattle.cf_elab.specs.MethodNode.{member_at, method_link, defaults_in}
use Rattle.cf_elab.specs.UserFit.{arguments}
use Rattle.cf_elab.specs.Answer.{Elab, ◌>>=◌, ◌>>◌, gives, done, breaks, need, known}
use Rattle.cf_elab.specs.Made.{intern, void, function_type}
use Rattle.cf_elab.specs.Operand.{Value, defs, Sort, sort_of, reference_sort}
use Rattle.cf_elab.specs.Best.{Candidate}
use Rattle.cf_elab.specs.Call.{pick}
use Rattle.cf_elab.specs.Complete.{complete}
use Rattle.cf_elab.specs.Copying.{copied, is_of, by_copy}
use Rattle.cf_elab.specs.Members.{class_defs, need_use, class_number}

-- ---- the constructors of a class

abbrev pub is_constructor : MemberDef → Bool
is_constructor m = constructor_what m.what
  where
    constructor_what : What → Bool
    constructor_what what.Constructor = true
    constructor_what other = false

abbrev pub is_destructor : MemberDef → Bool
is_destructor m = destructor_what m.what
  where
    destructor_what : What → Bool
    destructor_what what.Destructor = true
    destructor_what other = false

abbrev pub refs : ℕ → List ℕ → List MemberRef
refs c is = map (λ i. record { class = c; index = i }) is

abbrev pub constructors : Env → ℕ → List MemberRef
constructors env c = refs c (places_from is_constructor 0 (members_of (class_defs env) c))

abbrev pub destructors : Env → ℕ → List MemberRef
destructors env c = refs c (places_from is_destructor 0 (members_of (class_defs env) c))

abbrev pub candidate_of : Table → Option MemberDef → Candidate
candidate_of types None = record { params = []; least = 1 }
candidate_of types (Some d) = record { params = member_params types d; least = length (member_params types d) - d.defaults }

-- the first parameter is a reference to the class, const or not (12.8)
abbrev pub copies : Env → ℕ → List ℕ → Bool
copies env c [] = false
copies env c (p ∷ ps) = by_sort (sort_of env.types p)
  where
    same_class : Option ℕ → Bool
    same_class None = false
    same_class (Some d) = c == d

    by_sort : Sort → Bool
    by_sort (reference_sort t) = same_class (class_number (sort_of env.types t))
    by_sort other = false

-- ---- what is looked at of each object: a complete class K30 that is not abstract K37, and at last its destructor, K38

abbrev pub need_object_class : ℕ → ℕ → Elab (Unit {0})
need_object_class at c = do
  env ← known
  t ← intern (ty.Class c)
  need (complete env t) 30 at
  need (not (is_abstract env.types (defs env) c)) 37 at

abbrev pub first_use : ℕ → ℕ → List MemberRef → Elab (Unit {0})
first_use at c [] = done
first_use at c (m ∷ ms) = need_use at m c None

abbrev pub need_destructor : ℕ → ℕ → Elab (Unit {0})
need_destructor at c = known >>= (λ env. first_use at c (destructors env c))

-- ---- by a declared constructor: Pick, its access

abbrev pub first_value : List Value → List Node → ℕ → ℕ → List Node → Elab Node
first_value [] args at c further = breaks 46 at
first_value (v ∷ vs) args at c further = copied at c v further

abbrev pub built_by : ℕ → ℕ → List Value → MemberRef → Option MemberDef → Elab Node
built_by at c vs m None = breaks 46 at
built_by at c vs m (Some d) = do
  need_use at m c None
  env ← known
  args ← arguments at (member_params env.types d) (defaults_in env m) vs
  if copies env c (member_params env.types d) then first_value vs args at c (drop 1 args) else gives (node.Build at (method_link env m d) d.ty args)

abbrev pub built_choice : ℕ → ℕ → List Value → Option MemberRef → Elab Node
built_choice at c vs None = breaks 46 at
built_choice at c vs (Some m) = known >>= (λ env. built_by at c vs m (member_at env m))

abbrev pub by_constructor : ℕ → ℕ → List Value → Elab Node
by_constructor at c vs = do
  env ← known
  i ← pick at (map (λ m. candidate_of env.types (member_at env m)) (constructors env c)) vs
  built_choice at c vs (slice_get (constructors env c) i)

-- ---- without one: by default, or from one object; any other arguments are K40

abbrev pub default_link : Env → ℕ → Name
default_link env c = codes "__ct__" ++ class_code env.classes c ++ codes "Fv"

abbrev pub by_default : ℕ → ℕ → Made → Elab Node
by_default at c Declared = by_constructor at c []
by_default at c Generated = do
  env ← known
  v ← void
  t ← function_type v [] false
  gives (node.Build at (default_link env c) t [])
by_default at c Trivial = gives (node.Blank at)
by_default at c Absent = breaks 40 at

abbrev pub without_constructor : ℕ → ℕ → List Value → Elab Node
without_constructor at c [] = known >>= (λ env. by_default at c (specials env.types (defs env) c).constructor)
without_constructor at c (v ∷ []) = do
  env ← known
  need (is_of env c (class_number (sort_of env.types v.type))) 40 at
  by_copy at c v (specials env.types (defs env) c).copy
without_constructor at c (v ∷ w ∷ rest) = breaks 40 at

abbrev pub has_constructor : Env → ℕ → Bool
has_constructor env c = elim (constructors env c) [ [] ↦ false | m ∷ ms ↦ true ]

-- a class that declares its copy constructor alone still copies by Pick; one that declares others has its copy generated (12.8)
abbrev pub takes_copy : Env → ℕ → List Value → Bool
takes_copy env c (v ∷ []) = is_of env c (class_number (sort_of env.types v.type)) && not (declared_copy (specials env.types (defs env) c).copy)
  where
    declared_copy : Made → Bool
    declared_copy Declared = true
    declared_copy other = false
takes_copy env c vs = false

-- a base part, whose class may be abstract (10.3)
abbrev pub part_constructed : ℕ → ℕ → List Value → Elab Node
part_constructed at c vs = do
  env ← known
  n ← if has_constructor env c && not (takes_copy env c vs) then by_constructor at c vs else without_constructor at c vs
  need_destructor at c
  gives n

-- an object of the class by arguments
abbrev pub constructed : ℕ → ℕ → List Value → Elab Node
constructed at c vs = need_object_class at c >> part_constructed at c vs

-- ---- an object of any type without an initialiser: each element of an array by itself; nothing is done for a scalar

abbrev pub default_step : ℕ → (ℕ → Elab Node) → Ty → Elab Node
default_step at rec (ty.Array t n) = rec t >>= (λ x. gives (node.Each at x))
default_step at rec (ty.Const t) = rec t
default_step at rec (ty.Class c) = constructed at c []
default_step at rec other = gives (node.Blank at)

-- objects of scalars, and arrays of them, are left as they are
abbrev pub default_start : ℕ → ℕ → Elab Node
default_start at t = do
  env ← known
  if is_some (class_in env.types t) then of_types (gives (node.Blank at)) (default_step at) (reverse env.types.types) t else gives (node.Blank at)

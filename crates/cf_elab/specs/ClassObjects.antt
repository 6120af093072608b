-- Assignment to objects of classes, and `new` and `delete` of them (5.3.3, 5.3.4, 5.17, 12.8).
use Rattle.std.specs.Prelude.{ℕ, Bool, true, false, not, ◌&&◌, nat_lt, if◌then◌else◌, List, [], ◌∷◌, ◌++◌, length, codes, Option, None, Some, slice_get, bytes_eq, is_some}
use Rattle.cf_convert.specs.Constness.{bare}
use Rattle.cf_types.specs.declared.ty.Ty.TheVariants as ty
use Rattle.cf_classes.specs.declared.class.MemberDef.{MemberDef}
use Rattle.cf_classes.specs.declared.class.MemberRef.{MemberRef}
use Rattle.cf_classes.specs.ClassTable.{members_of}
use Rattle.cf_classes.specs.Lookup.{places_from}
use Rattle.cf_classes.specs.Special.{Made, Declared, Absent, specials}
use Rattle.cf_classes.specs.TypeTree.{class_in}
use Rattle.cf_core.specs.declared.node.Core.{Core as Node}
use Rattle.cf_core.specs.declared.node.Core.TheVariants as node
use Rattle.cf_elab.specs.Env.{Env}
use Rattle.cf_elab.specs.MethodNode.{object_place}
use Rattle.cf_elab.specs.Answer.{Elab, ◌>>=◌, ◌>>◌, gives, done, breaks, need, known}
use Rattle.cf_elab.specs.Operand.{Value, Methods, place_of, defs, sort_of}
use Rattle.cf_elab.specs.Members.{class_defs, class_number}
use Rattle.cf_elab.specs.MethodCall.{call_methods, chosen_member, method_candidates, pick_on}
use Rattle.cf_elab.specs.Methods.{is_empty}
use Rattle.cf_elab.specs.Made.{intern, reference_to, const_of}
use Rattle.cf_elab.specs.Best.{Candidate}
use Rattle.cf_elab.specs.UserFit.{fit}
use Rattle.cf_elab.specs.Copying.{is_of, source_of}
use Rattle.cf_elab.specs.Construct.{constructed, default_start, need_destructor, refs}

-- ---- assignment

abbrev pub is_assignment : MemberDef → Bool
is_assignment m = bytes_eq m.name (codes "__as")

abbrev pub assignments : Env → ℕ → List MemberRef
assignments env c = refs c (places_from is_assignment 0 (members_of (class_defs env) c))

abbrev pub is_declared : Made → Bool
is_declared Declared = true
is_declared other = false

abbrev pub is_absent : Made → Bool
is_absent Absent = true
is_absent other = false

-- the generated one is a function as the declared ones: it takes a reference to a const object of the class (12.8)
abbrev pub generated_candidate : ℕ → Elab Candidate
generated_candidate c = do
  t ← intern (ty.Class c)
  object ← reference_to t
  u ← const_of t
  source ← reference_to u
  gives (record { params = object ∷ source ∷ []; least = 2 })

-- the object that is copied: one of the class, or what another value is converted to
abbrev pub source_object : ℕ → ℕ → Value → Elab Value
source_object at c x = known >>= (λ env. if is_of env c (class_number (sort_of env.types x.type)) then gives x else converted)
  where
    converted : Elab Value
    converted = intern (ty.Class c) >>= fit at x

-- where a member forbids it, K44
abbrev pub by_generated : ℕ → ℕ → Value → Value → Made → Elab Value
by_generated at c v x Absent = breaks 44 at
by_generated at c v x made = do
  s ← source_object at c x
  env ← known
  y ← source_of at c s (class_number (sort_of env.types s.type))
  gives (place_of at (node.Assign at (bare env.types v.type) (object_place v).node y.node []) v.type false)

abbrev pub methods_on : ℕ → ℕ → Value → List MemberRef → Methods
methods_on at c v ms = record { at = at; naming = c; path = []; found = ms; object = Some (object_place v); is_qualified = false; alone = None }

-- no assignment at all K44; then Pick among the declared ones, with the generated one behind them
abbrev pub with_generated : ℕ → ℕ → Value → Value → List MemberRef → Made → Elab Value
with_generated at c v x ms made = do
  need (not (is_absent made && is_empty ms)) 44 at
  cs ← method_candidates v.type ms
  g ← generated_candidate c
  i ← pick_on at v.type (cs ++ g ∷ []) (x ∷ [])
  if nat_lt i (length ms) then chosen_member at (methods_on at c v ms) (x ∷ []) (slice_get ms i) else by_generated at c v x made

-- Pick among those that are declared, and the one that is generated where no copying assignment is
abbrev pub class_assigned : ℕ → ℕ → Value → Value → Elab Value
class_assigned at c v x = do
  env ← known
  let made = (specials env.types (defs env) c).assign in
      if is_declared made then call_methods at (methods_on at c v (assignments env c)) (x ∷ []) else with_generated at c v x (assignments env c) made

-- ---- new and delete

-- the initialiser of a class object, or of each element: by its constructors
abbrev pub new_class_start : ℕ → ℕ → List Value → Elab Node
new_class_start at c vs = constructed at c vs

-- each element of an array by default
abbrev pub new_elements : ℕ → ℕ → Elab Node
new_elements at t = do
  env ← known
  n ← default_start at t
  gives (if is_some (class_in env.types t) then node.Each at n else node.Blank at)

-- the destructor may be used, K38
abbrev pub deletes : ℕ → Option ℕ → Elab (Unit {0})
deletes at None = done
deletes at (Some c) = need_destructor at c

-- Members of classes by their names: what is found from a place, who may use it, and the value that it has (9, 10.1.1, 11).
use Rattle.std.specs.Prelude.{ℕ, zero, suc, Bool, true, false, not, ◌==◌, ◌&&◌, ◌||◌, if◌then◌else◌, List, [], ◌∷◌, ◌++◌, length, map, filter, take, Option, None, Some, slice_get}
use Rattle.std.specs.Option.{option_map, option_map_or}
use Rattle.cf_types.specs.declared.ty.Ty.{Ty}
use Rattle.cf_types.specs.declared.ty.Ty.TheVariants as ty
use Rattle.cf_convert.specs.Constness.{type_at, is_const}
use Rattle.cf_classes.specs.declared.path.Step.{Step}
use Rattle.cf_classes.specs.declared.class.ClassDef.{ClassDef}
use Rattle.cf_classes.specs.declared.class.MemberDef.{MemberDef}
use Rattle.cf_classes.specs.declared.class.MemberRef.{MemberRef}
use Rattle.cf_classes.specs.declared.class.What.{What}
use Rattle.cf_classes.specs.declared.class.What.TheVariants as what
use Rattle.cf_classes.specs.declared.label.Label.{Label}
use Rattle.cf_classes.specs.ClassTable.{ClassTable, members_of}
use Rattle.cf_classes.specs.LinkName.{Variable, none, link_name, class_names}
use Rattle.cf_classes.specs.Lookup.{Look, One, Nothing, Many, found}
use Rattle.cf_classes.specs.Subobject.{paths, class_at, join}
use Rattle.cf_convert.specs.Converts.{base_path}
use Rattle.cf_core.specs.FromClasses.{name_in_scope}
use Rattle.cf_core.specs.FromTypes.{class_code}
use Rattle.cf_core.specs.declared.node.Core.TheVariants as node
use Rattle.cf_elab.specs.Access.{member, fault, is_accessible}
use Rattle.cf_elab.specs.Env.{Env, Name, OpenClass, BodyKind, member_body, static_body, constructor_body, destructor_body}
use Rattle.cf_elab.specs.Answer.{Elab, ◌>>=◌, ◌>>◌, gives, done, breaks, need, known}
use Rattle.cf_elab.specs.Made.{intern, const_if}
use Rattle.cf_elab.specs.Operand.{Value, Operand, value, methods, field_name, place_of, constant, defs, Sort, sort_of, class_sort}

-- ---- classes whose definition is open count as defined, with what they have so far

abbrev pub open_defs : Env → List (ℕ × ClassDef)
open_defs env = map (λ (o : OpenClass). (o.class, o.def)) env.open_classes

abbrev pub class_defs : Env → List (ℕ × ClassDef)
class_defs env = open_defs env ++ defs env

-- ---- the classes around a place, the innermost first

abbrev pub class_of_body : BodyKind → Option ℕ
class_of_body (member_body c k) = Some c
class_of_body (static_body c) = Some c
class_of_body (constructor_body c) = Some c
class_of_body (destructor_body c) = Some c
class_of_body other = None

abbrev pub outer_of : ClassTable → ℕ → Option ℕ
outer_of classes c = option_map_or (λ (l : Label). l.outer) (slice_get classes.labels c) None

-- with so many classes around at most
abbrev pub outwards : ClassTable → ℕ → Option ℕ → List ℕ
outwards classes zero c = []
outwards classes (suc n) None = []
outwards classes (suc n) (Some c) = c ∷ outwards classes n (outer_of classes c)

abbrev pub innermost : List OpenClass → Option ℕ → Option ℕ
innermost [] c = c
innermost (o ∷ rest) c = Some o.class

abbrev pub classes_around : Env → List ℕ
classes_around env = outwards env.classes (length env.classes.labels) (innermost env.open_classes (class_of_body env.hand.kind))

-- what a name is as a member of these classes, of the first that has it
abbrev pub unless_nothing : Option (ℕ × Look) → ℕ → Look → Option (ℕ × Look)
unless_nothing rest c Nothing = rest
unless_nothing rest c look = Some (c, look)

abbrev pub found_around : Env → Name → List ℕ → Option (ℕ × Look)
found_around env name [] = None
found_around env name (c ∷ cs) = unless_nothing (found_around env name cs) c (found (class_defs env) c name)

-- ---- access (11)

abbrev pub need_use : ℕ → MemberRef → ℕ → Option ℕ → Elab (Unit {0})
need_use at m naming via = do
  env ← known
  elim (fault (class_defs env) env.hand.asker (member m) naming via) [ None ↦ done | Some rule ↦ breaks rule at ]

-- ---- bases: one and accessible, else K14 (4.6, 10.1.1)

abbrev pub routes : Env → ℕ → ℕ → List (List Step)
routes env derived base = filter (λ p. class_at (class_defs env) derived p == base) (paths (class_defs env) derived)

abbrev pub is_single : {A : Type 0} → List A → Bool
is_single (x ∷ []) = true
is_single other = false

abbrev pub fine_base : Env → ℕ → ℕ → Bool
fine_base env derived base = (derived == base) || (is_single (routes env derived base) && is_accessible (class_defs env) env.hand.asker base derived)

abbrev pub need_base : ℕ → ℕ → ℕ → Elab (Unit {0})
need_base at derived base = known >>= (λ env. need (fine_base env derived base) 14 at)

-- ---- objects

-- the class that a type is, const or not
abbrev pub class_number : Sort → Option ℕ
class_number (class_sort c) = Some c
class_number other = None

-- a place of a class as one of its base at a path
abbrev pub base_place : ℕ → List Step → ℕ → Value → Elab Value
base_place at [] t v = gives v
base_place at (s ∷ p) t v = do
  env ← known
  u ← const_if (is_const env.types v.type) t
  gives (place_of at (node.Up at (s ∷ p) v.node) u v.is_fixed)

abbrev pub base_at : ℕ → List Step → Value → Elab Value
base_at at p v = known >>= (λ env. of_sort env (sort_of env.types v.type))
  where
    of_sort : Env → Sort → Elab Value
    of_sort env (class_sort c) = intern (ty.Class (class_at (class_defs env) c p)) >>= (λ t. base_place at p t v)
    of_sort env other = gives v

-- the object of a member function (9.3.1), in a nonstatic one
abbrev pub object_of : BodyKind → Option (ℕ × Bool)
object_of (member_body c is_const) = Some (c, is_const)
object_of (constructor_body c) = Some (c, false)
object_of (destructor_body c) = Some (c, false)
object_of other = None

abbrev pub this_place : ℕ → ℕ × Bool → Elab Value
this_place at c = do
  t ← intern (ty.Class c.0)
  u ← const_if c.1 t
  gives (place_of at (node.This at) u false)

-- an object, and the path in it to the class that a member is named in
pub record On : Type 0 where
  pub object : Value
  pub prefix : List Step

-- the object of the function at hand, where the member is named in its class or in a base of it
abbrev pub implicit_object : ℕ → ℕ → Option (ℕ × Bool) → Elab (Option On)
implicit_object at naming None = gives None
implicit_object at naming (Some c) = do
  env ← known
  v ← this_place at c
  gives (if c.0 == naming then Some (record { object = v; prefix = [] }) else option_map (λ p. record { object = v; prefix = p }) (base_path (class_defs env) c.0 naming))

-- ---- the value of a member

abbrev pub is_object_field : MemberDef → Bool
is_object_field m = field (m.what) && not m.is_static
  where
    field : What → Bool
    field what.Field = true
    field other = false

-- its number among the nonstatic data members
abbrev pub field_number : Env → MemberRef → ℕ
field_number env m = length (filter is_object_field (take m.index (members_of (class_defs env) m.class)))

abbrev pub field_type_step : ℕ → Bool → Ty → Elab ℕ
field_type_step t c (ty.Ref u) = gives u
field_type_step t c other = const_if c t

-- a data member of a place: const where the object is, and the place itself where it is a reference
abbrev pub field_value : ℕ → List Step → MemberRef → MemberDef → Value → Elab Value
field_value at p m d v = do
  b ← base_at at p v
  env ← known
  t ← field_type_step d.ty (is_const env.types b.type) (type_at env.types d.ty)
  gives (place_of at (node.Member at b.node (field_number env m)) t b.is_fixed)

abbrev pub static_link : Env → ℕ → Name → Name
static_link env c name = link_name (record { scope = class_names env.classes c; what = Variable name; params = none; is_const = false; is_static = true })

abbrev pub static_value : ℕ → MemberRef → MemberDef → Elab Value
static_value at m d = do
  env ← known
  t ← field_type_step d.ty false (type_at env.types d.ty)
  gives (place_of at (node.Static at (static_link env m.class d.name) d.ty) t true)

-- the class that a member is named in is the object's own or one accessible base of it, K14
abbrev pub need_own_base : ℕ → ℕ → Option ℕ → Elab (Unit {0})
need_own_base at naming None = done
need_own_base at naming (Some d) = need_base at d naming

-- a nonstatic data member of the object, if there is one
abbrev pub of_object : ℕ → ℕ → List Step → MemberRef → MemberDef → Option On → Elab Operand
of_object at naming p m d None = gives (field_name at naming p m)
of_object at naming p m d (Some o) = do
  env ← known
  need_own_base at naming (class_number (sort_of env.types o.object.type))
  x ← field_value at (join o.prefix p) m d o.object
  gives (value x)

-- a member that is no function, by what it is
abbrev pub single_member : ℕ → ℕ → List Step → MemberRef → MemberDef → Option On → What → Elab Operand
single_member at naming p m d object what.Field =
    if d.is_static then static_value at m d >>= (λ x. gives (value x)) else of_object at naming p m d object
single_member at naming p m d object (what.Enumerator z) = gives (value (constant at z d.ty))
single_member at naming p m d object other = breaks 10 at

abbrev pub is_function_member : What → Bool
is_function_member what.Function = true
is_function_member what.Convert = true
is_function_member what.Destructor = true
is_function_member other = false

abbrev pub via_of : Env → Option On → Option ℕ
via_of env None = None
via_of env (Some o) = class_number (sort_of env.types o.object.type)

abbrev pub whole_path : Option On → List Step → List Step
whole_path None p = p
whole_path (Some o) p = join o.prefix p

abbrev pub object_in : Option On → Option Value
object_in None = None
object_in (Some o) = Some o.object

-- one static member function, by its name: access, and the function
abbrev pub static_function : ℕ → ℕ → List MemberRef → MemberRef → MemberDef → Option (Elab Value)
static_function at naming (one ∷ []) m d = if d.is_static then Some run else None
  where
    run : Elab Value
    run = do
      need_use at m naming None
      env ← known
      gives (place_of at (node.Function at (name_in_scope (record { types = env.types; classes = env.classes }) (class_code env.classes m.class) d) d.ty) d.ty true)
static_function at naming refs m d = None

abbrev pub one_member : ℕ → ℕ → List Step → List MemberRef → Option On → Bool → MemberRef → Option MemberDef → Elab Operand
one_member at naming p refs object qualified m None = breaks 10 at
one_member at naming p refs object qualified m (Some d) =
    if is_function_member d.what then gives (methods (record { at = at; naming = naming; path = whole_path object p; found = refs; object = object_in object; is_qualified = qualified; alone = static_function at naming refs m d }))
    else (known >>= (λ env. need_use at m naming (via_of env object)) >> single_member at naming p m d object d.what)

-- K34 where it is ambiguous; then access, of a function only once it is chosen
abbrev pub member_operand : ℕ → ℕ → Look → Option On → Bool → Elab Operand
member_operand at naming Many object qualified = breaks 34 at
member_operand at naming Nothing object qualified = breaks 10 at
member_operand at naming (One p []) object qualified = breaks 10 at
member_operand at naming (One p (m ∷ ms)) object qualified =
    known >>= (λ env. one_member at naming p (m ∷ ms) object qualified m (slice_get (members_of (class_defs env) m.class) m.index))

-- a member of the class around, named alone or with the class that qualifies it: on the object of the function at hand
abbrev pub member_by_name : ℕ → ℕ → Look → Bool → Elab Operand
member_by_name at naming look qualified = do
  env ← known
  object ← implicit_object at naming (object_of env.hand.kind)
  member_operand at naming look object qualified

-- ---- `this` (9.3.1)

abbrev pub this_value : ℕ → Option (ℕ × Bool) → Elab Value
this_value at None = breaks 32 at
this_value at (Some c) = do
  v ← this_place at c
  p ← intern (ty.Ptr v.type)
  gives (record { at = at; node = node.Address at v.node; type = p; is_lvalue = false; number = None; is_fixed = false })

abbrev pub this_row : ℕ → Elab Operand
this_row at = known >>= (λ env. this_value at (object_of env.hand.kind)) >>= (λ v. gives (value v))

-- ---- types that are members

abbrev pub member_type : ℕ → Option MemberDef → Elab ℕ
member_type at None = breaks 10 at
member_type at (Some d) = by_what d.what
  where
    by_what : What → Elab ℕ
    by_what (what.Nested c) = intern (ty.Class c)
    by_what what.Alias = gives d.ty
    by_what other = breaks 10 at

-- K34, then K38 (11)
abbrev pub type_by_look : ℕ → ℕ → Look → Elab ℕ
type_by_look at naming Many = breaks 34 at
type_by_look at naming Nothing = breaks 10 at
type_by_look at naming (One p []) = breaks 10 at
type_by_look at naming (One p (m ∷ ms)) = do
  env ← known
  need_use at m naming None
  member_type at (slice_get (members_of (class_defs env) m.class) m.index)

-- Conversions by a user's function: one constructor or one conversion function, with conversions of ranks 1 to 3 before and after it (12.3, 13.2).
use Rattle.std.specs.Prelude.{ℕ, ◌+◌, Bool, true, false, not, ◌==◌, ◌&&◌, ◌||◌, nat_le, if◌then◌else◌, List, [], ◌∷◌, ◌++◌, length, filter, Option, None, Some, slice_get}
use Rattle.std.specs.List.{list_any, list_all, filter_map, flat_map}
use Rattle.cf_types.specs.declared.ty.Ty.{Ty}
use Rattle.cf_types.specs.declared.ty.Ty.TheVariants as ty
use Rattle.cf_types.specs.declared.ty.Fun.{Fun}
use Rattle.cf_types.specs.Table.{Table}
use Rattle.cf_classes.specs.declared.path.Step.{Step}
use Rattle.cf_classes.specs.declared.class.ClassDef.{ClassDef}
use Rattle.cf_classes.specs.declared.class.MemberDef.{MemberDef}
use Rattle.cf_classes.specs.declared.class.MemberRef.{MemberRef}
use Rattle.cf_classes.specs.declared.class.What.{What}
use Rattle.cf_classes.specs.declared.class.What.TheVariants as what
use Rattle.cf_classes.specs.ClassTable.{members_of}
use Rattle.cf_classes.specs.Subobject.{paths, class_at, same_path}
use Rattle.cf_classes.specs.Lookup.{declares, undominated}
use Rattle.cf_classes.specs.Signature.{member_params, is_const_member}
use Rattle.cf_classes.specs.TypeTree.{fun_of}
use Rattle.cf_convert.specs.declared.conv.Val.{Val}
use Rattle.cf_convert.specs.declared.conv.ConvStep.{ConvStep}
use Rattle.cf_convert.specs.declared.conv.ConvStep.TheVariants.{ToBase}
use Rattle.cf_convert.specs.Constness.{type_at, is_const, bare}
use Rattle.cf_convert.specs.Converts.{steps, with_const}
use Rattle.cf_convert.specs.Better.{is_better}

-- a function that serves: the steps of the value to its parameter or its object, and those of its result to the type that is wanted
pub record Serving : Type 0 where
  pub function : MemberRef
  pub before : List ConvStep
  pub after : List ConvStep

-- the one function that serves, none, or an ambiguity
pub data User : Type 0 where
  One : Serving → User
  Nothing : User
  Many : User

-- both have to be there
abbrev serving : MemberRef → Option (List ConvStep) → Option (List ConvStep) → Option Serving
serving f (Some before) (Some after) = Some (record { function = f; before = before; after = after })
serving f before after = None

-- the members of a class, each with its place
abbrev numbered : ℕ → List MemberDef → List (ℕ × MemberDef)
numbered i [] = []
numbered i (m ∷ ms) = (i, m) ∷ numbered (i + 1) ms

abbrev members_at : List (ℕ × ClassDef) → ℕ → List (ℕ × MemberDef)
members_at defs c = numbered 0 (members_of defs c)

abbrev some_of : {A : Type 0} → (A → Option Serving) → List A → List Serving
some_of f xs = filter_map f xs

-- Constructors of the class that is wanted (12.3.1).

abbrev is_constructor : What → Bool
is_constructor what.Constructor = true
is_constructor other = false

-- the type of the parameter that takes the one argument; those behind it have default arguments (8.2.6)
abbrev one_parameter : ℕ → List ℕ → Option ℕ
one_parameter defaults [] = None
one_parameter defaults (p ∷ ps) = if nat_le (length ps) defaults then Some p else None

-- a constructor that takes the value, by its place, with its parameter's type and the steps to it
pub record Taking : Type 0 where
  pub index : ℕ
  pub param : ℕ
  pub steps : List ConvStep

abbrev taking : ℕ → ℕ → Option (List ConvStep) → Option Taking
taking i p None = None
taking i p (Some s) = Some (record { index = i; param = p; steps = s })

abbrev takes_by : Table → List (ℕ × ClassDef) → Val → ℕ → Option ℕ → Option Taking
takes_by types defs v i None = None
takes_by types defs v i (Some p) = taking i p (steps types defs v p)

abbrev takes : Table → List (ℕ × ClassDef) → Val → (ℕ × MemberDef) → Option Taking
takes types defs v m = if is_constructor m.1.what then takes_by types defs v m.0 (one_parameter m.1.defaults (member_params types m.1)) else None

-- the one that is better than each other, of several
abbrev beats : Table → List (ℕ × ClassDef) → Taking → Taking → Bool
beats types defs a b = (a.index == b.index) || is_better types defs a.param a.steps b.param b.steps

abbrev winners : Table → List (ℕ × ClassDef) → List Taking → List Taking
winners types defs all = filter (λ a. list_all (beats types defs a) all) all

-- the result of a constructor is a value of its class
abbrev result_of_type : ℕ → Val
result_of_type t = record { ty = t; lvalue = false; zero = false }

abbrev constructed : Table → List (ℕ × ClassDef) → ℕ → ℕ → ℕ → Taking → Option Serving
constructed types defs t c to a = serving (record { class = c; index = a.index }) (Some a.steps) (steps types defs (result_of_type t) to)

-- the type that a temporary has which the wanted type is or refers to
abbrev temporary : Table → ℕ → Ty → ℕ
temporary types to (ty.Ref u) = bare types u
temporary types to other = bare types to

-- A choice among constructors: none takes the value, one does, or there is a tie. A tie is two functions that serve.
abbrev chosen : Table → List (ℕ × ClassDef) → ℕ → ℕ → ℕ → List Taking → List Taking → List Serving
chosen types defs t c to all (a ∷ []) = some_of (constructed types defs t c to) (a ∷ [])
chosen types defs t c to all others = some_of (constructed types defs t c to) all

abbrev constructors_of : Table → List (ℕ × ClassDef) → Val → ℕ → ℕ → Ty → List Serving
constructors_of types defs v to t (ty.Class c) = let all = filter_map (takes types defs v) (members_at defs c) in chosen types defs t c to all (winners types defs all)
constructors_of types defs v to t other = []

-- the constructors that serve
abbrev pub by_constructor : Table → List (ℕ × ClassDef) → Val → ℕ → List Serving
by_constructor types defs v to = let t = temporary types to (type_at types to) in constructors_of types defs v to t (type_at types t)

-- Conversion functions of the value's class and of its bases (12.3.2).

abbrev is_conversion : What → Bool
is_conversion what.Convert = true
is_conversion other = false

-- a conversion function hides one of the same name, which says its type, where lookup finds it first
abbrev is_found : List (ℕ × ClassDef) → ℕ → List Step → List ℕ → Bool
is_found defs c p name = list_any (same_path p) (undominated defs c (filter (λ q. declares defs name (class_at defs c q)) (paths defs c)))

abbrev to_object : List Step → List ConvStep
to_object [] = []
to_object (s ∷ p) = ToBase (s ∷ p) ∷ []

-- the value that a result of a type is: of a reference the object
abbrev result_value : ℕ → Ty → Val
result_value t (ty.Ref u) = record { ty = u; lvalue = true; zero = false }
result_value t other = result_of_type t

abbrev result_of : Table → Option Fun → Val
result_of types None = result_of_type 0
result_of types (Some f) = result_value f.result (type_at types f.result)

abbrev converting : Table → List (ℕ × ClassDef) → Val → ℕ → ℕ → List Step → (ℕ × MemberDef) → Option Serving
converting types defs v to c p m =
    if is_conversion m.1.what && is_found defs c p m.1.name
    then serving (record { class = class_at defs c p; index = m.0 })
    (with_const (is_const types v.ty) (is_const_member types m.1) (Some (to_object p)))
    (steps types defs (result_of types (fun_of types (slice_get types.types m.1.ty))) to)
    else None

abbrev all_conversions : Table → List (ℕ × ClassDef) → Val → ℕ → ℕ → List Serving
all_conversions types defs v to c = flat_map (λ p. filter_map (converting types defs v to c p) (members_at defs (class_at defs c p))) (paths defs c)

abbrev is_worse : Table → List (ℕ × ClassDef) → ℕ → List Serving → Serving → Bool
is_worse types defs to all f = list_any (λ (g : Serving). is_better types defs to g.after to f.after) all

abbrev not_worse : Table → List (ℕ × ClassDef) → ℕ → List Serving → List Serving
not_worse types defs to all = filter (λ f. not (is_worse types defs to all f)) all

abbrev conversions_of : Table → List (ℕ × ClassDef) → Val → ℕ → Ty → List Serving
conversions_of types defs v to (ty.Class c) = not_worse types defs to (all_conversions types defs v to c)
conversions_of types defs v to other = []

-- those that serve: their conversion afterwards is not worse than another's
abbrev pub by_conversion : Table → List (ℕ × ClassDef) → Val → ℕ → List Serving
by_conversion types defs v to = conversions_of types defs v to (type_at types (bare types v.ty))

-- one function that serves is the conversion, and several are an ambiguity
abbrev single : List Serving → User
single [] = Nothing
single (f ∷ []) = One f
single (f ∷ g ∷ rest) = Many

-- the conversion of rank 4 of a value to a type
abbrev pub by_user : Table → List (ℕ × ClassDef) → Val → ℕ → User
by_user types defs v to = single (by_constructor types defs v to ++ by_conversion types defs v to)

-- Of two conversions of rank 4, to t and to u, the one is better that uses the same function and has the better conversion after it.
abbrev same_function : MemberRef → MemberRef → Bool
same_function f g = (f.class == g.class) && (f.index == g.index)

abbrev pub is_better_user : Table → List (ℕ × ClassDef) → ℕ → Serving → ℕ → Serving → Bool
is_better_user types defs t x u y = same_function x.function y.function && is_better types defs t x.after u y.after

-- Implicit conversions without a user's function (4, 13.2).
use Rattle.std.specs.Prelude.{ℕ, Bool, true, false, ◌==◌, ◌&&◌, max, if◌then◌else◌, List, [], ◌∷◌, ◌++◌, Option, None, Some}
use Rattle.std.specs.List.{find, list_any}
use Rattle.std.specs.Option.{option_map, option_or}
use Rattle.cf_base.specs.declared.kind.Kind.{Kind}
use Rattle.cf_base.specs.declared.kind.Kind.TheVariants as kind
use Rattle.cf_base.specs.contracts.kind.KindPartialEq.TheImpl.{ghosts}
use Rattle.cf_base.specs.Promotion.{promoted}
use Rattle.cf_types.specs.declared.ty.Ty.{Ty}
use Rattle.cf_types.specs.declared.ty.Ty.TheVariants as ty
use Rattle.cf_types.specs.Table.{Table}
use Rattle.cf_classes.specs.declared.path.Step.{Step}
use Rattle.cf_classes.specs.declared.path.Step.TheVariants.{Base, VBase}
use Rattle.cf_classes.specs.declared.class.ClassDef.{ClassDef}
use Rattle.cf_classes.specs.Subobject.{paths, class_at}
use Rattle.cf_convert.specs.Constness.{type_at, is_const, bare, is_alike}
use Rattle.cf_convert.specs.declared.conv.Val.{Val}
use Rattle.cf_convert.specs.declared.conv.Conv.{Conv}
use Rattle.cf_convert.specs.declared.conv.ConvStep.{ConvStep}
use Rattle.cf_convert.specs.declared.conv.ConvStep.TheVariants.{Read, Decay, AddConst, Promote, Integer, Null, ToVoid, ToBase, ToMember}

-- the first path to a base of this class
abbrev leads_to : List (ℕ × ClassDef) → ℕ → ℕ → List Step → Bool
leads_to defs c b [] = false
leads_to defs c b (s ∷ p) = class_at defs c (s ∷ p) == b

abbrev pub base_path : List (ℕ × ClassDef) → ℕ → ℕ → Option (List Step)
base_path defs c b = find (leads_to defs c b) (paths defs c)

abbrev to_base : Option (List Step) → Option (List ConvStep)
to_base None = None
to_base (Some p) = Some (ToBase p ∷ [])

-- a pointer to a member of a base becomes one of the derived class, but not through a virtual base
abbrev to_member : Option (List Step) → Option (List ConvStep)
to_member None = None
to_member (Some []) = None
to_member (Some (Base i ∷ p)) = Some (ToMember (Base i ∷ p) ∷ [])
to_member (Some (VBase v ∷ p)) = None

-- an integer to a type: itself, promotion, or any other conversion
abbrev pub to_integer : Kind → Kind → List ConvStep
to_integer k l = if ghosts.eq k l then [] else (if ghosts.eq (promoted k) l then Promote ∷ [] else Integer l ∷ [])

-- an enumeration is promoted to int
abbrev pub enum_to_integer : Kind → List ConvStep
enum_to_integer l = if ghosts.eq kind.Int l then Promote ∷ [] else Integer l ∷ []

-- one class to another: itself, or its base
abbrev to_class : List (ℕ × ClassDef) → ℕ → ℕ → Option (List ConvStep)
to_class defs c d = if c == d then Some [] else to_base (base_path defs c d)

-- what a pointer or reference to an object leads to, without const; no function becomes `void`
abbrev pub pointed : List (ℕ × ClassDef) → Ty → Ty → Option (List ConvStep)
pointed defs (ty.Fun f) u = None
pointed defs t ty.Void = Some (ToVoid ∷ [])
pointed defs (ty.Class c) (ty.Class d) = to_base (base_path defs c d)
pointed defs t u = None

-- const may be added there, and not dropped
abbrev pub with_const : Bool → Bool → Option (List ConvStep) → Option (List ConvStep)
with_const true false steps = None
with_const true true steps = steps
with_const false false steps = steps
with_const false true steps = option_map (λ s. s ++ AddConst ∷ []) steps

-- what a pointer leads to, but for const, to what another does
abbrev pub pointee : Table → List (ℕ × ClassDef) → ℕ → ℕ → Option (List ConvStep)
pointee types defs t u = if is_alike types t u then Some [] else pointed defs (type_at types (bare types t)) (type_at types (bare types u))

-- a pointer to t to a pointer to u
abbrev pub to_pointer : Table → List (ℕ × ClassDef) → ℕ → ℕ → Option (List ConvStep)
to_pointer types defs t u = with_const (is_const types t) (is_const types u) (pointee types defs t u)

abbrev pub same_then : Bool → Option (List ConvStep) → Option (List ConvStep)
same_then true steps = steps
same_then false steps = None

abbrev class_of_member : List (ℕ × ClassDef) → ℕ → ℕ → Option (List ConvStep)
class_of_member defs c d = if c == d then Some [] else to_member (base_path defs d c)

-- a value of one type, which is no constant 0, to another type that is no reference
abbrev pub value_steps : Table → List (ℕ × ClassDef) → Ty → Ty → Option (List ConvStep)
value_steps types defs (ty.Int k) (ty.Int l) = Some (to_integer k l)
value_steps types defs (ty.Enum e) (ty.Int l) = Some (enum_to_integer l)
value_steps types defs (ty.Enum e) (ty.Enum f) = if e == f then Some [] else None
value_steps types defs (ty.Class c) (ty.Class d) = to_class defs c d
value_steps types defs (ty.Ptr t) (ty.Ptr u) = to_pointer types defs t u
value_steps types defs (ty.MemData c t) (ty.MemData d u) =
    with_const (is_const types t) (is_const types u) (same_then (is_alike types t u) (class_of_member defs c d))
value_steps types defs (ty.MemFun c f) (ty.MemFun d g) = same_then (f == g) (class_of_member defs c d)
value_steps types defs t u = None

abbrev pub takes_null : Ty → Bool
takes_null (ty.Ptr t) = true
takes_null (ty.MemData c t) = true
takes_null (ty.MemFun c f) = true
takes_null other = false

-- an array or a function is taken as a pointer
abbrev pub decayed : ℕ → Ty → Ty
decayed t (ty.Array u n) = ty.Ptr u
decayed t (ty.Fun f) = ty.Ptr t
decayed t other = other

abbrev pub first_step : Bool → Ty → List ConvStep
first_step lvalue (ty.Array t n) = Decay ∷ []
first_step lvalue (ty.Fun f) = Decay ∷ []
first_step lvalue other = if lvalue then Read ∷ [] else []

-- to a type that is no reference, without its own const
abbrev pub to_value : Table → List (ℕ × ClassDef) → Val → ℕ → Option (List ConvStep)
to_value types defs v u =
    let t = bare types v.ty in
    let from = type_at types t in
    let target = type_at types u in
    option_map (λ s. first_step v.lvalue from ++ s) (if v.zero && takes_null target then Some (Null ∷ []) else value_steps types defs (decayed t from) target)

-- what a reference is bound to without a temporary: an lvalue of the same type but for const, or of a class derived from it
abbrev referred_class : List (ℕ × ClassDef) → Ty → Ty → Option (List ConvStep)
referred_class defs (ty.Class c) (ty.Class d) = to_base (base_path defs c d)
referred_class defs a b = None

abbrev pub referred : Table → List (ℕ × ClassDef) → ℕ → ℕ → Option (List ConvStep)
referred types defs t u = if is_alike types t u then Some [] else referred_class defs (type_at types (bare types t)) (type_at types (bare types u))

abbrev pub binds : Table → List (ℕ × ClassDef) → Val → ℕ → Option (List ConvStep)
binds types defs v u = if v.lvalue then with_const (is_const types v.ty) (is_const types u) (referred types defs v.ty u) else None

abbrev pub is_add_const : ConvStep → Bool
is_add_const AddConst = true
is_add_const other = false

-- whether const is added
abbrev pub adds_const : List ConvStep → Bool
adds_const steps = list_any is_add_const steps

-- const is added for the temporary too, and once in all
abbrev pub through_temporary : List ConvStep → List ConvStep
through_temporary steps = if adds_const steps then steps else steps ++ AddConst ∷ []

-- else a temporary is made, for a reference to const alone
abbrev pub to_reference : Table → List (ℕ × ClassDef) → Val → ℕ → Option (List ConvStep)
to_reference types defs v u =
    option_or (binds types defs v u) (if is_const types u then option_map through_temporary (to_value types defs v (bare types u)) else None)

abbrev to_type : Table → List (ℕ × ClassDef) → Val → ℕ → Ty → Option (List ConvStep)
to_type types defs v to (ty.Ref u) = to_reference types defs v u
to_type types defs v to other = to_value types defs v (bare types to)

-- the steps of the conversion of a value to a type, if there is one
abbrev pub steps : Table → List (ℕ × ClassDef) → Val → ℕ → Option (List ConvStep)
steps types defs v to = to_type types defs v to (type_at types to)

-- 1 the same type, a read, an array or function as a pointer, const; 2 promotion; 3 any other
abbrev pub step_rank : ConvStep → ℕ
step_rank Read = 1
step_rank Decay = 1
step_rank AddConst = 1
step_rank Promote = 2
step_rank (Integer k) = 3
step_rank Null = 3
step_rank ToVoid = 3
step_rank (ToBase p) = 3
step_rank (ToMember p) = 3

abbrev pub rank : List ConvStep → ℕ
rank [] = 1
rank (s ∷ ss) = max (step_rank s) (rank ss)

abbrev pub conversion : List ConvStep → Conv
conversion steps = record { rank = rank steps; steps = steps }

-- the conversion of ranks 1 to 3 of a value to a type
abbrev pub converts : Table → List (ℕ × ClassDef) → Val → ℕ → Option Conv
converts types defs v to = option_map conversion (steps types defs v to)

-- Which types of a file's table have a form in the plain program's trees (3.6, 8.2.4, 8.2.5): void and scalars but pointers to members, arrays of
-- them and arrays of these, and functions over them.
use Rattle.std.specs.Prelude.{ℕ, Bool, true, false, if◌then◌else◌, List, [], ◌∷◌, ◌++◌, Option, Some, None, slice_get}
use Rattle.std.specs.Option.{option_map, option_and_then}
use Rattle.cf_types.specs.declared.ty.Ty.{Ty}
use Rattle.cf_types.specs.declared.ty.Ty.TheVariants as ty
use Rattle.cf_types.specs.declared.ty.Fun.{Fun}
use Rattle.cf_types.specs.Table.{Table}
use Rattle.cf_classes.specs.TypeTree.{fun_of}
use Rattle.cf_run_tree.specs.declared.shape.Form.{Form}
use Rattle.cf_run_tree.specs.declared.shape.Form.TheVariants as form
use Rattle.cf_run_tree.specs.declared.shape.Shape.{Shape}
use Rattle.cf_run_tree.specs.declared.shape.Bounds.{Bounds}
use Rattle.cf_run_tree.specs.declared.shape.Bounds.TheVariants as bounds
use Rattle.cf_run_tree.specs.declared.shape.ObjectType.{ObjectType}
use Rattle.cf_run_tree.specs.declared.program.Signature.{Signature}

-- of a type that is not const
abbrev pub form_of : Ty → Option Form
form_of ty.Void = Some form.Void
form_of (ty.Int k) = Some (form.Integer k)
form_of (ty.Enum e) = Some (form.Enumeration e)
form_of (ty.Class c) = None
form_of (ty.Ptr t) = Some (form.Pointer t)
form_of (ty.Ref t) = Some (form.Reference t)
form_of (ty.Array t n) = None
form_of (ty.Fun f) = None
form_of (ty.MemData c t) = None
form_of (ty.MemFun c f) = None
form_of (ty.Const t) = None

abbrev pub shaped : Bool → Form → Shape
shaped is_const f = record { is_const = is_const; form = f }

-- const stands on a type that is not const (7.1.6)
abbrev pub shape_in : List Ty → Ty → Option Shape
shape_in types (ty.Const t) = option_map (shaped true) (option_and_then form_of (slice_get types t))
shape_in types v = option_map (shaped false) (form_of v)

-- the shape that the type of this number is
abbrev pub shape_of : List Ty → ℕ → Option Shape
shape_of types t = option_and_then (shape_in types) (slice_get types t)

-- the type of objects of this shape, in an array of these bounds
abbrev pub bounded : Bounds → Shape → ObjectType
bounded b s = record { shape = s; bounds = b }

-- an array of so many elements of a type
abbrev pub row_in : List Ty → ℕ → ℕ → Ty → Option ObjectType
row_in types n t (ty.Array u m) = option_map (bounded (bounds.Two n m)) (shape_of types u)
row_in types n t v = option_map (bounded (bounds.One n)) (shape_of types t)

abbrev pub array_of : List Ty → ℕ → ℕ → Option ObjectType
array_of types n t = option_and_then (row_in types n t) (slice_get types t)

abbrev pub object_in : List Ty → ℕ → Ty → Option ObjectType
object_in types t (ty.Array u n) = array_of types n u
object_in types t v = option_map (bounded bounds.None) (shape_of types t)

-- the type of objects that the type of this number is: a scalar, an array of scalars or an array of such arrays
abbrev pub object_type_of : Table → ℕ → Option ObjectType
object_type_of types t = option_and_then (object_in types.types t) (slice_get types.types t)

-- both, made into one
abbrev pub joined : {A B C : Type 0} → (A → B → C) → Option A → Option B → Option C
joined f (Some a) (Some b) = Some (f a b)
joined f (Some a) None = None
joined f None b = None

-- each of them
abbrev pub each : {A B : Type 0} → (A → Option B) → List A → Option (List B)
each f [] = Some []
each f (x ∷ xs) = joined (λ y ys. y ∷ ys) (f x) (each f xs)

-- what was found, and the others behind it
abbrev pub in_front : {A : Type 0} → List A → Option (List A) → Option (List A)
in_front found (Some rest) = Some (found ++ rest)
in_front found None = None

-- of a function with these parameters and this result
abbrev pub signature : Table → List ℕ → ℕ → Option Signature
signature types params result =
    joined (λ ps r. record { params = ps; result = r }) (each (shape_of types.types) params) (shape_of types.types result)

-- no const member function
abbrev pub function_signature : Table → Option Fun → Option Signature
function_signature types None = None
function_signature types (Some f) = if f.is_const then None else signature types f.params f.result

-- the type of functions that the type of this number is
abbrev pub signature_of : Table → ℕ → Option Signature
signature_of types t = function_signature types (fun_of types (slice_get types.types t))

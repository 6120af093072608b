-- When two types are the same, by their forms.
use Rattle.std.specs.Prelude.{◌≡◌, ℕ, ◌<◌, Bool, true, false, ◌==◌, ◌&&◌, if◌then◌else◌, List, [], ◌∷◌, length, Option, Some, slice_get, bytes_eq}
use Rattle.cf_types.specs.declared.ty.Fun.{Fun}
use Rattle.cf_classes.specs.LinkName.{scope_code, enum_names}
use Rattle.cf_core.specs.Types.{kind_number, type_eq}
use Rattle.cf_core.specs.FromTypes.{Tables}
use Rattle.cf_lower_types.specs.declared.form.Form.{Form}
use Rattle.cf_lower_types.specs.declared.form.Form.TheVariants as form
use Rattle.cf_lower_types.specs.Bare.{bare, NamesFun}
use Rattle.cf_lower_same.specs.declared.alike.Alike.{Alike}
use Rattle.cf_lower_same.specs.declared.alike.Alike.TheVariants as told

-- enumerations go by their codes
unfoldable pub same_enums : Tables → ℕ → ℕ → Bool
same_enums tables e f = bytes_eq (scope_code (enum_names tables.classes e)) (scope_code (enum_names tables.classes f))

-- types of these numbers, without const
abbrev pub same : Tables → ℕ → ℕ → Bool
same tables t u = type_eq (bare tables t) (bare tables u)

abbrev pub same_params : Tables → List ℕ → List ℕ → Bool
same_params tables [] [] = true
same_params tables (p ∷ ps) (q ∷ qs) = same tables p q && same_params tables ps qs
same_params tables ps qs = false

-- by parameters and result
abbrev pub same_funs : Tables → Option Fun → Option Fun → Bool
same_funs tables (Some f) (Some g) = same_params tables f.params g.params && same tables f.result g.result
same_funs tables f g = false

abbrev pub same_functions : Tables → ℕ → ℕ → Bool
same_functions tables f g = same_funs tables (slice_get tables.types.funs f) (slice_get tables.types.funs g)

abbrev pub alike : Form → Form → Alike
alike form.Void form.Void = told.Known true
alike (form.Integer k) (form.Integer l) = told.Known (kind_number k == kind_number l)
alike (form.Enumeration e) (form.Enumeration f) = told.Enumerations e f
alike (form.Class c) (form.Class d) = told.Untold
alike (form.Pointer t) (form.Pointer u) = told.Types t u
alike (form.Reference t) (form.Reference u) = told.Types t u
alike (form.Array t n) (form.Array u m) = if n == m then told.Types t u else told.Known false
alike (form.Function f) (form.Function g) = told.Functions f g
alike (form.DataMember c t) (form.DataMember d u) = told.Untold
alike (form.FunctionMember c f) (form.FunctionMember d g) = told.Untold
alike a b = told.Known false

-- what is told of whether they are
abbrev pub Tells : Tables → Alike → Bool → Type 0
Tells tables (told.Known x) b = x ≡ b
Tells tables (told.Enumerations e f) b = same_enums tables e f ≡ b
Tells tables (told.Types t u) b = same tables t u ≡ b
Tells tables (told.Functions f g) b = same_functions tables f g ≡ b
Tells tables told.Untold b = Unit {0}

-- what is asked for is there, and stands before two numbers
abbrev pub Below : Tables → ℕ → ℕ → Alike → Type 0
Below tables n m (told.Known x) = Unit {0}
Below tables n m (told.Enumerations e f) = (e < length tables.classes.enums) × (f < length tables.classes.enums)
Below tables n m (told.Types t u) = (t < n) × (u < m)
Below tables n m (told.Functions f g) = NamesFun tables n f × NamesFun tables m g
Below tables n m told.Untold = Unit {0}

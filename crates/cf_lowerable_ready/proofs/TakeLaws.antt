-- Which values places take, by the forms of their types.
use Rattle.std.proofs.Common.{◌≡◌, ℕ, Bool, List, [], ◌∷◌, map, Option, Some, None, slice_get, refl, sym, ap, ◌∙◌}
use Rattle.cf_base.specs.declared.kind.Kind.TheVariants.{Char, Int}
use Rattle.cf_types.specs.declared.ty.Fun.{Fun}
use Rattle.cf_core.specs.Types.{Name, SourceType, void, integer, enumeration, class, pointer, reference, array, gives, data_member, function_member, without_const, type_eq, same_but_const}
use Rattle.cf_classes.specs.LinkName.{scope_code, enum_names}
use Rattle.cf_core.specs.FromTypes.{Tables, type_of, taking, fun_type, class_code}
use Rattle.cf_lower_types.specs.declared.form.Form.{Form}
use Rattle.cf_lower_types.specs.declared.form.Form.TheVariants as form
use Rattle.cf_lower_types.specs.Bare.{fun_at}
use Rattle.cf_plain_kept.specs.Kept.{Kept, no_value, an_integer, a_place, a_member, an_object}
use Rattle.cf_lowerable_ready.specs.Contents.{suits_if, is_member_of, has_no_value}
use Rattle.cf_lowerable_ready.specs.Types.{stripped, outer_type}
use Rattle.cf_lowerable_ready.proofs.TypeLaws.{suits_by}

-- ---- types of places

pub same_types : (t u v w : SourceType) (b : Bool) → b ≡ type_eq v w → v ≡ without_const t → w ≡ without_const u → b ≡ same_but_const t u
same_types t u v w b e first second = e ∙ ap (λ x. type_eq x w) first ∙ ap (type_eq (without_const t)) second

-- ---- one form as another

as_enumeration : (e : Name) (k : Option Kept) → suits_if (integer Int) k ≡ suits_if (enumeration e) k
as_enumeration e None = refl
as_enumeration e (Some no_value) = refl
as_enumeration e (Some (an_integer f)) = refl
as_enumeration e (Some (a_place t)) = refl
as_enumeration e (Some (a_member t)) = refl
as_enumeration e (Some (an_object i t)) = refl

as_reference : (u : SourceType) (k : Option Kept) → suits_if (pointer u) k ≡ suits_if (reference u) k
as_reference u None = refl
as_reference u (Some no_value) = refl
as_reference u (Some (an_integer f)) = refl
as_reference u (Some (a_place t)) = refl
as_reference u (Some (a_member t)) = refl
as_reference u (Some (an_object i t)) = refl

as_data_member : (c : Name) (u : SourceType) (k : Option Kept) → is_member_of (data_member c u) k ≡ suits_if (data_member c u) k
as_data_member c u None = refl
as_data_member c u (Some no_value) = refl
as_data_member c u (Some (an_integer f)) = refl
as_data_member c u (Some (a_place t)) = refl
as_data_member c u (Some (a_member t)) = refl
as_data_member c u (Some (an_object i t)) = refl

as_function_member : (c : Name) (u : SourceType) (k : Option Kept) → is_member_of (function_member c u) k ≡ suits_if (function_member c u) k
as_function_member c u None = refl
as_function_member c u (Some no_value) = refl
as_function_member c u (Some (an_integer f)) = refl
as_function_member c u (Some (a_place t)) = refl
as_function_member c u (Some (a_member t)) = refl
as_function_member c u (Some (an_object i t)) = refl

as_void : (k : Option Kept) → has_no_value k ≡ suits_if void k
as_void None = refl
as_void (Some no_value) = refl
as_void (Some (an_integer f)) = refl
as_void (Some (a_place t)) = refl
as_void (Some (a_member t)) = refl
as_void (Some (an_object i t)) = refl

as_class : (c : Name) (k : Option Kept) → has_no_value k ≡ suits_if (class c) k
as_class c None = refl
as_class c (Some no_value) = refl
as_class c (Some (an_integer f)) = refl
as_class c (Some (a_place t)) = refl
as_class c (Some (a_member t)) = refl
as_class c (Some (an_object i t)) = refl

as_array : (u : SourceType) (n : ℕ) (k : Option Kept) → has_no_value k ≡ suits_if (array u n) k
as_array u n None = refl
as_array u n (Some no_value) = refl
as_array u n (Some (an_integer f)) = refl
as_array u n (Some (a_place t)) = refl
as_array u n (Some (a_member t)) = refl
as_array u n (Some (an_object i t)) = refl

as_function : (ps : List SourceType) (t : SourceType) (c : Bool) (k : Option Kept) → has_no_value k ≡ suits_if (taking ps (gives t c)) k
as_function [] t c None = refl
as_function [] t c (Some no_value) = refl
as_function [] t c (Some (an_integer f)) = refl
as_function [] t c (Some (a_place u)) = refl
as_function [] t c (Some (a_member u)) = refl
as_function [] t c (Some (an_object i u)) = refl
as_function (p ∷ ps) t c None = refl
as_function (p ∷ ps) t c (Some no_value) = refl
as_function (p ∷ ps) t c (Some (an_integer f)) = refl
as_function (p ∷ ps) t c (Some (a_place u)) = refl
as_function (p ∷ ps) t c (Some (a_member u)) = refl
as_function (p ∷ ps) t c (Some (an_object i u)) = refl

as_function_type : (tables : Tables) (o : Option Fun) (k : Option Kept) → has_no_value k ≡ suits_if (fun_type (type_of tables) o) k
as_function_type tables None k = as_void k
as_function_type tables (Some g) k = as_function (map (type_of tables) g.params) (type_of tables g.result) g.is_const k

-- ---- by the form of a type

module _ (tables : Tables) (x : Form) (k : Option Kept) (b : Bool) where
  at : (y : Form) → x ≡ y → b ≡ suits_if (outer_type tables y) k → b ≡ suits_if (outer_type tables x) k
  at y is e = e ∙ sym (ap (λ z. suits_if (outer_type tables z) k) is)

  pub enumeration_takes : (n : ℕ) → x ≡ form.Enumeration n → b ≡ suits_if (integer Int) k → b ≡ suits_if (outer_type tables x) k
  enumeration_takes n is e = at (form.Enumeration n) is (e ∙ as_enumeration (scope_code (enum_names tables.classes n)) k)

  pub reference_takes : (u : ℕ) → x ≡ form.Reference u → b ≡ suits_if (pointer (type_of tables u)) k → b ≡ suits_if (outer_type tables x) k
  reference_takes u is e = at (form.Reference u) is (e ∙ as_reference (type_of tables u) k)

  pub data_member_takes : (t c u : ℕ) → x ≡ form.DataMember c u → type_of tables t ≡ outer_type tables x → b ≡ is_member_of (type_of tables t) k → b ≡ suits_if (outer_type tables x) k
  data_member_takes t c u is of e =
      at (form.DataMember c u) is (e ∙ ap (λ w. is_member_of w k) (of ∙ ap (outer_type tables) is) ∙ as_data_member (class_code tables.classes c) (type_of tables u) k)

  pub function_member_takes : (t c f : ℕ) → x ≡ form.FunctionMember c f → type_of tables t ≡ outer_type tables x → b ≡ is_member_of (type_of tables t) k
      → b ≡ suits_if (outer_type tables x) k
  function_member_takes t c f is of e =
      at (form.FunctionMember c f) is (e ∙ ap (λ w. is_member_of w k) (of ∙ ap (outer_type tables) is) ∙ as_function_member (class_code tables.classes c) (fun_at tables f) k)

  module _ (e : b ≡ has_no_value k) where
    pub void_takes : x ≡ form.Void → b ≡ suits_if (outer_type tables x) k
    void_takes is = at form.Void is (e ∙ as_void k)

    pub class_takes : (c : ℕ) → x ≡ form.Class c → b ≡ suits_if (outer_type tables x) k
    class_takes c is = at (form.Class c) is (e ∙ as_class (class_code tables.classes c) k)

    pub array_takes : (u n : ℕ) → x ≡ form.Array u n → b ≡ suits_if (outer_type tables x) k
    array_takes u n is = at (form.Array u n) is (e ∙ as_array (type_of tables u) n k)

    pub function_takes : (f : ℕ) → x ≡ form.Function f → b ≡ suits_if (outer_type tables x) k
    function_takes f is = at (form.Function f) is (e ∙ as_function_type tables (slice_get tables.types.funs f) k)

-- ---- by the type

stripped_takes : (t s o : SourceType) → s ≡ stripped t → s ≡ o → (k : Option Kept) → suits_if o k ≡ suits_if t k
stripped_takes t s o bare is None = refl
stripped_takes t s o bare is (Some x) = suits_by t s o bare is x

pub taken_by : (t s o : SourceType) (k : Option Kept) (b : Bool) → s ≡ stripped t → s ≡ o → b ≡ suits_if o k → b ≡ suits_if t k
taken_by t s o k b bare is e = e ∙ stripped_takes t s o bare is k

-- ---- of any place

pub array_place_takes : (n : ℕ) (k : Option Kept) (b : Bool) → b ≡ has_no_value k → b ≡ suits_if (array (integer Char) n) k
array_place_takes n k b e = e ∙ as_array (integer Char) n k

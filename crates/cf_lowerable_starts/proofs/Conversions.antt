-- What is known of what is converted to a type, by the type's form.
use Rattle.std.proofs.Common.{◌≡◌, ℕ, Bool, false, List, [], ◌∷◌, map, Option, Some, None, slice_get, refl, sym, ap, ◌∙◌}
use Rattle.cf_base.specs.declared.kind.Kind.{Kind}
use Rattle.cf_types.specs.declared.ty.Fun.{Fun}
use Rattle.cf_core.specs.FromTypes.{Tables, type_of, fun_type, taking}
use Rattle.cf_core.specs.Types.{SourceType, void, integer, enumeration, class, pointer, reference, array, takes, gives, data_member, function_member, const, without_const}
use Rattle.cf_lower.specs.Constants.{Known}
use Rattle.cf_lower_layout.specs.Sorts.{Sort, sort_to}
use Rattle.cf_lower_program.specs.Alike.{converts, has_number, is_pointed}
use Rattle.cf_lower_types.specs.Bare.{bare, form_type}
use Rattle.cf_lower_types.specs.declared.form.Form.{Form}
use Rattle.cf_lower_types.specs.declared.form.Form.TheVariants as form
use Rattle.cf_lower_types.proofs.Scalars.{without_const_twice}

module _ (k : Known) where
  converts_by_bare : (t : SourceType) → converts (without_const t) k ≡ converts t k
  converts_by_bare void = refl
  converts_by_bare (integer i) = refl
  converts_by_bare (enumeration e) = refl
  converts_by_bare (class c) = refl
  converts_by_bare (pointer t) = ap (λ u. is_pointed (Some (sort_to u)) k) (without_const_twice t)
  converts_by_bare (reference t) = refl
  converts_by_bare (array t n) = refl
  converts_by_bare (takes p t) = refl
  converts_by_bare (gives t c) = refl
  converts_by_bare (data_member c t) = refl
  converts_by_bare (function_member c t) = refl
  converts_by_bare (const t) = converts_by_bare t

  module _ (tables : Tables) (t : ℕ) (x : Form) (e : bare tables t ≡ form_type tables x) where
    by_form : (y : Form) → x ≡ y → converts (form_type tables y) k ≡ converts (type_of tables t) k
    by_form y is = sym (ap (λ z. converts (form_type tables z) k) is) ∙ sym (ap (λ u. converts u k) e) ∙ converts_by_bare (type_of tables t)

    pub number_converts : (i : Kind) (b : Bool) → x ≡ form.Integer i → b ≡ has_number k → b ≡ converts (type_of tables t) k
    number_converts i b is number = number ∙ by_form (form.Integer i) is

    pub named_converts : (i : ℕ) (b : Bool) → x ≡ form.Enumeration i → b ≡ has_number k → b ≡ converts (type_of tables t) k
    named_converts i b is number = number ∙ by_form (form.Enumeration i) is

    pub pointer_converts : (u : ℕ) (s : Sort) (b : Bool) → x ≡ form.Pointer u → s ≡ sort_to (bare tables u) → b ≡ is_pointed (Some s) k → b ≡ converts (type_of tables t) k
    pointer_converts u s b is sort pointed =
        pointed ∙ ap (λ v. is_pointed (Some v) k) sort ∙ sym (ap (λ v. is_pointed (Some (sort_to v)) k) (without_const_twice (type_of tables u)))
        ∙ by_form (form.Pointer u) is

    function_none : (o : Option Fun) → false ≡ converts (without_const (fun_type (type_of tables) o)) k
    function_none None = refl
    function_none (Some f) = by f.params
      where
        by : (ps : List ℕ) → false ≡ converts (without_const (taking (map (type_of tables) ps) (gives (type_of tables f.result) f.is_const))) k
        by [] = refl
        by (p ∷ ps) = refl

    pub void_converts : x ≡ form.Void → false ≡ converts (type_of tables t) k
    void_converts is = by_form form.Void is

    pub class_converts : (c : ℕ) → x ≡ form.Class c → false ≡ converts (type_of tables t) k
    class_converts c is = by_form (form.Class c) is

    pub reference_converts : (u : ℕ) → x ≡ form.Reference u → false ≡ converts (type_of tables t) k
    reference_converts u is = by_form (form.Reference u) is

    pub array_converts : (u n : ℕ) → x ≡ form.Array u n → false ≡ converts (type_of tables t) k
    array_converts u n is = by_form (form.Array u n) is

    pub function_converts : (f : ℕ) → x ≡ form.Function f → false ≡ converts (type_of tables t) k
    function_converts f is = function_none (slice_get tables.types.funs f) ∙ by_form (form.Function f) is

    pub data_converts : (c u : ℕ) → x ≡ form.DataMember c u → false ≡ converts (type_of tables t) k
    data_converts c u is = by_form (form.DataMember c u) is

    pub member_converts : (c f : ℕ) → x ≡ form.FunctionMember c f → false ≡ converts (type_of tables t) k
    member_converts c f is = by_form (form.FunctionMember c f) is

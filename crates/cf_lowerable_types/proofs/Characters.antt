-- Arrays of characters, by the form of their type and that of its elements.
use Rattle.std.proofs.Common.{◌≡◌, ℕ, Bool, false, List, [], ◌∷◌, map, Option, Some, None, slice_get, refl, sym, ap, ◌∙◌}
use Rattle.cf_base.specs.declared.kind.Kind.{Kind}
use Rattle.cf_base.specs.declared.kind.Kind.TheVariants.{Char, SChar, UChar, Short, UShort, Int, UInt, Long, ULong}
use Rattle.cf_types.specs.declared.ty.Fun.{Fun}
use Rattle.cf_core.specs.Types.{integer, array, gives, without_const}
use Rattle.cf_core.specs.FromTypes.{Tables, type_of, taking, fun_type}
use Rattle.cf_lower.specs.Kept.{holds}
use Rattle.cf_lower_layout.specs.Sorts.{address}
use Rattle.cf_lower_place.specs.Leaf.{are_chars}
use Rattle.cf_lower_types.specs.declared.form.Form.{Form}
use Rattle.cf_lower_types.specs.declared.form.Form.TheVariants as form
use Rattle.cf_lower_types.specs.Bare.{bare, form_type}
use Rattle.cf_lower_types.specs.Forms.{elements_in}
use Rattle.cf_lowerable_types.specs.Types.{is_character, is_of_characters}

module _ (tables : Tables) where
  no_functions : (n : ℕ) (o : Option Fun) → false ≡ are_chars (holds (address (array (without_const (fun_type (type_of tables) o)) n)))
  no_functions n None = refl
  no_functions n (Some f) = by f.params
    where
      by : (ps : List ℕ) → false ≡ are_chars (holds (address (array (without_const (taking (map (type_of tables) ps) (gives (type_of tables f.result) f.is_const))) n)))
      by [] = refl
      by (p ∷ ps) = refl

  by_kind : (n : ℕ) (k : Kind) → is_character k ≡ are_chars (holds (address (array (integer k) n)))
  by_kind n Char = refl
  by_kind n SChar = refl
  by_kind n UChar = refl
  by_kind n Short = refl
  by_kind n UShort = refl
  by_kind n Int = refl
  by_kind n UInt = refl
  by_kind n Long = refl
  by_kind n ULong = refl

  by_elements : (n : ℕ) (y : Form) → is_of_characters y ≡ are_chars (holds (address (array (form_type tables y) n)))
  by_elements n form.Void = refl
  by_elements n (form.Integer k) = by_kind n k
  by_elements n (form.Enumeration e) = refl
  by_elements n (form.Class c) = refl
  by_elements n (form.Pointer u) = refl
  by_elements n (form.Reference u) = refl
  by_elements n (form.Array u m) = refl
  by_elements n (form.Function f) = no_functions n (slice_get tables.types.funs f)
  by_elements n (form.DataMember c u) = refl
  by_elements n (form.FunctionMember c f) = refl

  same_pair : (a b : ℕ × ℕ) → Some a ≡ Some b → a ≡ b
  same_pair a b e = cc

  pub chars_array : (t : ℕ) (x : Form) (u n : ℕ) (y : Form) (b : Bool) → bare tables t ≡ form_type tables x → elements_in x ≡ Some (u, n) → bare tables u ≡ form_type tables y
      → b ≡ is_of_characters y → b ≡ are_chars (holds (address (bare tables t)))
  chars_array t (form.Array v m) u n y b is k inside e =
      let p = same_pair (v, m) (u, n) k in
      e ∙ by_elements m y ∙ ap (λ w. are_chars (holds (address (array w m)))) (sym inside)
      ∙ ap (λ w. are_chars (holds (address (array (bare tables w) m)))) (sym (ap (λ (y : ℕ × ℕ). y.0) p))
      ∙ sym (ap (λ w. are_chars (holds (address w))) is)
  chars_array t x u n y b is k inside e = cc

  no_chars_function : (o : Option Fun) → false ≡ are_chars (holds (address (without_const (fun_type (type_of tables) o))))
  no_chars_function None = refl
  no_chars_function (Some f) = by f.params
    where
      by : (ps : List ℕ) → false ≡ are_chars (holds (address (without_const (taking (map (type_of tables) ps) (gives (type_of tables f.result) f.is_const)))))
      by [] = refl
      by (p ∷ ps) = refl

  no_chars_form : (x : Form) → elements_in x ≡ None → false ≡ are_chars (holds (address (form_type tables x)))
  no_chars_form form.Void k = refl
  no_chars_form (form.Integer l) k = refl
  no_chars_form (form.Enumeration n) k = refl
  no_chars_form (form.Class c) k = refl
  no_chars_form (form.Pointer u) k = refl
  no_chars_form (form.Reference u) k = refl
  no_chars_form (form.Array u n) k = cc
  no_chars_form (form.Function f) k = no_chars_function (slice_get tables.types.funs f)
  no_chars_form (form.DataMember c u) k = refl
  no_chars_form (form.FunctionMember c f) k = refl

  pub no_chars : (t : ℕ) (x : Form) → bare tables t ≡ form_type tables x → elements_in x ≡ None → false ≡ are_chars (holds (address (bare tables t)))
  no_chars t x is k = no_chars_form x k ∙ sym (ap (λ w. are_chars (holds (address w))) is)

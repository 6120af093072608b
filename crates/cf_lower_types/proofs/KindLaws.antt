-- The kind of the characters of an array, by the form of its type.
use Rattle.std.proofs.Common.{◌≡◌, ℕ, List, [], ◌∷◌, map, Option, Some, None, slice_get, refl, sym, ap, ◌∙◌}
use Rattle.cf_base.specs.declared.kind.Kind.TheVariants.{Char}
use Rattle.cf_types.specs.declared.ty.Fun.{Fun}
use Rattle.cf_core.specs.Types.{gives, without_const}
use Rattle.cf_core.specs.FromTypes.{Tables, type_of, fun_type, taking}
use Rattle.cf_core.specs.Objects.{character_kind}
use Rattle.cf_lower_layout.proofs.Characters.{kind_by_bare}
use Rattle.cf_lower_types.specs.declared.form.Form.{Form}
use Rattle.cf_lower_types.specs.declared.form.Form.TheVariants as form
use Rattle.cf_lower_types.specs.Bare.{bare, form_type}
use Rattle.cf_lower_types.specs.Forms.{elements_in, kind_in}

same_pair : (a b : ℕ × ℕ) → Some a ≡ Some b → a ≡ b
same_pair a b e = cc

module _ (tables : Tables) (t : ℕ) (x : Form) (e : bare tables t ≡ form_type tables x) where
  kind_in_form : character_kind (form_type tables x) ≡ character_kind (type_of tables t)
  kind_in_form = sym (ap character_kind e) ∙ kind_by_bare (type_of tables t)

  pub elements_kind : (u n : ℕ) → elements_in x ≡ Some (u, n) → character_kind (type_of tables u) ≡ character_kind (type_of tables t)
  elements_kind u n k = by x k ∙ kind_in_form
    where
      by : (x : Form) → elements_in x ≡ Some (u, n) → character_kind (type_of tables u) ≡ character_kind (form_type tables x)
      by (form.Array v m) k = sym (kind_by_bare (type_of tables v) ∙ ap (λ (y : ℕ × ℕ). character_kind (type_of tables y.0)) (same_pair (v, m) (u, n) k))
      by y k = cc

  function_kind : (o : Option Fun) → character_kind (without_const (fun_type (type_of tables) o)) ≡ Char
  function_kind None = refl
  function_kind (Some f) = by f.params
    where
      by : (ps : List ℕ) → character_kind (without_const (taking (map (type_of tables) ps) (gives (type_of tables f.result) f.is_const))) ≡ Char
      by [] = refl
      by (p ∷ ps) = refl

  pub kind_at : elements_in x ≡ None → kind_in x ≡ character_kind (type_of tables t)
  kind_at k = by x k ∙ kind_in_form
    where
      by : (x : Form) → elements_in x ≡ None → kind_in x ≡ character_kind (form_type tables x)
      by form.Void k = refl
      by (form.Integer l) k = refl
      by (form.Enumeration n) k = refl
      by (form.Class c) k = refl
      by (form.Pointer u) k = refl
      by (form.Reference u) k = refl
      by (form.Array u n) k = cc
      by (form.Function f) k = sym (function_kind (slice_get tables.types.funs f))
      by (form.DataMember c u) k = refl
      by (form.FunctionMember c f) k = refl

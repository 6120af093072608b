-- The bytes of types, by their forms.
use Rattle.std.proofs.Common.{◌≡◌, ℕ, ◌*◌, List, [], ◌∷◌, map, Option, Some, None, slice_get, refl, sym, ap, ◌∙◌}
use Rattle.std.proofs.Math.Nat.{mul-one}
use Rattle.cf_base.specs.declared.kind.Kind.TheVariants.{Char}
use Rattle.cf_types.specs.declared.ty.Fun.{Fun}
use Rattle.cf_core.specs.Types.{Name, SourceType, void, integer, enumeration, class, pointer, reference, array, takes, gives, data_member, function_member, const, without_const}
use Rattle.cf_core.specs.Classes.{Class}
use Rattle.cf_core.specs.FromClasses.{classes_in}
use Rattle.cf_core.specs.FromTypes.{Tables, type_of, fun_type, taking, class_code}
use Rattle.cf_core.specs.Size.{Extent, extent_with, size}
use Rattle.cf_lower_types.specs.declared.form.Form.{Form}
use Rattle.cf_lower_types.specs.declared.form.Form.TheVariants as form
use Rattle.cf_lower_types.specs.Bare.{bare, classes_of, form_type}
use Rattle.cf_lower_types.specs.Forms.{elements_in, bytes_in}

module _ (whole : Name → Extent) where
  extent_by_bare : (t : SourceType) → extent_with whole (without_const t) ≡ extent_with whole t
  extent_by_bare void = refl
  extent_by_bare (integer k) = refl
  extent_by_bare (enumeration e) = refl
  extent_by_bare (class c) = refl
  extent_by_bare (pointer t) = refl
  extent_by_bare (reference t) = refl
  extent_by_bare (array t n) = ap (λ (e : Extent). let x : Extent = record e { size = n * e.size } in x) (extent_by_bare t)
  extent_by_bare (takes p t) = refl
  extent_by_bare (gives t c) = refl
  extent_by_bare (data_member c t) = refl
  extent_by_bare (function_member c t) = refl
  extent_by_bare (const t) = extent_by_bare t

pub size_by_bare : (cs : List Class) (t : SourceType) → size cs (without_const t) ≡ size cs t
size_by_bare cs t = ap (λ (e : Extent). e.size) (extent_by_bare _ t)

-- ---- by the form

class_size : (c : Name) → size [] (class c) ≡ 1
class_size c = refl

same_pair : (a b : ℕ × ℕ) → Some a ≡ Some b → a ≡ b
same_pair a b e = cc

module _ (tables : Tables) (t : ℕ) (x : Form) (e : bare tables t ≡ form_type tables x) where
  size_at : size (classes_of tables) (form_type tables x) ≡ size (classes_of tables) (type_of tables t)
  size_at = sym (ap (size (classes_of tables)) e) ∙ size_by_bare (classes_of tables) (type_of tables t)

  pub array_at : (u n : ℕ) → elements_in x ≡ Some (u, n) → n * size (classes_of tables) (type_of tables u) ≡ size (classes_of tables) (type_of tables t)
  array_at u n k = by x k ∙ size_at
    where
      by : (x : Form) → elements_in x ≡ Some (u, n) → n * size (classes_of tables) (type_of tables u) ≡ size (classes_of tables) (form_type tables x)
      by (form.Array v m) k =
          let p = same_pair (v, m) (u, n) k in
          sym (ap (λ s. m * s) (size_by_bare (classes_of tables) (type_of tables v))
          ∙ ap (λ i. i * size (classes_of tables) (type_of tables v)) (ap (λ (y : ℕ × ℕ). y.1) p)
          ∙ ap (λ w. n * size (classes_of tables) (type_of tables w)) (ap (λ (y : ℕ × ℕ). y.0) p))
      by y k = cc

  function_size : (o : Option Fun) → size (classes_of tables) (without_const (fun_type (type_of tables) o)) ≡ 1
  function_size None = refl
  function_size (Some f) = by f.params
    where
      by : (ps : List ℕ) → size (classes_of tables) (without_const (taking (map (type_of tables) ps) (gives (type_of tables f.result) f.is_const))) ≡ 1
      by [] = refl
      by (p ∷ ps) = refl

  pub bytes_at : tables.classes.defined ≡ [] → elements_in x ≡ None → bytes_in x ≡ size (classes_of tables) (type_of tables t)
  bytes_at none k = by x k ∙ size_at
    where
      by : (x : Form) → elements_in x ≡ None → bytes_in x ≡ size (classes_of tables) (form_type tables x)
      by form.Void k = refl
      by (form.Integer l) k = refl
      by (form.Enumeration n) k = refl
      by (form.Class c) k =
          sym (ap (λ ds. size (classes_in tables ds) (class (class_code tables.classes c))) none ∙ class_size (class_code tables.classes c))
      by (form.Pointer u) k = refl
      by (form.Reference u) k = refl
      by (form.Array u n) k = cc
      by (form.Function f) k = sym (function_size (slice_get tables.types.funs f))
      by (form.DataMember c u) k = refl
      by (form.FunctionMember c f) k = refl

pub characters_at : (cs : List Class) (n : ℕ) → n ≡ size cs (array (integer Char) n)
characters_at cs n = sym (mul-one n)

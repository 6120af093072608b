-- The types that literals have, beside types of the file.
use Rattle.std.proofs.Common.{◌≡◌, ℕ, Bool, true, false, ◌&&◌, ◌==◌, Option, Some, None, refl, sym, ap, ◌∙◌}
use Rattle.std.proofs.lemmas.Bool.Decides.{nat_tests}
use Rattle.std.proofs.Common.{arith}
use Rattle.cf_base.specs.declared.kind.Kind.{Kind}
use Rattle.cf_base.specs.declared.kind.Kind.TheVariants.{Char, SChar, UChar, Short, UShort, Int, UInt, Long, ULong}
use Rattle.cf_core.specs.Types.{SourceType, void, integer, array, type_eq, kind_number}
use Rattle.cf_core.specs.FromTypes.{Tables}
use Rattle.cf_lower_types.specs.declared.form.Form.{Form}
use Rattle.cf_lower_types.specs.declared.form.Form.TheVariants as form
use Rattle.cf_lower_types.specs.Bare.{bare, form_type, Named}
use Rattle.cf_lower_types.specs.Forms.{elements_in}
use Rattle.cf_lower_same.specs.Literals.{is_void, is_character}
use Rattle.cf_lower_same.proofs.Told.{no_function_left, no_function_right}

same_number : (a b : ℕ) → (a == b) ≡ (b == a)
same_number a b = grind (arith, nat_tests)

module _ (tables : Tables) (t : ℕ) (x : Form) (is : bare tables t ≡ form_type tables x) (named : Named tables t x) where
  -- ---- void

  void_left : (y : Form) → Named tables t y → is_void y ≡ type_eq void (form_type tables y)
  void_left (form.Function f) p = no_function_left tables void f refl p.within
  void_left form.Void p = refl
  void_left y p = refl

  void_right : (y : Form) → Named tables t y → is_void y ≡ type_eq (form_type tables y) void
  void_right (form.Function f) p = no_function_right tables f void refl p.within
  void_right form.Void p = refl
  void_right y p = refl

  pub void_first : is_void x ≡ type_eq void (bare tables t)
  void_first = void_left x named ∙ sym (ap (type_eq void) is)

  pub void_second : is_void x ≡ type_eq (bare tables t) void
  void_second = void_right x named ∙ sym (ap (λ u. type_eq u void) is)

  -- ---- char

  character_left : (y : Form) → Named tables t y → is_character y ≡ type_eq (integer Char) (form_type tables y)
  character_left (form.Function f) p = no_function_left tables (integer Char) f refl p.within
  character_left (form.Integer k) p = same_number (kind_number k) 0
  character_left y p = refl

  character_right : (y : Form) → Named tables t y → is_character y ≡ type_eq (form_type tables y) (integer Char)
  character_right (form.Function f) p = no_function_right tables f (integer Char) refl p.within
  character_right (form.Integer k) p = refl
  character_right y p = refl

  pub character_first : is_character x ≡ type_eq (integer Char) (bare tables t)
  character_first = character_left x named ∙ sym (ap (type_eq (integer Char)) is)

  pub character_second : is_character x ≡ type_eq (bare tables t) (integer Char)
  character_second = character_right x named ∙ sym (ap (λ u. type_eq u (integer Char)) is)

  -- ---- arrays of characters

  same_pair : (a b : ℕ × ℕ) → Some a ≡ Some b → a ≡ b
  same_pair a b e = cc

  array_of : (y : Form) (u n : ℕ) → elements_in y ≡ Some (u, n) → form_type tables y ≡ array (bare tables u) n
  array_of (form.Array v m) u n e =
      let p = same_pair (v, m) (u, n) e in
      ap (λ (y : ℕ × ℕ). array (bare tables y.0) y.1) p
  array_of y u n e = cc

  pub characters_first : (u n count : ℕ) (b : Bool) → elements_in x ≡ Some (u, n) → b ≡ type_eq (integer Char) (bare tables u) → b && (n == count) ≡ type_eq (array (integer Char) count) (bare tables t)
  characters_first u n count b e is_char =
      ap (λ c. c && (n == count)) is_char ∙ ap (λ c. type_eq (integer Char) (bare tables u) && c) (same_number n count)
      ∙ sym (ap (type_eq (array (integer Char) count)) (is ∙ array_of x u n e))

  pub characters_second : (u n count : ℕ) (b : Bool) → elements_in x ≡ Some (u, n) → b ≡ type_eq (bare tables u) (integer Char) → b && (n == count) ≡ type_eq (bare tables t) (array (integer Char) count)
  characters_second u n count b e is_char =
      ap (λ c. c && (n == count)) is_char ∙ sym (ap (λ w. type_eq w (array (integer Char) count)) (is ∙ array_of x u n e))

  other_left : (count : ℕ) (y : Form) → Named tables t y → elements_in y ≡ None → false ≡ type_eq (array (integer Char) count) (form_type tables y)
  other_left count (form.Function f) p e = no_function_left tables (array (integer Char) count) f refl p.within
  other_left count (form.Array u n) p e = cc
  other_left count y p e = refl

  other_right : (count : ℕ) (y : Form) → Named tables t y → elements_in y ≡ None → false ≡ type_eq (form_type tables y) (array (integer Char) count)
  other_right count (form.Function f) p e = no_function_right tables f (array (integer Char) count) refl p.within
  other_right count (form.Array u n) p e = cc
  other_right count y p e = refl

  pub no_array_first : (count : ℕ) → elements_in x ≡ None → false ≡ type_eq (array (integer Char) count) (bare tables t)
  no_array_first count e = other_left count x named e ∙ sym (ap (type_eq (array (integer Char) count)) is)

  pub no_array_second : (count : ℕ) → elements_in x ≡ None → false ≡ type_eq (bare tables t) (array (integer Char) count)
  no_array_second count e = other_right count x named e ∙ sym (ap (λ w. type_eq w (array (integer Char) count)) is)

-- Zeros in the scalars of an object, by its type.
use Rattle.std.proofs.Common.{◌≡◌, ℕ, zero, suc, ◌+◌, ◌*◌, List, [], ◌∷◌, ◌++◌, map, Option, Some, None, slice_get, refl, sym, ap, ◌∙◌, arith, append_assoc, append-nil}
use Rattle.std.specs.Option.{option_map}
use Rattle.cc_whole.specs.Plain.{Expression, Statement}
use Rattle.cf_base.specs.declared.kind.Kind.TheVariants.{Char}
use Rattle.cf_core.specs.Types.{SourceType, integer, array, gives, without_const}
use Rattle.cf_core.specs.Classes.{Class}
use Rattle.cf_core.specs.FromTypes.{Tables, type_of, fun_type, taking}
use Rattle.cf_core.specs.Size.{size}
use Rattle.cf_types.specs.declared.ty.Fun.{Fun}
use Rattle.cf_lower.specs.Statements.{for_each, zeros}
use Rattle.cf_lower_layout.specs.Sorts.{Sort, number, address, code, sort_of}
use Rattle.cf_lower_names.specs.declared.cell.Cell.{Cell}
use Rattle.cf_lower_names.specs.Cells.{sort_for, cell_of}
use Rattle.cf_lower_types.specs.declared.form.Form.{Form}
use Rattle.cf_lower_types.specs.declared.form.Form.TheVariants as form
use Rattle.cf_lower_types.specs.Bare.{bare, classes_of, form_type}
use Rattle.cf_lower_types.specs.Forms.{elements_in}
use Rattle.cf_lower_types.proofs.Scalars.{sort_by_bare}
use Rattle.cf_lower_types.proofs.SizeLaws.{size_by_bare}
use Rattle.cf_lower_stmt.specs.Steps.{zero_if}

-- ---- one number after another

each_more : (i n : ℕ) (f : ℕ → List Statement) → for_each i n f ++ f (i + n) ≡ for_each i (suc n) f
each_more i zero f = ap f (let same : i + 0 ≡ i = omega arith in same) ∙ sym (append-nil (f i))
each_more i (suc n) f =
    append_assoc (f i) (for_each (suc i) n f) (f (i + suc n))
    ∙ ap (λ k. f i ++ (for_each (suc i) n f ++ f k)) (let same : i + suc n ≡ suc i + n = omega arith in same) ∙ ap (λ l. f i ++ l) (each_more (suc i) n f)

each_next : (n : ℕ) (f : ℕ → List Statement) (w v u here : List Statement) → v ≡ w ++ for_each 0 n f → u ≡ v ++ here → here ≡ f n → u ≡ w ++ for_each 0 (n + 1) f
each_next n f w v u here so_far more is =
    more ∙ ap (λ l. v ++ l) is ∙ ap (λ l. l ++ f n) so_far ∙ append_assoc w (for_each 0 n f) (f n)
    ∙ ap (λ k. w ++ (for_each 0 n f ++ f k)) (let same : n ≡ 0 + n = omega arith in same) ∙ ap (λ l. w ++ l) (each_more 0 n f)
    ∙ ap (λ k. w ++ for_each 0 k f) (let same : suc n ≡ n + 1 = omega arith in same)

pub no_turn : (w : List Statement) → w ≡ w ++ []
no_turn w = sym (append-nil w)

-- the zeros of an element
abbrev pub element_zeros : List Class → SourceType → Expression → ℕ → ℕ → List Statement
element_zeros cs t p at i = zeros cs t p (at + i * size cs t)

module _ (tables : Tables) (p : Expression) where
  pub turn : (t at bytes there n : ℕ) (w v u : List Statement) → bytes ≡ size (classes_of tables) (type_of tables t) → there ≡ at + n * bytes
      → v ≡ w ++ for_each 0 n (element_zeros (classes_of tables) (bare tables t) p at) → u ≡ v ++ zeros (classes_of tables) (bare tables t) p there
      → u ≡ w ++ for_each 0 (n + 1) (element_zeros (classes_of tables) (bare tables t) p at)
  turn t at bytes there n w v u is place so_far more =
      each_next n (element_zeros (classes_of tables) (bare tables t) p at) w v u (zeros (classes_of tables) (bare tables t) p there) so_far more
      (ap (zeros (classes_of tables) (bare tables t) p) (place ∙ ap (λ k. at + n * k) (is ∙ sym (size_by_bare (classes_of tables) (type_of tables t)))))

  -- ---- by the form of a type

  same_pair : (a b : ℕ × ℕ) → Some a ≡ Some b → a ≡ b
  same_pair a b e = cc

  pub of_array : (t : ℕ) (x : Form) (u n at : ℕ) (w v : List Statement) → bare tables t ≡ form_type tables x → elements_in x ≡ Some (u, n)
      → v ≡ w ++ zeros (classes_of tables) (array (bare tables u) n) p at → v ≡ w ++ zeros (classes_of tables) (bare tables t) p at
  of_array t (form.Array a m) u n at w v e k written =
      written ∙ ap (λ (y : ℕ × ℕ). w ++ zeros (classes_of tables) (array (bare tables y.0) y.1) p at) (sym (same_pair (a, m) (u, n) k))
      ∙ sym (ap (λ s. w ++ zeros (classes_of tables) s p at) e)
  of_array t x u n at w v e k written = cc

  other_form : (x : Form) (at : ℕ) → elements_in x ≡ None → zeros (classes_of tables) (form_type tables x) p at ≡ zero_if (sort_of (form_type tables x)) p at
  other_form form.Void at k = refl
  other_form (form.Integer l) at k = refl
  other_form (form.Enumeration e) at k = refl
  other_form (form.Class c) at k = refl
  other_form (form.Pointer t) at k = refl
  other_form (form.Reference t) at k = refl
  other_form (form.Array t n) at k = cc
  other_form (form.Function f) at k = by (slice_get tables.types.funs f)
    where
      within : (f : Fun) (ps : List ℕ)
          → zeros (classes_of tables) (without_const (taking (map (type_of tables) ps) (gives (type_of tables f.result) f.is_const))) p at
          ≡ zero_if (sort_of (without_const (taking (map (type_of tables) ps) (gives (type_of tables f.result) f.is_const)))) p at
      within f [] = refl
      within f (q ∷ ps) = refl

      by : (o : Option Fun) → zeros (classes_of tables) (without_const (fun_type (type_of tables) o)) p at ≡ zero_if (sort_of (without_const (fun_type (type_of tables) o))) p at
      by None = refl
      by (Some f) = within f f.params
  other_form (form.DataMember c t) at k = refl
  other_form (form.FunctionMember c f) at k = refl

  cell_zero : (o : Option Sort) (at : ℕ) → zero_if (option_map sort_for (option_map cell_of o)) p at ≡ zero_if o p at
  cell_zero None at = refl
  cell_zero (Some s) at = by s
    where
      by : (s : Sort) → zero_if (Some (sort_for (cell_of s))) p at ≡ zero_if (Some s) p at
      by (number k) = refl
      by (address t) = refl
      by (code t) = refl

  pub of_other : (t : ℕ) (x : Form) (at : ℕ) (s : Option Sort) (q : Option Cell) (w v : List Statement) → bare tables t ≡ form_type tables x → elements_in x ≡ None
      → s ≡ sort_of (type_of tables t) → q ≡ option_map cell_of s → v ≡ w ++ zero_if (option_map sort_for q) p at → v ≡ w ++ zeros (classes_of tables) (bare tables t) p at
  of_other t x at s q w v e k sort cell written =
      written ∙ ap (λ q. w ++ zero_if (option_map sort_for q) p at) (cell ∙ ap (option_map cell_of) sort)
      ∙ ap (λ l. w ++ l) (cell_zero (sort_of (type_of tables t)) at)
      ∙ ap (λ s. w ++ zero_if s p at) (sym (sort_by_bare tables t)) ∙ ap (λ s. w ++ zero_if (sort_of s) p at) e ∙ ap (λ l. w ++ l) (sym (other_form x at k))
      ∙ sym (ap (λ s. w ++ zeros (classes_of tables) s p at) e)

  -- ---- characters

  pub character_turn : (n : ℕ) (w v u : List Statement) → v ≡ w ++ for_each 0 n (element_zeros (classes_of tables) (integer Char) p 0)
      → u ≡ v ++ zero_if (Some (number Char)) p n → u ≡ w ++ for_each 0 (n + 1) (element_zeros (classes_of tables) (integer Char) p 0)
  character_turn n w v u so_far more =
      each_next n (element_zeros (classes_of tables) (integer Char) p 0) w v u (zero_if (Some (number Char)) p n) so_far more
      (ap (zero_if (Some (number Char)) p) (let same : n ≡ 0 + n * 1 = omega arith in same))

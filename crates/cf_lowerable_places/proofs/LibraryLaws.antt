-- The functions of the library by their names and types.
use Rattle.std.proofs.Common.{◌≡◌, ℕ, Bool, true, false, ◌&&◌, ◌||◌, not, if◌then◌else◌, List, [], ◌∷◌, map, Option, Some, None, slice_get, refl, sym, ap, ◌∙◌}
use Rattle.std.specs.Prelude.{bytes_eq, codes}
use Rattle.cf_base.specs.declared.kind.Kind.TheVariants.{Int}
use Rattle.cf_types.specs.declared.ty.Fun.{Fun}
use Rattle.cf_core.specs.Types.{Name, SourceType, void, integer, takes, gives, without_const, type_eq}
use Rattle.cf_core.specs.FromTypes.{Tables, type_of, taking, fun_type}
use Rattle.cf_lower_place.specs.Named.{may_be_named}
use Rattle.cf_lower_types.specs.declared.form.Form.{Form}
use Rattle.cf_lower_types.specs.declared.form.Form.TheVariants as form
use Rattle.cf_lower_types.specs.Bare.{bare, form_type}
use Rattle.cf_lower_types.specs.Forms.{is_function_form}
use Rattle.cf_lowerable_places.specs.declared.library.Library.{Library}
use Rattle.cf_lowerable_places.specs.declared.library.Library.TheVariants as library
use Rattle.cf_lowerable_places.specs.Library.{library_named, type_of_library, has_parts, one_int}

-- ---- names

-- what a name is, by which of the three it is
pub by_names : {T : Type 0} (name : Name) (o : Option Library) (some : Library → T) (none : T) (z : T)
    → (bytes_eq name (codes "putchar") ≡ true → z ≡ some library.Putchar)
    → (bytes_eq name (codes "putchar") ≡ false → bytes_eq name (codes "exit") ≡ true → z ≡ some library.Exit)
    → (bytes_eq name (codes "putchar") ≡ false → bytes_eq name (codes "exit") ≡ false → bytes_eq name (codes "getchar") ≡ true → z ≡ some library.Getchar)
    → (bytes_eq name (codes "putchar") ≡ false → bytes_eq name (codes "exit") ≡ false → bytes_eq name (codes "getchar") ≡ false → z ≡ none)
    → o ≡ library_named name → (l : Library) → (o ≡ Some l → z ≡ some l) × (o ≡ None → z ≡ none)
by_names name o some none z first second third last is l = by (bytes_eq name (codes "putchar")) (bytes_eq name (codes "exit")) (bytes_eq name (codes "getchar")) refl refl refl is
  where
    same : (k l : Library) → Some k ≡ Some l → k ≡ l
    same k l e = cc

    by : (a b c : Bool) → bytes_eq name (codes "putchar") ≡ a → bytes_eq name (codes "exit") ≡ b → bytes_eq name (codes "getchar") ≡ c
        → o ≡ (if a then Some library.Putchar else (if b then Some library.Exit else (if c then Some library.Getchar else None)))
        → (o ≡ Some l → z ≡ some l) × (o ≡ None → z ≡ none)
    by true b c p q r e = ((λ k. first p ∙ ap some (same library.Putchar l (sym e ∙ k))), (λ k. absurd (differ (sym e ∙ k))))
      where
        differ : Some library.Putchar ≡ None → ⊥
        differ e = cc
    by false true c p q r e = ((λ k. second p q ∙ ap some (same library.Exit l (sym e ∙ k))), (λ k. absurd (differ (sym e ∙ k))))
      where
        differ : Some library.Exit ≡ None → ⊥
        differ e = cc
    by false false true p q r e = ((λ k. third p q r ∙ ap some (same library.Getchar l (sym e ∙ k))), (λ k. absurd (differ (sym e ∙ k))))
      where
        differ : Some library.Getchar ≡ None → ⊥
        differ e = cc
    by false false false p q r e = ((λ k. absurd (differ (sym e ∙ k))), (λ k. last p q r))
      where
        differ : None ≡ Some l → ⊥
        differ e = cc

module _ (name : Name) (t : SourceType) (o : Option Library) (is : o ≡ library_named name) where
  abbrev typed : Bool → Bool → Bool → Bool
  typed a b c =
      not (a || c || b)
      || type_eq (without_const (if a then takes (integer Int) (gives (integer Int) false) else (if b then takes (integer Int) (gives void false) else gives (integer Int) false))) (without_const t)

  at : (l : Library) → (o ≡ Some l → may_be_named name t ≡ type_eq (type_of_library l) (without_const t)) × (o ≡ None → may_be_named name t ≡ true)
  at l =
      by_names name o (λ k. type_eq (type_of_library k) (without_const t)) true (may_be_named name t)
      (λ p. ap (λ a. typed a (bytes_eq name (codes "exit")) (bytes_eq name (codes "getchar"))) p)
      (λ p q. ap (λ a. typed a (bytes_eq name (codes "exit")) (bytes_eq name (codes "getchar"))) p ∙ ap (λ b. typed false b (bytes_eq name (codes "getchar"))) q ∙ last_or (bytes_eq name (codes "getchar")))
      (λ p q r. ap (λ a. typed a (bytes_eq name (codes "exit")) (bytes_eq name (codes "getchar"))) p ∙ ap (λ b. typed false b (bytes_eq name (codes "getchar"))) q ∙ ap (typed false false) r)
      (λ p q r. ap (λ a. typed a (bytes_eq name (codes "exit")) (bytes_eq name (codes "getchar"))) p ∙ ap (λ b. typed false b (bytes_eq name (codes "getchar"))) q ∙ ap (typed false false) r)
      is l
    where
      last_or : (c : Bool) → typed false true c ≡ type_eq (takes (integer Int) (gives void false)) (without_const t)
      last_or true = refl
      last_or false = refl

  pub named_some : (l : Library) (b : Bool) → o ≡ Some l → b ≡ type_eq (type_of_library l) (without_const t) → b ≡ may_be_named name t
  named_some l b some e = e ∙ sym ((at l).0 some)

  pub named_none : o ≡ None → true ≡ may_be_named name t
  named_none none = sym ((at library.Getchar).1 none)

-- ---- types

module _ (tables : Tables) where
  and_true : (a b : Bool) → (a && (b && true)) ≡ (a && b)
  and_true true true = refl
  and_true true false = refl
  and_true false b = refl

  last_true : (b : Bool) → (b && true) ≡ b
  last_true true = refl
  last_true false = refl

  and_false : (a : Bool) → (a && false) ≡ false
  and_false true = refl
  and_false false = refl

  takes_one : (ps : List ℕ) (r : ℕ) (c : Bool) (u : SourceType) → (one_int tables ps && type_eq u (bare tables r))
      ≡ type_eq (takes (integer Int) (gives u false)) (without_const (taking (map (type_of tables) ps) (gives (type_of tables r) c)))
  takes_one [] r c u = refl
  takes_one (p ∷ []) r c u = sym (and_true (type_eq (integer Int) (bare tables p)) (type_eq u (bare tables r)))
  takes_one (p ∷ q ∷ ps) r c u = sym (and_false (type_eq (integer Int) (bare tables p)))

  parts_are : (l : Library) (ps : List ℕ) (r : ℕ) (c : Bool) → has_parts tables l ps r
      ≡ type_eq (type_of_library l) (without_const (taking (map (type_of tables) ps) (gives (type_of tables r) c)))
  parts_are library.Putchar ps r c = takes_one ps r c (integer Int)
  parts_are library.Exit ps r c = takes_one ps r c void
  parts_are library.Getchar [] r c = sym (last_true (type_eq (integer Int) (bare tables r)))
  parts_are library.Getchar (p ∷ ps) r c = refl

  module _ (l : Library) (t : ℕ) where
    pub alike_function : (f : ℕ) (g : Fun) (x : Form) (b : Bool) → bare tables t ≡ form_type tables x → x ≡ form.Function f → slice_get tables.types.funs f ≡ Some g
        → b ≡ has_parts tables l g.params g.result → b ≡ type_eq (type_of_library l) (bare tables t)
    alike_function f g x b is at found e =
        e ∙ parts_are l g.params g.result g.is_const
        ∙ sym (ap (type_eq (type_of_library l)) (is ∙ ap (form_type tables) at ∙ ap (λ o. without_const (fun_type (type_of tables) o)) found))

    no_function : (l : Library) (x : Form) → is_function_form x ≡ false → false ≡ type_eq (type_of_library l) (form_type tables x)
    no_function library.Putchar form.Void e = refl
    no_function library.Putchar (form.Integer k) e = refl
    no_function library.Putchar (form.Enumeration n) e = refl
    no_function library.Putchar (form.Class c) e = refl
    no_function library.Putchar (form.Pointer u) e = refl
    no_function library.Putchar (form.Reference u) e = refl
    no_function library.Putchar (form.Array u n) e = refl
    no_function library.Putchar (form.Function f) e = cc
    no_function library.Putchar (form.DataMember c u) e = refl
    no_function library.Putchar (form.FunctionMember c f) e = refl
    no_function library.Exit form.Void e = refl
    no_function library.Exit (form.Integer k) e = refl
    no_function library.Exit (form.Enumeration n) e = refl
    no_function library.Exit (form.Class c) e = refl
    no_function library.Exit (form.Pointer u) e = refl
    no_function library.Exit (form.Reference u) e = refl
    no_function library.Exit (form.Array u n) e = refl
    no_function library.Exit (form.Function f) e = cc
    no_function library.Exit (form.DataMember c u) e = refl
    no_function library.Exit (form.FunctionMember c f) e = refl
    no_function library.Getchar form.Void e = refl
    no_function library.Getchar (form.Integer k) e = refl
    no_function library.Getchar (form.Enumeration n) e = refl
    no_function library.Getchar (form.Class c) e = refl
    no_function library.Getchar (form.Pointer u) e = refl
    no_function library.Getchar (form.Reference u) e = refl
    no_function library.Getchar (form.Array u n) e = refl
    no_function library.Getchar (form.Function f) e = cc
    no_function library.Getchar (form.DataMember c u) e = refl
    no_function library.Getchar (form.FunctionMember c f) e = refl

    pub other_form : (x y : Form) → bare tables t ≡ form_type tables x → x ≡ y → is_function_form y ≡ false → false ≡ type_eq (type_of_library l) (bare tables t)
    other_form x y is at e = no_function l y e ∙ sym (ap (type_eq (type_of_library l)) (is ∙ ap (form_type tables) at))

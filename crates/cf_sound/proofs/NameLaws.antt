-- The names that a file has, and the types of the library's functions.
use Rattle.std.proofs.Common.{◌≡◌, ◌∙◌, ℕ, Bool, true, false, ◌&&◌, ◌||◌, not, List, [], ◌∷◌, map, Option, Some, None, slice_get, ap, refl, sym}
use Rattle.std.specs.Prelude.{bytes_eq, is_some, find}
use Rattle.std.specs.List.{list_any}
use Rattle.cf_base.specs.declared.kind.Kind.TheVariants.{Int}
use Rattle.cf_name_list.specs.Names.{is_in}
use Rattle.cf_types.specs.declared.ty.Ty.{Ty}
use Rattle.cf_types.specs.declared.ty.Ty.TheVariants as ty
use Rattle.cf_types.specs.declared.ty.Fun.{Fun}
use Rattle.cf_core.specs.declared.unit.CoreFn.{CoreFn}
use Rattle.cf_core.specs.declared.unit.CoreStatic.{CoreStatic}
use Rattle.cf_core.specs.Calls.{function_named}
use Rattle.cf_core.specs.Core.{Function, Static}
use Rattle.cf_core.specs.FromTypes.{Tables, type_of, type_step, taking, fun_type}
use Rattle.cf_core.specs.FromUnit.{Unit, tables_of, function_of, static_of, file_of}
use Rattle.cf_core.specs.Types.{Name, SourceType, void, integer, gives, const, same_but_const, is_void}
use Rattle.cf_core_sound.specs.Simple.{has_object}
use Rattle.cf_file_sound.specs.Files.{alone}
use Rattle.cf_file_sound.proofs.Lists.{found-any, placed-any}
use Rattle.cf_sound.specs.Named.{AreFunctions, AreObjects, function_names, object_names, given_type, signature, parameters_fit, result_fits}

-- ---- names

last-none : (b : Bool) → (b || false) ≡ b
last-none true = refl
last-none false = refl

functions-any : (tables : Tables) (fs : List CoreFn) (q : Name) → is_in (function_names fs) q ≡ list_any (λ (f : Function). bytes_eq f.name q) (map (function_of tables) fs)
functions-any tables [] q = refl
functions-any tables (f ∷ fs) q = ap (λ b. bytes_eq f.name q || b) (functions-any tables fs q)

objects-any : (tables : Tables) (xs : List CoreStatic) (q : Name) → is_in (object_names xs) q ≡ list_any (λ (x : Static). bytes_eq x.name q) (map (static_of tables) xs)
objects-any tables [] q = refl
objects-any tables (x ∷ xs) q = ap (λ b. bytes_eq x.name q || b) (objects-any tables xs q)

pub are_functions : (unit : Unit) (before names : List Name) → before ≡ []
    → ((q : Name) → is_in names q ≡ (is_in (function_names unit.functions) q || is_in before q)) → AreFunctions unit names
are_functions unit before names none told = record {
  at = λ q.
      told q ∙ ap (λ l. is_in (function_names unit.functions) q || is_in l q) none ∙ last-none (is_in (function_names unit.functions) q)
      ∙ functions-any (tables_of unit) unit.functions q
      ∙ sym (found-any (λ (f : Function). bytes_eq f.name q) (map (function_of (tables_of unit)) unit.functions));
}

pub are_objects : (unit : Unit) (before names : List Name) → before ≡ []
    → ((q : Name) → is_in names q ≡ (is_in (object_names unit.statics) q || is_in before q)) → AreObjects unit names
are_objects unit before names none told = record {
  at = λ q.
      told q ∙ ap (λ l. is_in (object_names unit.statics) q || is_in l q) none ∙ last-none (is_in (object_names unit.statics) q)
      ∙ objects-any (tables_of unit) unit.statics q
      ∙ sym (placed-any (λ (x : Static). bytes_eq x.name q) (map (static_of (tables_of unit)) unit.statics));
}

-- ---- types of the library's functions

void-same : (t : SourceType) → is_void t ≡ same_but_const void t
void-same (const t) = void-same t
void-same t = refl

and-true : (b : Bool) → b ≡ (b && true)
and-true true = refl
and-true false = refl

and-false : (b : Bool) → false ≡ (b && false)
and-false true = refl
and-false false = refl

same-given : (b : Bool) (r : SourceType) (c : Bool) → result_fits b r ≡ same_but_const (given_type b) (gives r c)
same-given true r c = and-true (same_but_const (integer Int) r)
same-given false r c = void-same r ∙ and-true (same_but_const void r)

same-taking : (a b : Bool) (r : SourceType) (c : Bool) (ps : List SourceType) → (parameters_fit a ps && result_fits b r) ≡ same_but_const (signature a b) (taking ps (gives r c))
same-taking true b r c [] = refl
same-taking true b r c (p ∷ []) = ap (λ d. same_but_const (integer Int) p && d) (same-given b r c)
same-taking true true r c (p ∷ q ∷ ps) = and-false (same_but_const (integer Int) p)
same-taking true false r c (p ∷ q ∷ ps) = and-false (same_but_const (integer Int) p)
same-taking false b r c [] = same-given b r c
same-taking false true r c (p ∷ ps) = refl
same-taking false false r c (p ∷ ps) = refl

module _ (tables : Tables) where
  pub signature_by_fun : (a b : Bool) (t f : ℕ) (v : Ty) (g : Fun) → type_of tables t ≡ type_step tables (type_of tables) v → v ≡ ty.Fun f
      → slice_get tables.types.funs f ≡ Some g
      → (parameters_fit a (map (type_of tables) g.params) && result_fits b (type_of tables g.result)) ≡ same_but_const (signature a b) (type_of tables t)
  signature_by_fun a b t f v g value is there =
      same-taking a b (type_of tables g.result) g.is_const (map (type_of tables) g.params)
      ∙ sym (ap (same_but_const (signature a b)) (value ∙ ap (type_step tables (type_of tables)) is ∙ ap (fun_type (type_of tables)) there))

  pub no_signature : (a b : Bool) (v : Ty) → ((f : ℕ) → v ≡ ty.Fun f → ⊥) → ((u : ℕ) → v ≡ ty.Const u → ⊥)
      → false ≡ same_but_const (signature a b) (type_step tables (type_of tables) v)
  no_signature a b (ty.Fun f) no_fun no_const = absurd (no_fun f refl)
  no_signature a b (ty.Const u) no_fun no_const = absurd (no_const u refl)
  no_signature true b v no_fun no_const = refl
  no_signature false true v no_fun no_const = refl
  no_signature false false v no_fun no_const = refl

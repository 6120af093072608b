-- A function as it stands in memory, for the tests of its head and of its body.
use Rattle.std.proofs.Common.{◌≡◌, ◌∙◌, ℕ, Bool, true, false, ◌&&◌, List, [], ◌∷◌, ◌++◌, map, ap, ap₂, refl, sym}
use Rattle.std.specs.Prelude.{Some, slice_get}
use Rattle.std.specs.List.{list_all}
use Rattle.cf_base.specs.declared.kind.Kind.TheVariants.{Int}
use Rattle.cf_types.specs.declared.ty.Ty.{Ty}
use Rattle.cf_types.specs.declared.ty.Ty.TheVariants as ty
use Rattle.cf_base.specs.declared.kind.Kind.{Kind}
use Rattle.cf_core.specs.declared.unit.CoreFn.{CoreFn}
use Rattle.cf_core.specs.Core.{Core, CoreFile}
use Rattle.cf_core.specs.FromTypes.{Tables, type_of, type_step, taking}
use Rattle.cf_core.specs.FromUnit.{function_of}
use Rattle.cf_core.specs.Types.{SourceType, integer, gives, parameters, type_eq}
use Rattle.cf_core_sound.specs.Calls.{frame_types}
use Rattle.cf_core_sound.specs.Programs.{is_main}
use Rattle.cf_core_sound.specs.Proper.{is_proper}
use Rattle.cf_sound.specs.Asked.{tree_fits}
use Rattle.cf_sound.specs.Files.{body_fits}
use Rattle.cf_sound.proofs.Entries.{of-option}

and-true : (b : Bool) → b ≡ (b && true)
and-true true = refl
and-true false = refl

-- ---- `main`

main-by : (r : SourceType) (ps : List SourceType) → ps ≡ [] → type_eq r (integer Int) ≡ type_eq (taking ps (gives r false)) (gives (integer Int) false)
main-by r [] none = and-true (type_eq r (integer Int))
main-by r (p ∷ ps) none = absurd (cc)

taking-main : (r : SourceType) (p : SourceType) (ps : List SourceType) → false ≡ type_eq (taking (p ∷ ps) (gives r false)) (gives (integer Int) false)
taking-main r p ps = refl

module _ (tables : Tables) where
  pub main_alone : (f : CoreFn) → f.params ≡ [] → type_eq (type_of tables f.result) (integer Int) ≡ is_main (Some (function_of tables f))
  main_alone f none = main-by (type_of tables f.result) (map (type_of tables) f.params) (ap (map (type_of tables)) none)

  pub main_taking : (f : CoreFn) → (f.params ≡ [] → ⊥) → false ≡ is_main (Some (function_of tables f))
  main_taking f some = by f.params some
    where
      by : (ps : List ℕ) → (ps ≡ [] → ⊥) → false ≡ type_eq (taking (map (type_of tables) ps) (gives (type_of tables f.result) false)) (gives (integer Int) false)
      by [] some = absurd (some refl)
      by (p ∷ ps) some = refl

  pub no_exact_int : (v : Ty) → ((k : Kind) → v ≡ ty.Int k → ⊥) → false ≡ type_eq (type_step tables (type_of tables) v) (integer Int)
  no_exact_int (ty.Int k) none = absurd (none k refl)
  no_exact_int (ty.Fun f) none = sym (of-option (λ t. type_eq t (integer Int)) false (λ q t. refl) (λ t b. refl) (type_of tables) refl (slice_get tables.types.funs f))
  no_exact_int v none = refl

  -- ---- its parameters and locals

  parameters-taking : (r : SourceType) (ps : List SourceType) → parameters (taking ps (gives r false)) ≡ ps
  parameters-taking r [] = refl
  parameters-taking r (p ∷ ps) = ap (λ l. p ∷ l) (parameters-taking r ps)

  map-both : (xs ys : List ℕ) → map (type_of tables) (xs ++ ys) ≡ map (type_of tables) xs ++ map (type_of tables) ys
  map-both [] ys = refl
  map-both (x ∷ xs) ys = ap (λ l. type_of tables x ∷ l) (map-both xs ys)

  module _ (file : CoreFile) (f : CoreFn) (types frame : List ℕ) (shown : types ≡ frame) (is : frame ≡ f.params ++ f.locals) where
    frame-types : map (type_of tables) types ≡ frame_types (function_of tables f)
    frame-types =
        ap (map (type_of tables)) (shown ∙ is) ∙ map-both f.params f.locals
        ∙ ap (λ l. l ++ map (type_of tables) f.locals) (sym (parameters-taking (type_of tables f.result) (map (type_of tables) f.params)))

    pub body_fails : false ≡ list_all is_proper (map (type_of tables) types) → false ≡ body_fits file (function_of tables f)
    body_fails bad =
        ap (λ b. b && tree_fits file (frame_types (function_of tables f)) (function_of tables f).body) (bad ∙ ap (list_all is_proper) frame-types)

    pub body_told : (b : Bool) → true ≡ list_all is_proper (map (type_of tables) types) → b ≡ tree_fits file (map (type_of tables) types) (function_of tables f).body
        → b ≡ body_fits file (function_of tables f)
    body_told b good told =
        told ∙ ap₂ (λ c (l : List SourceType). c && tree_fits file l (function_of tables f).body) (good ∙ ap (list_all is_proper) frame-types) frame-types

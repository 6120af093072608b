-- What a type is, by what stands in the table: each property by the forms that it depends on.
use Rattle.std.proofs.Common.{◌≡◌, ◌∙◌, ℕ, zero, suc, ◌<◌, Bool, true, false, List, [], ◌∷◌, length, map, Option, Some, None, slice_get, ap, refl, sym, subst, arith}
use Rattle.cf_base.specs.declared.kind.Kind.{Kind}
use Rattle.cf_base.specs.declared.kind.Kind.TheVariants.{Int}
use Rattle.cf_types.specs.declared.ty.Ty.{Ty}
use Rattle.cf_types.specs.declared.ty.Ty.TheVariants as ty
use Rattle.cf_types.specs.declared.ty.Fun.{Fun}
use Rattle.cf_types.specs.Table.{Names}
use Rattle.cf_core.specs.Types.{SourceType, void, integer, takes, gives, is_void, plain, same_but_const}
use Rattle.cf_core.specs.Places.{is_reference}
use Rattle.cf_core.specs.Typing.{is_function}
use Rattle.cf_core.specs.FromTypes.{Tables, type_of, type_step, taking, fun_type}
use Rattle.cf_core_typed.specs.Same.{takes_const}
use Rattle.cf_core_sound.specs.Simple.{leads_to_void}

-- ---- types of functions

-- a property that each function type has
module _ {A : Type 0} (p : SourceType → A) (a : A) (taken : (q t : SourceType) → p (takes q t) ≡ a) (given : (t : SourceType) (b : Bool) → p (gives t b) ≡ a) where
  pub of-taking : (r : SourceType) (b : Bool) (ps : List SourceType) → p (taking ps (gives r b)) ≡ a
  of-taking r b [] = given r b
  of-taking r b (q ∷ ps) = taken q (taking ps (gives r b))

  module _ (rec : ℕ → SourceType) where
    pub of-function : (funs : List Fun) (f : ℕ) → f < length funs → p (fun_type rec (slice_get funs f)) ≡ a
    of-function [] f lt = absurd (omega (arith, lt))
    of-function (g ∷ gs) zero lt = of-taking (rec g.result) g.is_const (map rec g.params)
    of-function (g ∷ gs) (suc f) lt = of-function gs f (omega (arith, lt))

    -- and `void` too
    pub of-option : p void ≡ a → (o : Option Fun) → p (fun_type rec o) ≡ a
    of-option none None = none
    of-option none (Some f) = of-taking (rec f.result) f.is_const (map rec f.params)

-- ---- entries

module _ (tables : Tables) where
  -- the type of an entry has a property as its form has it
  pub by_form : {A : Type 0} (p : SourceType → A) (t : ℕ) (v w : Ty) → type_of tables t ≡ type_step tables (type_of tables) v → v ≡ w
      → p (type_step tables (type_of tables) w) ≡ p (type_of tables t)
  by_form p t v w value is = sym (ap p (value ∙ ap (type_step tables (type_of tables)) is))

  -- that of a function has what each function type has
  pub by_fun : {A : Type 0} (p : SourceType → A) (a : A) → ((q t : SourceType) → p (takes q t) ≡ a) → ((t : SourceType) (b : Bool) → p (gives t b) ≡ a)
      → (t f : ℕ) (v : Ty) → type_of tables t ≡ type_step tables (type_of tables) v → Names tables.types.funs t (length tables.types.funs) v → v ≡ ty.Fun f → a ≡ p (type_of tables t)
  by_fun p a taken given t f v value names is =
      let known : Names tables.types.funs t (length tables.types.funs) (ty.Fun f) = subst (Names tables.types.funs t (length tables.types.funs)) is names in
      sym (of-function p a taken given (type_of tables) tables.types.funs f (known.fun_known 0 f (omega arith))) ∙ by_form p t v (ty.Fun f) value is

  -- ---- entries of the other forms

  pub no_function : (v : Ty) → ((f : ℕ) → v ≡ ty.Fun f → ⊥) → false ≡ is_function (type_step tables (type_of tables) v)
  no_function (ty.Fun f) none = absurd (none f refl)
  no_function v none = refl

  pub takes_by_others : (v : Ty) → ((u : ℕ) → v ≡ ty.Const u → ⊥) → ((u : ℕ) → v ≡ ty.Ref u → ⊥) → ((u n : ℕ) → v ≡ ty.Array u n → ⊥) → ((f : ℕ) → v ≡ ty.Fun f → ⊥)
      → true ≡ takes_const (type_step tables (type_of tables) v)
  takes_by_others (ty.Const u) c r a f = absurd (c u refl)
  takes_by_others (ty.Ref u) c r a f = absurd (r u refl)
  takes_by_others (ty.Array u n) c r a f = absurd (a u n refl)
  takes_by_others (ty.Fun g) c r a f = absurd (f g refl)
  takes_by_others v c r a f = refl

  pub no_reference : (v : Ty) → ((u : ℕ) → v ≡ ty.Ref u → ⊥) → ((u : ℕ) → v ≡ ty.Const u → ⊥) → false ≡ is_reference (type_step tables (type_of tables) v)
  no_reference (ty.Ref u) no_ref no_const = absurd (no_ref u refl)
  no_reference (ty.Const u) no_ref no_const = absurd (no_const u refl)
  no_reference (ty.Fun f) no_ref no_const = sym (of-option is_reference false (λ q t. refl) (λ t b. refl) (type_of tables) refl (slice_get tables.types.funs f))
  no_reference v no_ref no_const = refl

  pub no_void : (v : Ty) → (v ≡ ty.Void → ⊥) → ((f : ℕ) → v ≡ ty.Fun f → ⊥) → ((u : ℕ) → v ≡ ty.Const u → ⊥) → false ≡ is_void (type_step tables (type_of tables) v)
  no_void ty.Void none no_fun no_const = absurd (none refl)
  no_void (ty.Fun f) none no_fun no_const = absurd (no_fun f refl)
  no_void (ty.Const u) none no_fun no_const = absurd (no_const u refl)
  no_void v none no_fun no_const = refl

  pub no_int : (v : Ty) → ((k : Kind) → v ≡ ty.Int k → ⊥) → ((u : ℕ) → v ≡ ty.Const u → ⊥) → false ≡ same_but_const (integer Int) (type_step tables (type_of tables) v)
  no_int (ty.Int k) number no_const = absurd (number k refl)
  no_int (ty.Const u) number no_const = absurd (no_const u refl)
  no_int (ty.Fun f) number no_const = sym (of-option (same_but_const (integer Int)) false (λ q t. refl) (λ t b. refl) (type_of tables) refl (slice_get tables.types.funs f))
  no_int v number no_const = refl

  pub plain_by_others : (v : Ty) → ((u : ℕ) → v ≡ ty.Const u → ⊥) → plain (type_step tables (type_of tables) v) ≡ type_step tables (type_of tables) v
  plain_by_others (ty.Const u) none = absurd (none u refl)
  plain_by_others (ty.Fun f) none = whole (slice_get tables.types.funs f)
    where
      bare : (r : SourceType) (b : Bool) (ps : List SourceType) → plain (taking ps (gives r b)) ≡ taking ps (gives r b)
      bare r b [] = refl
      bare r b (q ∷ ps) = refl

      whole : (o : Option Fun) → plain (fun_type (type_of tables) o) ≡ fun_type (type_of tables) o
      whole None = refl
      whole (Some f) = bare (type_of tables f.result) f.is_const (map (type_of tables) f.params)
  plain_by_others v none = refl

  pub no_void_pointer : (v : Ty) → ((u : ℕ) → v ≡ ty.Ptr u → ⊥) → false ≡ leads_to_void (type_step tables (type_of tables) v)
  no_void_pointer (ty.Ptr u) none = absurd (none u refl)
  no_void_pointer (ty.Fun f) none = sym (of-option leads_to_void false (λ q t. refl) (λ t b. refl) (type_of tables) refl (slice_get tables.types.funs f))
  no_void_pointer v none = refl

-- The forms of nodes, by what stands in the table.
use Rattle.std.proofs.Common.{◌≡◌, ◌∙◌, ℕ, Bool, true, false, ◌&&◌, not, List, [], ◌∷◌, map, Option, Some, None, slice_get, ap, refl, sym}
use Rattle.cf_types.specs.declared.ty.Ty.{Ty}
use Rattle.cf_types.specs.declared.ty.Ty.TheVariants as ty
use Rattle.cf_types.specs.declared.ty.Fun.{Fun}
use Rattle.cf_core.specs.Types.{SourceType, gives, element, result}
use Rattle.cf_core.specs.FromTypes.{Tables, type_of, type_step, taking, fun_type}
use Rattle.cf_core_sound.specs.Forms.{Form, other, place, valued, named, given_back}
use Rattle.cf_sound.proofs.Entries.{of-option}

module _ (tables : Tables) where
  pub valued_by_others : (v : Ty) → ((u : ℕ) → v ≡ ty.Ptr u → ⊥) → other ≡ valued (type_step tables (type_of tables) v)
  valued_by_others (ty.Ptr u) none = absurd (none u refl)
  valued_by_others (ty.Fun f) none = sym (of-option valued other (λ q t. refl) (λ t b. refl) (type_of tables) refl (slice_get tables.types.funs f))
  valued_by_others v none = refl

  pub named_by_others : (v : Ty) → ((u : ℕ) → v ≡ ty.Ref u → ⊥) → place (type_step tables (type_of tables) v) ≡ named (Some (type_step tables (type_of tables) v))
  named_by_others (ty.Ref u) none = absurd (none u refl)
  named_by_others (ty.Fun f) none = whole (slice_get tables.types.funs f)
    where
      bare : (r : SourceType) (b : Bool) (ps : List SourceType) → place (taking ps (gives r b)) ≡ named (Some (taking ps (gives r b)))
      bare r b [] = refl
      bare r b (q ∷ ps) = refl

      whole : (o : Option Fun) → place (fun_type (type_of tables) o) ≡ named (Some (fun_type (type_of tables) o))
      whole None = refl
      whole (Some f) = bare (type_of tables f.result) f.is_const (map (type_of tables) f.params)
  named_by_others v none = refl

  pub given_by_others : (v : Ty) → ((u : ℕ) → v ≡ ty.Ref u → ⊥) → ((u : ℕ) → v ≡ ty.Const u → ⊥) → ((u : ℕ) → v ≡ ty.Ptr u → ⊥) → other ≡ given_back (type_step tables (type_of tables) v)
  given_by_others (ty.Ref u) no_ref no_const no_ptr = absurd (no_ref u refl)
  given_by_others (ty.Const u) no_ref no_const no_ptr = absurd (no_const u refl)
  given_by_others (ty.Ptr u) no_ref no_const no_ptr = absurd (no_ptr u refl)
  given_by_others (ty.Fun f) no_ref no_const no_ptr = sym (of-option given_back other (λ q t. refl) (λ t b. refl) (type_of tables) refl (slice_get tables.types.funs f))
  given_by_others v no_ref no_const no_ptr = refl

  pub result_by_others : (v : Ty) → ((f : ℕ) → v ≡ ty.Fun f → ⊥) → other ≡ given_back (result (type_step tables (type_of tables) v))
  result_by_others (ty.Fun f) none = absurd (none f refl)
  result_by_others v none = refl

  result-taking : (r : SourceType) (b : Bool) (ps : List SourceType) → result (taking ps (gives r b)) ≡ r
  result-taking r b [] = refl
  result-taking r b (p ∷ ps) = result-taking r b ps

  pub result_by_fun : (t f : ℕ) (v : Ty) (g : Fun) → type_of tables t ≡ type_step tables (type_of tables) v → v ≡ ty.Fun f → slice_get tables.types.funs f ≡ Some g
      → type_of tables g.result ≡ result (type_of tables t)
  result_by_fun t f v g value is there =
      sym
      (ap result (value ∙ ap (type_step tables (type_of tables)) is) ∙ ap (λ o. result (fun_type (type_of tables) o)) there
      ∙ result-taking (type_of tables g.result) g.is_const (map (type_of tables) g.params))

  pub element_by_others : (v : Ty) → ((u n : ℕ) → v ≡ ty.Array u n → ⊥) → type_step tables (type_of tables) v ≡ element (type_step tables (type_of tables) v)
  element_by_others (ty.Array u n) none = absurd (none u n refl)
  element_by_others (ty.Fun f) none = whole (slice_get tables.types.funs f)
    where
      bare : (r : SourceType) (b : Bool) (ps : List SourceType) → taking ps (gives r b) ≡ element (taking ps (gives r b))
      bare r b [] = refl
      bare r b (q ∷ ps) = refl

      whole : (o : Option Fun) → fun_type (type_of tables) o ≡ element (fun_type (type_of tables) o)
      whole None = refl
      whole (Some f) = bare (type_of tables f.result) f.is_const (map (type_of tables) f.params)
  element_by_others v none = refl

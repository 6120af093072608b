-- The statements of a function of code as those of a function.
use Rattle.std.proofs.Common.{◌≡◌, ℕ, Bool, true, false, ◌&&◌, List, [], ◌∷◌, ◌++◌, map, refl, sym, ap, ◌∙◌, arith}
use Rattle.std.proofs.lemmas.List.{map-append}
use Rattle.std.specs.List.{flat_map}
use Rattle.cf_core.specs.FromTypes.{Tables, type_of, taking}
use Rattle.cf_core.specs.Types.{SourceType, gives, parameters, result}
use Rattle.cf_lower.specs.Functions.{all_bound, arguments_at}
use Rattle.cf_lower.specs.Kept.{Keeping, Locals, nothing_kept}
use Rattle.cf_lower_fn.specs.Walks.{statements_at}
use Rattle.cf_lower_held.specs.declared.scene.Scene.{Scene}
use Rattle.cf_lower_held.specs.Scenes.{locals_in, statements_in}
use Rattle.cf_lower_layout.specs.Sorts.{sort_of}
use Rattle.cf_lower_place.specs.InPlace.{all_in_place}
use Rattle.cf_lower_place.specs.Named.{function_in_place, is_signature}
use Rattle.cf_lower_types.proofs.FunctionLaws.{parameters_taking, result_taking}
use Rattle.cf_lower_types.specs.Bare.{classes_of}
use Rattle.cf_plain.specs.Named.{all_actions}
use Rattle.cf_plain.specs.View.{function_of}
use Rattle.cf_plain.specs.declared.unit.PlainFn.{PlainFn}
use Rattle.cf_lowerable_places.specs.Fits.{fits_in, statement_fits}
use Rattle.cf_lowerable_places.proofs.Bounded.{all_in_place_same}

signed : (ps : List SourceType) (t : SourceType) → is_signature (taking ps (gives t false)) ≡ true
signed [] t = refl
signed (p ∷ ps) t = signed ps t

module _ (tables : Tables) (f : PlainFn) where
  -- with these types of locals, these arguments and this result
  abbrev placed : List SourceType → List ℕ → SourceType → Bool
  placed ts is t =
      all_in_place (record { types = ts; arguments = is }) (statement_fits (record { types = ts; arguments = is }) (sort_of t) (classes_of tables)) false false (statements_at tables f.body)
      nothing_kept

  abbrev placed_in : Tables → ℕ → List ℕ → List ℕ → Bool
  placed_in ts r types is =
      all_in_place (record { types = map (type_of ts) types; arguments = is })
      (statement_fits (record { types = map (type_of ts) types; arguments = is }) (sort_of (type_of ts r)) (classes_of ts)) false false (statements_at ts f.body) nothing_kept

  pub function_placed : (x : Scene) (good : Bool) (g : Keeping) → x.tables.now ≡ tables → x.result ≡ f.result → x.types ≡ f.params ++ f.locals
      → x.arguments ≡ flat_map arguments_at (all_actions (statements_at tables f.body)) → g ≡ nothing_kept
      → good ≡ all_in_place (locals_in x) (fits_in x) false false (statements_in x f.body) g → good ≡ function_in_place (classes_of tables) (function_of tables f)
  function_placed x good g at given types arguments none is =
      let ps = map (type_of tables) f.params in
      let t = type_of tables f.result in
      let own = taking ps (gives t false) in
      let is_args = flat_map arguments_at (all_actions (statements_at tables f.body)) in
      let n = all_bound (statements_at tables f.body) in
      let locals : Locals = record { types = parameters own ++ map (type_of tables) f.locals; arguments = is_args } in
      is ∙ ap (all_in_place (locals_in x) (fits_in x) false false (statements_in x f.body)) none
      ∙ ap (λ (ts : Tables). placed_in ts x.result x.types x.arguments) at ∙ ap (λ (r : ℕ). placed_in tables r x.types x.arguments) given
      ∙ ap (λ (l : List ℕ). placed_in tables f.result l x.arguments) types ∙ ap (λ (l : List ℕ). placed_in tables f.result (f.params ++ f.locals) l) arguments
      ∙ ap (λ ts. placed ts is_args t) (map-append (type_of tables) f.params f.locals ∙ ap (λ l. l ++ map (type_of tables) f.locals) (sym (parameters_taking ps t false)))
      ∙ ap (λ u. placed (parameters own ++ map (type_of tables) f.locals) is_args u) (sym (result_taking ps t false))
      ∙ sym (all_in_place_same locals (sort_of (result own)) (classes_of tables) n false false (statements_at tables f.body) nothing_kept (omega arith))
      ∙ with_signature (is_signature own) _ (signed ps t)
    where
      with_signature : (a b : Bool) → a ≡ true → b ≡ (a && b)
      with_signature true b e = refl
      with_signature false b e = cc

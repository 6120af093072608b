-- The statements of a function of code as those of a function.
use Rattle.std.proofs.Common.{◌≡◌, ℕ, Bool, false, List, ◌++◌, map, sym, ap, ◌∙◌}
use Rattle.std.proofs.lemmas.List.{map-append}
use Rattle.std.specs.Prelude.{is_some}
use Rattle.cf_core.specs.FromClasses.{signature_of}
use Rattle.cf_core.specs.FromTypes.{Tables, type_of, taking}
use Rattle.cf_core.specs.Types.{SourceType, gives, parameters}
use Rattle.cf_lower_kept.specs.Ready.{all_ready, function_ready}
use Rattle.cf_lower_types.proofs.FunctionLaws.{parameters_taking, result_taking}
use Rattle.cf_plain.specs.View.{function_of, plains_of}
use Rattle.cf_plain.specs.declared.unit.PlainFn.{PlainFn}
use Rattle.cf_plain_kept.specs.Kept.{Keeping, nothing_set}
use Rattle.cf_lowerable_ready.specs.declared.scene.Scene.{Scene}
use Rattle.cf_lowerable_ready.specs.Scenes.{locals_in, result_in, statements_in}
use Rattle.cf_lowerable_ready.specs.Steps.{goes, steps_in}
use Rattle.cf_lowerable_ready.proofs.StepLaws.{is_gone, ready_goes}

module _ (tables : Tables) (f : PlainFn) where
  -- with these types of locals and this result
  abbrev told : List SourceType → SourceType → Bool
  told ts t = all_ready ts t (plains_of tables (signature_of tables) f.body) nothing_set

  abbrev told_in : Tables → ℕ → List ℕ → Bool
  told_in ts r types = all_ready (map (type_of ts) types) (type_of ts r) (plains_of ts (signature_of ts) f.body) nothing_set

  pub function_told : (x : Scene) (good : Bool) (g h : Keeping) → x.tables.now ≡ tables → x.result ≡ f.result → x.types ≡ f.params ++ f.locals → g ≡ nothing_set
      → goes good h ≡ steps_in x (statements_in x f.body) g → good ≡ function_ready (function_of tables f)
  function_told x good g h at given types none is =
      let ps = map (type_of tables) f.params in
      let t = type_of tables f.result in
      let own = taking ps (gives t false) in
      is_gone good h ∙ ap is_some (is ∙ ap (steps_in x (statements_in x f.body)) none) ∙ ready_goes (locals_in x) (result_in x) (statements_in x f.body) nothing_set
      ∙ ap (λ (ts : Tables). told_in ts x.result x.types) at ∙ ap (λ (r : ℕ). told_in tables r x.types) given ∙ ap (λ (l : List ℕ). told_in tables f.result l) types
      ∙ ap (λ ts. told ts t) (map-append (type_of tables) f.params f.locals ∙ ap (λ l. l ++ map (type_of tables) f.locals) (sym (parameters_taking ps t false)))
      ∙ ap (λ u. told (parameters own ++ map (type_of tables) f.locals) u) (sym (result_taking ps t false))

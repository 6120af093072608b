-- Names of functions and of locals.
use Rattle.std.proofs.Common.{◌≡◌, ℕ, ◌<◌, Bool, true, false, not, ◌&&◌, ◌||◌, refl, sym, ◌∙◌, ap}
use Rattle.std.specs.Prelude.{Some, length}
use Rattle.cf_core.specs.Types.{Name, SourceType, without_const}
use Rattle.cf_core.specs.Places.{is_reference, is_scalar}
use Rattle.cf_core.specs.Calls.{is_library}
use Rattle.cf_lower_layout.specs.Sorts.{address, code, sort_to}
use Rattle.cf_plain.specs.Plain as plain
use Rattle.cc_whole.specs.Plain as c_tree
use Rattle.cc_whole.specs.Plain.{load, named}
use Rattle.cc_whole_mean.specs.Values.{variable_source}
use Rattle.cf_lower.specs.Kept.{holds, Keeping, place_of, referred, is_argument, type_of_local}
use Rattle.cf_lower.specs.Written.{local_name}
use Rattle.cf_lower.specs.Expressions.{place_named, as_value}
use Rattle.cf_lower_steps.specs.Lowering.{is_function}
use Rattle.cf_lower_turns.specs.Around.{Around}
use Rattle.cf_lower_turns.specs.Scene.{Scene}
use Rattle.cf_lower_objects.proofs.Naming.{function-step, local-step, referred-same}
use Rattle.cf_lower_actions.specs.Fits.{Fits}
use Rattle.cf_lower_actions.specs.Given.{Given}
use Rattle.cf_lower_actions.proofs.Moments.{moment, stands}

module _ (z : Scene) (fits : Fits z) (around : Around Keeping) (p : Keeping) where
  pub function-given : (name : Name) (y : SourceType) → is_function z.program name ≡ true
      → (is_library name ≡ true → without_const (z.signature name) ≡ without_const y) → Given z around p (plain.function name y)
  function-given name y known library = record {
    kept = holds (code (without_const y));
    is = refl;
    sort = code (without_const y);
    local = refl;
    expression = load (named name);
    no_load = λ m. ap variable_source (fits.named name known);
    expressed = refl;
    assigned = λ r. refl;
    dropped = refl;
    step = λ n g s t w h.
        function-step (moment z around p n g s t w h) (stands z around p n g s t w h fits) name y (fits.named name known) library (fits.typed name);
  }

  module _ (i : ℕ) (lt : i < length z.body.own.locals.types) (no_reference : is_reference (type_of_local z.body.own.locals i) ≡ false)
      (visible : is_argument z.body.own.locals i && is_scalar (type_of_local z.body.own.locals i) ≡ false)
      (object : sort_to (without_const (type_of_local z.body.own.locals i)) ≡ address (without_const (type_of_local z.body.own.locals i))) where
    abbrev y : SourceType
    y = type_of_local z.body.own.locals i

    pub local-given : Given z around p (plain.local i)
    local-given = record {
      kept = holds (address (without_const y));
      is = ap (λ l. place_of (type_of_local l i)) fits.locals ∙ ap (λ u. holds (sort_to u)) (referred-same y no_reference) ∙ ap holds object;
      sort = address (without_const y);
      local = refl;
      expression = c_tree.address (local_name i);
      no_load = λ m. refl;
      expressed = ap (λ l. place_named (local_name i) (type_of_local l i)) fits.locals
          ∙ ap (λ b. elim b as (λ x. c_tree.Expression) [ true ↦ as_value (sort_to (referred y)) (load (named (local_name i))) | false ↦ c_tree.address (local_name i) ]) no_reference;
      assigned = λ r. refl;
      dropped = refl;
      step = λ n g s t w h.
          local-step (moment z around p n g s t w h) (stands z around p n g s t w h fits) i lt no_reference visible object;
    }

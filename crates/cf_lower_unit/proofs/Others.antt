-- What a file names, from the actions of its functions and initialisers.
use Rattle.std.proofs.Common.{◌≡◌, Bool, List, [], ◌∷◌, ◌++◌, map, refl, ap, ◌∙◌, append-nil}
use Rattle.std.proofs.lemmas.List.Concat.{flat_map-append}
use Rattle.std.specs.Borrow.{Bor}
use Rattle.std.specs.List.{flat_map}
use Rattle.cc_whole.specs.Plain.{Item, defines_variable}
use Rattle.cf_core.specs.FromTypes.{Tables}
use Rattle.cf_core.specs.Types.{Name}
use Rattle.cf_lower.specs.Functions.{declared_at, literal_at, named_in, other_names}
use Rattle.cf_lower_fn.specs.Walks.{statements_at, told}
use Rattle.cf_lower_types.specs.Bare.{classes_of}
use Rattle.cf_plain.specs.declared.action.Action.{Action as CodeAction}
use Rattle.cf_plain.specs.declared.unit.PlainFn.{PlainFn}
use Rattle.cf_plain.specs.declared.unit.PlainStatic.{PlainStatic}
use Rattle.cf_plain.specs.Plain.{Action, PlainFunction, PlainStatic as StaticOf}
use Rattle.cf_plain.specs.Named.{all_actions}
use Rattle.cf_plain.specs.View.{function_of, static_of}
use Rattle.cf_lower_unit.specs.Pieces.{all_done, all_started, file_with, named_by, texts}

-- the literals of the actions of statements
pub texts_are : (tables : Tables) (owner name : Name) (s l local : Bool) (held all : List (Bor CodeAction)) (actions : List Action) (w v : List Item) → owner ≡ name → l ≡ local
    → all ≡ held → told tables held ≡ actions → v ≡ w ++ texts owner s l (told tables all) → v ≡ w ++ map defines_variable (flat_map (literal_at name s local) actions)
texts_are tables owner name s l local held all actions w v named kept same does is =
    is ∙ ap (λ n. w ++ texts n s l (told tables all)) named ∙ ap (λ b. w ++ texts name s b (told tables all)) kept
    ∙ ap (λ bs. w ++ texts name s local bs) (ap (told tables) same ∙ does)

module _ (tables : Tables) where
  -- what a file does, put behind nothing
  pub done_is : (none some all : List (Bor CodeAction)) (ds ss : List Action) → none ≡ [] → told tables some ≡ told tables none ++ ds → told tables all ≡ told tables some ++ ss
      → told tables all ≡ ds ++ ss
  done_is none some all ds ss empty done started = started ∙ ap (λ l. l ++ ss) (done ∙ ap (λ l. told tables l ++ ds) empty)

  -- what is declared where these names stand in front
  pub others_made : (held all : List (Bor CodeAction)) (actions : List Action) (none some names heads variables : List Name) (made : List Item) → all ≡ held
      → told tables held ≡ actions → none ≡ [] → some ≡ variables ++ none → names ≡ heads ++ some → made ≡ other_names names (named_by tables (told tables all))
      → made ≡ other_names (heads ++ variables) (named_by tables actions)
  others_made held all actions none some names heads variables made same does empty first second is =
      is ∙ ap (λ bs. other_names names (named_by tables bs)) (ap (told tables) same ∙ does)
      ∙ ap (λ ns. other_names ns (named_by tables actions))
      (second ∙ ap (λ l. heads ++ l) (first ∙ ap (λ l. variables ++ l) empty ∙ append-nil variables))

  -- ---- all that a file names

  abbrev of_function : PlainFunction → List Item
  of_function f = flat_map (declared_at (classes_of tables)) (all_actions f.body)

  abbrev of_static : StaticOf → List Item
  of_static x = flat_map (declared_at (classes_of tables)) (all_actions x.start)

  named_done : (fs : List PlainFn) → named_by tables (all_done tables fs) ≡ flat_map of_function (map (function_of tables) fs)
  named_done [] = refl
  named_done (f ∷ fs) =
      flat_map-append (declared_at (classes_of tables)) (all_actions (statements_at tables f.body)) (all_done tables fs)
      ∙ ap (λ l. of_function (function_of tables f) ++ l) (named_done fs)

  named_started : (xs : List PlainStatic) → named_by tables (all_started tables xs) ≡ flat_map of_static (map (static_of tables) xs)
  named_started [] = refl
  named_started (x ∷ xs) =
      flat_map-append (declared_at (classes_of tables)) (all_actions (statements_at tables x.start)) (all_started tables xs)
      ∙ ap (λ l. of_static (static_of tables x) ++ l) (named_started xs)

  pub named_all : (fs : List PlainFn) (xs : List PlainStatic) → named_by tables (all_done tables fs ++ all_started tables xs) ≡ named_in (file_with tables fs xs)
  named_all fs xs =
      flat_map-append (declared_at (classes_of tables)) (all_done tables fs) (all_started tables xs)
      ∙ ap (λ l. l ++ named_by tables (all_started tables xs)) (named_done fs) ∙ ap (λ l. flat_map of_function (map (function_of tables) fs) ++ l) (named_started xs)

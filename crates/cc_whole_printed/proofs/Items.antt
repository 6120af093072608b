-- What is printed for initialisers and items is a text of them.
use Rattle.std.proofs.Common.{◌≡◌, ℕ, nat_lt, true, List, [], ◌∷◌, ◌++◌, Option, Some, None, map, append-nil, append_assoc}
use Rattle.std.specs.List.{concat, list_all}
use Rattle.std.proofs.lemmas.Bool.{and_parts}
use Rattle.cc_whole_tokens.specs.declared.mark.Mark.TheVariants as mark
use Rattle.cc_whole_tokens.specs.declared.token.Token.{Token}
use Rattle.cc_whole_tokens.specs.declared.token.Token.TheVariants as token
use Rattle.cc_whole_tokens.specs.Token.{is_name}
use Rattle.cc_whole.specs.declared.types.CVariableType.{CVariableType}
use Rattle.cc_whole.specs.declared.unit.CParameter.{CParameter}
use Rattle.cc_whole.specs.declared.unit.CPrototype.{CPrototype}
use Rattle.cc_whole.specs.declared.unit.CFunction.{CFunction}
use Rattle.cc_whole.specs.declared.unit.CPair.{CPair}
use Rattle.cc_whole.specs.declared.unit.CInitialiser.{CInitialiser}
use Rattle.cc_whole.specs.declared.unit.CInitialiser.TheVariants as initialiser
use Rattle.cc_whole.specs.declared.unit.CVariable.{CVariable}
use Rattle.cc_whole.specs.declared.unit.CItem.{CItem}
use Rattle.cc_whole.specs.declared.unit.CItem.TheVariants as item
use Rattle.cc_whole.specs.Numbers.{fits_constant}
use Rattle.cc_whole.specs.Spellable.{spellable_prototype, spellable_start}
use Rattle.cc_whole.specs.Plain.{body_of, item_of, items_of}
use Rattle.cc_whole.specs.SpellsTypes.{sign, type_tokens}
use Rattle.cc_whole.specs.Spells.{bracketed}
use Rattle.cc_whole.specs.SpellsItems as g
use Rattle.cc_whole.specs.SpellsItems.{shared_tokens, static_tokens, some_parameters, parameters_tokens, prototype_tokens, function_tokens, SpellsPair, SpellsPairs, SpellsInitialiser, SpellsItem, SpellsItems}
use Rattle.cc_whole_print.specs.Lines.{printed_mark, printed_inside, after_commas}
use Rattle.cc_whole_print.specs.Types.{type_text, variable_text}
use Rattle.cc_whole_print.specs.Initialisers.{function_text, pair_text, pairs_text, initialiser_text}
use Rattle.cc_whole_print.specs.Units.{parameter_text, parameters_text, prototype_text, extern_text, item_text}
use Rattle.cc_whole_print.specs.Units as units
use Rattle.cc_whole_printed.specs.Written.{written_type, written_function, written_pair, written_pairs, written_body, written_item}
use Rattle.cc_whole_printed.proofs.Cuts.{Cuts, cuts-none, cuts-append, cuts-same, cuts-mark, cuts-inside, cuts-name, cuts-zero, cuts-shared, cuts-static}
use Rattle.cc_whole_printed.proofs.Strings.{cuts-string}
use Rattle.cc_whole_printed.proofs.TextOf.{TextOf, text_of_same}
use Rattle.cc_whole_printed.proofs.Types.{cuts-type, cuts-result, printed_constant, printed_variable}
use Rattle.cc_whole_printed.proofs.Expressions.{cuts-brackets}
use Rattle.cc_whole_printed.proofs.Bodies.{printed_body}

-- ---- prototypes

cuts-parameter : (p : CParameter) → is_name p.name ≡ true → Cuts (parameter_text p) (type_tokens p.ty ++ (token.Name p.name ∷ []))
cuts-parameter p is = cuts-append (cuts-type p.ty) (cuts-name p.name is)

cuts-some : (p : CParameter) (ps : List CParameter) → list_all (λ (x : CParameter). is_name x.name) (p ∷ ps) ≡ true
    → Cuts (parameter_text p ++ after_commas (map parameter_text ps)) (some_parameters p ps)
cuts-some p [] good =
    let parts = and_parts (is_name p.name) true good in
    cuts-same _ _ (append-nil (parameter_text p)) (cuts-parameter p parts.0)
cuts-some p (q ∷ ps) good =
    let parts = and_parts (is_name p.name) (list_all (λ (x : CParameter). is_name x.name) (q ∷ ps)) good in
    cuts-same _ _ (append_assoc (type_text p.ty) _ (after_commas (map parameter_text (q ∷ ps))))
    (cuts-append (cuts-type p.ty) (cuts-append (cuts-name p.name parts.0) (cuts-append (cuts-mark mark.Comma) (cuts-some q ps parts.1))))

cuts-parameters : (ps : List CParameter) → list_all (λ (x : CParameter). is_name x.name) ps ≡ true → Cuts (parameters_text ps) (parameters_tokens ps)
cuts-parameters [] good = cuts-mark mark.Void
cuts-parameters (p ∷ ps) good = cuts-some p ps good

cuts-prototype : (p : CPrototype) → spellable_prototype p ≡ true → Cuts (prototype_text p) (prototype_tokens p)
cuts-prototype p good =
    let parts = and_parts (is_name p.name) (list_all (λ (x : CParameter). is_name x.name) p.parameters) good in
    cuts-append (cuts-static p.is_static)
    (cuts-append (cuts-result p.result) (cuts-append (cuts-name p.name parts.0) (cuts-brackets (cuts-parameters p.parameters parts.1))))

-- ---- initialisers

cuts-function : (f : Option (List ℕ)) → written_function f ≡ true → Cuts (function_text f) (function_tokens f)
cuts-function None good = cuts-zero
cuts-function (Some name) good = cuts-name name good

printed_pair : (p : CPair) → written_pair p ≡ true → TextOf (SpellsPair p) (pair_text p)
printed_pair p good =
    let parts = and_parts (fits_constant p.number) (written_function p.function) good in
    let w = printed_constant p.number parts.0 in
    record {
      tokens = token.Mark mark.LeftBrace ∷ (w.tokens ++ (token.Mark mark.Comma ∷ (function_tokens p.function ++ sign mark.RightBrace)));
      cut = cuts-append (cuts-inside mark.LeftBrace) (cuts-append w.cut (cuts-append (cuts-mark mark.Comma)
          (cuts-append (cuts-function p.function parts.1) (cuts-inside mark.RightBrace))));
      spells = g.SpellsPair.pair p.number w.tokens p.function w.spells;
    }

printed_some_pairs : (p : CPair) (ps : List CPair) → list_all written_pair (p ∷ ps) ≡ true
    → TextOf (SpellsPairs (p ∷ ps)) (pair_text p ++ after_commas (map pair_text ps))
printed_some_pairs p [] good =
    let parts = and_parts (written_pair p) true good in
    let w = printed_pair p parts.0 in
    text_of_same _ _ (append-nil (pair_text p)) (record { tokens = w.tokens; cut = w.cut; spells = g.SpellsPairs.last p w.tokens w.spells })
printed_some_pairs p (q ∷ ps) good =
    let parts = and_parts (written_pair p) (list_all written_pair (q ∷ ps)) good in
    let w = printed_pair p parts.0 in
    let others = printed_some_pairs q ps parts.1 in
    record {
      tokens = w.tokens ++ (token.Mark mark.Comma ∷ others.tokens);
      cut = cuts-append w.cut (cuts-append (cuts-mark mark.Comma) others.cut);
      spells = g.SpellsPairs.more p w.tokens (q ∷ ps) others.tokens w.spells others.spells;
    }

printed_start : (start : Option CInitialiser) → spellable_start start ≡ true → written_pairs start ≡ true
    → TextOf (SpellsInitialiser start) (initialiser_text start)
printed_start None spell good = record { tokens = []; cut = cuts-none; spells = g.SpellsInitialiser.none }
printed_start (Some (initialiser.Text bytes)) spell good = record {
  tokens = token.Mark mark.Assign ∷ token.Text bytes ∷ [];
  cut = cuts-append (cuts-mark mark.Assign) (cuts-string bytes spell);
  spells = g.SpellsInitialiser.text bytes;
}
printed_start (Some (initialiser.Pairs [])) spell good = cc
printed_start (Some (initialiser.Pairs (p ∷ ps))) spell good =
    let w = printed_some_pairs p ps good in
    record {
      tokens = token.Mark mark.Assign ∷ token.Mark mark.LeftBrace ∷ (w.tokens ++ sign mark.RightBrace);
      cut = cuts-append (cuts-mark mark.Assign) (cuts-append (cuts-inside mark.LeftBrace) (cuts-append w.cut (cuts-inside mark.RightBrace)));
      spells = g.SpellsInitialiser.pairs (p ∷ ps) w.tokens w.spells;
    }

-- ---- items

printed_extern : (t : CVariableType) (name : List ℕ) → is_name name ≡ true → written_type t ≡ true
    → TextOf (SpellsItem (item.Extern t name)) (extern_text t name)
printed_extern t name is fit =
    let w = printed_variable t name is fit in
    record {
      tokens = token.Mark mark.Extern ∷ (w.tokens ++ sign mark.Semicolon);
      cut = cuts-append (cuts-mark mark.Extern) (cuts-append w.cut (cuts-mark mark.Semicolon));
      spells = g.SpellsItem.extern_variable t name w.tokens w.spells;
    }

printed_function : (f : CFunction) → spellable_prototype f.prototype ≡ true → written_body (body_of f.body) ≡ true
    → TextOf (SpellsItem (item.Function f)) (units.function_text f)
printed_function f head good =
    let b = printed_body f.body good in
    record {
      tokens = shared_tokens f.is_shared ++ (prototype_tokens f.prototype ++ b.tokens);
      cut = cuts-append (cuts-shared f.is_shared) (cuts-append (cuts-prototype f.prototype head) b.cut);
      spells = g.SpellsItem.function f.is_shared f.prototype f.body b.tokens b.spells;
    }

printed_variable_item : (v : CVariable) → written_item (item_of (item.Variable v)) ≡ true → TextOf (SpellsItem (item.Variable v)) (units.variable_item_text v)
printed_variable_item v good =
    let named = and_parts (is_name v.name) _ good in
    let typed = and_parts (written_type v.ty) _ named.1 in
    let starts = and_parts (spellable_start v.initialiser) (written_pairs v.initialiser) typed.1 in
    let w = printed_variable v.ty v.name named.0 typed.0 in
    let start = printed_start v.initialiser starts.0 starts.1 in
    record {
      tokens = shared_tokens v.is_shared ++ (static_tokens v.is_static ++ (w.tokens ++ (start.tokens ++ sign mark.Semicolon)));
      cut = cuts-append (cuts-shared v.is_shared) (cuts-append (cuts-static v.is_static) (cuts-append w.cut (cuts-append start.cut (cuts-mark mark.Semicolon))));
      spells = g.SpellsItem.variable v.is_shared v.is_static v.ty v.name w.tokens v.initialiser start.tokens w.spells start.spells;
    }

printed_item : (i : CItem) → written_item (item_of i) ≡ true → TextOf (SpellsItem i) (item_text i)
printed_item (item.Prototype p) good = record {
  tokens = prototype_tokens p ++ sign mark.Semicolon;
  cut = cuts-append (cuts-prototype p good) (cuts-mark mark.Semicolon);
  spells = g.SpellsItem.prototype p;
}
printed_item (item.Extern t name) good = let parts = and_parts (is_name name) (written_type t) good in printed_extern t name parts.0 parts.1
printed_item (item.Function f) good =
    let parts = and_parts (spellable_prototype f.prototype) (written_body (body_of f.body)) good in
    printed_function f parts.0 parts.1
printed_item (item.Variable v) good = printed_variable_item v good

pub printed_items : (all : List CItem) → list_all written_item (items_of all) ≡ true → TextOf (SpellsItems all) (concat (map item_text all))
printed_items [] good = record { tokens = []; cut = cuts-none; spells = g.SpellsItems.none }
printed_items (i ∷ all) good =
    let parts = and_parts (written_item (item_of i)) (list_all written_item (items_of all)) good in
    let w = printed_item i parts.0 in
    let others = printed_items all parts.1 in
    record {
      tokens = w.tokens ++ others.tokens;
      cut = cuts-append w.cut others.cut;
      spells = g.SpellsItems.more i w.tokens all others.tokens w.spells others.spells;
    }

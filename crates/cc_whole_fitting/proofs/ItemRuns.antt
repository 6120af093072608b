-- Items.
use Rattle.std.proofs.Common.{◌≡◌, ℕ, Bool, true, false, ◌&&◌, List, [], ◌∷◌, ◌++◌, Option, Some, None, refl, sym}
use Rattle.cc_whole_tokens.specs.declared.mark.Mark.TheVariants as mark
use Rattle.cc_whole_tokens.specs.declared.token.Token.{Token}
use Rattle.cc_whole_tokens.specs.declared.token.Token.TheVariants as token
use Rattle.cc_whole.specs.declared.unit.CParameter.{CParameter}
use Rattle.cc_whole.specs.declared.unit.CPrototype.{CPrototype}
use Rattle.cc_whole.specs.declared.unit.CPair.{CPair}
use Rattle.cc_whole.specs.declared.unit.CInitialiser.{CInitialiser}
use Rattle.cc_whole.specs.declared.unit.CItem.{CItem}
use Rattle.cc_whole.specs.SpellsTypes.{sign, type_tokens, result_tokens}
use Rattle.cc_whole.specs.Spells.{bracketed}
use Rattle.cc_whole.specs.SpellsItems as g
use Rattle.cc_whole.specs.SpellsItems.{shared_tokens, static_tokens, some_parameters, parameters_tokens, prototype_tokens, function_tokens, SpellsPair, SpellsPairs, SpellsInitialiser, SpellsItem, SpellsItems}
use Rattle.cc_whole.specs.Plain.{item_of, items_of}
use Rattle.cc_whole_fitting.specs.declared.before.Before.{Before}
use Rattle.cc_whole_fitting.specs.declared.before.Before.TheVariants as before
use Rattle.cc_whole_fitting.specs.Numbers.{numbers_fit}
use Rattle.cc_whole_fitting.specs.Fitting.{fitting_pair, fitting_pairs, fitting_start, fitting_item, fitting_items}
use Rattle.cc_whole_fitting.proofs.Runs.{Run, and_true, nothing, told, both, fine, closed, put, put_name, one, brackets}
use Rattle.cc_whole_fitting.proofs.TypeRuns.{AnyRun, run_constant, run_type, run_result_named, run_variable}
use Rattle.cc_whole_fitting.proofs.TreeRuns.{run_body}

run_shared : (b : Bool) → Run before.Other (shared_tokens b) true before.Other
run_shared true = record { fit = refl; after = refl }
run_shared false = nothing before.Other

run_static : (b : Bool) → Run before.Other (static_tokens b) true before.Other
run_static true = record { fit = refl; after = refl }
run_static false = nothing before.Other

run_parameters : (p : CParameter) (ps : List CParameter) → Run before.Other (some_parameters p ps) true before.Operand
run_parameters p [] = fine (run_type p.ty before.Other) (put_name p.name (nothing before.Operand))
run_parameters p (q ∷ ps) = fine (run_type p.ty before.Other) (put_name p.name (put mark.Comma (run_parameters q ps)))

run_inside : (ps : List CParameter) (s : Before) → Run s (bracketed (parameters_tokens ps)) true before.Operand
run_inside [] s = record { fit = refl; after = refl }
run_inside (p ∷ ps) s = brackets s (run_parameters p ps)

run_prototype : (p : CPrototype) → Run before.Other (prototype_tokens p) true before.Operand
run_prototype p = fine (run_static p.is_static) (run_result_named p.result p.name before.Other (run_inside p.parameters before.Operand))

run_function : (f : Option (List ℕ)) → Run before.Other (function_tokens f) true before.Operand
run_function None = record { fit = refl; after = refl }
run_function (Some name) = put_name name (nothing before.Operand)

run_pair : {p : CPair} {xs : List Token} → SpellsPair p xs → Run before.Other xs (fitting_pair p) before.Other
run_pair (g.SpellsPair.pair c cs f d) =
    put mark.LeftBrace (closed (run_constant d) (put mark.Comma (fine (run_function f) (one mark.RightBrace before.Operand))))

run_pairs : {ps : List CPair} {xs : List Token} → SpellsPairs ps xs → Run before.Other xs (fitting_pairs ps) before.Other
run_pairs (g.SpellsPairs.last p xs d) = told (and_true (fitting_pair p)) (run_pair d)
run_pairs (g.SpellsPairs.more p xs all ys d r) = both (run_pair d) (put mark.Comma (run_pairs r))

-- an initialiser and `;`
run_start : {start : Option CInitialiser} {xs : List Token} (s : Before) → SpellsInitialiser start xs → Run s (xs ++ sign mark.Semicolon) (fitting_start start) before.Other
run_start s g.SpellsInitialiser.none = one mark.Semicolon s
run_start s (g.SpellsInitialiser.text bytes) = record { fit = refl; after = refl }
run_start s (g.SpellsInitialiser.pairs all xs d) =
    put mark.Assign (put mark.LeftBrace (closed (closed (run_pairs d) (one mark.RightBrace before.Other)) (one mark.Semicolon before.Other)))

run_item : {i : CItem} {xs : List Token} → SpellsItem i xs → Run before.Other xs (fitting_item (item_of i)) before.Other
run_item (g.SpellsItem.prototype p) = closed (run_prototype p) (one mark.Semicolon before.Operand)
run_item (g.SpellsItem.extern_prototype p) = put mark.Extern (closed (run_prototype p) (one mark.Semicolon before.Operand))
run_item (g.SpellsItem.extern_variable t name xs d) = let v = run_variable before.Other d in put mark.Extern (closed v.run (one mark.Semicolon v.behind_it))
run_item (g.SpellsItem.function is_shared p b ys d) = fine (run_shared is_shared) (fine (run_prototype p) (run_body before.Operand d))
run_item (g.SpellsItem.variable is_shared is_static t name xs start ys d e) =
    let v = run_variable before.Other d in
    fine (run_shared is_shared) (fine (run_static is_static) (both v.run (run_start v.behind_it e)))

run_items : {items : List CItem} {xs : List Token} → SpellsItems items xs → Run before.Other xs (fitting_items (items_of items)) before.Other
run_items g.SpellsItems.none = nothing before.Other
run_items (g.SpellsItems.more i xs all ys d r) = both (run_item d) (run_items r)

pub fits_as_items : (items : List CItem) (xs : List Token) → SpellsItems items xs → numbers_fit xs ≡ fitting_items (items_of items)
fits_as_items items xs d = (run_items d).fit

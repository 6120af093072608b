-- The tokens of an item have as many landmarks as the item.
use Rattle.std.proofs.Common.{◌≡◌, ℕ, Bool, true, false, List, [], ◌∷◌, ◌++◌, Option, Some, None, refl, arith}
use Rattle.cc_whole_tokens.specs.declared.mark.Mark.TheVariants as mark
use Rattle.cc_whole_tokens.specs.declared.token.Token.{Token}
use Rattle.cc_whole_tokens.specs.declared.token.Token.TheVariants as token
use Rattle.cc_whole.specs.declared.unit.CParameter.{CParameter}
use Rattle.cc_whole.specs.declared.unit.CPrototype.{CPrototype}
use Rattle.cc_whole.specs.declared.unit.CPair.{CPair}
use Rattle.cc_whole.specs.declared.unit.CInitialiser.{CInitialiser}
use Rattle.cc_whole.specs.declared.unit.CItem.{CItem}
use Rattle.cc_whole.specs.SpellsTypes.{sign, type_tokens, result_tokens}
use Rattle.cc_whole.specs.Spells.{bracketed}
use Rattle.cc_whole.specs.SpellsItems as g
use Rattle.cc_whole.specs.SpellsItems.{shared_tokens, static_tokens, some_parameters, parameters_tokens, prototype_tokens, function_tokens, SpellsPair, SpellsPairs, SpellsInitialiser, SpellsItem, SpellsItems}
use Rattle.cc_whole.specs.Plain.{item_of, items_of}
use Rattle.cc_whole.specs.Landmarks.{static_marks, all_parameters_marks, parameters_marks, prototype_marks, pairs_marks, initialiser_marks, item_marks}
use Rattle.cc_whole_laws.specs.Landmark.{landmarks_in, items_marks}
use Rattle.cc_whole_laws.proofs.Counts.{count-append, count-bracketed, count-constant, count-type, count-result, count-variable}
use Rattle.cc_whole_laws.proofs.TreeMarks.{count-body}

count-shared : (b : Bool) → landmarks_in (shared_tokens b) ≡ 0
count-shared true = refl
count-shared false = refl

count-static : (b : Bool) → landmarks_in (static_tokens b) ≡ static_marks b
count-static true = refl
count-static false = refl

count-parameters : (p : CParameter) (ps : List CParameter) → landmarks_in (some_parameters p ps) ≡ all_parameters_marks (p ∷ ps)
count-parameters p [] = omega (arith, count-append (type_tokens p.ty) (token.Name p.name ∷ []), count-type p.ty)
count-parameters p (q ∷ ps) =
    omega (arith, count-append (type_tokens p.ty) (token.Name p.name ∷ token.Mark mark.Comma ∷ some_parameters q ps), count-type p.ty, count-parameters q ps)

count-inside : (ps : List CParameter) → landmarks_in (parameters_tokens ps) ≡ parameters_marks ps
count-inside [] = refl
count-inside (p ∷ ps) = count-parameters p ps

count-prototype : (p : CPrototype) → landmarks_in (prototype_tokens p) ≡ prototype_marks p
count-prototype p =
    omega (
      arith,
      count-append (static_tokens p.is_static) (result_tokens p.result ++ (token.Name p.name ∷ bracketed (parameters_tokens p.parameters))),
      count-static p.is_static,
      count-append (result_tokens p.result) (token.Name p.name ∷ bracketed (parameters_tokens p.parameters)),
      count-result p.result,
      count-bracketed (parameters_tokens p.parameters),
      count-inside p.parameters,
    )

count-function : (f : Option (List ℕ)) → landmarks_in (function_tokens f) ≡ 1
count-function None = refl
count-function (Some name) = refl

count-pair : {p : CPair} {xs : List Token} → SpellsPair p xs → landmarks_in xs ≡ 2
count-pair (g.SpellsPair.pair c cs f d) =
    omega (
      arith,
      count-append cs (token.Mark mark.Comma ∷ (function_tokens f ++ sign mark.RightBrace)),
      count-constant d,
      count-append (function_tokens f) (sign mark.RightBrace),
      count-function f,
    )

count-pairs : {ps : List CPair} {xs : List Token} → SpellsPairs ps xs → landmarks_in xs ≡ pairs_marks ps
count-pairs (g.SpellsPairs.last p xs d) = omega (arith, count-pair d)
count-pairs (g.SpellsPairs.more p xs all ys d r) = omega (arith, count-append xs (token.Mark mark.Comma ∷ ys), count-pair d, count-pairs r)

count-start : {s : Option CInitialiser} {xs : List Token} → SpellsInitialiser s xs → landmarks_in xs ≡ initialiser_marks s
count-start g.SpellsInitialiser.none = refl
count-start (g.SpellsInitialiser.text bytes) = refl
count-start (g.SpellsInitialiser.pairs all xs d) = omega (arith, count-append xs (sign mark.RightBrace), count-pairs d)

pub count-item : {i : CItem} {xs : List Token} → SpellsItem i xs → landmarks_in xs ≡ item_marks (item_of i)
count-item (g.SpellsItem.prototype p) = omega (arith, count-append (prototype_tokens p) (sign mark.Semicolon), count-prototype p)
count-item (g.SpellsItem.extern_prototype p) = omega (arith, count-append (prototype_tokens p) (sign mark.Semicolon), count-prototype p)
count-item (g.SpellsItem.extern_variable t name xs d) = omega (arith, count-append xs (sign mark.Semicolon), count-variable d)
count-item (g.SpellsItem.function is_shared p b ys d) =
    omega (arith, count-append (shared_tokens is_shared) (prototype_tokens p ++ ys), count-shared is_shared, count-append (prototype_tokens p) ys, count-prototype p, count-body d)
count-item (g.SpellsItem.variable is_shared is_static t name xs start ys d e) =
    omega (
      arith,
      count-append (shared_tokens is_shared) (static_tokens is_static ++ (xs ++ (ys ++ sign mark.Semicolon))),
      count-shared is_shared,
      count-append (static_tokens is_static) (xs ++ (ys ++ sign mark.Semicolon)),
      count-static is_static,
      count-append xs (ys ++ sign mark.Semicolon),
      count-variable d,
      count-append ys (sign mark.Semicolon),
      count-start e,
    )

pub count-items : {items : List CItem} {xs : List Token} → SpellsItems items xs → landmarks_in xs ≡ items_marks (items_of items)
count-items g.SpellsItems.none = refl
count-items (g.SpellsItems.more i xs all ys d r) = omega (arith, count-append xs ys, count-item d, count-items r)

pub landmarks-of-texts : (items : List CItem) (xs : List Token) → SpellsItems items xs → landmarks_in xs ≡ items_marks (items_of items)
landmarks-of-texts items xs d = count-items d

-- Items: what stands for their tokens is spelled, and stands beside them.
use Rattle.std.proofs.Common.{◌≡◌, ℕ, Bool, true, false, List, [], ◌∷◌, ◌++◌, Option, Some, None, refl, ap, sym, ◌∙◌, arith, codes}
use Rattle.cc_whole_tokens.specs.declared.mark.Mark.TheVariants as mark
use Rattle.cc_whole_tokens.specs.declared.token.Token.{Token}
use Rattle.cc_whole_tokens.specs.declared.token.Token.TheVariants as token
use Rattle.cc_whole.specs.declared.types.CConstant.{CConstant}
use Rattle.cc_whole.specs.declared.types.CVariableType.{CVariableType}
use Rattle.cc_whole.specs.declared.types.CVariableType.TheVariants as variable
use Rattle.cc_whole.specs.declared.unit.CParameter.{CParameter}
use Rattle.cc_whole.specs.declared.unit.CPrototype.{CPrototype}
use Rattle.cc_whole.specs.declared.unit.CPair.{CPair}
use Rattle.cc_whole.specs.declared.unit.CInitialiser.{CInitialiser}
use Rattle.cc_whole.specs.declared.unit.CInitialiser.TheVariants as initialiser
use Rattle.cc_whole.specs.declared.unit.CItem.{CItem}
use Rattle.cc_whole.specs.declared.unit.CItem.TheVariants as item
use Rattle.cc_whole.specs.SpellsTypes as types
use Rattle.cc_whole.specs.SpellsTypes.{sign, SpellsConstant, SpellsVariable, type_tokens, result_tokens, array_tokens}
use Rattle.cc_whole.specs.Spells.{bracketed}
use Rattle.cc_whole.specs.SpellsItems as g
use Rattle.cc_whole.specs.SpellsItems.{shared_tokens, static_tokens, some_parameters, parameters_tokens, prototype_tokens, function_tokens, SpellsPair, SpellsPairs, SpellsInitialiser, SpellsItem, SpellsItems}
use Rattle.cc_whole.specs.Plain.{item_of, items_of}
use Rattle.cc_whole.specs.Landmarks.{static_marks, variable_marks, prototype_marks, item_marks}
use Rattle.cc_whole_laws.specs.Landmark.{landmarks_in}
use Rattle.cc_whole_laws.proofs.Counts.{count-append, count-constant, count-variable}
use Rattle.cc_whole_laws.proofs.ItemMarks.{count-item}
use Rattle.cc_whole_fitting.specs.declared.before.Before.{Before}
use Rattle.cc_whole_fitting.specs.declared.before.Before.TheVariants as before
use Rattle.cc_whole_wide.specs.declared.role.Role.{Role}
use Rattle.cc_whole_wide.specs.declared.role.Role.TheVariants as role
use Rattle.cc_whole_wide.specs.Others.{later, zero_token, main_token}
use Rattle.cc_whole_wide.proofs.Stopping.{first_of, Beside, same}
use Rattle.cc_whole_wide.proofs.ItemPlaces.{starts_well, has_pairs}
use Rattle.cc_whole_wide.proofs.StatementSides.{nought}
use Rattle.cc_whole_wide.proofs.ItemSides.{PairsBeside, pairs_same, wide_pair, as_many_pairs, next_pair, StartBeside, start_same, beside_start, TypeBeside, type_same, wide_ints, wide_chars, wide_pairs, item_so, items_so, beside_declared, beside_variable, beside_function, beside_items}
use Rattle.cc_whole_wide.proofs.Turns.{Turned, Stays, nothing, told, later_zero, first_alone, both, closed, marked, silent, worded, one, value_calm, pair_calm, in_brackets}
use Rattle.cc_whole_wide.proofs.TypeTurns.{Constant, fits, wide, constant_turned, type_stays, result_stays}
use Rattle.cc_whole_wide.proofs.TreeTurns.{Other}
use Rattle.cc_whole_wide.proofs.BodyTurns.{other_body}
use Rattle.cc_whole_wide.proofs.CallTurns.{size_calm, array_stays, scalar_stays}

-- ---- prototypes

shared_stays : (b : Bool) → Stays before.Other role.Value (shared_tokens b) before.Other role.Value
shared_stays true = record { puts = refl; after = refl; serves = refl; wide = refl; fit = refl; ends = refl }
shared_stays false = nothing before.Other role.Value

static_stays : (b : Bool) → Turned before.Other role.Value (static_tokens b) (static_tokens b) None before.Other role.Value
static_stays true = record { puts = refl; after = refl; serves = refl; wide = refl; fit = refl; ends = refl }
static_stays false = nothing before.Other role.Value

parameters_stay : (p : CParameter) (ps : List CParameter) → Stays before.Other role.Value (some_parameters p ps) before.Operand role.Value
parameters_stay p [] = scalar_stays p.ty p.name before.Other role.Value
parameters_stay p (q ∷ ps) = both (type_stays p.ty before.Other role.Value) (worded p.name value_calm (silent mark.Comma refl (parameters_stay q ps)))

inside_stays : (ps : List CParameter) → Stays before.Operand role.Value (bracketed (parameters_tokens ps)) before.Operand role.Value
inside_stays [] = record { puts = refl; after = refl; serves = refl; wide = refl; fit = refl; ends = refl }
inside_stays (p ∷ ps) = in_brackets before.Operand role.Value (parameters_stay p ps)

prototype_stays : (p : CPrototype) → Stays before.Other role.Value (prototype_tokens p) before.Operand role.Value
prototype_stays p =
    both (static_stays p.is_static) (both (result_stays p.result before.Other role.Value) (worded p.name value_calm (inside_stays p.parameters)))

-- a prototype alone has the landmarks of its tokens
count_prototype : (p : CPrototype) → landmarks_in (prototype_tokens p) ≡ prototype_marks p
count_prototype p = let c = count-item (g.SpellsItem.prototype p) in omega (arith, c, count-append (prototype_tokens p) (sign mark.Semicolon))

-- ---- variables

record OtherVariable (t : CVariableType) (name : List ℕ) (xs : List Token) : Type 0 where
  ty : CVariableType
  tokens : List Token
  found : Option ℕ
  ends : Before
  last : Role
  spells : SpellsVariable ty name tokens
  turned : Turned before.Other role.Value xs tokens found ends last
  beside : TypeBeside found t ty

ints_turned : (c : CConstant) (cs : List Token) (name : List ℕ) → SpellsConstant c cs → Constant role.Size c cs → OtherVariable (variable.Ints c) name (token.Mark mark.Int ∷ array_tokens name cs)
ints_turned c cs name d (fits f t) = record {
  ty = variable.Ints c;
  tokens = token.Mark mark.Int ∷ array_tokens name cs;
  found = None;
  ends = before.Other;
  last = role.Value;
  spells = types.SpellsVariable.ints c cs name d;
  turned = marked mark.Int (array_stays name before.Word role.Value value_calm t);
  beside = type_same (variable.Ints c);
}
ints_turned c cs name d (wide f t) = record {
  ty = variable.Ints nought;
  tokens = token.Mark mark.Int ∷ array_tokens name (zero_token ∷ []);
  found = Some 2;
  ends = before.Other;
  last = role.Value;
  spells = types.SpellsVariable.ints nought (zero_token ∷ []) name (types.SpellsConstant.signed (48 ∷ []));
  turned = marked mark.Int (array_stays name before.Word role.Value value_calm t);
  beside = wide_ints c f;
}

chars_turned : (c : CConstant) (cs : List Token) (name : List ℕ) → SpellsConstant c cs → Constant role.Size c cs → OtherVariable (variable.Chars c) name (token.Mark mark.Char ∷ array_tokens name cs)
chars_turned c cs name d (fits f t) = record {
  ty = variable.Chars c;
  tokens = token.Mark mark.Char ∷ array_tokens name cs;
  found = None;
  ends = before.Other;
  last = role.Value;
  spells = types.SpellsVariable.chars c cs name d;
  turned = marked mark.Char (array_stays name before.Word role.Value value_calm t);
  beside = type_same (variable.Chars c);
}
chars_turned c cs name d (wide f t) = record {
  ty = variable.Chars nought;
  tokens = token.Mark mark.Char ∷ array_tokens name (zero_token ∷ []);
  found = Some 2;
  ends = before.Other;
  last = role.Value;
  spells = types.SpellsVariable.chars nought (zero_token ∷ []) name (types.SpellsConstant.signed (48 ∷ []));
  turned = marked mark.Char (array_stays name before.Word role.Value value_calm t);
  beside = wide_chars c f;
}

pairs_turned : (c : CConstant) (cs : List Token) (name : List ℕ) → SpellsConstant c cs → Constant role.Size c cs
    → OtherVariable (variable.Pairs c) name (token.Mark mark.Struct ∷ token.Mark mark.Pair ∷ array_tokens name cs)
pairs_turned c cs name d (fits f t) = record {
  ty = variable.Pairs c;
  tokens = token.Mark mark.Struct ∷ token.Mark mark.Pair ∷ array_tokens name cs;
  found = None;
  ends = before.Other;
  last = role.Value;
  spells = types.SpellsVariable.pairs c cs name d;
  turned = marked mark.Struct (marked mark.Pair (array_stays name before.Other role.Value value_calm t));
  beside = type_same (variable.Pairs c);
}
pairs_turned c cs name d (wide f t) = record {
  ty = variable.Pairs nought;
  tokens = token.Mark mark.Struct ∷ token.Mark mark.Pair ∷ array_tokens name (zero_token ∷ []);
  found = Some 3;
  ends = before.Other;
  last = role.Value;
  spells = types.SpellsVariable.pairs nought (zero_token ∷ []) name (types.SpellsConstant.signed (48 ∷ []));
  turned = marked mark.Struct (marked mark.Pair (array_stays name before.Other role.Value value_calm t));
  beside = wide_pairs c f;
}

other_variable : {t : CVariableType} {name : List ℕ} {xs : List Token} → SpellsVariable t name xs → OtherVariable t name xs
other_variable (types.SpellsVariable.scalar t name) = record {
  ty = variable.Scalar t;
  tokens = type_tokens t ++ (token.Name name ∷ []);
  found = None;
  ends = before.Operand;
  last = role.Value;
  spells = types.SpellsVariable.scalar t name;
  turned = scalar_stays t name before.Other role.Value;
  beside = type_same (variable.Scalar t);
}
other_variable (types.SpellsVariable.ints c cs name d) = ints_turned c cs name d (constant_turned role.Size size_calm d)
other_variable (types.SpellsVariable.chars c cs name d) = chars_turned c cs name d (constant_turned role.Size size_calm d)
other_variable (types.SpellsVariable.pairs c cs name d) = pairs_turned c cs name d (constant_turned role.Size size_calm d)

-- ---- pairs

abbrev Pairs : List CPair → List CPair
Pairs ps = ps

-- a function that stays, and one that `main` stands for
function_stays : (f : Option (List ℕ)) → Turned before.Other role.Value (function_tokens f) (function_tokens f) None before.Operand role.Value
function_stays None = record { puts = refl; after = refl; serves = refl; wide = refl; fit = refl; ends = refl }
function_stays (Some name) = worded name value_calm (nothing before.Operand role.Value)

function_gone : (f : Option (List ℕ)) → Turned before.Other role.Function (function_tokens f) (main_token ∷ []) None before.Operand role.Value
function_gone None = record { puts = refl; after = refl; serves = refl; wide = refl; fit = refl; ends = refl }
function_gone (Some name) = record { puts = refl; after = refl; serves = refl; wide = refl; fit = refl; ends = refl }

count_pair : {p : CPair} {xs : List Token} → SpellsPair p xs → landmarks_in xs ≡ 2
count_pair (g.SpellsPair.pair c cs f d) =
    let k = count_function f in
    omega (arith, count-append cs (token.Mark mark.Comma ∷ (function_tokens f ++ sign mark.RightBrace)), count-constant d, count-append (function_tokens f) (sign mark.RightBrace), k)
  where
    count_function : (f : Option (List ℕ)) → landmarks_in (function_tokens f) ≡ 1
    count_function None = refl
    count_function (Some name) = refl

-- a pair before others
record OtherPair (r : Role) (p : CPair) (xs : List Token) : Type 0 where
  tree : CPair
  tokens : List Token
  found : Option ℕ
  spells : SpellsPair tree tokens
  turned : Turned before.Other r xs tokens found before.Other role.Value
  beside : {q : Option ℕ} {ps qs : List CPair} → PairsBeside q ps qs → PairsBeside (first_of found 2 q) (p ∷ ps) (tree ∷ qs)

pair_by : (r : Role) (c : CConstant) (cs : List Token) (f : Option (List ℕ)) → SpellsConstant c cs → Constant role.Pair c cs
    → OtherPair r (record { number = c; function = f }) (token.Mark mark.LeftBrace ∷ (cs ++ (token.Mark mark.Comma ∷ (function_tokens f ++ sign mark.RightBrace))))
pair_by r c cs f d (fits e t) = record {
  tree = record { number = c; function = f };
  tokens = token.Mark mark.LeftBrace ∷ (cs ++ (token.Mark mark.Comma ∷ (function_tokens f ++ sign mark.RightBrace)));
  found = None;
  spells = g.SpellsPair.pair c cs f d;
  turned = silent mark.LeftBrace refl (closed t (silent mark.Comma refl (closed (function_stays f) (one mark.RightBrace before.Operand role.Value))));
  beside = λ rest. next_pair (record { number = c; function = f }) rest;
}
pair_by r c cs f d (wide e t) = record {
  tree = record { number = nought; function = Some (codes "main") };
  tokens = token.Mark mark.LeftBrace ∷ ((zero_token ∷ []) ++ (token.Mark mark.Comma ∷ (function_tokens (Some (codes "main")) ++ sign mark.RightBrace)));
  found = Some 0;
  spells = g.SpellsPair.pair nought (zero_token ∷ []) (Some (codes "main")) (types.SpellsConstant.signed (48 ∷ []));
  turned = silent mark.LeftBrace refl (both t (silent mark.Comma refl (closed (function_gone f) (one mark.RightBrace before.Operand role.Value))));
  beside = λ rest. wide_pair (record { number = c; function = f }) _ _ e (as_many_pairs rest);
}

other_pair : {p : CPair} {xs : List Token} (r : Role) → SpellsPair p xs → OtherPair r p xs
other_pair r (g.SpellsPair.pair c cs f d) = pair_by r c cs f d (constant_turned role.Pair pair_calm d)

other_pairs : {ps : List CPair} {xs : List Token} (r : Role) → SpellsPairs ps xs → Other SpellsPairs Pairs PairsBeside before.Other r before.Other role.Value ps xs
other_pairs r (g.SpellsPairs.last p xs d) =
    let x = other_pair r d in
    record {
      tree = x.tree ∷ [];
      tokens = x.tokens;
      found = first_of x.found 2 None;
      spells = g.SpellsPairs.last x.tree x.tokens x.spells;
      turned = told (sym (first_alone x.found 2)) x.turned;
      beside = x.beside (pairs_same []);
    }
other_pairs r (g.SpellsPairs.more p xs all ys d e) =
    let x = other_pair r d in
    let y = other_pairs role.Value e in
    record {
      tree = x.tree ∷ y.tree;
      tokens = x.tokens ++ (token.Mark mark.Comma ∷ y.tokens);
      found = first_of x.found 2 y.found;
      spells = g.SpellsPairs.more x.tree x.tokens y.tree y.tokens x.spells y.spells;
      turned = told (ap (λ n. first_of x.found n y.found) (count_pair d)) (both x.turned (silent mark.Comma refl y.turned));
      beside = x.beside y.beside;
    }

-- an initialiser and `;`
record OtherStart (b : Before) (r : Role) (s : Option CInitialiser) (xs : List Token) : Type 0 where
  tree : Option CInitialiser
  tokens : List Token
  found : Option ℕ
  spells : SpellsInitialiser tree tokens
  turned : Turned b r (xs ++ sign mark.Semicolon) (tokens ++ sign mark.Semicolon) found before.Other role.Value
  beside : StartBeside found s tree

other_start : {s : Option CInitialiser} {xs : List Token} (b : Before) (r : Role) → SpellsInitialiser s xs → OtherStart b r s xs
other_start b r g.SpellsInitialiser.none = record {
  tree = None;
  tokens = [];
  found = None;
  spells = g.SpellsInitialiser.none;
  turned = one mark.Semicolon b r;
  beside = start_same None;
}
other_start b r (g.SpellsInitialiser.text bytes) = record {
  tree = Some (initialiser.Text bytes);
  tokens = _;
  found = None;
  spells = g.SpellsInitialiser.text bytes;
  turned = record { puts = refl; after = refl; serves = refl; wide = refl; fit = refl; ends = refl };
  beside = start_same (Some (initialiser.Text bytes));
}
other_start b r (g.SpellsInitialiser.pairs all xs d) =
    let x = other_pairs role.Pair d in
    record {
      tree = Some (initialiser.Pairs x.tree);
      tokens = token.Mark mark.Assign ∷ token.Mark mark.LeftBrace ∷ (x.tokens ++ sign mark.RightBrace);
      found = x.found;
      spells = g.SpellsInitialiser.pairs x.tree x.tokens x.spells;
      turned = silent mark.Assign refl (silent mark.LeftBrace refl (closed (closed x.turned (one mark.RightBrace before.Other role.Value)) (one mark.Semicolon before.Other role.Value)));
      beside = beside_start x.beside;
    }

-- ---- items

record OtherItem (i : CItem) (xs : List Token) : Type 0 where
  other : Other SpellsItem item_of (Beside item_so) before.Other role.Value before.Other role.Value i xs
  well : starts_well (item_of i) ≡ true

plain : (i : CItem) (xs : List Token) → SpellsItem i xs → Stays before.Other role.Value xs before.Other role.Value → starts_well (item_of i) ≡ true → OtherItem i xs
plain i xs d t w = record { other = record { tree = i; tokens = xs; found = None; spells = d; turned = t; beside = same (item_of i) }; well = w }

count_shared : (b : Bool) → landmarks_in (shared_tokens b) ≡ 0
count_shared true = refl
count_shared false = refl

count_static : (b : Bool) → landmarks_in (static_tokens b) ≡ static_marks b
count_static true = refl
count_static false = refl

some_pairs : {s : Option CInitialiser} {xs : List Token} → SpellsInitialiser s xs → has_pairs s ≡ true
some_pairs g.SpellsInitialiser.none = refl
some_pairs (g.SpellsInitialiser.text bytes) = refl
some_pairs (g.SpellsInitialiser.pairs all xs d) = some d
  where
    some : {ps : List CPair} {xs : List Token} → SpellsPairs ps xs → has_pairs (Some (initialiser.Pairs ps)) ≡ true
    some (g.SpellsPairs.last p xs d) = refl
    some (g.SpellsPairs.more p xs all ys d e) = refl

-- behind `#pragma cf_shared` or nothing
behind_shared : (b : Bool) {xs ys : List Token} {o : Option ℕ} → Turned before.Other role.Value xs ys o before.Other role.Value
    → Turned before.Other role.Value (shared_tokens b ++ xs) (shared_tokens b ++ ys) o before.Other role.Value
behind_shared b {o = o} t = told (ap (λ n. later n o) (count_shared b) ∙ later_zero o) (both (shared_stays b) t)

other_item : {i : CItem} {xs : List Token} → SpellsItem i xs → OtherItem i xs
other_item (g.SpellsItem.prototype p) =
    plain (item.Prototype p) _ (g.SpellsItem.prototype p) (closed (prototype_stays p) (one mark.Semicolon before.Operand role.Value)) refl
other_item (g.SpellsItem.extern_prototype p) =
    plain (item.Prototype p) _ (g.SpellsItem.extern_prototype p) (silent mark.Extern refl (closed (prototype_stays p) (one mark.Semicolon before.Operand role.Value))) refl
other_item (g.SpellsItem.extern_variable t name xs d) =
    let v = other_variable d in
    record {
      other = record {
        tree = item.Extern v.ty name;
        tokens = token.Mark mark.Extern ∷ (v.tokens ++ sign mark.Semicolon);
        found = v.found;
        spells = g.SpellsItem.extern_variable v.ty name v.tokens v.spells;
        turned = silent mark.Extern refl (closed v.turned (one mark.Semicolon v.ends v.last));
        beside = beside_declared v.beside name;
      };
      well = refl;
    }
other_item (g.SpellsItem.function is_shared p b ys d) =
    let x = other_body before.Operand role.Value d in
    record {
      other = record {
        tree = item.Function (record { is_shared = is_shared; prototype = p; body = x.tree });
        tokens = shared_tokens is_shared ++ (prototype_tokens p ++ x.tokens);
        found = later (prototype_marks p) x.found;
        spells = g.SpellsItem.function is_shared p x.tree x.tokens x.spells;
        turned = behind_shared is_shared (told (ap (λ n. later n x.found) (count_prototype p)) (both (prototype_stays p) x.turned));
        beside = beside_function is_shared p x.beside;
      };
      well = refl;
    }
other_item (g.SpellsItem.variable is_shared is_static t name xs start ys d e) =
    let v = other_variable d in
    let s = other_start v.ends v.last e in
    record {
      other = record {
        tree = item.Variable (record { is_shared = is_shared; is_static = is_static; ty = v.ty; name = name; initialiser = s.tree });
        tokens = shared_tokens is_shared ++ (static_tokens is_static ++ (v.tokens ++ (s.tokens ++ sign mark.Semicolon)));
        found = later (static_marks is_static) (first_of v.found (variable_marks t) s.found);
        spells = g.SpellsItem.variable is_shared is_static v.ty name v.tokens s.tree s.tokens v.spells s.spells;
        turned = behind_shared is_shared (told (ap (λ n. later n (first_of v.found (variable_marks t) s.found)) (count_static is_static))
            (both (static_stays is_static) (told (ap (λ n. first_of v.found n s.found) (count-variable d)) (both v.turned s.turned))));
        beside = beside_variable is_shared is_static name v.beside s.beside;
      };
      well = some_pairs e;
    }

pub other_items : {items : List CItem} {xs : List Token} → SpellsItems items xs
    → Other SpellsItems items_of (Beside items_so) before.Other role.Value before.Other role.Value items xs
other_items g.SpellsItems.none = record {
  tree = [];
  tokens = [];
  found = None;
  spells = g.SpellsItems.none;
  turned = nothing before.Other role.Value;
  beside = same [];
}
other_items (g.SpellsItems.more i xs all ys d e) =
    let m = other_item d in
    let x = m.other in
    let y = other_items e in
    record {
      tree = x.tree ∷ y.tree;
      tokens = x.tokens ++ y.tokens;
      found = first_of x.found (item_marks (item_of i)) y.found;
      spells = g.SpellsItems.more x.tree x.tokens y.tree y.tokens x.spells y.spells;
      turned = told (ap (λ n. first_of x.found n y.found) (count-item d)) (both x.turned y.turned);
      beside = beside_items m.well x.beside y.beside;
    }

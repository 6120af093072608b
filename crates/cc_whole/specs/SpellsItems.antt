-- The grammar of the small C: which tokens spell the items of a unit. Each constructor is one production.
use Rattle.std.specs.Prelude.{ℕ, Bool, true, false, List, [], ◌∷◌, ◌++◌, Option, Some, None}
use Rattle.cc_whole_tokens.specs.declared.mark.Mark.TheVariants as mark
use Rattle.cc_whole_tokens.specs.declared.token.Token.{Token}
use Rattle.cc_whole_tokens.specs.declared.token.Token.TheVariants as token
use Rattle.cc_whole.specs.declared.types.CConstant.{CConstant}
use Rattle.cc_whole.specs.declared.types.CVariableType.{CVariableType}
use Rattle.cc_whole.specs.declared.statement.CBody.{CBody}
use Rattle.cc_whole.specs.declared.unit.CParameter.{CParameter}
use Rattle.cc_whole.specs.declared.unit.CPrototype.{CPrototype}
use Rattle.cc_whole.specs.declared.unit.CPair.{CPair}
use Rattle.cc_whole.specs.declared.unit.CInitialiser.{CInitialiser}
use Rattle.cc_whole.specs.declared.unit.CInitialiser.TheVariants as initialiser
use Rattle.cc_whole.specs.declared.unit.CItem.{CItem}
use Rattle.cc_whole.specs.declared.unit.CItem.TheVariants as item
use Rattle.cc_whole.specs.SpellsTypes.{sign, SpellsConstant, type_tokens, result_tokens, SpellsVariable}
use Rattle.cc_whole.specs.Spells.{bracketed, SpellsBody}

-- `#pragma cf_shared` before a definition
abbrev pub shared_tokens : Bool → List Token
shared_tokens true = token.Shared ∷ []
shared_tokens false = []

abbrev pub static_tokens : Bool → List Token
static_tokens true = sign mark.Static
static_tokens false = []

-- one parameter or more, with commas between them
abbrev pub some_parameters : CParameter → List CParameter → List Token
some_parameters p [] = type_tokens p.ty ++ (token.Name p.name ∷ [])
some_parameters p (q ∷ rest) = type_tokens p.ty ++ (token.Name p.name ∷ token.Mark mark.Comma ∷ some_parameters q rest)

-- what stands between the brackets of a prototype
abbrev pub parameters_tokens : List CParameter → List Token
parameters_tokens [] = sign mark.Void
parameters_tokens (p ∷ rest) = some_parameters p rest

abbrev pub prototype_tokens : CPrototype → List Token
prototype_tokens p = static_tokens p.is_static ++ (result_tokens p.result ++ (token.Name p.name ∷ bracketed (parameters_tokens p.parameters)))

-- a function's name, or the constant 0 where there is none
abbrev pub function_tokens : Option (List ℕ) → List Token
function_tokens None = token.Signed (48 ∷ []) ∷ []
function_tokens (Some name) = token.Name name ∷ []

-- `{constant, function}`
pub data SpellsPair : CPair → List Token → Type 0 where
  pair : (c : CConstant) (cs : List Token) (function : Option (List ℕ)) → SpellsConstant c cs
      → SpellsPair (record { number = c; function = function })
      (token.Mark mark.LeftBrace ∷ (cs ++ (token.Mark mark.Comma ∷ (function_tokens function ++ sign mark.RightBrace))))

-- one pair or more, with commas between them
pub data SpellsPairs : List CPair → List Token → Type 0 where
  last : (p : CPair) (xs : List Token) → SpellsPair p xs → SpellsPairs (p ∷ []) xs
  more : (p : CPair) (xs : List Token) (all : List CPair) (ys : List Token) → SpellsPair p xs → SpellsPairs all ys
      → SpellsPairs (p ∷ all) (xs ++ (token.Mark mark.Comma ∷ ys))

-- `=` and a string or pairs in braces, or nothing
pub data SpellsInitialiser : Option CInitialiser → List Token → Type 0 where
  none : SpellsInitialiser None []
  text : (bytes : List ℕ) → SpellsInitialiser (Some (initialiser.Text bytes)) (token.Mark mark.Assign ∷ token.Text bytes ∷ [])
  pairs : (all : List CPair) (xs : List Token) → SpellsPairs all xs
      → SpellsInitialiser (Some (initialiser.Pairs all)) (token.Mark mark.Assign ∷ token.Mark mark.LeftBrace ∷ (xs ++ sign mark.RightBrace))

-- `extern` before a prototype says nothing more
pub data SpellsItem : CItem → List Token → Type 0 where
  prototype : (p : CPrototype) → SpellsItem (item.Prototype p) (prototype_tokens p ++ sign mark.Semicolon)
  extern_prototype : (p : CPrototype) → SpellsItem (item.Prototype p) (token.Mark mark.Extern ∷ (prototype_tokens p ++ sign mark.Semicolon))
  extern_variable : (t : CVariableType) (name : List ℕ) (xs : List Token) → SpellsVariable t name xs
      → SpellsItem (item.Extern t name) (token.Mark mark.Extern ∷ (xs ++ sign mark.Semicolon))
  function : (is_shared : Bool) (p : CPrototype) (b : CBody) (ys : List Token) → SpellsBody b ys
      → SpellsItem (item.Function (record { is_shared = is_shared; prototype = p; body = b })) (shared_tokens is_shared ++ (prototype_tokens p ++ ys))
  variable : (is_shared is_static : Bool) (t : CVariableType) (name : List ℕ) (xs : List Token) (start : Option CInitialiser) (ys : List Token)
      → SpellsVariable t name xs → SpellsInitialiser start ys
      → SpellsItem (item.Variable (record { is_shared = is_shared; is_static = is_static; ty = t; name = name; initialiser = start }))
      (shared_tokens is_shared ++ (static_tokens is_static ++ (xs ++ (ys ++ sign mark.Semicolon))))

pub data SpellsItems : List CItem → List Token → Type 0 where
  none : SpellsItems [] []
  more : (i : CItem) (xs : List Token) (all : List CItem) (ys : List Token) → SpellsItem i xs → SpellsItems all ys → SpellsItems (i ∷ all) (xs ++ ys)

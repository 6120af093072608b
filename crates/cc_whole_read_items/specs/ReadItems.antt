-- How the code reads prototypes and items.
use Rattle.std.specs.Prelude.{ℕ, Bool, true, false, List, [], ◌∷◌, Option, Some, None}
use Rattle.cc_whole_tokens.specs.declared.mark.Mark.TheVariants as mark
use Rattle.cc_whole.specs.declared.types.CType.{CType}
use Rattle.cc_whole.specs.declared.types.CConstant.{CConstant}
use Rattle.cc_whole.specs.declared.unit.CParameter.{CParameter}
use Rattle.cc_whole.specs.declared.unit.CPrototype.{CPrototype}
use Rattle.cc_whole.specs.declared.unit.CPair.{CPair}
use Rattle.cc_whole.specs.declared.unit.CInitialiser.{CInitialiser}
use Rattle.cc_whole.specs.declared.unit.CInitialiser.TheVariants as initialiser
use Rattle.cc_whole.specs.declared.unit.CItem.{CItem}
use Rattle.cc_whole.specs.declared.unit.CItem.TheVariants as item
use Rattle.cc_whole_reading.specs.Parse.{Parse, ◌>>=◌, pure, if_test, if_next, either, all_of, past, sees, sees_a, is_name, is_text, is_shared, goes_on, expect, name, text, nought, end}
use Rattle.cc_whole_reading.specs.Constants.{Keep, constant}
use Rattle.cc_whole_read_types.specs.ReadTypes.{type_name, result_type, one_variable}
use Rattle.cc_whole_read_types.specs.declared.variable.Declared.{Declared}
use Rattle.cc_whole_read_body.specs.ReadBody.{body}

-- ---- prototypes

unfoldable pub static_word : Parse Bool
static_word = if_next mark.Static (pure true) (pure false)

unfoldable pub parameter_named : CType → Parse CParameter
parameter_named t = do
  word ← name
  pure (record { ty = t; name = word })

unfoldable pub parameter : Parse CParameter
parameter = type_name >>= (λ t. parameter_named t)

abbrev pub more_parameters : List CParameter → Parse (List CParameter)
more_parameters found = all_of (sees mark.Comma) (past parameter) found

unfoldable pub some_parameters : Parse (List CParameter)
some_parameters = parameter >>= (λ p. more_parameters (p ∷ []))

unfoldable pub parameters : Parse (List CParameter)
parameters = if_next mark.Void (pure []) some_parameters

-- behind the name of a function
unfoldable pub prototype_of : Bool → Option CType → List ℕ → Parse CPrototype
prototype_of is_static result word = do
  _ ← expect mark.LeftParen
  ps ← parameters
  _ ← expect mark.RightParen
  pure (record { is_static = is_static; result = result; name = word; parameters = ps })

unfoldable pub prototype_named : Bool → Option CType → Parse CPrototype
prototype_named is_static result = name >>= (λ word. prototype_of is_static result word)

unfoldable pub prototype_behind : Bool → Parse CPrototype
prototype_behind is_static = result_type >>= (λ result. prototype_named is_static result)

unfoldable pub prototype : Parse CPrototype
prototype = static_word >>= (λ is_static. prototype_behind is_static)

-- ---- initialisers

unfoldable pub some_function : Parse (Option (List ℕ))
some_function = do
  word ← name
  pure (Some word)

unfoldable pub no_function : Parse (Option (List ℕ))
no_function = do
  _ ← nought
  pure None

unfoldable pub pair_function : Parse (Option (List ℕ))
pair_function = if_test (sees_a is_name) some_function no_function

-- behind its number
unfoldable pub pair_of : CConstant → Parse CPair
pair_of c = do
  _ ← expect mark.Comma
  f ← pair_function
  _ ← expect mark.RightBrace
  pure (record { number = c; function = f })

unfoldable pub pair : Keep → Parse CPair
pair keep = do
  _ ← expect mark.LeftBrace
  c ← constant keep
  pair_of c

abbrev pub more_pairs : Keep → List CPair → Parse (List CPair)
more_pairs keep found = all_of (sees mark.Comma) (past (pair keep)) found

unfoldable pub some_pairs : Keep → Parse (List CPair)
some_pairs keep = pair keep >>= (λ p. more_pairs keep (p ∷ []))

unfoldable pub string : Parse (Option CInitialiser)
string = do
  bytes ← text
  pure (Some (initialiser.Text bytes))

unfoldable pub pairs : Keep → Parse (Option CInitialiser)
pairs keep = do
  _ ← expect mark.LeftBrace
  all ← some_pairs keep
  _ ← expect mark.RightBrace
  pure (Some (initialiser.Pairs all))

-- behind `=`
unfoldable pub values : Keep → Parse (Option CInitialiser)
values keep = if_test (sees_a is_text) string (pairs keep)

unfoldable pub start : Keep → Parse (Option CInitialiser)
start keep = if_next mark.Assign (values keep) (pure None)

-- ---- items

unfoldable pub prototype_line : Parse CItem
prototype_line = do
  p ← prototype
  _ ← expect mark.Semicolon
  pure (item.Prototype p)

unfoldable pub extern_line : Keep → Parse CItem
extern_line keep = do
  d ← one_variable keep
  _ ← expect mark.Semicolon
  pure (item.Extern d.ty d.name)

unfoldable pub function_of : Keep → ℕ → Bool → CPrototype → Parse CItem
function_of keep n is_shared p = do
  b ← body keep n
  pure (item.Function (record { is_shared = is_shared; prototype = p; body = b }))

unfoldable pub function : Keep → ℕ → Bool → Parse CItem
function keep n is_shared = prototype >>= (λ p. function_of keep n is_shared p)

-- behind its type and name
unfoldable pub variable_of : Keep → Bool → Bool → Declared → Parse CItem
variable_of keep is_shared is_static d = do
  i ← start keep
  _ ← expect mark.Semicolon
  pure (item.Variable (record { is_shared = is_shared; is_static = is_static; ty = d.ty; name = d.name; initialiser = i }))

unfoldable pub variable_behind : Keep → Bool → Bool → Parse CItem
variable_behind keep is_shared is_static = one_variable keep >>= (λ d. variable_of keep is_shared is_static d)

unfoldable pub variable : Keep → Bool → Parse CItem
variable keep is_shared = static_word >>= (λ is_static. variable_behind keep is_shared is_static)

-- what is no function is a variable
unfoldable pub definition : Keep → ℕ → Bool → Parse CItem
definition keep n is_shared = either (function keep n is_shared) (variable keep is_shared)

-- behind `extern`: what is no prototype is a variable
unfoldable pub declaration : Keep → Parse CItem
declaration keep = either prototype_line (extern_line keep)

-- what is no definition is a prototype
unfoldable pub unmarked : Keep → ℕ → Parse CItem
unmarked keep n = either (definition keep n false) prototype_line

unfoldable pub marked : Keep → ℕ → Parse CItem
marked keep n = if_test (sees_a is_shared) (past (definition keep n true)) (unmarked keep n)

unfoldable pub one_item : Keep → ℕ → Parse CItem
one_item keep n = if_next mark.Extern (declaration keep) (marked keep n)

abbrev pub items : Keep → ℕ → Parse (List CItem)
items keep n = all_of goes_on (one_item keep n) []

-- all tokens
unfoldable pub whole : Keep → ℕ → Parse (List CItem)
whole keep n = do
  is ← items keep n
  _ ← end
  pure is

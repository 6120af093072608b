-- Rules of a grammar, and which values the tokens from one place up to another spell by them.
--
-- A rule is made of parts, as a production is. What it means is the language `spells`. `Reading` says how it is read from
-- the left, and `Stuck` where an element in the braces of a phrase has no spelling.
use Rattle.std.specs.Prelude.{◌≡◌, ℕ, suc, ◌<◌, Bool, true, false, ◌⊎◌, List, length, Some}
use Rattle.cf_tokens.specs.declared.token.Token.{Token}
use Rattle.cf_syntax.specs.declared.declarator.DeclTree.{DeclTree}
use Rattle.cf_syntax.specs.declared.declarator.Param.{Param}
use Rattle.cf_syntax.specs.declared.expression.Expr.{Expr}
use Rattle.cf_syntax.specs.NamesData.{Names}
use Rattle.cf_syntax.specs.Parse.{Parse}
use Rattle.cf_syntax.specs.Language.{Language, Many}
use Rattle.cf_syntax.specs.Grammar.{inside, ParamsInBrackets, SpellsCommas, SpellsAssign, SpellsCondition, SpellsDeclarator}
use Rattle.cf_syntax.specs.Longest.{IsLongest}

-- which expression
pub data Form : Type 0 where
  commas : Form
  assign : Form
  condition : Form

-- how the bodies of functions are read: where they stand, not at all, or with these names (9.3.2)
pub data Bodies : Type 0 where
  at_once : Bodies
  left_out : Bodies
  late : Names → Bodies

pub data Rule : Type 0 → Type 1 where
  -- no tokens
  empty : {A : Type 0} → A → Rule A
  -- what a function of the tokens tells
  exactly : {A : Type 0} → Parse A → Rule A
  -- an expression, as long as it can be (5)
  expression : Form → Names → Rule Expr
  -- a declarator, as long as it can be, so brackets that can hold parameters hold them (8.1.1); with the numbers of the classes
  -- that qualify its name
  declarator : Names → Rule (DeclTree × List ℕ)
  -- parameters in brackets (8.2.5)
  parameters : Names → Rule (ℕ × List Param)
  -- one behind the other
  then : {A B : Type 0} → Rule A → (A → Rule B) → Rule B
  -- one where the test holds of the tokens that begin there, and another elsewhere
  by : {A : Type 0} → (List Token → Bool) → Rule A → Rule A → Rule A
  -- what can be read by the first is read by the first
  rather : {A : Type 0} → Rule A → Rule A → Rule A
  -- only where nothing begins by the first
  unless : {A B : Type 0} → Rule B → Rule A → Rule A
  -- as often as it is there
  often : {A : Type 0} → (A → Rule A) → A → Rule A
  -- elements, up to where the test holds; the function tells the names that are known behind the elements so far
  until : {A : Type 0} → (List Token → Bool) → (A → Names) → (A → Rule A) → A → Rule A
  -- no place for a refusal is looked for inside
  closed : {A : Type 0} → Rule A → Rule A
  -- read once with bodies left out, to know the names at its end, and then from its beginning with bodies by these names
  twice : {A : Type 0} → (A → Names) → (Bodies → Rule A) → Rule A

-- ---- what tokens spell

abbrev pub Begins : {A : Type 0} → Language A → List Token → Type 0
Begins {A = A} L ts = (x : A) × (rest : List Token) × L ts x rest

-- with a token at least
abbrev pub Taking : {A : Type 0} → Language A → Language A
Taking L ts x rest = L ts x rest × (length rest < length ts)

-- an element, which stands where the test doesn't hold
abbrev pub Element : {A : Type 0} → (List Token → Bool) → Language A → Language A
Element ends L ts x rest = (ends ts ≡ false) × Taking L ts x rest

-- as often as it is there
abbrev pub AsOften : {A : Type 0} → (A → Language A) → A → Language A
AsOften M a ts x rest = Many M a ts x rest × (Begins (M x) rest → ⊥)

abbrev pub SpellsForm : Form → Names → Language Expr
SpellsForm commas names = SpellsCommas names
SpellsForm assign names = SpellsAssign names
SpellsForm condition names = SpellsCondition names

abbrev pub SpellsParameters : Names → Language (ℕ × List Param)
SpellsParameters names ts x rest = ParamsInBrackets (inside (suc (length ts))) names ts x rest

abbrev pub spells : {A : Type 0} → Rule A → Language A
spells (empty x) ts y rest = (y ≡ x) × (rest ≡ ts)
spells (exactly p) ts y rest = p ts ≡ Some (y, rest)
spells (expression form names) ts y rest = IsLongest (SpellsForm form names) ts y rest
spells (declarator names) ts y rest = IsLongest (SpellsDeclarator names) ts y rest
spells (parameters names) ts y rest = SpellsParameters names ts y rest
spells (then {A = A} g h) ts y rest = (a : A) × (mid : List Token) × spells g ts a mid × spells (h a) mid y rest
spells (by test g h) ts y rest = ((test ts ≡ true) × spells g ts y rest) ⊎ ((test ts ≡ false) × spells h ts y rest)
spells (rather g h) ts y rest = spells g ts y rest ⊎ ((Begins (spells g) ts → ⊥) × spells h ts y rest)
spells (unless g h) ts y rest = (Begins (spells g) ts → ⊥) × spells h ts y rest
spells (often step a) ts y rest = AsOften (λ b. Taking (spells (step b))) a ts y rest
spells (until ends names step a) ts y rest = AsOften (λ b. Element ends (spells (step b))) a ts y rest × (ends rest ≡ true)
spells (closed g) ts y rest = spells g ts y rest
spells (twice {A = A} names step) ts y rest =
    (a : A) × (mid : List Token) × spells (step left_out) ts a mid × spells (step (late (names a))) ts y rest

-- ---- rules made of these

abbrev pub made : {A B : Type 0} → (A → B) → Rule A → Rule B
made f g = then g (λ a. empty (f a))

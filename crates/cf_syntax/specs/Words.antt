-- The words of tokens by number: signs by their own numbers, keywords from 64 on, and then the other kinds.
use Rattle.std.specs.Prelude.{ℕ, ◌+◌, List, [], ◌∷◌, Option, Some, None}
use Rattle.cf_tokens.specs.declared.token.Token.{Token}
use Rattle.cf_tokens.specs.declared.token.Word.{Word}
use Rattle.cf_tokens.specs.declared.token.Word.TheVariants.{Ident, Keyword, Int, Char, Text, Sign}

abbrev pub code : Word → ℕ
code (Ident name) = 128
code (Keyword k) = 64 + k
code (Int value kind) = 129
code (Char value) = 130
code (Text bytes) = 131
code (Sign s) = s

-- the code of the first token, or 255 where there is none
abbrev pub front : List Token → ℕ
front [] = 255
front (t ∷ ts) = code t.word

-- the place of the first token
abbrev pub place : List Token → ℕ
place [] = 0
place (t ∷ ts) = t.at

abbrev pub ident_of : Word → Option (List ℕ)
ident_of (Ident name) = Some name
ident_of (Keyword k) = None
ident_of (Int value kind) = None
ident_of (Char value) = None
ident_of (Text bytes) = None
ident_of (Sign s) = None

-- the name at the front, if an identifier stands there
abbrev pub ident_at : List Token → Option (List ℕ)
ident_at [] = None
ident_at (t ∷ ts) = ident_of t.word

-- ---- the codes of the words that the grammar names
abbrev pub left_paren : ℕ
left_paren = 0

abbrev pub right_paren : ℕ
right_paren = 1

abbrev pub left_bracket : ℕ
left_bracket = 2

abbrev pub right_bracket : ℕ
right_bracket = 3

abbrev pub comma : ℕ
comma = 7

abbrev pub colon : ℕ
colon = 8

abbrev pub scope : ℕ
scope = 9

abbrev pub question : ℕ
question = 10

abbrev pub dot : ℕ
dot = 11

abbrev pub arrow : ℕ
arrow = 13

abbrev pub tilde : ℕ
tilde = 16

abbrev pub star : ℕ
star = 20

abbrev pub ampersand : ℕ
ampersand = 23

abbrev pub equals : ℕ
equals = 28

abbrev pub increment : ℕ
increment = 37

abbrev pub decrement : ℕ
decrement = 38

abbrev pub class_word : ℕ
class_word = 70

abbrev pub const_word : ℕ
const_word = 71

abbrev pub delete_word : ℕ
delete_word = 74

abbrev pub enum_word : ℕ
enum_word = 78

abbrev pub new_word : ℕ
new_word = 88

abbrev pub operator_word : ℕ
operator_word = 89

abbrev pub sizeof_word : ℕ
sizeof_word = 97

abbrev pub struct_word : ℕ
struct_word = 99

abbrev pub this_word : ℕ
this_word = 102

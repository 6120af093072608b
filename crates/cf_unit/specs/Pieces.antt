-- Rules for words, lists and brackets, and the words that statements and declarations are told apart by.
use Rattle.std.specs.Prelude.{ℕ, Bool, false, cond, ◌&&◌, nat_eq, List, [], ◌∷◌, ◌++◌, drop, Option, Some, None, is_some}
use Rattle.cf_tokens.specs.declared.token.Token.{Token}
use Rattle.cf_tokens.specs.declared.token.Word.{Word as TokenWord}
use Rattle.cf_tokens.specs.declared.token.Word.TheVariants as words
use Rattle.cf_syntax.specs.declared.expression.Expr.{Expr}
use Rattle.cf_syntax.specs.NamesData.{Names}
use Rattle.cf_syntax.specs.Parse.{Parse}
use Rattle.cf_syntax.specs.Parse.{word as word_of}
use Rattle.cf_syntax.specs.Grammar.{sees, taken}
use Rattle.cf_syntax.specs.Words.{place, ident_at, left_paren, right_paren, comma}
use Rattle.cf_unit.specs.Rule.{Rule, commas, assign, exactly, expression, then, by, often, made}

-- ---- words

abbrev pub left_brace : ℕ
left_brace = 4

abbrev pub right_brace : ℕ
right_brace = 5

abbrev pub semicolon : ℕ
semicolon = 6

abbrev pub break_word : ℕ
break_word = 66

abbrev pub case_word : ℕ
case_word = 67

abbrev pub continue_word : ℕ
continue_word = 72

abbrev pub default_word : ℕ
default_word = 73

abbrev pub do_word : ℕ
do_word = 75

abbrev pub else_word : ℕ
else_word = 77

abbrev pub extern_word : ℕ
extern_word = 79

abbrev pub for_word : ℕ
for_word = 81

abbrev pub if_word : ℕ
if_word = 84

abbrev pub private_word : ℕ
private_word = 90

abbrev pub protected_word : ℕ
protected_word = 91

abbrev pub public_word : ℕ
public_word = 92

abbrev pub return_word : ℕ
return_word = 94

abbrev pub switch_word : ℕ
switch_word = 100

abbrev pub virtual_word : ℕ
virtual_word = 108

abbrev pub while_word : ℕ
while_word = 111

-- ---- one token

-- the word of this code, with its place
abbrev pub word : ℕ → Rule ℕ
word n = exactly (word_of n)

-- an identifier, with its place
abbrev pub ident_with : ℕ → Option (List ℕ) → Option (ℕ × List ℕ)
ident_with at None = None
ident_with at (Some name) = Some (at, name)

abbrev pub identifier : Parse (ℕ × List ℕ)
identifier ts = taken (ident_with (place ts) (ident_at ts)) (drop 1 ts)

abbrev pub sees_identifier : List Token → Bool
sees_identifier ts = is_some (ident_at ts)

-- a string literal, with its place
abbrev pub string_of : ℕ → TokenWord → Option (ℕ × List ℕ)
string_of at (words.Ident bytes) = None
string_of at (words.Keyword k) = None
string_of at (words.Int value kind) = None
string_of at (words.Char value) = None
string_of at (words.Text bytes) = Some (at, bytes)
string_of at (words.Sign s) = None

abbrev pub string : Parse (ℕ × List ℕ)
string [] = None
string (t ∷ ts) = taken (string_of t.at t.word) ts

-- the constant `0`, of one byte
abbrev pub is_zero : TokenWord → Bool
is_zero (words.Ident bytes) = false
is_zero (words.Keyword k) = false
is_zero (words.Int value kind) = nat_eq value 0
is_zero (words.Char value) = false
is_zero (words.Text bytes) = false
is_zero (words.Sign s) = false

abbrev pub zero_constant : Parse ℕ
zero_constant [] = None
zero_constant (t ∷ ts) = cond (nat_eq t.len 1 && is_zero t.word) (Some (t.at, ts)) None

-- ---- lists and brackets

-- with a word behind it
abbrev pub before : {A B : Type 0} → ℕ → (A → B) → Rule A → Rule B
before n make g = then g (λ a. made (λ _. make a) (word n))

-- "(" comma ")"
abbrev pub in_brackets : Names → Rule Expr
in_brackets names = then (word left_paren) (λ _. before right_paren (λ x. x) (expression commas names))

-- args: assign {"," assign}
abbrev pub arguments : Names → Rule (List Expr)
arguments names = then (expression assign names)
    (λ x. often (λ all. then (word comma) (λ _. made (λ y. all ++ y ∷ []) (expression assign names))) (x ∷ []))

-- "(" args ")", at the bracket
abbrev pub some_arguments : Names → Rule (ℕ × List Expr)
some_arguments names = then (word left_paren) (λ at. before right_paren (λ all. (at, all)) (arguments names))

-- "(" [args] ")", at the bracket
abbrev pub maybe_arguments : Names → Rule (ℕ × List Expr)
maybe_arguments names = then (word left_paren) (λ at.
    by (sees right_paren) (made (λ _. (at, [])) (word right_paren)) (before right_paren (λ all. (at, all)) (arguments names)))

-- [comma] up to this word, which is taken
abbrev pub maybe_comma : Names → ℕ → Rule (Option Expr)
maybe_comma names n = by (sees n) (made (λ _. None) (word n)) (before n (λ x. Some x) (expression commas names))

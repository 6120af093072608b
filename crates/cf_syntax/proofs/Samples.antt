-- Readings of a few lists of tokens, computed.
use Rattle.std.proofs.Common.{◌≡◌, ℕ, suc, true, false, List, [], ◌∷◌, length, Option, Some, None, refl}
use Rattle.cf_tokens.specs.declared.token.Token.{Token}
use Rattle.cf_tokens.specs.declared.token.Word.TheVariants as words
use Rattle.cf_syntax.specs.declared.declarator.DeclTree.{DeclTree}
use Rattle.cf_syntax.specs.declared.declarator.Param.{Param}
use Rattle.cf_syntax.specs.declared.reading.DeclaratorKind.TheVariants as declarator
use Rattle.cf_syntax.specs.declared.expression.Expr.{Expr}
use Rattle.cf_syntax.specs.declared.expression.Expr.TheVariants as tree
use Rattle.cf_syntax.specs.declared.name.Last.TheVariants as last
use Rattle.cf_syntax.specs.declared.operator.BinaryOp.TheVariants as binary
use Rattle.cf_syntax.specs.declared.type_names.NameKind.TheVariants as kind
use Rattle.cf_syntax.specs.NamesData.{Names}
use Rattle.cf_syntax.specs.Reading.{readers}

-- T is a type, and C a class without names
names : Names
names = record {
  classes = record { entries = []; bases = []; is_defined = true } ∷ [];
  file = record { name = 84 ∷ []; kind = kind.Plain } ∷ record { name = 67 ∷ []; kind = kind.OfClass 0 } ∷ [];
  inner = [];
}

abbrev id : ℕ → Token
id c = record { word = words.Ident (c ∷ []); at = 0; len = 1 }

abbrev sign : ℕ → Token
sign s = record { word = words.Sign s; at = 0; len = 1 }

abbrev keyword : ℕ → Token
keyword k = record { word = words.Keyword k; at = 0; len = 1 }

abbrev left_of : Option (Expr × List Token) → Option ℕ
left_of None = None
left_of (Some q) = Some (length q.1)

abbrev commas : List Token → Option ℕ
commas ts = left_of ((readers (suc (length ts))).commas names ts)

named : ℕ → Expr
named c = tree.Named (record { at = 0; from_file = false; scopes = []; last_at = 0; last = last.Ident (c ∷ []) })

-- a - b - c
minus-from-the-left : (readers 6).commas names (id 97 ∷ sign 19 ∷ id 98 ∷ sign 19 ∷ id 99 ∷ [])
    ≡ Some (tree.Binary 0 binary.Subtract (tree.Binary 0 binary.Subtract (named 97) (named 98)) (named 99), [])
unfolding named names
minus-from-the-left = refl

-- a + ) : the longest is a
stops-before-an-operator : commas (id 97 ∷ sign 18 ∷ sign 1 ∷ []) ≡ Some 2
unfolding names
stops-before-an-operator = refl

-- (T) a
cast-taken : commas (sign 0 ∷ id 84 ∷ sign 1 ∷ id 97 ∷ []) ≡ Some 0
unfolding names
cast-taken = refl

-- (T()) . v : brackets that can hold a type hold one, and no operand follows
brackets-hold-a-type : commas (sign 0 ∷ id 84 ∷ sign 0 ∷ sign 1 ∷ sign 1 ∷ sign 11 ∷ id 118 ∷ []) ≡ None
unfolding names
brackets-hold-a-type = refl

-- T(a) = 1 would be (T)(a); as an expression T(a)
type-with-arguments : commas (id 84 ∷ sign 0 ∷ id 97 ∷ sign 1 ∷ []) ≡ Some 0
unfolding names
type-with-arguments = refl

-- a .* p = b : the left side of an assignment is unary, so the longest phrase ends before =
no-assignment-to-a-member-pointer : commas (id 97 ∷ sign 12 ∷ id 112 ∷ sign 28 ∷ id 98 ∷ []) ≡ Some 2
unfolding names
no-assignment-to-a-member-pointer = refl

-- (T) x = b : neither
no-assignment-to-a-cast : commas (sign 0 ∷ id 84 ∷ sign 1 ∷ id 120 ∷ sign 28 ∷ id 98 ∷ []) ≡ Some 2
unfolding names
no-assignment-to-a-cast = refl

-- a = b = c
assignments-from-the-right : commas (id 97 ∷ sign 28 ∷ id 98 ∷ sign 28 ∷ id 99 ∷ []) ≡ Some 0
unfolding names
assignments-from-the-right = refl

-- new T * x : the star belongs to the type
new-takes-pointers : commas (keyword 24 ∷ id 84 ∷ sign 20 ∷ id 120 ∷ []) ≡ Some 1
unfolding names
new-takes-pointers = refl

-- :: delete a
delete-of-the-file : commas (sign 9 ∷ keyword 10 ∷ id 97 ∷ []) ≡ Some 0
unfolding names
delete-of-the-file = refl

-- sizeof (T) * a : a product
sizeof-of-a-type : commas (keyword 33 ∷ sign 0 ∷ id 84 ∷ sign 1 ∷ sign 20 ∷ id 97 ∷ []) ≡ Some 0
unfolding names
sizeof-of-a-type = refl

-- a ? b : c ? d : e
choices-from-the-right : commas (id 97 ∷ sign 10 ∷ id 98 ∷ sign 8 ∷ id 99 ∷ sign 10 ∷ id 100 ∷ sign 8 ∷ id 101 ∷ []) ≡ Some 0
unfolding names
choices-from-the-right = refl

-- C::x
qualified-name : commas (id 67 ∷ sign 9 ∷ id 120 ∷ []) ≡ Some 0
unfolding names
qualified-name = refl

-- T a = 1 is no expression
a-type-begins-no-expression : commas (id 84 ∷ id 97 ∷ []) ≡ None
unfolding names
a-type-begins-no-expression = refl

-- what is left behind a declarator with a name
abbrev declared : List Token → Option ℕ
declared ts = left ((readers (suc (length ts))).declarator declarator.Named names ts)
  where
    left : Option ((DeclTree × List ℕ) × List Token) → Option ℕ
    left None = None
    left (Some q) = Some (length q.1)

-- what is left behind a parameter list
abbrev listed : List Token → Option ℕ
listed ts = left ((readers (suc (length ts))).params names ts)
  where
    left : Option (List Param × List Token) → Option ℕ
    left None = None
    left (Some q) = Some (length q.1)

-- (*p)(T)
pointer-to-function : declared (sign 0 ∷ sign 20 ∷ id 112 ∷ sign 1 ∷ sign 0 ∷ id 84 ∷ sign 1 ∷ []) ≡ Some 0
unfolding names
pointer-to-function = refl

-- C::*p[3] ;
pointer-to-member : declared (id 67 ∷ sign 9 ∷ sign 20 ∷ id 112 ∷ sign 2 ∷ id 97 ∷ sign 3 ∷ sign 6 ∷ []) ≡ Some 1
unfolding names
pointer-to-member = refl

-- T (T), T (a), T = b : the first is a function without a name, the second a named parameter
parameters : listed (id 84 ∷ sign 0 ∷ id 84 ∷ sign 1 ∷ sign 7 ∷ id 84 ∷ sign 0 ∷ id 97 ∷ sign 1 ∷ sign 7 ∷ id 84 ∷ sign 28 ∷ id 98 ∷ []) ≡ Some 0
unfolding names
parameters = refl

-- no parameters
no-parameters : listed (sign 1 ∷ []) ≡ Some 1
unfolding names
no-parameters = refl

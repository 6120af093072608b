-- What a few files are, computed.
use Rattle.std.proofs.Common.{◌≡◌, ℕ, zero, suc, Bool, true, false, cond, List, [], ◌∷◌, ◌++◌, length, Option, Some, None, nat_eq, refl}
use Rattle.std.specs.Prelude.{max}
use Rattle.cf_base.specs.declared.kind.Kind.TheVariants as kinds
use Rattle.cf_tokens.specs.declared.token.Token.{Token}
use Rattle.cf_tokens.specs.declared.token.Word.{Word}
use Rattle.cf_tokens.specs.declared.token.Word.TheVariants as words
use Rattle.cf_syntax.specs.declared.declarator.DeclTree.{DeclTree}
use Rattle.cf_syntax.specs.declared.name.Last.{Last}
use Rattle.cf_syntax.specs.declared.name.Last.TheVariants as last
use Rattle.cf_syntax.specs.Words.{code, front, ident_at}
use Rattle.cf_unit.specs.declared.file.Item.{Item}
use Rattle.cf_unit.specs.Declares.{Shape, unnamed}
use Rattle.cf_unit.specs.Known.{Known}
use Rattle.cf_unit.specs.Read.{reading, stuck_at}
use Rattle.cf_unit.specs.Stuck.{Spot}
use Rattle.cf_unit.specs.Files.{file_by}
use Rattle.cf_unit.specs.Nesting.{Levels, no_levels, depth, at_token, passes, unmatched}

abbrev at : ℕ → ℕ → Word → Token
at n len w = record { word = w; at = n; len = len }

abbrev id : ℕ → Word
id c = words.Ident (c ∷ [])

abbrev sign : ℕ → Word
sign s = words.Sign s

abbrev keyword : ℕ → Word
keyword k = words.Keyword k

abbrev number : ℕ → Word
number n = words.Int n kinds.Int

abbrev text : Word
text = words.Text (67 ∷ [])

-- ---- what a declarator declares, told by its tokens: pointers and brackets, a name, and parameters

abbrev names_in : Bool → List Token → List (List ℕ)
names_in first [] = []
names_in first (t ∷ ts) = by_ident first (ident_at (t ∷ ts)) (nat_eq (code t.word) 1) (nat_eq (code t.word) 7) (λ next. names_in next ts)
  where
    by_ident : Bool → Option (List ℕ) → Bool → Bool → (Bool → List (List ℕ)) → List (List ℕ)
    by_ident f i true c more = []
    by_ident f i false true more = more true
    by_ident f None false false more = more false
    by_ident true (Some n) false false more = more false
    by_ident false (Some n) false false more = n ∷ more false

abbrev named : Bool → List (List ℕ) → Last → List Token → Shape
named bare scopes part ts = record {
  name = Some (record { at = 0; from_file = false; scopes = scopes; last_at = 0; last = part });
  is_bare = cond (nat_eq (front ts) 0) false bare;
  has_params = nat_eq (front ts) 0;
  params = cond (nat_eq (front ts) 0) (names_in true ts) [];
}

-- the kind of the first token: an operator before a name, a bracket, an identifier, `~`
abbrev from_name : ℕ → Bool → List (List ℕ) → List Token → Shape
from_name zero bare scopes ts = unnamed
from_name (suc n) bare scopes [] = unnamed
from_name (suc n) bare scopes (t ∷ ts) = if_operator (nat_eq (code t.word) 89) (by_word (ident_at (t ∷ ts)) (nat_eq (front ts) 9) (nat_eq (code t.word) 0) (nat_eq (code t.word) 16)
    (λ b more us. from_name n b more us))
  where
    rest : List Token → List Token
    rest [] = []
    rest (u ∷ us) = us

    if_operator : Bool → Shape → Shape
    if_operator true s = named bare scopes (last.Operator 0) ts
    if_operator false s = s

    destroys : Option (List ℕ) → List Token → Shape
    destroys None us = unnamed
    destroys (Some name) us = named bare scopes (last.Destructor name) us

    by_word : Option (List ℕ) → Bool → Bool → Bool → (Bool → List (List ℕ) → List Token → Shape) → Shape
    by_word (Some name) true paren tilde more = more bare (scopes ++ name ∷ []) (rest ts)
    by_word (Some name) false paren tilde more = named bare scopes (last.Ident name) ts
    by_word None colons true tilde more = more bare scopes ts
    by_word None colons false true more = destroys (ident_at ts) (rest ts)
    by_word None colons false false more = more false scopes ts

abbrev by_tokens : List Token → DeclTree → Shape
by_tokens ts d = from_name (length ts) true [] ts

-- ---- readings

-- how many items a file has, and how many tokens are left behind them
abbrev counted : Option ((List Item × Known) × List Token) → Option (ℕ × ℕ)
counted None = None
counted (Some q) = Some (length q.0.0, length q.1)

abbrev parsed : List Token → Option (ℕ × ℕ)
parsed ts = counted (reading (file_by by_tokens (length ts)) ts)

abbrev place_of : Option Spot → Option ℕ
place_of None = None
place_of (Some p) = Some p.at

-- the place of the element that has no spelling
abbrev refused : List Token → Option ℕ
refused ts = place_of (stuck_at (file_by by_tokens (length ts)) ts)

-- int x;
one-declaration : parsed (at 0 3 (keyword 22) ∷ at 4 1 (id 120) ∷ at 5 1 (sign 6) ∷ []) ≡ Some (1, 0)
one-declaration = refl

-- int f(){return x;}
one-function : parsed (at 0 3 (keyword 22) ∷ at 4 1 (id 102) ∷ at 5 1 (sign 0) ∷ at 6 1 (sign 1) ∷ at 7 1 (sign 4) ∷ at 8 6 (keyword 30) ∷ at 15 1 (id 120) ∷ at 16 1 (sign 6) ∷ at 17 1 (sign 5) ∷ []) ≡ Some (1, 0)
one-function = refl

-- struct A{int v;};A a;
a-class : parsed (at 0 6 (keyword 35) ∷ at 7 1 (id 65) ∷ at 8 1 (sign 4) ∷ at 9 3 (keyword 22) ∷ at 13 1 (id 118) ∷ at 14 1 (sign 6) ∷ at 15 1 (sign 5) ∷ at 16 1 (sign 6) ∷ at 17 1 (id 65) ∷ at 19 1 (id 97) ∷ at 20 1 (sign 6) ∷ []) ≡ Some (2, 0)
a-class = refl

-- typedef int T;int f(){T(x);return 0;}
bracketed-name-is-declared : parsed (at 0 7 (keyword 41) ∷ at 8 3 (keyword 22) ∷ at 12 1 (id 84) ∷ at 13 1 (sign 6) ∷ at 14 3 (keyword 22) ∷ at 18 1 (id 102) ∷ at 19 1 (sign 0) ∷ at 20 1 (sign 1) ∷ at 21 1 (sign 4) ∷ at 22 1 (id 84) ∷ at 23 1 (sign 0) ∷ at 24 1 (id 120) ∷ at 25 1 (sign 1) ∷ at 26 1 (sign 6) ∷ at 27 6 (keyword 30) ∷ at 34 1 (number 0) ∷ at 35 1 (sign 6) ∷ at 36 1 (sign 5) ∷ []) ≡ Some (2, 0)
bracketed-name-is-declared = refl

-- struct A:A{};
class-known-before-its-bases : parsed (at 0 6 (keyword 35) ∷ at 7 1 (id 65) ∷ at 8 1 (sign 8) ∷ at 9 1 (id 65) ∷ at 10 1 (sign 4) ∷ at 11 1 (sign 5) ∷ at 12 1 (sign 6) ∷ []) ≡ Some (1, 0)
class-known-before-its-bases = refl

-- struct A{A();A(int a):v(a){}int v;};A::A(){}
constructors : parsed (at 0 6 (keyword 35) ∷ at 7 1 (id 65) ∷ at 8 1 (sign 4) ∷ at 9 1 (id 65) ∷ at 10 1 (sign 0) ∷ at 11 1 (sign 1) ∷ at 12 1 (sign 6) ∷ at 13 1 (id 65) ∷ at 14 1 (sign 0) ∷ at 15 3 (keyword 22) ∷ at 19 1 (id 97) ∷ at 20 1 (sign 1) ∷ at 21 1 (sign 8) ∷ at 22 1 (id 118) ∷ at 23 1 (sign 0) ∷ at 24 1 (id 97) ∷ at 25 1 (sign 1) ∷ at 26 1 (sign 4) ∷ at 27 1 (sign 5) ∷ at 28 3 (keyword 22) ∷ at 32 1 (id 118) ∷ at 33 1 (sign 6) ∷ at 34 1 (sign 5) ∷ at 35 1 (sign 6) ∷ at 36 1 (id 65) ∷ at 37 2 (sign 9) ∷ at 39 1 (id 65) ∷ at 40 1 (sign 0) ∷ at 41 1 (sign 1) ∷ at 42 1 (sign 4) ∷ at 43 1 (sign 5) ∷ []) ≡ Some (2, 0)
constructors = refl

-- struct A{int f(){T x;}typedef int T;};
bodies-know-the-end : parsed (at 0 6 (keyword 35) ∷ at 7 1 (id 65) ∷ at 8 1 (sign 4) ∷ at 9 3 (keyword 22) ∷ at 13 1 (id 102) ∷ at 14 1 (sign 0) ∷ at 15 1 (sign 1) ∷ at 16 1 (sign 4) ∷ at 17 1 (id 84) ∷ at 19 1 (id 120) ∷ at 20 1 (sign 6) ∷ at 21 1 (sign 5) ∷ at 22 7 (keyword 41) ∷ at 30 3 (keyword 22) ∷ at 34 1 (id 84) ∷ at 35 1 (sign 6) ∷ at 36 1 (sign 5) ∷ at 37 1 (sign 6) ∷ []) ≡ Some (1, 0)
bodies-know-the-end = refl

-- typedef int T;int f(int T,T x){}
parameters-in-their-list : parsed (at 0 7 (keyword 41) ∷ at 8 3 (keyword 22) ∷ at 12 1 (id 84) ∷ at 13 1 (sign 6) ∷ at 14 3 (keyword 22) ∷ at 18 1 (id 102) ∷ at 19 1 (sign 0) ∷ at 20 3 (keyword 22) ∷ at 24 1 (id 84) ∷ at 25 1 (sign 7) ∷ at 26 1 (id 84) ∷ at 28 1 (id 120) ∷ at 29 1 (sign 1) ∷ at 30 1 (sign 4) ∷ at 31 1 (sign 5) ∷ []) ≡ Some (2, 0)
parameters-in-their-list = refl

-- struct A{int f(){};int x;};
behind-a-body : parsed (at 0 6 (keyword 35) ∷ at 7 1 (id 65) ∷ at 8 1 (sign 4) ∷ at 9 3 (keyword 22) ∷ at 13 1 (id 102) ∷ at 14 1 (sign 0) ∷ at 15 1 (sign 1) ∷ at 16 1 (sign 4) ∷ at 17 1 (sign 5) ∷ at 18 1 (sign 6) ∷ at 19 3 (keyword 22) ∷ at 23 1 (id 120) ∷ at 24 1 (sign 6) ∷ at 25 1 (sign 5) ∷ at 26 1 (sign 6) ∷ []) ≡ Some (1, 0)
behind-a-body = refl

-- struct B*f();B*g();
struct-enters : parsed (at 0 6 (keyword 35) ∷ at 7 1 (id 66) ∷ at 8 1 (sign 20) ∷ at 9 1 (id 102) ∷ at 10 1 (sign 0) ∷ at 11 1 (sign 1) ∷ at 12 1 (sign 6) ∷ at 13 1 (id 66) ∷ at 14 1 (sign 20) ∷ at 15 1 (id 103) ∷ at 16 1 (sign 0) ∷ at 17 1 (sign 1) ∷ at 18 1 (sign 6) ∷ []) ≡ Some (2, 0)
struct-enters = refl

-- struct A{friend struct B;B*p;};B*q;
friend-enters-outside : parsed (at 0 6 (keyword 35) ∷ at 7 1 (id 65) ∷ at 8 1 (sign 4) ∷ at 9 6 (keyword 18) ∷ at 16 6 (keyword 35) ∷ at 23 1 (id 66) ∷ at 24 1 (sign 6) ∷ at 25 1 (id 66) ∷ at 26 1 (sign 20) ∷ at 27 1 (id 112) ∷ at 28 1 (sign 6) ∷ at 29 1 (sign 5) ∷ at 30 1 (sign 6) ∷ at 31 1 (id 66) ∷ at 32 1 (sign 20) ∷ at 33 1 (id 113) ∷ at 34 1 (sign 6) ∷ []) ≡ Some (2, 0)
friend-enters-outside = refl

-- int f(){for(int i=0;i<1;i=i+1);}
for-declares : parsed (at 0 3 (keyword 22) ∷ at 4 1 (id 102) ∷ at 5 1 (sign 0) ∷ at 6 1 (sign 1) ∷ at 7 1 (sign 4) ∷ at 8 3 (keyword 17) ∷ at 11 1 (sign 0) ∷ at 12 3 (keyword 22) ∷ at 16 1 (id 105) ∷ at 17 1 (sign 28) ∷ at 18 1 (number 0) ∷ at 19 1 (sign 6) ∷ at 20 1 (id 105) ∷ at 21 1 (sign 26) ∷ at 22 1 (number 1) ∷ at 23 1 (sign 6) ∷ at 24 1 (id 105) ∷ at 25 1 (sign 28) ∷ at 26 1 (id 105) ∷ at 27 1 (sign 18) ∷ at 28 1 (number 1) ∷ at 29 1 (sign 1) ∷ at 30 1 (sign 6) ∷ at 31 1 (sign 5) ∷ []) ≡ Some (1, 0)
for-declares = refl

-- int f(){switch(x){case 1:default:break;}}
switch-labels : parsed (at 0 3 (keyword 22) ∷ at 4 1 (id 102) ∷ at 5 1 (sign 0) ∷ at 6 1 (sign 1) ∷ at 7 1 (sign 4) ∷ at 8 6 (keyword 36) ∷ at 14 1 (sign 0) ∷ at 15 1 (id 120) ∷ at 16 1 (sign 1) ∷ at 17 1 (sign 4) ∷ at 18 4 (keyword 3) ∷ at 23 1 (number 1) ∷ at 24 1 (sign 8) ∷ at 25 7 (keyword 9) ∷ at 32 1 (sign 8) ∷ at 33 5 (keyword 2) ∷ at 38 1 (sign 6) ∷ at 39 1 (sign 5) ∷ at 40 1 (sign 5) ∷ []) ≡ Some (1, 0)
switch-labels = refl

-- int a[2]={1,{2,},};
lists : parsed (at 0 3 (keyword 22) ∷ at 4 1 (id 97) ∷ at 5 1 (sign 2) ∷ at 6 1 (number 2) ∷ at 7 1 (sign 3) ∷ at 8 1 (sign 28) ∷ at 9 1 (sign 4) ∷ at 10 1 (number 1) ∷ at 11 1 (sign 7) ∷ at 12 1 (sign 4) ∷ at 13 1 (number 2) ∷ at 14 1 (sign 7) ∷ at 15 1 (sign 5) ∷ at 16 1 (sign 7) ∷ at 17 1 (sign 5) ∷ at 18 1 (sign 6) ∷ []) ≡ Some (1, 0)
lists = refl

-- enum E{a,b=1};E x;
enumeration : parsed (at 0 4 (keyword 14) ∷ at 5 1 (id 69) ∷ at 6 1 (sign 4) ∷ at 7 1 (id 97) ∷ at 8 1 (sign 7) ∷ at 9 1 (id 98) ∷ at 10 1 (sign 28) ∷ at 11 1 (number 1) ∷ at 12 1 (sign 5) ∷ at 13 1 (sign 6) ∷ at 14 1 (id 69) ∷ at 16 1 (id 120) ∷ at 17 1 (sign 6) ∷ []) ≡ Some (2, 0)
enumeration = refl

-- struct A{int x;virtual int f()=0;};
pure : parsed (at 0 6 (keyword 35) ∷ at 7 1 (id 65) ∷ at 8 1 (sign 4) ∷ at 9 3 (keyword 22) ∷ at 13 1 (id 120) ∷ at 14 1 (sign 6) ∷ at 15 7 (keyword 44) ∷ at 23 3 (keyword 22) ∷ at 27 1 (id 102) ∷ at 28 1 (sign 0) ∷ at 29 1 (sign 1) ∷ at 30 1 (sign 28) ∷ at 31 1 (number 0) ∷ at 32 1 (sign 6) ∷ at 33 1 (sign 5) ∷ at 34 1 (sign 6) ∷ []) ≡ Some (1, 0)
pure = refl

-- struct A{typedef int T;int f(T);};int A::f(T x){}
qualified-scope : parsed (at 0 6 (keyword 35) ∷ at 7 1 (id 65) ∷ at 8 1 (sign 4) ∷ at 9 7 (keyword 41) ∷ at 17 3 (keyword 22) ∷ at 21 1 (id 84) ∷ at 22 1 (sign 6) ∷ at 23 3 (keyword 22) ∷ at 27 1 (id 102) ∷ at 28 1 (sign 0) ∷ at 29 1 (id 84) ∷ at 30 1 (sign 1) ∷ at 31 1 (sign 6) ∷ at 32 1 (sign 5) ∷ at 33 1 (sign 6) ∷ at 34 3 (keyword 22) ∷ at 38 1 (id 65) ∷ at 39 2 (sign 9) ∷ at 41 1 (id 102) ∷ at 42 1 (sign 0) ∷ at 43 1 (id 84) ∷ at 45 1 (id 120) ∷ at 46 1 (sign 1) ∷ at 47 1 (sign 4) ∷ at 48 1 (sign 5) ∷ []) ≡ Some (2, 0)
qualified-scope = refl

-- int f(){if(x)if(y);else z;}
else-of-the-nearest : parsed (at 0 3 (keyword 22) ∷ at 4 1 (id 102) ∷ at 5 1 (sign 0) ∷ at 6 1 (sign 1) ∷ at 7 1 (sign 4) ∷ at 8 2 (keyword 20) ∷ at 10 1 (sign 0) ∷ at 11 1 (id 120) ∷ at 12 1 (sign 1) ∷ at 13 2 (keyword 20) ∷ at 15 1 (sign 0) ∷ at 16 1 (id 121) ∷ at 17 1 (sign 1) ∷ at 18 1 (sign 6) ∷ at 19 4 (keyword 13) ∷ at 24 1 (id 122) ∷ at 25 1 (sign 6) ∷ at 26 1 (sign 5) ∷ []) ≡ Some (1, 0)
else-of-the-nearest = refl

-- extern"C"{int f();}extern"C"int g();
linkage : parsed (at 0 6 (keyword 15) ∷ at 6 3 text ∷ at 9 1 (sign 4) ∷ at 10 3 (keyword 22) ∷ at 14 1 (id 102) ∷ at 15 1 (sign 0) ∷ at 16 1 (sign 1) ∷ at 17 1 (sign 6) ∷ at 18 1 (sign 5) ∷ at 19 6 (keyword 15) ∷ at 25 3 text ∷ at 28 3 (keyword 22) ∷ at 32 1 (id 103) ∷ at 33 1 (sign 0) ∷ at 34 1 (sign 1) ∷ at 35 1 (sign 6) ∷ []) ≡ Some (2, 0)
linkage = refl

-- m(){}
no-type : parsed (at 0 1 (id 109) ∷ at 1 1 (sign 0) ∷ at 2 1 (sign 1) ∷ at 3 1 (sign 4) ∷ at 4 1 (sign 5) ∷ []) ≡ Some (1, 0)
no-type = refl

-- struct T{int v;};int f(){return (T()).v;}
cast-brackets-hold-a-type : refused (at 0 6 (keyword 35) ∷ at 7 1 (id 84) ∷ at 8 1 (sign 4) ∷ at 9 3 (keyword 22) ∷ at 13 1 (id 118) ∷ at 14 1 (sign 6) ∷ at 15 1 (sign 5) ∷ at 16 1 (sign 6) ∷ at 17 3 (keyword 22) ∷ at 21 1 (id 102) ∷ at 22 1 (sign 0) ∷ at 23 1 (sign 1) ∷ at 24 1 (sign 4) ∷ at 25 6 (keyword 30) ∷ at 32 1 (sign 0) ∷ at 33 1 (id 84) ∷ at 34 1 (sign 0) ∷ at 35 1 (sign 1) ∷ at 36 1 (sign 1) ∷ at 37 1 (sign 11) ∷ at 38 1 (id 118) ∷ at 39 1 (sign 6) ∷ at 40 1 (sign 5) ∷ []) ≡ Some 25
cast-brackets-hold-a-type = refl

-- typedef int T;T(int);
no-declared-name : refused (at 0 7 (keyword 41) ∷ at 8 3 (keyword 22) ∷ at 12 1 (id 84) ∷ at 13 1 (sign 6) ∷ at 14 1 (id 84) ∷ at 15 1 (sign 0) ∷ at 16 3 (keyword 22) ∷ at 19 1 (sign 1) ∷ at 20 1 (sign 6) ∷ []) ≡ Some 14
no-declared-name = refl

-- struct A{};A::A x;
class-not-in-itself : refused (at 0 6 (keyword 35) ∷ at 7 1 (id 65) ∷ at 8 1 (sign 4) ∷ at 9 1 (sign 5) ∷ at 10 1 (sign 6) ∷ at 11 1 (id 65) ∷ at 12 2 (sign 9) ∷ at 14 1 (id 65) ∷ at 16 1 (id 120) ∷ at 17 1 (sign 6) ∷ []) ≡ Some 11
class-not-in-itself = refl

-- int f(){if(x){}else{1 2;}}
place-in-else : refused (at 0 3 (keyword 22) ∷ at 4 1 (id 102) ∷ at 5 1 (sign 0) ∷ at 6 1 (sign 1) ∷ at 7 1 (sign 4) ∷ at 8 2 (keyword 20) ∷ at 10 1 (sign 0) ∷ at 11 1 (id 120) ∷ at 12 1 (sign 1) ∷ at 13 1 (sign 4) ∷ at 14 1 (sign 5) ∷ at 15 4 (keyword 13) ∷ at 19 1 (sign 4) ∷ at 20 1 (number 1) ∷ at 22 1 (number 2) ∷ at 23 1 (sign 6) ∷ at 24 1 (sign 5) ∷ at 25 1 (sign 5) ∷ []) ≡ Some 20
place-in-else = refl

-- int f(){if(1);else 1 2;}
else-does-not-fit : refused (at 0 3 (keyword 22) ∷ at 4 1 (id 102) ∷ at 5 1 (sign 0) ∷ at 6 1 (sign 1) ∷ at 7 1 (sign 4) ∷ at 8 2 (keyword 20) ∷ at 10 1 (sign 0) ∷ at 11 1 (number 1) ∷ at 12 1 (sign 1) ∷ at 13 1 (sign 6) ∷ at 14 4 (keyword 13) ∷ at 19 1 (number 1) ∷ at 21 1 (number 2) ∷ at 22 1 (sign 6) ∷ at 23 1 (sign 5) ∷ []) ≡ Some 8
else-does-not-fit = refl

-- extern"C"{struct A{int x y;};}
linkage-opens-nothing : refused (at 0 6 (keyword 15) ∷ at 6 3 text ∷ at 9 1 (sign 4) ∷ at 10 6 (keyword 35) ∷ at 17 1 (id 65) ∷ at 18 1 (sign 4) ∷ at 19 3 (keyword 22) ∷ at 23 1 (id 120) ∷ at 25 1 (id 121) ∷ at 26 1 (sign 6) ∷ at 27 1 (sign 5) ∷ at 28 1 (sign 6) ∷ at 29 1 (sign 5) ∷ []) ≡ Some 0
linkage-opens-nothing = refl

-- int f(){int g(){1 2;}}
no-function-in-a-block : refused (at 0 3 (keyword 22) ∷ at 4 1 (id 102) ∷ at 5 1 (sign 0) ∷ at 6 1 (sign 1) ∷ at 7 1 (sign 4) ∷ at 8 3 (keyword 22) ∷ at 12 1 (id 103) ∷ at 13 1 (sign 0) ∷ at 14 1 (sign 1) ∷ at 15 1 (sign 4) ∷ at 16 1 (number 1) ∷ at 18 1 (number 2) ∷ at 19 1 (sign 6) ∷ at 20 1 (sign 5) ∷ at 21 1 (sign 5) ∷ []) ≡ Some 8
no-function-in-a-block = refl

-- struct A{typedef int T;operator T();};A::operator T(){}
conversion-outside-its-class : refused (at 0 6 (keyword 35) ∷ at 7 1 (id 65) ∷ at 8 1 (sign 4) ∷ at 9 7 (keyword 41) ∷ at 17 3 (keyword 22) ∷ at 21 1 (id 84) ∷ at 22 1 (sign 6) ∷ at 23 8 (keyword 25) ∷ at 32 1 (id 84) ∷ at 33 1 (sign 0) ∷ at 34 1 (sign 1) ∷ at 35 1 (sign 6) ∷ at 36 1 (sign 5) ∷ at 37 1 (sign 6) ∷ at 38 1 (id 65) ∷ at 39 2 (sign 9) ∷ at 41 8 (keyword 25) ∷ at 50 1 (id 84) ∷ at 51 1 (sign 0) ∷ at 52 1 (sign 1) ∷ at 53 1 (sign 4) ∷ at 54 1 (sign 5) ∷ []) ≡ Some 38
conversion-outside-its-class = refl

-- typedef int T;int f(){int T;T x;}
variable-hides-a-type : refused (at 0 7 (keyword 41) ∷ at 8 3 (keyword 22) ∷ at 12 1 (id 84) ∷ at 13 1 (sign 6) ∷ at 14 3 (keyword 22) ∷ at 18 1 (id 102) ∷ at 19 1 (sign 0) ∷ at 20 1 (sign 1) ∷ at 21 1 (sign 4) ∷ at 22 3 (keyword 22) ∷ at 26 1 (id 84) ∷ at 27 1 (sign 6) ∷ at 28 1 (id 84) ∷ at 30 1 (id 120) ∷ at 31 1 (sign 6) ∷ at 32 1 (sign 5) ∷ []) ≡ Some 28
variable-hides-a-type = refl

-- typedef int T;int f(int T){T x;}
parameter-hides-a-type : refused (at 0 7 (keyword 41) ∷ at 8 3 (keyword 22) ∷ at 12 1 (id 84) ∷ at 13 1 (sign 6) ∷ at 14 3 (keyword 22) ∷ at 18 1 (id 102) ∷ at 19 1 (sign 0) ∷ at 20 3 (keyword 22) ∷ at 24 1 (id 84) ∷ at 25 1 (sign 1) ∷ at 26 1 (sign 4) ∷ at 27 1 (id 84) ∷ at 29 1 (id 120) ∷ at 30 1 (sign 6) ∷ at 31 1 (sign 5) ∷ []) ≡ Some 27
parameter-hides-a-type = refl

-- int f(struct B*p);B*q;
parameter-enters-no-class : refused (at 0 3 (keyword 22) ∷ at 4 1 (id 102) ∷ at 5 1 (sign 0) ∷ at 6 6 (keyword 35) ∷ at 13 1 (id 66) ∷ at 14 1 (sign 20) ∷ at 15 1 (id 112) ∷ at 16 1 (sign 1) ∷ at 17 1 (sign 6) ∷ at 18 1 (id 66) ∷ at 19 1 (sign 20) ∷ at 20 1 (id 113) ∷ at 21 1 (sign 6) ∷ []) ≡ Some 18
parameter-enters-no-class = refl

-- struct A{int f(){1 2;}int x y;};
body-before-a-member : refused (at 0 6 (keyword 35) ∷ at 7 1 (id 65) ∷ at 8 1 (sign 4) ∷ at 9 3 (keyword 22) ∷ at 13 1 (id 102) ∷ at 14 1 (sign 0) ∷ at 15 1 (sign 1) ∷ at 16 1 (sign 4) ∷ at 17 1 (number 1) ∷ at 19 1 (number 2) ∷ at 20 1 (sign 6) ∷ at 21 1 (sign 5) ∷ at 22 3 (keyword 22) ∷ at 26 1 (id 120) ∷ at 28 1 (id 121) ∷ at 29 1 (sign 6) ∷ at 30 1 (sign 5) ∷ at 31 1 (sign 6) ∷ []) ≡ Some 17
body-before-a-member = refl

-- struct A{int f(){x;}int x y;};
member : refused (at 0 6 (keyword 35) ∷ at 7 1 (id 65) ∷ at 8 1 (sign 4) ∷ at 9 3 (keyword 22) ∷ at 13 1 (id 102) ∷ at 14 1 (sign 0) ∷ at 15 1 (sign 1) ∷ at 16 1 (sign 4) ∷ at 17 1 (id 120) ∷ at 18 1 (sign 6) ∷ at 19 1 (sign 5) ∷ at 20 3 (keyword 22) ∷ at 24 1 (id 120) ∷ at 26 1 (id 121) ∷ at 27 1 (sign 6) ∷ at 28 1 (sign 5) ∷ at 29 1 (sign 6) ∷ []) ≡ Some 20
member = refl

-- struct A{struct B{int x y;};};
member-of-a-member : refused (at 0 6 (keyword 35) ∷ at 7 1 (id 65) ∷ at 8 1 (sign 4) ∷ at 9 6 (keyword 35) ∷ at 16 1 (id 66) ∷ at 17 1 (sign 4) ∷ at 18 3 (keyword 22) ∷ at 22 1 (id 120) ∷ at 24 1 (id 121) ∷ at 25 1 (sign 6) ∷ at 26 1 (sign 5) ∷ at 27 1 (sign 6) ∷ at 28 1 (sign 5) ∷ at 29 1 (sign 6) ∷ []) ≡ Some 18
member-of-a-member = refl

-- struct A{int f(){T x;}struct B{int g(){1 2;}};};
late-body : refused (at 0 6 (keyword 35) ∷ at 7 1 (id 65) ∷ at 8 1 (sign 4) ∷ at 9 3 (keyword 22) ∷ at 13 1 (id 102) ∷ at 14 1 (sign 0) ∷ at 15 1 (sign 1) ∷ at 16 1 (sign 4) ∷ at 17 1 (id 84) ∷ at 19 1 (id 120) ∷ at 20 1 (sign 6) ∷ at 21 1 (sign 5) ∷ at 22 6 (keyword 35) ∷ at 29 1 (id 66) ∷ at 30 1 (sign 4) ∷ at 31 3 (keyword 22) ∷ at 35 1 (id 103) ∷ at 36 1 (sign 0) ∷ at 37 1 (sign 1) ∷ at 38 1 (sign 4) ∷ at 39 1 (number 1) ∷ at 41 1 (number 2) ∷ at 42 1 (sign 6) ∷ at 43 1 (sign 5) ∷ at 44 1 (sign 5) ∷ at 45 1 (sign 6) ∷ at 46 1 (sign 5) ∷ at 47 1 (sign 6) ∷ []) ≡ Some 17
late-body = refl

-- ---- nesting and brackets

-- int m(){return 7
brace-without-a-partner : unmatched (at 0 3 (keyword 22) ∷ at 4 1 (id 109) ∷ at 5 1 (sign 0) ∷ at 6 1 (sign 1) ∷ at 7 1 (sign 4) ∷ at 8 6 (keyword 30) ∷ at 15 1 (number 7) ∷ []) ≡ Some 7
brace-without-a-partner = refl

-- (])
stray-bracket : unmatched (at 0 1 (sign 0) ∷ at 1 1 (sign 3) ∷ at 2 1 (sign 1) ∷ []) ≡ Some 1
stray-bracket = refl

-- (]
open-before-a-stray-bracket : unmatched (at 0 1 (sign 0) ∷ at 1 1 (sign 3) ∷ []) ≡ Some 0
open-before-a-stray-bracket = refl

-- int m(){return (7);} with so many brackets round the 7
abbrev brackets : ℕ → ℕ → Word → List Token → List Token
brackets zero n w rest = rest
brackets (suc k) n w rest = at n 1 w ∷ brackets k (suc n) w rest

abbrev return_in : ℕ → List Token
return_in k = at 0 3 (keyword 22) ∷ at 4 1 (id 109) ∷ at 5 1 (sign 0) ∷ at 6 1 (sign 1) ∷ at 7 1 (sign 4) ∷ at 8 6 (keyword 30) ∷ brackets k 16 (sign 0) (at 16 1 (number 7) ∷ brackets k 17 (sign 1) (at 17 1 (sign 6) ∷ at 18 1 (sign 5) ∷ []))

nested-as-deep-as-may-be : passes (return_in 250) ≡ false
nested-as-deep-as-may-be = refl

nested-too-deep : passes (return_in 251) ≡ true
nested-too-deep = refl

-- the most that is counted at a token
abbrev most : Levels → List Token → ℕ
most l [] = 0
most l (t ∷ ts) = max (depth (at_token l t (nat_eq (front ts) 77))) (most (at_token l t (nat_eq (front ts) 77)) ts)

-- if(x)y;else z;w; : `;` before `else` counts
semicolon-before-else : most no_levels (at 0 2 (keyword 20) ∷ at 2 1 (sign 0) ∷ at 3 1 (id 120) ∷ at 4 1 (sign 1) ∷ at 5 1 (id 121) ∷ at 6 1 (sign 6) ∷ at 7 4 (keyword 13) ∷ at 12 1 (id 122) ∷ at 13 1 (sign 6) ∷ at 14 1 (id 119) ∷ at 15 1 (sign 6) ∷ []) ≡ 6
semicolon-before-else = refl

-- if(x){}else{}w : so does a pair of braces
braces-before-else : most no_levels (at 0 2 (keyword 20) ∷ at 2 1 (sign 0) ∷ at 3 1 (id 120) ∷ at 4 1 (sign 1) ∷ at 5 1 (sign 4) ∷ at 6 1 (sign 5) ∷ at 7 4 (keyword 13) ∷ at 11 1 (sign 4) ∷ at 12 1 (sign 5) ∷ at 13 1 (id 119) ∷ []) ≡ 5
braces-before-else = refl

-- a,b;c,d : commas reset
commas-reset : most no_levels (at 0 1 (id 97) ∷ at 1 1 (sign 7) ∷ at 2 1 (id 98) ∷ at 3 1 (sign 6) ∷ at 4 1 (id 99) ∷ at 5 1 (sign 7) ∷ at 6 1 (id 100) ∷ []) ≡ 1
commas-reset = refl

-- No expression begins as a call does: with a name and an opening bracket, or with the type of a function in two brackets.
use Rattle.std.proofs.Common.{◌≡◌, ℕ, suc, Bool, true, false, List, [], ◌∷◌, ◌++◌, length, Option, Some, None, refl, ap, sym, ◌∙◌, subst, arith, append_assoc}
use Rattle.cc_whole_tokens.specs.declared.mark.Mark.TheVariants as mark
use Rattle.cc_whole_tokens.specs.declared.token.Token.{Token}
use Rattle.cc_whole_tokens.specs.declared.token.Token.TheVariants as token
use Rattle.cc_whole_tokens.specs.Mark.{same_mark}
use Rattle.cf_base.specs.declared.arith.Arith.{Arith}
use Rattle.cc_whole.specs.declared.types.CType.{CType}
use Rattle.cc_whole.specs.declared.types.CType.TheVariants as ty
use Rattle.cc_whole.specs.declared.expression.Prefix.TheVariants as prefix
use Rattle.cc_whole.specs.declared.expression.CExpression.{CExpression}
use Rattle.cc_whole.specs.Operators.{joins, operator_of}
use Rattle.cc_whole.specs.SpellsTypes.{sign, type_tokens, result_tokens}
use Rattle.cc_whole.specs.SpellsTypes as c
use Rattle.cc_whole.specs.Spells.{SpellsPlace, SpellsExpression, bracketed}
use Rattle.cc_whole.specs.Spells as g
use Rattle.cc_whole_reading.specs.Parse.{sees}
use Rattle.cc_whole_reading.proofs.Decides.{decides_one}
use Rattle.cc_whole_reading.proofs.Shapes.{sees_is}
use Rattle.cc_whole_read_types.specs.ReadTypes.{sees_type, result_type}
use Rattle.cc_whole_read_types.proofs.TypeLaws.{TypeEnds, IsResult, is_result, decides_result}
use Rattle.cc_whole_read_expr.proofs.Firsts.{front}

-- no operator is an opening bracket
no_bracket : (t : Token) (p : ℕ × Arith) (ts : List Token) → joins t ≡ Some p → sees mark.LeftParen (t ∷ ts) ≡ false
no_bracket (token.Mark m) p ts e = go (sees mark.LeftParen (token.Mark m ∷ ts)) refl
  where
    go : (b : Bool) → sees mark.LeftParen (token.Mark m ∷ ts) ≡ b → b ≡ false
    go false is = refl
    go true is =
        let bracket : token.Mark m ∷ ts ≡ token.Mark mark.LeftParen ∷ ts = sees_is mark.LeftParen (token.Mark m ∷ ts) is in
        let same : m ≡ mark.LeftParen = cc in
        let none : None ≡ Some p = ap operator_of (sym same) ∙ e in
        absurd (cc)
no_bracket token.Dash p ts e = refl
no_bracket (token.Name word) p ts e = refl
no_bracket (token.Signed ds) p ts e = refl
no_bracket (token.Unsigned ds) p ts e = refl
no_bracket (token.Text bytes) p ts e = refl
no_bracket token.Shared p ts e = refl

-- whether a name and an opening bracket come next
abbrev sees_call : List Token → Bool
sees_call [] = false
sees_call (token.Mark m ∷ ts) = false
sees_call (token.Dash ∷ ts) = false
sees_call (token.Name word ∷ ts) = sees mark.LeftParen ts
sees_call (token.Signed ds ∷ ts) = false
sees_call (token.Unsigned ds ∷ ts) = false
sees_call (token.Text bytes ∷ ts) = false
sees_call (token.Shared ∷ ts) = false

no_call : {level : ℕ} {x : CExpression} {xs : List Token} → SpellsExpression level x xs → (rest : List Token) → sees mark.LeftParen rest ≡ false → sees_call (xs ++ rest) ≡ false
no_call (g.SpellsExpression.number _ _ (c.SpellsConstant.signed ds)) rest e = refl
no_call (g.SpellsExpression.number _ _ (c.SpellsConstant.negative ds)) rest e = refl
no_call (g.SpellsExpression.number _ _ (c.SpellsConstant.unsigned ds)) rest e = refl
no_call (g.SpellsExpression.load _ _ (g.SpellsPlace.name word)) rest e = e
no_call (g.SpellsExpression.load _ _ (g.SpellsPlace.pointed t x xs d)) rest e = refl
no_call (g.SpellsExpression.prefixed o x xs d) rest e = refl
no_call (g.SpellsExpression.cast t x xs d) rest e = refl
no_call (g.SpellsExpression.address word) rest e = refl
no_call (g.SpellsExpression.brackets x xs d) rest e = refl
no_call (g.SpellsExpression.tighter level x xs d) rest e = no_call d rest e
no_call (g.SpellsExpression.joined level t op a b xs ys j d f) rest e =
    subst (λ l. sees_call l ≡ false) (sym (append_assoc xs (t ∷ ys) rest)) (no_call d (t ∷ (ys ++ rest)) (no_bracket t (suc level, op) (ys ++ rest) j))

-- an expression with a semicolon behind it does not begin with a name and a bracket
pub no_named_call : {level : ℕ} {x : CExpression} {xs : List Token} → SpellsExpression level x xs → (rest us : List Token) (word : List ℕ)
    → xs ++ (token.Mark mark.Semicolon ∷ rest) ≡ token.Name word ∷ token.Mark mark.LeftParen ∷ us → ⊥
unfolding same_mark
no_named_call {level} {x} {xs} d rest us word e =
    let none : sees_call (xs ++ (token.Mark mark.Semicolon ∷ rest)) ≡ false = no_call d (token.Mark mark.Semicolon ∷ rest) refl in
    let there : sees_call (xs ++ (token.Mark mark.Semicolon ∷ rest)) ≡ true = ap sees_call e in
    absurd (cc)

-- ---- calls through pointers

-- a type or `void`, and an opening bracket
abbrev pub called : Option CType → List Token → List Token
called r zs = result_tokens r ++ (token.Mark mark.LeftParen ∷ zs)

open_ends : (zs : List Token) → TypeEnds (token.Mark mark.LeftParen ∷ zs)
unfolding same_mark
open_ends zs = record { no_star = refl; words = record { no_char = refl; no_short = refl } }

close_ends : (zs : List Token) → TypeEnds (token.Mark mark.RightParen ∷ zs)
unfolding same_mark
close_ends zs = record { no_star = refl; words = record { no_char = refl; no_short = refl } }

-- a type in brackets is no type with an opening bracket behind it
no_type_call : (t : CType) (r : Option CType) (ys zs : List Token) → type_tokens t ++ (token.Mark mark.RightParen ∷ ys) ≡ called r zs → ⊥
no_type_call t r ys zs e =
    let same = decides_one IsResult TypeEnds (length (type_tokens t ++ (token.Mark mark.RightParen ∷ ys))) result_type
    (decides_result (length (type_tokens t ++ (token.Mark mark.RightParen ∷ ys)))) (Some t) r (type_tokens t) (result_tokens r)
    (token.Mark mark.RightParen ∷ ys) (token.Mark mark.LeftParen ∷ zs) (omega arith) (is_result (Some t)) (is_result r) (close_ends ys) (open_ends zs) e in
    let left : token.Mark mark.LeftParen ∷ zs ≡ token.Mark mark.RightParen ∷ ys = same.left in
    absurd (cc)

no_void : {level : ℕ} {x : CExpression} {xs : List Token} → SpellsExpression level x xs → (rest : List Token) → sees mark.Void (xs ++ rest) ≡ false
unfolding same_mark
no_void (g.SpellsExpression.number _ _ (c.SpellsConstant.signed ds)) rest = refl
no_void (g.SpellsExpression.number _ _ (c.SpellsConstant.negative ds)) rest = refl
no_void (g.SpellsExpression.number _ _ (c.SpellsConstant.unsigned ds)) rest = refl
no_void (g.SpellsExpression.load _ _ (g.SpellsPlace.name word)) rest = refl
no_void (g.SpellsExpression.load _ _ (g.SpellsPlace.pointed t x xs d)) rest = refl
no_void (g.SpellsExpression.prefixed prefix.Negate x xs d) rest = refl
no_void (g.SpellsExpression.prefixed prefix.Complement x xs d) rest = refl
no_void (g.SpellsExpression.prefixed prefix.Not x xs d) rest = refl
no_void (g.SpellsExpression.cast t x xs d) rest = refl
no_void (g.SpellsExpression.address word) rest = refl
no_void (g.SpellsExpression.brackets x xs d) rest = refl
no_void (g.SpellsExpression.tighter level x xs d) rest = no_void d rest
no_void (g.SpellsExpression.joined level t o a b xs ys j d f) rest = ap (sees mark.Void) (append_assoc xs (t ∷ ys) rest) ∙ no_void d (t ∷ (ys ++ rest))

record Begins (ts : List Token) : Type 0 where
  no_type : sees_type ts ≡ false
  no_word : sees mark.Void ts ≡ false

begins : {level : ℕ} {x : CExpression} {xs : List Token} → SpellsExpression level x xs → (rest : List Token) → Begins (xs ++ rest)
begins d rest = record { no_type = (front d rest).no_type; no_word = no_void d rest }

begins_result : (r : Option CType) (zs : List Token) → Begins (called r zs) → ⊥
unfolding same_mark
begins_result None zs f = let never : true ≡ false = f.no_word in absurd (cc)
begins_result (Some ty.Char) zs f = let never : true ≡ false = f.no_type in absurd (cc)
begins_result (Some ty.UChar) zs f = let never : true ≡ false = f.no_type in absurd (cc)
begins_result (Some ty.Short) zs f = let never : true ≡ false = f.no_type in absurd (cc)
begins_result (Some ty.UShort) zs f = let never : true ≡ false = f.no_type in absurd (cc)
begins_result (Some ty.Int) zs f = let never : true ≡ false = f.no_type in absurd (cc)
begins_result (Some ty.UInt) zs f = let never : true ≡ false = f.no_type in absurd (cc)
begins_result (Some ty.Pointer) zs f = let never : true ≡ false = f.no_type in absurd (cc)
begins_result (Some ty.FunctionPointer) zs f = let never : true ≡ false = f.no_type in absurd (cc)

tail_of : (ts us : List Token) → token.Mark mark.LeftParen ∷ ts ≡ token.Mark mark.LeftParen ∷ us → ts ≡ us
tail_of ts us e = cc

-- an expression does not begin with a bracket and such a type
no_result : {level : ℕ} {x : CExpression} {xs : List Token} → SpellsExpression level x xs → (rest : List Token) (r : Option CType) (zs : List Token)
    → xs ++ rest ≡ token.Mark mark.LeftParen ∷ called r zs → ⊥
no_result (g.SpellsExpression.number _ _ (c.SpellsConstant.signed ds)) rest r zs e = absurd (cc)
no_result (g.SpellsExpression.number _ _ (c.SpellsConstant.negative ds)) rest r zs e = absurd (cc)
no_result (g.SpellsExpression.number _ _ (c.SpellsConstant.unsigned ds)) rest r zs e = absurd (cc)
no_result (g.SpellsExpression.load _ _ (g.SpellsPlace.name word)) rest r zs e = absurd (cc)
no_result (g.SpellsExpression.load _ _ (g.SpellsPlace.pointed t x xs d)) rest r zs e = absurd (cc)
no_result (g.SpellsExpression.prefixed prefix.Negate x xs d) rest r zs e = absurd (cc)
no_result (g.SpellsExpression.prefixed prefix.Complement x xs d) rest r zs e = absurd (cc)
no_result (g.SpellsExpression.prefixed prefix.Not x xs d) rest r zs e = absurd (cc)
no_result (g.SpellsExpression.cast t x xs d) rest r zs e =
    let inside : ((type_tokens t ++ sign mark.RightParen) ++ xs) ++ rest ≡ called r zs = tail_of (((type_tokens t ++ sign mark.RightParen) ++ xs) ++ rest) (called r zs) e in
    no_type_call t r (xs ++ rest) zs
    (sym (append_assoc (type_tokens t) (sign mark.RightParen) (xs ++ rest)) ∙ sym (append_assoc (type_tokens t ++ sign mark.RightParen) xs rest) ∙ inside)
no_result (g.SpellsExpression.address word) rest r zs e =
    no_type_call ty.Pointer r (token.Mark mark.And ∷ token.Name word ∷ rest) zs
    (tail_of (token.Mark mark.Char ∷ token.Mark mark.Star ∷ token.Mark mark.RightParen ∷ token.Mark mark.And ∷ token.Name word ∷ rest) (called r zs) e)
no_result (g.SpellsExpression.brackets x xs d) rest r zs e =
    let inside : (xs ++ sign mark.RightParen) ++ rest ≡ called r zs = tail_of ((xs ++ sign mark.RightParen) ++ rest) (called r zs) e in
    begins_result r zs (subst Begins (sym (append_assoc xs (sign mark.RightParen) rest) ∙ inside) (begins d (token.Mark mark.RightParen ∷ rest)))
no_result (g.SpellsExpression.tighter level x xs d) rest r zs e = no_result d rest r zs e
no_result (g.SpellsExpression.joined level t o a b xs ys j d f) rest r zs e = no_result d (t ∷ (ys ++ rest)) r zs (sym (append_assoc xs (t ∷ ys) rest) ∙ e)

type_no_bracket : (t : CType) (ys us : List Token) → type_tokens t ++ ys ≡ token.Mark mark.LeftParen ∷ us → ⊥
type_no_bracket ty.Char ys us e = absurd (cc)
type_no_bracket ty.UChar ys us e = absurd (cc)
type_no_bracket ty.Short ys us e = absurd (cc)
type_no_bracket ty.UShort ys us e = absurd (cc)
type_no_bracket ty.Int ys us e = absurd (cc)
type_no_bracket ty.UInt ys us e = absurd (cc)
type_no_bracket ty.Pointer ys us e = absurd (cc)
type_no_bracket ty.FunctionPointer ys us e = absurd (cc)

-- an expression does not begin with two brackets and such a type
pub no_pointer_call : {level : ℕ} {x : CExpression} {xs : List Token} → SpellsExpression level x xs → (rest : List Token) (r : Option CType) (zs : List Token)
    → xs ++ rest ≡ token.Mark mark.LeftParen ∷ token.Mark mark.LeftParen ∷ called r zs → ⊥
no_pointer_call (g.SpellsExpression.number _ _ (c.SpellsConstant.signed ds)) rest r zs e = absurd (cc)
no_pointer_call (g.SpellsExpression.number _ _ (c.SpellsConstant.negative ds)) rest r zs e = absurd (cc)
no_pointer_call (g.SpellsExpression.number _ _ (c.SpellsConstant.unsigned ds)) rest r zs e = absurd (cc)
no_pointer_call (g.SpellsExpression.load _ _ (g.SpellsPlace.name word)) rest r zs e = absurd (cc)
no_pointer_call (g.SpellsExpression.load _ _ (g.SpellsPlace.pointed t x xs d)) rest r zs e = absurd (cc)
no_pointer_call (g.SpellsExpression.prefixed prefix.Negate x xs d) rest r zs e = absurd (cc)
no_pointer_call (g.SpellsExpression.prefixed prefix.Complement x xs d) rest r zs e = absurd (cc)
no_pointer_call (g.SpellsExpression.prefixed prefix.Not x xs d) rest r zs e = absurd (cc)
no_pointer_call (g.SpellsExpression.cast t x xs d) rest r zs e =
    let inside : ((type_tokens t ++ sign mark.RightParen) ++ xs) ++ rest ≡ token.Mark mark.LeftParen ∷ called r zs =
    tail_of (((type_tokens t ++ sign mark.RightParen) ++ xs) ++ rest) (token.Mark mark.LeftParen ∷ called r zs) e in
    type_no_bracket t (token.Mark mark.RightParen ∷ (xs ++ rest)) (called r zs)
    (sym (append_assoc (type_tokens t) (sign mark.RightParen) (xs ++ rest)) ∙ sym (append_assoc (type_tokens t ++ sign mark.RightParen) xs rest) ∙ inside)
no_pointer_call (g.SpellsExpression.address word) rest r zs e = absurd (cc)
no_pointer_call (g.SpellsExpression.brackets x xs d) rest r zs e =
    let inside : (xs ++ sign mark.RightParen) ++ rest ≡ token.Mark mark.LeftParen ∷ called r zs =
    tail_of ((xs ++ sign mark.RightParen) ++ rest) (token.Mark mark.LeftParen ∷ called r zs) e in
    no_result d (token.Mark mark.RightParen ∷ rest) r zs (sym (append_assoc xs (sign mark.RightParen) rest) ∙ inside)
no_pointer_call (g.SpellsExpression.tighter level x xs d) rest r zs e = no_pointer_call d rest r zs e
no_pointer_call (g.SpellsExpression.joined level t o a b xs ys j d f) rest r zs e = no_pointer_call d (t ∷ (ys ++ rest)) r zs (sym (append_assoc xs (t ∷ ys) rest) ∙ e)

-- What statements begin with, and that reading locals decides how they are spelled.
use Rattle.std.proofs.Common.{◌≡◌, ℕ, ◌<◌, true, false, List, [], ◌∷◌, ◌++◌, length, refl, ap, sym, ◌∙◌, subst, arith, append_assoc, length-append}
use Rattle.std.specs.Prelude.{◌||◌}
use Rattle.cc_whole_tokens.specs.declared.mark.Mark.TheVariants as mark
use Rattle.cc_whole_tokens.specs.declared.token.Token.{Token}
use Rattle.cc_whole_tokens.specs.declared.token.Token.TheVariants as token
use Rattle.cc_whole_tokens.specs.Mark.{same_mark}
use Rattle.cc_whole.specs.declared.types.CType.TheVariants as ty
use Rattle.cc_whole.specs.declared.types.CLocalType.{CLocalType}
use Rattle.cc_whole.specs.declared.statement.CLocal.{CLocal}
use Rattle.cc_whole.specs.declared.statement.CStatement.{CStatement}
use Rattle.cc_whole.specs.SpellsTypes.{sign, type_tokens, SpellsLocal}
use Rattle.cc_whole.specs.SpellsTypes as c
use Rattle.cc_whole.specs.Spells.{SpellsPlace, SpellsCallee, SpellsTarget, SpellsLocals, SpellsBody, SpellsStatement}
use Rattle.cc_whole.specs.Spells as g
use Rattle.cc_whole_reading.specs.Parse.{◌>>=◌, pure, sees, expect}
use Rattle.cc_whole_reading.proofs.Decides.{SameFront, Spelling, Follow, any, Decides, decides_as, Done, done, decides_pure}
use Rattle.cc_whole_reading.proofs.Shapes.{Seq, seq, After, after, decides_then}
use Rattle.cc_whole_reading.proofs.Choices.{decides_sign, sees_same}
use Rattle.cc_whole_reading.proofs.Chains.{Many, none, more, decides_all}
use Rattle.cc_whole_reading.proofs.ConstantLaws.{all_kept}
use Rattle.cc_whole_read_types.specs.ReadTypes.{sees_type, one_local}
use Rattle.cc_whole_read_types.proofs.VariableLaws.{IsLocal, no_size, decides_local}
use Rattle.cc_whole_read_body.specs.ReadBody.{local_line, locals}

-- ---- what a statement begins with

pub record Front (ts : List Token) : Type 0 where
  pub no_brace : sees mark.RightBrace ts ≡ false
  pub no_else : sees mark.Else ts ≡ false
  pub no_case : sees mark.Case ts ≡ false
  pub no_default : sees mark.Default ts ≡ false
  pub no_type : sees_type ts ≡ false

front_of_name : (word : List ℕ) (ts : List Token) → Front (token.Name word ∷ ts)
front_of_name word ts = record { no_brace = refl; no_else = refl; no_case = refl; no_default = refl; no_type = refl }

front_of_star : (ts : List Token) → Front (token.Mark mark.Star ∷ ts)
unfolding same_mark
front_of_star ts = record { no_brace = refl; no_else = refl; no_case = refl; no_default = refl; no_type = refl }

front_of_bracket : (ts : List Token) → Front (token.Mark mark.LeftParen ∷ ts)
unfolding same_mark
front_of_bracket ts = record { no_brace = refl; no_else = refl; no_case = refl; no_default = refl; no_type = refl }

pub statement_front : {s : CStatement} {xs : List Token} → SpellsStatement s xs → (rest : List Token) → Front (xs ++ rest)
unfolding same_mark
statement_front (g.SpellsStatement.assign _ _ e xs (g.SpellsPlace.name w) d) rest = front_of_name w _
statement_front (g.SpellsStatement.assign _ _ e xs (g.SpellsPlace.pointed t a ys f) d) rest = front_of_star _
statement_front (g.SpellsStatement.calls _ _ _ _ es xs g.SpellsTarget.none (g.SpellsCallee.name w) a) rest = front_of_name w _
statement_front (g.SpellsStatement.calls _ _ _ _ es xs g.SpellsTarget.none (g.SpellsCallee.pointer s e ys d) a) rest = front_of_bracket _
statement_front (g.SpellsStatement.calls _ _ c cs es xs (g.SpellsTarget.some _ _ (g.SpellsPlace.name w)) s a) rest = front_of_name w _
statement_front (g.SpellsStatement.calls _ _ c cs es xs (g.SpellsTarget.some _ _ (g.SpellsPlace.pointed t e ys d)) s a) rest = front_of_star _
statement_front (g.SpellsStatement.block _ _ (g.SpellsBody.body ls xs all ys d f)) rest = record { no_brace = refl; no_else = refl; no_case = refl; no_default = refl; no_type = refl }
statement_front g.SpellsStatement.leaves rest = record { no_brace = refl; no_else = refl; no_case = refl; no_default = refl; no_type = refl }
statement_front g.SpellsStatement.continues rest = record { no_brace = refl; no_else = refl; no_case = refl; no_default = refl; no_type = refl }
statement_front (g.SpellsStatement.if_only e xs b ys d f) rest = record { no_brace = refl; no_else = refl; no_case = refl; no_default = refl; no_type = refl }
statement_front (g.SpellsStatement.if_else e xs b ys c zs d f h) rest = record { no_brace = refl; no_else = refl; no_case = refl; no_default = refl; no_type = refl }
statement_front (g.SpellsStatement.loops b xs d) rest = record { no_brace = refl; no_else = refl; no_case = refl; no_default = refl; no_type = refl }
statement_front (g.SpellsStatement.switches e xs all ys d s) rest = record { no_brace = refl; no_else = refl; no_case = refl; no_default = refl; no_type = refl }
statement_front g.SpellsStatement.returns rest = record { no_brace = refl; no_else = refl; no_case = refl; no_default = refl; no_type = refl }
statement_front (g.SpellsStatement.gives e xs d) rest = record { no_brace = refl; no_else = refl; no_case = refl; no_default = refl; no_type = refl }

pub statement_some : {s : CStatement} {xs : List Token} → SpellsStatement s xs → 0 < length xs
statement_some (g.SpellsStatement.assign _ _ e xs (g.SpellsPlace.name w) d) = omega arith
statement_some (g.SpellsStatement.assign _ _ e xs (g.SpellsPlace.pointed t a ys f) d) = omega arith
statement_some (g.SpellsStatement.calls _ _ _ _ es xs g.SpellsTarget.none (g.SpellsCallee.name w) a) = omega arith
statement_some (g.SpellsStatement.calls _ _ _ _ es xs g.SpellsTarget.none (g.SpellsCallee.pointer s e ys d) a) = omega arith
statement_some (g.SpellsStatement.calls _ _ c cs es xs (g.SpellsTarget.some _ _ (g.SpellsPlace.name w)) s a) = omega arith
statement_some (g.SpellsStatement.calls _ _ c cs es xs (g.SpellsTarget.some _ _ (g.SpellsPlace.pointed t e ys d)) s a) = omega arith
statement_some (g.SpellsStatement.block _ _ (g.SpellsBody.body ls xs all ys d f)) = omega arith
statement_some g.SpellsStatement.leaves = omega arith
statement_some g.SpellsStatement.continues = omega arith
statement_some (g.SpellsStatement.if_only e xs b ys d f) = omega arith
statement_some (g.SpellsStatement.if_else e xs b ys c zs d f h) = omega arith
statement_some (g.SpellsStatement.loops b xs d) = omega arith
statement_some (g.SpellsStatement.switches e xs all ys d s) = omega arith
statement_some g.SpellsStatement.returns = omega arith
statement_some (g.SpellsStatement.gives e xs d) = omega arith

-- ---- locals

abbrev pub no_type : Follow
no_type ts = sees_type ts ≡ false

abbrev Line : Spelling CLocal
Line = Seq IsLocal (λ l. After mark.Semicolon (Done l))

line_size : (l b : CLocal) (ys rest : List Token) → After mark.Semicolon (Done l) b ys → no_size (ys ++ rest)
unfolding same_mark
line_size l _ _ rest (after b ys u) = refl

decides_line : (n : ℕ) → Decides Line any n (local_line all_kept)
unfolding local_line
decides_line n =
    decides_then IsLocal no_size (λ l. After mark.Semicolon (Done l)) any (λ l b ys rest u f. line_size l b ys rest u) n (one_local all_kept) (λ l. expect mark.Semicolon >>= (λ u. pure l))
    (decides_local n) (λ l xs s. decides_sign mark.Semicolon (Done l) any n (λ u. pure l) (decides_pure any n l))

sees_type_same : (xs ys : List Token) → SameFront xs ys → sees_type xs ≡ sees_type ys
sees_type_same xs ys s =
    ap (λ b. b || (sees mark.Unsigned xs || (sees mark.Short xs || (sees mark.Int xs || sees mark.FunctionPointer xs)))) (sees_same mark.Char xs ys s)
    ∙ ap (λ b. sees mark.Char ys || (b || (sees mark.Short xs || (sees mark.Int xs || sees mark.FunctionPointer xs)))) (sees_same mark.Unsigned xs ys s)
    ∙ ap (λ b. sees mark.Char ys || (sees mark.Unsigned ys || (b || (sees mark.Int xs || sees mark.FunctionPointer xs)))) (sees_same mark.Short xs ys s)
    ∙ ap (λ b. sees mark.Char ys || (sees mark.Unsigned ys || (sees mark.Short ys || (b || sees mark.FunctionPointer xs)))) (sees_same mark.Int xs ys s)
    ∙ ap (λ b. sees mark.Char ys || (sees mark.Unsigned ys || (sees mark.Short ys || (sees mark.Int ys || b)))) (sees_same mark.FunctionPointer xs ys s)

type_there : (t : CLocalType) (word : List ℕ) (xs rest : List Token) → SpellsLocal t word xs → sees_type (xs ++ rest) ≡ true
unfolding same_mark
type_there _ _ _ rest (c.SpellsLocal.scalar ty.Char word) = refl
type_there _ _ _ rest (c.SpellsLocal.scalar ty.UChar word) = refl
type_there _ _ _ rest (c.SpellsLocal.scalar ty.Short word) = refl
type_there _ _ _ rest (c.SpellsLocal.scalar ty.UShort word) = refl
type_there _ _ _ rest (c.SpellsLocal.scalar ty.Int word) = refl
type_there _ _ _ rest (c.SpellsLocal.scalar ty.UInt word) = refl
type_there _ _ _ rest (c.SpellsLocal.scalar ty.Pointer word) = refl
type_there _ _ _ rest (c.SpellsLocal.scalar ty.FunctionPointer word) = refl
type_there _ _ _ rest (c.SpellsLocal.ints size cs word s) = refl

line_type : (l : CLocal) (xs rest : List Token) → Line l xs → sees_type (xs ++ rest) ≡ true
line_type _ _ rest (seq l xs b ys s u) = ap sees_type (append_assoc xs ys rest) ∙ type_there l.ty l.name xs (ys ++ rest) s

line_some : (l : CLocal) (xs : List Token) → Line l xs → 0 < length xs
line_some _ _ (seq l xs _ _ s (after b ys u)) = let lengths = length-append xs (token.Mark mark.Semicolon ∷ ys) in omega (arith, lengths)

lines_of : (all : List CLocal) (xs : List Token) → SpellsLocals all xs → Many Line all xs
lines_of _ _ g.SpellsLocals.none = none
lines_of _ _ (g.SpellsLocals.more t word ts all xs s d) =
    let l : CLocal = record { ty = t; name = word } in
    subst (Many Line (l ∷ all)) (append_assoc ts (sign mark.Semicolon) xs)
    (more l (ts ++ sign mark.Semicolon) all xs (seq l ts l (sign mark.Semicolon) s (after l [] done)) (lines_of all xs d))

put_line : (l : CLocal) (ts : List Token) → IsLocal l ts → (b : CLocal) (ys : List Token) → After mark.Semicolon (Done l) b ys → (all : List CLocal) (xs : List Token) → SpellsLocals all xs
    → SpellsLocals (b ∷ all) ((ts ++ ys) ++ xs)
put_line l ts s _ _ (after _ _ done) all xs d =
    subst (SpellsLocals (l ∷ all)) (sym (append_assoc ts (sign mark.Semicolon) xs)) (g.SpellsLocals.more l.ty l.name ts all xs s d)

of_line : (b : CLocal) (ts : List Token) → Line b ts → (all : List CLocal) (xs : List Token) → SpellsLocals all xs → SpellsLocals (b ∷ all) (ts ++ xs)
of_line _ _ (seq l ts b ys s u) all xs d = put_line l ts s b ys u all xs d

of_lines : (all : List CLocal) (xs : List Token) → Many Line all xs → SpellsLocals all xs
of_lines _ _ none = g.SpellsLocals.none
of_lines _ _ (more l ts all xs s m) = of_line l ts s all xs (of_lines all xs m)

pub decides_locals : (n : ℕ) → Decides SpellsLocals no_type n (locals all_kept)
decides_locals n =
    decides_as (Many Line) SpellsLocals no_type n (locals all_kept) lines_of of_lines
    (decides_all sees_type sees_type_same Line any no_type line_type line_some (λ rest f. f) (λ l xs rest s. tt) (λ rest f. tt) n (local_line all_kept) (λ ts small is. decides_line n ts small))

-- Reading the type of a function decides how such types are spelled.
use Rattle.std.proofs.Common.{◌≡◌, ℕ, false, List, [], ◌∷◌, ◌++◌, Option, refl, ap, ◌∙◌, append_assoc}
use Rattle.cc_whole_tokens.specs.declared.mark.Mark.TheVariants as mark
use Rattle.cc_whole_tokens.specs.declared.token.Token.{Token}
use Rattle.cc_whole_tokens.specs.declared.token.Token.TheVariants as token
use Rattle.cc_whole_tokens.specs.Mark.{same_mark}
use Rattle.cc_whole.specs.declared.types.CType.{CType}
use Rattle.cc_whole.specs.declared.types.CSignature.{CSignature}
use Rattle.cc_whole.specs.SpellsTypes.{type_tokens, types_tokens, signature_tokens}
use Rattle.cc_whole.specs.SpellsTypes as g
use Rattle.cc_whole_reading.specs.Parse.{◌>>=◌, pure, sees, expect}
use Rattle.cc_whole_reading.proofs.Decides.{Spelling, any, Decides, decides_as, Done, done, decides_pure}
use Rattle.cc_whole_reading.proofs.Shapes.{Seq, seq, After, after, Either, one, other, decides_then}
use Rattle.cc_whole_reading.proofs.Choices.{decides_sign}
use Rattle.cc_whole_reading.proofs.Ways.{Apart, decides_sight}
use Rattle.cc_whole_reading.proofs.Chains.{Separated, last, more, decides_separated}
use Rattle.cc_whole_read_types.specs.ReadTypes.{type_name, some_types, types, result_type, parameters_of, signature}
use Rattle.cc_whole_read_types.proofs.TypeLaws.{IsType, is_type, TypeEnds, decides_type, no_type, IsResult, is_result, decides_result}

-- ---- types with commas

pub data IsTypes : List CType → List Token → Type 0 where
  is_types : (ts : List CType) → IsTypes ts (types_tokens ts)

pub record TypesEnd (ts : List Token) : Type 0 where
  pub ends : TypeEnds ts
  pub no_comma : sees mark.Comma ts ≡ false

abbrev TypesShape : Spelling (List CType)
TypesShape = Either (After mark.Void (Done [])) (Separated IsType)

separated_types : (t : CType) (ts : List CType) → Separated IsType (t ∷ ts) (g.some_types t ts)
separated_types t [] = last t (type_tokens t) (is_type t)
separated_types t (u ∷ ts) = more t (type_tokens t) (u ∷ ts) (g.some_types u ts) (is_type t) (separated_types u ts)

data SomeTypes : List CType → List Token → Type 0 where
  some : (t : CType) (ts : List CType) → SomeTypes (t ∷ ts) (g.some_types t ts)

one_more : (t : CType) (ts : List CType) (xs : List Token) → SomeTypes ts xs → SomeTypes (t ∷ ts) (type_tokens t ++ (token.Mark mark.Comma ∷ xs))
one_more t _ _ (some u ts) = some t (u ∷ ts)

some_of : (ts : List CType) (xs : List Token) → Separated IsType ts xs → SomeTypes ts xs
some_of _ _ (last _ _ (is_type t)) = some t []
some_of _ _ (more _ _ ts ys (is_type t) s) = one_more t ts ys (some_of ts ys s)

as_types : (ts : List CType) (xs : List Token) → SomeTypes ts xs → IsTypes ts xs
as_types _ _ (some t ts) = is_types (t ∷ ts)

types_shape : (ts : List CType) (xs : List Token) → IsTypes ts xs → TypesShape ts xs
types_shape _ _ (is_types []) = one _ _ (after _ _ done)
types_shape _ _ (is_types (t ∷ ts)) = other _ _ (separated_types t ts)

of_types : (ts : List CType) (xs : List Token) → TypesShape ts xs → IsTypes ts xs
of_types _ _ (one _ _ (after _ _ done)) = is_types []
of_types ts xs (other _ _ s) = as_types ts xs (some_of ts xs s)

some_first : (ts : List CType) (xs : List Token) → SomeTypes ts xs → (rest : List Token) → sees mark.Void (xs ++ rest) ≡ false
unfolding same_mark
some_first _ _ (some t []) rest = no_type mark.Void refl refl refl refl refl t rest
some_first _ _ (some t (u ∷ ts)) rest =
    ap (sees mark.Void) (append_assoc (type_tokens t) (token.Mark mark.Comma ∷ g.some_types u ts) rest)
    ∙ no_type mark.Void refl refl refl refl refl t (token.Mark mark.Comma ∷ (g.some_types u ts ++ rest))

no_void : Apart mark.Void (Separated IsType) TypesEnd
no_void ts xs rest s f = some_first ts xs (some_of ts xs s) rest

comma_behind : (ts : List Token) → TypeEnds (token.Mark mark.Comma ∷ ts)
unfolding same_mark
comma_behind ts = record { no_star = refl; words = record { no_char = refl; no_short = refl } }

pub decides_types : (n : ℕ) → Decides IsTypes TypesEnd n types
unfolding types some_types
decides_types n =
    decides_as TypesShape IsTypes TypesEnd n types types_shape of_types
    (decides_sight mark.Void (Done []) (Separated IsType) TypesEnd n (pure []) some_types no_void (decides_pure TypesEnd n [])
    (decides_separated IsType TypeEnds TypesEnd comma_behind (λ rest f. f.ends) (λ rest f. f.no_comma) n type_name (decides_type n)))

-- ---- `(type (*)(types))`

pub data IsSignature : CSignature → List Token → Type 0 where
  is_signature : (s : CSignature) → IsSignature s (signature_tokens s)

abbrev Ending : CSignature → Spelling CSignature
Ending s = After mark.RightParen (After mark.RightParen (Done s))

abbrev Parameters : Option CType → Spelling CSignature
Parameters result =
    After mark.LeftParen (After mark.Star (After mark.RightParen (After mark.LeftParen (Seq IsTypes (λ ts. Ending (record { result = result; parameters = ts }))))))

abbrev SignatureShape : Spelling CSignature
SignatureShape = After mark.LeftParen (Seq IsResult Parameters)

close_behind : (s b : CSignature) (ys rest : List Token) → Ending s b ys → any rest → TypesEnd (ys ++ rest)
unfolding same_mark
close_behind s _ _ rest (after b ys u) f = record { ends = record { no_star = refl; words = record { no_char = refl; no_short = refl } }; no_comma = refl }

open_behind : (r : Option CType) (b : CSignature) (ys rest : List Token) → Parameters r b ys → any rest → TypeEnds (ys ++ rest)
unfolding same_mark
open_behind r _ _ rest (after b ys u) f = record { no_star = refl; words = record { no_char = refl; no_short = refl } }

decides_ending : (n : ℕ) (s : CSignature) → Decides (Ending s) any n (expect mark.RightParen >>= (λ u. expect mark.RightParen >>= (λ v. pure s)))
decides_ending n s =
    decides_sign mark.RightParen (After mark.RightParen (Done s)) any n (λ u. expect mark.RightParen >>= (λ v. pure s))
    (decides_sign mark.RightParen (Done s) any n (λ v. pure s) (decides_pure any n s))

decides_parameters : (n : ℕ) (r : Option CType) → Decides (Parameters r) any n (parameters_of r)
unfolding parameters_of
decides_parameters n r =
    decides_sign mark.LeftParen (After mark.Star (After mark.RightParen (After mark.LeftParen (Seq IsTypes (λ ts. Ending (record { result = r; parameters = ts })))))) any n _
    (decides_sign mark.Star (After mark.RightParen (After mark.LeftParen (Seq IsTypes (λ ts. Ending (record { result = r; parameters = ts }))))) any n _
    (decides_sign mark.RightParen (After mark.LeftParen (Seq IsTypes (λ ts. Ending (record { result = r; parameters = ts })))) any n _
    (decides_sign mark.LeftParen (Seq IsTypes (λ ts. Ending (record { result = r; parameters = ts }))) any n _
    (decides_then IsTypes TypesEnd (λ ts. Ending (record { result = r; parameters = ts })) any (λ ts b ys rest u f. close_behind (record { result = r; parameters = ts }) b ys rest u f) n types
    (λ ts. expect mark.RightParen >>= (λ u. expect mark.RightParen >>= (λ v. pure (record { result = r; parameters = ts }))))
    (decides_types n) (λ ts xs s. decides_ending n (record { result = r; parameters = ts }))))))

signature_shape : (s : CSignature) (xs : List Token) → IsSignature s xs → SignatureShape s xs
signature_shape _ _ (is_signature s) =
    after _ _ (seq s.result _ s _ (is_result s.result) (after _ _ (after _ _ (after _ _ (after _ _ (seq s.parameters _ s _ (is_types s.parameters) (after _ _ (after _ _ done))))))))

of_ending : (r : Option CType) (ts : List CType) (xs : List Token) → IsTypes ts xs → (b : CSignature) (ys : List Token) → Ending (record { result = r; parameters = ts }) b ys
    → IsSignature b (token.Mark mark.LeftParen ∷ (g.result_tokens r ++ (token.Mark mark.LeftParen ∷ token.Mark mark.Star ∷ token.Mark mark.RightParen ∷ token.Mark mark.LeftParen ∷ (xs ++ ys))))
of_ending r _ _ (is_types ts) _ _ (after _ _ (after _ _ done)) = is_signature (record { result = r; parameters = ts })

of_parameters : (r : Option CType) (xs : List Token) → IsResult r xs → (b : CSignature) (ys : List Token) → Parameters r b ys → IsSignature b (token.Mark mark.LeftParen ∷ (xs ++ ys))
of_parameters _ _ (is_result r) _ _ (after _ _ (after _ _ (after _ _ (after _ _ (seq ts xs b ys s u))))) =
    of_ending r ts xs s b ys u

of_signature : (s : CSignature) (xs : List Token) → SignatureShape s xs → IsSignature s xs
of_signature _ _ (after _ _ (seq r xs b ys s u)) = of_parameters r xs s b ys u

pub decides_signature : (n : ℕ) → Decides IsSignature any n signature
unfolding signature
decides_signature n =
    decides_as SignatureShape IsSignature any n signature signature_shape of_signature
    (decides_sign mark.LeftParen (Seq IsResult Parameters) any n (λ u. result_type >>= (λ r. parameters_of r))
    (decides_then IsResult TypeEnds Parameters any open_behind n result_type (λ r. parameters_of r) (decides_result n) (λ r xs s. decides_parameters n r)))

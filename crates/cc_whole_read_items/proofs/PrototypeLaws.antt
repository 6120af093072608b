-- Reading a prototype decides how it is spelled.
use Rattle.std.proofs.Common.{◌≡◌, ℕ, Bool, true, false, List, [], ◌∷◌, ◌++◌, Option, Some, None, refl, ap, sym, ◌∙◌, subst, append_assoc}
use Rattle.cc_whole_tokens.specs.declared.mark.Mark.TheVariants as mark
use Rattle.cc_whole_tokens.specs.declared.token.Token.{Token}
use Rattle.cc_whole_tokens.specs.declared.token.Token.TheVariants as token
use Rattle.cc_whole_tokens.specs.Mark.{same_mark}
use Rattle.cc_whole.specs.declared.types.CType.{CType}
use Rattle.cc_whole.specs.declared.unit.CParameter.{CParameter}
use Rattle.cc_whole.specs.declared.unit.CPrototype.{CPrototype}
use Rattle.cc_whole.specs.SpellsTypes.{sign, type_tokens, result_tokens}
use Rattle.cc_whole.specs.SpellsItems.{static_tokens, parameters_tokens, prototype_tokens}
use Rattle.cc_whole.specs.SpellsItems as g
use Rattle.cc_whole_reading.specs.Parse.{◌>>=◌, pure, sees, expect}
use Rattle.cc_whole_reading.proofs.Decides.{Spelling, Follow, any, Decides, decides_as, Done, done, decides_pure}
use Rattle.cc_whole_reading.proofs.Shapes.{Seq, seq, After, after, Named, named, Either, one, other, decides_then}
use Rattle.cc_whole_reading.proofs.Choices.{decides_sign, decides_word}
use Rattle.cc_whole_reading.proofs.Ways.{Apart, decides_sight, apart_done}
use Rattle.cc_whole_reading.proofs.Chains.{Separated, last, more, decides_separated}
use Rattle.cc_whole_read_types.specs.ReadTypes.{type_name, result_type}
use Rattle.cc_whole_read_types.proofs.TypeLaws.{IsType, is_type, TypeEnds, decides_type, no_type, IsResult, is_result, decides_result}
use Rattle.cc_whole_read_items.specs.ReadItems.{static_word, parameter_named, parameter, some_parameters, parameters, prototype_of, prototype_named, prototype_behind, prototype}

-- ---- `static`

pub data IsStatic : Bool → List Token → Type 0 where
  is_static : (b : Bool) → IsStatic b (static_tokens b)

abbrev pub no_static : Follow
no_static ts = sees mark.Static ts ≡ false

static_shape : (b : Bool) (xs : List Token) → IsStatic b xs → Either (After mark.Static (Done true)) (Done false) b xs
static_shape _ _ (is_static true) = one _ _ (after _ _ done)
static_shape _ _ (is_static false) = other _ _ done

of_static : (b : Bool) (xs : List Token) → Either (After mark.Static (Done true)) (Done false) b xs → IsStatic b xs
of_static _ _ (one _ _ (after _ _ done)) = is_static true
of_static _ _ (other _ _ done) = is_static false

pub decides_static : (n : ℕ) → Decides IsStatic no_static n static_word
unfolding static_word
decides_static n =
    decides_as (Either (After mark.Static (Done true)) (Done false)) IsStatic no_static n static_word static_shape of_static
    (decides_sight mark.Static (Done true) (Done false) no_static n (pure true) (pure false) (apart_done mark.Static false no_static (λ rest f. f))
    (decides_pure no_static n true) (decides_pure no_static n false))

-- ---- parameters

abbrev parameter_of : CType → List ℕ → CParameter
parameter_of t word = record { ty = t; name = word }

abbrev ParameterShape : Spelling CParameter
ParameterShape = Seq IsType (λ t. Named (λ word. Done (parameter_of t word)))

name_ends : (t : CType) (b : CParameter) (ys rest : List Token) → Named (λ word. Done (parameter_of t word)) b ys → TypeEnds (ys ++ rest)
name_ends t _ _ rest (named word b ys u) = record { no_star = refl; words = record { no_char = refl; no_short = refl } }

decides_parameter : (n : ℕ) → Decides ParameterShape any n parameter
unfolding parameter parameter_named
decides_parameter n =
    decides_then IsType TypeEnds (λ t. Named (λ word. Done (parameter_of t word))) any (λ t b ys rest u f. name_ends t b ys rest u) n type_name parameter_named (decides_type n)
    (λ t xs s. decides_word (λ word. Done (parameter_of t word)) any n (λ word. pure (parameter_of t word)) (λ word. decides_pure any n (parameter_of t word)))

pub data IsParameters : List CParameter → List Token → Type 0 where
  is_parameters : (ps : List CParameter) → IsParameters ps (parameters_tokens ps)

abbrev pub no_comma : Follow
no_comma ts = sees mark.Comma ts ≡ false

data SomeParameters : List CParameter → List Token → Type 0 where
  some : (p : CParameter) (ps : List CParameter) → SomeParameters (p ∷ ps) (g.some_parameters p ps)

one_parameter : (p : CParameter) → ParameterShape p (type_tokens p.ty ++ (token.Name p.name ∷ []))
one_parameter p = seq p.ty (type_tokens p.ty) p (token.Name p.name ∷ []) (is_type p.ty) (named p.name p [] done)

separated_parameters : (p : CParameter) (ps : List CParameter) → Separated ParameterShape (p ∷ ps) (g.some_parameters p ps)
separated_parameters p [] = last p (type_tokens p.ty ++ (token.Name p.name ∷ [])) (one_parameter p)
separated_parameters p (q ∷ ps) =
    subst (Separated ParameterShape (p ∷ q ∷ ps)) (append_assoc (type_tokens p.ty) (token.Name p.name ∷ []) (token.Mark mark.Comma ∷ g.some_parameters q ps))
    (more p (type_tokens p.ty ++ (token.Name p.name ∷ [])) (q ∷ ps) (g.some_parameters q ps) (one_parameter p) (separated_parameters q ps))

data OneParameter : CParameter → List Token → Type 0 where
  only : (p : CParameter) → OneParameter p (type_tokens p.ty ++ (token.Name p.name ∷ []))

typed_parameter : (t : CType) (b : CParameter) (ys : List Token) → Named (λ word. Done (parameter_of t word)) b ys → OneParameter b (type_tokens t ++ ys)
typed_parameter t _ _ (named word _ _ done) = only (parameter_of t word)

of_parameter : (b : CParameter) (xs : List Token) → ParameterShape b xs → OneParameter b xs
of_parameter _ _ (seq _ _ b ys (is_type t) u) = typed_parameter t b ys u

first_some : (p : CParameter) (xs : List Token) → OneParameter p xs → SomeParameters (p ∷ []) xs
first_some _ _ (only p) = some p []

more_some : (p : CParameter) (xs : List Token) → OneParameter p xs → (ps : List CParameter) (ys : List Token) → SomeParameters ps ys → SomeParameters (p ∷ ps) (xs ++ (token.Mark mark.Comma ∷ ys))
more_some _ _ (only p) _ _ (some q ps) =
    subst (SomeParameters (p ∷ q ∷ ps)) (sym (append_assoc (type_tokens p.ty) (token.Name p.name ∷ []) (token.Mark mark.Comma ∷ g.some_parameters q ps))) (some p (q ∷ ps))

some_of : (ps : List CParameter) (xs : List Token) → Separated ParameterShape ps xs → SomeParameters ps xs
some_of _ _ (last p xs s) = first_some p xs (of_parameter p xs s)
some_of _ _ (more p xs ps ys s m) = more_some p xs (of_parameter p xs s) ps ys (some_of ps ys m)

as_parameters : (ps : List CParameter) (xs : List Token) → SomeParameters ps xs → IsParameters ps xs
as_parameters _ _ (some p ps) = is_parameters (p ∷ ps)

some_first : (ps : List CParameter) (xs : List Token) → SomeParameters ps xs → (rest : List Token) → sees mark.Void (xs ++ rest) ≡ false
unfolding same_mark
some_first _ _ (some p []) rest = ap (sees mark.Void) (append_assoc (type_tokens p.ty) (token.Name p.name ∷ []) rest) ∙ no_type mark.Void refl refl refl refl refl p.ty (token.Name p.name ∷ rest)
some_first _ _ (some p (q ∷ ps)) rest =
    ap (sees mark.Void) (append_assoc (type_tokens p.ty) (token.Name p.name ∷ token.Mark mark.Comma ∷ g.some_parameters q ps) rest)
    ∙ no_type mark.Void refl refl refl refl refl p.ty (token.Name p.name ∷ token.Mark mark.Comma ∷ (g.some_parameters q ps ++ rest))

no_void : Apart mark.Void (Separated ParameterShape) no_comma
no_void ps xs rest s f = some_first ps xs (some_of ps xs s) rest

parameters_shape : (ps : List CParameter) (xs : List Token) → IsParameters ps xs → Either (After mark.Void (Done [])) (Separated ParameterShape) ps xs
parameters_shape _ _ (is_parameters []) = one _ _ (after _ _ done)
parameters_shape _ _ (is_parameters (p ∷ ps)) = other _ _ (separated_parameters p ps)

of_parameters : (ps : List CParameter) (xs : List Token) → Either (After mark.Void (Done [])) (Separated ParameterShape) ps xs → IsParameters ps xs
of_parameters _ _ (one _ _ (after _ _ done)) = is_parameters []
of_parameters ps xs (other _ _ s) = as_parameters ps xs (some_of ps xs s)

decides_parameters : (n : ℕ) → Decides IsParameters no_comma n parameters
unfolding parameters some_parameters
decides_parameters n =
    decides_as (Either (After mark.Void (Done [])) (Separated ParameterShape)) IsParameters no_comma n parameters parameters_shape of_parameters
    (decides_sight mark.Void (Done []) (Separated ParameterShape) no_comma n (pure []) some_parameters no_void (decides_pure no_comma n [])
    (decides_separated ParameterShape any no_comma (λ ts. tt) (λ rest f. tt) (λ rest f. f) n parameter (decides_parameter n)))

-- ---- prototypes

pub data IsPrototype : CPrototype → List Token → Type 0 where
  is_prototype : (p : CPrototype) → IsPrototype p (prototype_tokens p)

abbrev prototype_made : Bool → Option CType → List ℕ → List CParameter → CPrototype
prototype_made s r word ps = record { is_static = s; result = r; name = word; parameters = ps }

abbrev PrototypeEnd : Bool → Option CType → List ℕ → List CParameter → Spelling CPrototype
PrototypeEnd s r word ps = After mark.RightParen (Done (prototype_made s r word ps))

abbrev PrototypeTail : Bool → Option CType → List ℕ → Spelling CPrototype
PrototypeTail s r word = After mark.LeftParen (Seq IsParameters (PrototypeEnd s r word))

abbrev ResultTail : Bool → Option CType → Spelling CPrototype
ResultTail s r = Named (PrototypeTail s r)

abbrev StaticTail : Bool → Spelling CPrototype
StaticTail s = Seq IsResult (ResultTail s)

close_comma : (s : Bool) (r : Option CType) (word : List ℕ) (ps : List CParameter) (b : CPrototype) (ys rest : List Token) → PrototypeEnd s r word ps b ys → no_comma (ys ++ rest)
unfolding same_mark
close_comma s r word ps _ _ rest (after b ys u) = refl

word_ends : (s : Bool) (r : Option CType) (b : CPrototype) (ys rest : List Token) → ResultTail s r b ys → TypeEnds (ys ++ rest)
word_ends s r _ _ rest (named word b ys u) = record { no_star = refl; words = record { no_char = refl; no_short = refl } }

pub result_no_static : (r : Option CType) (xs rest : List Token) → IsResult r xs → no_static (xs ++ rest)
unfolding same_mark
result_no_static _ _ rest (is_result None) = refl
result_no_static _ _ rest (is_result (Some t)) = no_type mark.Static refl refl refl refl refl t rest

tail_no_static : (s : Bool) (b : CPrototype) (ys rest : List Token) → StaticTail s b ys → no_static (ys ++ rest)
tail_no_static s _ _ rest (seq r xs b ys i u) = ap (sees mark.Static) (append_assoc xs ys rest) ∙ result_no_static r xs (ys ++ rest) i

decides_tail : (n : ℕ) (s : Bool) (r : Option CType) (word : List ℕ) → Decides (PrototypeTail s r word) any n (prototype_of s r word)
unfolding prototype_of
decides_tail n s r word =
    decides_sign mark.LeftParen (Seq IsParameters (PrototypeEnd s r word)) any n _
    (decides_then IsParameters no_comma (PrototypeEnd s r word) any (λ ps b ys rest u f. close_comma s r word ps b ys rest u) n parameters
    (λ ps. expect mark.RightParen >>= (λ u. pure (prototype_made s r word ps))) (decides_parameters n)
    (λ ps xs i. decides_sign mark.RightParen (Done (prototype_made s r word ps)) any n (λ u. pure (prototype_made s r word ps)) (decides_pure any n (prototype_made s r word ps))))

prototype_shape : (p : CPrototype) (xs : List Token) → IsPrototype p xs → Seq IsStatic StaticTail p xs
prototype_shape _ _ (is_prototype p) =
    seq p.is_static (static_tokens p.is_static) p _ (is_static p.is_static) (seq p.result (result_tokens p.result) p _ (is_result p.result)
    (named p.name p _ (after _ _ (seq p.parameters (parameters_tokens p.parameters) p (sign mark.RightParen) (is_parameters p.parameters) (after _ _ done)))))

of_end : (s : Bool) (r : Option CType) (word : List ℕ) (ps : List CParameter) (zs : List Token) → IsParameters ps zs → (b : CPrototype) (ys : List Token) → PrototypeEnd s r word ps b ys
    → IsPrototype b (static_tokens s ++ (result_tokens r ++ (token.Name word ∷ token.Mark mark.LeftParen ∷ (zs ++ ys))))
of_end s r word _ _ (is_parameters ps) _ _ (after _ _ done) = is_prototype (prototype_made s r word ps)

of_result : (s : Bool) (r : Option CType) (xs : List Token) → IsResult r xs → (b : CPrototype) (ys : List Token) → ResultTail s r b ys → IsPrototype b (static_tokens s ++ (xs ++ ys))
of_result s _ _ (is_result r) _ _ (named word _ _ (after _ _ (seq ps zs b ys i u))) = of_end s r word ps zs i b ys u

of_tail : (s : Bool) (ts : List Token) → IsStatic s ts → (b : CPrototype) (ys : List Token) → StaticTail s b ys → IsPrototype b (ts ++ ys)
of_tail _ _ (is_static s) _ _ (seq r xs b ys i u) = of_result s r xs i b ys u

of_prototype : (p : CPrototype) (xs : List Token) → Seq IsStatic StaticTail p xs → IsPrototype p xs
of_prototype _ _ (seq s ts b ys i u) = of_tail s ts i b ys u

pub decides_prototype : (n : ℕ) → Decides IsPrototype any n prototype
unfolding prototype prototype_behind prototype_named
decides_prototype n =
    decides_as (Seq IsStatic StaticTail) IsPrototype any n prototype prototype_shape of_prototype
    (decides_then IsStatic no_static StaticTail any (λ s b ys rest u f. tail_no_static s b ys rest u) n static_word (λ s. prototype_behind s) (decides_static n)
    (λ s ts i. decides_then IsResult TypeEnds (ResultTail s) any (λ r b ys rest u f. word_ends s r b ys rest u) n result_type (λ r. prototype_named s r) (decides_result n)
    (λ r xs j. decides_word (PrototypeTail s r) any n (λ word. prototype_of s r word) (λ word. decides_tail n s r word))))

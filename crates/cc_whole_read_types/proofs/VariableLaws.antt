-- Reading a local or a variable decides how it is spelled.
use Rattle.std.specs.Prelude.{if◌then◌else◌}
use Rattle.std.proofs.Common.{◌≡◌, ℕ, false, List, [], ◌∷◌, ◌++◌, refl}
use Rattle.cc_whole_tokens.specs.declared.mark.Mark.TheVariants as mark
use Rattle.cc_whole_tokens.specs.declared.token.Token.{Token}
use Rattle.cc_whole_tokens.specs.declared.token.Token.TheVariants as token
use Rattle.cc_whole_tokens.specs.Mark.{same_mark}
use Rattle.cc_whole.specs.declared.types.CType.{CType}
use Rattle.cc_whole.specs.declared.types.CType.TheVariants as ty
use Rattle.cc_whole.specs.declared.types.CConstant.{CConstant}
use Rattle.cc_whole.specs.declared.types.CVariableType.{CVariableType}
use Rattle.cc_whole.specs.declared.types.CVariableType.TheVariants as variable
use Rattle.cc_whole.specs.declared.types.CLocalType.{CLocalType}
use Rattle.cc_whole.specs.declared.types.CLocalType.TheVariants as «local»
use Rattle.cc_whole.specs.declared.statement.CLocal.{CLocal}
use Rattle.cc_whole.specs.SpellsTypes.{sign, type_tokens, SpellsConstant, SpellsLocal, SpellsVariable}
use Rattle.cc_whole.specs.SpellsTypes as g
use Rattle.cc_whole_reading.specs.Parse.{◌>>=◌, pure, past, sees, expect, name}
use Rattle.cc_whole_reading.specs.Constants.{keeps, constant}
use Rattle.cc_whole_reading.specs.declared.constants.Constants.{Constants}
use Rattle.cc_whole_reading.proofs.Decides.{Spelling, Follow, any, Decides, decides_as, decides_follow, Done, done, decides_pure}
use Rattle.cc_whole_reading.proofs.Shapes.{Seq, seq, After, after, Named, named, Made, made, Either, one, other, decides_then, decides_made}
use Rattle.cc_whole_reading.proofs.Choices.{decides_sign, decides_word}
use Rattle.cc_whole_reading.proofs.Ways.{decides_sight, apart_done, apart_seq}
use Rattle.cc_whole_reading.proofs.ConstantLaws.{all_kept, decides_constant}
use Rattle.cc_whole_reading.proofs.Alike.{Alike, AsTheyStand, alike_then, alike_next, alike_pure, alike_itself, alike_if, alike_past, alike_sight, alike_made, alike_constant}
use Rattle.cc_whole_read_types.specs.ReadTypes.{array_of, type_name, size, ints, local_of, local_named, one_local, array, variable_of, variable_named, variable_typed, pairs, one_variable}
use Rattle.cc_whole_read_types.specs.declared.variable.Declared.{Declared}
use Rattle.cc_whole_read_types.proofs.TypeLaws.{IsType, is_type, TypeEnds, decides_type, no_type}

-- no number of elements follows
abbrev pub no_size : Follow
no_size ts = sees mark.LeftBracket ts ≡ false

-- ---- the number of elements

data IsSize : CConstant → List Token → Type 0 where
  is_size : (c : CConstant) (cs : List Token) → SpellsConstant c cs → IsSize c (cs ++ sign mark.RightBracket)

size_shape : (c : CConstant) (xs : List Token) → IsSize c xs → Seq SpellsConstant (λ d. After mark.RightBracket (Done d)) c xs
size_shape _ _ (is_size c cs s) = seq c cs c (sign mark.RightBracket) s (after c [] done)

of_size : (c : CConstant) (xs : List Token) → Seq SpellsConstant (λ d. After mark.RightBracket (Done d)) c xs → IsSize c xs
of_size _ _ (seq c cs _ _ s (after _ _ done)) = is_size c cs s

decides_size : (n : ℕ) → Decides IsSize any n (size all_kept)
unfolding size
decides_size n =
    decides_as (Seq SpellsConstant (λ d. After mark.RightBracket (Done d))) IsSize any n (size all_kept) size_shape of_size
    (decides_then SpellsConstant any (λ d. After mark.RightBracket (Done d)) any (λ c b ys rest u f. tt) n (constant all_kept) (λ c. expect mark.RightBracket >>= (λ u. pure c))
    (decides_constant n) (λ c cs s. decides_sign mark.RightBracket (Done c) any n (λ u. pure c) (decides_pure any n c)))

name_behind : {B : Type 0} (U : List ℕ → Spelling B) (b : B) (ys rest : List Token) → Named U b ys → TypeEnds (ys ++ rest)
name_behind U _ _ rest (named word b ys u) = record { no_star = refl; words = record { no_char = refl; no_short = refl } }

-- ---- locals

abbrev pub IsLocal : Spelling CLocal
IsLocal l xs = SpellsLocal l.ty l.name xs

abbrev scalar_local : CType → List ℕ → CLocal
scalar_local t word = record { ty = «local».Scalar t; name = word }

abbrev ints_local : List ℕ → CConstant → CLocal
ints_local word c = record { ty = «local».Ints c; name = word }

abbrev LocalTail : CType → List ℕ → Spelling CLocal
LocalTail ty.Int word = Either (After mark.LeftBracket (Made (ints_local word) IsSize)) (Done (scalar_local ty.Int word))
LocalTail t word = Done (scalar_local t word)

abbrev LocalShape : Spelling CLocal
LocalShape = Seq IsType (λ t. Named (λ word. LocalTail t word))

decides_ints : (n : ℕ) (word : List ℕ) → Decides (Made (ints_local word) IsSize) any n (ints all_kept word)
unfolding ints
decides_ints n word = decides_made (ints_local word) IsSize any n (size all_kept) (decides_size n)

decides_local_of : (n : ℕ) (t : CType) (word : List ℕ) → Decides (LocalTail t word) no_size n (local_of all_kept t word)
unfolding local_of
decides_local_of n ty.Int word =
    decides_sight mark.LeftBracket (Made (ints_local word) IsSize) (Done (scalar_local ty.Int word)) no_size n (ints all_kept word) (pure (scalar_local ty.Int word))
    (apart_done mark.LeftBracket (scalar_local ty.Int word) no_size (λ rest f. f))
    (decides_follow (Made (ints_local word) IsSize) any no_size n (ints all_kept word) (λ ts f. tt) (decides_ints n word)) (decides_pure no_size n (scalar_local ty.Int word))
decides_local_of n ty.Char word = decides_pure no_size n (scalar_local ty.Char word)
decides_local_of n ty.UChar word = decides_pure no_size n (scalar_local ty.UChar word)
decides_local_of n ty.Short word = decides_pure no_size n (scalar_local ty.Short word)
decides_local_of n ty.UShort word = decides_pure no_size n (scalar_local ty.UShort word)
decides_local_of n ty.UInt word = decides_pure no_size n (scalar_local ty.UInt word)
decides_local_of n ty.Pointer word = decides_pure no_size n (scalar_local ty.Pointer word)
decides_local_of n ty.FunctionPointer word = decides_pure no_size n (scalar_local ty.FunctionPointer word)

no_tail : (t : CType) (word : List ℕ) → LocalTail t word (scalar_local t word) []
no_tail ty.Int word = other _ _ done
no_tail ty.Char word = done
no_tail ty.UChar word = done
no_tail ty.Short word = done
no_tail ty.UShort word = done
no_tail ty.UInt word = done
no_tail ty.Pointer word = done
no_tail ty.FunctionPointer word = done

local_at : (t : CLocalType) (word : List ℕ) (xs : List Token) → SpellsLocal t word xs → LocalShape (record { ty = t; name = word }) xs
local_at _ _ _ (g.SpellsLocal.scalar t word) = seq t (type_tokens t) (scalar_local t word) (token.Name word ∷ []) (is_type t) (named word (scalar_local t word) [] (no_tail t word))
local_at _ _ _ (g.SpellsLocal.ints c cs word s) =
    let size = cs ++ sign mark.RightBracket in
    seq ty.Int (sign mark.Int) (ints_local word c) (token.Name word ∷ token.Mark mark.LeftBracket ∷ size) (is_type ty.Int)
    (named word (ints_local word c) (token.Mark mark.LeftBracket ∷ size) (one _ _ (after _ _ (made c size (is_size c cs s)))))

of_tail : (t : CType) (word : List ℕ) (b : CLocal) (zs : List Token) → LocalTail t word b zs → IsLocal b (type_tokens t ++ (token.Name word ∷ zs))
of_tail ty.Int word _ _ (one _ _ (after _ _ (made _ _ (is_size c cs s)))) = g.SpellsLocal.ints c cs word s
of_tail ty.Int word _ _ (other _ _ done) = g.SpellsLocal.scalar ty.Int word
of_tail ty.Char word _ _ done = g.SpellsLocal.scalar ty.Char word
of_tail ty.UChar word _ _ done = g.SpellsLocal.scalar ty.UChar word
of_tail ty.Short word _ _ done = g.SpellsLocal.scalar ty.Short word
of_tail ty.UShort word _ _ done = g.SpellsLocal.scalar ty.UShort word
of_tail ty.UInt word _ _ done = g.SpellsLocal.scalar ty.UInt word
of_tail ty.Pointer word _ _ done = g.SpellsLocal.scalar ty.Pointer word
of_tail ty.FunctionPointer word _ _ done = g.SpellsLocal.scalar ty.FunctionPointer word

of_local : (b : CLocal) (xs : List Token) → LocalShape b xs → IsLocal b xs
of_local _ _ (seq _ _ _ _ (is_type t) (named word b zs u)) = of_tail t word b zs u

pub decides_local : (n : ℕ) → Decides IsLocal no_size n (one_local all_kept)
unfolding one_local local_named
decides_local n =
    decides_as LocalShape IsLocal no_size n (one_local all_kept) (λ l xs s. local_at l.ty l.name xs s) of_local
    (decides_then IsType TypeEnds (λ t. Named (λ word. LocalTail t word)) no_size (λ t b ys rest u f. name_behind (λ word. LocalTail t word) b ys rest u) n type_name (local_named all_kept)
    (decides_type n) (λ t xs s. decides_word (λ word. LocalTail t word) no_size n (λ word. local_of all_kept t word) (λ word. decides_local_of n t word)))

-- ---- variables

abbrev pub IsVariable : Spelling Declared
IsVariable d xs = SpellsVariable d.ty d.name xs

abbrev declared : CVariableType → List ℕ → Declared
declared t word = record { ty = t; name = word }

abbrev VariableTail : CType → List ℕ → Spelling Declared
VariableTail ty.Int word = Either (After mark.LeftBracket (Made (λ c. declared (variable.Ints c) word) IsSize)) (Done (declared (variable.Scalar ty.Int) word))
VariableTail ty.Char word = Either (After mark.LeftBracket (Made (λ c. declared (variable.Chars c) word) IsSize)) (Done (declared (variable.Scalar ty.Char) word))
VariableTail t word = Done (declared (variable.Scalar t) word)

abbrev TypedShape : Spelling Declared
TypedShape = Seq IsType (λ t. Named (λ word. VariableTail t word))

abbrev PairsShape : Spelling Declared
PairsShape = After mark.Pair (Named (λ word. After mark.LeftBracket (Made (λ c. declared (variable.Pairs c) word) IsSize)))

abbrev VariableShape : Spelling Declared
VariableShape = Either (After mark.Struct PairsShape) TypedShape

module _ (n : ℕ) (t : CType) (word : List ℕ) where
  abbrev Array : Spelling Declared
  Array = Made (λ c. declared (array_of t c) word) IsSize

  decides_array : Decides Array no_size n (array all_kept t word)
  unfolding array
  decides_array = decides_follow Array any no_size n (array all_kept t word) (λ ts f. tt) (decides_made (λ c. declared (array_of t c) word) IsSize any n (size all_kept) (decides_size n))

  decides_sized : Decides (Either (After mark.LeftBracket Array) (Done (declared (variable.Scalar t) word))) no_size n
      (λ ts. if sees mark.LeftBracket ts then past (array all_kept t word) ts else pure (declared (variable.Scalar t) word) ts)
  decides_sized =
      decides_sight mark.LeftBracket Array (Done (declared (variable.Scalar t) word)) no_size n (array all_kept t word) (pure (declared (variable.Scalar t) word))
      (apart_done mark.LeftBracket (declared (variable.Scalar t) word) no_size (λ rest f. f)) decides_array (decides_pure no_size n (declared (variable.Scalar t) word))

decides_variable_of : (n : ℕ) (t : CType) (word : List ℕ) → Decides (VariableTail t word) no_size n (variable_of all_kept t word)
unfolding variable_of
decides_variable_of n ty.Int word = decides_sized n ty.Int word
decides_variable_of n ty.Char word = decides_sized n ty.Char word
decides_variable_of n ty.UChar word = decides_pure no_size n (declared (variable.Scalar ty.UChar) word)
decides_variable_of n ty.Short word = decides_pure no_size n (declared (variable.Scalar ty.Short) word)
decides_variable_of n ty.UShort word = decides_pure no_size n (declared (variable.Scalar ty.UShort) word)
decides_variable_of n ty.UInt word = decides_pure no_size n (declared (variable.Scalar ty.UInt) word)
decides_variable_of n ty.Pointer word = decides_pure no_size n (declared (variable.Scalar ty.Pointer) word)
decides_variable_of n ty.FunctionPointer word = decides_pure no_size n (declared (variable.Scalar ty.FunctionPointer) word)

no_variable_tail : (t : CType) (word : List ℕ) → VariableTail t word (declared (variable.Scalar t) word) []
no_variable_tail ty.Int word = other _ _ done
no_variable_tail ty.Char word = other _ _ done
no_variable_tail ty.UChar word = done
no_variable_tail ty.Short word = done
no_variable_tail ty.UShort word = done
no_variable_tail ty.UInt word = done
no_variable_tail ty.Pointer word = done
no_variable_tail ty.FunctionPointer word = done

variable_at : (t : CVariableType) (word : List ℕ) (xs : List Token) → SpellsVariable t word xs → VariableShape (declared t word) xs
variable_at _ _ _ (g.SpellsVariable.scalar t word) =
    other _ _ (seq t (type_tokens t) (declared (variable.Scalar t) word) (token.Name word ∷ []) (is_type t) (named word (declared (variable.Scalar t) word) [] (no_variable_tail t word)))
variable_at _ _ _ (g.SpellsVariable.ints c cs word s) =
    let size = cs ++ sign mark.RightBracket in
    other _ _ (seq ty.Int (sign mark.Int) (declared (variable.Ints c) word) (token.Name word ∷ token.Mark mark.LeftBracket ∷ size) (is_type ty.Int)
    (named word (declared (variable.Ints c) word) (token.Mark mark.LeftBracket ∷ size) (one _ _ (after _ _ (made c size (is_size c cs s))))))
variable_at _ _ _ (g.SpellsVariable.chars c cs word s) =
    let size = cs ++ sign mark.RightBracket in
    other _ _ (seq ty.Char (sign mark.Char) (declared (variable.Chars c) word) (token.Name word ∷ token.Mark mark.LeftBracket ∷ size) (is_type ty.Char)
    (named word (declared (variable.Chars c) word) (token.Mark mark.LeftBracket ∷ size) (one _ _ (after _ _ (made c size (is_size c cs s))))))
variable_at _ _ _ (g.SpellsVariable.pairs c cs word s) =
    one _ _ (after _ _ (after _ _ (named word _ _ (after _ _ (made c (cs ++ sign mark.RightBracket) (is_size c cs s))))))

of_variable_tail : (t : CType) (word : List ℕ) (b : Declared) (zs : List Token) → VariableTail t word b zs → IsVariable b (type_tokens t ++ (token.Name word ∷ zs))
of_variable_tail ty.Int word _ _ (one _ _ (after _ _ (made _ _ (is_size c cs s)))) = g.SpellsVariable.ints c cs word s
of_variable_tail ty.Int word _ _ (other _ _ done) = g.SpellsVariable.scalar ty.Int word
of_variable_tail ty.Char word _ _ (one _ _ (after _ _ (made _ _ (is_size c cs s)))) = g.SpellsVariable.chars c cs word s
of_variable_tail ty.Char word _ _ (other _ _ done) = g.SpellsVariable.scalar ty.Char word
of_variable_tail ty.UChar word _ _ done = g.SpellsVariable.scalar ty.UChar word
of_variable_tail ty.Short word _ _ done = g.SpellsVariable.scalar ty.Short word
of_variable_tail ty.UShort word _ _ done = g.SpellsVariable.scalar ty.UShort word
of_variable_tail ty.UInt word _ _ done = g.SpellsVariable.scalar ty.UInt word
of_variable_tail ty.Pointer word _ _ done = g.SpellsVariable.scalar ty.Pointer word
of_variable_tail ty.FunctionPointer word _ _ done = g.SpellsVariable.scalar ty.FunctionPointer word

of_pairs : (word : List ℕ) (b : Declared) (zs : List Token) → Made (λ c. declared (variable.Pairs c) word) IsSize b zs
    → IsVariable b (token.Mark mark.Struct ∷ token.Mark mark.Pair ∷ token.Name word ∷ token.Mark mark.LeftBracket ∷ zs)
of_pairs word _ _ (made _ _ (is_size c cs s)) = g.SpellsVariable.pairs c cs word s

of_variable : (b : Declared) (xs : List Token) → VariableShape b xs → IsVariable b xs
of_variable _ _ (one _ _ (after _ _ (after _ _ (named word _ _ (after b zs u))))) = of_pairs word b zs u
of_variable _ _ (other _ _ (seq _ _ _ _ (is_type t) (named word b zs u))) = of_variable_tail t word b zs u

decides_pairs : (n : ℕ) → Decides PairsShape any n (pairs all_kept)
unfolding pairs
decides_pairs n =
    decides_sign mark.Pair (Named (λ word. After mark.LeftBracket (Made (λ c. declared (variable.Pairs c) word) IsSize))) any n _
    (decides_word (λ word. After mark.LeftBracket (Made (λ c. declared (variable.Pairs c) word) IsSize)) any n _ (λ word.
    decides_sign mark.LeftBracket (Made (λ c. declared (variable.Pairs c) word) IsSize) any n (λ u. size all_kept >>= (λ c. pure (declared (variable.Pairs c) word)))
    (decides_made (λ c. declared (variable.Pairs c) word) IsSize any n (size all_kept) (decides_size n))))

decides_typed : (n : ℕ) → Decides TypedShape no_size n (variable_typed all_kept)
unfolding variable_typed variable_named
decides_typed n =
    decides_then IsType TypeEnds (λ t. Named (λ word. VariableTail t word)) no_size (λ t b ys rest u f. name_behind (λ word. VariableTail t word) b ys rest u) n type_name (variable_named all_kept)
    (decides_type n) (λ t xs s. decides_word (λ word. VariableTail t word) no_size n (λ word. variable_of all_kept t word) (λ word. decides_variable_of n t word))

no_struct : (t : CType) (xs rest : List Token) → IsType t xs → sees mark.Struct (xs ++ rest) ≡ false
unfolding same_mark
no_struct _ _ rest (is_type t) = no_type mark.Struct refl refl refl refl refl t rest

pub decides_variable : (n : ℕ) → Decides IsVariable no_size n (one_variable all_kept)
unfolding one_variable
decides_variable n =
    decides_as VariableShape IsVariable no_size n (one_variable all_kept) (λ d xs s. variable_at d.ty d.name xs s) of_variable
    (decides_sight mark.Struct PairsShape TypedShape no_size n (pairs all_kept) (variable_typed all_kept)
    (apart_seq mark.Struct IsType (λ t. Named (λ word. VariableTail t word)) no_size no_struct)
    (decides_follow PairsShape any no_size n (pairs all_kept) (λ ts f. tt) (decides_pairs n)) (decides_typed n))

-- ---- some constants, and all

module _ (wanted : Constants) where
  abbrev E : Type 0
  E = AsTheyStand wanted

  alike_size : Alike E (size (keeps wanted)) (size all_kept)
  unfolding size
  alike_size =
      alike_then E (constant (keeps wanted)) (constant all_kept) (λ c. expect mark.RightBracket >>= (λ u. pure c)) (λ c. expect mark.RightBracket >>= (λ u. pure c)) (alike_constant wanted)
      (λ c d e. alike_next E (expect mark.RightBracket) (λ u. pure c) (λ u. pure d) (λ u. alike_pure E c d e))

  alike_local_of : (t : CType) (word : List ℕ) → Alike E (local_of (keeps wanted) t word) (local_of all_kept t word)
  unfolding local_of ints
  alike_local_of t word =
      alike_if E _ (past (ints (keeps wanted) word)) (past (ints all_kept word)) (pure (scalar_local t word)) (pure (scalar_local t word))
      (alike_past E (ints (keeps wanted) word) (ints all_kept word) (alike_made E (ints_local word) (size (keeps wanted)) (size all_kept) alike_size))
      (alike_itself E (pure (scalar_local t word)))

  pub alike_local : Alike E (one_local (keeps wanted)) (one_local all_kept)
  unfolding one_local local_named
  alike_local =
      alike_next E type_name (local_named (keeps wanted)) (local_named all_kept)
      (λ t. alike_next E name (λ word. local_of (keeps wanted) t word) (λ word. local_of all_kept t word) (alike_local_of t))

  alike_variable_of : (t : CType) (word : List ℕ) → Alike E (variable_of (keeps wanted) t word) (variable_of all_kept t word)
  unfolding variable_of array
  alike_variable_of t word =
      alike_if E _ (past (array (keeps wanted) t word)) (past (array all_kept t word)) (pure (declared (variable.Scalar t) word)) (pure (declared (variable.Scalar t) word))
      (alike_past E (array (keeps wanted) t word) (array all_kept t word) (alike_made E (λ c. declared (array_of t c) word) (size (keeps wanted)) (size all_kept) alike_size))
      (alike_itself E (pure (declared (variable.Scalar t) word)))

  alike_typed : Alike E (variable_typed (keeps wanted)) (variable_typed all_kept)
  unfolding variable_typed variable_named
  alike_typed =
      alike_next E type_name (variable_named (keeps wanted)) (variable_named all_kept)
      (λ t. alike_next E name (λ word. variable_of (keeps wanted) t word) (λ word. variable_of all_kept t word) (alike_variable_of t))

  alike_pairs : Alike E (pairs (keeps wanted)) (pairs all_kept)
  unfolding pairs
  alike_pairs =
      alike_next E (expect mark.Pair) _ _ (λ u. alike_next E name _ _ (λ word. alike_next E (expect mark.LeftBracket) _ _
      (λ v. alike_made E (λ c. declared (variable.Pairs c) word) (size (keeps wanted)) (size all_kept) alike_size)))

  pub alike_variable : Alike E (one_variable (keeps wanted)) (one_variable all_kept)
  unfolding one_variable
  alike_variable = alike_sight E mark.Struct (pairs (keeps wanted)) (pairs all_kept) (variable_typed (keeps wanted)) (variable_typed all_kept) alike_pairs alike_typed

-- Reading what stands in a variable before a run decides how it is spelled.
use Rattle.std.proofs.Common.{◌≡◌, ℕ, suc, Bool, true, false, List, [], ◌∷◌, ◌++◌, length, Option, Some, None, Ok, Err, refl, sym, subst}
use Rattle.std.specs.Prelude.{if◌then◌else◌, bytes_eq}
use Rattle.cf_base.proofs.Tests.{same_bytes, bytes_same}
use Rattle.cc_whole_tokens.specs.declared.mark.Mark.TheVariants as mark
use Rattle.cc_whole_tokens.specs.declared.token.Token.{Token}
use Rattle.cc_whole_tokens.specs.declared.token.Token.TheVariants as token
use Rattle.cc_whole_tokens.specs.Mark.{same_mark}
use Rattle.cc_whole.specs.declared.types.CConstant.{CConstant}
use Rattle.cc_whole.specs.declared.unit.CPair.{CPair}
use Rattle.cc_whole.specs.declared.unit.CInitialiser.{CInitialiser}
use Rattle.cc_whole.specs.declared.unit.CInitialiser.TheVariants as initialiser
use Rattle.cc_whole.specs.SpellsTypes.{sign, SpellsConstant}
use Rattle.cc_whole.specs.SpellsItems.{function_tokens, SpellsPair, SpellsPairs, SpellsInitialiser}
use Rattle.cc_whole.specs.SpellsItems as g
use Rattle.cc_whole_reading.specs.Parse.{◌>>=◌, pure, sees, sees_a, is_name, is_text, expect, text, nought}
use Rattle.cc_whole_reading.specs.declared.stop.Stop.TheVariants as stop
use Rattle.cc_whole_reading.specs.Constants.{constant}
use Rattle.cc_whole_reading.proofs.Decides.{SameFront, Spelling, Follow, any, SameReading, Took, Stuck, Answer, Decides, decides_as, decides_follow, Done, done, decides_pure, stuck_here}
use Rattle.cc_whole_reading.proofs.Shapes.{Seq, seq, After, after, Named, named, Made, made, Either, one, other, decides_then, decides_made}
use Rattle.cc_whole_reading.proofs.Choices.{decides_sign, decides_word, sees_a_same}
use Rattle.cc_whole_reading.proofs.Ways.{Tells, decides_if, decides_sight, apart_done}
use Rattle.cc_whole_reading.proofs.Chains.{Separated, last, more, decides_separated}
use Rattle.cc_whole_reading.proofs.ConstantLaws.{all_kept, decides_constant}
use Rattle.cc_whole_read_items.specs.ReadItems.{some_function, no_function, pair_function, pair_of, pair, some_pairs, string, pairs, values, start}
use Rattle.cc_whole_read_items.proofs.PrototypeLaws.{no_comma}

-- ---- a token alone

data IsNought : Unit {0} → List Token → Type 0 where
  is_nought : IsNought tt (token.Signed (48 ∷ []) ∷ [])

nought_here : (ts : List Token) → ((us : List Token) → SameFront ts (token.Signed (48 ∷ []) ∷ us) → ⊥) → Stuck IsNought any ts (length ts)
nought_here ts differ = stuck_here IsNought any (record { tree = tt; tokens = _; spells = is_nought }) ts never
  where
    never : (b : Unit {0}) (xs rest us : List Token) → IsNought b xs → any rest → xs ++ rest ≡ us → SameFront ts us → ⊥
    never _ _ rest us is_nought f e same = differ rest (subst (SameFront ts) (sym e) same)

only_nought : (b : Unit {0}) (xs rest us : List Token) → IsNought b xs → xs ++ rest ≡ token.Signed (48 ∷ []) ∷ us → SameReading tt us b rest
only_nought _ _ rest us is_nought e = record { tree = refl; left = cc }

taken_nought : (ds : List ℕ) (ts : List Token) → ds ≡ 48 ∷ [] → Took IsNought any (token.Signed ds ∷ ts) tt ts
taken_nought ds ts e =
    subst (λ l. Took IsNought any (token.Signed l ∷ ts) tt ts) (sym e)
    (record { front = token.Signed (48 ∷ []) ∷ []; spells = is_nought; parts = refl; only = λ b xs rest us s f q same. only_nought b xs rest us s q })

no_nought : (ds : List ℕ) → bytes_eq ds (48 ∷ []) ≡ false → (us ts : List Token) → SameFront (token.Signed ds ∷ ts) (token.Signed (48 ∷ []) ∷ us) → ⊥
no_nought ds is us ts same =
    let e : ds ≡ 48 ∷ [] = cc in
    let yes : bytes_eq ds (48 ∷ []) ≡ true = bytes_same ds (48 ∷ []) e in
    absurd (cc)

nought_at : (ds : List ℕ) (ts : List Token) (b : Bool) → bytes_eq ds (48 ∷ []) ≡ b → Answer IsNought any (token.Signed ds ∷ ts) (if b then Ok (tt, ts) else Err (stop.NotC (suc (length ts))))
nought_at ds ts true is = taken_nought ds ts (same_bytes ds (48 ∷ []) is)
nought_at ds ts false is = nought_here (token.Signed ds ∷ ts) (λ us same. no_nought ds is us ts same)

decides_nought : (n : ℕ) → Decides IsNought any n nought
unfolding nought
decides_nought n [] small = nought_here [] (λ us same. same)
decides_nought n (token.Mark m ∷ ts) small = nought_here (token.Mark m ∷ ts) (λ us same. absurd (cc))
decides_nought n (token.Dash ∷ ts) small = nought_here (token.Dash ∷ ts) (λ us same. absurd (cc))
decides_nought n (token.Name word ∷ ts) small = nought_here (token.Name word ∷ ts) (λ us same. absurd (cc))
decides_nought n (token.Signed ds ∷ ts) small = nought_at ds ts (bytes_eq ds (48 ∷ [])) refl
decides_nought n (token.Unsigned ds ∷ ts) small = nought_here (token.Unsigned ds ∷ ts) (λ us same. absurd (cc))
decides_nought n (token.Text bytes ∷ ts) small = nought_here (token.Text bytes ∷ ts) (λ us same. absurd (cc))
decides_nought n (token.Shared ∷ ts) small = nought_here (token.Shared ∷ ts) (λ us same. absurd (cc))

data IsText : List ℕ → List Token → Type 0 where
  is_string : (bytes : List ℕ) → IsText bytes (token.Text bytes ∷ [])

text_here : (ts : List Token) → ((bytes : List ℕ) (us : List Token) → SameFront ts (token.Text bytes ∷ us) → ⊥) → Stuck IsText any ts (length ts)
text_here ts differ = stuck_here IsText any (record { tree = []; tokens = _; spells = is_string [] }) ts never
  where
    never : (b : List ℕ) (xs rest us : List Token) → IsText b xs → any rest → xs ++ rest ≡ us → SameFront ts us → ⊥
    never _ _ rest us (is_string bytes) f e same = differ bytes rest (subst (SameFront ts) (sym e) same)

only_text : (bytes b : List ℕ) (xs rest us : List Token) → IsText b xs → xs ++ rest ≡ token.Text bytes ∷ us → SameReading bytes us b rest
only_text bytes _ _ rest us (is_string found) e = record { tree = cc; left = cc }

decides_text : (n : ℕ) → Decides IsText any n text
unfolding text
decides_text n [] small = text_here [] (λ bytes us same. same)
decides_text n (token.Mark m ∷ ts) small = text_here (token.Mark m ∷ ts) (λ bytes us same. absurd (cc))
decides_text n (token.Dash ∷ ts) small = text_here (token.Dash ∷ ts) (λ bytes us same. absurd (cc))
decides_text n (token.Name word ∷ ts) small = text_here (token.Name word ∷ ts) (λ bytes us same. absurd (cc))
decides_text n (token.Signed ds ∷ ts) small = text_here (token.Signed ds ∷ ts) (λ bytes us same. absurd (cc))
decides_text n (token.Unsigned ds ∷ ts) small = text_here (token.Unsigned ds ∷ ts) (λ bytes us same. absurd (cc))
decides_text n (token.Text bytes ∷ ts) small =
    record { front = token.Text bytes ∷ []; spells = is_string bytes; parts = refl; only = λ b xs rest us s f e same. only_text bytes b xs rest us s e }
decides_text n (token.Shared ∷ ts) small = text_here (token.Shared ∷ ts) (λ bytes us same. absurd (cc))

-- ---- pairs

data IsFunction : Option (List ℕ) → List Token → Type 0 where
  is_function : (f : Option (List ℕ)) → IsFunction f (function_tokens f)

abbrev NameShape : Spelling (Option (List ℕ))
NameShape = Named (λ word. Done (Some word))

abbrev NoughtShape : Spelling (Option (List ℕ))
NoughtShape = Made (λ u. None) IsNought

function_shape : (f : Option (List ℕ)) (xs : List Token) → IsFunction f xs → Either NameShape NoughtShape f xs
function_shape _ _ (is_function None) = other _ _ (made tt (token.Signed (48 ∷ []) ∷ []) is_nought)
function_shape _ _ (is_function (Some word)) = one _ _ (named word (Some word) [] done)

of_function : (f : Option (List ℕ)) (xs : List Token) → Either NameShape NoughtShape f xs → IsFunction f xs
of_function _ _ (one _ _ (named word _ _ done)) = is_function (Some word)
of_function _ _ (other _ _ (made _ _ is_nought)) = is_function None

name_there : Tells (sees_a is_name) true NameShape any
name_there _ _ rest (named word b ys u) f = refl

no_name : Tells (sees_a is_name) false NoughtShape any
no_name _ _ rest (made _ _ is_nought) f = refl

decides_function : (n : ℕ) → Decides IsFunction any n pair_function
unfolding pair_function some_function no_function
decides_function n =
    decides_as (Either NameShape NoughtShape) IsFunction any n pair_function function_shape of_function
    (decides_if (sees_a is_name) (sees_a_same is_name) NameShape NoughtShape any name_there no_name n some_function no_function
    (λ ts small is. decides_word (λ word. Done (Some word)) any n (λ word. pure (Some word)) (λ word. decides_pure any n (Some word)) ts small)
    (decides_made (λ u. None) IsNought any n nought (decides_nought n)))

abbrev pair_made : CConstant → Option (List ℕ) → CPair
pair_made c f = record { number = c; function = f }

abbrev PairTail : CConstant → Spelling CPair
PairTail c = After mark.Comma (Seq IsFunction (λ f. After mark.RightBrace (Done (pair_made c f))))

abbrev PairShape : Spelling CPair
PairShape = After mark.LeftBrace (Seq SpellsConstant PairTail)

pair_shape : (p : CPair) (xs : List Token) → SpellsPair p xs → PairShape p xs
pair_shape _ _ (g.SpellsPair.pair c cs f s) =
    after _ _ (seq c cs (pair_made c f) _ s (after _ _ (seq f (function_tokens f) (pair_made c f) (sign mark.RightBrace) (is_function f) (after _ _ done))))

pair_end : (c : CConstant) (cs : List Token) → SpellsConstant c cs → (f : Option (List ℕ)) (xs : List Token) → IsFunction f xs → (b : CPair) (ys : List Token)
    → After mark.RightBrace (Done (pair_made c f)) b ys → SpellsPair b (token.Mark mark.LeftBrace ∷ (cs ++ (token.Mark mark.Comma ∷ (xs ++ ys))))
pair_end c cs s _ _ (is_function f) _ _ (after _ _ done) = g.SpellsPair.pair c cs f s

pair_tail : (c : CConstant) (cs : List Token) → SpellsConstant c cs → (b : CPair) (ys : List Token) → PairTail c b ys → SpellsPair b (token.Mark mark.LeftBrace ∷ (cs ++ ys))
pair_tail c cs s _ _ (after _ _ (seq f xs b ys i u)) = pair_end c cs s f xs i b ys u

of_pair : (p : CPair) (xs : List Token) → PairShape p xs → SpellsPair p xs
of_pair _ _ (after _ _ (seq c cs b ys s u)) = pair_tail c cs s b ys u

decides_pair : (n : ℕ) → Decides SpellsPair any n (pair all_kept)
unfolding pair pair_of
decides_pair n =
    decides_as PairShape SpellsPair any n (pair all_kept) pair_shape of_pair
    (decides_sign mark.LeftBrace (Seq SpellsConstant PairTail) any n _
    (decides_then SpellsConstant any PairTail any (λ c b ys rest u f. tt) n (constant all_kept) (λ c. pair_of c) (decides_constant n)
    (λ c cs s. decides_sign mark.Comma (Seq IsFunction (λ f. After mark.RightBrace (Done (pair_made c f)))) any n _
    (decides_then IsFunction any (λ f. After mark.RightBrace (Done (pair_made c f))) any (λ f b ys rest u q. tt) n pair_function
    (λ f. expect mark.RightBrace >>= (λ u. pure (pair_made c f))) (decides_function n)
    (λ f xs i. decides_sign mark.RightBrace (Done (pair_made c f)) any n (λ u. pure (pair_made c f)) (decides_pure any n (pair_made c f)))))))

separated_pairs : (ps : List CPair) (xs : List Token) → SpellsPairs ps xs → Separated SpellsPair ps xs
separated_pairs _ _ (g.SpellsPairs.last p xs s) = last p xs s
separated_pairs _ _ (g.SpellsPairs.more p xs ps ys s d) = more p xs ps ys s (separated_pairs ps ys d)

of_separated : (ps : List CPair) (xs : List Token) → Separated SpellsPair ps xs → SpellsPairs ps xs
of_separated _ _ (last p xs s) = g.SpellsPairs.last p xs s
of_separated _ _ (more p xs ps ys s d) = g.SpellsPairs.more p xs ps ys s (of_separated ps ys d)

decides_pairs : (n : ℕ) → Decides SpellsPairs no_comma n (some_pairs all_kept)
unfolding some_pairs
decides_pairs n =
    decides_as (Separated SpellsPair) SpellsPairs no_comma n (some_pairs all_kept) separated_pairs of_separated
    (decides_separated SpellsPair any no_comma (λ ts. tt) (λ rest f. tt) (λ rest f. f) n (pair all_kept) (decides_pair n))

-- ---- initialisers

abbrev TextShape : Spelling (Option CInitialiser)
TextShape = Made (λ bytes. Some (initialiser.Text bytes)) IsText

abbrev PairsEnd : List CPair → Spelling (Option CInitialiser)
PairsEnd ps = After mark.RightBrace (Done (Some (initialiser.Pairs ps)))

abbrev PairsShape : Spelling (Option CInitialiser)
PairsShape = After mark.LeftBrace (Seq SpellsPairs PairsEnd)

abbrev StartShape : Spelling (Option CInitialiser)
StartShape = Either (After mark.Assign (Either TextShape PairsShape)) (Done None)

abbrev pub no_assign : Follow
no_assign ts = sees mark.Assign ts ≡ false

start_shape : (i : Option CInitialiser) (xs : List Token) → SpellsInitialiser i xs → StartShape i xs
start_shape _ _ g.SpellsInitialiser.none = other _ _ done
start_shape _ _ (g.SpellsInitialiser.text bytes) = one _ _ (after _ _ (one _ _ (made bytes (token.Text bytes ∷ []) (is_string bytes))))
start_shape _ _ (g.SpellsInitialiser.pairs ps xs d) =
    one _ _ (after _ _ (other _ _ (after _ _ (seq ps xs (Some (initialiser.Pairs ps)) (sign mark.RightBrace) d (after _ _ done)))))

pairs_end : (ps : List CPair) (xs : List Token) → SpellsPairs ps xs → (i : Option CInitialiser) (ys : List Token) → PairsEnd ps i ys
    → SpellsInitialiser i (token.Mark mark.Assign ∷ token.Mark mark.LeftBrace ∷ (xs ++ ys))
pairs_end ps xs d _ _ (after _ _ done) = g.SpellsInitialiser.pairs ps xs d

of_start : (i : Option CInitialiser) (xs : List Token) → StartShape i xs → SpellsInitialiser i xs
of_start _ _ (one _ _ (after _ _ (one _ _ (made _ _ (is_string bytes))))) = g.SpellsInitialiser.text bytes
of_start _ _ (one _ _ (after _ _ (other _ _ (after _ _ (seq ps xs i ys d u))))) = pairs_end ps xs d i ys u
of_start _ _ (other _ _ done) = g.SpellsInitialiser.none

text_there : Tells (sees_a is_text) true TextShape any
text_there _ _ rest (made _ _ (is_string bytes)) f = refl

no_text : Tells (sees_a is_text) false PairsShape any
no_text _ _ rest (after b ys u) f = refl

brace_comma : (ps : List CPair) (b : Option CInitialiser) (ys rest : List Token) → PairsEnd ps b ys → no_comma (ys ++ rest)
unfolding same_mark
brace_comma ps _ _ rest (after b ys u) = refl

decides_values : (n : ℕ) → Decides (Either TextShape PairsShape) any n (values all_kept)
unfolding values string pairs
decides_values n =
    decides_if (sees_a is_text) (sees_a_same is_text) TextShape PairsShape any text_there no_text n string (pairs all_kept)
    (λ ts small is. decides_made (λ bytes. Some (initialiser.Text bytes)) IsText any n text (decides_text n) ts small)
    (decides_sign mark.LeftBrace (Seq SpellsPairs PairsEnd) any n _
    (decides_then SpellsPairs no_comma PairsEnd any (λ ps b ys rest u f. brace_comma ps b ys rest u) n (some_pairs all_kept)
    (λ ps. expect mark.RightBrace >>= (λ u. pure (Some (initialiser.Pairs ps)))) (decides_pairs n)
    (λ ps xs d. decides_sign mark.RightBrace (Done (Some (initialiser.Pairs ps))) any n (λ u. pure (Some (initialiser.Pairs ps))) (decides_pure any n (Some (initialiser.Pairs ps))))))

pub decides_start : (n : ℕ) → Decides SpellsInitialiser no_assign n (start all_kept)
unfolding start
decides_start n =
    decides_as StartShape SpellsInitialiser no_assign n (start all_kept) start_shape of_start
    (decides_sight mark.Assign (Either TextShape PairsShape) (Done None) no_assign n (values all_kept) (pure None) (apart_done mark.Assign None no_assign (λ rest f. f))
    (decides_follow (Either TextShape PairsShape) any no_assign n (values all_kept) (λ ts f. tt) (decides_values n)) (decides_pure no_assign n None))

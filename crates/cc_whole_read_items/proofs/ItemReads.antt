-- Reading an item decides how it is spelled: part by part, and as a whole.
use Rattle.std.proofs.Common.{◌≡◌, ℕ, ◌<◌, Bool, true, false, List, [], ◌∷◌, ◌++◌, length, Option, refl, ap, ◌∙◌, arith, append_assoc, length-append}
use Rattle.cc_whole_tokens.specs.declared.mark.Mark.TheVariants as mark
use Rattle.cc_whole_tokens.specs.declared.token.Token.{Token}
use Rattle.cc_whole_tokens.specs.declared.token.Token.TheVariants as token
use Rattle.cc_whole_tokens.specs.Mark.{same_mark}
use Rattle.cc_whole.specs.declared.types.CVariableType.{CVariableType}
use Rattle.cc_whole.specs.declared.unit.CPrototype.{CPrototype}
use Rattle.cc_whole.specs.declared.unit.CInitialiser.{CInitialiser}
use Rattle.cc_whole.specs.declared.unit.CItem.{CItem}
use Rattle.cc_whole.specs.declared.unit.CItem.TheVariants as item
use Rattle.cc_whole.specs.SpellsTypes.{sign, type_tokens, result_tokens, SpellsVariable}
use Rattle.cc_whole.specs.SpellsTypes as c
use Rattle.cc_whole.specs.Spells.{bracketed, SpellsBody}
use Rattle.cc_whole.specs.Spells as b
use Rattle.cc_whole.specs.SpellsItems.{static_tokens, parameters_tokens, prototype_tokens, SpellsInitialiser, SpellsItem}
use Rattle.cc_whole.specs.SpellsItems as g
use Rattle.cc_whole_reading.specs.Parse.{◌>>=◌, pure, past, sees, sees_a, is_shared, expect}
use Rattle.cc_whole_reading.proofs.Decides.{Spelling, any, Decides, DecidesIf, decides_as, Done, done, decides_pure}
use Rattle.cc_whole_reading.proofs.Shapes.{seq, After, after, Made, made, one, other, decides_then, decides_made}
use Rattle.cc_whole_reading.proofs.Choices.{decides_sign, sees_a_same, answer_front}
use Rattle.cc_whole_reading.proofs.Ways.{decides_if, decides_sight, decides_either}
use Rattle.cc_whole_reading.proofs.ConstantLaws.{all_kept}
use Rattle.cc_whole_read_types.specs.ReadTypes.{one_variable}
use Rattle.cc_whole_read_types.specs.declared.variable.Declared.{Declared}
use Rattle.cc_whole_read_types.proofs.TypeLaws.{no_type}
use Rattle.cc_whole_read_types.proofs.VariableLaws.{IsVariable, no_size, decides_variable}
use Rattle.cc_whole_read_body.specs.ReadBody.{body}
use Rattle.cc_whole_read_body.proofs.BodyLaws.{decides_body}
use Rattle.cc_whole_read_items.specs.ReadItems.{static_word, prototype, start, prototype_line, extern_line, function_of, function, variable_of, variable_behind, variable, definition, declaration, unmarked, marked, one_item}
use Rattle.cc_whole_read_items.proofs.PrototypeLaws.{IsStatic, is_static, no_static, decides_static, IsPrototype, is_prototype, decides_prototype}
use Rattle.cc_whole_read_items.proofs.InitialLaws.{no_assign, decides_start}
use Rattle.cc_whole_read_items.proofs.ItemLaws.{function_made, variable_made, PrototypeLine, ExternLine, FunctionShape, StartTail, VariableTail, VariableShape, DefinitionShape, DeclarationShape, UnmarkedShape, SharedShape, shared, MarkedShape, ItemShape, definitions_differ, declarations_differ, unmarked_differ, marked_extern, unshared, shared_there}

decides_prototype_line : (n : ℕ) → Decides PrototypeLine any n prototype_line
unfolding prototype_line
decides_prototype_line n =
    decides_then IsPrototype any (λ p. After mark.Semicolon (Done (item.Prototype p))) any (λ p i ys rest u f. tt) n prototype (λ p. expect mark.Semicolon >>= (λ u. pure (item.Prototype p)))
    (decides_prototype n) (λ p xs s. decides_sign mark.Semicolon (Done (item.Prototype p)) any n (λ u. pure (item.Prototype p)) (decides_pure any n (item.Prototype p)))

semicolon_size : {B : Type 0} (U : Spelling B) (i : B) (ys rest : List Token) → After mark.Semicolon U i ys → no_size (ys ++ rest)
unfolding same_mark
semicolon_size U _ _ rest (after i ys u) = refl

semicolon_assign : {B : Type 0} (U : Spelling B) (i : B) (ys rest : List Token) → After mark.Semicolon U i ys → no_assign (ys ++ rest)
unfolding same_mark
semicolon_assign U _ _ rest (after i ys u) = refl

decides_extern_line : (n : ℕ) → Decides ExternLine any n (extern_line all_kept)
unfolding extern_line
decides_extern_line n =
    decides_then IsVariable no_size (λ d. After mark.Semicolon (Done (item.Extern d.ty d.name))) any (λ d i ys rest u f. semicolon_size (Done (item.Extern d.ty d.name)) i ys rest u) n
    (one_variable all_kept) (λ d. expect mark.Semicolon >>= (λ u. pure (item.Extern d.ty d.name))) (decides_variable n)
    (λ d xs s. decides_sign mark.Semicolon (Done (item.Extern d.ty d.name)) any n (λ u. pure (item.Extern d.ty d.name)) (decides_pure any n (item.Extern d.ty d.name)))

start_size : (i : Option CInitialiser) (ys : List Token) → SpellsInitialiser i ys → {B : Type 0} (U : Spelling B) (j : B) (zs rest : List Token) → After mark.Semicolon U j zs → no_size (ys ++ (zs ++ rest))
unfolding same_mark
start_size _ _ g.SpellsInitialiser.none U _ _ rest (after j zs u) = refl
start_size _ _ (g.SpellsInitialiser.text bytes) U _ _ rest (after j zs u) = refl
start_size _ _ (g.SpellsInitialiser.pairs all xs d) U _ _ rest (after j zs u) = refl

tail_size : (s t : Bool) (d : Declared) (i : CItem) (ys rest : List Token) → StartTail s t d i ys → no_size (ys ++ rest)
tail_size s t d _ _ rest (seq j xs i zs m u) = ap (sees mark.LeftBracket) (append_assoc xs zs rest) ∙ start_size j xs m (Done (variable_made s t d j)) i zs rest u

variable_no_static : (t : CVariableType) (word : List ℕ) (xs rest : List Token) → SpellsVariable t word xs → no_static (xs ++ rest)
unfolding same_mark
variable_no_static _ _ _ rest (c.SpellsVariable.scalar t word) =
    ap (sees mark.Static) (append_assoc (type_tokens t) (token.Name word ∷ []) rest) ∙ no_type mark.Static refl refl refl refl refl t (token.Name word ∷ rest)
variable_no_static _ _ _ rest (c.SpellsVariable.ints d cs word s) = refl
variable_no_static _ _ _ rest (c.SpellsVariable.chars d cs word s) = refl
variable_no_static _ _ _ rest (c.SpellsVariable.pairs d cs word s) = refl

tail_no_static : (s t : Bool) (i : CItem) (ys rest : List Token) → VariableTail s t i ys → no_static (ys ++ rest)
tail_no_static s t _ _ rest (seq d xs i ys v u) = ap (sees mark.Static) (append_assoc xs ys rest) ∙ variable_no_static d.ty d.name xs (ys ++ rest) v

decides_variable_of : (n : ℕ) (s t : Bool) (d : Declared) → Decides (StartTail s t d) any n (variable_of all_kept s t d)
unfolding variable_of
decides_variable_of n s t d =
    decides_then SpellsInitialiser no_assign (λ i. After mark.Semicolon (Done (variable_made s t d i))) any (λ i j ys rest u f. semicolon_assign (Done (variable_made s t d i)) j ys rest u) n
    (start all_kept) (λ i. expect mark.Semicolon >>= (λ u. pure (variable_made s t d i))) (decides_start n)
    (λ i xs m. decides_sign mark.Semicolon (Done (variable_made s t d i)) any n (λ u. pure (variable_made s t d i)) (decides_pure any n (variable_made s t d i)))

decides_variable_item : (n : ℕ) (s : Bool) → Decides (VariableShape s) any n (variable all_kept s)
unfolding variable variable_behind
decides_variable_item n s =
    decides_then IsStatic no_static (VariableTail s) any (λ t i ys rest u f. tail_no_static s t i ys rest u) n static_word (λ t. variable_behind all_kept s t) (decides_static n)
    (λ t ts j. decides_then IsVariable no_size (StartTail s t) any (λ d i ys rest u f. tail_size s t d i ys rest u) n (one_variable all_kept) (λ d. variable_of all_kept s t d) (decides_variable n)
    (λ d xs v. decides_variable_of n s t d))

decides_function_item : (n : ℕ) (s : Bool) → Decides (FunctionShape s) any n (function all_kept n s)
unfolding function function_of
decides_function_item n s =
    decides_then IsPrototype any (λ p. Made (function_made s p) SpellsBody) any (λ p i ys rest u f. tt) n prototype (λ p. function_of all_kept n s p) (decides_prototype n)
    (λ p xs d. decides_made (function_made s p) SpellsBody any n (body all_kept n) (decides_body n))

decides_definition : (n : ℕ) (s : Bool) → Decides (DefinitionShape s) any n (definition all_kept n s)
unfolding definition
decides_definition n s =
    decides_either (FunctionShape s) (VariableShape s) n (function all_kept n s) (variable all_kept s) (definitions_differ s) (decides_function_item n s) (decides_variable_item n s)

decides_declaration : (n : ℕ) → Decides DeclarationShape any n (declaration all_kept)
unfolding declaration
decides_declaration n = decides_either PrototypeLine ExternLine n prototype_line (extern_line all_kept) declarations_differ (decides_prototype_line n) (decides_extern_line n)

decides_unmarked : (n : ℕ) → Decides UnmarkedShape any n (unmarked all_kept n)
unfolding unmarked
decides_unmarked n = decides_either (DefinitionShape false) PrototypeLine n (definition all_kept n false) prototype_line unmarked_differ (decides_definition n false) (decides_prototype_line n)

put_shared : (i : CItem) (ys : List Token) → DefinitionShape true i ys → SharedShape i (token.Shared ∷ ys)
put_shared i ys d = shared i ys d

take_shared : (i : CItem) (xs rest us : List Token) → SharedShape i xs → xs ++ rest ≡ token.Shared ∷ us → (ys : List Token) × DefinitionShape true i ys × (ys ++ rest ≡ us)
take_shared _ _ rest us (shared i ys d) e = let left : ys ++ rest ≡ us = cc in (ys, d, left)

decides_shared : (n : ℕ) → DecidesIf (sees_a is_shared) SharedShape any n (past (definition all_kept n true))
decides_shared n [] small is = absurd (cc)
decides_shared n (token.Mark m ∷ ts) small is = absurd (cc)
decides_shared n (token.Dash ∷ ts) small is = absurd (cc)
decides_shared n (token.Name word ∷ ts) small is = absurd (cc)
decides_shared n (token.Signed ds ∷ ts) small is = absurd (cc)
decides_shared n (token.Unsigned ds ∷ ts) small is = absurd (cc)
decides_shared n (token.Text bytes ∷ ts) small is = absurd (cc)
decides_shared n (token.Shared ∷ ts) small is =
    answer_front token.Shared (DefinitionShape true) SharedShape any put_shared (λ i xs rest us s f e. take_shared i xs rest us s e) ts (definition all_kept n true ts)
    (decides_definition n true ts (omega (arith, small)))

decides_marked : (n : ℕ) → Decides MarkedShape any n (marked all_kept n)
unfolding marked
decides_marked n =
    decides_if (sees_a is_shared) (sees_a_same is_shared) SharedShape UnmarkedShape any shared_there unshared n (past (definition all_kept n true)) (unmarked all_kept n) (decides_shared n)
    (decides_unmarked n)

-- ---- what these are in the grammar

variable_in : (s t : Bool) (d : Declared) (xs : List Token) (i : Option CInitialiser) (ys : List Token) → IsVariable d xs → SpellsInitialiser i ys
    → VariableShape s (variable_made s t d i) (static_tokens t ++ (xs ++ (ys ++ sign mark.Semicolon)))
variable_in s t d xs i ys v m =
    seq t (static_tokens t) (variable_made s t d i) (xs ++ (ys ++ sign mark.Semicolon)) (is_static t)
    (seq d xs (variable_made s t d i) (ys ++ sign mark.Semicolon) v (seq i ys (variable_made s t d i) (sign mark.Semicolon) m (after _ _ done)))

marked_in : (s : Bool) (i : CItem) (xs : List Token) → VariableShape s i xs → ItemShape i (g.shared_tokens s ++ xs)
marked_in true i xs d = other _ _ (one _ _ (shared i xs (other i xs d)))
marked_in false i xs d = other _ _ (other _ _ (one _ _ (other i xs d)))

item_shape : (i : CItem) (xs : List Token) → SpellsItem i xs → ItemShape i xs
item_shape _ _ (g.SpellsItem.prototype p) = other _ _ (other _ _ (other _ _ (seq p (prototype_tokens p) (item.Prototype p) (sign mark.Semicolon) (is_prototype p) (after _ _ done))))
item_shape _ _ (g.SpellsItem.extern_prototype p) =
    one _ _ (after _ _ (one _ _ (seq p (prototype_tokens p) (item.Prototype p) (sign mark.Semicolon) (is_prototype p) (after _ _ done))))
item_shape _ _ (g.SpellsItem.extern_variable t word xs s) =
    one _ _ (after _ _ (other _ _ (seq (record { ty = t; name = word }) xs (item.Extern t word) (sign mark.Semicolon) s (after _ _ done))))
item_shape _ _ (g.SpellsItem.function false p d ys m) =
    other _ _ (other _ _ (one _ _ (one _ _ (seq p (prototype_tokens p) (function_made false p d) ys (is_prototype p) (made d ys m)))))
item_shape _ _ (g.SpellsItem.function true p d ys m) =
    other _ _ (one _ _ (shared _ _ (one _ _ (seq p (prototype_tokens p) (function_made true p d) ys (is_prototype p) (made d ys m)))))
item_shape _ _ (g.SpellsItem.variable s t ty word xs i ys v m) = marked_in s _ _ (variable_in s t (record { ty = ty; name = word }) xs i ys v m)

line_end : (p : CPrototype) (xs : List Token) → IsPrototype p xs → (i : CItem) (ys : List Token) → After mark.Semicolon (Done (item.Prototype p)) i ys → SpellsItem i (xs ++ ys)
line_end _ _ (is_prototype p) _ _ (after _ _ done) = g.SpellsItem.prototype p

extern_end : (p : CPrototype) (xs : List Token) → IsPrototype p xs → (i : CItem) (ys : List Token) → After mark.Semicolon (Done (item.Prototype p)) i ys
    → SpellsItem i (token.Mark mark.Extern ∷ (xs ++ ys))
extern_end _ _ (is_prototype p) _ _ (after _ _ done) = g.SpellsItem.extern_prototype p

extern_variable_end : (d : Declared) (xs : List Token) → IsVariable d xs → (i : CItem) (ys : List Token) → After mark.Semicolon (Done (item.Extern d.ty d.name)) i ys
    → SpellsItem i (token.Mark mark.Extern ∷ (xs ++ ys))
extern_variable_end d xs v _ _ (after _ _ done) = g.SpellsItem.extern_variable d.ty d.name xs v

of_line : (i : CItem) (xs : List Token) → PrototypeLine i xs → SpellsItem i xs
of_line _ _ (seq p xs i ys s u) = line_end p xs s i ys u

of_declaration : (i : CItem) (xs : List Token) → DeclarationShape i xs → SpellsItem i (token.Mark mark.Extern ∷ xs)
of_declaration _ _ (one _ _ (seq p xs i ys s u)) = extern_end p xs s i ys u
of_declaration _ _ (other _ _ (seq d xs i ys v u)) = extern_variable_end d xs v i ys u

function_end : (s : Bool) (p : CPrototype) (xs : List Token) → IsPrototype p xs → (i : CItem) (ys : List Token) → Made (function_made s p) SpellsBody i ys → SpellsItem i (g.shared_tokens s ++ (xs ++ ys))
function_end s _ _ (is_prototype p) _ _ (made d ys m) = g.SpellsItem.function s p d ys m

variable_end : (s t : Bool) (d : Declared) (xs : List Token) → IsVariable d xs → (j : Option CInitialiser) (ys : List Token) → SpellsInitialiser j ys → (i : CItem) (zs : List Token)
    → After mark.Semicolon (Done (variable_made s t d j)) i zs → SpellsItem i (g.shared_tokens s ++ (static_tokens t ++ (xs ++ (ys ++ zs))))
variable_end s t d xs v j ys m _ _ (after _ _ done) = g.SpellsItem.variable s t d.ty d.name xs j ys v m

start_on : (s t : Bool) (d : Declared) (xs : List Token) → IsVariable d xs → (i : CItem) (ys : List Token) → StartTail s t d i ys → SpellsItem i (g.shared_tokens s ++ (static_tokens t ++ (xs ++ ys)))
start_on s t d xs v _ _ (seq j ys i zs m u) = variable_end s t d xs v j ys m i zs u

static_on : (s t : Bool) (ts : List Token) → IsStatic t ts → (i : CItem) (xs : List Token) → VariableTail s t i xs → SpellsItem i (g.shared_tokens s ++ (ts ++ xs))
static_on s _ _ (is_static t) _ _ (seq d xs i ys v u) = start_on s t d xs v i ys u

of_definition : (s : Bool) (i : CItem) (xs : List Token) → DefinitionShape s i xs → SpellsItem i (g.shared_tokens s ++ xs)
of_definition s _ _ (one _ _ (seq p xs i ys d m)) = function_end s p xs d i ys m
of_definition s _ _ (other _ _ (seq t ts i xs j u)) = static_on s t ts j i xs u

of_item : (i : CItem) (xs : List Token) → ItemShape i xs → SpellsItem i xs
of_item _ _ (one _ _ (after i xs d)) = of_declaration i xs d
of_item _ _ (other _ _ (one _ _ (shared i xs d))) = of_definition true i xs d
of_item _ _ (other _ _ (other _ _ (one i xs d))) = of_definition false i xs d
of_item _ _ (other _ _ (other _ _ (other i xs d))) = of_line i xs d

pub decides_item : (n : ℕ) → Decides SpellsItem any n (one_item all_kept n)
unfolding one_item
decides_item n =
    decides_as ItemShape SpellsItem any n (one_item all_kept n) item_shape of_item
    (decides_sight mark.Extern DeclarationShape MarkedShape any n (declaration all_kept) (marked all_kept n) marked_extern (decides_declaration n) (decides_marked n))

pub item_some : (i : CItem) (xs : List Token) → SpellsItem i xs → 0 < length xs
item_some _ _ (g.SpellsItem.prototype p) = let l = length-append (prototype_tokens p) (sign mark.Semicolon) in omega (arith, l)
item_some _ _ (g.SpellsItem.extern_prototype p) = omega arith
item_some _ _ (g.SpellsItem.extern_variable t word xs s) = omega arith
item_some _ _ (g.SpellsItem.function s p d _ (b.SpellsBody.body ls xs all ys e f)) =
    let l = length-append (g.shared_tokens s) (prototype_tokens p ++ (token.Mark mark.LeftBrace ∷ (xs ++ (ys ++ sign mark.RightBrace)))) in
    let k = length-append (prototype_tokens p) (token.Mark mark.LeftBrace ∷ (xs ++ (ys ++ sign mark.RightBrace))) in
    omega (arith, l, k)
item_some _ _ (g.SpellsItem.variable s t ty word xs i ys v m) =
    let l = length-append (g.shared_tokens s) (static_tokens t ++ (xs ++ (ys ++ sign mark.Semicolon))) in
    let k = length-append (static_tokens t) (xs ++ (ys ++ sign mark.Semicolon)) in
    let j = length-append xs (ys ++ sign mark.Semicolon) in
    let h = length-append ys (sign mark.Semicolon) in
    omega (arith, l, k, j, h)

-- Reading an item decides how it is spelled.
use Rattle.std.proofs.Common.{◌≡◌, ℕ, Bool, true, false, List, [], ◌∷◌, ◌++◌, length, Option, Some, None, refl, ap, sym, ◌∙◌, subst, arith, append_assoc}
use Rattle.cc_whole_tokens.specs.declared.mark.Mark.{Mark}
use Rattle.cc_whole_tokens.specs.declared.mark.Mark.TheVariants as mark
use Rattle.cc_whole_tokens.specs.declared.token.Token.{Token}
use Rattle.cc_whole_tokens.specs.declared.token.Token.TheVariants as token
use Rattle.cc_whole_tokens.specs.Mark.{same_mark}
use Rattle.cc_whole.specs.declared.types.CType.{CType}
use Rattle.cc_whole.specs.declared.types.CType.TheVariants as ty
use Rattle.cc_whole.specs.declared.types.CVariableType.{CVariableType}
use Rattle.cc_whole.specs.declared.statement.CBody.{CBody}
use Rattle.cc_whole.specs.declared.unit.CPrototype.{CPrototype}
use Rattle.cc_whole.specs.declared.unit.CInitialiser.{CInitialiser}
use Rattle.cc_whole.specs.declared.unit.CItem.{CItem}
use Rattle.cc_whole.specs.declared.unit.CItem.TheVariants as item
use Rattle.cc_whole.specs.SpellsTypes.{sign, type_tokens, result_tokens, SpellsVariable}
use Rattle.cc_whole.specs.SpellsTypes as c
use Rattle.cc_whole.specs.Spells.{bracketed, SpellsBody}
use Rattle.cc_whole.specs.Spells as b
use Rattle.cc_whole.specs.SpellsItems.{static_tokens, parameters_tokens, prototype_tokens, SpellsInitialiser, SpellsItem}
use Rattle.cc_whole.specs.SpellsItems as g
use Rattle.cc_whole_reading.specs.Parse.{sees, sees_a, is_shared}
use Rattle.cc_whole_reading.proofs.Decides.{Spelling, any, decides_one, Done}
use Rattle.cc_whole_reading.proofs.Shapes.{Seq, seq, After, after, Made, made, Either, one, other}
use Rattle.cc_whole_reading.proofs.Choices.{sees_there}
use Rattle.cc_whole_reading.proofs.Ways.{Apart, Tells, Differ}
use Rattle.cc_whole_read_types.specs.ReadTypes.{result_type}
use Rattle.cc_whole_read_types.specs.declared.variable.Declared.{Declared}
use Rattle.cc_whole_read_types.proofs.TypeLaws.{TypeEnds, no_type, IsResult, is_result, decides_result}
use Rattle.cc_whole_read_types.proofs.VariableLaws.{IsVariable}
use Rattle.cc_whole_read_items.specs.ReadItems.{prototype}
use Rattle.cc_whole_read_items.proofs.PrototypeLaws.{IsStatic, is_static, IsPrototype, is_prototype, decides_prototype}

-- ---- the shapes of items

abbrev pub function_made : Bool → CPrototype → CBody → CItem
function_made s p d = item.Function (record { is_shared = s; prototype = p; body = d })

abbrev pub variable_made : Bool → Bool → Declared → Option CInitialiser → CItem
variable_made s t d i = item.Variable (record { is_shared = s; is_static = t; ty = d.ty; name = d.name; initialiser = i })

abbrev pub PrototypeLine : Spelling CItem
PrototypeLine = Seq IsPrototype (λ p. After mark.Semicolon (Done (item.Prototype p)))

abbrev pub ExternLine : Spelling CItem
ExternLine = Seq IsVariable (λ d. After mark.Semicolon (Done (item.Extern d.ty d.name)))

abbrev pub FunctionShape : Bool → Spelling CItem
FunctionShape s = Seq IsPrototype (λ p. Made (function_made s p) SpellsBody)

abbrev pub StartTail : Bool → Bool → Declared → Spelling CItem
StartTail s t d = Seq SpellsInitialiser (λ i. After mark.Semicolon (Done (variable_made s t d i)))

abbrev pub VariableTail : Bool → Bool → Spelling CItem
VariableTail s t = Seq IsVariable (StartTail s t)

abbrev pub VariableShape : Bool → Spelling CItem
VariableShape s = Seq IsStatic (VariableTail s)

abbrev pub DefinitionShape : Bool → Spelling CItem
DefinitionShape s = Either (FunctionShape s) (VariableShape s)

abbrev pub DeclarationShape : Spelling CItem
DeclarationShape = Either PrototypeLine ExternLine

abbrev pub UnmarkedShape : Spelling CItem
UnmarkedShape = Either (DefinitionShape false) PrototypeLine

pub data SharedShape : CItem → List Token → Type 0 where
  shared : (i : CItem) (xs : List Token) → DefinitionShape true i xs → SharedShape i (token.Shared ∷ xs)

abbrev pub MarkedShape : Spelling CItem
MarkedShape = Either SharedShape UnmarkedShape

abbrev pub ItemShape : Spelling CItem
ItemShape = Either (After mark.Extern DeclarationShape) MarkedShape

-- ---- how items begin: as functions do, or as variables

data FunctionFront : List Token → Type 0 where
  front : (s : Bool) (r : Option CType) (word : List ℕ) (us : List Token)
      → FunctionFront (static_tokens s ++ (result_tokens r ++ (token.Name word ∷ token.Mark mark.LeftParen ∷ us)))

data VariableFront : List Token → Type 0 where
  typed : (s : Bool) (t : CType) (word : List ℕ) (m : Mark) (us : List Token) → same_mark m mark.LeftParen ≡ false
      → VariableFront (static_tokens s ++ (type_tokens t ++ (token.Name word ∷ token.Mark m ∷ us)))
  paired : (s : Bool) (us : List Token) → VariableFront (static_tokens s ++ (token.Mark mark.Struct ∷ us))

-- a variable's type and name, and a sign that is no opening bracket behind them
data TypedFront : List Token → Type 0 where
  typed_front : (t : CType) (word : List ℕ) (m : Mark) (us : List Token) → same_mark m mark.LeftParen ≡ false → TypedFront (type_tokens t ++ (token.Name word ∷ token.Mark m ∷ us))
  struct_front : (us : List Token) → TypedFront (token.Mark mark.Struct ∷ us)

variable_front : (t : CVariableType) (word : List ℕ) (xs : List Token) → SpellsVariable t word xs → (m : Mark) (us : List Token) → same_mark m mark.LeftParen ≡ false
    → TypedFront (xs ++ (token.Mark m ∷ us))
unfolding same_mark
variable_front _ _ _ (c.SpellsVariable.scalar t word) m us e =
    subst TypedFront (sym (append_assoc (type_tokens t) (token.Name word ∷ []) (token.Mark m ∷ us))) (typed_front t word m us e)
variable_front _ _ _ (c.SpellsVariable.ints d cs word s) m us e = typed_front ty.Int word mark.LeftBracket _ refl
variable_front _ _ _ (c.SpellsVariable.chars d cs word s) m us e = typed_front ty.Char word mark.LeftBracket _ refl
variable_front _ _ _ (c.SpellsVariable.pairs d cs word s) m us e = struct_front _

with_static : (s : Bool) (ts : List Token) → TypedFront ts → VariableFront (static_tokens s ++ ts)
with_static s _ (typed_front t word m us e) = typed s t word m us e
with_static s _ (struct_front us) = paired s us

prototype_front : (p : CPrototype) (xs : List Token) → IsPrototype p xs → (us : List Token) → FunctionFront (xs ++ us)
prototype_front _ _ (is_prototype p) us =
    let more = parameters_tokens p.parameters ++ sign mark.RightParen in
    subst FunctionFront
    (sym (append_assoc (static_tokens p.is_static) (result_tokens p.result ++ (token.Name p.name ∷ token.Mark mark.LeftParen ∷ more)) us
    ∙ ap (λ l. static_tokens p.is_static ++ l) (append_assoc (result_tokens p.result) (token.Name p.name ∷ token.Mark mark.LeftParen ∷ more) us)))
    (front p.is_static p.result p.name (more ++ us))

name_ends : (word : List ℕ) (us : List Token) → TypeEnds (token.Name word ∷ us)
name_ends word us = record { no_star = refl; words = record { no_char = refl; no_short = refl } }

-- the result and name of a function are no type and name of a variable
no_bracket : (r : Option CType) (t : CType) (w v : List ℕ) (m : Mark) (us vs : List Token) → same_mark m mark.LeftParen ≡ false
    → result_tokens r ++ (token.Name w ∷ token.Mark mark.LeftParen ∷ us) ≡ type_tokens t ++ (token.Name v ∷ token.Mark m ∷ vs) → ⊥
no_bracket r t w v m us vs differ e =
    let whole = result_tokens r ++ (token.Name w ∷ token.Mark mark.LeftParen ∷ us) in
    let same = decides_one IsResult TypeEnds (length whole) result_type (decides_result (length whole)) r (Some t) (result_tokens r) (type_tokens t)
    (token.Name w ∷ token.Mark mark.LeftParen ∷ us) (token.Name v ∷ token.Mark m ∷ vs) (omega arith) (is_result r) (is_result (Some t))
    (name_ends w (token.Mark mark.LeftParen ∷ us)) (name_ends v (token.Mark m ∷ vs)) e in
    let left : token.Name v ∷ token.Mark m ∷ vs ≡ token.Name w ∷ token.Mark mark.LeftParen ∷ us = same.left in
    let is : m ≡ mark.LeftParen = cc in
    let yes : same_mark m mark.LeftParen ≡ true = subst (λ x. same_mark x mark.LeftParen ≡ true) (sym is) (sees_there mark.LeftParen []) in
    absurd (cc)

result_first : (m : Mark) → same_mark mark.Void m ≡ false → same_mark mark.Char m ≡ false → same_mark mark.Unsigned m ≡ false → same_mark mark.Short m ≡ false → same_mark mark.Int m ≡ false
    → same_mark mark.FunctionPointer m ≡ false → (r : Option CType) (us : List Token) → sees m (result_tokens r ++ us) ≡ false
result_first m void char unsigned short int pointer None us = void
result_first m void char unsigned short int pointer (Some t) us = no_type m char unsigned short int pointer t us

apart_at : (m : Mark) (xs us : List Token) → sees m xs ≡ false → xs ≡ token.Mark m ∷ us → ⊥
apart_at m xs us no_mark e =
    let there : sees m xs ≡ true = ap (sees m) e ∙ sees_there m us in
    absurd (cc)

no_struct : (r : Option CType) (vs us : List Token) → result_tokens r ++ vs ≡ token.Mark mark.Struct ∷ us → ⊥
unfolding same_mark
no_struct r vs us e = apart_at mark.Struct (result_tokens r ++ vs) us (result_first mark.Struct refl refl refl refl refl refl r vs) e

no_static_result : (r : Option CType) (vs us : List Token) → result_tokens r ++ vs ≡ token.Mark mark.Static ∷ us → ⊥
unfolding same_mark
no_static_result r vs us e = apart_at mark.Static (result_tokens r ++ vs) us (result_first mark.Static refl refl refl refl refl refl r vs) e

tail_of : (m : Mark) (xs ys : List Token) → token.Mark m ∷ xs ≡ token.Mark m ∷ ys → xs ≡ ys
tail_of m xs ys e = cc

fronts_differ : (xs ys : List Token) → FunctionFront xs → VariableFront ys → xs ≡ ys → ⊥
fronts_differ _ _ (front true r w us) (typed true t v m vs d) e = no_bracket r t w v m us vs d (tail_of mark.Static _ _ e)
fronts_differ _ _ (front false r w us) (typed false t v m vs d) e = no_bracket r t w v m us vs d e
fronts_differ _ _ (front true r w us) (typed false t v m vs d) e = no_static_result (Some t) (token.Name v ∷ token.Mark m ∷ vs) _ (sym e)
fronts_differ _ _ (front false r w us) (typed true t v m vs d) e = no_static_result r (token.Name w ∷ token.Mark mark.LeftParen ∷ us) _ e
fronts_differ _ _ (front true r w us) (paired true vs) e = no_struct r (token.Name w ∷ token.Mark mark.LeftParen ∷ us) vs (tail_of mark.Static _ _ e)
fronts_differ _ _ (front false r w us) (paired false vs) e = no_struct r (token.Name w ∷ token.Mark mark.LeftParen ∷ us) vs e
fronts_differ _ _ (front true r w us) (paired false vs) e = absurd (cc)
fronts_differ _ _ (front false r w us) (paired true vs) e = no_static_result r (token.Name w ∷ token.Mark mark.LeftParen ∷ us) _ e

-- ---- which items begin so

line_front : (i : CItem) (xs us : List Token) → PrototypeLine i xs → FunctionFront (xs ++ us)
line_front _ _ us (seq p xs i ys s u) = subst FunctionFront (sym (append_assoc xs ys us)) (prototype_front p xs s (ys ++ us))

function_front : (s : Bool) (i : CItem) (xs us : List Token) → FunctionShape s i xs → FunctionFront (xs ++ us)
function_front s _ _ us (seq p xs i ys d u) = subst FunctionFront (sym (append_assoc xs ys us)) (prototype_front p xs d (ys ++ us))

extern_tail : (d : Declared) (xs : List Token) → IsVariable d xs → (i : CItem) (ys us : List Token) → After mark.Semicolon (Done (item.Extern d.ty d.name)) i ys → TypedFront (xs ++ (ys ++ us))
unfolding same_mark
extern_tail d xs s _ _ us (after i ys u) = variable_front d.ty d.name xs s mark.Semicolon (ys ++ us) refl

extern_front : (i : CItem) (xs us : List Token) → ExternLine i xs → VariableFront (xs ++ us)
extern_front _ _ us (seq d xs i ys s u) = subst VariableFront (sym (append_assoc xs ys us)) (with_static false (xs ++ (ys ++ us)) (extern_tail d xs s i ys us u))

start_front : (d : Declared) (xs : List Token) → IsVariable d xs → (i : Option CInitialiser) (ys zs : List Token) → SpellsInitialiser i ys → TypedFront (xs ++ (ys ++ (token.Mark mark.Semicolon ∷ zs)))
unfolding same_mark
start_front d xs s _ _ zs g.SpellsInitialiser.none = variable_front d.ty d.name xs s mark.Semicolon zs refl
start_front d xs s _ _ zs (g.SpellsInitialiser.text bytes) = variable_front d.ty d.name xs s mark.Assign _ refl
start_front d xs s _ _ zs (g.SpellsInitialiser.pairs all ys m) = variable_front d.ty d.name xs s mark.Assign _ refl

start_end : (d : Declared) (xs : List Token) → IsVariable d xs → (i : Option CInitialiser) (ys : List Token) → SpellsInitialiser i ys → {B : Type 0} (U : Spelling B) (b : B) (zs us : List Token)
    → After mark.Semicolon U b zs → TypedFront (xs ++ (ys ++ (zs ++ us)))
start_end d xs s i ys m U _ _ us (after b zs u) = start_front d xs s i ys (zs ++ us) m

start_tail : (s t : Bool) (d : Declared) (xs : List Token) → IsVariable d xs → (i : CItem) (ys us : List Token) → StartTail s t d i ys → TypedFront (xs ++ (ys ++ us))
start_tail s t d xs v _ _ us (seq j ys i zs m u) =
    subst (λ l. TypedFront (xs ++ l)) (sym (append_assoc ys zs us)) (start_end d xs v j ys m (Done (variable_made s t d j)) i zs us u)

tail_front : (s t : Bool) (i : CItem) (xs us : List Token) → VariableTail s t i xs → TypedFront (xs ++ us)
tail_front s t _ _ us (seq d xs i ys v u) = subst TypedFront (sym (append_assoc xs ys us)) (start_tail s t d xs v i ys us u)

static_front : (s t : Bool) (ts : List Token) → IsStatic t ts → (i : CItem) (xs us : List Token) → VariableTail s t i xs → VariableFront (ts ++ (xs ++ us))
static_front s _ _ (is_static t) i xs us u = with_static t (xs ++ us) (tail_front s t i xs us u)

variable_item_front : (s : Bool) (i : CItem) (xs us : List Token) → VariableShape s i xs → VariableFront (xs ++ us)
variable_item_front s _ _ us (seq t ts i xs d u) = subst VariableFront (sym (append_assoc ts xs us)) (static_front s t ts d i xs us u)

pub definitions_differ : (s : Bool) → Differ (FunctionShape s) (VariableShape s)
definitions_differ s i j xs ys us vs d e q = fronts_differ (xs ++ us) (ys ++ vs) (function_front s i xs us d) (variable_item_front s j ys vs e) q

pub declarations_differ : Differ PrototypeLine ExternLine
declarations_differ i j xs ys us vs d e q = fronts_differ (xs ++ us) (ys ++ vs) (line_front i xs us d) (extern_front j ys vs e) q

-- ---- a definition of a function, and its prototype alone

brace_first : (s : Bool) (p : CPrototype) (i : CItem) (ys us vs : List Token) → Made (function_made s p) SpellsBody i ys → ys ++ us ≡ token.Mark mark.Semicolon ∷ vs → ⊥
brace_first s p _ _ us vs (made _ _ (b.SpellsBody.body ls xs all ys d e)) q = absurd (cc)

same_prototypes : (p q : CPrototype) (xs ys us vs : List Token) → IsPrototype p xs → IsPrototype q ys → xs ++ us ≡ ys ++ vs → vs ≡ us
same_prototypes p q xs ys us vs d e same =
    (decides_one IsPrototype any (length (xs ++ us)) prototype (decides_prototype (length (xs ++ us))) p q xs ys us vs (omega arith) d e tt tt same).left

semicolon_line : (s : Bool) (p q : CPrototype) (xs ys : List Token) → IsPrototype p xs → IsPrototype q ys → (i : CItem) (zs us : List Token) → Made (function_made s p) SpellsBody i zs
    → (j : CItem) (ws vs : List Token) → After mark.Semicolon (Done (item.Prototype q)) j ws → xs ++ (zs ++ us) ≡ ys ++ (ws ++ vs) → ⊥
semicolon_line s p q xs ys d e i zs us m _ _ vs (after j ws u) same =
    brace_first s p i zs us (ws ++ vs) m (sym (same_prototypes p q xs ys (zs ++ us) (token.Mark mark.Semicolon ∷ (ws ++ vs)) d e same))

line_on : (s : Bool) (p : CPrototype) (xs : List Token) → IsPrototype p xs → (i : CItem) (zs us : List Token) → Made (function_made s p) SpellsBody i zs
    → (j : CItem) (ws vs : List Token) → PrototypeLine j ws → xs ++ (zs ++ us) ≡ ws ++ vs → ⊥
line_on s p xs d i zs us m _ _ vs (seq q ys j ws e u) same = semicolon_line s p q xs ys d e i zs us m j ws vs u (same ∙ append_assoc ys ws vs)

function_differs : (s : Bool) → Differ (FunctionShape s) PrototypeLine
function_differs s _ j _ ws us vs (seq p xs i zs d m) e same = line_on s p xs d i zs us m j ws vs e (sym (append_assoc xs zs us) ∙ same)

pub unmarked_differ : Differ (DefinitionShape false) PrototypeLine
unmarked_differ i j xs ys us vs (one _ _ d) e q = function_differs false i j xs ys us vs d e q
unmarked_differ i j xs ys us vs (other _ _ d) e q = fronts_differ (ys ++ vs) (xs ++ us) (line_front j ys vs e) (variable_item_front false i xs us d) (sym q)

-- ---- what a definition begins with

function_first : (m : Mark) (ts : List Token) → FunctionFront ts → same_mark mark.Static m ≡ false → same_mark mark.Void m ≡ false → same_mark mark.Char m ≡ false → same_mark mark.Unsigned m ≡ false
    → same_mark mark.Short m ≡ false → same_mark mark.Int m ≡ false → same_mark mark.FunctionPointer m ≡ false → sees m ts ≡ false
function_first m _ (front true r w us) static void char unsigned short int pointer = static
function_first m _ (front false r w us) static void char unsigned short int pointer =
    result_first m void char unsigned short int pointer r (token.Name w ∷ token.Mark mark.LeftParen ∷ us)

variable_first : (m : Mark) (ts : List Token) → VariableFront ts → same_mark mark.Static m ≡ false → same_mark mark.Struct m ≡ false → same_mark mark.Char m ≡ false → same_mark mark.Unsigned m ≡ false
    → same_mark mark.Short m ≡ false → same_mark mark.Int m ≡ false → same_mark mark.FunctionPointer m ≡ false → sees m ts ≡ false
variable_first m _ (typed true t w k us d) static struct char unsigned short int pointer = static
variable_first m _ (typed false t w k us d) static struct char unsigned short int pointer = no_type m char unsigned short int pointer t (token.Name w ∷ token.Mark k ∷ us)
variable_first m _ (paired true us) static struct char unsigned short int pointer = static
variable_first m _ (paired false us) static struct char unsigned short int pointer = struct

unmarked_extern : Apart mark.Extern UnmarkedShape any
unfolding same_mark
unmarked_extern _ _ us (one _ _ (one i xs d)) f = function_first mark.Extern (xs ++ us) (function_front false i xs us d) refl refl refl refl refl refl refl
unmarked_extern _ _ us (one _ _ (other i xs d)) f = variable_first mark.Extern (xs ++ us) (variable_item_front false i xs us d) refl refl refl refl refl refl refl
unmarked_extern _ _ us (other i xs d) f = function_first mark.Extern (xs ++ us) (line_front i xs us d) refl refl refl refl refl refl refl

pub marked_extern : Apart mark.Extern MarkedShape any
marked_extern _ _ us (one _ _ (shared i xs d)) f = refl
marked_extern i xs us (other _ _ d) f = unmarked_extern i xs us d f

type_unshared : (t : CType) (us : List Token) → sees_a is_shared (type_tokens t ++ us) ≡ false
type_unshared ty.Char us = refl
type_unshared ty.UChar us = refl
type_unshared ty.Short us = refl
type_unshared ty.UShort us = refl
type_unshared ty.Int us = refl
type_unshared ty.UInt us = refl
type_unshared ty.Pointer us = refl
type_unshared ty.FunctionPointer us = refl

function_unshared : (ts : List Token) → FunctionFront ts → sees_a is_shared ts ≡ false
function_unshared _ (front true r w us) = refl
function_unshared _ (front false None w us) = refl
function_unshared _ (front false (Some t) w us) = type_unshared t (token.Name w ∷ token.Mark mark.LeftParen ∷ us)

variable_unshared : (ts : List Token) → VariableFront ts → sees_a is_shared ts ≡ false
variable_unshared _ (typed true t w k us d) = refl
variable_unshared _ (typed false t w k us d) = type_unshared t (token.Name w ∷ token.Mark k ∷ us)
variable_unshared _ (paired true us) = refl
variable_unshared _ (paired false us) = refl

pub unshared : Tells (sees_a is_shared) false UnmarkedShape any
unshared _ _ us (one _ _ (one i xs d)) f = function_unshared (xs ++ us) (function_front false i xs us d)
unshared _ _ us (one _ _ (other i xs d)) f = variable_unshared (xs ++ us) (variable_item_front false i xs us d)
unshared _ _ us (other i xs d) f = function_unshared (xs ++ us) (line_front i xs us d)

pub shared_there : Tells (sees_a is_shared) true SharedShape any
shared_there _ _ us (shared i xs d) f = refl

-- Entities and their link names, by evaluation.
use Rattle.std.proofs.Common.{◌≡◌, ℕ, true, false, List, [], ◌∷◌, Some, None, refl, codes}
use Rattle.std.specs.Fmt.{digits}
use Rattle.cf_tokens.specs.Keywords.{keywords}
use Rattle.cf_tokens.specs.Table.{index_in}
use Rattle.cf_base.specs.declared.kind.Kind.TheVariants as kind
use Rattle.cf_classes.specs.LinkName.{Code, Integer, Named, Pointer, Reference, Const, Array, Function, Member, Codes, none, more, Called, Main, Variable, Plain, Operator, Constructor, Conversion, Entity}
use Rattle.cf_classes.specs.Entity.{Decodes, is_identifier}
use Rattle.cf_classes.specs.Decode.{decode}

abbrev of : List (List ℕ) → Called → Codes → Entity
of scope what params = record { scope = scope; what = what; params = params; is_const = false; is_static = false }

abbrev char : Code
char = Integer kind.Char

-- `f(int, const char*)`
abbrev f : Entity
f = of [] (Plain (codes "f")) (more (Integer kind.Int) (more (Pointer (Const char)) none))

f_decoded : decode (codes "f__FiPCc") ≡ Some f
unfolding keywords index_in digits
f_decoded = refl

f_decodes : Decodes (codes "f__FiPCc") (Some f)
unfolding keywords index_in digits
f_decodes = (refl, refl)

-- `A::g() const`
abbrev g : Entity
g = record (of (codes "A" ∷ []) (Plain (codes "g")) none) { is_const = true }

g_decoded : decode (codes "g__1ACFv") ≡ Some g
unfolding keywords index_in digits
g_decoded = refl

main_decoded : decode (codes "__main") ≡ Some (of [] Main none)
unfolding keywords index_in digits
main_decoded = refl

-- without parameters it would have a `v`
no_parameters_at_all : decode (codes "f__F") ≡ None
unfolding keywords index_in digits
no_parameters_at_all = refl

-- a constructor that is said to be const is well formed, and so are names of any length
const_constructor : decode (codes "__ct__1ACFv") ≡ Some (record (of (codes "A" ∷ []) Constructor none) { is_const = true })
unfolding keywords index_in digits
const_constructor = refl

static_member : decode (codes "n__Q2_1A1B") ≡ Some (record (of (codes "A" ∷ codes "B" ∷ []) (Variable (codes "n")) none) { is_static = true })
unfolding keywords index_in digits
static_member = refl

global_variable : decode (codes "x") ≡ Some (of [] (Variable (codes "x")) none)
unfolding keywords index_in digits
global_variable = refl

variable_named_exit : decode (codes "exit__g") ≡ Some (of [] (Variable (codes "exit")) none)
unfolding keywords index_in digits
variable_named_exit = refl

-- a library function's own name is no variable's
no_variable_named_exit : decode (codes "exit") ≡ None
unfolding keywords index_in digits
no_variable_named_exit = refl

-- a name that ends with `_`
name_with_underscore : decode (codes "f___Fi") ≡ Some (of [] (Plain (codes "f_")) (more (Integer kind.Int) none))
unfolding keywords index_in digits
name_with_underscore = refl

conversion_function : decode (codes "__opPCUc__1AFv") ≡ Some (of (codes "A" ∷ []) (Conversion (Pointer (Const (Integer kind.UChar)))) none)
unfolding keywords index_in digits
conversion_function = refl

operator_function : decode (codes "__apl__FR1Ai") ≡ Some (of [] (Operator 28) (more (Reference (Named (codes "A" ∷ []))) (more (Integer kind.Int) none)))
unfolding keywords index_in digits
operator_function = refl

-- `f(int (*)(char), int A::*, int (A::*)() const, char (&)[3])`
function_of_pointers :
    decode (codes "f__FPFc_iM1AiM1ACF_iRA3_c")
    ≡ Some (of [] (Plain (codes "f"))
    (more (Pointer (Function false (more char none) (Integer kind.Int))) (more (Member (codes "A" ∷ []) (Integer kind.Int))
    (more (Member (codes "A" ∷ []) (Function true none (Integer kind.Int))) (more (Reference (Array 3 char)) none)))))
unfolding keywords index_in digits
function_of_pointers = refl

-- what is written otherwise, or not at all: a const or array parameter, const of a const, a count with a leading 0, a keyword
const_parameter : decode (codes "f__FCi") ≡ None
unfolding keywords index_in digits
const_parameter = refl

array_parameter : decode (codes "f__FA3_i") ≡ None
unfolding keywords index_in digits
array_parameter = refl

const_of_const : decode (codes "f__FPCCi") ≡ None
unfolding keywords index_in digits
const_of_const = refl

leading_zero : decode (codes "g__01AFv") ≡ None
unfolding keywords index_in digits
leading_zero = refl

const_outside_classes : decode (codes "f__CFv") ≡ None
unfolding keywords index_in digits
const_outside_classes = refl

keyword_as_name : decode (codes "while__Fv") ≡ None
unfolding keywords index_in digits
keyword_as_name = refl

function_named_main : decode (codes "main__Fv") ≡ None
unfolding keywords index_in digits
function_named_main = refl

table_is_no_entity : decode (codes "__vt__1A") ≡ None
unfolding keywords index_in digits
table_is_no_entity = refl

letters_behind : decode (codes "f__Fix") ≡ None
unfolding keywords index_in digits
letters_behind = refl

digit_in_front : is_identifier (codes "1a") ≡ false
unfolding keywords index_in digits
digit_in_front = refl

double_underscore : is_identifier (codes "a__b") ≡ false
unfolding keywords index_in digits
double_underscore = refl

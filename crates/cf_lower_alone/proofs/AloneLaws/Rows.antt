-- A file with a local function, a local object and a literal before `main`: their names in the program.
use Rattle.std.proofs.Common.{◌≡◌, [], ◌∷◌, map, refl}
use Rattle.std.specs.Prelude.{Some, None, pos, true, false, codes}
use Rattle.std.specs.Fmt.{digits}
use Rattle.cf_base.specs.declared.kind.Kind.TheVariants.{Char, Int}
use Rattle.cf_core.specs.Types.{Name, SourceType, integer, pointer, gives}
use Rattle.cf_core.specs.Core.{plain_function}
use Rattle.cf_plain.specs.Plain.{Plains, nothing, more, act, set, give, number, text, decay, first, call, static_object, PlainFunction, PlainStatic, PlainFile}
use Rattle.cc_whole.specs.declared.unit.CVariable.{CVariable}
use Rattle.cc_whole.specs.Uses.{uses_of_body}
use Rattle.cf_lower_calls.specs.Entered.Linked.{linked_function}
use Rattle.cf_lower_alone.specs.Linked.{named_file, in_program, linked_static, linked_starts, main_function}

abbrev int : SourceType
int = integer Int

abbrev function_of : Name → Plains → PlainFunction
function_of name ss = record {
  name = name;
  role = plain_function;
  type = gives int false;
  locals = [];
  body = ss;
  is_shared = false;
  is_local = false;
}

-- static int f(){return 3;}
abbrev f : PlainFunction
f = record (function_of (codes "f__Fv") (more (set 0 (number (pos 3))) (more (give (Some 0)) nothing))) { is_local = true }

-- int main(){return f();}
abbrev main : PlainFunction
main = function_of (codes "__main") (more (set 0 (call (codes "f__Fv") (gives int false) None [] None)) (more (give (Some 0)) nothing))

-- static char*p="a";
abbrev p : PlainStatic
p = record {
  name = codes "p";
  type = pointer (integer Char);
  locals = [];
  start = more (set 0 (static_object (codes "p") (pointer (integer Char)))) (more (set 1 (text 0 (97 ∷ 0 ∷ []))) (more (set 1 (decay 1)) (more (act (first 0 1)) nothing)));
  owner = None;
  is_constant = true;
  is_shared = false;
  is_local = true;
}

abbrev file : PlainFile
file = record { classes = []; functions = f ∷ main ∷ []; statics = p ∷ [] }

function-longer : in_program file (codes "f__Fv") ≡ codes "f__Fv__u1"
unfolding digits
function-longer = refl

object-longer : in_program file (codes "p") ≡ codes "p__u1"
unfolding digits
object-longer = refl

helper-longer : in_program file (codes "__hci") ≡ codes "__hci__u1"
unfolding digits
helper-longer = refl

main-stays : in_program file (codes "__main") ≡ codes "__main"
unfolding digits
main-stays = refl

functions-named : map (λ (g : PlainFunction). g.name) (named_file file).functions ≡ codes "f__Fv__u1" ∷ codes "__main" ∷ []
unfolding digits
functions-named = refl

starts-named : map (λ (v : CVariable). v.name) (linked_starts file) ≡ codes "__s0____sti__u1" ∷ []
unfolding digits
starts-named = refl

-- the call goes by the longer name
calls-longer : map (λ (g : PlainFunction). uses_of_body (linked_function [] g).body []) (named_file file).functions ≡ [] ∷ (codes "f__Fv__u1" ∷ []) ∷ []
unfolding digits
calls-longer = refl

none-static : (linked_static p).is_static ≡ false
none-static = refl

-- the added `main` calls what is before it
main-calls : uses_of_body (main_function (linked_function [] (record f { name = codes "__hci__u1" }) ∷ [])).body [] ≡ codes "__hci__u1" ∷ codes "__main" ∷ []
main-calls = refl

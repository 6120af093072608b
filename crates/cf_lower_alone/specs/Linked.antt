-- What stands in the C program that the unit of a lowered file is linked to alone: its functions and variables by their names in the program, what is called before
-- `main`, and `main`.
use Rattle.std.specs.Prelude.{◌≡◌, false, true, List, [], ◌∷◌, ◌++◌, map, Some, None, filter, codes}
use Rattle.std.specs.List.{flat_map}
use Rattle.cf_core.specs.Valid.{all_differ}
use Rattle.cf_plain.specs.Plain.{PlainFunction, PlainStatic, PlainFile}
use Rattle.cf_plain.specs.Joined.{own_names}
use Rattle.cc_whole.specs.declared.types.CType.TheVariants as ty
use Rattle.cc_whole.specs.declared.types.CLocalType.TheVariants as local
use Rattle.cc_whole.specs.declared.unit.CVariable.{CVariable}
use Rattle.cc_whole.specs.declared.unit.CProgram.{CProgram}
use Rattle.cc_whole.specs.Known.{is_helper}
use Rattle.cc_whole.specs.Plain.{Function, Statement, body, in_order, call, by_name, named, load, give, items_of, functions_of, variables_of}
use Rattle.cc_whole_link.specs.Placed.{statics, static_renaming}
use Rattle.cc_whole_link.specs.Rename.{Renaming}
use Rattle.cc_whole_closed.proofs.Plains.{statement_with}
use Rattle.cf_lower.specs.Constants.{nothing_known, constant_code}
use Rattle.cf_lower.specs.Functions.{lowered_static, literals, owner_of, start_literals, lowered_file}
use Rattle.cf_lower_calls.specs.Entered.Linked.{linked_function}
use Rattle.cc_whole_registered.specs.Registered.{declares_atexit}
use Rattle.cc_whole_sections.specs.Sections.{Every}

-- the file with the names that its functions and objects have in the program
abbrev pub named_file : PlainFile → PlainFile
named_file file = own_names 1 file

-- what names of the unit are in the program
abbrev pub in_program : PlainFile → Renaming
in_program file = static_renaming 1 (statics (lowered_file file))

abbrev pub shown_variable : CVariable → CVariable
shown_variable v = record v { is_static = false }

abbrev pub linked_static : PlainStatic → CVariable
linked_static x = shown_variable (lowered_static [] x)

abbrev pub linked_literals : PlainFunction → List CVariable
linked_literals f = map shown_variable (literals f)

-- a variable by its name in the program
abbrev pub linked_variable : Renaming → CVariable → CVariable
linked_variable r v = record v { is_static = false; name = r v.name }

-- the literals of initialisers
abbrev pub linked_starts : PlainFile → List CVariable
linked_starts file = map (linked_variable (in_program file)) (flat_map start_literals file.statics)

abbrev pub calls_of_helpers : List Function → List Statement
calls_of_helpers fs = map (λ (f : Function). call None (by_name f.prototype.name) []) fs

-- the stores of constants, in order
abbrev pub stores_of : PlainFile → List Statement
stores_of file = flat_map (λ (x : PlainStatic). constant_code [] x.start (owner_of x) nothing_known) (filter (λ (x : PlainStatic). x.is_constant) file.statics)

-- the helper that does them, by the names in the program
abbrev pub helpers_of : Renaming → List Statement → List Function
helpers_of r [] = []
helpers_of r (s ∷ ss) = record {
  is_shared = false;
  prototype = record { is_static = false; result = None; name = r (codes "__hci"); parameters = [] };
  body = body [] (in_order (map (λ (x : Statement). statement_with x r) (s ∷ ss)));
} ∷ []

-- `int main(void) { int status; .. status = __main(); return status; }`
abbrev pub main_function : List Function → Function
main_function helpers = record {
  is_shared = false;
  prototype = record { is_static = false; result = Some ty.Int; name = codes "main"; parameters = [] };
  body = body (record { ty = local.Scalar ty.Int; name = codes "status" } ∷ [])
      (in_order (calls_of_helpers helpers
      ++ call (Some (named (codes "status"))) (by_name (codes "__main")) [] ∷ give (Some (load (named (codes "status")))) ∷ []));
}

-- The program of a file alone.
pub record LinkedAlone (file : PlainFile) (program : CProgram) : Type 0 where
  pub helpers : List Function  -- what is called before `main`
  pub functions : functions_of (items_of program.items) ≡ map (linked_function []) (named_file file).functions ++ helpers ++ main_function helpers ∷ []
  pub variables : variables_of (items_of program.items)
      ≡ map linked_static (named_file file).statics ++ flat_map linked_literals (named_file file).functions ++ linked_starts file
  pub helpers_named : Every (λ (f : Function). is_helper f.prototype.name ≡ true) helpers
  pub once : all_differ
      (map (λ (f : Function). f.prototype.name) (functions_of (items_of program.items)) ++ map (λ (v : CVariable). v.name) (variables_of (items_of program.items))) ≡ true
  pub no_exit : declares_atexit (items_of program.items) ≡ false  -- nothing is called `atexit`
  pub stored : helpers ≡ helpers_of (in_program file) (stores_of file)

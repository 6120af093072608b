-- The table of names says what the file's names stand for.
use Rattle.std.proofs.Common.{◌≡◌, ℕ, suc, Bool, true, false, cond, List, [], ◌∷◌, ◌++◌, Some, Result, Ok, Err, refl, ap, sym, ◌∙◌}
use Rattle.std.specs.Prelude.{bytes_eq, OnOk}
use Rattle.std.specs.Borrow.{Bor}
use Rattle.std.specs.HashMap.{HashMap, get_by}
use Rattle.std.specs.Map.{lookup}
use Rattle.std.proofs.lemmas.Slice.Eq.{bytes_eq-Decides}
use Rattle.cc_whole.specs.Known.{library}
use Rattle.cc_whole.specs.Plain.{Item, declares, declares_variable, defines, defines_variable, functions_of, variables_of}
use Rattle.cc_whole_mean.specs.declared.named.Named.{Named}
use Rattle.cc_whole_mean.specs.declared.named.Named.TheVariants.{Function as function}
use Rattle.cc_whole_mean.specs.Scope.{Scope, bind, bind_variables, bind_functions, function_names, no_names}
use Rattle.cc_whole_mean.specs.Start.{file_names}
use Rattle.cc_whole_start.specs.Walk.{numbers_behind}

bytes_eq-swap : (x y : List ℕ) → bytes_eq x y ≡ bytes_eq y x
bytes_eq-swap x y = by (bytes_eq x y) (bytes_eq y x) refl refl
  where
    by : (s t : Bool) → bytes_eq x y ≡ s → bytes_eq y x ≡ t → s ≡ t
    by true true e f = refl
    by false false e f = refl
    by true false e f = sym ((bytes_eq-Decides y x).1 (sym ((bytes_eq-Decides x y).0 e))) ∙ f
    by false true e f = sym e ∙ (bytes_eq-Decides x y).1 (sym ((bytes_eq-Decides y x).0 f))

-- a table after one more name
pub table-bind : (name : Bor (List ℕ)) (named : Named) (old new : Scope)
    → ((q : Bor (List ℕ)) → new q.now ≡ cond (bytes_eq name.now q.now) (Some named) (old q.now)) → new ≡ bind name.now named old
table-bind name named old new updates = λ j x. at x j
  where
    at : (x : List ℕ) → new x ≡ bind name.now named old x
    at x = updates (record { ref_ptr = (0, 0); now = x }) ∙ ap (λ t. cond t (Some named) (old x)) (bytes_eq-swap name.now x)

-- a table without names
pub table-empty : {S : Type 0} (m : HashMap (Bor (List ℕ)) Named S) → m.entries ≡ [] → (λ (x : List ℕ). get_by (λ key. bytes_eq x key.now) m) ≡ no_names
table-empty m e = λ j x. ap (lookup (λ (key : Bor (List ℕ)). bytes_eq x key.now)) e j

-- ---- the names of a file

-- the library functions stand behind those of the program
functions-library : (items : List Item) (names : List (List ℕ)) (n : ℕ) (scope : Scope)
    → bind_functions (function_names (functions_of items) ++ names) n scope
    ≡ bind_functions names (numbers_behind items n) (bind_functions (function_names (functions_of items)) n scope)
functions-library [] names n scope = refl
functions-library (declares p ∷ rest) names n scope = functions-library rest names n scope
functions-library (declares_variable t name ∷ rest) names n scope = functions-library rest names n scope
functions-library (defines f ∷ rest) names n scope = functions-library rest names (suc n) (bind f.prototype.name _ scope)
functions-library (defines_variable x ∷ rest) names n scope = functions-library rest names n scope

-- the names of a file, bound in three steps
pub file-names : (items : List Item) (number : ℕ) (empty variables functions whole : Scope) → empty ≡ no_names
    → variables ≡ bind_variables (variables_of items) 0 empty
    → functions ≡ bind_functions (function_names (functions_of items)) 1 variables
    → number ≡ numbers_behind items 1
    → whole ≡ bind_functions library number functions
    → whole ≡ file_names items
file-names items number empty variables functions whole none vs fs n all =
    all ∙ ap (λ k. bind_functions library k functions) n ∙ ap (bind_functions library (numbers_behind items 1)) fs
    ∙ ap (λ s. bind_functions library (numbers_behind items 1) (bind_functions (function_names (functions_of items)) 1 s))
    (vs ∙ ap (bind_variables (variables_of items) 0) none)
    ∙ sym (functions-library items library 1 (bind_variables (variables_of items) 0 no_names))

-- ---- the library functions

pub bound-so : (a b : List ℕ) (i j : ℕ) (old from new : Scope) → new ≡ bind a (function i) old → a ≡ b → i ≡ j → old ≡ from → new ≡ bind b (function j) from
bound-so a b i j old from new e name number before =
    e ∙ ap (λ x. bind x (function i) old) name ∙ ap (λ n. bind b (function n) old) number ∙ ap (bind b (function j)) before

pub on-ok : {A E P Q : Type 0} (r : Result A E) → (P → Q) → OnOk r P → OnOk r Q
on-ok (Ok a) f p = f p
on-ok (Err e) f p = tt

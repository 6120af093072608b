-- The files of a program: joining their plain units gives the plain program of the joined cores.
use Rattle.std.proofs.Common.{◌≡◌, ℕ, suc, Bool, true, false, not, ◌&&◌, ◌||◌, cond, if◌then◌else◌, List, [], ◌∷◌, ◌++◌, map, filter, refl, sym, ◌∙◌, ap, subst}
use Rattle.std.specs.Prelude.{bytes_eq, codes, Some}
use Rattle.std.specs.List.{list_all, list_any}
use Rattle.std.proofs.lemmas.List.{map-append}
use Rattle.std.proofs.lemmas.List.Folds.{list_all-append}
use Rattle.cf_base.proofs.Tests.{both, all_of}
use Rattle.cf_base.specs.World.{Outcome}
use Rattle.cf_core.specs.Types.{Name}
use Rattle.cf_core.specs.Classes.{Class}
use Rattle.cf_core.specs.Core.{Function, Static, CoreFile}
use Rattle.cf_core.specs.Calls.{Program, Setting}
use Rattle.cf_core.specs.Program.{Mean}
use Rattle.cf_core.specs.Joined as core
use Rattle.cf_plain.specs.Plain.{PlainFunction, PlainStatic, PlainFile}
use Rattle.cf_plain.specs.Program.{PlainProgram, PlainSetting, PlainMean}
use Rattle.cf_plain.specs.Joined as plain
use Rattle.cf_plain.specs.Joined.{files_mean}
use Rattle.cf_sequence.specs.Built.{is_built_function, is_built_static, is_built_setting, is_none, is_built_file}
use Rattle.cf_sequence.specs.Sequenced.{sequenced, sequenced_function, sequenced_file}
use Rattle.cf_sequence.proofs.NoVirtual.{empty-list}
use Rattle.cf_sequence.proofs.Whole.{of_parts, programs-agree}
use Rattle.cf_sequence.proofs.SameStatics.{same-functions}
use Rattle.cf_sequence.proofs.JoinedObjects.{beside as object_beside, placed, set_among, are_constant, built-constant, new-all, new-same as new-same-objects, objects-joined, settings-joined, Set, none-needed, none-needed-beside}
use Rattle.cf_sequence.proofs.OwnNames.{in_file, is_own, own-functions, own-objects, own-is}

abbrev beside : Function → PlainFunction
beside f = sequenced_function [] [] f

-- ---- shared things stand once

any-same : (name : Name) (hs : List Function) → list_any (λ (g : PlainFunction). bytes_eq g.name name) (map beside hs) ≡ list_any (λ (g : Function). bytes_eq g.name name) hs
any-same name [] = refl
any-same name (h ∷ hs) = ap (λ b. bytes_eq h.name name || b) (any-same name hs)

pick-new : (b c : Bool) (f : Function) (old : List Function) (new : List PlainFunction) → c ≡ b → new ≡ map beside old
    → cond (not c) (beside f ∷ new) new ≡ map beside ((if b then [] else f ∷ []) ++ old)
pick-new true c f old new e h = subst (λ c. cond (not c) (beside f ∷ new) new ≡ map beside old) (sym e) h
pick-new false c f old new e h = subst (λ c. cond (not c) (beside f ∷ new) new ≡ beside f ∷ map beside old) (sym e) (ap (λ (z : List PlainFunction). beside f ∷ z) h)

new-same : (hs gs : List Function) → plain.new_functions (map beside hs) (map beside gs) ≡ map beside (core.new_functions hs gs)
new-same hs [] = refl
new-same hs (f ∷ gs) =
    pick-new (list_any (λ (g : Function). bytes_eq g.name f.name) hs) (list_any (λ (g : PlainFunction). bytes_eq g.name f.name) (map beside hs)) f (core.new_functions hs gs)
    (plain.new_functions (map beside hs) (map beside gs)) (any-same f.name hs) (new-same hs gs)

-- ---- a program and a further file

abbrev plain_file : List PlainStatic → List PlainFunction → PlainFile
plain_file xs fs = record { classes = []; functions = fs; statics = xs }

abbrev of_plain : List PlainStatic → List PlainSetting → List PlainFunction → PlainProgram
of_plain xs ks fs = record { classes = []; functions = fs; statics = xs; constants = ks; initialisers = [] }

-- the name of the function that initialises its objects
abbrev starter : ℕ → Name
starter k = core.in_file k (codes "__sti")

module _ (xs ys : List Static) (ks : List Setting) (hs gs : List Function) (k : ℕ) where
  abbrev new : List Static
  new = core.new_statics xs ys

  abbrev sets : List Setting
  sets = map (core.constant_setting (starter k)) (filter core.sets_constant new)

  abbrev functions : List Function
  functions = hs ++ core.new_functions hs gs

  abbrev so_far : Program
  so_far = of_parts xs ks hs

  abbrev then_on : Program
  then_on = of_parts (xs ++ new) (ks ++ sets) functions

  with-core : are_constant ys ≡ true → core.with_file so_far k (in_file ys gs) ≡ then_on
  with-core ok =
      ap (λ (zs : List Static). let R : Program = record { classes = []; functions = functions; statics = xs ++ new; constants = ks ++ sets; initialisers = core.file_initialiser (starter k) zs } in R)
      (none-needed new (new-all (λ (x : Static). x.is_constant) xs ys ok))

  -- the plain program so far, with the functions beside its own
  plain-so-far : list_all is_built_function hs ≡ true → sequenced so_far ≡ of_plain (map (object_beside xs) xs) (map (placed xs) ks) (map beside hs)
  plain-so-far built = ap (of_plain (map (object_beside xs) xs) (map (placed xs) ks)) (same-functions xs hs built)

  plain-then-on : are_constant xs ≡ true → are_constant ys ≡ true → list_all is_built_function functions ≡ true
      → sequenced then_on ≡ of_plain (map (object_beside xs) xs ++ map (object_beside ys) new) (map (placed (xs ++ new)) (ks ++ sets)) (map beside functions)
  plain-then-on olds news built =
      ap (of_plain (map (object_beside (xs ++ new)) (xs ++ new)) (map (placed (xs ++ new)) (ks ++ sets))) (same-functions (xs ++ new) functions built)
      ∙ ap (λ (us : List PlainStatic). of_plain us (map (placed (xs ++ new)) (ks ++ sets)) (map beside functions)) (objects-joined xs ys olds news)

  with-plain : are_constant xs ≡ true → set_among xs ks ≡ true → list_all (is_built_setting xs) ks ≡ true → list_all is_built_function hs ≡ true
      → list_all (is_built_static ys) ys ≡ true → list_all is_built_function gs ≡ true → list_all is_built_function functions ≡ true
      → plain.with_file (sequenced so_far) k (sequenced_file (in_file ys gs)) ≡ sequenced then_on
  with-plain olds there set built news ok all =
      let os = map (object_beside xs) xs in
      let us = map (object_beside ys) new in
      let constant = built-constant ys ys news in
      let step : List PlainStatic → PlainProgram = λ zs. record {
        classes = [];
        functions = map beside hs ++ plain.new_functions (map beside hs) (map beside gs);
        statics = os ++ zs;
        constants = map (placed xs) ks ++ map (plain.constant_setting (starter k)) (filter plain.sets_constant zs);
        initialisers = plain.file_initialiser (starter k) (filter plain.needs_initialiser zs);
      } in
      ap (λ (fs : List PlainFunction). plain.with_file (sequenced so_far) k (plain_file (map (object_beside ys) ys) fs)) (same-functions ys gs ok)
      ∙ ap (λ Q. plain.with_file Q k (plain_file (map (object_beside ys) ys) (map beside gs))) (plain-so-far built)
      ∙ ap step (new-same-objects xs xs ys ys)
      ∙ ap (λ (zs : List PlainStatic). let R : PlainProgram = record (step us) { initialisers = plain.file_initialiser (starter k) zs } in R) (none-needed-beside ys new (new-all (λ (x : Static). x.is_constant) xs ys constant))
      ∙ ap (λ (fs : List PlainFunction). of_plain (os ++ us) (map (placed xs) ks ++ map (plain.constant_setting (starter k)) (filter plain.sets_constant us)) (map beside hs ++ fs)) (new-same hs gs)
      ∙ ap (of_plain (os ++ us) (map (placed xs) ks ++ map (plain.constant_setting (starter k)) (filter plain.sets_constant us))) (sym (map-append beside hs (core.new_functions hs gs)))
      ∙ ap (λ (zs : List PlainSetting). of_plain (os ++ us) zs (map beside functions)) (Set.same (settings-joined xs ys (starter k) ks news there set))
      ∙ sym (plain-then-on olds constant all)

-- ---- what is joined is built

all-both : (xs ys : List Function) → list_all is_built_function xs ≡ true → list_all is_built_function ys ≡ true → list_all is_built_function (xs ++ ys) ≡ true
all-both [] ys a b = b
all-both (x ∷ xs) ys a b =
    let parts = both (is_built_function x) (list_all is_built_function xs) a in
    all_of (is_built_function x) (list_all is_built_function (xs ++ ys)) parts.0 (all-both xs ys parts.1 b)

functions-built : (hs gs : List Function) → list_all is_built_function gs ≡ true → list_all is_built_function (core.new_functions hs gs) ≡ true
functions-built hs [] ok = refl
functions-built hs (f ∷ gs) ok =
    let parts = both (is_built_function f) (list_all is_built_function gs) ok in
    all-both (if list_any (λ (g : Function). bytes_eq g.name f.name) hs then [] else f ∷ []) (core.new_functions hs gs)
    (by-test (list_any (λ (g : Function). bytes_eq g.name f.name) hs) parts.0) (functions-built hs gs parts.1)
  where
    by-test : (b : Bool) → is_built_function f ≡ true → list_all is_built_function (if b then [] else f ∷ []) ≡ true
    by-test true e = refl
    by-test false e = all_of (is_built_function f) true e refl

record Together (files : List CoreFile) (xs : List Static) (ks : List Setting) (hs : List Function) (k : ℕ) : Type 0 where
  objects : List Static
  settings : List Setting
  functions : List Function
  set : list_all (is_built_setting objects) settings ≡ true
  built : list_all is_built_function functions ≡ true
  in_core : core.with_files (of_parts xs ks hs) k files ≡ of_parts objects settings functions
  in_plain : plain.with_files (sequenced (of_parts xs ks hs)) k (map sequenced_file files) ≡ sequenced (of_parts objects settings functions)

file-is : (file : CoreFile) → is_none file.classes ≡ true → file ≡ in_file file.statics file.functions
file-is file none = ap (λ (cs : List Class). let x : CoreFile = record { classes = cs; functions = file.functions; statics = file.statics } in x) (empty-list file.classes none)

together : (files : List CoreFile) (xs : List Static) (ks : List Setting) (hs : List Function) (k : ℕ) → list_all is_built_file files ≡ true → are_constant xs ≡ true
    → set_among xs ks ≡ true → list_all (is_built_setting xs) ks ≡ true → list_all is_built_function hs ≡ true → Together files xs ks hs k
together [] xs ks hs k ok olds there set built = record { objects = xs; settings = ks; functions = hs; set = set; built = built; in_core = refl; in_plain = refl }
together (file ∷ files) xs ks hs k ok olds there set built =
    let parts = both (is_built_file file) (list_all is_built_file files) ok in
    let one = both (is_none file.classes) (list_all (is_own file.statics) file.statics && list_all is_built_function file.functions) parts.0 in
    let two = both (list_all (is_own file.statics) file.statics) (list_all is_built_function file.functions) one.1 in
    let names = core.local_names (in_file file.statics file.functions) in
    let ys : List Static = map (core.static_in_file (core.name_in k names)) file.statics in
    let gs : List Function = map (core.function_in_file (core.name_in k names)) file.functions in
    let news = own-objects k names file.statics two.0 in
    let good = own-functions k names file.functions two.1 in
    let all = all-both hs (core.new_functions hs gs) built (functions-built hs gs good) in
    let now = settings-joined xs ys (starter k) ks news there set in
    let constant = built-constant ys ys news in
    let objects : are_constant (xs ++ core.new_statics xs ys) ≡ true =
    list_all-append (λ (x : Static). x.is_constant) xs (core.new_statics xs ys)
    ∙ all_of (are_constant xs) (are_constant (core.new_statics xs ys)) olds (new-all (λ (x : Static). x.is_constant) xs ys constant) in
    let rest = together files (xs ++ core.new_statics xs ys) (ks ++ sets xs ys ks hs gs k) (hs ++ core.new_functions hs gs) (suc k) parts.1 objects now.among now.built all in
    record {
      objects = rest.objects;
      settings = rest.settings;
      functions = rest.functions;
      set = rest.set;
      built = rest.built;
      in_core = ap (λ x. core.with_files (core.with_file (of_parts xs ks hs) k (core.own_names k x)) (suc k) files) (file-is file one.0)
          ∙ ap (λ P. core.with_files P (suc k) files) (with-core xs ys ks hs gs k constant) ∙ rest.in_core;
      in_plain = ap (λ x. plain.with_files (plain.with_file (sequenced (of_parts xs ks hs)) k (plain.own_names k (sequenced_file x))) (suc k) (map sequenced_file files)) (file-is file one.0)
          ∙ ap (λ x. plain.with_files (plain.with_file (sequenced (of_parts xs ks hs)) k x) (suc k) (map sequenced_file files)) (own-is k file.statics file.functions two.0 two.1)
          ∙ ap (λ Q. plain.with_files Q (suc k) (map sequenced_file files)) (with-plain xs ys ks hs gs k olds there set built news good all) ∙ rest.in_plain;
    }

-- The plain units of files have the meaning of their cores.
pub files-keep : (files : List CoreFile) → list_all is_built_file files ≡ true → (input : List ℕ) (heap depth n : ℕ) (x : Outcome)
    → Mean (core.program_of files) input heap depth n ≡ Some x → files_mean (map sequenced_file files) input heap depth n ≡ Some x
files-keep files ok input heap depth n x is =
    let all = together files [] [] [] 1 ok refl refl refl refl in
    ap (λ Q. PlainMean Q input heap depth n) all.in_plain
    ∙ programs-agree all.objects all.settings all.functions all.set all.built input heap depth n x (sym (ap (λ P. Mean P input heap depth n) all.in_core) ∙ is)

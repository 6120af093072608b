-- Functions of joined files pass: each is one of a file, whose local names have the file's number behind.
use Rattle.std.proofs.Common.{◌≡◌, ℕ, suc, Bool, true, false, ◌&&◌, ◌||◌, not, ◌==◌, if◌then◌else◌, List, [], ◌∷◌, ◌++◌, map, codes, bytes_eq, refl, sym, ◌∙◌, ap, subst, inl, inr}
use Rattle.std.specs.Prelude.{cond, filter, decimal, ◌⊎◌}
use Rattle.std.specs.List.{list_all, list_any}
use Rattle.std.proofs.lemmas.List.{append_assoc}
use Rattle.cf_base.proofs.Tests.{both, all_of, same_bytes}
use Rattle.cf_core.specs.Types.{Name, parameters, result as result_type}
use Rattle.cf_core.specs.Core.{Function}
use Rattle.cf_core.specs.Calls.{is_library}
use Rattle.cf_core.specs.Joined.{in_file, name_in}
use Rattle.cf_plain.specs.Plain.{PlainFunction, PlainStatic, PlainFile}
use Rattle.cf_plain.specs.Joined.{renamed_all, local_names, own_names, new_functions, with_file, with_files, program_of}
use Rattle.cf_plain.specs.Program.{PlainProgram}
use Rattle.cf_plain.specs.Running.{header}
use Rattle.cf_plain_kept.specs.Kept.{nothing_set}
use Rattle.cf_lower_kept.specs.Opened.{comes_to, parameters_open, function_opens}
use Rattle.cf_lower_kept.specs.Ready.{function_ready}
use Rattle.cf_lower_place.specs.Named.{is_signature, function_in_place}
use Rattle.cf_lower_needed.specs.Leading.{no_ways}
use Rattle.cf_lower_needed.proofs.Tells.{or-right}
use Rattle.cf_lower_needed.proofs.Places.{either}
use Rattle.cf_lower_needed.proofs.Labels.{choose, true-not}
use Rattle.cf_lower_needed.proofs.Declared.{not-both}
use Rattle.cf_lower_program.specs.Names as names
use Rattle.cf_lower_program.specs.Names.{is_foreign, may_be_function, may_be_object, is_well_named, has_own_type, same_types}
use Rattle.cf_lower_program.specs.Lowerable.{Lowerable}
use Rattle.cf_lower.specs.Functions.{own_prototypes, own_variables, named_in}
use Rattle.cc_whole.specs.Known as known
use Rattle.cc_whole.specs.Plain.{Item}
use Rattle.cc_whole.specs.Spellable.{spellable_items}
use Rattle.cf_lower_tested.specs.Named.{passes, AllLowerable}
use Rattle.cf_lower_tested.proofs.RenamedTold.{all-ready-same}
use Rattle.cf_lower_tested.proofs.RenamedOpen.{all-open-same}
use Rattle.cf_lower_tested.proofs.RenamedPlace.{function-place-too}
use Rattle.cf_lower_tested.proofs.Files.{functions-pass}

-- ---- lists

module _ {A : Type 0} (p : A → Bool) where
  all-behind : (xs ys : List A) → list_all p xs ≡ true → list_all p ys ≡ true → list_all p (xs ++ ys) ≡ true
  all-behind [] ys e k = k
  all-behind (x ∷ xs) ys e k = let two = both (p x) (list_all p xs) e in all_of (p x) (list_all p (xs ++ ys)) two.0 (all-behind xs ys two.1 k)

  all-kept : (q : A → Bool) (xs : List A) → list_all p xs ≡ true → list_all p (filter q xs) ≡ true
  all-kept q [] e = refl
  all-kept q (x ∷ xs) e = let two = both (p x) (list_all p xs) e in by (q x) two.0 (all-kept q xs two.1)
    where
      by : (b : Bool) → p x ≡ true → list_all p (filter q xs) ≡ true → list_all p (cond b (x ∷ filter q xs) (filter q xs)) ≡ true
      by true one rest = all_of (p x) (list_all p (filter q xs)) one rest
      by false one rest = rest

all-mapped : {A B : Type 0} (p : A → Bool) (q : B → Bool) (f : A → B) → ((x : A) → p x ≡ true → q (f x) ≡ true) → (xs : List A) → list_all p xs ≡ true
    → list_all q (map f xs) ≡ true
all-mapped p q f more [] e = refl
all-mapped p q f more (x ∷ xs) e =
    let two = both (p x) (list_all p xs) e in
    all_of (q (f x)) (list_all q (map f xs)) (more x two.0) (all-mapped p q f more xs two.1)

-- a name that is among others is one of them
among : (P : Name → Bool) (name : Name) (ns : List Name) → list_all P ns ≡ true → list_any (bytes_eq name) ns ≡ true → P name ≡ true
among P name [] all e = absurd (let k = e in cc)
among P name (n ∷ ns) all e =
    let two = both (P n) (list_all P ns) all in
    choose (bytes_eq name n) (λ same. ap P (same_bytes name n same) ∙ two.0)
    (λ other. among P name ns two.1 (subst (λ b. b || list_any (bytes_eq name) ns ≡ true) other e))

-- ---- names of the library

-- what holds of the three holds of each
pub of-library : (P : Name → Type 0) (name : Name) → is_library name ≡ true → P (codes "putchar") → P (codes "getchar") → P (codes "exit") → P name
of-library P name e put get ends = by (either (bytes_eq name (codes "putchar") || bytes_eq name (codes "getchar")) (bytes_eq name (codes "exit")) e)
  where
    first : (bytes_eq name (codes "putchar") ≡ true) ⊎ (bytes_eq name (codes "getchar") ≡ true) → P name
    first (inl i) = subst P (sym (same_bytes name (codes "putchar") i)) put
    first (inr i) = subst P (sym (same_bytes name (codes "getchar") i)) get

    by : (bytes_eq name (codes "putchar") || bytes_eq name (codes "getchar") ≡ true) ⊎ (bytes_eq name (codes "exit") ≡ true) → P name
    by (inl i) = first (either (bytes_eq name (codes "putchar")) (bytes_eq name (codes "getchar")) i)
    by (inr i) = subst P (sym (same_bytes name (codes "exit") i)) ends

foreign-other : (name : Name) → is_foreign name ≡ true → not (is_library name) ≡ true
foreign-other name e =
    let a = not (list_any (λ front. names.is_own_name front name) names.own_fronts) in
    let b = not (known.is_helper name) in
    let c = not (bytes_eq name (codes "__sti")) in
    let d = not (known.is_library name) in
    let five = a && b && c && d && not (known.is_main name) in
    let no = both (a && b && c) d (both (a && b && c && d) (not (known.is_main name)) (both five (not (names.ends_as_file name)) e).0).0 in
    choose (is_library name)
    (λ here. absurd (true-not (known.is_library name) (of-library (λ n. known.is_library n ≡ true) name here refl refl refl) no.1)) (λ other. ap not other)

-- an underscore stands in the name of what is local to a file
has-under : (name rest : Name) → list_any (λ (c : ℕ). c == 95) (name ++ 95 ∷ rest) ≡ true
has-under [] rest = refl
has-under (c ∷ cs) rest = or-right (c == 95) (list_any (λ (d : ℕ). d == 95) (cs ++ 95 ∷ rest)) (has-under cs rest)

file-other : (k : ℕ) (name : Name) → is_library (in_file k name) ≡ false
file-other k name =
    choose (is_library (in_file k name))
    (λ here. absurd (not-both (list_any (λ (c : ℕ). c == 95) (in_file k name))
    (ap (list_any (λ (c : ℕ). c == 95)) (append_assoc name (codes "__u") (decimal k)) ∙ has-under name (95 ∷ 117 ∷ decimal k))
    (of-library (λ n. list_any (λ (c : ℕ). c == 95) n ≡ false) (in_file k name) here refl refl refl))) (λ other. other)

-- ---- one file

module _ (k : ℕ) (ns : List Name) (others : list_all (λ (n : Name). not (is_library n)) ns ≡ true) where
  abbrev r : Name → Name
  r name = name_in k ns name

  keeps : (name : Name) → is_library name ≡ true → r name ≡ name
  keeps name e = by (list_any (bytes_eq name) ns) refl
    where
      by : (b : Bool) → list_any (bytes_eq name) ns ≡ b → (if b then in_file k name else name) ≡ name
      by true i = absurd (true-not (is_library name) e (among (λ n. not (is_library n)) name ns others i))
      by false i = refl

  fresh : (name : Name) → is_library name ≡ false → is_library (r name) ≡ false
  fresh name e = by (list_any (bytes_eq name) ns)
    where
      by : (b : Bool) → is_library (if b then in_file k name else name) ≡ false
      by true = file-other k name
      by false = e

  pub passes-too : (f : PlainFunction) → passes f ≡ true → passes (record f { name = r f.name; body = renamed_all r f.body }) ≡ true
  passes-too f e =
      let g : PlainFunction = record f { name = r f.name; body = renamed_all r f.body } in
      let types = parameters f.type ++ f.locals in
      let two = both (function_ready f) (function_opens f && function_in_place [] f) e in
      let three = both (function_opens f) (function_in_place [] f) two.1 in
      all_of (function_ready g) (function_opens g && function_in_place [] g) (all-ready-same r types (result_type f.type) f.body nothing_set ∙ two.0)
      (all_of (function_opens g) (function_in_place [] g)
      (ap (comes_to []) (all-open-same r types (result_type f.type) f.body nothing_set no_ways (parameters_open 0 (parameters f.type))) ∙ three.0)
      (function-place-too r keeps fresh [] f three.1))

-- the local names of a lowered file are none of the library's
module _ (file : PlainFile) (low : Lowerable file) where
  names-tested : (list_all (λ (f : PlainFunction). may_be_function f.name) file.functions ≡ true)
      × (list_all (λ (x : PlainStatic). may_be_object x.name) file.statics ≡ true)
  names-tested =
      let items : List Item = own_prototypes file ++ own_variables file ++ named_in file in
      let a = list_all (λ (f : PlainFunction). may_be_function f.name) file.functions in
      let b = list_all (λ (x : PlainStatic). may_be_object x.name) file.statics in
      let c = list_all is_well_named (named_in file) in
      let d = list_all has_own_type items in
      let e = list_all (same_types items) items in
      both a b (both (a && b) c (both (a && b && c) d (both (a && b && c && d) e (both (a && b && c && d && e) (spellable_items items) low.names).0).0).0).0

  local-others : list_all (λ (n : Name). not (is_library n)) (local_names file) ≡ true
  local-others =
      let p = (λ (n : Name). not (is_library n)) in
      all-behind p (map (λ (f : PlainFunction). f.name) (filter (λ (f : PlainFunction). f.is_local) file.functions))
      (map (λ (x : PlainStatic). x.name) (filter (λ (x : PlainStatic). x.is_local) file.statics))
      (all-mapped (λ (f : PlainFunction). may_be_function f.name) p (λ (f : PlainFunction). f.name)
      (λ f i. foreign-other f.name (both (is_foreign f.name) (names.is_function_name f.name) i).0) (filter (λ (f : PlainFunction). f.is_local) file.functions)
      (all-kept (λ (f : PlainFunction). may_be_function f.name) (λ (f : PlainFunction). f.is_local) file.functions names-tested.0))
      (all-mapped (λ (x : PlainStatic). may_be_object x.name) p (λ (x : PlainStatic). x.name)
      (λ x i. foreign-other x.name (both (is_foreign x.name) (names.is_object_name x.name) i).0) (filter (λ (x : PlainStatic). x.is_local) file.statics)
      (all-kept (λ (x : PlainStatic). may_be_object x.name) (λ (x : PlainStatic). x.is_local) file.statics names-tested.1))

  own-pass : (k : ℕ) → list_all (λ (f : PlainFunction). passes f) (own_names k file).functions ≡ true
  own-pass k =
      let r = name_in k (local_names file) in
      all-mapped (λ (f : PlainFunction). passes f) (λ (f : PlainFunction). passes f)
      (λ (f : PlainFunction). record f { name = r f.name; body = renamed_all r f.body })
      (λ f i. passes-too k (local_names file) local-others f i) file.functions (functions-pass file low)

-- ---- all files

pub with-files-pass : (files : List PlainFile) → AllLowerable files → (k : ℕ) (Q : PlainProgram) → list_all (λ (f : PlainFunction). passes f) Q.functions ≡ true
    → list_all (λ (f : PlainFunction). passes f) (with_files Q k files).functions ≡ true
with-files-pass [] all k Q e = e
with-files-pass (file ∷ files) all k Q e =
    with-files-pass files all.1 (suc k) (with_file Q k (own_names k file))
    (all-behind (λ (f : PlainFunction). passes f) Q.functions (new_functions Q.functions (own_names k file).functions) e
    (all-kept (λ (f : PlainFunction). passes f) (λ (f : PlainFunction). not (list_any (λ (g : PlainFunction). bytes_eq g.name f.name) Q.functions))
    (own_names k file).functions (own-pass file all.0 k)))

pub files-pass : (files : List PlainFile) → AllLowerable files → list_all (λ (f : PlainFunction). passes f) (program_of files).functions ≡ true
files-pass files all = with-files-pass files all 1 (record { classes = []; functions = []; statics = []; constants = []; initialisers = [] }) refl

in-place-shaped : (f : PlainFunction) → function_in_place [] f ≡ true → is_signature f.type ≡ true
in-place-shaped f e = (both (is_signature f.type) _ e).0

passed-shaped : (f : PlainFunction) → passes f ≡ true → is_signature f.type ≡ true
passed-shaped f e =
    let two = both (function_ready f) (function_opens f && function_in_place [] f) e in
    in-place-shaped f (both (function_opens f) (function_in_place [] f) two.1).1

-- what passes has a type without const on a part of it
pub types-shaped : (fs : List PlainFunction) → list_all (λ (f : PlainFunction). passes f) fs ≡ true → list_all (λ (g : Function). is_signature g.type) (map header fs) ≡ true
types-shaped fs e = all-mapped (λ (f : PlainFunction). passes f) (λ (g : Function). is_signature g.type) header passed-shaped fs e

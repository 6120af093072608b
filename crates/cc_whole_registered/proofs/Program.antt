-- A valid program that does not declare `atexit` registers nothing.
use Rattle.std.proofs.Common.{◌≡◌, ◌≢◌, ℕ, zero, suc, ◌+◌, ◌-◌, ◌≤◌, Bool, true, false, not, ◌||◌, ◌==◌, cond, List, [], ◌∷◌, ◌++◌, length, map, pos, Option, Some, None, Result, Ok, Err, refl, ap, sym, subst, ◌∙◌, arith}
use Rattle.std.specs.Prelude.{bytes_eq, codes, find, slice_get}
use Rattle.std.specs.List.{list_any}
use Rattle.std.proofs.lemmas.Bool.Decides.{nat_tests}
use Rattle.cf_base.specs.declared.kind.Kind.TheVariants as kind
use Rattle.cf_base.specs.Integers.{convert}
use Rattle.cf_base.specs.World.{World, Ran, Went, Stops}
use Rattle.cf_base.proofs.Tests.{same_bytes, bytes_same}
use Rattle.cc_whole.specs.declared.types.CConstant.{CConstant}
use Rattle.cc_whole.specs.declared.types.CConstant.TheVariants as constants
use Rattle.cc_whole.specs.declared.types.CVariableType.{CVariableType}
use Rattle.cc_whole.specs.declared.unit.CInitialiser.{CInitialiser}
use Rattle.cc_whole.specs.declared.unit.CInitialiser.TheVariants as initialiser
use Rattle.cc_whole.specs.declared.unit.CPair.{CPair}
use Rattle.cc_whole.specs.declared.unit.CPrototype.{CPrototype}
use Rattle.cc_whole.specs.declared.unit.CVariable.{CVariable}
use Rattle.cc_whole.specs.Plain.{Function, Item, declares, declares_variable, defines, defines_variable, name_of, functions_of, variables_of}
use Rattle.cc_whole.specs.Fault.{Checks, fine, holds, moved, ◌before◌}
use Rattle.cc_whole.specs.Known.{Meant, function as a_function, object, Named, lookup, is_in, library}
use Rattle.cc_whole.specs.Landmarks.{item_marks, prototype_marks, static_marks, variable_marks}
use Rattle.cc_whole.specs.Statements.{checked_body}
use Rattle.cc_whole.specs.Valid.{named_by, inside, defined_after, may_be_shared, checked_prototype, checked_variable, checked_start, may_start, checked_function, paired, checked_pairs, checked_item, checked_items, first_fault}
use Rattle.cc_whole.specs.Numbers.{fits_constant}
use Rattle.cc_whole_memory.specs.declared.store.Storage.TheVariants as storage
use Rattle.cc_whole_memory.specs.declared.value.Pointer.TheVariants as pointer
use Rattle.cc_whole_memory.specs.declared.value.Value.{Value}
use Rattle.cc_whole_memory.specs.declared.value.Value.TheVariants as value
use Rattle.cc_whole_memory.specs.Blocks.{Memory, no_memory, born, write}
use Rattle.cc_whole_mean.specs.declared.named.Named.{Named as Meaning}
use Rattle.cc_whole_mean.specs.declared.named.Named.TheVariants.{Variable as variable, Function as function}
use Rattle.cc_whole_mean.specs.Types.{constant_value, variable_shape, variable_size}
use Rattle.cc_whole_mean.specs.Scope.{Scope, no_names, bind, bind_variables, bind_functions, function_names}
use Rattle.cc_whole_mean.specs.Flow.{Called, Back, Gone}
use Rattle.cc_whole_mean.specs.Callee as callee
use Rattle.cc_whole_mean.specs.Callee.{Callee, own, built_in, Library, library_named, library_functions, found_library, found_function, function_named, own_or_library, callee_numbered}
use Rattle.cc_whole_mean.specs.Mean.{Program, Again, callee_of, name as by_its_name, refused, helps_in, runs}
use Rattle.cc_whole_mean.specs.Start.{file_names, program_of, kept, put_static, put_text, function_in, pair_function, put_pairs, initialised, laid_out, start, first_state}
use Rattle.cc_whole_registered.specs.Registered.{declares_atexit, NothingRegistered, RegistersNothing}
use Rattle.cc_whole_registered.proofs.Values.{Unknown, unknown-none, moved-ok, is_clean, Clean, FineMemory, Apart, clean-write}
use Rattle.cc_whole_registered.proofs.Statements.{at_exit, first, second, NoFunction, Before, bound-before, All, Other, clean-born, Calm, CalmCalled, FunctionFine, CalleeFine, FoundFine, ProgramFine, CalmAgain, run-calm, does-calm}

-- ---- names of functions

data Bound (names : List (List ℕ)) (i : ℕ) (scope : Scope) (n : List ℕ) (f : ℕ) : Type 0 where
  here : (j : ℕ) (m : List ℕ) → slice_get names j ≡ Some m → bytes_eq n m ≡ true → f ≡ i + j → Bound names i scope n f
  earlier : scope n ≡ Some (function f) → Bound names i scope n f

same-number : (f g : ℕ) → ◌≡◌ {A = Option Meaning} (Some (function f)) (Some (function g)) → f ≡ g
same-number f g e = ap function_in e

bound-one : (b : Bool) (i : ℕ) (o : Option Meaning) (f : ℕ) (P : Type 0) → cond b (Some (function i)) o ≡ Some (function f) → (b ≡ true → f ≡ i → P) → (o ≡ Some (function f) → P) → P
bound-one true i o f P e one rest = one refl (sym (same-number i f e))
bound-one false i o f P e one rest = rest e

function-bound : (names : List (List ℕ)) (i : ℕ) (scope : Scope) (n : List ℕ) (f : ℕ) → bind_functions names i scope n ≡ Some (function f) → Bound names i scope n f
function-bound [] i scope n f e = earlier e
function-bound (x ∷ names) i scope n f e = go (function-bound names (suc i) (bind x (function i) scope) n f e)
  where
    go : Bound names (suc i) (bind x (function i) scope) n f → Bound (x ∷ names) i scope n f
    go (here j m at is same) = here (suc j) m at is (omega (arith, same))
    go (earlier k) =
        bound-one (bytes_eq n x) i (scope n) f (Bound (x ∷ names) i scope n f) k (λ is same. here 0 x refl is (omega (arith, same))) (λ l. earlier l)

no-variable : (vs : List CVariable) (b : ℕ) (scope : Scope) (n : List ℕ) (f : ℕ) → bind_variables vs b scope n ≡ Some (function f) → scope n ≡ Some (function f)
no-variable [] b scope n f e = e
no-variable (v ∷ vs) b scope n f e =
    (bound-before (bytes_eq n v.name) (variable b (variable_shape v.ty)) (scope n) f (λ g h. absurd (cc))
    (no-variable vs (suc b) (bind v.name (variable b (variable_shape v.ty)) scope) n f e)).earlier

slice-behind : (xs ys : List (List ℕ)) (j : ℕ) → slice_get (xs ++ ys) (length xs + j) ≡ slice_get ys j
slice-behind [] ys j = ap (slice_get ys) (let n : 0 + j ≡ j = omega arith in n)
slice-behind (x ∷ xs) ys j = ap (slice_get (x ∷ (xs ++ ys))) (let n : suc (length xs) + j ≡ suc (length xs + j) = omega arith in n) ∙ slice-behind xs ys j

names-many : (fs : List Function) → length (function_names fs) ≡ length fs
names-many [] = refl
names-many (f ∷ fs) = ap (λ (n : ℕ). suc n) (names-many fs)

abbrev number_of : List Item → ℕ
number_of items = length (functions_of items) + 6

named-exit : (items : List Item) (n : List ℕ) (f : ℕ) → file_names items n ≡ Some (function f) → (f == number_of items) ≡ true → n ≡ at_exit
named-exit items n f e is =
    go (function-bound (function_names (functions_of items) ++ library) 1 (bind_variables (variables_of items) 0 no_names) n f e)
  where
    xs : List (List ℕ)
    xs = function_names (functions_of items)

    go : Bound (xs ++ library) 1 (bind_variables (variables_of items) 0 no_names) n f → n ≡ at_exit
    go (here j m at same l) =
        let many : length xs ≡ length (functions_of items) = names-many (functions_of items) in
        let number : f ≡ length (functions_of items) + 6 = grind (arith, nat_tests, is) in
        let place : j ≡ length xs + 5 = omega (arith, many, number, l) in
        let there : slice_get (xs ++ library) (length xs + 5) ≡ Some m = ap (slice_get (xs ++ library)) (sym place) ∙ at in
        let last : Some at_exit ≡ Some m = sym (slice-behind xs library 5) ∙ there in
        same_bytes n m same ∙ sym (some-name last)
      where
        some-name : {a b : List ℕ} → Some a ≡ Some b → a ≡ b
        some-name e = cc
    go (earlier l) = let bad : None ≡ Some (function f) = no-variable (variables_of items) 0 no_names n f l in absurd (cc)

-- ---- functions that are found

module _ (k : ℕ) (some : (0 == k) ≡ false) (p : Program) where
  abbrev AllFine : List Function → Type 0
  AllFine [] = Unit {0}
  AllFine (f ∷ fs) = FunctionFine k some p f × AllFine fs

  found-fine : (fs : List Function) (n : List ℕ) → AllFine fs → FoundFine k some p (found_function (function_named fs n))
  found-fine [] n h = tt
  found-fine (f ∷ fs) n h = go (bytes_eq f.prototype.name n) (found-fine fs n h.1)
    where
      go : (b : Bool) → FoundFine k some p (found_function (function_named fs n)) → FoundFine k some p (found_function (cond b (Some f) (function_named fs n)))
      go true rest = h.0
      go false rest = rest

  slice-fine : (fs : List Function) (i : ℕ) (g : Function) → AllFine fs → slice_get fs i ≡ Some g → FunctionFine k some p g
  slice-fine [] i g h e = absurd (cc)
  slice-fine (f ∷ fs) zero g h e = subst (FunctionFine k some p) (some-function e) h.0
    where
      some-function : {a b : Function} → Some a ≡ Some b → a ≡ b
      some-function e = cc
  slice-fine (f ∷ fs) (suc i) g h e = slice-fine fs i g h.1 e

  abbrev LibraryFine : Option Library → Type 0
  LibraryFine None = Unit {0}
  LibraryFine (Some l) = Other l

  library-if : (b : Bool) (l : Library) (o : Option Library) → Other l → LibraryFine o → LibraryFine (cond b (Some l) o)
  library-if true l o h i = h
  library-if false l o h i = i

  last-one : (b : Bool) → b ≡ false → LibraryFine (cond b (Some callee.atexit) None)
  last-one true e = absurd (cc)
  last-one false e = tt

  library-fine : (n : List ℕ) → bytes_eq n at_exit ≡ false → LibraryFine (library_named n)
  library-fine n e =
      library-if (bytes_eq n (codes "putchar")) callee.putchar _ tt
      (library-if (bytes_eq n (codes "getchar")) callee.getchar _ tt
      (library-if (bytes_eq n (codes "exit")) callee.exit _ tt
      (library-if (bytes_eq n (codes "malloc")) callee.malloc _ tt
      (library-if (bytes_eq n (codes "free")) callee.free _ tt (last-one (bytes_eq n at_exit) e)))))

  or-found : (o : Option Library) (r : Result Callee ℕ) → LibraryFine o → FoundFine k some p r → FoundFine k some p (found_library o r)
  or-found None r h i = i
  or-found (Some l) r h i = h

  slice-long : (fs : List Function) (i : ℕ) → slice_get fs i ≡ None → length fs ≤ i
  slice-long [] i e = omega arith
  slice-long (f ∷ fs) zero e = absurd (cc)
  slice-long (f ∷ fs) (suc i) e = let l = slice-long fs i e in omega (arith, l)

  program-fine : k ≡ length p.functions + 6 → AllFine p.functions → ProgramFine k some p
  program-fine is h = record {
    named = λ n e. or-found (library_named n) (found_function (function_named p.functions n)) (library-fine n e) (found-fine p.functions n h);
    numbered = numbered;
  }
    where
      behind : (i j : ℕ) → (suc i == k) ≡ false → length p.functions ≤ i → i - length p.functions ≡ j
          → FoundFine k some p (found_library (slice_get library_functions j) (Err 9))
      behind i zero e le same = tt
      behind i (suc zero) e le same = tt
      behind i (suc (suc zero)) e le same = tt
      behind i (suc (suc (suc zero))) e le same = tt
      behind i (suc (suc (suc (suc zero)))) e le same = tt
      behind i (suc (suc (suc (suc (suc zero))))) e le same =
          let five : i - length p.functions ≡ 5 = same in
          let number : suc i ≡ k = omega (arith, is, le, five) in
          absurd (let bad : (suc i == k) ≡ true = grind (arith, nat_tests, number) in let both : true ≡ false = sym bad ∙ e in cc)
      behind i (suc (suc (suc (suc (suc (suc j)))))) e le same = tt

      numbered : (f : ℕ) → (f == k) ≡ false → FoundFine k some p (callee_numbered p.functions f)
      numbered zero e = tt
      numbered (suc i) e = go (slice_get p.functions i) refl
        where
          go : (o : Option Function) → slice_get p.functions i ≡ o
              → FoundFine k some p (own_or_library o (slice_get library_functions (i - length p.functions)))
          go None at = behind i (i - length p.functions) e (slice-long p.functions i at) refl
          go (Some g) at = slice-fine p.functions i g h at

-- ---- the items of a valid program

abbrev NamesApart : List Item → Type 0
NamesApart [] = Unit {0}
NamesApart (i ∷ is) = (bytes_eq (name_of i) at_exit ≡ false) × NamesApart is

names-apart : (is : List Item) → declares_atexit is ≡ false → NamesApart is
names-apart [] e = tt
names-apart (i ∷ is) e = go (bytes_eq (name_of i) at_exit) refl (λ h. names-apart is h) e
  where
    go : (b : Bool) → bytes_eq (name_of i) at_exit ≡ b → (declares_atexit is ≡ false → NamesApart is) → (b || declares_atexit is) ≡ false → NamesApart (i ∷ is)
    go true it rest h = absurd (cc)
    go false other rest h = (other, rest h)

named-name : (i : Item) → (named_by i).name ≡ name_of i
named-name (declares p) = refl
named-name (declares_variable t name) = refl
named-name (defines f) = refl
named-name (defines_variable v) = refl

unknown-more : (i : Item) (names : List Named) → bytes_eq (name_of i) at_exit ≡ false → Unknown at_exit names → Unknown at_exit (named_by i ∷ names)
unknown-more i names e u = (ap (λ n. bytes_eq n at_exit) (named-name i) ∙ e, u)

no-function : (names : List Named) → Unknown at_exit names → NoFunction names
no-function names u p e = let bad : None ≡ Some (a_function p) = sym (unknown-none at_exit names u) ∙ e in absurd (cc)

module _ (k : ℕ) (some : (0 == k) ≡ false) (p : Program) (exit : (n : List ℕ) (f : ℕ) → p.names n ≡ Some (function f) → (f == k) ≡ true → n ≡ at_exit) where
  apart : (names : List Named) → Unknown at_exit names → Apart k names p.names
  apart names u = record { hidden = λ n f e same. subst (λ n. Unknown n names) (sym (exit n f e same)) u }

  function-fine : (f : Function) (names : List Named) (defined : List (List ℕ)) → checked_item (defines f) names defined ≡ fine → Unknown at_exit (named_by (defines f) ∷ names)
      → FunctionFine k some p f
  function-fine f names defined e u =
      let inner : Checks = checked_body f.body (inside f.prototype (named_by (defines f) ∷ names)) in
      let one : Checks = may_be_shared f.is_shared f.prototype.is_static in
      let two : Checks = checked_prototype names defined true f.prototype in
      let three : Checks = moved (prototype_marks f.prototype) inner in
      record {
        names = named_by (defines f) ∷ names;
        body = moved-ok (prototype_marks f.prototype) inner tt (second two three tt (second one (two before three) tt e));
        none = no-function (named_by (defines f) ∷ names) u;
        apart = apart (named_by (defines f) ∷ names) u;
      }

  functions-fine : (is : List Item) (names : List Named) (defined : List (List ℕ)) → checked_items is names defined ≡ fine → NamesApart is → Unknown at_exit names
      → AllFine k some p (functions_of is)
  functions-fine [] names defined e a u = tt
  functions-fine (i ∷ is) names defined e a u =
      let behind : Checks = moved (item_marks i) (checked_items is (named_by i ∷ names) (defined_after i defined)) in
      let more = unknown-more i names a.0 u in
      go i (first (checked_item i names defined) behind tt e) more
      (functions-fine is (named_by i ∷ names) (defined_after i defined)
      (moved-ok (item_marks i) (checked_items is (named_by i ∷ names) (defined_after i defined)) tt (second (checked_item i names defined) behind tt e)) a.1 more)
    where
      go : (i : Item) → checked_item i names defined ≡ fine → Unknown at_exit (named_by i ∷ names) → AllFine k some p (functions_of is) → AllFine k some p (functions_of (i ∷ is))
      go (declares q) c m rest = rest
      go (declares_variable t name) c m rest = rest
      go (defines f) c m rest = (function-fine f names defined c m, rest)
      go (defines_variable v) c m rest = rest

  -- ---- static variables

  number-clean : (n : List ℕ) (o : Option Meaning) → p.names n ≡ o → (n ≡ at_exit → ⊥) → not (function_in o == k) ≡ true
  number-clean n None is ne = ap not some
  number-clean n (Some (variable b shape)) is ne = ap not some
  number-clean n (Some (function f)) is ne = go (f == k) refl
    where
      go : (b : Bool) → (f == k) ≡ b → not b ≡ true
      go true same = absurd (ne (exit n f is same))
      go false same = refl

  abbrev PairClean : CPair → Type 0
  PairClean x = not (pair_function p.names x.function == k) ≡ true

  abbrev PairsClean : List CPair → Type 0
  PairsClean [] = Unit {0}
  PairsClean (x ∷ xs) = PairClean x × PairsClean xs

  known-function : (n : List ℕ) (o : Option Meant) → checked_function n o ≡ fine → o ≡ None → ⊥
  known-function n o e none = let bad : checked_function n None ≡ fine = ap (checked_function n) (sym none) ∙ e in absurd (cc)

  pair-clean : (o : Option (List ℕ)) (names : List Named) → Unknown at_exit names → paired names o ≡ fine → not (pair_function p.names o == k) ≡ true
  pair-clean None names u e = ap not some
  pair-clean (Some n) names u e =
      number-clean n (p.names n) refl
      (λ same. known-function n (lookup names n) e (ap (lookup names) same ∙ unknown-none at_exit names u))

  pairs-clean : (xs : List CPair) (names : List Named) → Unknown at_exit names → checked_pairs xs names ≡ fine → PairsClean xs
  pairs-clean [] names u e = tt
  pairs-clean (x ∷ xs) names u e =
      let one : Checks = holds (fits_constant x.number) 11 0 in
      let two : Checks = paired names x.function in
      let three : Checks = moved 2 (checked_pairs xs names) in
      let rest = second one (two before three) tt e in
      (pair-clean x.function names u (first two three tt rest), pairs-clean xs names u (moved-ok 2 (checked_pairs xs names) tt (second two three tt rest)))

  abbrev StartClean : Option CInitialiser → Type 0
  StartClean None = Unit {0}
  StartClean (Some (initialiser.Text bytes)) = Unit {0}
  StartClean (Some (initialiser.Pairs xs)) = PairsClean xs

  start-clean : (t : CVariableType) (o : Option CInitialiser) (names : List Named) → Unknown at_exit names → checked_start t names o ≡ fine → StartClean o
  start-clean t None names u e = tt
  start-clean t (Some (initialiser.Text bytes)) names u e = tt
  start-clean t (Some (initialiser.Pairs xs)) names u e =
      pairs-clean xs names u (second (holds (may_start t (initialiser.Pairs xs)) 3 0) (checked_pairs xs names) tt e)

  abbrev StartsClean : List CVariable → Type 0
  StartsClean [] = Unit {0}
  StartsClean (v ∷ vs) = StartClean v.initialiser × StartsClean vs

  variable-clean : (v : CVariable) (names : List Named) (defined : List (List ℕ)) → checked_item (defines_variable v) names defined ≡ fine
      → Unknown at_exit (named_by (defines_variable v) ∷ names) → StartClean v.initialiser
  variable-clean v names defined e u =
      let inner : Checks = checked_start v.ty (named_by (defines_variable v) ∷ names) v.initialiser in
      let two : Checks = checked_variable names defined true v.ty v.name v.initialiser in
      let both : Checks = two before moved (variable_marks v.ty) inner in
      let behind = moved-ok (static_marks v.is_static) both tt (second (may_be_shared v.is_shared v.is_static) (moved (static_marks v.is_static) both) tt e) in
      start-clean v.ty v.initialiser (named_by (defines_variable v) ∷ names) u
      (moved-ok (variable_marks v.ty) inner tt (second two (moved (variable_marks v.ty) inner) tt behind))

  starts-clean : (is : List Item) (names : List Named) (defined : List (List ℕ)) → checked_items is names defined ≡ fine → NamesApart is → Unknown at_exit names
      → StartsClean (variables_of is)
  starts-clean [] names defined e a u = tt
  starts-clean (i ∷ is) names defined e a u =
      let behind : Checks = moved (item_marks i) (checked_items is (named_by i ∷ names) (defined_after i defined)) in
      let more = unknown-more i names a.0 u in
      go i (first (checked_item i names defined) behind tt e) more
      (starts-clean is (named_by i ∷ names) (defined_after i defined)
      (moved-ok (item_marks i) (checked_items is (named_by i ∷ names) (defined_after i defined)) tt (second (checked_item i names defined) behind tt e)) a.1 more)
    where
      go : (i : Item) → checked_item i names defined ≡ fine → Unknown at_exit (named_by i ∷ names) → StartsClean (variables_of is) → StartsClean (variables_of (i ∷ is))
      go (declares q) c m rest = rest
      go (declares_variable t name) c m rest = rest
      go (defines f) c m rest = rest
      go (defines_variable v) c m rest = (variable-clean v names defined c m, rest)

  kept-clean : (m : Memory) (r : Result Memory ℕ) → Clean k m → FineMemory k r → Clean k (kept m r)
  kept-clean m (Err act) h l = h
  kept-clean m (Ok changed) h l = l

  put-clean : (b q : ℕ) (v : Value) (m : Memory) → is_clean k v ≡ true → Clean k m → Clean k (put_static b q v m)
  put-clean b q v m l h = kept-clean m (write (pointer.At b q) v m) h (clean-write k (pointer.At b q) v m h l)

  text-clean : (bytes : List ℕ) (b q : ℕ) (m : Memory) → Clean k m → Clean k (put_text bytes b q m)
  text-clean [] b q m h = h
  text-clean (x ∷ rest) b q m h =
      let v : Value = value.Number kind.Char (convert kind.Char (pos x)) in text-clean rest b (suc q) (put_static b q v m) (put-clean b q v m refl h)

  constant-clean : (c : CConstant) → is_clean k (constant_value c) ≡ true
  constant-clean (constants.Signed z) = refl
  constant-clean (constants.Unsigned n) = refl

  pairs-put : (xs : List CPair) (b q : ℕ) (m : Memory) → PairsClean xs → Clean k m → Clean k (put_pairs p.names xs b q m)
  pairs-put [] b q m l h = h
  pairs-put (x ∷ xs) b q m l h =
      let one : Memory = put_static b q (constant_value x.number) m in
      let two : Memory = put_static b (q + 4) (value.Function (pair_function p.names x.function)) one in
      pairs-put xs b (q + 8) two l.1
      (put-clean b (q + 4) (value.Function (pair_function p.names x.function)) one l.0 (put-clean b q (constant_value x.number) m (constant-clean x.number) h))

  initialised-clean : (o : Option CInitialiser) (b : ℕ) (m : Memory) → StartClean o → Clean k m → Clean k (initialised p.names o b m)
  initialised-clean None b m l h = h
  initialised-clean (Some (initialiser.Text bytes)) b m l h = text-clean bytes b 0 m h
  initialised-clean (Some (initialiser.Pairs xs)) b m l h = pairs-put xs b 0 m l h

  laid-clean : (vs : List CVariable) (m : Memory) → StartsClean vs → Clean k m → Clean k (laid_out p.names vs m)
  laid-clean [] m l h = h
  laid-clean (v ∷ vs) m l h =
      let one : Memory = born storage.Static (variable_size v.ty) m in
      laid-clean vs (initialised p.names v.initialiser m.next one) l.1
      (initialised-clean v.initialiser m.next one l.0 (clean-born k some storage.Static (variable_size v.ty) m h))

-- ---- runs

module _ (k : ℕ) (some : (0 == k) ≡ false) (p : Program) (program : ProgramFine k some p) where
  refused-calm : CalmAgain k some p program refused
  refused-calm inside st scope depth s w known apart none c h = tt

  helps-calm : (again : Again) → CalmAgain k some p program again → (b : Bool) → CalmAgain k some p program (helps_in again p b)
  helps-calm again calm true inside st scope depth s w known apart none c h = tt
  helps-calm again calm false inside st scope depth s w known apart none c h =
      does-calm k some p program again refused calm refused-calm true st scope depth s w known apart none c h

  runs-calm : (n : ℕ) → CalmAgain k some p program (runs p n)
  runs-calm zero inside st scope depth s w known apart none c h = tt
  runs-calm (suc n) inside st scope depth s w known apart none c h =
      does-calm k some p program (runs p n) (helps_in (runs p n) p inside) (runs-calm n) (helps-calm (runs p n) (runs-calm n) inside) inside st scope depth s w known apart none c h

called-none : (k : ℕ) (some : (0 == k) ≡ false) (y : Ran Called) → All (CalmCalled k some) y → NothingRegistered y
called-none k some (Went (Back v s) w) h = h.0.none
called-none k some (Went (Gone z s) w) h = h.none
called-none k some (Stops end trace) h = tt

pub registers-nothing : (items : List Item) → first_fault items ≡ fine → declares_atexit items ≡ false → RegistersNothing items
registers-nothing items valid none n depth w = go (function_named (functions_of items) (codes "main")) refl
  where
    some : (0 == number_of items) ≡ false
    some = let e : (0 == (length (functions_of items) + 6)) ≡ false = grind (arith, nat_tests) in e

    all : AllFine (number_of items) some (program_of items) (functions_of items)
    all = functions-fine (number_of items) some (program_of items) (named-exit items) items [] [] valid (names-apart items none) tt

    fit : ProgramFine (number_of items) some (program_of items)
    fit = program-fine (number_of items) some (program_of items) refl all

    clean : Clean (number_of items) (first_state items).memory
    clean = laid-clean (number_of items) some (program_of items) (named-exit items) (variables_of items) no_memory
        (starts-clean (number_of items) some (program_of items) (named-exit items) items [] [] valid (names-apart items none) tt) (record { block = λ b. tt })

    found : (fs : List Function) (f : Function) → AllFine (number_of items) some (program_of items) fs → function_named fs (codes "main") ≡ Some f
        → FunctionFine (number_of items) some (program_of items) f
    found fs f h e = subst (λ r. FoundFine (number_of items) some (program_of items) (found_function r)) e (found-fine (number_of items) some (program_of items) fs (codes "main") h)

    go : (o : Option Function) → function_named (functions_of items) (codes "main") ≡ o → NothingRegistered (start (program_of items) n o depth (first_state items) w)
    go None is = tt
    go (Some f) is =
        called-none (number_of items) some (start (program_of items) n (Some f) depth (first_state items) w)
        (run-calm (number_of items) some (program_of items) fit (runs (program_of items) (suc n) false)
        (runs-calm (number_of items) some (program_of items) fit (suc n) false) f (found (functions_of items) f all is) [] tt depth (first_state items) w
        (record { memory = clean; none = refl }))

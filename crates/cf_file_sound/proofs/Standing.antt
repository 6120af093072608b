-- What a file's names stand for is there by the names of the joined program: its objects and functions, the library's, and `main`.
use Rattle.std.proofs.Common.{◌≡◌, Bool, true, false, cond, ◌&&◌, ◌||◌, not, if◌then◌else◌, List, [], ◌∷◌, ◌++◌, map, filter, ap, refl, sym, ◌∙◌}
use Rattle.std.specs.Prelude.{Some, None, is_some, find, bytes_eq, codes}
use Rattle.std.specs.List.{list_any, list_all}
use Rattle.std.proofs.lemmas.List.Folds.{list_any-append}
use Rattle.cf_base.proofs.Tests.{both, all_of, same_bytes, bytes_same}
use Rattle.cf_core.specs.Types.{Name, SourceType, same_but_const}
use Rattle.cf_core.specs.Core.{Function, Static, CoreFile}
use Rattle.cf_core.specs.Calls.{Program, is_library, function_named}
use Rattle.cf_core.specs.Joined.{local_names, in_file, function_in_file, static_in_file}
use Rattle.cf_core.specs.Valid.{all_differ}
use Rattle.cf_core_sound.specs.Values.{library_type}
use Rattle.cf_core_sound.specs.Simple.{has_object, has_function, library_fits, function_fits}
use Rattle.cf_core_sound.specs.Programs.{is_main}
use Rattle.cf_file_sound.specs.Files.{alone, stands_for_main}
use Rattle.cf_file_sound.proofs.Typed.{never}
use Rattle.cf_file_sound.proofs.Lists.{negated, found-any, placed-any, any-map}
use Rattle.cf_file_sound.proofs.Names.{not-library}
use Rattle.cf_file_sound.proofs.Joined.{of_parts, own, joined_by}

or-right : (a b : Bool) → b ≡ true → a || b ≡ true
or-right true b e = refl
or-right false b e = e

or-less : (a b c : Bool) → a || b ≡ true → (b ≡ true → c ≡ true) → a || c ≡ true
or-less true b c ok go = refl
or-less false b c ok go = go ok

-- one of two is so
one-of : (a b c : Bool) → a || b ≡ true → (a ≡ true → c ≡ true) → (b ≡ true → c ≡ true) → c ≡ true
one-of true b c ok left right = left refl
one-of false b c ok left right = right ok

turned : (a b : Name) → bytes_eq a b ≡ true → bytes_eq b a ≡ true
turned a b e = bytes_same b a (sym (same_bytes a b e))

-- ---- local names

abbrev function_names : List Function → List Name
function_names fs = map (λ (f : Function). f.name) (filter (λ (f : Function). f.is_local) fs)

abbrev static_names : List Static → List Name
static_names xs = map (λ (x : Static). x.name) (filter (λ (x : Static). x.is_local) xs)

local-function : (n : Name) (fs : List Function) → list_any (bytes_eq n) (function_names fs) ≡ true → list_any (λ (f : Function). bytes_eq f.name n) fs ≡ true
local-function n [] ok = never ok
local-function n (f ∷ fs) ok = by (λ ok. or-right (bytes_eq f.name n) (list_any (λ (f : Function). bytes_eq f.name n) fs) (local-function n fs ok)) f.is_local ok
  where
    by : (list_any (bytes_eq n) (function_names fs) ≡ true → bytes_eq f.name n || list_any (λ (f : Function). bytes_eq f.name n) fs ≡ true) → (b : Bool)
        → list_any (bytes_eq n) (map (λ (f : Function). f.name) (cond b (f ∷ filter (λ (f : Function). f.is_local) fs) (filter (λ (f : Function). f.is_local) fs))) ≡ true
        → bytes_eq f.name n || list_any (λ (f : Function). bytes_eq f.name n) fs ≡ true
    by later true ok =
        one-of (bytes_eq n f.name) (list_any (bytes_eq n) (function_names fs)) (bytes_eq f.name n || list_any (λ (f : Function). bytes_eq f.name n) fs) ok
        (λ here. ap (λ b. b || list_any (λ (f : Function). bytes_eq f.name n) fs) (turned n f.name here)) later
    by later false ok = later ok

-- an object has no name of the library's
local-static : (n : Name) (xs : List Static) → list_all (λ (x : Static). not (is_library x.name)) xs ≡ true → list_any (bytes_eq n) (static_names xs) ≡ true → is_library n ≡ false
local-static n [] all ok = never ok
local-static n (x ∷ xs) all ok =
    let parts = both (not (is_library x.name)) (list_all (λ (x : Static). not (is_library x.name)) xs) all in
    by (local-static n xs parts.1) (negated (is_library x.name) parts.0) x.is_local ok
  where
    here : (b c : Bool) → bytes_eq n x.name ≡ b → b || c ≡ true → is_library x.name ≡ false → (c ≡ true → is_library n ≡ false) → is_library n ≡ false
    here true c e ok unlike_it later = ap is_library (same_bytes n x.name e) ∙ unlike_it
    here false c e ok unlike_it later = later ok

    by : (list_any (bytes_eq n) (static_names xs) ≡ true → is_library n ≡ false) → is_library x.name ≡ false → (b : Bool)
        → list_any (bytes_eq n) (map (λ (x : Static). x.name) (cond b (x ∷ filter (λ (x : Static). x.is_local) xs) (filter (λ (x : Static). x.is_local) xs))) ≡ true → is_library n ≡ false
    by later unlike_it true ok = here (bytes_eq n x.name) (list_any (bytes_eq n) (static_names xs)) refl ok unlike_it later
    by later unlike_it false ok = later ok

module _ (functions : List Function) (statics : List Static) where
  abbrev file : CoreFile
  file = of_parts functions statics

  abbrev r : Name → Name
  r = own functions statics

  abbrev P : Program
  P = joined_by r functions statics

  pub has : (name : Name) → has_object (alone file) name ≡ true → has_object P (r name) ≡ true
  has name ok =
      placed-any (λ (x : Static). bytes_eq x.name (r name)) (map (static_in_file r) statics)
      ∙ any-map (λ (x : Static). bytes_eq x.name name) (λ (x : Static). bytes_eq x.name (r name)) (static_in_file r)
      (λ x same. bytes_same (r x.name) (r name) (ap r (same_bytes x.name name same))) statics (sym (placed-any (λ (x : Static). bytes_eq x.name name) statics) ∙ ok)

  has-named : (name : Name) → list_any (λ (f : Function). bytes_eq f.name name) functions ≡ true → is_some (function_named P (r name)) ≡ true
  has-named name ok =
      found-any (λ (f : Function). bytes_eq f.name (r name)) (map (function_in_file r) functions)
      ∙ any-map (λ (f : Function). bytes_eq f.name name) (λ (f : Function). bytes_eq f.name (r name)) (function_in_file r)
      (λ f same. bytes_same (r f.name) (r name) (ap r (same_bytes f.name name same))) functions ok

  -- a local name that functions have is that of a function of the file
  local-there : list_all (λ (x : Static). not (is_library x.name)) statics ≡ true → (name : Name) → list_any (bytes_eq name) (local_names file) ≡ true
      → has_function (alone file) name ≡ true → list_any (λ (f : Function). bytes_eq f.name name) functions ≡ true
  local-there objects name among ok =
      one-of (list_any (bytes_eq name) (function_names functions)) (list_any (bytes_eq name) (static_names statics)) (list_any (λ (f : Function). bytes_eq f.name name) functions)
      (sym (list_any-append (bytes_eq name) (function_names functions) (static_names statics)) ∙ among) (local-function name functions)
      (λ static. by (is_library name) (local-static name statics objects static) ok)
    where
      by : (b : Bool) → b ≡ false → b || is_some (function_named (alone file) name) ≡ true → list_any (λ (f : Function). bytes_eq f.name name) functions ≡ true
      by true e ok = never (sym e)
      by false e ok = sym (found-any (λ (f : Function). bytes_eq f.name name) functions) ∙ ok

  pub serves : list_all (λ (x : Static). not (is_library x.name)) statics ≡ true → (name : Name) (t : SourceType)
      → function_fits (alone file) name t ≡ true → function_fits P (r name) t ≡ true
  serves objects name t ok = by (list_any (bytes_eq name) (local_names file)) refl
    where
      parts : (has_function (alone file) name ≡ true) × (library_fits name t ≡ true)
      parts = both (has_function (alone file) name) (library_fits name t) ok

      by : (b : Bool) → list_any (bytes_eq name) (local_names file) ≡ b → function_fits P (if b then in_file 1 name else name) t ≡ true
      by true e =
          let there : is_some (function_named P (in_file 1 name)) ≡ true =
          ap (λ b. is_some (function_named P (if b then in_file 1 name else name))) (sym e) ∙ has-named name (local-there objects name e parts.0) in
          all_of (has_function P (in_file 1 name)) (library_fits (in_file 1 name) t) (or-right (is_library (in_file 1 name)) (is_some (function_named P (in_file 1 name))) there)
          (ap (λ b. not b || same_but_const (library_type (in_file 1 name)) t) (not-library name))
      by false e =
          all_of (has_function P name) (library_fits name t)
          (or-less (is_library name) (is_some (function_named (alone file) name)) (is_some (function_named P name)) parts.0
          (λ some. ap (λ b. is_some (function_named P (if b then in_file 1 name else name))) (sym e) ∙ has-named name (sym (found-any (λ (f : Function). bytes_eq f.name name) functions) ∙ some))) parts.1

-- ---- `main`

abbrev main : Name
main = codes "__main"

-- a name that is none of a list's is none of a part of it
no-function : (fs : List Function) (ns : List Name) → list_any (bytes_eq main) (map (λ (f : Function). f.name) fs ++ ns) ≡ false → find stands_for_main fs ≡ None
no-function [] ns ok = refl
no-function (f ∷ fs) ns ok = by (no-function fs ns) (bytes_eq main f.name) refl ok
  where
    differs : (c : Bool) → bytes_eq f.name main ≡ c → bytes_eq main f.name ≡ false → c ≡ false
    differs true same unlike_it = sym (turned f.name main same) ∙ unlike_it
    differs false same unlike_it = refl

    by : (list_any (bytes_eq main) (map (λ (f : Function). f.name) fs ++ ns) ≡ false → find stands_for_main fs ≡ None) → (b : Bool) → bytes_eq main f.name ≡ b
        → b || list_any (bytes_eq main) (map (λ (f : Function). f.name) fs ++ ns) ≡ false → cond (stands_for_main f) (Some f) (find stands_for_main fs) ≡ None
    by later true e ok = never (sym ok)
    by later false e ok = ap (λ b. cond (b && not f.is_local) (Some f) (find stands_for_main fs)) (differs (bytes_eq f.name main) refl e) ∙ later ok

local-statics-among : (n : Name) (xs : List Static) → list_any (bytes_eq n) (map (λ (x : Static). x.name) xs) ≡ false → list_any (bytes_eq n) (static_names xs) ≡ false
local-statics-among n [] ok = refl
local-statics-among n (x ∷ xs) ok = by (local-statics-among n xs) x.is_local (bytes_eq n x.name) refl ok
  where
    by : (list_any (bytes_eq n) (map (λ (x : Static). x.name) xs) ≡ false → list_any (bytes_eq n) (static_names xs) ≡ false) → (l b : Bool) → bytes_eq n x.name ≡ b
        → b || list_any (bytes_eq n) (map (λ (x : Static). x.name) xs) ≡ false
        → list_any (bytes_eq n) (map (λ (x : Static). x.name) (cond l (x ∷ filter (λ (x : Static). x.is_local) xs) (filter (λ (x : Static). x.is_local) xs))) ≡ false
    by later l true e ok = never (sym ok)
    by later true false e ok = ap (λ b. b || list_any (bytes_eq n) (static_names xs)) e ∙ later ok
    by later false false e ok = later ok

local-among : (n : Name) (fs : List Function) (xs : List Static) → list_any (bytes_eq n) (map (λ (f : Function). f.name) fs ++ map (λ (x : Static). x.name) xs) ≡ false
    → list_any (bytes_eq n) (function_names fs ++ static_names xs) ≡ false
local-among n [] xs ok = local-statics-among n xs ok
local-among n (f ∷ fs) xs ok = by (local-among n fs xs) f.is_local (bytes_eq n f.name) refl ok
  where
    by : (list_any (bytes_eq n) (map (λ (f : Function). f.name) fs ++ map (λ (x : Static). x.name) xs) ≡ false → list_any (bytes_eq n) (function_names fs ++ static_names xs) ≡ false)
        → (l b : Bool) → bytes_eq n f.name ≡ b → b || list_any (bytes_eq n) (map (λ (f : Function). f.name) fs ++ map (λ (x : Static). x.name) xs) ≡ false
        → list_any (bytes_eq n) (map (λ (f : Function). f.name) (cond l (f ∷ filter (λ (f : Function). f.is_local) fs) (filter (λ (f : Function). f.is_local) fs)) ++ static_names xs) ≡ false
    by later l true e ok = never (sym ok)
    by later true false e ok = ap (λ b. b || list_any (bytes_eq n) (function_names fs ++ static_names xs)) e ∙ later ok
    by later false false e ok = later ok

-- where all names differ, and `main` is there and is no local function, its name is not local
pub main-outside : (fs : List Function) (xs : List Static) → all_differ (map (λ (f : Function). f.name) fs ++ map (λ (x : Static). x.name) xs) ≡ true
    → is_some (find stands_for_main fs) ≡ true → list_any (bytes_eq main) (function_names fs ++ static_names xs) ≡ false
main-outside [] xs differ there = never there
main-outside (f ∷ fs) xs differ there =
    let others = map (λ (f : Function). f.name) fs ++ map (λ (x : Static). x.name) xs in
    let parts = both (not (list_any (bytes_eq f.name) others)) (all_differ others) differ in
    by (main-outside fs xs parts.1)
    (λ e. ap (λ n. list_any (bytes_eq n) others) (sym (same_bytes f.name main e)) ∙ negated (list_any (bytes_eq f.name) others) parts.0) f.is_local (bytes_eq f.name main) refl there
  where
    unlike : (c : Bool) → bytes_eq main f.name ≡ c → bytes_eq f.name main ≡ false → c ≡ false
    unlike true same unlike_it = sym (turned main f.name same) ∙ unlike_it
    unlike false same unlike_it = refl

    by : (is_some (find stands_for_main fs) ≡ true → list_any (bytes_eq main) (function_names fs ++ static_names xs) ≡ false)
        → (bytes_eq f.name main ≡ true → list_any (bytes_eq main) (map (λ (f : Function). f.name) fs ++ map (λ (x : Static). x.name) xs) ≡ false)
        → (l b : Bool) → bytes_eq f.name main ≡ b → is_some (cond (b && not l) (Some f) (find stands_for_main fs)) ≡ true
        → list_any (bytes_eq main) (map (λ (f : Function). f.name) (cond l (f ∷ filter (λ (f : Function). f.is_local) fs) (filter (λ (f : Function). f.is_local) fs)) ++ static_names xs) ≡ false
    by later none_of true true e there = never (sym (ap is_some (no-function fs (map (λ (x : Static). x.name) xs) (none_of e))) ∙ there)
    by later none_of false true e there = local-among main fs xs (none_of e)
    by later none_of true false e there = ap (λ b. b || list_any (bytes_eq main) (function_names fs ++ static_names xs)) (unlike (bytes_eq main f.name) refl e) ∙ later there
    by later none_of false false e there = later there

-- the function of that name is what it is in the file
pub main-found : (r : Name → Name) → ((n : Name) → bytes_eq (r n) main ≡ bytes_eq n main) → (fs : List Function) → list_any (bytes_eq main) (function_names fs) ≡ false
    → is_main (find stands_for_main fs) ≡ true → is_main (find (λ (f : Function). bytes_eq f.name main) (map (function_in_file r) fs)) ≡ true
main-found r stays [] outside ok = never ok
main-found r stays (f ∷ fs) outside ok =
    ap (λ b. is_main (cond b (Some (function_in_file r f)) (find (λ (f : Function). bytes_eq f.name main) (map (function_in_file r) fs)))) (stays f.name)
    ∙ by (main-found r stays fs) f.is_local (bytes_eq f.name main) refl outside ok
  where
    onward : (b : Bool) → b || list_any (bytes_eq main) (function_names fs) ≡ false → list_any (bytes_eq main) (function_names fs) ≡ false
    onward true ok = never (sym ok)
    onward false ok = ok

    by : (list_any (bytes_eq main) (function_names fs) ≡ false → is_main (find stands_for_main fs) ≡ true → is_main (find (λ (f : Function). bytes_eq f.name main) (map (function_in_file r) fs)) ≡ true)
        → (l b : Bool) → bytes_eq f.name main ≡ b
        → list_any (bytes_eq main) (map (λ (f : Function). f.name) (cond l (f ∷ filter (λ (f : Function). f.is_local) fs) (filter (λ (f : Function). f.is_local) fs))) ≡ false
        → is_main (cond (b && not l) (Some f) (find stands_for_main fs)) ≡ true
        → is_main (cond b (Some (function_in_file r f)) (find (λ (f : Function). bytes_eq f.name main) (map (function_in_file r) fs))) ≡ true
    by later false true e outside ok = ok
    by later true true e outside ok = never (sym (sym (ap (λ b. b || list_any (bytes_eq main) (function_names fs)) (turned f.name main e)) ∙ outside))
    by later true false e outside ok = later (onward (bytes_eq main f.name) outside) ok
    by later false false e outside ok = later outside ok

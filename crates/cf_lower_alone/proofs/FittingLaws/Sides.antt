-- The two programs of one file, and what each has of the other.
use Rattle.std.proofs.Common.{◌≡◌, Bool, true, false, not, ◌&&◌, cond, List, [], ◌∷◌, ◌++◌, map, refl, ap, sym, ◌∙◌, inl, inr, append-nil}
use Rattle.std.specs.Prelude.{Option, Some, option_map, bytes_eq, codes, filter, find, is_some}
use Rattle.std.specs.List.{list_any}
use Rattle.cf_base.proofs.Tests.{same_bytes}
use Rattle.cf_core.specs.Types.{Name}
use Rattle.cf_core.specs.Joined.{in_file}
use Rattle.cf_core.specs.Core as source
use Rattle.cf_plain.specs.Plain.{PlainFunction, PlainStatic, PlainFile}
use Rattle.cf_plain.specs.Program.{PlainProgram}
use Rattle.cf_plain.specs.Joined.{program_of, needs_initialiser, file_initialiser}
use Rattle.cf_plain.specs.Running.{plain_named, header}
use Rattle.cf_lower.specs.Constants.{nothing_known}
use Rattle.cf_lower.specs.Functions.{owner_of}
use Rattle.cf_lower_program.specs.Starts.{starts_known, owner_there}
use Rattle.cf_lower_program.specs.Lowerable.{Lowerable}
use Rattle.cc_whole_sections.specs.Sections.{In, Every}
use Rattle.cf_lower_valid.proofs.Inner.{mapped-in, every-mapped}
use Rattle.cf_lower_valid.proofs.Others.{Mapped, mapped-from}
use Rattle.cf_lower_valid.proofs.Once.{Differ}
use Rattle.cf_lower_valid.proofs.Tests.{file_of, all-in, three-parts}
use Rattle.cf_lower_valid.proofs.Naming.{Foreign}
use Rattle.cf_lower_alone.proofs.AloneLaws.Statics.{function-foreign-name, locals}
use Rattle.cf_lower_alone.proofs.AloneLaws.Variables.{object_there, function_there}
use Rattle.cf_lower_alone.proofs.FittingLaws.Outer.{foreign-there}

-- ---- lists

pub filter-all : {A : Type 0} (xs : List A) → filter (λ (x : A). true) xs ≡ xs
filter-all [] = refl
filter-all (x ∷ xs) = ap (λ l. x ∷ l) (filter-all xs)

pub filter-none : {A : Type 0} (test : A → Bool) (xs : List A) → Every (λ x. test x ≡ false) xs → filter test xs ≡ []
filter-none test [] h = refl
filter-none test (x ∷ xs) h = ap (λ b. cond b (x ∷ filter test xs) (filter test xs)) (h x (inl refl)) ∙ filter-none test xs (λ y k. h y (inr k))

pub differ-unmapped : {A B : Type 0} (n : B → Name) (g : A → B) (xs : List A) → Differ n (map g xs) → Differ (λ x. n (g x)) xs
differ-unmapped n g [] d = tt
differ-unmapped n g (x ∷ xs) d = (λ y h. d.0 (g y) (mapped-in g y xs h), differ-unmapped n g xs d.1)

-- ---- functions by name

abbrev header_found : Option PlainFunction → Option source.Function
header_found o = option_map header o

pub found-header : (gs : List PlainFunction) (name : Name) → find (λ (f : source.Function). bytes_eq f.name name) (map header gs) ≡ header_found (plain_named gs name)
found-header [] name = refl
found-header (g ∷ gs) name = go (bytes_eq g.name name) (found-header gs name)
  where
    go : (b : Bool) → find (λ (f : source.Function). bytes_eq f.name name) (map header gs) ≡ header_found (plain_named gs name)
        → cond b (Some (header g)) (find (λ (f : source.Function). bytes_eq f.name name) (map header gs)) ≡ header_found (cond b (Some g) (plain_named gs name))
    go true e = refl
    go false e = e

pub record Found (gs : List PlainFunction) (name : Name) (g : PlainFunction) : Type 0 where
  pub there : In g gs
  pub named : g.name ≡ name

pub plain-found : (gs : List PlainFunction) (name : Name) (g : PlainFunction) → plain_named gs name ≡ Some g → Found gs name g
plain-found [] name g e = absurd (cc)
plain-found (k ∷ gs) name g e = go (bytes_eq k.name name) refl (λ l. plain-found gs name g l) e
  where
    go : (b : Bool) → bytes_eq k.name name ≡ b → (plain_named gs name ≡ Some g → Found gs name g) → cond b (Some k) (plain_named gs name) ≡ Some g → Found (k ∷ gs) name g
    go true is again l = let same : k ≡ g = cc in record { there = inl same; named = ap (λ (f : PlainFunction). f.name) (sym same) ∙ same_bytes k.name name is }
    go false is again l = let rest = again l in record { there = inr rest.there; named = rest.named }

-- ---- the file

module _ (fs : List PlainFunction) (xs : List PlainStatic) (low : Lowerable (file_of fs xs)) where
  abbrev file : PlainFile
  file = file_of fs xs

  abbrev pub joined : PlainProgram
  joined = program_of (file ∷ [])

  abbrev pub GS : List PlainFunction
  GS = map (function_there fs xs low) fs

  abbrev pub XS : List PlainStatic
  XS = map (object_there fs xs low) xs

  -- what a function of the program is in the file
  pub from-file : (g : PlainFunction) → In g GS → Mapped (function_there fs xs low) fs g
  from-file g h = mapped-from (function_there fs xs low) fs g h

  pub there-foreign : Every (λ (g : PlainFunction). Foreign g.name) GS
  there-foreign =
      every-mapped (λ (g : PlainFunction). Foreign g.name) (function_there fs xs low) fs
      (λ f h. foreign-there (list_any (bytes_eq f.name) (locals fs xs low)) f.name (function-foreign-name fs xs low f h))

  -- ---- the plain program

  pub joined-statics : joined.statics ≡ XS
  joined-statics = filter-all XS

  constant : (x : PlainStatic) → In x xs → x.is_constant ≡ true
  constant x h =
      (three-parts x.is_constant (starts_known x.start (owner_of x) nothing_known) (owner_there fs x)
      (all-in (λ (x : PlainStatic). x.is_constant && starts_known x.start (owner_of x) nothing_known && owner_there fs x) xs low.statics x h)).0

  needs-none : Every (λ x. needs_initialiser x ≡ false) XS
  needs-none =
      every-mapped (λ x. needs_initialiser x ≡ false) (object_there fs xs low) xs
      (λ x h. ap (λ b. not b && not (is_some (object_there fs xs low x).owner)) (constant x h))

  pub joined-initialisers : joined.initialisers ≡ []
  joined-initialisers =
      ap (λ l. file_initialiser (in_file 1 (codes "__sti")) (filter needs_initialiser l)) (filter-all XS)
      ∙ ap (file_initialiser (in_file 1 (codes "__sti"))) (filter-none needs_initialiser XS needs-none)

  pub joined-only : joined.functions ≡ GS
  joined-only = filter-all GS

  pub joined-functions : joined.functions ++ joined.initialisers ≡ GS
  joined-functions = ap (λ l. joined.functions ++ l) joined-initialisers ∙ append-nil joined.functions ∙ filter-all GS

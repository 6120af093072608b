-- The C's `main` among the functions of the program, and the source's `main` in both.
use Rattle.std.proofs.Common.{◌≡◌, Bool, true, false, ◌&&◌, ◌==◌, cond, List, [], ◌∷◌, ◌++◌, map, ℤ, refl, ap, sym, subst, ◌∙◌, inl, inr}
use Rattle.std.specs.Prelude.{Option, Some, None, option_map, bytes_eq, codes}
use Rattle.std.specs.List.{list_any}
use Rattle.std.proofs.lemmas.Bool.{true≢false}
use Rattle.cf_base.proofs.Tests.{bytes_same}
use Rattle.cf_base.specs.declared.kind.Kind.{Kind}
use Rattle.cf_base.specs.declared.kind.Kind.TheVariants.{Char, SChar, UChar, Short, UShort, Int, UInt, Long, ULong}
use Rattle.cf_base.specs.Integers.{fits, convert}
use Rattle.cf_core.specs.Types.{Name, SourceType, result as result_type}
use Rattle.cf_core.specs.Core as source
use Rattle.cf_core.specs.Calls as calls
use Rattle.cf_core.specs.Joined.{in_file}
use Rattle.cf_lower_layout.specs.Sorts.{Sort, number, address, code, sort_of}
use Rattle.cf_plain.specs.Plain.{PlainFunction, PlainStatic}
use Rattle.cf_plain.specs.Running.{plain_named, header}
use Rattle.cc_whole.specs.declared.types.CType.{CType}
use Rattle.cc_whole.specs.declared.types.CType.TheVariants as ty
use Rattle.cc_whole.specs.declared.types.CSignature.{CSignature}
use Rattle.cc_whole.specs.declared.unit.CProgram.{CProgram}
use Rattle.cc_whole.specs.Known.{function as a_function, is_main, is_helper}
use Rattle.cc_whole.specs.Plain.{Function, Item, declares, items_of, functions_of}
use Rattle.cc_whole.specs.Types.{signature_of}
use Rattle.cc_whole.specs.Valid.{own_type, has_type}
use Rattle.cc_whole_link.specs.Placed.{longer}
use Rattle.cc_whole_mean.specs.Callee.{function_named}
use Rattle.cf_lower.specs.Functions.{prototype, own_prototypes, own_variables, named_in}
use Rattle.cf_lower.specs.Written.{if_scalar, c_integer, c_type, result_of}
use Rattle.cf_lower_relate.proofs.Words.{convert-same, convert-c}
use Rattle.cf_lower_program.specs.Lowerable.{Lowerable}
use Rattle.cf_lower_calls.specs.Returns.Called.{Programs}
use Rattle.cf_lower_calls.specs.Entered.Linked.{linked_function}
use Rattle.cc_whole_sections.specs.Sections.{In, Every}
use Rattle.cc_whole_sections.proofs.Names.{in-left}
use Rattle.cf_lower_valid.proofs.Agreeing.{one-signature}
use Rattle.cf_lower_valid.proofs.Inner.{mapped-in}
use Rattle.cf_lower_valid.proofs.Once.{told-apart}
use Rattle.cf_lower_valid.proofs.Tests.{file_of, tested, names-told}
use Rattle.cf_lower_alone.specs.Linked.{main_function, LinkedAlone}
use Rattle.cf_lower_alone.specs.Added.{main_name}
use Rattle.cf_lower_alone.proofs.AloneLaws.Names.{longer-in-file}
use Rattle.cf_lower_alone.proofs.AloneLaws.Alone.{longer-no-main}
use Rattle.cf_lower_alone.proofs.AloneLaws.Statics.{locals}
use Rattle.cf_lower_alone.proofs.AloneLaws.Variables.{function_there}
use Rattle.cf_lower_alone.proofs.FittingLaws.Sides.{plain-found, found-header, from-file, there-foreign}
use Rattle.cf_lower_alone.proofs.FittingLaws.Fits.{some-same, gs, B, c-functions}
use Rattle.cf_lower_alone.proofs.FittingLaws.Numbers.{all-joined}
use Rattle.cf_lower_alone.proofs.MainLaws.Status.{IsInt}
use Rattle.cf_lower_alone.proofs.MainLaws.Whole.{MainFits}

-- ---- the C's `main`

pub find-behind : (xs ys : List Function) (n : Name) → Every (λ (f : Function). bytes_eq f.prototype.name n ≡ false) xs → function_named (xs ++ ys) n ≡ function_named ys n
find-behind [] ys n h = refl
find-behind (x ∷ xs) ys n h = ap (λ b. cond b (Some x) (function_named (xs ++ ys) n)) (h x (inl refl)) ∙ find-behind xs ys n (λ y k. h y (inr k))

module _ (fs : List PlainFunction) (xs : List PlainStatic) (low : Lowerable (file_of fs xs)) (program : CProgram)
    (A : LinkedAlone (file_of fs xs) program) where
  linked-no-main : Every (λ (f : Function). bytes_eq f.prototype.name (codes "main") ≡ false) (map (linked_function []) (gs fs xs low program A))
  linked-no-main = go (gs fs xs low program A) (there-foreign-main)
    where
      there-foreign-main : Every (λ (g : PlainFunction). is_main g.name ≡ false) (gs fs xs low program A)
      there-foreign-main g h = (there-foreign fs xs low g h).no_main

      go : (ls : List PlainFunction) → Every (λ (g : PlainFunction). is_main g.name ≡ false) ls
          → Every (λ (f : Function). bytes_eq f.prototype.name (codes "main") ≡ false) (map (linked_function []) ls)
      go [] h f k = absurd k
      go (g ∷ ls) h f (inl e) = subst (λ (f : Function). bytes_eq f.prototype.name (codes "main") ≡ false) e (h g (inl refl))
      go (g ∷ ls) h f (inr k) = go ls (λ g k. h g (inr k)) f k

  helpers-no-main : Every (λ (f : Function). bytes_eq f.prototype.name (codes "main") ≡ false) A.helpers
  helpers-no-main f h = told-apart is_helper f.prototype.name (codes "main") (A.helpers_named f h) refl

  pub main-found : function_named (functions_of (items_of program.items)) (codes "main") ≡ Some (main_function A.helpers)
  main-found =
      ap (λ l. function_named l (codes "main")) (c-functions fs xs low program A)
      ∙ find-behind (map (linked_function []) (gs fs xs low program A)) (A.helpers ++ main_function A.helpers ∷ []) (codes "main") linked-no-main
      ∙ find-behind A.helpers (main_function A.helpers ∷ []) (codes "main") helpers-no-main

-- ---- what the source's `main` gives

is-int : (k : Kind) → c_integer k ≡ ty.Int → (z : ℤ) → fits k z ≡ true → convert Int z ≡ z
is-int Char e z f = absurd (cc)
is-int SChar e z f = absurd (cc)
is-int UChar e z f = absurd (cc)
is-int Short e z f = absurd (cc)
is-int UShort e z f = absurd (cc)
is-int Int e z f = convert-same Int z f
is-int UInt e z f = absurd (cc)
is-int Long e z f = convert-c Long z ∙ convert-same Long z f
is-int ULong e z f = absurd (cc)

record GivesInt (t : SourceType) : Type 0 where
  kind : Kind
  gives_int : sort_of (result_type t) ≡ Some (number kind)
  int : IsInt kind

gives-int : (t : SourceType) → result_of (result_type t) ≡ Some ty.Int → GivesInt t
gives-int t e = go (sort_of (result_type t)) refl e
  where
    some-type : {a b : CType} → Some a ≡ Some b → a ≡ b
    some-type e = cc

    go : (o : Option Sort) → sort_of (result_type t) ≡ o → if_scalar o None (λ s. Some (c_type s)) ≡ Some ty.Int → GivesInt t
    go None is k = absurd (cc)
    go (Some (number j)) is k = record { kind = j; gives_int = is; int = is-int j (some-type k) }
    go (Some (address u)) is k = absurd (let bad : ty.Pointer ≡ ty.Int = some-type k in cc)
    go (Some (code u)) is k = absurd (let bad : ty.FunctionPointer ≡ ty.Int = some-type k in cc)

-- a name with the number of a file behind is not that of `main`
and-false : (a b : Bool) → b ≡ false → (a && b) ≡ false
and-false true b e = e
and-false false b e = refl

longer-apart : (n : Name) → bytes_eq (longer 1 n) main_name ≡ false
longer-apart [] = refl
longer-apart (a ∷ []) = and-false (a == 95) _ refl
longer-apart (a ∷ b ∷ n) = and-false (a == 95) _ (and-false (b == 95) _ (longer-no-main n))

module _ (fs : List PlainFunction) (xs : List PlainStatic) (low : Lowerable (file_of fs xs)) (program : CProgram)
    (A : LinkedAlone (file_of fs xs) program) where
  abbrev P : Programs
  P = B fs xs low program A

  -- a function of the file whose name in the program is that of `main` has that name
  own-name : (f : PlainFunction) → In f fs → (function_there fs xs low f).name ≡ main_name → f.name ≡ main_name
  own-name f h e = go (list_any (bytes_eq f.name) (locals fs xs low)) e
    where
      go : (b : Bool) → cond b (in_file 1 f.name) f.name ≡ main_name → f.name ≡ main_name
      go true k =
          absurd (true≢false (sym (bytes_same (longer 1 f.name) main_name (longer-in-file f.name ∙ k)) ∙ longer-apart f.name))
      go false k = k

  result-there : (f : PlainFunction) → In f fs → f.name ≡ main_name → result_of (result_type f.type) ≡ Some ty.Int
  result-there f h e =
      let i : Item = declares (prototype f) in
      let there : In i (tested fs xs low) =
      in-left i (own_prototypes (file_of fs xs) ++ own_variables (file_of fs xs)) (named_in (file_of fs xs))
      (in-left i (own_prototypes (file_of fs xs)) (own_variables (file_of fs xs)) (mapped-in (λ (f : PlainFunction). declares (prototype f)) f fs h)) in
      let has = (names-told fs xs low).own i there in
      let typed : has_type (own_type main_name) (a_function (prototype f)) ≡ true = ap (λ n. has_type (own_type n) (a_function (prototype f))) (sym e) ∙ has in
      ap (λ (s : CSignature). s.result) (sym (one-signature (record { result = Some ty.Int; parameters = [] }) (signature_of (prototype f)) typed))

  pub main-fits : (f : source.Function) → calls.function_named P.program main_name ≡ Some f → MainFits P f
  main-fits f e = go (plain_named (gs fs xs low program A) main_name) refl (sym (found-header (gs fs xs low program A) main_name) ∙ e)
    where
      go : (o : Option PlainFunction) → plain_named (gs fs xs low program A) main_name ≡ o
          → option_map header (plain_named (gs fs xs low program A) main_name) ≡ Some f → MainFits P f
      go None is k = absurd (let bad : None ≡ Some f = sym (ap (option_map header) is) ∙ k in cc)
      go (Some p) is k =
          let found = plain-found (gs fs xs low program A) main_name p is in
          let m = from-file fs xs low p found.there in
          let same : header p ≡ f = some-same (sym (ap (option_map header) is) ∙ k) in
          let own = own-name m.one m.there (ap (λ (g : PlainFunction). g.name) m.is ∙ found.named) in
          let named : f.name ≡ main_name = ap (λ (g : source.Function). g.name) (sym same) ∙ found.named in
          let typed : f.type ≡ m.one.type = ap (λ (g : source.Function). g.type) (sym same) ∙ ap (λ (g : PlainFunction). g.type) (sym m.is) in
          let int = gives-int f.type (ap (λ t. result_of (result_type t)) typed ∙ result-there m.one m.there own) in
          let pair = (all-joined fs xs low program A).functions f
          (ap (calls.function_named P.program) named ∙ e) (ap calls.is_library named) in
          record { callee = pair.callee; pair = pair.pair; named = named; kind = int.kind; gives_int = int.gives_int; int = int.int }

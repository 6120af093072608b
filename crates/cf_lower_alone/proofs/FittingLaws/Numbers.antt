-- Each function of one linked file is numbered in the C, and so are the library's.
use Rattle.std.proofs.Common.{◌≡◌, ℕ, suc, ◌+◌, ◌-◌, Bool, true, false, ◌||◌, List, [], ◌∷◌, length, slice_get, map, refl, ap, sym, subst, ◌∙◌, inl, inr, Ok, arith}
use Rattle.std.specs.Prelude.{Option, Some, None, option_map, bytes_eq, codes, is_some}
use Rattle.std.proofs.lemmas.Bool.{true≢false}
use Rattle.cf_base.proofs.Tests.{bytes_same}
use Rattle.cf_core.specs.Types.{Name, parameters}
use Rattle.cf_core.specs.Core as source
use Rattle.cf_core.specs.Calls as calls
use Rattle.cf_plain.specs.Plain.{PlainFunction, PlainStatic}
use Rattle.cf_plain.specs.Running.{plain_named, header}
use Rattle.cc_whole.specs.declared.unit.CProgram.{CProgram}
use Rattle.cc_whole.specs.Known as known
use Rattle.cc_whole.specs.Plain.{Function}
use Rattle.cc_whole_mean.specs.Callee.{own, built_in, putchar, getchar, exit, library_functions, found_library, found_function, function_named, own_or_library, callee_numbered}
use Rattle.cc_whole_mean.specs.Scope.{Scope, no_names, bind_variables, bind_functions, function_names}
use Rattle.cc_whole_mean.specs.Start.{function_in}
use Rattle.cf_lower_calls.specs.Returns.Called.{Programs, Pair}
use Rattle.cf_lower_tested.specs.Tested.{HasPair, Joined}
use Rattle.cf_lower_program.specs.Lowerable.{Lowerable}
use Rattle.cc_whole_sections.specs.Sections.{In, Every}
use Rattle.cf_lower_valid.proofs.Differ.{append-in}
use Rattle.cf_lower_valid.proofs.Inner.{mapped-in}
use Rattle.cf_lower_valid.proofs.Once.{either-way}
use Rattle.cf_lower_valid.proofs.Others.{mapped-from}
use Rattle.cf_lower_valid.proofs.Spans.{none-any}
use Rattle.cf_lower_valid.proofs.Tests.{file_of, callable-scalars}
use Rattle.cf_lower_valid.proofs.Naming.{Foreign}
use Rattle.cf_lower_calls.specs.Entered.Linked.{linked_function}
use Rattle.cf_lower_alone.specs.Linked.{LinkedAlone}
use Rattle.cf_lower_alone.proofs.AloneLaws.Statics.{any-there, one-named}
use Rattle.cf_lower_alone.proofs.AloneLaws.Variables.{function_there}
use Rattle.cf_lower_alone.proofs.FittingLaws.Bound.{functions-after}
use Rattle.cf_lower_alone.proofs.FittingLaws.Sides.{found-header, plain-found, from-file, there-foreign}
use Rattle.cf_lower_alone.proofs.FittingLaws.Fits.{there-differ, slice-in, some-same, CF, vs, names, rest, c-functions, rest-other, IsOther, no-other, gs, B, HasNumber, has-number}
use Rattle.cf_lower_alone.proofs.FittingLaws.Lowered.{named-itself, no-library, slice-none, InFront, front, behind, in-front, parameter-count, c-found, callable}

three-none : (a b c : Bool) → a ≡ false → b ≡ false → c ≡ false → (a || b || c) ≡ false
three-none a b c e h k = ap (λ x. x || b || c) e ∙ ap (λ x. x || c) h ∙ k

or-right : (a b : Bool) → b ≡ true → (a || b) ≡ true
or-right true b e = refl
or-right false b e = e

-- nor is it one of the source's library
pub source-library : (name : Name) → Foreign name → calls.is_library name ≡ false
source-library name f =
    let apart : Every (λ z. bytes_eq name z ≡ false) known.library =
    λ z h. either-way z name (none-any (λ other. bytes_eq other name) known.library f.no_library z h) in
    three-none (bytes_eq name (codes "putchar")) (bytes_eq name (codes "getchar")) (bytes_eq name (codes "exit")) (apart (codes "putchar") (inl refl))
    (apart (codes "getchar") (inr (inl refl))) (apart (codes "exit") (inr (inr (inl refl))))

length-names : (fs : List Function) → length (function_names fs) ≡ length fs
length-names [] = refl
length-names (f ∷ fs) = ap (λ (n : ℕ). suc n) (length-names fs)

module _ (fs : List PlainFunction) (xs : List PlainStatic) (low : Lowerable (file_of fs xs)) (program : CProgram)
    (A : LinkedAlone (file_of fs xs) program) where
  abbrev G : List PlainFunction
  G = gs fs xs low program A

  abbrev P : Programs
  P = B fs xs low program A

  abbrev C : List Function
  C = CF fs xs low program A

  abbrev scope : Scope
  scope = names fs xs low program A

  -- ---- functions of the file

  module _ (f : PlainFunction) (h : In f fs) where
    abbrev k : PlainFunction
    k = function_there fs xs low f

    k-there : In k G
    k-there = mapped-in (function_there fs xs low) f fs h

    foreign : Foreign k.name
    foreign = there-foreign fs xs low k k-there

    named : plain_named G k.name ≡ Some k
    named = named-itself G k (there-differ fs xs low program A) k-there

    the-pair : Pair P (header k) (linked_function [] k)
    the-pair = record {
      found = found-header G k.name ∙ ap (option_map header) named;
      c_found = ap (λ l. found_library l (found_function (function_named C k.name))) (no-library k.name foreign.no_library)
          ∙ ap found_function (c-found fs xs low program A k.name k named);
      name = refl;
      no_main = foreign.no_main;
      no_helper = foreign.no_helper;
      no_library = source-library k.name foreign;
      count = parameter-count 0 (parameters f.type) (callable-scalars f.type (callable fs xs low program A f h));
    }

    -- the C function of this name
    c-differ : (g : Function) → In g C → g.prototype.name ≡ k.name → g ≡ linked_function [] k
    c-differ g m n =
        append-in g (map (linked_function []) G) (rest fs xs low program A) (g ≡ linked_function [] k)
        (subst (In g) (c-functions fs xs low program A) m)
        (λ l.
        let p = mapped-from (linked_function []) G g l in
        let same : p.one ≡ k = one-named (λ (g : PlainFunction). g.name) G p.one k (there-differ fs xs low program A) p.there k-there
        (bytes_same p.one.name k.name (ap (λ (f : Function). f.prototype.name) p.is ∙ n)) in
        sym p.is ∙ ap (linked_function []) same)
        (λ l. absurd (no-other fs xs low program A k.name foreign (subst (IsOther fs xs low program A) n (rest-other fs xs low program A g l))))

    own-number : callee_numbered C (P.function k.name) ≡ Ok (own (linked_function [] k))
    own-number =
        by (has-number fs xs low program A k.name
        (or-right (calls.is_library k.name) (is_some (calls.function_named P.program k.name)) (ap is_some the-pair.found)))
      where
        by : HasNumber fs xs low program A k.name → callee_numbered C (P.function k.name) ≡ Ok (own (linked_function [] k))
        by x = ap (callee_numbered C) (ap function_in x.stands) ∙ go (in-front (λ (f : Function). f.prototype.name) C known.library k.name x.place x.at)
          where
            go : InFront (λ (f : Function). f.prototype.name) C known.library k.name x.place → callee_numbered C (suc x.place) ≡ Ok (own (linked_function [] k))
            go (front g e n) =
                ap (λ o. own_or_library o (slice_get library_functions (x.place - length C)))
                (e ∙ ap (λ (f : Function). Some f) (c-differ g (slice-in C x.place g e) n))
            go (behind l) =
                absurd (true≢false (sym (any-there (λ other. bytes_eq other k.name) known.library k.name l (bytes_same k.name k.name refl)) ∙ foreign.no_library))

    has-pair : HasPair P (header k)
    has-pair = record { callee = linked_function [] k; pair = the-pair; numbered = own-number }

  -- ---- the library

  abbrev m : ℕ
  m = length (function_names C)

  -- behind the functions of the program
  behind-functions : scope ≡ bind_functions known.library (1 + m) (bind_functions (function_names C) 1 (bind_variables (vs fs xs low program A) 0 no_names))
  behind-functions = functions-after (function_names C) known.library 1 (bind_variables (vs fs xs low program A) 0 no_names)

  library-at : (i n : ℕ) → n ≡ suc (m + i) → callee_numbered C n ≡ own_or_library None (slice_get library_functions i)
  library-at i n e =
      let same : m ≡ length C = length-names C in
      ap (callee_numbered C) e
      ∙ ap (λ o. own_or_library o (slice_get library_functions ((m + i) - length C))) (slice-none C (m + i) (omega (arith, same)))
      ∙ ap (λ (j : ℕ). own_or_library None (slice_get library_functions j)) (let s : (m + i) - length C ≡ i = omega (arith, same) in s)

  put-number : callee_numbered C (P.function (codes "putchar")) ≡ Ok (built_in putchar)
  put-number =
      library-at 0 (P.function (codes "putchar"))
      (ap (λ (s : Scope). function_in (s (codes "putchar"))) behind-functions ∙ (let n : 1 + m ≡ suc (m + 0) = omega arith in n))

  get-number : callee_numbered C (P.function (codes "getchar")) ≡ Ok (built_in getchar)
  get-number =
      library-at 1 (P.function (codes "getchar"))
      (ap (λ (s : Scope). function_in (s (codes "getchar"))) behind-functions ∙ (let n : suc (1 + m) ≡ suc (m + 1) = omega arith in n))

  exit-number : callee_numbered C (P.function (codes "exit")) ≡ Ok (built_in exit)
  exit-number =
      library-at 2 (P.function (codes "exit"))
      (ap (λ (s : Scope). function_in (s (codes "exit"))) behind-functions ∙ (let n : suc (suc (1 + m)) ≡ suc (m + 2) = omega arith in n))

  -- ---- all

  found-pair : (f : source.Function) → calls.function_named P.program f.name ≡ Some f → HasPair P f
  found-pair f e = go (plain_named G f.name) refl (sym (found-header G f.name) ∙ e)
    where
      go : (o : Option PlainFunction) → plain_named G f.name ≡ o → option_map header (plain_named G f.name) ≡ Some f → HasPair P f
      go None is k = absurd (let bad : None ≡ Some f = sym (ap (option_map header) is) ∙ k in cc)
      go (Some p) is k =
          let found = plain-found G f.name p is in
          let one = from-file fs xs low p found.there in
          let same : header p ≡ f = some-same (sym (ap (option_map header) is) ∙ k) in
          subst (HasPair P) (ap header one.is ∙ same) (has-pair one.one one.there)

  plain-pair : (f : PlainFunction) → plain_named G f.name ≡ Some f → HasPair P (header f)
  plain-pair f e =
      let found = plain-found G f.name f e in
      let one = from-file fs xs low f found.there in
      subst (λ (p : PlainFunction). HasPair P (header p)) one.is (has-pair one.one one.there)

  pub all-joined : Joined P
  all-joined = record { put = put-number; gets = get-number; ends = exit-number; functions = λ f e n. found-pair f e; plain = plain-pair }

-- The functions of one linked file are lowered, and each is numbered in the C.
use Rattle.std.proofs.Common.{◌≡◌, ℕ, zero, suc, ◌≤◌, ◌<◌, nat_lt, Bool, true, false, ◌&&◌, ◌||◌, cond, List, [], ◌∷◌, ◌++◌, length, slice_get, map, refl, ap, sym, subst, ◌∙◌, inl, inr, ◌⊎◌, Result, Ok, arith}
use Rattle.std.specs.Prelude.{Option, Some, None, option_map, bytes_eq, codes, find, is_some, position}
use Rattle.std.specs.List.{list_any, list_all, position_or_len}
use Rattle.std.proofs.lemmas.Bool.{true≢false, or_cases}
use Rattle.std.proofs.lemmas.Bool.Decides.{nat_tests}
use Rattle.std.proofs.lemmas.List.Folds.{find_at}
use Rattle.cf_base.proofs.Tests.{same_bytes, bytes_same}
use Rattle.cf_core.specs.Types.{Name, SourceType, class, const, is_class, is_void, parameters, result as result_type}
use Rattle.cf_core.specs.Core as source
use Rattle.cf_core.specs.Core.{plain_function}
use Rattle.cf_core.specs.Calls as calls
use Rattle.cf_core.specs.Objects.{static_number}
use Rattle.cf_lower_layout.specs.Sorts.{Sort, sort_of}
use Rattle.cf_plain.specs.Plain.{PlainFunction, PlainStatic}
use Rattle.cf_plain.specs.Program.{static_header}
use Rattle.cf_plain.specs.Running.{plain_named, header}
use Rattle.cc_whole.specs.declared.statement.CLocal.{CLocal}
use Rattle.cc_whole.specs.declared.unit.CParameter.{CParameter}
use Rattle.cc_whole.specs.declared.unit.CProgram.{CProgram}
use Rattle.cc_whole.specs.Known as known
use Rattle.cc_whole.specs.Known.{is_in}
use Rattle.cc_whole.specs.Plain.{Function}
use Rattle.cc_whole.specs.Uses.{local_names, parameter_names}
use Rattle.cc_whole_locals.specs.Names.{is_local, is_parameter}
use Rattle.cc_whole_mean.specs.Callee.{Callee, own, built_in, Library, putchar, getchar, exit, malloc, free, atexit, library_named, found_library, found_function, function_named, callee_named}
use Rattle.cf_lower.specs.Written.{if_scalar, c_type, local_name, literal_name}
use Rattle.cf_lower.specs.Functions.{lowered_parameters}
use Rattle.cf_lower_steps.specs.Lowering.{is_function}
use Rattle.cf_lower_calls.specs.Returns.Called.{Programs, Pair}
use Rattle.cf_lower_calls.specs.Entered.Lowered.{IsOutside, IsLowered, AllLowered}
use Rattle.cf_lower_program.specs.Types.{is_callable}
use Rattle.cf_lower_program.specs.Lowerable as tests
use Rattle.cf_lower_program.specs.Lowerable.{Lowerable}
use Rattle.cc_whole_sections.specs.Sections.{In, Every}
use Rattle.cf_lower_valid.proofs.Inner.{mapped-in}
use Rattle.cf_lower_valid.proofs.Once.{Differ, any-none, either-way}
use Rattle.cf_lower_valid.proofs.Others.{mapped-from}
use Rattle.cf_lower_valid.proofs.Scopes.{is_outer}
use Rattle.cf_lower_valid.proofs.Spans.{none-any}
use Rattle.cf_lower_valid.proofs.Tests.{file_of, all-in, three-parts, function-told}
use Rattle.cf_lower_calls.specs.Entered.Linked.{linked_function}
use Rattle.cf_lower_alone.specs.Linked.{LinkedAlone}
use Rattle.cf_lower_alone.proofs.AloneLaws.Statics.{object-foreign-name, locals}
use Rattle.cf_lower_alone.proofs.AloneLaws.Names.{library-plain}
use Rattle.cf_lower_alone.proofs.AloneLaws.Functions.{c_locals, locals-same, outer-local, outer-parameter}
use Rattle.cf_lower_alone.proofs.AloneLaws.Variables.{object_there, function_there}
use Rattle.cf_lower_alone.proofs.FittingLaws.Outer.{outer-there}
use Rattle.cf_lower_alone.proofs.FittingLaws.Laid.{is-laid}
use Rattle.cf_lower_alone.proofs.FittingLaws.Sides.{found-header, plain-found, joined, from-file, there-foreign, joined-statics}
use Rattle.cf_lower_alone.proofs.FittingLaws.Fits.{there-differ, slice-in, some-same, role-plain, gs, B, CF, rest, c-functions, in-plain}

-- ---- types

no-class : (t : SourceType) → (is_void t || is_some (sort_of t)) ≡ true → is_class t ≡ false
no-class (class c) e = absurd (true≢false (sym e))
no-class (const t) e = no-class t e
no-class t e = refl

pub parameter-count : (i : ℕ) (ts : List SourceType) → list_all (λ t. is_some (sort_of t)) ts ≡ true → length (lowered_parameters i ts) ≡ length ts
parameter-count i [] e = refl
parameter-count i (t ∷ ts) e = go (sort_of t) e (λ k. parameter-count (suc i) ts k)
  where
    go : (o : Option Sort) → (is_some o && list_all (λ t. is_some (sort_of t)) ts) ≡ true
        → (list_all (λ t. is_some (sort_of t)) ts ≡ true → length (lowered_parameters (suc i) ts) ≡ length ts)
        → length (if_scalar o (lowered_parameters (suc i) ts) (λ s. record { ty = c_type s; name = local_name i } ∷ lowered_parameters (suc i) ts)) ≡ suc (length ts)
    go None k again = absurd (true≢false (sym k))
    go (Some s) k again = ap (λ (n : ℕ). suc n) (again k)

-- ---- static objects by name

record StaticNamed (xs : List source.Static) (name : Name) : Type 0 where
  one : source.Static
  there : In one xs
  named : one.name ≡ name

record SliceThere {A : Type 0} (xs : List A) (i : ℕ) : Type 0 where
  one : A
  at : slice_get xs i ≡ Some one

slice-there : {A : Type 0} (xs : List A) (i : ℕ) → i < length xs → SliceThere xs i
slice-there [] i lt = absurd (let l : i < 0 = lt in omega (arith, l))
slice-there (x ∷ xs) zero lt = record { one = x; at = refl }
slice-there (x ∷ xs) (suc i) lt =
    let l : suc i < suc (length xs) = lt in
    let rest = slice-there xs i (omega (arith, l)) in
    record { one = rest.one; at = rest.at }

find-named : (xs : List source.Static) (name : Name) (x : source.Static) → find (λ (y : source.Static). bytes_eq y.name name) xs ≡ Some x → StaticNamed xs name
find-named [] name x e = absurd (cc)
find-named (y ∷ xs) name x e = go (bytes_eq y.name name) refl (λ k. find-named xs name x k) e
  where
    go : (b : Bool) → bytes_eq y.name name ≡ b → (find (λ (y : source.Static). bytes_eq y.name name) xs ≡ Some x → StaticNamed xs name)
        → cond b (Some y) (find (λ (y : source.Static). bytes_eq y.name name) xs) ≡ Some x → StaticNamed (y ∷ xs) name
    go true is again k = record { one = y; there = inl refl; named = same_bytes y.name name is }
    go false is again k = let rest = again k in record { one = rest.one; there = inr rest.there; named = rest.named }

position-named : (xs : List source.Static) (name : Name) (o : ℕ) → position (λ (x : source.Static). bytes_eq x.name name) xs ≡ Some o → StaticNamed xs name
position-named xs name o e = go (position_or_len (λ (x : source.Static). bytes_eq x.name name) xs) refl e
  where
    go : (at : ℕ) → position_or_len (λ (x : source.Static). bytes_eq x.name name) xs ≡ at → cond (nat_lt at (length xs)) (Some at) None ≡ Some o → StaticNamed xs name
    go at same e = by (nat_lt at (length xs)) refl e
      where
        by : (b : Bool) → nat_lt at (length xs) ≡ b → cond b (Some at) None ≡ Some o → StaticNamed xs name
        by true is k =
            let x = slice-there xs at (grind (arith, nat_tests, is)) in
            find-named xs name x.one (find_at (λ (x : source.Static). bytes_eq x.name name) xs ∙ ap (slice_get xs) same ∙ x.at)
        by false is k = absurd (cc)

-- ---- names of C locals

local-none : (y : Name) (xs : List CLocal) → is_in (local_names xs) y ≡ false → is_local y xs ≡ false
local-none y xs e =
    any-none (λ (x : CLocal). bytes_eq y x.name) xs
    (λ x h. either-way x.name y (none-any (λ other. bytes_eq other y) (local_names xs) e x.name (mapped-in (λ (x : CLocal). x.name) x xs h)))

parameter-none : (y : Name) (ps : List CParameter) → is_in (parameter_names ps) y ≡ false → is_parameter y ps ≡ false
parameter-none y ps e =
    any-none (λ (x : CParameter). bytes_eq y x.name) ps
    (λ x h. either-way x.name y (none-any (λ other. bytes_eq other y) (parameter_names ps) e x.name (mapped-in (λ (x : CParameter). x.name) x ps h)))

-- ---- plain functions by name

pub named-itself : (gs : List PlainFunction) (g : PlainFunction) → Differ (λ (g : PlainFunction). g.name) gs → In g gs → plain_named gs g.name ≡ Some g
named-itself [] g d h = absurd h
named-itself (k ∷ gs) g d (inl e) =
    ap (λ b. cond b (Some k) (plain_named gs g.name)) (bytes_same k.name g.name (ap (λ (f : PlainFunction). f.name) e)) ∙ ap (λ (f : PlainFunction). Some f) e
named-itself (k ∷ gs) g d (inr h) = ap (λ b. cond b (Some k) (plain_named gs g.name)) (d.0 g h) ∙ named-itself gs g d.1 h

-- ---- functions in the C

-- the C of a plain function by its name
linked-found : (gs : List PlainFunction) (rest : List Function) (name : Name) (g : PlainFunction) → plain_named gs name ≡ Some g
    → function_named (map (linked_function []) gs ++ rest) name ≡ Some (linked_function [] g)
linked-found [] rest name g e = absurd (cc)
linked-found (k ∷ gs) rest name g e = go (bytes_eq k.name name) (λ l. linked-found gs rest name g l) e
  where
    go : (b : Bool) → (plain_named gs name ≡ Some g → function_named (map (linked_function []) gs ++ rest) name ≡ Some (linked_function [] g))
        → cond b (Some k) (plain_named gs name) ≡ Some g
        → cond b (Some (linked_function [] k)) (function_named (map (linked_function []) gs ++ rest) name) ≡ Some (linked_function [] g)
    go true again l = ap (λ (f : PlainFunction). Some (linked_function [] f)) (some-same l)
    go false again l = again l

own-same : (a b : Function) → ◌≡◌ {A = Result Callee ℕ} (Ok (own a)) (Ok (own b)) → a ≡ b
own-same a b e = cc

built-apart : (l : Library) (g : Function) → ◌≡◌ {A = Result Callee ℕ} (Ok (built_in l)) (Ok (own g)) → ⊥
built-apart l g e = absurd (cc)

called-own : (fs : List Function) (name : Name) (g : Function) → callee_named fs name ≡ Ok (own g) → function_named fs name ≡ Some g
called-own fs name g e = go (library_named name) (function_named fs name) e
  where
    found : (o : Option Function) → found_function o ≡ Ok (own g) → o ≡ Some g
    found None k = absurd (cc)
    found (Some h) k = ap (λ (f : Function). Some f) (own-same h g k)

    go : (l : Option Library) (o : Option Function) → found_library l (found_function o) ≡ Ok (own g) → o ≡ Some g
    go None o k = found o k
    go (Some l) o k = absurd (built-apart l g k)

step : (b : Bool) (l : Library) (o : Option Library) → b ≡ false → o ≡ None → cond b (Some l) o ≡ None
step b l o e h = ap (λ b. cond b (Some l) o) e ∙ h

-- a name that is none of the library's
pub no-library : (name : Name) → known.is_library name ≡ false → library_named name ≡ None
no-library name e =
    let apart : Every (λ z. bytes_eq name z ≡ false) known.library = λ z h. either-way z name (none-any (λ other. bytes_eq other name) known.library e z h) in
    let is : Name → Bool = bytes_eq name in
    let five : Option Library = cond (is (codes "atexit")) (Some atexit) None in
    let four : Option Library = cond (is (codes "free")) (Some free) five in
    let three : Option Library = cond (is (codes "malloc")) (Some malloc) four in
    let two : Option Library = cond (is (codes "exit")) (Some exit) three in
    let one : Option Library = cond (is (codes "getchar")) (Some getchar) two in
    step (is (codes "putchar")) putchar one (apart (codes "putchar") (inl refl))
    (step (is (codes "getchar")) getchar two (apart (codes "getchar") (inr (inl refl)))
    (step (is (codes "exit")) exit three (apart (codes "exit") (inr (inr (inl refl))))
    (step (is (codes "malloc")) malloc four (apart (codes "malloc") (inr (inr (inr (inl refl)))))
    (step (is (codes "free")) free five (apart (codes "free") (inr (inr (inr (inr (inl refl))))))
    (step (is (codes "atexit")) atexit None (apart (codes "atexit") (inr (inr (inr (inr (inr (inl refl))))))) refl)))))

-- ---- numbers of functions

pub slice-none : {A : Type 0} (xs : List A) (i : ℕ) → length xs ≤ i → slice_get xs i ≡ None
slice-none [] i le = refl
slice-none (x ∷ xs) zero le = absurd (let l : suc (length xs) ≤ 0 = le in omega (arith, l))
slice-none (x ∷ xs) (suc i) le = slice-none xs i (let l : suc (length xs) ≤ suc i = le in omega (arith, l))

-- a name in front of others, or among them
pub data InFront {A B : Type 0} (n : A → B) (xs : List A) (ys : List B) (y : B) (i : ℕ) : Type 0 where
  front : (x : A) → slice_get xs i ≡ Some x → n x ≡ y → InFront n xs ys y i
  behind : In y ys → InFront n xs ys y i

pub in-front : {A B : Type 0} (n : A → B) (xs : List A) (ys : List B) (y : B) (i : ℕ) → slice_get (map n xs ++ ys) i ≡ Some y → InFront n xs ys y i
in-front n [] ys y i e = behind (slice-in ys i y e)
in-front n (x ∷ xs) ys y zero e = front x refl (some-same e)
in-front n (x ∷ xs) ys y (suc i) e = go (in-front n xs ys y i e)
  where
    go : InFront n xs ys y i → InFront n (x ∷ xs) ys y (suc i)
    go (front z h k) = front z h k
    go (behind h) = behind h

module _ (fs : List PlainFunction) (xs : List PlainStatic) (low : Lowerable (file_of fs xs)) (program : CProgram)
    (A : LinkedAlone (file_of fs xs) program) where
  abbrev G : List PlainFunction
  G = gs fs xs low program A

  abbrev P : Programs
  P = B fs xs low program A

  abbrev C : List Function
  C = CF fs xs low program A

  pub c-found : (name : Name) (g : PlainFunction) → plain_named G name ≡ Some g → function_named C name ≡ Some (linked_function [] g)
  c-found name g e =
      ap (λ l. function_named l name) (c-functions fs xs low program A) ∙ linked-found G (rest fs xs low program A) name g e

  -- ---- a function of both

  record Both (f : source.Function) (g : Function) : Type 0 where
    one : PlainFunction
    in_file : In one fs
    found : plain_named G f.name ≡ Some (function_there fs xs low one)
    is : f ≡ header (function_there fs xs low one)
    made : g ≡ linked_function [] (function_there fs xs low one)

  both-found : (f : source.Function) (g : Function) → Pair P f g → Both f g
  both-found f g pair = go (plain_named G f.name) refl (sym (found-header G f.name) ∙ pair.found)
    where
      go : (o : Option PlainFunction) → plain_named G f.name ≡ o → option_map header (plain_named G f.name) ≡ Some f → Both f g
      go None is k = absurd (let bad : None ≡ Some f = sym (ap (option_map header) is) ∙ k in cc)
      go (Some p) is k =
          let found = plain-found G f.name p is in
          let m = from-file fs xs low p found.there in
          let same : header p ≡ f = some-same (sym (ap (option_map header) is) ∙ k) in
          record {
            one = m.one;
            in_file = m.there;
            found = is ∙ ap (λ (p : PlainFunction). Some p) (sym m.is);
            is = sym same ∙ ap header (sym m.is);
            made = some-same (sym (called-own C f.name g pair.c_found) ∙ c-found f.name p is) ∙ ap (linked_function []) (sym m.is);
          }

  -- ---- its C locals hide no name

  module _ (f : PlainFunction) (h : In f fs) where
    abbrev p : PlainFunction
    p = function_there fs xs low f

    outside : (y : Name) → is_outer y ≡ false → IsOutside P p y
    outside y e = record {
      locals = ap (is_local y) (locals-same fs xs low f h) ∙ local-none y (c_locals f) (outer-local fs xs low f h y e);
      parameters = parameter-none y (lowered_parameters 0 (parameters f.type)) (outer-parameter fs xs low f h y e);
    }

    function-outer : (name : Name) → is_function P.program name ≡ true → is_outer name ≡ false
    function-outer name e = go (or_cases (calls.is_library name) (is_some (calls.function_named P.program name)) e)
      where
        go : (calls.is_library name ≡ true) ⊎ (is_some (calls.function_named P.program name) ≡ true) → is_outer name ≡ false
        go (inl k) = (library-plain name k).outer
        go (inr k) =
            let g = in-plain fs xs low program A name k in
            ap is_outer (sym g.named) ∙ (there-foreign fs xs low g.one g.there).outer

    static-outer : (name : Name) (o : ℕ) → static_number P.program name ≡ Some o → is_outer name ≡ false
    static-outer name o e =
        let x = position-named P.program.statics name o e in
        let m = mapped-from static_header (joined fs xs low).statics x.one x.there in
        let y = mapped-from (object_there fs xs low) xs m.one (subst (In m.one) (joined-statics fs xs low) m.there) in
        ap is_outer (sym x.named ∙ ap (λ (z : source.Static). z.name) (sym m.is) ∙ ap (λ (z : PlainStatic). z.name) (sym y.is))
        ∙ outer-there (list_any (bytes_eq y.one.name) (locals fs xs low)) y.one.name (object-foreign-name fs xs low y.one y.there).outer

    pub callable : is_callable f.type ≡ true
    callable = (function-told fs xs low f h).callable

    -- it is found by its name
    found-itself : plain_named G p.name ≡ Some p
    found-itself = named-itself G p (there-differ fs xs low program A) (mapped-in (function_there fs xs low) f fs h)

    is-lowered : IsLowered P (header p) (linked_function [] p)
    is-lowered = record {
      plain = p;
      found = found-itself;
      is = refl;
      role = role-plain f.role (all-in (λ (f : PlainFunction). tests.is_plain f.role) fs low.roles f h);
      scalar = no-class (result_type f.type) (three-parts _ (list_all (λ q. is_some (sort_of q)) (parameters f.type)) (is_void (result_type f.type) || is_some (sort_of (result_type f.type))) callable).2;
      made = refl;
      laid = is-laid fs xs low f h;
      functions = λ name e. outside name (function-outer name e);
      statics = λ name o e. outside name (static-outer name o e);
      literals = λ j x e. outside (literal_name p.name j) refl;
    }

  lowered-as : (f : source.Function) (g : Function) → Both f g → IsLowered P f g
  lowered-as f g b =
      let p : PlainFunction = function_there fs xs low b.one in
      subst (λ (k : Function). IsLowered P f k) (sym b.made)
      (subst (λ (k : source.Function). IsLowered P k (linked_function [] p)) (sym b.is) (is-lowered b.one b.in_file))

  pub all-lowered : AllLowered P
  all-lowered f g pair = lowered-as f g (both-found f g pair)

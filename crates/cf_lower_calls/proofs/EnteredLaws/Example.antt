-- A program to which the law on all functions applies: `int g(int x){return x;}`, `int f(){return g(1);}` and `int k(int (*p)(int)){putchar(97); return p(1);}`, with what
-- they are lowered to.
use Rattle.std.proofs.Common.{◌≡◌, ℕ, zero, suc, Bool, true, false, ◌||◌, ◌==◌, if◌then◌else◌, List, [], ◌∷◌, codes, bytes_eq, slice_get, refl, sym, ◌∙◌, ap, subst, arith}
use Rattle.std.specs.Prelude.{pos, Option, Some, None, Result, Ok, is_some}
use Rattle.std.specs.Fmt.{digits}
use Rattle.std.proofs.lemmas.Bool.Decides.{nat_tests}
use Rattle.cf_base.specs.declared.kind.Kind.TheVariants.{Int}
use Rattle.cf_base.proofs.Tests.{same_bytes}
use Rattle.cf_core.specs.Types.{Name, SourceType, void, integer, pointer, takes, gives, parameters}
use Rattle.cf_core.specs.Core.{Function, plain_function}
use Rattle.cf_core.specs.Calls.{Program, function_named}
use Rattle.cf_core.specs.Objects.{static_number}
use Rattle.cf_plain.specs.Plain as plain
use Rattle.cf_plain.specs.Plain.{Plain, Plains, act, set, give, nothing, more, PlainFunction}
use Rattle.cf_plain.specs.Running.{header}
use Rattle.cc_whole.specs.Plain as c_tree
use Rattle.cc_whole_locals.specs.Names.{is_local, is_parameter}
use Rattle.cc_whole_mean.specs.declared.named.Named.{Named}
use Rattle.cc_whole_mean.specs.declared.named.Named.TheVariants as meant
use Rattle.cc_whole_mean.specs.Callee.{Callee, own, callee_named}
use Rattle.cf_lower.specs.Functions.{lowered_parameters}
use Rattle.cf_lower_relate.specs.Map.{Numbered}
use Rattle.cf_lower_steps.specs.Lowering.{is_function}
use Rattle.cf_lower_turns.specs.Texts.{Text}
use Rattle.cf_lower_calls.specs.Returns.Called.{Programs, fixed, Pair}
use Rattle.cf_lower_calls.specs.Born.Laid.{c_locals, is_laid_out}
use Rattle.cf_lower_calls.specs.Entered.Linked.{linked_function}
use Rattle.cf_lower_calls.specs.Entered.Lowered.{Fitting, IsOutside, IsLowered, AllLowered}

-- ---- the plain functions

abbrev pub int : SourceType
int = integer Int

abbrev pub g_name : Name
g_name = codes "g__Fi"

abbrev pub f_name : Name
f_name = codes "f__Fv"

abbrev pub k_name : Name
k_name = codes "k__FPFi"

abbrev pub of_int : SourceType
of_int = takes int (gives int false)

abbrev pub g_body : Plains
g_body =
    more (set 0 (plain.local 0)) (more (set 0 (plain.read 0)) (more (act (plain.finish int 0)) (more (give (Some 0)) (more (act (plain.finish int 0)) nothing))))

abbrev pub the_call : Plain
the_call = set 0 (plain.call g_name of_int None (0 ∷ []) None)

abbrev pub f_body : Plains
f_body =
    more (set 0 (plain.declare 0 int)) (more (set 1 (plain.number (pos 1))) (more (act (plain.first 0 1)) (more the_call (more (give (Some 0)) nothing))))

abbrev pub k_put : Plain
k_put = set 0 (plain.call (codes "putchar") of_int None (1 ∷ []) None)

abbrev pub k_call : Plain
k_call = set 0 (plain.pointer_call None 0 of_int (2 ∷ []) None)

abbrev pub k_end : Plain
k_end = act (plain.finish (pointer of_int) 0)

abbrev pub k_body : Plains
k_body =
    more (set 0 (plain.declare 1 int)) (more (set 1 (plain.number (pos 97))) (more (act (plain.first 0 1)) (more k_put
    (more (set 0 (plain.local 0)) (more (set 0 (plain.read 0)) (more (set 1 (plain.declare 2 int)) (more (set 2 (plain.number (pos 1))) (more (act (plain.first 1 2))
    (more k_call (more k_end (more (give (Some 0)) nothing)))))))))))

abbrev pub g : PlainFunction
g = record { name = g_name; role = plain_function; type = of_int; locals = []; body = g_body; is_shared = false; is_local = false }

abbrev pub f : PlainFunction
f = record { name = f_name; role = plain_function; type = gives int false; locals = int ∷ []; body = f_body; is_shared = false; is_local = false }

-- ---- both programs

abbrev pub k : PlainFunction
k = record { name = k_name; role = plain_function; type = takes (pointer of_int) (gives int false); locals = int ∷ int ∷ []; body = k_body; is_shared = false; is_local = false }

abbrev pub P : Program
P = record { classes = []; functions = header g ∷ header f ∷ header k ∷ []; statics = []; constants = []; initialisers = [] }

-- the functions' numbers, by the tests for their names: those of the program, and the library's behind
abbrev pub number_by : Bool → Bool → Bool → Bool → Bool → Bool → ℕ
number_by a b c d e m =
    if a then 4 else (if b then 5 else (if c then 6 else (if d then 1 else (if e then 2 else (if m then 3 else 0)))))

abbrev pub number_of : Name → ℕ
number_of name =
    number_by (bytes_eq name (codes "putchar")) (bytes_eq name (codes "getchar")) (bytes_eq name (codes "exit")) (bytes_eq g_name name) (bytes_eq f_name name) (bytes_eq k_name name)

abbrev pub name_of_number : ℕ → Option Named
name_of_number zero = None
name_of_number (suc n) = Some (meant.Function (suc n))

abbrev pub type_of_library : Name → SourceType
type_of_library name = if bytes_eq name (codes "putchar") then of_int else (if bytes_eq name (codes "getchar") then gives int false else takes int (gives void false))

abbrev pub type_of_function : Name → Option Function → SourceType
type_of_function name None = type_of_library name
type_of_function name (Some x) = x.type

abbrev pub c_functions : List c_tree.Function
c_functions = linked_function [] g ∷ linked_function [] f ∷ linked_function [] k ∷ []

abbrev pub B : Programs
B = record {
  program = P;
  functions = g ∷ f ∷ k ∷ [];
  function = number_of;
  signature = λ name. type_of_function name (function_named P name);
  c_program = record { functions = c_functions; names = λ name. name_of_number (number_of name) };
  texts = λ name j. None;
}

-- ---- names

abbrev pub six : List Name
six = g_name ∷ f_name ∷ k_name ∷ codes "putchar" ∷ codes "getchar" ∷ codes "exit" ∷ []

pub some-name : {a b : Name} → Some a ≡ Some b → a ≡ b
some-name e = cc

-- a name with the number that stands for it
pub record HasNumber (n : ℕ) (name : Name) : Type 0 where
  pub place : ℕ
  pub is : n ≡ suc place
  pub at : slice_get six place ≡ Some name

abbrev pub found_by : Bool → Bool → Bool → Option Function
found_by d e m = if d then Some (header g) else (if e then Some (header f) else (if m then Some (header k) else None))

abbrev pub function_by : Bool → Bool → Bool → Bool → Bool → Bool → Bool
function_by a b c d e m = (a || b || c) || is_some (found_by d e m)

pub some-same : (a b : Name) → a ≡ b → Some a ≡ Some b
some-same a b e = ap (λ (x : Name). Some x) e

pub has-number : (name : Name) → is_function P name ≡ true → HasNumber (number_of name) name
has-number name h =
    by (bytes_eq name (codes "putchar")) (bytes_eq name (codes "getchar")) (bytes_eq name (codes "exit")) (bytes_eq g_name name) (bytes_eq f_name name) (bytes_eq k_name name)
    refl refl refl refl refl refl h
  where
    by : (a b c d e m : Bool) → bytes_eq name (codes "putchar") ≡ a → bytes_eq name (codes "getchar") ≡ b → bytes_eq name (codes "exit") ≡ c → bytes_eq g_name name ≡ d
        → bytes_eq f_name name ≡ e → bytes_eq k_name name ≡ m → function_by a b c d e m ≡ true → HasNumber (number_by a b c d e m) name
    by true b c d e m e1 e2 e3 e4 e5 e6 x = record { place = 3; is = refl; at = some-same (codes "putchar") name (sym (same_bytes name (codes "putchar") e1)) }
    by false true c d e m e1 e2 e3 e4 e5 e6 x = record { place = 4; is = refl; at = some-same (codes "getchar") name (sym (same_bytes name (codes "getchar") e2)) }
    by false false true d e m e1 e2 e3 e4 e5 e6 x = record { place = 5; is = refl; at = some-same (codes "exit") name (sym (same_bytes name (codes "exit") e3)) }
    by false false false true e m e1 e2 e3 e4 e5 e6 x = record { place = 0; is = refl; at = some-same g_name name (same_bytes g_name name e4) }
    by false false false false true m e1 e2 e3 e4 e5 e6 x = record { place = 1; is = refl; at = some-same f_name name (same_bytes f_name name e5) }
    by false false false false false true e1 e2 e3 e4 e5 e6 x = record { place = 2; is = refl; at = some-same k_name name (same_bytes k_name name e6) }
    by false false false false false false e1 e2 e3 e4 e5 e6 x = absurd (let y = x in cc)

pub suc-same : {i j : ℕ} → suc i ≡ suc j → i ≡ j
suc-same e = omega (arith, e)

no-zero : (n i : ℕ) → n ≡ suc i → n == 0 ≡ false
no-zero n i e = grind (arith, nat_tests, e)

pub numbered : Numbered (fixed B)
numbered = record {
  some = λ name h. no-zero (number_of name) (has-number name h).place (has-number name h).is;
  apart = λ a b h x e.
      let one = has-number a h in
      let two = has-number b x in
      let same : one.place ≡ two.place = suc-same (sym one.is ∙ e ∙ two.is) in
      some-name (sym one.at ∙ ap (slice_get six) same ∙ two.at);
}

-- none of the functions' C locals has one of these names
pub outside : (q : PlainFunction) → IsOutside B q g_name → IsOutside B q f_name → IsOutside B q k_name → IsOutside B q (codes "putchar") → IsOutside B q (codes "getchar")
    → IsOutside B q (codes "exit") → (i : ℕ) (name : Name) → slice_get six i ≡ Some name → IsOutside B q name
outside q a b c d e m zero name x = subst (IsOutside B q) (some-name x) a
outside q a b c d e m (suc zero) name x = subst (IsOutside B q) (some-name x) b
outside q a b c d e m (suc (suc zero)) name x = subst (IsOutside B q) (some-name x) c
outside q a b c d e m (suc (suc (suc zero))) name x = subst (IsOutside B q) (some-name x) d
outside q a b c d e m (suc (suc (suc (suc zero)))) name x = subst (IsOutside B q) (some-name x) e
outside q a b c d e m (suc (suc (suc (suc (suc zero))))) name x = subst (IsOutside B q) (some-name x) m
outside q a b c d e m (suc (suc (suc (suc (suc (suc i)))))) name x = absurd (let y = x in cc)

abbrev pub out : (q : PlainFunction) (name : Name) → is_local name (c_locals [] q) ≡ false → is_parameter name (lowered_parameters 0 (parameters q.type)) ≡ false → IsOutside B q name
out q name a b = record { locals = a; parameters = b }

pub outside-g : (i : ℕ) (name : Name) → slice_get six i ≡ Some name → IsOutside B g name
outside-g =
    outside g (out g g_name refl refl) (out g f_name refl refl) (out g k_name refl refl) (out g (codes "putchar") refl refl) (out g (codes "getchar") refl refl)
    (out g (codes "exit") refl refl)

pub outside-f : (i : ℕ) (name : Name) → slice_get six i ≡ Some name → IsOutside B f name
outside-f =
    outside f (out f g_name refl refl) (out f f_name refl refl) (out f k_name refl refl) (out f (codes "putchar") refl refl) (out f (codes "getchar") refl refl)
    (out f (codes "exit") refl refl)

pub outside-k : (i : ℕ) (name : Name) → slice_get six i ≡ Some name → IsOutside B k name
outside-k =
    outside k (out k g_name refl refl) (out k f_name refl refl) (out k k_name refl refl) (out k (codes "putchar") refl refl) (out k (codes "getchar") refl refl)
    (out k (codes "exit") refl refl)

pub fitting : Fitting B
fitting = record {
  none = refl;
  simple = refl;
  numbered = numbered;
  named = λ name h. let x = has-number name h in ap name_of_number x.is ∙ ap (λ (n : ℕ). Some (meant.Function n)) (sym x.is);
  typed = λ name q e. ap (type_of_function name) e;
  literals = λ name j x e. absurd (let y = e in cc);
}

-- ---- what is lowered

pub none-static : (name : Name) (o : ℕ) → static_number P name ≡ Some o → ⊥
none-static name o e = let y = e in cc

pub none-text : (j : ℕ) (x : Text) → B.texts g_name j ≡ Some x → ⊥
none-text j x e = let y = e in cc

pub g-laid : is_laid_out B.program.classes g ≡ true
unfolding digits
g-laid = refl

pub f-laid : is_laid_out B.program.classes f ≡ true
unfolding digits
f-laid = refl

pub k-laid : is_laid_out B.program.classes k ≡ true
unfolding digits
k-laid = refl

abbrev pub g-lowered : IsLowered B (header g) (linked_function [] g)
g-lowered = record {
  plain = g;
  found = refl;
  is = refl;
  role = refl;
  scalar = refl;
  made = refl;
  laid = g-laid;
  functions = λ name h. let x = has-number name h in outside-g x.place name x.at;
  statics = λ name o e. absurd (none-static name o e);
  literals = λ j x e. absurd (none-text j x e);
}

abbrev pub f-lowered : IsLowered B (header f) (linked_function [] f)
f-lowered = record {
  plain = f;
  found = refl;
  is = refl;
  role = refl;
  scalar = refl;
  made = refl;
  laid = f-laid;
  functions = λ name h. let x = has-number name h in outside-f x.place name x.at;
  statics = λ name o e. absurd (none-static name o e);
  literals = λ j x e. absurd (none-text j x e);
}

abbrev pub k-lowered : IsLowered B (header k) (linked_function [] k)
k-lowered = record {
  plain = k;
  found = refl;
  is = refl;
  role = refl;
  scalar = refl;
  made = refl;
  laid = k-laid;
  functions = λ name h. let x = has-number name h in outside-k x.place name x.at;
  statics = λ name o e. absurd (none-static name o e);
  literals = λ j x e. absurd (none-text j x e);
}

pub some-function : {a b : Function} → Some a ≡ Some b → a ≡ b
some-function e = cc

abbrev pub found_own : c_tree.Function → Result Callee ℕ
found_own a = Ok (own a)

pub own-same : {a b : c_tree.Function} → found_own a ≡ found_own b → a ≡ b
own-same e = cc

pub g-pair : Pair B (header g) (linked_function [] g)
g-pair = record { found = refl; c_found = refl; name = refl; no_main = refl; no_helper = refl; no_library = refl; count = refl }

-- a function of both, by its name
pub with-name : (q : PlainFunction) → callee_named c_functions q.name ≡ found_own (linked_function [] q) → IsLowered B (header q) (linked_function [] q) → (x : Function)
    (y : c_tree.Function) → header q ≡ x → callee_named c_functions x.name ≡ found_own y → IsLowered B x y
with-name q at lowered x y e found =
    let c : linked_function [] q ≡ y = own-same (sym at ∙ ap (λ (v : Function). callee_named c_functions v.name) e ∙ found) in
    subst (λ (v : c_tree.Function). IsLowered B x v) c (subst (λ (v : Function). IsLowered B v (linked_function [] q)) e lowered)

pub all-lowered : AllLowered B
all-lowered x y pair = by (bytes_eq g_name x.name) (bytes_eq f_name x.name) (bytes_eq k_name x.name) pair.found
  where
    by : (a b c : Bool) → found_by a b c ≡ Some x → IsLowered B x y
    by true b c e = with-name g refl g-lowered x y (some-function e) pair.c_found
    by false true c e = with-name f refl f-lowered x y (some-function e) pair.c_found
    by false false true e = with-name k refl k-lowered x y (some-function e) pair.c_found
    by false false false e = absurd (let n = e in cc)

-- The C's own names in a function stand for its parameters, locals, registers, flags and results.
use Rattle.std.proofs.Common.{◌≡◌, ℕ, zero, suc, ◌+◌, ◌^◌, ◌≤◌, ◌<◌, ◌==◌, Bool, true, false, ◌||◌, if◌then◌else◌, List, [], ◌∷◌, ◌++◌, length, slice_get, refl, ap, sym, subst, ◌∙◌, inl, inr, ◌⊎◌, arith}
use Rattle.std.specs.Prelude.{Option, Some, None, option_map, decimal}
use Rattle.std.specs.List.{list_any, flat_map}
use Rattle.std.specs.Str.Parse.{digits_value}
use Rattle.std.proofs.lemmas.Bool.{cases_lt, eqb-true}
use Rattle.cf_base.specs.declared.kind.Kind.TheVariants.{Int}
use Rattle.cf_core.specs.Types.{SourceType, void}
use Rattle.cf_lower_layout.specs.Sorts.{Sort, number, address, code, sort_of}
use Rattle.cf_plain.specs.Plain.{Action}
use Rattle.cc_whole.specs.declared.types.CType.{CType}
use Rattle.cc_whole.specs.declared.types.CType.TheVariants as ty
use Rattle.cc_whole.specs.declared.types.CLocalType.TheVariants as local
use Rattle.cc_whole.specs.declared.types.CVariableType.TheVariants as variable
use Rattle.cc_whole.specs.declared.statement.CLocal.{CLocal}
use Rattle.cc_whole.specs.declared.unit.CParameter.{CParameter}
use Rattle.cc_whole.specs.Types.{local_type}
use Rattle.cc_whole.specs.Known.{Meant, object, Named}
use Rattle.cf_lower.specs.Written.{if_scalar, c_type, register_type, words, local_name, register_name, flag_name, result_name, type_number}
use Rattle.cf_lower.specs.Written as written
use Rattle.cf_lower.specs.Functions.{scalar, own_locals, registers, flags, result_at, each_once, results, lowered_parameters}
use Rattle.cc_whole_sections.specs.Sections.{In, Every}
use Rattle.cc_whole_sections.proofs.Names.{in-left, in-right}
use Rattle.cf_lower_valid.proofs.Digits.{number-read}
use Rattle.cf_lower_valid.proofs.Inner.{named_local, named_parameter, every-mapped, every-append, mapped-in}
use Rattle.cf_lower_valid.proofs.Spans.{three, type-number-small, locals_after}

-- ---- what a name tells

abbrev numbered_type : ℕ → CType
numbered_type n =
    if n == 0 then ty.Char
    else (if n == 1 then ty.UChar
    else (if n == 2 then ty.Short
    else (if n == 3 then ty.UShort
    else (if n == 4 then ty.Int
    else (if n == 5 then ty.UInt
    else (if n == 6 then ty.Pointer else ty.FunctionPointer))))))

pub numbered-type : (t : CType) → numbered_type (type_number t) ≡ t
numbered-type ty.Char = refl
numbered-type ty.UChar = refl
numbered-type ty.Short = refl
numbered-type ty.UShort = refl
numbered-type ty.Int = refl
numbered-type ty.UInt = refl
numbered-type ty.Pointer = refl
numbered-type ty.FunctionPointer = refl

abbrev a_scalar : CType → Option Meant
a_scalar t = Some (object (variable.Scalar t))

abbrev pub a_local : SourceType → Meant
a_local t = object (local_type (written.local_type [] t))

-- of a name with this letter and number
abbrev letter_means : List SourceType → ℕ → ℕ → Option Meant
letter_means types c n =
    if c == 108 then option_map a_local (slice_get types n)
    else (if c == 112 then a_scalar ty.Pointer
    else (if c == 102 then a_scalar ty.FunctionPointer
    else (if c == 118 then a_scalar (numbered_type n) else a_scalar ty.Int)))

abbrev pub means : List SourceType → List ℕ → Option Meant
means types [] = None
means types (a ∷ []) = None
means types (a ∷ b ∷ []) = None
means types (a ∷ b ∷ c ∷ ds) = letter_means types c (digits_value 10 ds)

abbrev pub letters : List ℕ
letters = 108 ∷ 105 ∷ 112 ∷ 102 ∷ 119 ∷ 118 ∷ []

-- a name of the C's own, which means what it tells
pub record Entry (types : List SourceType) (x : Named) : Type 0 where
  pub letter : ℕ
  pub number : ℕ
  pub is_letter : In letter letters
  pub is : x.name ≡ 95 ∷ 95 ∷ letter ∷ decimal number
  pub says : means types x.name ≡ Some x.meant

module _ (types : List SourceType) where
  entry : (c n : ℕ) (m : Meant) → n < 2 ^ 64 → In c letters → letter_means types c n ≡ Some m
      → Entry types (record { name = 95 ∷ 95 ∷ c ∷ decimal n; meant = m })
  entry c n m lt h e = record { letter = c; number = n; is_letter = h; is = refl; says = ap (letter_means types c) (number-read n lt) ∙ e }

  abbrev Local : CLocal → Type 0
  Local x = Entry types (named_local x)

  abbrev Parameter : CParameter → Type 0
  Parameter p = Entry types (named_parameter p)

  -- the types of what follows stand from this number on
  abbrev StandFrom : ℕ → List SourceType → Type 0
  StandFrom i ts = (k : ℕ) (t : SourceType) → slice_get ts k ≡ Some t → slice_get types (i + k) ≡ Some t

  head-stands : (i : ℕ) (t : SourceType) (ts : List SourceType) → StandFrom i (t ∷ ts) → slice_get types i ≡ Some t
  head-stands i t ts at = subst (λ n. slice_get types n ≡ Some t) (let e : i + 0 ≡ i = omega arith in e) (at 0 t refl)

  rest-stands : (i : ℕ) (t : SourceType) (ts : List SourceType) → StandFrom i (t ∷ ts) → StandFrom (suc i) ts
  rest-stands i t ts at k u e = subst (λ n. slice_get types n ≡ Some u) (let s : i + suc k ≡ suc i + k = omega arith in s) (at (suc k) u e)

  pub own-entries : (i : ℕ) (ts : List SourceType) → StandFrom i ts → i + length ts ≤ 2 ^ 64 → Every Local (own_locals [] i ts)
  own-entries i [] at le x h = absurd h
  own-entries i (t ∷ ts) at le x (inl e) =
      let l : i + suc (length ts) ≤ 2 ^ 64 = le in
      subst Local e (entry 108 i (a_local t) (omega (arith, l)) (inl refl) (ap (option_map a_local) (head-stands i t ts at)))
  own-entries i (t ∷ ts) at le x (inr h) =
      let l : i + suc (length ts) ≤ 2 ^ 64 = le in own-entries (suc i) ts (rest-stands i t ts at) (omega (arith, l)) x h

  -- a scalar's C local
  pub scalar-local : (t : SourceType) (s : Sort) → sort_of t ≡ Some s → a_local t ≡ object (variable.Scalar (c_type s))
  scalar-local t s e = ap (λ o. object (local_type (if_scalar o (local.Ints (words [] t)) (λ s. local.Scalar (c_type s))))) e

  pub parameter-entries : (i : ℕ) (ts : List SourceType) → StandFrom i ts → i + length ts ≤ 2 ^ 64 → Every Parameter (lowered_parameters i ts)
  parameter-entries i [] at le p h = absurd h
  parameter-entries i (t ∷ ts) at le q k =
      let l : i + suc (length ts) ≤ 2 ^ 64 = le in
      go (sort_of t) refl (parameter-entries (suc i) ts (rest-stands i t ts at) (omega (arith, l))) (omega (arith, l)) (head-stands i t ts at) q k
    where
      go : (o : Option Sort) → sort_of t ≡ o → Every Parameter (lowered_parameters (suc i) ts) → i < 2 ^ 64 → slice_get types i ≡ Some t
          → Every Parameter (if_scalar o (lowered_parameters (suc i) ts) (λ s. record { ty = c_type s; name = local_name i } ∷ lowered_parameters (suc i) ts))
      go None e rest lt is p h = rest p h
      go (Some s) e rest lt is p (inl k) =
          subst Parameter k (entry 108 i (object (variable.Scalar (c_type s))) lt (inl refl)
          (ap (option_map a_local) is ∙ ap (λ (m : Meant). Some m) (scalar-local t s e)))
      go (Some s) e rest lt is p (inr h) = rest p h

  every-cons : {A : Type 0} (P : A → Type 0) (x : A) (xs : List A) → P x → Every P xs → Every P (x ∷ xs)
  every-cons P x xs p h y (inl e) = subst P e p
  every-cons P x xs p h y (inr k) = h y k

  every-none : {A : Type 0} (P : A → Type 0) → Every P []
  every-none P x h = absurd h

  register-entries : (n : ℕ) → n ≤ 2 ^ 64 → Every Local (registers n)
  register-entries zero le = every-none Local
  register-entries (suc r) le =
      let l : suc r ≤ 2 ^ 64 = le in
      let lt : r < 2 ^ 64 = omega (arith, l) in
      let i : CLocal = scalar ty.Int (register_name (number Int) r) in
      let p : CLocal = scalar ty.Pointer (register_name (address void) r) in
      let f : CLocal = scalar ty.FunctionPointer (register_name (code void) r) in
      every-append Local (registers r) (i ∷ p ∷ f ∷ []) (register-entries r (omega (arith, l)))
      (every-cons Local i (p ∷ f ∷ []) (entry 105 r (object (variable.Scalar ty.Int)) lt (inr (inl refl)) refl)
      (every-cons Local p (f ∷ []) (entry 112 r (object (variable.Scalar ty.Pointer)) lt (inr (inr (inl refl))) refl)
      (every-cons Local f [] (entry 102 r (object (variable.Scalar ty.FunctionPointer)) lt (inr (inr (inr (inl refl)))) refl) (every-none Local))))

  flag-entries : (d : ℕ) → d ≤ 2 ^ 64 → Every Local (flags d)
  flag-entries zero le = every-none Local
  flag-entries (suc d) le =
      let l : suc d ≤ 2 ^ 64 = le in
      every-append Local (flags d) (scalar ty.Int (flag_name d) ∷ []) (flag-entries d (omega (arith, l)))
      (every-cons Local (scalar ty.Int (flag_name d)) []
      (entry 119 d (object (variable.Scalar ty.Int)) (omega (arith, l)) (inr (inr (inr (inr (inl refl))))) refl) (every-none Local))

  result-entry : (t : CType) → Local (scalar t (result_name t))
  result-entry t =
      let l = type-number-small t in
      entry 118 (type_number t) (object (variable.Scalar t)) (omega (arith, l)) (inr (inr (inr (inr (inr (inl refl)))))) (ap a_scalar (numbered-type t))

  pub local-entries : (k : ℕ) (ls : List SourceType) (n d : ℕ) (actions : List Action) → StandFrom k ls → k + length ls ≤ 2 ^ 64 → n ≤ 2 ^ 64 → d ≤ 2 ^ 64
      → Every Local (locals_after k ls n d actions)
  local-entries k ls n d actions at few fewer fewest =
      every-append Local (own_locals [] k ls ++ registers n ++ flags d) (results actions)
      (every-append Local (own_locals [] k ls ++ registers n) (flags d)
      (every-append Local (own_locals [] k ls) (registers n) (own-entries k ls at few) (register-entries n fewer)) (flag-entries d fewest))
      (every-mapped Local (λ (t : CType). scalar t (result_name t)) (each_once (flat_map result_at actions)) (λ t h. result-entry t))

-- ---- they stand there

some-is : {A : Type 0} (a b : A) → Some a ≡ Some b → a ≡ b
some-is a b h = cc

abbrev pub own_local : SourceType → ℕ → CLocal
own_local t i = record { ty = written.local_type [] t; name = local_name i }

in-own : (i : ℕ) (ts : List SourceType) (k : ℕ) (t : SourceType) → slice_get ts k ≡ Some t → In (own_local t (i + k)) (own_locals [] i ts)
in-own i [] k t e = absurd (cc)
in-own i (u ∷ ts) zero t e = inl (ap (λ (v : SourceType). own_local v i) (some-is u t e) ∙ ap (own_local t) (let s : i ≡ i + 0 = omega arith in s))
in-own i (u ∷ ts) (suc k) t e =
    inr (subst (λ n. In (own_local t n) (own_locals [] (suc i) ts)) (let s : suc i + k ≡ i + suc k = omega arith in s) (in-own (suc i) ts k t e))

abbrev pub own_parameter : Sort → ℕ → CParameter
own_parameter s i = record { ty = c_type s; name = local_name i }

in-parameters : (i : ℕ) (ts : List SourceType) (k : ℕ) (t : SourceType) (s : Sort) → slice_get ts k ≡ Some t → sort_of t ≡ Some s
    → In (own_parameter s (i + k)) (lowered_parameters i ts)
in-parameters i [] k t s e is = absurd (cc)
in-parameters i (u ∷ ts) zero t s e is =
    subst (λ o. In (own_parameter s (i + 0)) (if_scalar o (lowered_parameters (suc i) ts) (λ s. own_parameter s i ∷ lowered_parameters (suc i) ts)))
    (sym (ap sort_of (some-is u t e) ∙ is))
    (inl (ap (own_parameter s) (let n : i ≡ i + 0 = omega arith in n)))
in-parameters i (u ∷ ts) (suc k) t s e is =
    go (sort_of u) (subst (λ n. In (own_parameter s n) (lowered_parameters (suc i) ts)) (let n : suc i + k ≡ i + suc k = omega arith in n) (in-parameters (suc i) ts k t s e is))
  where
    go : (o : Option Sort) → In (own_parameter s (i + suc k)) (lowered_parameters (suc i) ts)
        → In (own_parameter s (i + suc k)) (if_scalar o (lowered_parameters (suc i) ts) (λ s. own_parameter s i ∷ lowered_parameters (suc i) ts))
    go None h = h
    go (Some z) h = inr h

in-three : (s : Sort) (r : ℕ) → In (scalar (register_type s) (register_name s r)) (three r)
in-three (number k) r = inl refl
in-three (address t) r = inr (inl refl)
in-three (code t) r = inr (inr (inl refl))

in-registers : (s : Sort) (r n : ℕ) → r < n → In (scalar (register_type s) (register_name s r)) (registers n)
in-registers s r zero lt = absurd (let l : r < 0 = lt in omega (arith, l))
in-registers s r (suc n) lt = go (λ l. in-registers s r n l) (cases_lt r n)
  where
    go : (r < n → In (scalar (register_type s) (register_name s r)) (registers n)) → (r < n) ⊎ (n ≤ r)
        → In (scalar (register_type s) (register_name s r)) (registers n ++ three n)
    go again (inl l) = in-left (scalar (register_type s) (register_name s r)) (registers n) (three n) (again l)
    go again (inr l) =
        let k : r < suc n = lt in
        let same : n ≡ r = omega (arith, k, l) in
        in-right (scalar (register_type s) (register_name s r)) (registers n) (three n)
        (subst (λ m. In (scalar (register_type s) (register_name s r)) (three m)) (sym same) (in-three s r))

in-flags : (i d : ℕ) → i < d → In (scalar ty.Int (flag_name i)) (flags d)
in-flags i zero lt = absurd (let l : i < 0 = lt in omega (arith, l))
in-flags i (suc d) lt = go (λ l. in-flags i d l) (cases_lt i d)
  where
    go : (i < d → In (scalar ty.Int (flag_name i)) (flags d)) → (i < d) ⊎ (d ≤ i) → In (scalar ty.Int (flag_name i)) (flags d ++ scalar ty.Int (flag_name d) ∷ [])
    go again (inl l) = in-left (scalar ty.Int (flag_name i)) (flags d) (scalar ty.Int (flag_name d) ∷ []) (again l)
    go again (inr l) =
        let k : i < suc d = lt in
        let same : d ≡ i = omega (arith, k, l) in
        in-right (scalar ty.Int (flag_name i)) (flags d) (scalar ty.Int (flag_name d) ∷ []) (inl (ap (λ n. scalar ty.Int (flag_name n)) same))

pub record Passing {A : Type 0} (test : A → Bool) (xs : List A) : Type 0 where
  pub one : A
  pub there : In one xs
  pub passes : test one ≡ true

pub any-in : {A : Type 0} (test : A → Bool) (xs : List A) → list_any test xs ≡ true → Passing test xs
any-in test [] e = absurd (cc)
any-in test (x ∷ xs) e = go (λ k. any-in test xs k) (test x) refl e
  where
    go : (list_any test xs ≡ true → Passing test xs) → (b : Bool) → test x ≡ b → (b || list_any test xs) ≡ true → Passing test (x ∷ xs)
    go again true is k = record { one = x; there = inl refl; passes = is }
    go again false is k = let rest = again k in record { one = rest.one; there = inr rest.there; passes = rest.passes }

same-numbers : (t u : CType) → (type_number u == type_number t) ≡ true → u ≡ t
same-numbers t u e = sym (numbered-type u) ∙ ap numbered_type (eqb-true (type_number u) (type_number t) e) ∙ numbered-type t

in-once : (t : CType) (ts : List CType) → In t ts → In t (each_once ts)
in-once t [] h = h
in-once t (u ∷ ts) h = go (λ k. in-once t ts k) (list_any (λ (w : CType). type_number w == type_number u) (each_once ts)) refl h
  where
    go : (In t ts → In t (each_once ts)) → (b : Bool) → list_any (λ (w : CType). type_number w == type_number u) (each_once ts) ≡ b → In t (u ∷ ts)
        → In t (if b then each_once ts else u ∷ each_once ts)
    go again true e (inl k) =
        let w = any-in (λ (w : CType). type_number w == type_number u) (each_once ts) e in
        subst (λ (x : CType). In x (each_once ts)) (same-numbers u w.one w.passes ∙ k) w.there
    go again true e (inr k) = again k
    go again false e (inl k) = inl k
    go again false e (inr k) = inr (again k)

pub in-flat : {A B : Type 0} (f : A → List B) (x : A) (y : B) (xs : List A) → In x xs → In y (f x) → In y (flat_map f xs)
in-flat f x y [] h k = absurd h
in-flat f x y (z ∷ xs) (inl e) k = in-left y (f z) (flat_map f xs) (subst (λ w. In y (f w)) (sym e) k)
in-flat f x y (z ∷ xs) (inr h) k = in-right y (f z) (flat_map f xs) (in-flat f x y xs h k)

module _ (k : ℕ) (ls : List SourceType) (n d : ℕ) (actions : List Action) where
  -- in front of flags and results
  before-flags : (x : CLocal) → In x (own_locals [] k ls ++ registers n) → In x (locals_after k ls n d actions)
  before-flags x h =
      in-left x (own_locals [] k ls ++ registers n ++ flags d) (results actions) (in-left x (own_locals [] k ls ++ registers n) (flags d) h)

  pub in-locals : (i : ℕ) (t : SourceType) → slice_get ls i ≡ Some t → In (own_local t (k + i)) (locals_after k ls n d actions)
  in-locals i t e = before-flags (own_local t (k + i)) (in-left (own_local t (k + i)) (own_locals [] k ls) (registers n) (in-own k ls i t e))

  pub in-held : (s : Sort) (r : ℕ) → r < n → In (scalar (register_type s) (register_name s r)) (locals_after k ls n d actions)
  in-held s r lt =
      let x = scalar (register_type s) (register_name s r) in
      before-flags x (in-right x (own_locals [] k ls) (registers n) (in-registers s r n lt))

  pub in-flagged : (i : ℕ) → i < d → In (scalar ty.Int (flag_name i)) (locals_after k ls n d actions)
  in-flagged i lt =
      let x = scalar ty.Int (flag_name i) in
      in-left x (own_locals [] k ls ++ registers n ++ flags d) (results actions) (in-right x (own_locals [] k ls ++ registers n) (flags d) (in-flags i d lt))

  pub in-given : (a : Action) (t : CType) → In a actions → In t (result_at a) → In (scalar t (result_name t)) (locals_after k ls n d actions)
  in-given a t h g =
      in-right (scalar t (result_name t)) (own_locals [] k ls ++ registers n ++ flags d) (results actions)
      (mapped-in (λ (t : CType). scalar t (result_name t)) t (each_once (flat_map result_at actions)) (in-once t (flat_map result_at actions) (in-flat result_at a t actions h g)))

pub in-passed : (ts : List SourceType) (i : ℕ) (t : SourceType) (s : Sort) → slice_get ts i ≡ Some t → sort_of t ≡ Some s
    → In (own_parameter s i) (lowered_parameters 0 ts)
in-passed ts i t s e is = subst (λ n. In (own_parameter s n) (lowered_parameters 0 ts)) (let z : 0 + i ≡ i = omega arith in z) (in-parameters 0 ts i t s e is)

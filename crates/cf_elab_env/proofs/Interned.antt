-- The number that the table of types gives to a type is the one of the definition: the first place of it, or the end.
use Rattle.std.proofs.Common.{◌≡◌, ℕ, zero, suc, ◌+◌, ◌<◌, ◌⊎◌, inl, inr, ◌==◌, Bool, true, false, ◌&&◌, List, [], ◌∷◌, ◌++◌, length, Option, None, Some, slice_get, if◌then◌else◌, refl, sym, ap, subst, ◌∙◌, true≢false, arith, eq-eqb, length-append, ◌≤◌, ◌^◌, All, IsTrue}
use Rattle.std.specs.Prelude.{nat_eq}
use Rattle.std.specs.Cmp.Lexicographic.{pointwise, same_text}
use Rattle.std.proofs.lemmas.Bool.{eqb-true}
use Rattle.std.proofs.lemmas.List.{append-nil}
use Rattle.std.proofs.lemmas.List.Elements.{All-append, All-cons}
use Rattle.std.proofs.lemmas.Option.{slice_get_within}
use denote.Enum.Bare.{same_true}
use Rattle.cf_base.proofs.Tests.{both}
use Rattle.cf_base.specs.declared.kind.Kind.{Kind}
use Rattle.cf_base.specs.declared.kind.Kind.TheVariants as kind
use Rattle.cf_base.specs.contracts.kind.Kind.{the_type}
use Rattle.cf_base.specs.contracts.kind.KindPartialEq.TheImpl.{ghosts}
use Rattle.cf_types.specs.declared.ty.Ty.{Ty}
use Rattle.cf_types.specs.declared.ty.Ty.TheVariants as ty
use Rattle.cf_types.specs.declared.ty.Fun.{Fun}
use Rattle.cf_types.specs.Table.{Table, Enters, IsTable, Names, is_normal, fun_parts, AreParameters}
use Rattle.cf_types.proofs.Tables.{entered_type as table_with_type, entered_fun as table_with_fun}
use Rattle.cf_types.proofs.Places.{get-left, get-last}
use Rattle.cf_elab.specs.Answer.{Made}
use Rattle.cf_elab.specs.Env.{Env}
use Rattle.cf_elab.specs.Made.{same_ty, same_fun, place_in, entered_type, entered_fun}
use Rattle.cf_elab_env.specs.Holds.{Grows, HasNoClass, EnumGiven, IsEnv, without_class}
use Rattle.cf_elab_env.specs.Shut as shut
use Rattle.cf_elab_env.proofs.Growth.{grown, env_grown}

-- ---- the tests of the definition

same_itself : (k : Kind) → ghosts.eq k k ≡ true
same_itself kind.Char = refl
same_itself kind.SChar = refl
same_itself kind.UChar = refl
same_itself kind.Short = refl
same_itself kind.UShort = refl
same_itself kind.Int = refl
same_itself kind.UInt = refl
same_itself kind.Long = refl
same_itself kind.ULong = refl

equal_itself : (n : ℕ) → (n == n) ≡ true
equal_itself n = eq-eqb n n refl

two_true : (x y : Bool) → x ≡ true → y ≡ true → (x && y) ≡ true
two_true x y h k = ap (λ b. b && y) h ∙ k

type_itself : (t : Ty) → same_ty t t ≡ true
type_itself ty.Void = refl
type_itself (ty.Int k) = same_itself k
type_itself (ty.Enum e) = equal_itself e
type_itself (ty.Class c) = equal_itself c
type_itself (ty.Ptr t) = equal_itself t
type_itself (ty.Ref t) = equal_itself t
type_itself (ty.Array t n) = two_true (t == t) (n == n) (equal_itself t) (equal_itself n)
type_itself (ty.Fun f) = equal_itself f
type_itself (ty.MemData c t) = two_true (c == c) (t == t) (equal_itself c) (equal_itself t)
type_itself (ty.MemFun c f) = two_true (c == c) (f == f) (equal_itself c) (equal_itself f)
type_itself (ty.Const t) = equal_itself t

same_type : (a b : Ty) → same_ty a b ≡ true → a ≡ b
same_type ty.Void ty.Void h = refl
same_type (ty.Int k) (ty.Int l) h = ap ty.Int (same_true the_type tt k l h)
same_type (ty.Enum m) (ty.Enum n) h = ap ty.Enum (eqb-true m n h)
same_type (ty.Class c) (ty.Class d) h = ap ty.Class (eqb-true c d h)
same_type (ty.Ptr t) (ty.Ptr u) h = ap ty.Ptr (eqb-true t u h)
same_type (ty.Ref t) (ty.Ref u) h = ap ty.Ref (eqb-true t u h)
same_type (ty.Array t m) (ty.Array u n) h =
    let e = both (t == u) (m == n) h in let p = eqb-true t u e.0 in let q = eqb-true m n e.1 in cc
same_type (ty.Fun f) (ty.Fun g) h = ap ty.Fun (eqb-true f g h)
same_type (ty.MemData c t) (ty.MemData d u) h =
    let e = both (c == d) (t == u) h in let p = eqb-true c d e.0 in let q = eqb-true t u e.1 in cc
same_type (ty.MemFun c f) (ty.MemFun d g) h =
    let e = both (c == d) (f == g) h in let p = eqb-true c d e.0 in let q = eqb-true f g e.1 in cc
same_type (ty.Const t) (ty.Const u) h = ap ty.Const (eqb-true t u h)
same_type a b h = absurd (true≢false (sym h))

text_itself : (xs : List ℕ) → pointwise nat_eq xs xs ≡ true
text_itself [] = refl
text_itself (x ∷ xs) = two_true (x == x) (pointwise nat_eq xs xs) (equal_itself x) (text_itself xs)

fun_itself : (f : Fun) → same_fun f f ≡ true
fun_itself f =
    two_true (f.result == f.result && pointwise nat_eq f.params f.params) _ (two_true (f.result == f.result) (pointwise nat_eq f.params f.params) (equal_itself f.result) (text_itself f.params))
    (by f.is_const)
  where
    by : (b : Bool) → same_fun (record { result = 0; params = []; is_const = b }) (record { result = 0; params = []; is_const = b }) ≡ true
    by true = refl
    by false = refl

same_function : (a b : Fun) → same_fun a b ≡ true → a ≡ b
same_function a b h =
    let e = both (a.result == b.result && pointwise nat_eq a.params b.params) _ h in
    let f = both (a.result == b.result) (pointwise nat_eq a.params b.params) e.0 in
    let p = eqb-true a.result b.result f.0 in
    let q = same_text a.params b.params (sym f.1) in
    let r = by a.is_const b.is_const e.1 in
    λ i. record { result = p i; params = q i; is_const = r i }
  where
    by : (x y : Bool) → same_fun (record { result = 0; params = []; is_const = x }) (record { result = 0; params = []; is_const = y }) ≡ true → x ≡ y
    by true true k = refl
    by true false k = sym k
    by false true k = k
    by false false k = refl

-- ---- the first place of an item

module _ {A : Type 0} (test : A → Bool) (u : A) (itself : test u ≡ true) (sound : (x : A) → test x ≡ true → u ≡ x) where
  found-step : (x : A) (xs : List A) (n i : ℕ) (b : Bool) → test x ≡ b → slice_get (x ∷ xs) i ≡ Some u → ((j : ℕ) → slice_get (x ∷ xs) j ≡ Some u → j ≡ i)
      → ((k : ℕ) → slice_get xs k ≡ Some u → ((j : ℕ) → slice_get xs j ≡ Some u → j ≡ k) → place_in test (n + 1) xs ≡ Some ((n + 1) + k))
      → (if b then Some n else place_in test (n + 1) xs) ≡ Some (n + i)
  found-step x xs n i true e h only rest =
      let first : 0 ≡ i = only 0 (ap Some (sym (sound x e))) in
      let same : n ≡ n + i = omega arith in ap Some same
  found-step x xs n zero false e h only rest = let same : x ≡ u = cc in absurd (true≢false (sym itself ∙ ap test (sym same) ∙ e))
  found-step x xs n (suc i) false e h only rest =
      let same : (n + 1) + i ≡ n + suc i = omega arith in
      rest i h (λ j k. let more : suc j ≡ suc i = only (suc j) k in omega arith) ∙ ap Some same

  -- the one place where the item is
  pub place_in-found : (xs : List A) (n i : ℕ) → slice_get xs i ≡ Some u → ((j : ℕ) → slice_get xs j ≡ Some u → j ≡ i) → place_in test n xs ≡ Some (n + i)
  place_in-found [] n i h only = cc
  place_in-found (x ∷ xs) n i h only = found-step x xs n i (test x) refl h only (λ k g one. place_in-found xs (n + 1) k g one)

  absent-step : (x : A) (xs : List A) (n : ℕ) (b : Bool) → test x ≡ b → ((j : ℕ) → slice_get (x ∷ xs) j ≡ Some u → ⊥) → place_in test (n + 1) xs ≡ None
      → (if b then Some n else place_in test (n + 1) xs) ≡ None
  absent-step x xs n true e absent rest = absurd (absent 0 (ap Some (sym (sound x e))))
  absent-step x xs n false e absent rest = rest

  pub place_in-absent : (xs : List A) (n : ℕ) → ((j : ℕ) → slice_get xs j ≡ Some u → ⊥) → place_in test n xs ≡ None
  place_in-absent [] n absent = refl
  place_in-absent (x ∷ xs) n absent = absent-step x xs n (test x) refl absent (place_in-absent xs (n + 1) (λ j h. absent (suc j) h))

  module _ (old new : List A) (place : ℕ) (enters : Enters old new u place) where
    -- what was not there before goes last
    last_place : new ≡ old ++ u ∷ [] → place ≡ length old
    last_place grown = sym (enters.only (length old) (subst (λ l. slice_get l (length old) ≡ Some u) (sym grown) (get-last old u)))

    absent_before : new ≡ old ++ u ∷ [] → (j : ℕ) → slice_get old j ≡ Some u → ⊥
    absent_before grown j h =
        let there : j ≡ place = enters.only j (subst (λ l. slice_get l j ≡ Some u) (sym grown) (get-left old (u ∷ []) j u h)) in
        omega (arith, slice_get_within old j u h, last_place grown)

    -- either it is found, or it goes last
    pub place-of : ((place_in test 0 old ≡ Some place) × (new ≡ old)) ⊎ ((place_in test 0 old ≡ None) × (new ≡ old ++ u ∷ []) × (place ≡ length old))
    place-of = elim enters.kept [
      | inl kept ↦
          let same : 0 + place ≡ place = omega arith in
          inl (
            place_in-found old 0 place (subst (λ l. slice_get l place ≡ Some u) kept enters.found) (λ j h. enters.only j (subst (λ l. slice_get l j ≡ Some u) (sym kept) h)) ∙ ap Some same,
            kept,
          )
      | inr grown ↦ inr (place_in-absent old 0 (absent_before grown), grown, last_place grown)
    ]

-- ---- tables

entered-type : (old new : Table) (u : Ty) (place : ℕ) → Enters old.types new.types u place → new.funs ≡ old.funs → entered_type old u (place_in (same_ty u) 0 old.types) ≡ (place, new)
entered-type old new u place enters funs =
    elim (place-of (same_ty u) u (type_itself u) (same_type u) old.types new.types place enters) [
      | inl a ↦ ap (entered_type old u) a.0 ∙ (λ i. (place, record { types = sym a.1 i; funs = sym funs i }))
      | inr b ↦ ap (entered_type old u) b.0 ∙ (λ i. (sym b.2 i, record { types = sym b.1 i; funs = sym funs i }))
    ]

entered-fun : (old new : Table) (u : Fun) (place : ℕ) → Enters old.funs new.funs u place → new.types ≡ old.types → entered_fun old u (place_in (same_fun u) 0 old.funs) ≡ (place, new)
entered-fun old new u place enters types =
    elim (place-of (same_fun u) u (fun_itself u) (same_function u) old.funs new.funs place enters) [
      | inl a ↦ ap (entered_fun old u) a.0 ∙ (λ i. (place, record { types = sym types i; funs = sym a.1 i }))
      | inr b ↦ ap (entered_fun old u) b.0 ∙ (λ i. (sym b.2 i, record { types = sym types i; funs = sym b.1 i }))
    ]

-- ---- the rows

pub interned : (env : Env) (new : Table) (u : Ty) (place : ℕ) → Enters env.types.types new.types u place → new.funs ≡ env.types.funs
    → shut.intern u env ≡ Made place (record env { types = new })
unfolding shut.intern
interned env new u place enters funs = ap (λ (p : ℕ × Table). Made p.0 (record env { types = p.1 })) (entered-type env.types new u place enters funs)

pub interned_fun : (env : Env) (new : Table) (u : Fun) (place : ℕ) → Enters env.types.funs new.funs u place → new.types ≡ env.types.types
    → shut.intern_fun u env ≡ Made place (record env { types = new })
unfolding shut.intern_fun
interned_fun env new u place enters types = ap (λ (p : ℕ × Table). Made p.0 (record env { types = p.1 })) (entered-fun env.types new u place enters types)

-- ---- what the longer table is

pub type_entered-grows : (old new : Table) (u : Ty) (place : ℕ) → Enters old.types new.types u place → new.funs ≡ old.funs → IsTable old → Grows old new
type_entered-grows old new u place enters funs table = elim enters.kept [
  | inl kept ↦ grown old new [] [] table (kept ∙ sym (append-nil old.types)) (funs ∙ sym (append-nil old.funs))
  | inr more ↦ grown old new (u ∷ []) [] table more (funs ∙ sym (append-nil old.funs))
]

pub fun_entered-grows : (old new : Table) (u : Fun) (place : ℕ) → Enters old.funs new.funs u place → new.types ≡ old.types → IsTable old → Grows old new
fun_entered-grows old new u place enters types table = elim enters.kept [
  | inl kept ↦ grown old new [] [] table (types ∙ sym (append-nil old.types)) (kept ∙ sym (append-nil old.funs))
  | inr more ↦ grown old new [] (u ∷ []) table (types ∙ sym (append-nil old.types)) more
]

pub no_class_more : (old new : Table) (u : Ty) (place : ℕ) → Enters old.types new.types u place → IsTrue (without_class u) → HasNoClass old → HasNoClass new
no_class_more old new u place enters plain all =
    let P : Ty → Type 0 = λ v. IsTrue (without_class v) in
    elim enters.kept [
      | inl kept ↦ subst (All P) (sym kept) all
      | inr grown ↦ subst (All P) (sym grown) (All-append P old.types (u ∷ []) all (All-cons P u [] plain (λ i d w. absurd (omega arith))))
    ]

pub enums_more : (count : ℕ) (old new : Table) (u : Ty) (place : ℕ) → Enters old.types new.types u place → EnumGiven count u → All (EnumGiven count) old.types
    → All (EnumGiven count) new.types
enums_more count old new u place enters given all =
    let P : Ty → Type 0 = EnumGiven count in
    elim enters.kept [
      | inl kept ↦ subst (All P) (sym kept) all
      | inr grown ↦ subst (All P) (sym grown) (All-append P old.types (u ∷ []) all (All-cons P u [] given (λ i d w. absurd (omega arith))))
    ]

-- a number of 32 bits bounds the table
length_fits : {A : Type 0} (old new : List A) (u : A) (place : ℕ) → Enters old new u place → length old ≤ 2 ^ 32 → place < 2 ^ 32 → length new ≤ 2 ^ 32
length_fits old new u place enters fits small = elim enters.kept [
  | inl kept ↦ subst (λ l. length l ≤ 2 ^ 32) (sym kept) fits
  | inr grown ↦
      let last : length old ≡ place = enters.only (length old) (subst (λ l. slice_get l (length old) ≡ Some u) (sym grown) (get-last old u)) in
      let longer : length new ≡ length old + 1 = ap length grown ∙ length-append old (u ∷ []) in
      omega arith
]

pub type_entered-table : (old new : Table) (u : Ty) (place : ℕ) → Enters old.types new.types u place → new.funs ≡ old.funs → place < 2 ^ 32 → IsTable old
    → Names old.funs (length old.types) (length old.funs) u → IsTrue (is_normal old.types u) → IsTable new
type_entered-table old new u place enters funs small table names normal =
    subst (λ f. IsTable (record { types = new.types; funs = f })) (sym funs)
    (table_with_type old u table normal names new.types place enters (length_fits old.types new.types u place enters table.types_fit small))

pub fun_entered-table : (old new : Table) (u : Fun) (place : ℕ) → Enters old.funs new.funs u place → new.types ≡ old.types → place < 2 ^ 32 → IsTable old
    → All (λ p. p < length old.types) (fun_parts u) → AreParameters old.types u.params → IsTable new
fun_entered-table old new u place enters types small table names params =
    subst (λ t. IsTable (record { types = t; funs = new.funs })) (sym types)
    (table_with_fun old u table names params new.funs place enters (length_fits old.funs new.funs u place enters table.funs_fit small))

-- ---- all that interning does to an environment

module _ (env : Env) (new : Table) (e : IsEnv env) where
  pub with_type : (u : Ty) (place : ℕ) → Enters env.types.types new.types u place → new.funs ≡ env.types.funs → place < 2 ^ 32
      → Names env.types.funs (length env.types.types) (length env.types.funs) u → IsTrue (is_normal env.types.types u) → IsTrue (without_class u)
      → EnumGiven (length env.classes.enums) u → IsEnv (record env { types = new })
  with_type u place enters funs small names normal plain given =
      env_grown env new e (type_entered-table env.types new u place enters funs small e.table names normal) (no_class_more env.types new u place enters plain e.no_class_type)
      (enums_more (length env.classes.enums) env.types new u place enters given e.enums)
      (type_entered-grows env.types new u place enters funs e.table)

  pub with_fun : (u : Fun) (place : ℕ) → Enters env.types.funs new.funs u place → new.types ≡ env.types.types → place < 2 ^ 32
      → All (λ p. p < length env.types.types) (fun_parts u) → AreParameters env.types.types u.params → IsEnv (record env { types = new })
  with_fun u place enters types small names params =
      env_grown env new e (fun_entered-table env.types new u place enters types small e.table names params)
      (subst (All (λ v. IsTrue (without_class v))) (sym types) e.no_class_type) (subst (All (EnumGiven (length env.classes.enums))) (sym types) e.enums)
      (fun_entered-grows env.types new u place enters types e.table)

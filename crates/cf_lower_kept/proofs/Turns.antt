-- What the registers hold that statements do not set.
use Rattle.std.proofs.Common.{◌≡◌, Bool, true, false, ◌&&◌, ◌||◌, ◌==◌, if◌then◌else◌, refl, sym, ◌∙◌, ap, subst, arith, inl, inr}
use Rattle.std.specs.Prelude.{ℤ, Some, ◌⊎◌}
use Rattle.std.proofs.lemmas.Bool.Decides.{nat_tests}
use Rattle.cf_base.specs.declared.kind.Kind.{Kind}
use Rattle.cf_base.specs.declared.kind.Kind.TheVariants.{Int, UInt}
use Rattle.cf_base.specs.declared.arith.Arith.{Arith}
use Rattle.cf_base.specs.declared.arith.Arith.TheVariants as op
use Rattle.cf_base.specs.Integers.{fits}
use Rattle.cf_base.proofs.Tests.{both}
use Rattle.cf_core.specs.declared.operators.PointerOperator.{PointerOperator}
use Rattle.cf_core.specs.declared.operators.PointerOperator.TheVariants as pointer_op
use Rattle.cf_core.specs.Types.{SourceType, takes, gives, without_const, type_eq, element}
use Rattle.cf_core.specs.Types as types
use Rattle.cf_core.specs.Core.{arithmetic, moved}
use Rattle.cf_core.specs.Places.{is_scalar}
use Rattle.cf_lower_layout.specs.Sorts.{address, code, sort_to, scalar_sort}
use Rattle.cf_plain.specs.Plain as plain
use Rattle.cf_plain.specs.Plain.{Register, Action, Plain, Plains, act, set, branch, loop, switch, parts, nothing, more}
use Rattle.cf_lower.specs.Kept.{Kept, unknown, integer_of, holds, argument, Keeping, Locals, keep, constant_kept, result_kept, of_sort, of_type, read_kept, decayed_kept, pointer_of, operated_kept, is_argument, both_kept, kept_by, sets, all_set, untouched, after, after_all}
use Rattle.cf_lower_kept.specs.Told.{Joins, AllJoin, TellsLess, builds_none, none_builds}
use Rattle.cf_lower_kept.proofs.Statements.{pointer-self, address-self, object-self}
use Rattle.cf_lower_kept.proofs.Types.{type-self}

-- ---- what actions give joins itself

and-self : (b : Bool) → (b && b) ≡ b
and-self true = refl
and-self false = refl

integer-joins : (f : Kind → Bool) → Joins (integer_of f)
integer-joins f = ap integer_of (λ j k. and-self (f k) j)

code-joins : (t : SourceType) → Joins (holds (code t))
code-joins t = ap (λ b. if b then holds (code t) else unknown) (type-self t)

constant-joins : (z : ℤ) → Joins (constant_kept z)
constant-joins z = by_test (fits Int z || fits UInt z)
  where
    by_test : (b : Bool) → Joins (if b then integer_of (λ k. fits k z) else unknown)
    by_test true = integer-joins (λ k. fits k z)
    by_test false = refl

sort-joins : (t : SourceType) → Joins (of_sort (Some (sort_to t)))
sort-joins (takes p t) = pointer-self (takes p t)
sort-joins (gives t c) = pointer-self (gives t c)
sort-joins t = address-self t

scalar-joins : (t : SourceType) → Joins (of_sort (scalar_sort t))
scalar-joins (types.integer k) = integer-joins _
scalar-joins (types.enumeration e) = integer-joins _
scalar-joins (types.pointer t) = sort-joins t
scalar-joins (types.reference t) = sort-joins t
scalar-joins t = refl

type-joins : (t : SourceType) → Joins (of_type t)
type-joins t = scalar-joins (without_const t)

read-joins : (x : Kept) → Joins (read_kept x)
read-joins (holds (address t)) = type-joins t
read-joins x = refl

decayed-joins : (x : Kept) → Joins x → Joins (decayed_kept x)
decayed-joins (holds (address t)) h = address-self (element t)
decayed-joins x h = h

pointer-joins : (x y : Kept) → Joins y → Joins (pointer_of x y)
pointer-joins (holds (address t)) y h = address-self t
pointer-joins x y h = h

result-joins : (o : Arith) (k : Kind) → Joins (result_kept o k)
result-joins op.Less k = integer-joins _
result-joins op.Greater k = integer-joins _
result-joins op.LessEqual k = integer-joins _
result-joins op.GreaterEqual k = integer-joins _
result-joins op.Equal k = integer-joins _
result-joins op.NotEqual k = integer-joins _
result-joins o k = integer-joins _

operated-joins : (o : PointerOperator) (x y : Kept) → Joins x → Joins y → Joins (operated_kept o x y)
operated-joins pointer_op.Add x y h k = pointer-joins x y k
operated-joins pointer_op.Subtract x y h k = h
operated-joins pointer_op.Difference x y h k = integer-joins _
operated-joins o x y h k = integer-joins _

module _ (locals : Locals) where
  action-joins : (g : Keeping) → AllJoin g → (a : Action) → Joins (kept_by locals g a)
  action-joins g h (plain.number z) = constant-joins z
  action-joins g h (plain.text j bytes) = address-self _
  action-joins g h (plain.local i) = pointer-self _
  action-joins g h (plain.static_object name t) = pointer-self _
  action-joins g h (plain.function name t) = code-joins _
  action-joins g h (plain.read r) = read-joins (g r)
  action-joins g h (plain.dereference r) = h r
  action-joins g h (plain.decay r) = decayed-joins (g r) (h r)
  action-joins g h (plain.index r q) = pointer-joins (g r) (g q) (h q)
  action-joins g h (plain.convert t r) = type-joins t
  action-joins g h (plain.from_void t r) = address-self _
  action-joins g h (plain.operate o k r q) = result-joins o k
  action-joins g h (plain.unary o k r) = integer-joins _
  action-joins g h (plain.truth r) = integer-joins _
  action-joins g h (plain.logical_not r) = integer-joins _
  action-joins g h (plain.pointer_operate o r q) = operated-joins o (g r) (g q) (h r) (h q)
  action-joins g h (plain.changed (arithmetic o k to) r q) = integer-joins _
  action-joins g h (plain.changed (moved b) r q) = h r
  action-joins g h (plain.declare i t) = object-self (is_argument locals i && is_scalar t) i t
  action-joins g h (plain.call name t object is into) = type-joins (types.result t)
  action-joins g h (plain.pointer_call object r t is into) = type-joins (types.result t)
  action-joins g h a = refl

  -- ---- and so does what registers hold behind statements

  both-joins : (x y : Kept) → Joins x → Joins (both_kept x y)
  both-joins (integer_of f) (integer_of g) h = integer-joins _
  both-joins (holds (address t)) (holds (address u)) h = if-joins (type_eq t u) (holds (address t)) h
    where
      if-joins : (b : Bool) (x : Kept) → Joins x → Joins (if b then x else unknown)
      if-joins true x h = h
      if-joins false x h = refl
  both-joins (holds (code t)) (holds (code u)) h = if-joins (type_eq t u) (holds (code t)) h
    where
      if-joins : (b : Bool) (x : Kept) → Joins x → Joins (if b then x else unknown)
      if-joins true x h = h
      if-joins false x h = refl
  both-joins (argument i t) (argument j u) h = if-joins ((i == j) && type_eq t u) (argument i t) h
    where
      if-joins : (b : Bool) (x : Kept) → Joins x → Joins (if b then x else unknown)
      if-joins true x h = h
      if-joins false x h = refl
  both-joins x y h = refl

  untouched-joins : (g : Keeping) (ss : Plains) → AllJoin g → AllJoin (untouched locals g ss)
  untouched-joins g ss h r = by_test (all_set locals r ss)
    where
      by_test : (b : Bool) → Joins (if b then unknown else g r)
      by_test true = refl
      by_test false = h r

  keep-joins : (g : Keeping) (r : Register) (x : Kept) → AllJoin g → Joins x → AllJoin (keep g r x)
  keep-joins g r x h k q = by_test (q == r)
    where
      by_test : (b : Bool) → Joins (if b then x else g q)
      by_test true = k
      by_test false = h q

  mutual
    one-joins : (s : Plain) (g : Keeping) → AllJoin g → AllJoin (after locals s g)
    one-joins (set r a) g h = keep-joins g r (kept_by locals g a) h (action-joins g h a)
    one-joins (branch r ss ts) g h = λ q. both-joins (after_all locals ss g q) (after_all locals ts g q) (all-join ss g h q)
    one-joins (loop ss ts) g h = untouched-joins (untouched locals g ss) ts (untouched-joins g ss h)
    one-joins (switch r ss) g h = untouched-joins g ss h
    one-joins (parts ps) g h = λ q. refl
    one-joins s g h = h

    pub all-join : (ss : Plains) (g : Keeping) → AllJoin g → AllJoin (after_all locals ss g)
    all-join nothing g h = h
    all-join (more s ss) g h = all-join ss (after locals s g) (one-joins s g h)

  -- ---- registers that are not set

  neither : (a b : Bool) → a || b ≡ false → (a ≡ false) × (b ≡ false)
  neither true b e = absurd (cc)
  neither false b e = (refl, e)

  module _ (r : Register) where
    mutual
      one-same : (s : Plain) (g : Keeping) → Joins (g r) → builds_none s ≡ true → sets locals r s ≡ false → after locals s g r ≡ g r
      one-same (set q a) g h none e =
          ap (λ b. if b then kept_by locals g a else g r) (let other : r == q ≡ false = grind (arith, nat_tests, e) in other)
      one-same (branch q ss ts) g h none e =
          let two = neither (all_set locals r ss) (all_set locals r ts) e in
          let no = both (none_builds ss) (none_builds ts) none in
          ap (λ x. both_kept x (after_all locals ts g r)) (all-same ss g h no.0 two.0) ∙ ap (both_kept (g r)) (all-same ts g h no.1 two.1) ∙ h
      one-same (loop ss ts) g h none e =
          let two = neither (all_set locals r ss) (all_set locals r ts) e in
          ap (λ b. if b then unknown else (if all_set locals r ss then unknown else g r)) two.1 ∙ ap (λ b. if b then unknown else g r) two.0
      one-same (switch q ss) g h none e = ap (λ b. if b then unknown else g r) e
      one-same (parts ps) g h none e = absurd (cc)
      one-same s g h none e = refl

      all-same : (ss : Plains) (g : Keeping) → Joins (g r) → none_builds ss ≡ true → all_set locals r ss ≡ false → after_all locals ss g r ≡ g r
      all-same nothing g h none e = refl
      all-same (more s ss) g h none e =
          let two = neither (sets locals r s) (all_set locals r ss) e in
          let no = both (builds_none s) (none_builds ss) none in
          let first : after locals s g r ≡ g r = one-same s g h no.0 two.0 in
          all-same ss (after locals s g) (subst Joins (sym first) h) no.1 two.1 ∙ first

  pub turn-tells : (ss : Plains) (g : Keeping) → AllJoin g → none_builds ss ≡ true → ((r : Register) → all_set locals r ss ≡ true → g r ≡ unknown)
      → TellsLess (after_all locals ss g) g
  turn-tells ss g h none gone r = by_test (all_set locals r ss) refl
    where
      by_test : (b : Bool) → all_set locals r ss ≡ b → (g r ≡ unknown) ⊎ (after_all locals ss g r ≡ g r)
      by_test true e = inl (gone r e)
      by_test false e = inr (all-same r ss g (h r) none e)

-- The one argument of a call of the library's, in both.
use Rattle.std.proofs.Common.{◌≡◌, ℕ, suc, ◌-◌, ◌%◌, ◌^◌, ◌<◌, ◌≤◌, nat_lt, true, ◌&&◌, List, [], ◌∷◌, length, refl, sym, ◌∙◌, ap, arith}
use Rattle.std.specs.Prelude.{Some, pos, negsuc, ℤ, Ok}
use Rattle.std.proofs.Math.Nat.{mod-lt}
use Rattle.std.proofs.lemmas.Bool.Decides.{nat_tests}
use Rattle.cf_base.specs.declared.kind.Kind.{Kind}
use Rattle.cf_base.specs.declared.kind.Kind.TheVariants.{Int}
use Rattle.cf_base.specs.Integers.{fits, bits_of}
use Rattle.cf_core.specs.Store as source
use Rattle.cf_core.specs.Run.{State}
use Rattle.cf_lower_layout.specs.Sorts.{Sort, number, address, code, c_kind}
use Rattle.cf_plain.specs.Acts.{Registers}
use Rattle.cc_whole_memory.specs.declared.value.Value.{Value}
use Rattle.cc_whole_memory.specs.declared.value.Value.TheVariants as value
use Rattle.cc_whole_mean.specs.Flow as c
use Rattle.cc_whole_mean.specs.Values.{values_of}
use Rattle.cf_lower.specs.Kept.{Keeping}
use Rattle.cf_lower.specs.Statements.{passed}
use Rattle.cf_lower_kept.specs.Opened.{Opened}
use Rattle.cf_lower_relate.specs.Map.{Fixed, Map, Is}
use Rattle.cf_lower_relate.proofs.Counts.{fits-pos}
use Rattle.cf_lower_turns.specs.Scene.{Scene, fixed_in}
use Rattle.cf_lower_calls.specs.Evaluated.Arguments.{Passed, AllPassed}
use Rattle.cf_lower_calls.proofs.EvaluatedLaws.Evaluating.{evaluates}
use Rattle.cf_lower_calls.specs.Arguments.Passing.{ArgumentThere}
use Rattle.cf_lower_calls.proofs.ArgumentsLaws.Standing.{in-locals}
use Rattle.cf_lower_bounds.specs.Points.{point_at, At, local_count}
use Rattle.cf_lower_calls.proofs.InvokedLaws.Arguments.{one-there}
use Rattle.cf_lower_calls.specs.Library.Library.{Passes}

-- ---- bytes

pub byte-fits : (y : ℤ) → fits Int (pos (bits_of 8 y)) ≡ true
byte-fits (pos n) = fits-pos (n % 2 ^ 8) (let k : n % 256 < 256 = mod-lt n (omega arith) in omega (arith, k))
byte-fits (negsuc n) = fits-pos (2 ^ 8 - suc (n % 2 ^ 8)) (let k : 256 - suc (n % 256) ≤ 4194304 = omega arith in k)

-- ---- numbers

-- a number of some kind
pub record IsNumberOf (y : ℤ) (back : Value) : Type 0 where
  pub kind : Kind
  pub is : back ≡ value.Number kind y

pub number-back : (K : Fixed) (F : Map) (u : Sort) (y : ℤ) (back : Value) → Is K F u (source.Number y) back → IsNumberOf y back
number-back K F (number k) y back h = record { kind = c_kind k; is = h.is }
number-back K F (address t) y back h = absurd h
number-back K F (code t) y back h = absurd h

-- ---- the argument

-- its object, and its value in the C
pub record OneArgument (z : Scene) (F : Map) (s : State) (u : c.State) (i : ℕ) : Type 0 where
  pub object : ℕ
  pub there : ArgumentThere s i object
  pub back : Value
  pub are : values_of (passed (i ∷ [])) z.body.scope u.memory ≡ Ok (back ∷ [])
  pub is : Passed (fixed_in z) F s object back

module _ (z : Scene) (d : ℕ) (h : Keeping) (xs : List Opened) (i : ℕ) (passes : Passes z i xs) (g : Registers) (s : State) (u : c.State) (at : At z (point_at h xs) d g s u) where
  by-values : (o : ℕ) → ArgumentThere s i o → (vs : List Value) → values_of (passed (i ∷ [])) z.body.scope u.memory ≡ Ok vs
      → AllPassed (fixed_in z) at.here.map s (o ∷ []) vs → OneArgument z at.here.map s u i
  by-values o there [] e all = absurd all
  by-values o there (v ∷ []) e all = record { object = o; there = there; back = v; are = e; is = all.0 }
  by-values o there (v ∷ w ∷ vs) e all = absurd all.1

  pub one-argument : OneArgument z at.here.map s u i
  one-argument =
      let one = one-there (local_count z) g s i xs passes.valued at.standing.each in
      let values = evaluates (fixed_in z) at.here.map z.body.scope s u.memory at.here.between.rel (i ∷ []) (one.object ∷ [])
      (in-locals (fixed_in z) z.body h d g s u at.here passes.shaped (i ∷ []) (one.object ∷ []) passes.passed (one.there, tt)) in
      by-values one.object one.there values.values values.are values.passed_there

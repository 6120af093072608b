-- Zeroed objects stand in new static blocks.
use Rattle.std.proofs.Common.{◌≡◌, ℕ, zero, suc, ◌+◌, ◌%◌, ◌≤◌, ◌<◌, nat_lt, true, ◌&&◌, cond, List, pos, refl, ap, subst, ◌∙◌, arith}
use Rattle.std.specs.Prelude.{Option, Some, None}
use Rattle.std.proofs.Math.Nat.{div-add-mod, mod-lt}
use Rattle.std.proofs.lemmas.Bool.Decides.{nat_tests}
use Rattle.cf_base.specs.declared.kind.Kind.{Kind}
use Rattle.cf_base.specs.declared.kind.Kind.TheVariants.{Char, SChar, UChar, Short, UShort, Int, UInt, Long, ULong}
use Rattle.cf_base.specs.Integers.{fits}
use Rattle.cf_core.specs.Types.{SourceType, integer, enumeration, pointer, reference, takes, gives, const, without_const}
use Rattle.cf_core.specs.Classes.{Class}
use Rattle.cf_core.specs.Places.{type_at}
use Rattle.cf_core.specs.Size.{size}
use Rattle.cf_core.specs.Store as source
use Rattle.cf_core.specs.Store.{zeroed_object}
use Rattle.cf_lower_layout.specs.Layout.{offset, leads}
use Rattle.cf_lower_layout.specs.Sorts.{Sort, sort_to, sort_of}
use Rattle.cf_lower_layout.proofs.Parts.{route-inside}
use Rattle.cc_whole.specs.declared.types.CVariableType.TheVariants as variable
use Rattle.cc_whole_memory.specs.declared.value.Scalar.{Scalar}
use Rattle.cc_whole_memory.specs.declared.cells.Cell.TheVariants as cell
use Rattle.cc_whole_memory.specs.declared.store.Storage.TheVariants as storage
use Rattle.cc_whole_memory.specs.Values.{bytes_of, zero_of}
use Rattle.cc_whole_memory.specs.Cells.{Cells, is_zero, zeros, load_from, load}
use Rattle.cc_whole_memory.specs.Blocks.{new_block}
use Rattle.cc_whole_mean.specs.Types.{variable_size}
use Rattle.cf_lower.specs.Written.{if_scalar, c_type, words, variable_type}
use Rattle.cf_lower_relate.specs.Scalars.{c_scalar}
use Rattle.cf_lower_relate.specs.Map.{Fixed, Map, Is}
use Rattle.cf_lower_relate.specs.Relation.{InCells}
use Rattle.cf_lower_relate.proofs.Sorts.{bytes-some, sort-eq, sort-bytes}
use Rattle.cf_lower_steps.proofs.Values.{stored-scalar}

-- ---- zeros are read

zeros-there : (f : Cells) (k q : ℕ) → ((j : ℕ) → q ≤ j → j < q + k → is_zero (f j) ≡ true) → zeros f q k ≡ true
zeros-there f zero q h = refl
zeros-there f (suc k) q h =
    ap (λ b. b && zeros f (suc q) k) (h q (omega arith) (omega arith)) ∙ zeros-there f k (suc q) (λ j le lt. h j (omega (arith, le)) (omega (arith, lt)))

abbrev pub new_cells : ℕ → Cells
new_cells n i = cond (nat_lt i n) cell.Zero cell.Gone

new-zero : (n i : ℕ) → i < n → new_cells n i ≡ cell.Zero
new-zero n i lt = ap (λ b. cond b cell.Zero cell.Gone) (let e : nat_lt i n ≡ true = grind (arith, nat_tests, lt) in e)

-- a scalar that lies in the block is read as 0 or null
pub load-zero : (t : Scalar) (n q : ℕ) → 0 < bytes_of t → q + bytes_of t ≤ n → load t (new_cells n) q ≡ Some (zero_of t)
load-zero t n q some le =
    ap (load_from t (new_cells n) q) (new-zero n q (omega (arith, some, le)))
    ∙ ap (λ b. cond b (Some (zero_of t)) None) (zeros-there (new_cells n) (bytes_of t) q (λ j low high. ap is_zero (new-zero n j (omega (arith, high, le)))))

-- ---- and are what the object holds

fits-zero : (k : Kind) → fits k (pos 0) ≡ true
fits-zero Char = refl
fits-zero SChar = refl
fits-zero UChar = refl
fits-zero Short = refl
fits-zero UShort = refl
fits-zero Int = refl
fits-zero UInt = refl
fits-zero Long = refl
fits-zero ULong = refl

module _ (K : Fixed) (F : Map) where
  null-is : (t : SourceType) → Is K F (sort_to t) source.Null (zero_of (c_scalar (sort_to t)))
  null-is (takes p t) = refl
  null-is (gives t c) = refl
  null-is t = refl

  zero-is : (u : SourceType) (t : Sort) → sort_of u ≡ Some t → Is K F t (source.zero_of u) (zero_of (c_scalar t))
  zero-is (integer k) t e = subst (λ t. Is K F t (source.Number (pos 0)) (zero_of (c_scalar t))) (sort-eq e) (record { is = refl; fits = fits-zero k })
  zero-is (enumeration n) t e = subst (λ t. Is K F t (source.Number (pos 0)) (zero_of (c_scalar t))) (sort-eq e) (record { is = refl; fits = refl })
  zero-is (pointer u) t e = subst (λ t. Is K F t source.Null (zero_of (c_scalar t))) (sort-eq e) (null-is (without_const u))
  zero-is (reference u) t e = subst (λ t. Is K F t source.Null (zero_of (c_scalar t))) (sort-eq e) (null-is (without_const u))
  zero-is (const u) t e = zero-is u t e
  zero-is u t e = absurd (cc)

  -- a zeroed object in a block with room for it
  pub zeroed-in : (t : SourceType) (n : ℕ) → size K.classes t ≤ n → InCells K F (zeroed_object K.classes t) 0 (new_block storage.Static n).cells
  zeroed-in t n le π s v leads is held =
      let u : SourceType = type_at K.classes t π in
      let same : source.zero_of u ≡ v = some-value held in
      let bytes = sort-bytes K.classes u s is in
      let inside = route-inside K.classes t π leads in
      record {
        value = zero_of (c_scalar s);
        is = load-zero (c_scalar s) n (0 + offset K.classes t π) (bytes-some s) (omega (arith, bytes, inside, le));
        same = subst (λ v. Is K F s v (zero_of (c_scalar s))) same (zero-is u s is);
      }
    where
      some-value : {a b : source.Value} → Some a ≡ Some b → a ≡ b
      some-value e = cc

-- ---- a variable has room for its object

pub variable-room : (classes : List Class) (t : SourceType) → size classes t ≤ variable_size (variable_type classes t)
variable-room classes t = by_sort (sort_of t) refl
  where
    by_sort : (o : Option Sort) → sort_of t ≡ o → size classes t ≤ variable_size (if_scalar o (variable.Ints (words classes t)) (λ s. variable.Scalar (c_type s)))
    by_sort None e =
        let sum = div-add-mod (size classes t + 3) 4 in
        let less : (size classes t + 3) % 4 < 4 = mod-lt (size classes t + 3) (omega arith) in
        omega (arith, sum, less)
    by_sort (Some s) e =
        let bytes = sort-bytes classes t s e in
        let same = ap bytes_of (stored-scalar s) in
        omega (arith, bytes, same)

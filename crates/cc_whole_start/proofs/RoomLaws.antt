-- The variables of a program take no more bytes than the limit counts.
use Rattle.std.proofs.Common.{◌≡◌, ℕ, zero, suc, ◌+◌, ◌*◌, ◌<◌, ◌≤◌, Bool, true, false, cond, ◌==◌, nat_le, List, [], ◌∷◌, ℤ, pos, negsuc, Option, Some, None, Ok, Err, refl, ap, sym, ◌∙◌, arith}
use Rattle.std.proofs.Math.Nat.{div-add-mod, mod-lt}
use Rattle.std.proofs.lemmas.Bool.Decides.{nat_tests}
use Rattle.cc_whole.specs.declared.types.CType.{CType}
use Rattle.cc_whole.specs.declared.types.CType.TheVariants as ty
use Rattle.cc_whole.specs.declared.types.CConstant.{CConstant}
use Rattle.cc_whole.specs.declared.types.CConstant.TheVariants as constant
use Rattle.cc_whole.specs.declared.types.CVariableType.{CVariableType}
use Rattle.cc_whole.specs.declared.types.CVariableType.TheVariants as variable
use Rattle.cc_whole.specs.declared.unit.CPair.{CPair}
use Rattle.cc_whole.specs.declared.unit.CVariable.{CVariable}
use Rattle.cc_whole.specs.declared.unit.CInitialiser.{CInitialiser}
use Rattle.cc_whole.specs.declared.unit.CInitialiser.TheVariants as initialiser
use Rattle.cc_whole.specs.Numbers.{size_of, count_in}
use Rattle.cc_whole.specs.Plain.{Item, variables_of}
use Rattle.cc_whole_link.specs.Static.{type_bytes, variable_bytes, rounded, static_bytes}
use Rattle.cc_whole_memory.specs.declared.value.Value.{Value}
use Rattle.cc_whole_memory.specs.declared.value.Value.TheVariants as value
use Rattle.cc_whole_memory.specs.declared.store.Storage.TheVariants as storage
use Rattle.cc_whole_memory.specs.Values.{bytes_of}
use Rattle.cc_whole_memory.specs.Values as values
use Rattle.cc_whole_memory.specs.Cells.{put}
use Rattle.cc_whole_memory.specs.Blocks.{Block, Memory, no_memory, born, new_block, put_block, inside, on_ok, with_cells}
use Rattle.cc_whole_mean.specs.Types.{scalar_of, count_of, count_of_number, constant_value, variable_size}
use Rattle.cc_whole_mean.specs.Scope.{Scope}
use Rattle.cc_whole_mean.specs.Start.{kept, put_static, put_text, put_pairs, pair_function, initialised, laid_out, file_names, first_state}
use Rattle.cc_whole_start.specs.Room.{bytes_in, bytes_below, bytes_of_all}
use Rattle.cc_whole_start.specs.Walk.{char_of, put_pair}
use Rattle.cc_whole_start.proofs.StaticLaws.{initialised-next}

-- ---- a store leaves the sizes of blocks

below-same : (k : ℕ) (f g : ℕ → Option Block) → ((c : ℕ) → c < k → bytes_in (f c) ≡ bytes_in (g c)) → bytes_below k f ≡ bytes_below k g
below-same zero f g h = refl
below-same (suc k) f g h =
    ap (λ n. n + bytes_below k f) (h k (omega arith)) ∙ ap (λ n. bytes_in (g k) + n) (below-same k f g (λ c less. h c (omega arith)))

put_static-bytes : (b q : ℕ) (v : Value) (m : Memory) (c : ℕ) → bytes_in ((put_static b q v m).block c) ≡ bytes_in (m.block c)
put_static-bytes b q v m c = by (m.block b) refl
  where
    by : (o : Option Block) → m.block b ≡ o → bytes_in ((kept m (on_ok (inside b q (values.size_of v) o) (λ at. Ok (with_cells at (put v at.offset at.block.cells) m)))).block c) ≡ bytes_in (m.block c)
    by None e = refl
    by (Some x) e = fits (nat_le (q + values.size_of v) x.size) (c == b) refl
      where
        fits : (t u : Bool) → (c == b) ≡ u
            → bytes_in ((kept m (on_ok (cond t (Ok (record { number = b; offset = q; block = x })) (Err 6)) (λ at. Ok (with_cells at (put v at.offset at.block.cells) m)))).block c)
            ≡ bytes_in (m.block c)
        fits false u h = refl
        fits true true h =
            let same : c ≡ b = grind (arith, nat_tests, h) in
            ap (λ w. bytes_in (cond w (Some (record x { cells = put v q x.cells })) (m.block c))) h ∙ sym (ap bytes_in (ap m.block same ∙ e))
        fits true false h = ap (λ w. bytes_in (cond w (Some (record x { cells = put v q x.cells })) (m.block c))) h

put_text-bytes : (bytes : List ℕ) (b q : ℕ) (m : Memory) (c : ℕ) → bytes_in ((put_text bytes b q m).block c) ≡ bytes_in (m.block c)
put_text-bytes [] b q m c = refl
put_text-bytes (byte ∷ rest) b q m c = put_text-bytes rest b (suc q) (put_static b q (char_of byte) m) c ∙ put_static-bytes b q (char_of byte) m c

put_pairs-bytes : (names : Scope) (pairs : List CPair) (b q : ℕ) (m : Memory) (c : ℕ) → bytes_in ((put_pairs names pairs b q m).block c) ≡ bytes_in (m.block c)
put_pairs-bytes names [] b q m c = refl
put_pairs-bytes names (x ∷ rest) b q m c =
    put_pairs-bytes names rest b (q + 8) (put_pair names x b q m) c
    ∙ put_static-bytes b (q + 4) (value.Function (pair_function names x.function)) (put_static b q (constant_value x.number) m) c
    ∙ put_static-bytes b q (constant_value x.number) m c

initialised-bytes : (names : Scope) (start : Option CInitialiser) (b : ℕ) (m : Memory) (c : ℕ) → bytes_in ((initialised names start b m).block c) ≡ bytes_in (m.block c)
initialised-bytes names None b m c = refl
initialised-bytes names (Some (initialiser.Text bytes)) b m c = put_text-bytes bytes b 0 m c
initialised-bytes names (Some (initialiser.Pairs pairs)) b m c = put_pairs-bytes names pairs b 0 m c

-- ---- a new block has its size

other-block : (b c : ℕ) → c < b → (c == b) ≡ false
other-block b c less = grind (arith, nat_tests, less)

same-block : (b : ℕ) → (b == b) ≡ true
same-block b = grind (arith, nat_tests)

born-bytes : (n : ℕ) (m : Memory) → bytes_of_all (born storage.Static n m) ≡ n + bytes_of_all m
born-bytes n m =
    let x : Block = new_block storage.Static n in
    ap (λ t. bytes_in (cond t (Some x) (m.block m.next)) + bytes_below m.next (put_block m.next (Some x) m.block)) (same-block m.next)
    ∙ ap (λ k. n + k) (below-same m.next (put_block m.next (Some x) m.block) m.block
    (λ c less. ap (λ t. bytes_in (cond t (Some x) (m.block c))) (other-block m.next c less)))

laid-bytes : (names : Scope) (x : CVariable) (m : Memory)
    → bytes_of_all (initialised names x.initialiser m.next (born storage.Static (variable_size x.ty) m)) ≡ variable_size x.ty + bytes_of_all m
laid-bytes names x m =
    let fresh : Memory = born storage.Static (variable_size x.ty) m in
    let laid : Memory = initialised names x.initialiser m.next fresh in
    ap (λ k. bytes_below k laid.block) (initialised-next names x.initialiser m.next fresh)
    ∙ below-same fresh.next laid.block fresh.block (λ c less. initialised-bytes names x.initialiser m.next fresh c)
    ∙ born-bytes (variable_size x.ty) m

-- ---- the limit counts at least as many

number-is : (z : ℤ) → count_of_number z ≡ count_in z
number-is (pos n) = refl
number-is (negsuc n) = refl

count-is : (c : CConstant) → count_of c ≡ size_of c
count-is (constant.Signed z) = number-is z
count-is (constant.Unsigned n) = refl

type-bytes : (t : CType) → bytes_of (scalar_of t) ≡ type_bytes t
type-bytes ty.Char = refl
type-bytes ty.UChar = refl
type-bytes ty.Short = refl
type-bytes ty.UShort = refl
type-bytes ty.Int = refl
type-bytes ty.UInt = refl
type-bytes ty.Pointer = refl
type-bytes ty.FunctionPointer = refl

size-is : (t : CVariableType) → variable_size t ≡ variable_bytes t
size-is (variable.Scalar t) = type-bytes t
size-is (variable.Ints c) = ap (λ n. 4 * n) (count-is c)
size-is (variable.Chars c) = count-is c
size-is (variable.Pairs c) = ap (λ n. 8 * n) (count-is c)

rounded-up : (n : ℕ) → n ≤ rounded n
rounded-up n = omega (arith, div-add-mod (n + 7) 8, mod-lt (n + 7) {m = 8} (omega arith))

laid_out-bytes : (names : Scope) (vs : List CVariable) (m : Memory) → bytes_of_all (laid_out names vs m) ≤ static_bytes vs + bytes_of_all m
laid_out-bytes names [] m = omega arith
laid_out-bytes names (x ∷ rest) m =
    let laid : Memory = initialised names x.initialiser m.next (born storage.Static (variable_size x.ty) m) in
    let others = laid_out-bytes names rest laid in
    omega (arith, others, laid-bytes names x m, size-is x.ty, rounded-up (variable_bytes x.ty))

pub first-bytes : (items : List Item) → bytes_of_all (first_state items).memory ≤ static_bytes (variables_of items)
first-bytes items = let h = laid_out-bytes (file_names items) (variables_of items) no_memory in omega (arith, h)

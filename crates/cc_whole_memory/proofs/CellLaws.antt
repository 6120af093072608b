-- Lists of cells as cells by offset.
use Rattle.std.proofs.Common.{◌≡◌, ℕ, zero, suc, ◌+◌, ◌-◌, ◌<◌, ◌≤◌, nat_lt, nat_le, ◌&&◌, ◌==◌, if◌then◌else◌, List, [], ◌∷◌, length, get_or, refl, ap, sym, ◌∙◌, arith, slice_set, ◌⊎◌, ◌≢◌, inl, inr, length-set, subst}
use Rattle.std.proofs.lemmas.Bool.Decides.{nat_tests}
use Rattle.std.proofs.lemmas.Option.{slice_get_read, slice_get-get_or}
use Rattle.cf_base.specs.declared.kind.Kind.{Kind}
use Rattle.cf_base.specs.declared.kind.Kind.TheVariants.{Char, SChar, UChar, Short, UShort, Int, UInt, Long, ULong}
use Rattle.cc_whole_memory.specs.declared.value.Value.{Value}
use Rattle.cc_whole_memory.specs.declared.value.Value.TheVariants as value
use Rattle.cc_whole_memory.specs.declared.cells.Cell.{Cell}
use Rattle.cc_whole_memory.specs.declared.cells.Cell.TheVariants as cell
use Rattle.cc_whole_memory.specs.Values.{kind_bytes, size_of}
use Rattle.cc_whole_memory.specs.Cells.{Cells, span, left, cleared, put, whole}
use Rattle.cc_whole_memory.specs.Lists.{cell_at, cell_of}

pub cell_at-set : (xs : List Cell) (o : ℕ) (c : Cell) (i : ℕ) → o < length xs → cell_at (slice_set xs o c) i ≡ (if i == o then c else cell_at xs i)
cell_at-set [] o c i within = absurd (omega arith)
cell_at-set (x ∷ xs) zero c zero within = refl
cell_at-set (x ∷ xs) zero c (suc i) within = grind (arith, nat_tests)
cell_at-set (x ∷ xs) (suc o) c zero within = grind (arith, nat_tests)
cell_at-set (x ∷ xs) (suc o) c (suc i) within = cell_at-set xs o c i (omega arith) ∙ grind (arith, nat_tests)

kind_bytes-small : (k : Kind) → kind_bytes k ≤ 4
kind_bytes-small Char = omega arith
kind_bytes-small SChar = omega arith
kind_bytes-small UChar = omega arith
kind_bytes-small Short = omega arith
kind_bytes-small UShort = omega arith
kind_bytes-small Int = omega arith
kind_bytes-small UInt = omega arith
kind_bytes-small Long = omega arith
kind_bytes-small ULong = omega arith

pub size-small : (v : Value) → size_of v ≤ 4
size-small (value.Number k z) = kind_bytes-small k
size-small (value.Address p) = omega arith
size-small (value.Function f) = omega arith

kind_bytes-some : (k : Kind) → 0 < kind_bytes k
kind_bytes-some Char = omega arith
kind_bytes-some SChar = omega arith
kind_bytes-some UChar = omega arith
kind_bytes-some Short = omega arith
kind_bytes-some UShort = omega arith
kind_bytes-some Int = omega arith
kind_bytes-some UInt = omega arith
kind_bytes-some Long = omega arith
kind_bytes-some ULong = omega arith

pub size-some : (v : Value) → 0 < size_of v
size-some (value.Number k z) = kind_bytes-some k
size-some (value.Address p) = omega arith
size-some (value.Function f) = omega arith

pub span-small : (c : Cell) → span c ≤ 4
span-small cell.Zero = omega arith
span-small cell.Gone = omega arith
span-small (cell.Stored v) = size-small v

-- what k bytes from q on are written to is cleared up to this offset
pub record ClearedTo (q k o : ℕ) (old new : List Cell) : Type 0 where
  pub length : length new ≡ length old
  pub cells : (i : ℕ) → cell_at new i ≡ (if nat_le (q - 3) i && nat_lt i o then left q k i (cell_at old i) else cell_at old i)

-- an offset that is written to is at most three bytes before the first
pub left-far : (q k i : ℕ) (c : Cell) → (i < q - 3) ⊎ (q + k ≤ i) → left q k i c ≡ c
left-far q k i c (inl before) = let s = span-small c in grind (arith, nat_tests)
left-far q k i c (inr behind) = let s = span-small c in grind (arith, nat_tests)

pub cleared-none : (q k : ℕ) (xs : List Cell) → ClearedTo q k (q - 3) xs xs
cleared-none q k xs = record { length = refl; cells = λ i. grind (arith, nat_tests) }

pub cleared-more : (q k o : ℕ) (old now : List Cell) → ClearedTo q k o old now → q - 3 ≤ o → o < length old
    → ClearedTo q k (o + 1) old (slice_set now o (left q k o (cell_at now o)))
cleared-more q k o old now inv from within = record {
  length = length-set now o (left q k o (cell_at now o)) ∙ inv.length;
  cells = λ i. cell_at-set now o (left q k o (cell_at now o)) i (within_now) ∙ step i;
}
  where
    within_now : o < length now
    within_now = let e = inv.length in omega (arith, e, within)

    there : cell_at now o ≡ cell_at old o
    there = inv.cells o ∙ grind (arith, nat_tests)

    step : (i : ℕ) → (if i == o then left q k o (cell_at now o) else cell_at now i)
        ≡ (if nat_le (q - 3) i && nat_lt i (o + 1) then left q k i (cell_at old i) else cell_at old i)
    step i = let here = inv.cells i in grind (arith, nat_tests, there, here, from)

pub cleared-all : (q k : ℕ) (old now : List Cell) → ClearedTo q k (q + k) old now → cell_at now ≡ cleared q k (cell_at old)
cleared-all q k old now inv = λ j i. path i j
  where
    path : (i : ℕ) → cell_at now i ≡ cleared q k (cell_at old) i
    path i = let here = inv.cells i in let before = left-far q k i (cell_at old i) in grind (arith, nat_tests, here, before)

-- a cell that is read by its index
pub cell_at-read : (xs : List Cell) (i : ℕ) (x : Cell) → i < length xs → x ≡ get_or xs i x → cell_at xs i ≡ x
cell_at-read xs i x within is = ap cell_of (slice_get_read xs (length xs) i x refl within is)

pub cleared-set : (q k o : ℕ) (old now : List Cell) (x y : Cell) → ClearedTo q k o old now → q - 3 ≤ o → o < q + k → q + k ≤ length old
    → x ≡ get_or now o x → y ≡ left q k o x → ClearedTo q k (o + 1) old (slice_set now o y)
cleared-set q k o old now x y inv from before within read is =
    let e = inv.length in
    let within_now : o < length now = omega (arith, e, before, within) in
    let within_old : o < length old = omega arith in
    subst (λ z. ClearedTo q k (o + 1) old (slice_set now o z)) (ap (left q k o) (cell_at-read now o x within_now read) ∙ sym is)
    (cleared-more q k o old now inv from within_old)

-- a value that is stored where its bytes were cleared
pub put-set : (v : Value) (q n : ℕ) (old now : List Cell) → cell_at now ≡ cleared q n (cell_at old) → n ≡ size_of v → q < length now
    → cell_at (slice_set now q (cell.Stored v)) ≡ put v q (cell_at old)
put-set v q n old now is size within = λ j i. path i j
  where
    path : (i : ℕ) → cell_at (slice_set now q (cell.Stored v)) i ≡ put v q (cell_at old) i
    path i = cell_at-set now q (cell.Stored v) i within
        ∙ ap (λ (f : Cells). if i == q then cell.Stored v else f i) (is ∙ ap (λ k. cleared q k (cell_at old)) size)

-- k bytes from q on are cleared, and the first of them hold these cells
pub record PlacedTo (q k : ℕ) (pieces : List Cell) (index : ℕ) (old new : List Cell) : Type 0 where
  pub length : length new ≡ length old
  pub cells : (i : ℕ) → cell_at new i ≡ (if nat_le q i && nat_lt i (q + index) then cell_at pieces (i - q) else cleared q k (cell_at old) i)

pub placed-none : (q k : ℕ) (pieces old now : List Cell) → length now ≡ length old → cell_at now ≡ cleared q k (cell_at old) → PlacedTo q k pieces 0 old now
placed-none q k pieces old now length is = record { length = length; cells = λ i. ap (λ (f : Cells). f i) is ∙ grind (arith, nat_tests) }

same_or : (i j : ℕ) → (i ≡ j) ⊎ (i ≢ j)
same_or zero zero = inl refl
same_or zero (suc j) = inr (λ e. omega (arith, e))
same_or (suc i) zero = inr (λ e. omega (arith, e))
same_or (suc i) (suc j) = next (same_or i j)
  where
    next : (i ≡ j) ⊎ (i ≢ j) → (suc i ≡ suc j) ⊎ (suc i ≢ suc j)
    next (inl e) = inl (ap suc e)
    next (inr ne) = inr (λ e. ne (omega (arith, e)))

pub placed-set : (q k index : ℕ) (pieces old now : List Cell) (x : Cell) → PlacedTo q k pieces index old now → index < length pieces → q + index < length old
    → cell_at pieces index ≡ x → PlacedTo q k pieces (index + 1) old (slice_set now (q + index) x)
placed-set q k index pieces old now x inv within inside is = record {
  length = length-set now (q + index) x ∙ inv.length;
  cells = λ i. cell_at-set now (q + index) x i inside_now ∙ step i;
}
  where
    inside_now : q + index < length now
    inside_now = let e = inv.length in omega (arith, e, inside)

    piece : cell_at pieces index ≡ x
    piece = is

    step : (i : ℕ) → (if i == q + index then x else cell_at now i)
        ≡ (if nat_le q i && nat_lt i (q + (index + 1)) then cell_at pieces (i - q) else cleared q k (cell_at old) i)
    step i = let here = inv.cells i in by_place (same_or i (q + index)) here
      where
        by_place : (i ≡ q + index) ⊎ (i ≢ q + index)
            → cell_at now i ≡ (if nat_le q i && nat_lt i (q + index) then cell_at pieces (i - q) else cleared q k (cell_at old) i)
            → (if i == q + index then x else cell_at now i)
            ≡ (if nat_le q i && nat_lt i (q + (index + 1)) then cell_at pieces (i - q) else cleared q k (cell_at old) i)
        by_place (inl same) here =
            let e : i - q ≡ index = omega arith in
            let f : cell_at pieces (i - q) ≡ x = ap (cell_at pieces) e ∙ piece in
            grind (arith, nat_tests, same, f)
        by_place (inr other) here = grind (arith, nat_tests, other, here)

-- the first pieces of a move are found
pub record FoundTo (cells : List Cell) (q k index : ℕ) (found : List Cell) : Type 0 where
  pub length : length found ≡ 4
  pub pieces : (j : ℕ) → j < index → cell_at found j ≡ whole k j (cell_at cells (q + j))

pub found-set : (cells : List Cell) (q k index : ℕ) (found : List Cell) (x : Cell) → FoundTo cells q k index found → index < 4
    → x ≡ whole k index (cell_at cells (q + index)) → FoundTo cells q k (index + 1) (slice_set found index x)
found-set cells q k index found x inv within is = record {
  length = length-set found index x ∙ inv.length;
  pieces = λ j lt. cell_at-set found index x j inside ∙ step j lt (same_or j index);
}
  where
    inside : index < length found
    inside = let e = inv.length in omega (arith, e, within)

    step : (j : ℕ) → j < index + 1 → (j ≡ index) ⊎ (j ≢ index) → (if j == index then x else cell_at found j) ≡ whole k j (cell_at cells (q + j))
    step j lt (inl same) = let f : whole k j (cell_at cells (q + j)) ≡ x = ap (λ i. whole k i (cell_at cells (q + i))) same ∙ sym is in grind (arith, nat_tests, same, f)
    step j lt (inr other) = let before : j < index = omega (arith, lt, other) in let f = inv.pieces j before in grind (arith, nat_tests, other, f)

pub cell_at-indexed : (xs : List Cell) (i : ℕ) (d : Cell) → i < length xs → cell_at xs i ≡ get_or xs i d
cell_at-indexed xs i d within = ap cell_of (slice_get-get_or xs i d within)

pub found-none : (cells : List Cell) (q k : ℕ) (found : List Cell) → length found ≡ 4 → FoundTo cells q k 0 found
found-none cells q k found length = record { length = length; pieces = λ j lt. absurd (omega (arith, lt)) }

-- The block of a literal's variable has its bytes.
use Rattle.std.proofs.Common.{◌≡◌, ℕ, zero, suc, ◌+◌, ◌*◌, ◌≤◌, ◌<◌, nat_le, nat_lt, Bool, true, false, ◌&&◌, ◌==◌, cond, List, [], ◌∷◌, length, slice_get, refl, ap, sym, subst, ◌∙◌, inl, inr, arith}
use Rattle.std.specs.Prelude.{Option, Some, None, Ok, Err, pos, option_map}
use Rattle.std.proofs.lemmas.Bool.Decides.{nat_tests}
use Rattle.cf_base.specs.declared.kind.Kind.TheVariants.{Char}
use Rattle.cf_base.specs.Integers.{convert}
use Rattle.cf_core.specs.Core.{item, past, field, within}
use Rattle.cf_core.specs.Objects.{literal_of}
use Rattle.cf_core.specs.Store as source
use Rattle.cf_core.specs.Types.{integer, array}
use Rattle.cf_lower_layout.specs.Layout.{offset, leads}
use Rattle.cf_lower_layout.specs.Sorts.{number}
use Rattle.cc_whole.specs.declared.unit.CVariable.{CVariable}
use Rattle.cc_whole.specs.declared.unit.CInitialiser.TheVariants as initialiser
use Rattle.cc_whole_memory.specs.declared.value.Value.{Value}
use Rattle.cc_whole_memory.specs.declared.value.Value.TheVariants as value
use Rattle.cc_whole_memory.specs.declared.value.Scalar.{Scalar}
use Rattle.cc_whole_memory.specs.declared.value.Scalar.TheVariants as scalar
use Rattle.cc_whole_memory.specs.declared.store.Storage.TheVariants as storage
use Rattle.cc_whole_memory.specs.Values.{size_of}
use Rattle.cc_whole_memory.specs.Cells.{Cells, put, load}
use Rattle.cc_whole_memory.specs.Blocks.{Block, Memory, no_memory, new_block, born, outside, inside, on_ok, with_cells}
use Rattle.cc_whole_mean.specs.Types.{variable_size}
use Rattle.cc_whole_mean.specs.Scope.{Scope}
use Rattle.cc_whole_mean.specs.Start.{kept, put_static, put_text, initialised, laid_out}
use Rattle.cf_lower.specs.Functions.{but_last}
use Rattle.cf_lower_program.specs.Starts.{is_text}
use Rattle.cf_lower_relate.specs.Scalars.{c_scalar}
use Rattle.cf_lower_relate.specs.Map.{Fixed, Map}
use Rattle.cf_lower_relate.specs.Relation.{Loads, InCells}
use Rattle.cf_lower_relate.proofs.Cells.{load-same, load-apart}
use Rattle.cf_lower_relate.proofs.Sorts.{sort-eq}
use Rattle.cf_lower_relate.proofs.Words.{convert-same}
use Rattle.cf_lower_steps.proofs.Results.{convert-fits}
use Rattle.cf_lower_begun.specs.Begun.{HasText, TextVariable}
use Rattle.cf_lower_begun.proofs.Variables.{LaidAt, laid-at}
use Rattle.cf_lower_begun.proofs.Zeroed.{load-zero, new_cells}

abbrev char : Scalar
char = scalar.Integer Char

abbrev byte_value : ℕ → Value
byte_value b = value.Number Char (convert Char (pos b))

-- ---- bytes are put

abbrev put_all : List ℕ → ℕ → Cells → Cells
put_all [] q c = c
put_all (b ∷ rest) q c = put_all rest (suc q) (put (byte_value b) q c)

put-block : (b q : ℕ) (v : Value) (m : Memory) (x : Block) → m.block b ≡ Some x → q + size_of v ≤ x.size
    → (put_static b q v m).block b ≡ Some (record x { cells = put v q x.cells })
put-block b q v m x e le =
    ap (λ o. (kept m (on_ok (inside b q (size_of v) o) (λ at. Ok (with_cells at (put v at.offset at.block.cells) m)))).block b) e
    ∙ ap (λ t. (kept m (on_ok (cond t (Ok (record { number = b; offset = q; block = x })) (Err outside)) (λ at. Ok (with_cells at (put v at.offset at.block.cells) m)))).block b)
    (let t : nat_le (q + size_of v) x.size ≡ true = grind (arith, nat_tests, le) in t)
    ∙ ap (λ t. cond t (Some (record x { cells = put v q x.cells })) (m.block b)) (let t : b == b ≡ true = grind (arith, nat_tests) in t)

text-block : (bytes : List ℕ) (b q : ℕ) (m : Memory) (x : Block) → m.block b ≡ Some x → q + length bytes ≤ x.size
    → (put_text bytes b q m).block b ≡ Some (record x { cells = put_all bytes q x.cells })
text-block [] b q m x e le = e
text-block (byte ∷ rest) b q m x e le =
    let l : q + suc (length rest) ≤ x.size = le in
    text-block rest b (suc q) (put_static b q (byte_value byte) m) (record x { cells = put (byte_value byte) q x.cells })
    (put-block b q (byte_value byte) m x e (let k : q + 1 ≤ x.size = omega (arith, l) in k)) (omega (arith, l))

-- ---- and loaded

text-before : (bytes : List ℕ) (q j : ℕ) (c : Cells) → j < q → load char (put_all bytes q c) j ≡ load char c j
text-before [] q j c lt = refl
text-before (b ∷ rest) q j c lt =
    text-before rest (suc q) j (put (byte_value b) q c) (omega (arith, lt))
    ∙ load-apart char (byte_value b) q j c (omega arith) (omega arith) (inl (let l : j + 1 ≤ q = omega (arith, lt) in l))

text-behind : (bytes : List ℕ) (q j : ℕ) (c : Cells) → q + length bytes ≤ j → load char (put_all bytes q c) j ≡ load char c j
text-behind [] q j c le = refl
text-behind (b ∷ rest) q j c le =
    let l : q + suc (length rest) ≤ j = le in
    text-behind rest (suc q) j (put (byte_value b) q c) (omega (arith, l))
    ∙ load-apart char (byte_value b) q j c (omega arith) (omega arith) (inr (let k : q + 1 ≤ j = omega (arith, l) in k))

text-at : (bytes : List ℕ) (q i : ℕ) (c : Cells) (b : ℕ) → slice_get bytes i ≡ Some b → load char (put_all bytes q c) (q + i) ≡ Some (byte_value b)
text-at [] q i c b e = absurd (cc)
text-at (a ∷ rest) q zero c b e =
    let same : a ≡ b = some-same e in
    let here : q + 0 ≡ q = omega arith in
    ap (load char (put_all rest (suc q) (put (byte_value a) q c))) here ∙ text-before rest (suc q) q (put (byte_value a) q c) (omega arith)
    ∙ load-same char (byte_value a) q c refl
    ∙ ap (λ z. Some (value.Number Char z)) (convert-same Char (convert Char (pos a)) (convert-fits Char (pos a)))
    ∙ ap (λ (n : ℕ). Some (byte_value n)) same
  where
    some-same : {x y : ℕ} → Some x ≡ Some y → x ≡ y
    some-same k = cc
text-at (a ∷ rest) q (suc i) c b e =
    let there : q + suc i ≡ suc q + i = omega arith in
    ap (load char (put_all rest (suc q) (put (byte_value a) q c))) there ∙ text-at rest (suc q) i (put (byte_value a) q c) b e

-- ---- all but the last, and the last

length-but : (bytes : List ℕ) → is_text bytes ≡ true → length bytes ≡ suc (length (but_last bytes))
length-but [] e = absurd (cc)
length-but (b ∷ []) e = refl
length-but (a ∷ b ∷ rest) e = ap (λ (n : ℕ). suc n) (length-but (b ∷ rest) (and-right (nat_lt a 256) (is_text (b ∷ rest)) e))
  where
    and-right : (a b : Bool) → (a && b) ≡ true → b ≡ true
    and-right true b k = k
    and-right false b k = absurd (cc)

-- a byte of a literal is one of those that are put, or the 0 behind them
data ByteAt (bytes : List ℕ) (i b : ℕ) : Type 0 where
  written : slice_get (but_last bytes) i ≡ Some b → ByteAt bytes i b
  last : i ≡ length (but_last bytes) → b ≡ 0 → ByteAt bytes i b

byte-there : (bytes : List ℕ) (i b : ℕ) → is_text bytes ≡ true → slice_get bytes i ≡ Some b → ByteAt bytes i b
byte-there [] i b t e = absurd (cc)
byte-there (a ∷ []) zero b t e = last refl (some-same e ∙ (let z : a ≡ 0 = grind (arith, nat_tests, t) in z))
  where
    some-same : {x y : ℕ} → Some x ≡ Some y → y ≡ x
    some-same k = cc
byte-there (a ∷ []) (suc i) b t e = absurd (cc)
byte-there (a ∷ c ∷ rest) zero b t e = written e
byte-there (a ∷ c ∷ rest) (suc i) b t e = go (byte-there (c ∷ rest) i b (and-right (nat_lt a 256) (is_text (c ∷ rest)) t) e)
  where
    and-right : (a b : Bool) → (a && b) ≡ true → b ≡ true
    and-right true b k = k
    and-right false b k = absurd (cc)

    go : ByteAt (c ∷ rest) i b → ByteAt (a ∷ c ∷ rest) (suc i) b
    go (written k) = written k
    go (last k z) = last (ap (λ (n : ℕ). suc n) k) z

-- ---- the variable of a literal

slice-less : (bytes : List ℕ) (i b : ℕ) → slice_get bytes i ≡ Some b → i < length bytes
slice-less [] i b e = absurd (cc)
slice-less (a ∷ rest) zero b e = let l : 0 < suc (length rest) = omega arith in l
slice-less (a ∷ rest) (suc i) b e =
    let k = slice-less rest i b e in
    let l : suc i < suc (length rest) = omega (arith, k) in
    l

-- its block, where it has a byte for each of the literal
pub text-new : (names : Scope) (v : CVariable) (b : ℕ) (last_memory : Memory) (bytes : List ℕ) → v.initialiser ≡ Some (initialiser.Text bytes)
    → length bytes ≤ variable_size v.ty → LaidAt names v b last_memory
    → last_memory.block b ≡ Some (record { storage = storage.Static; size = variable_size v.ty; cells = put_all bytes 0 (new_cells (variable_size v.ty)) })
text-new names v b last_memory bytes e le at =
    let m : Memory = at.before_it in
    let n : ℕ = variable_size v.ty in
    let x : Block = new_block storage.Static n in
    let first : Memory = born storage.Static n m in
    at.block ∙ ap (λ s. (initialised names s m.next first).block b) e
    ∙ ap (λ (c : ℕ). (put_text bytes m.next 0 first).block c) (sym at.next)
    ∙ text-block bytes m.next 0 first x (ap (λ t. cond t (Some x) (m.block m.next)) (let t : m.next == m.next ≡ true = grind (arith, nat_tests) in t))
    (let l : 0 + length bytes ≤ n = omega (arith, le) in l)

module _ (K : Fixed) (F : Map) (bytes : List ℕ) (text : is_text bytes ≡ true) (n : ℕ) (room : length bytes ≤ n) where
  abbrev cells : Cells
  cells = put_all (but_last bytes) 0 (new_cells n)

  byte-loads : (i b : ℕ) → slice_get bytes i ≡ Some b → load char cells (0 + i) ≡ Some (byte_value b)
  byte-loads i b e = go (byte-there bytes i b text e)
    where
      go : ByteAt bytes i b → load char cells (0 + i) ≡ Some (byte_value b)
      go (written k) = text-at (but_last bytes) 0 i (new_cells n) b k
      go (last k z) =
          let less = slice-less bytes i b e in
          text-behind (but_last bytes) 0 (0 + i) (new_cells n) (omega (arith, k))
          ∙ load-zero char n (0 + i) (omega arith) (let l : (0 + i) + 1 ≤ n = omega (arith, less, room) in l)
          ∙ ap (λ (b : ℕ). Some (byte_value b)) (sym z)

  -- the literal's object stands in it
  pub literal-in : InCells K F (literal_of bytes) 0 cells
  literal-in [] t v leads is held = absurd (let k = held in cc)
  literal-in (item i ∷ []) t v leads is held =
      let sorts : number Char ≡ t = sort-eq is in
      subst (λ t. Loads K F t v (load (c_scalar t) cells (0 + offset K.classes (array (integer Char) (length bytes)) (item i ∷ [])))) sorts
      (go (slice_get bytes i) refl held)
    where
      value-same : {x y : source.Value} → Some x ≡ Some y → x ≡ y
      value-same k = cc

      go : (o : Option ℕ) → slice_get bytes i ≡ o → option_map (λ (b : ℕ). source.Number (convert Char (pos b))) o ≡ Some v
          → Loads K F (number Char) v (load char cells (0 + offset K.classes (array (integer Char) (length bytes)) (item i ∷ [])))
      go None e k = absurd (cc)
      go (Some b) e k =
          let at : 0 + (0 + i * 1) ≡ 0 + i = omega arith in
          subst (λ v. Loads K F (number Char) v (load char cells (0 + (0 + i * 1)))) (value-same k)
          (record { value = byte_value b; is = ap (load char cells) at ∙ byte-loads i b e; same = record { is = refl; fits = convert-fits Char (pos b) } })
  literal-in (past ∷ π) t v leads is held = absurd (let k = held in cc)
  literal-in (field i ∷ π) t v leads is held = absurd (let k = held in cc)
  literal-in (within s ∷ π) t v leads is held = absurd (let k = held in cc)
  literal-in (item i ∷ s ∷ π) t v leads is held = absurd (let k = held in cc)

short-but : (bytes : List ℕ) → is_text bytes ≡ true → length (but_last bytes) ≤ length bytes
short-but bytes e = let l = length-but bytes e in omega (arith, l)

pub literal-begins : (K : Fixed) (F : Map) (vs : List CVariable) (names : Scope) (i : ℕ) (v : CVariable) (bytes : List ℕ) → slice_get vs i ≡ Some v → TextVariable bytes v
    → HasText K F bytes ((laid_out names vs no_memory).block i)
literal-begins K F vs names i v bytes e text =
    let n : ℕ = variable_size v.ty in
    let short = short-but bytes text.ends in
    let room = text.room in
    let here : 0 + i ≡ i = omega arith in
    let m : Memory = laid_out names vs no_memory in
    record {
      block = record { storage = storage.Static; size = n; cells = put_all (but_last bytes) 0 (new_cells n) };
      is = ap m.block (sym here) ∙ text-new names v (0 + i) m (but_last bytes) text.start (omega (arith, short, room)) (laid-at names vs no_memory i v e);
      room = room;
      cells = literal-in K F bytes text.ends n room;
    }

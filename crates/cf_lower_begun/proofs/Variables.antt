-- The blocks of a program's variables.
use Rattle.std.proofs.Common.{◌≡◌, ℕ, zero, suc, ◌+◌, ◌<◌, Bool, true, false, ◌==◌, cond, List, [], ◌∷◌, length, slice_get, refl, ap, sym, subst, ◌∙◌, arith}
use Rattle.std.specs.Prelude.{Option, Some, None, Ok, Err, pos, nat_le}
use Rattle.std.proofs.lemmas.Bool.Decides.{nat_tests}
use Rattle.cc_whole.specs.declared.unit.CVariable.{CVariable}
use Rattle.cc_whole.specs.declared.unit.CInitialiser.{CInitialiser}
use Rattle.cc_whole.specs.declared.unit.CInitialiser.TheVariants as initialiser
use Rattle.cc_whole.specs.declared.unit.CPair.{CPair}
use Rattle.cc_whole_memory.specs.declared.value.Value.{Value}
use Rattle.cc_whole_memory.specs.declared.value.Value.TheVariants as value
use Rattle.cc_whole_memory.specs.declared.store.Storage.TheVariants as storage
use Rattle.cf_base.specs.declared.kind.Kind.TheVariants as kind
use Rattle.cf_base.specs.Integers.{convert}
use Rattle.cc_whole_memory.specs.Values.{size_of}
use Rattle.cc_whole_memory.specs.Cells.{put}
use Rattle.cc_whole_memory.specs.Blocks.{Block, Memory, put_block, new_block, born, outside, inside, on_ok, with_cells}
use Rattle.cc_whole_mean.specs.Types.{constant_value, variable_size}
use Rattle.cc_whole_mean.specs.Scope.{Scope}
use Rattle.cc_whole_mean.specs.Start.{kept, put_static, put_text, put_pairs, pair_function, initialised, laid_out}

some-same : {A : Type 0} {a b : A} → Some a ≡ Some b → a ≡ b
some-same e = cc

-- another memory differs in one block alone
pub record OnlyAt (b : ℕ) (m after : Memory) : Type 0 where
  pub next : after.next ≡ m.next
  pub elsewhere : (c : ℕ) → c == b ≡ false → after.block c ≡ m.block c

same-only : (b : ℕ) (m : Memory) → OnlyAt b m m
same-only b m = record { next = refl; elsewhere = λ c e. refl }

only-through : (b : ℕ) (m n k : Memory) → OnlyAt b m n → OnlyAt b n k → OnlyAt b m k
only-through b m n k h g = record { next = g.next ∙ h.next; elsewhere = λ c e. g.elsewhere c e ∙ h.elsewhere c e }

put-only : (b q : ℕ) (v : Value) (m : Memory) → OnlyAt b m (put_static b q v m)
put-only b q v m = at-block (m.block b)
  where
    at-block : (o : Option Block) → OnlyAt b m (kept m (on_ok (inside b q (size_of v) o) (λ at. Ok (with_cells at (put v at.offset at.block.cells) m))))
    at-block None = same-only b m
    at-block (Some x) = by (nat_le (q + size_of v) x.size)
      where
        by : (t : Bool) → OnlyAt b m (kept m (on_ok (cond t (Ok (record { number = b; offset = q; block = x })) (Err outside))
            (λ at. Ok (with_cells at (put v at.offset at.block.cells) m))))
        by true = record { next = refl; elsewhere = λ c e. ap (λ t. cond t (Some (record x { cells = put v q x.cells })) (m.block c)) e }
        by false = same-only b m

text-only : (bytes : List ℕ) (b q : ℕ) (m : Memory) → OnlyAt b m (put_text bytes b q m)
text-only [] b q m = same-only b m
text-only (byte ∷ rest) b q m =
    let v : Value = value.Number kind.Char (convert kind.Char (pos byte)) in
    only-through b m (put_static b q v m) (put_text rest b (suc q) (put_static b q v m)) (put-only b q v m) (text-only rest b (suc q) (put_static b q v m))

pairs-only : (names : Scope) (pairs : List CPair) (b q : ℕ) (m : Memory) → OnlyAt b m (put_pairs names pairs b q m)
pairs-only names [] b q m = same-only b m
pairs-only names (x ∷ rest) b q m =
    let one : Memory = put_static b q (constant_value x.number) m in
    let v : Value = value.Function (pair_function names x.function) in
    let two : Memory = put_static b (q + 4) v one in
    only-through b m two (put_pairs names rest b (q + 8) two)
    (only-through b m one two (put-only b q (constant_value x.number) m) (put-only b (q + 4) v one)) (pairs-only names rest b (q + 8) two)

pub initialised-only : (names : Scope) (start : Option CInitialiser) (b : ℕ) (m : Memory) → OnlyAt b m (initialised names start b m)
initialised-only names None b m = same-only b m
initialised-only names (Some (initialiser.Text bytes)) b m = text-only bytes b 0 m
initialised-only names (Some (initialiser.Pairs pairs)) b m = pairs-only names pairs b 0 m

-- ---- one variable behind another

abbrev pub with_variable : Scope → CVariable → Memory → Memory
with_variable names v m = initialised names v.initialiser m.next (born storage.Static (variable_size v.ty) m)

apart : (n m : ℕ) → n < m → n == m ≡ false
apart n m lt = grind (arith, nat_tests, lt)

variable-next : (names : Scope) (v : CVariable) (m : Memory) → (with_variable names v m).next ≡ suc m.next
variable-next names v m = (initialised-only names v.initialiser m.next (born storage.Static (variable_size v.ty) m)).next

variable-old : (names : Scope) (v : CVariable) (m : Memory) (c : ℕ) → c < m.next → (with_variable names v m).block c ≡ m.block c
variable-old names v m c lt =
    (initialised-only names v.initialiser m.next (born storage.Static (variable_size v.ty) m)).elsewhere c (apart c m.next lt)
    ∙ ap (λ t. cond t (Some (new_block storage.Static (variable_size v.ty))) (m.block c)) (apart c m.next lt)

pub laid-next : (names : Scope) (vs : List CVariable) (m : Memory) → (laid_out names vs m).next ≡ m.next + length vs
laid-next names [] m = let n : m.next ≡ m.next + 0 = omega arith in n
laid-next names (v ∷ vs) m =
    laid-next names vs (with_variable names v m) ∙ ap (λ (n : ℕ). n + length vs) (variable-next names v m)
    ∙ (let n : suc m.next + length vs ≡ m.next + suc (length vs) = omega arith in n)

pub laid-old : (names : Scope) (vs : List CVariable) (m : Memory) (c : ℕ) → c < m.next → (laid_out names vs m).block c ≡ m.block c
laid-old names [] m c lt = refl
laid-old names (v ∷ vs) m c lt =
    let next = variable-next names v m in
    laid-old names vs (with_variable names v m) c (omega (arith, next, lt)) ∙ variable-old names v m c lt

-- the memory in which a variable is laid out, and its block is what it is there at last
pub record LaidAt (names : Scope) (v : CVariable) (b : ℕ) (last : Memory) : Type 0 where
  pub before_it : Memory
  pub next : before_it.next ≡ b
  pub block : last.block b ≡ (with_variable names v before_it).block b

pub laid-at : (names : Scope) (vs : List CVariable) (m : Memory) (i : ℕ) (v : CVariable) → slice_get vs i ≡ Some v → LaidAt names v (m.next + i) (laid_out names vs m)
laid-at names [] m i v e = absurd (cc)
laid-at names (x ∷ vs) m zero v e =
    let same : x ≡ v = some-same e in
    let here : m.next ≡ m.next + 0 = omega arith in
    let next = variable-next names x m in
    subst (λ (v : CVariable). LaidAt names v (m.next + 0) (laid_out names vs (with_variable names x m))) same
    (subst (λ (b : ℕ). LaidAt names x b (laid_out names vs (with_variable names x m))) here
    (record { before_it = m; next = refl; block = laid-old names vs (with_variable names x m) m.next (omega (arith, next)) }))
laid-at names (x ∷ vs) m (suc i) v e =
    let rest = laid-at names vs (with_variable names x m) i v e in
    let next = variable-next names x m in
    let there : (with_variable names x m).next + i ≡ m.next + suc i = omega (arith, next) in
    subst (λ (b : ℕ). LaidAt names v b (laid_out names vs (with_variable names x m))) there rest

-- a variable without an initialiser is new
pub laid-new : (names : Scope) (v : CVariable) (b : ℕ) (last : Memory) → v.initialiser ≡ None → LaidAt names v b last
    → last.block b ≡ Some (new_block storage.Static (variable_size v.ty))
laid-new names v b last e at =
    let m : Memory = at.before_it in
    let x : Block = new_block storage.Static (variable_size v.ty) in
    at.block ∙ ap (λ s. (initialised names s m.next (born storage.Static (variable_size v.ty) m)).block b) e
    ∙ ap (λ (c : ℕ). put_block m.next (Some x) m.block c) (sym at.next)
    ∙ ap (λ t. cond t (Some x) (m.block m.next)) (equal m.next)
  where
    equal : (n : ℕ) → n == n ≡ true
    equal n = grind (arith, nat_tests)

-- Values and memory in which one number of a function stands nowhere stay so: no expression has it that names nothing of this number.
use Rattle.std.proofs.Common.{◌≡◌, ℕ, ◌+◌, ◌-◌, nat_lt, nat_le, Bool, true, false, not, ◌&&◌, ◌==◌, cond, List, [], ◌∷◌, length, ℤ, pos, negsuc, Option, Some, None, Result, Ok, Err, refl, ap, sym, ◌∙◌}
use Rattle.std.specs.Prelude.{bytes_eq, find, option_map}
use Rattle.cf_base.specs.declared.kind.Kind.{Kind}
use Rattle.cf_base.specs.declared.arith.Arith.{Arith}
use Rattle.cf_base.specs.declared.arith.Arith.TheVariants as op
use Rattle.cf_base.specs.Integers.{int_op, convert}
use Rattle.cf_base.specs.Promotion.{promoted, usual}
use Rattle.cc_whole.specs.declared.types.CType.{CType}
use Rattle.cc_whole.specs.declared.types.CConstant.{CConstant}
use Rattle.cc_whole.specs.declared.types.CConstant.TheVariants as constants
use Rattle.cc_whole.specs.declared.expression.Prefix.{Prefix}
use Rattle.cc_whole.specs.declared.expression.Prefix.TheVariants as prefix
use Rattle.cc_whole.specs.Plain.{Place, named, pointed, Expression, constant, load, unary, cast, address, binary}
use Rattle.cc_whole.specs.Fault.{Checked, checked_then, moved}
use Rattle.cc_whole.specs.Known.{Meant, function as a_function, object, Named, lookup}
use Rattle.cc_whole.specs.Landmarks.{type_marks}
use Rattle.cc_whole.specs.Typed.{typed, typed_name, typed_cast, is_zero}
use Rattle.cc_whole_memory.specs.declared.cells.Cell.{Cell}
use Rattle.cc_whole_memory.specs.declared.cells.Cell.TheVariants as cell
use Rattle.cc_whole_memory.specs.declared.value.Pointer.{Pointer}
use Rattle.cc_whole_memory.specs.declared.value.Pointer.TheVariants as pointer
use Rattle.cc_whole_memory.specs.declared.value.Value.{Value}
use Rattle.cc_whole_memory.specs.declared.value.Value.TheVariants as value
use Rattle.cc_whole_memory.specs.declared.value.Scalar.{Scalar}
use Rattle.cc_whole_memory.specs.declared.value.Scalar.TheVariants as scalar
use Rattle.cc_whole_memory.specs.Values.{bytes_of, size_of, as_scalar, zero_of}
use Rattle.cc_whole_memory.specs.Cells.{Cells, span, overlap, left, put, zeros, load_from, load as loaded, whole, placed, taken}
use Rattle.cc_whole_memory.specs.Blocks.{Block, Memory, Place as At, inside, reached, on_ok, value_or_act, read, with_cells, write, laid, carry}
use Rattle.cc_whole_memory.specs.Pointers.{moved as moved_by, moved_back, of_pointers, same_pointer}
use Rattle.cc_whole_mean.specs.declared.named.Named.{Named as Meaning}
use Rattle.cc_whole_mean.specs.declared.named.Named.TheVariants.{Variable as variable, Function as function}
use Rattle.cc_whole_mean.specs.declared.named.Shape.TheVariants.{Single as single, Array as array}
use Rattle.cc_whole_mean.specs.declared.named.Target.{Target}
use Rattle.cc_whole_mean.specs.Types.{scalar_of, constant_value}
use Rattle.cc_whole_mean.specs.Scope.{Scope}
use Rattle.cc_whole_mean.specs.Values.{is_nought, typed as typed_value, fitted, numbered, addressed, truth_value, number, result_kind, of_numbers, prefixed, by_equality, is_equality, address_value, of_addresses, of_address, before_address, of_function, applied, is_true, named_value, named_address, value_of, values_of, target_of, stored, source_of, carried_to, given_to, by_source, assigned_to, assigned}

-- what a check gave, one found behind another
pub record Then {A B : Type 0} (c : Checked A) (f : A → Checked B) (b : B) : Type 0 where
  pub one : A
  pub is : c ≡ Ok one
  pub rest : f one ≡ Ok b

pub then-ok : {A B : Type 0} (c : Checked A) (f : A → Checked B) (b : B) → checked_then c f ≡ Ok b → Then c f b
then-ok (Ok a) f b e = record { one = a; is = refl; rest = e }
then-ok (Err x) f b e = absurd (cc)

pub moved-ok : {A : Type 0} (n : ℕ) (c : Checked A) (a : A) → moved n c ≡ Ok a → c ≡ Ok a
moved-ok n (Ok b) a e = e
moved-ok n (Err x) a e = absurd (cc)

-- no name of these is that one
abbrev pub Unknown : List ℕ → List Named → Type 0
Unknown n [] = Unit {0}
Unknown n (x ∷ xs) = (bytes_eq x.name n ≡ false) × Unknown n xs

pub unknown-none : (n : List ℕ) (xs : List Named) → Unknown n xs → lookup xs n ≡ None
unknown-none n [] u = refl
unknown-none n (x ∷ xs) u =
    ap (λ b. option_map (λ (x : Named). x.meant) (cond b (Some x) (find (λ (x : Named). bytes_eq x.name n) xs))) u.0 ∙ unknown-none n xs u.1

type-known : (n : List ℕ) (o : Option Meant) (t : CType) → typed_name n o ≡ Ok t → o ≡ None → ⊥
type-known n o t e k = let bad : typed_name n None ≡ Ok t = ap (typed_name n) (sym k) ∙ e in absurd (cc)

module _ (k : ℕ) where
  abbrev pub is_clean : Value → Bool
  is_clean (value.Number j z) = true
  is_clean (value.Address p) = true
  is_clean (value.Function f) = not (f == k)

  abbrev pub clean_cell : Cell → Bool
  clean_cell cell.Zero = true
  clean_cell cell.Gone = true
  clean_cell (cell.Stored v) = is_clean v

  abbrev pub CleanCells : Cells → Type 0
  CleanCells f = (i : ℕ) → clean_cell (f i) ≡ true

  abbrev pub CleanBlock : Option Block → Type 0
  CleanBlock None = Unit {0}
  CleanBlock (Some x) = CleanCells x.cells

  -- the number stands in no block
  pub record Clean (m : Memory) : Type 0 where
    pub block : (b : ℕ) → CleanBlock (m.block b)

  abbrev pub Fine : Result Value ℕ → Type 0
  Fine (Ok v) = is_clean v ≡ true
  Fine (Err act) = Unit {0}

  abbrev pub FineAll : List Value → Type 0
  FineAll [] = Unit {0}
  FineAll (v ∷ vs) = (is_clean v ≡ true) × FineAll vs

  abbrev pub FineValues : Result (List Value) ℕ → Type 0
  FineValues (Ok vs) = FineAll vs
  FineValues (Err act) = Unit {0}

  abbrev pub FineMemory : Result Memory ℕ → Type 0
  FineMemory (Ok m) = Clean m
  FineMemory (Err act) = Unit {0}

  abbrev FineOption : Option Value → Type 0
  FineOption None = Unit {0}
  FineOption (Some v) = is_clean v ≡ true

  -- names: what is known has not this number
  pub record Apart (names : List Named) (scope : Scope) : Type 0 where
    pub hidden : (n : List ℕ) (f : ℕ) → scope n ≡ Some (function f) → (f == k) ≡ true → Unknown n names

  -- ---- results

  fine-then : (r : Result Value ℕ) (go : Value → Result Value ℕ) → Fine r → ((v : Value) → is_clean v ≡ true → Fine (go v)) → Fine (on_ok r go)
  fine-then (Ok v) go h f = f v h
  fine-then (Err act) go h f = tt

  fine-on : {A : Type 0} (r : Result A ℕ) (go : A → Result Value ℕ) → ((a : A) → Fine (go a)) → Fine (on_ok r go)
  fine-on (Ok a) go f = f a
  fine-on (Err act) go f = tt

  memory-then : (r : Result Value ℕ) (go : Value → Result Memory ℕ) → Fine r → ((v : Value) → is_clean v ≡ true → FineMemory (go v)) → FineMemory (on_ok r go)
  memory-then (Ok v) go h f = f v h
  memory-then (Err act) go h f = tt

  memory-on : {A : Type 0} (r : Result A ℕ) (go : A → Result Memory ℕ) → ((a : A) → FineMemory (go a)) → FineMemory (on_ok r go)
  memory-on (Ok a) go f = f a
  memory-on (Err act) go f = tt

  fine-if : (b : Bool) (x y : Result Value ℕ) → Fine x → Fine y → Fine (cond b x y)
  fine-if true x y h l = h
  fine-if false x y h l = l

  -- ---- cells

  pub cell-if : (b : Bool) (x y : Cell) → clean_cell x ≡ true → clean_cell y ≡ true → clean_cell (cond b x y) ≡ true
  cell-if true x y h l = h
  cell-if false x y h l = l

  clean-left : (q n i : ℕ) (c : Cell) → clean_cell c ≡ true → clean_cell (left q n i c) ≡ true
  clean-left q n i c h = cell-if (overlap i (span c) q n) cell.Gone c refl h

  pub clean-put : (v : Value) (q : ℕ) (f : Cells) → is_clean v ≡ true → CleanCells f → CleanCells (put v q f)
  clean-put v q f h l i = cell-if (i == q) (cell.Stored v) (left q (size_of v) i (f i)) h (clean-left q (size_of v) i (f i) (l i))

  clean-whole : (n j : ℕ) (c : Cell) → clean_cell c ≡ true → clean_cell (whole n j c) ≡ true
  clean-whole n j cell.Zero h = refl
  clean-whole n j cell.Gone h = refl
  clean-whole n j (cell.Stored v) h = cell-if (nat_le (j + size_of v) n) (cell.Stored v) cell.Gone h refl

  clean-placed : (n : ℕ) (pieces : Cells) (q : ℕ) (to : Cells) → CleanCells pieces → CleanCells to → CleanCells (placed n pieces q to)
  clean-placed n pieces q to h l i =
      cell-if (nat_le q i && nat_lt i (q + n)) (pieces (i - q)) (left q n i (to i)) (h (i - q)) (clean-left q n i (to i) (l i))

  -- ---- blocks

  abbrev CleanAt : Result At ℕ → Type 0
  CleanAt (Ok at) = CleanCells at.block.cells
  CleanAt (Err act) = Unit {0}

  at-if : (b : Bool) (x y : Result At ℕ) → CleanAt x → CleanAt y → CleanAt (cond b x y)
  at-if true x y h l = h
  at-if false x y h l = l

  clean-inside : (b q n : ℕ) (o : Option Block) → CleanBlock o → CleanAt (inside b q n o)
  clean-inside b q n None h = tt
  clean-inside b q n (Some x) h = at-if (nat_le (q + n) x.size) _ _ h tt

  clean-reached : (p : Pointer) (n : ℕ) (m : Memory) → Clean m → CleanAt (reached p n m)
  clean-reached pointer.Null n m h = tt
  clean-reached (pointer.At b q) n m h = clean-inside b q n (m.block b) (h.block b)

  pub block-if : (b : Bool) (x y : Option Block) → CleanBlock x → CleanBlock y → CleanBlock (cond b x y)
  block-if true x y h l = h
  block-if false x y h l = l

  clean-cells : (at : At) (cells : Cells) (m : Memory) → Clean m → CleanCells cells → Clean (with_cells at cells m)
  clean-cells at cells m h l = record { block = λ b. block-if (b == at.number) (Some (record at.block { cells = cells })) (m.block b) l (h.block b) }

  at-then : (r : Result At ℕ) (go : At → Result Memory ℕ) → CleanAt r → ((at : At) → CleanCells at.block.cells → FineMemory (go at)) → FineMemory (on_ok r go)
  at-then (Ok at) go h f = f at h
  at-then (Err act) go h f = tt

  pub clean-write : (p : Pointer) (v : Value) (m : Memory) → Clean m → is_clean v ≡ true → FineMemory (write p v m)
  clean-write p v m h l =
      at-then (reached p (size_of v) m) _ (clean-reached p (size_of v) m h)
      (λ at c. clean-cells at (put v at.offset at.block.cells) m h (clean-put v at.offset at.block.cells l c))

  clean-carry : (n : ℕ) (from to : Pointer) (m : Memory) → Clean m → FineMemory (carry n from to m)
  clean-carry n from to m h =
      at-then (reached from n m) _ (clean-reached from n m h)
      (λ a c. at-then (reached to n m) _ (clean-reached to n m h)
      (λ at d. clean-cells at (placed n (taken n a.block.cells a.offset) at.offset at.block.cells) m h
      (clean-placed n (taken n a.block.cells a.offset) at.offset at.block.cells (λ j. clean-whole n j (a.block.cells (a.offset + j)) (c (a.offset + j))) d)))

  -- ---- loads

  module _ (some : (0 == k) ≡ false) where
    option-if : (b : Bool) (x y : Option Value) → FineOption x → FineOption y → FineOption (cond b x y)
    option-if true x y h l = h
    option-if false x y h l = l

    pub zero-clean : (t : Scalar) → is_clean (zero_of t) ≡ true
    zero-clean (scalar.Integer j) = refl
    zero-clean scalar.Pointer = refl
    zero-clean scalar.Function = ap not some

    scalar-clean : (t : Scalar) (v : Value) → is_clean v ≡ true → FineOption (as_scalar t v)
    scalar-clean (scalar.Integer j) (value.Number i z) h = refl
    scalar-clean (scalar.Integer j) (value.Address p) h = tt
    scalar-clean (scalar.Integer j) (value.Function f) h = tt
    scalar-clean scalar.Pointer (value.Number i z) h = tt
    scalar-clean scalar.Pointer (value.Address p) h = refl
    scalar-clean scalar.Pointer (value.Function f) h = tt
    scalar-clean scalar.Function (value.Number i z) h = tt
    scalar-clean scalar.Function (value.Address p) h = tt
    scalar-clean scalar.Function (value.Function f) h = h

    load-clean : (t : Scalar) (f : Cells) (q : ℕ) (c : Cell) → clean_cell c ≡ true → FineOption (load_from t f q c)
    load-clean t f q cell.Zero h = option-if (zeros f q (bytes_of t)) (Some (zero_of t)) None (zero-clean t) tt
    load-clean t f q cell.Gone h = tt
    load-clean t f q (cell.Stored v) h = option-if (size_of v == bytes_of t) (as_scalar t v) None (scalar-clean t v h) tt

    given-clean : (o : Option Value) → FineOption o → Fine (value_or_act o)
    given-clean None h = tt
    given-clean (Some v) h = h

    read-clean : (t : Scalar) (p : Pointer) (m : Memory) → Clean m → Fine (read t p m)
    read-clean t p m h = go (reached p (bytes_of t) m) (clean-reached p (bytes_of t) m h)
      where
        go : (r : Result At ℕ) → CleanAt r → Fine (on_ok r (λ at. value_or_act (loaded t at.block.cells at.offset)))
        go (Ok at) c = given-clean (loaded t at.block.cells at.offset) (load-clean t at.block.cells at.offset (at.block.cells at.offset) (c at.offset))
        go (Err act) c = tt

    typed-clean : (o : Option Value) → FineOption o → Fine (typed_value o)
    typed-clean None h = tt
    typed-clean (Some v) h = h

    pub fitted-clean : (t : Scalar) (v : Value) → is_clean v ≡ true → Fine (fitted t v)
    fitted-clean (scalar.Integer j) v h = typed-clean (as_scalar (scalar.Integer j) v) (scalar-clean (scalar.Integer j) v h)
    fitted-clean scalar.Pointer v h = fine-if (is_nought v) _ _ refl (typed-clean (as_scalar scalar.Pointer v) (scalar-clean scalar.Pointer v h))
    fitted-clean scalar.Function v h = fine-if (is_nought v) _ _ (ap not some) (typed-clean (as_scalar scalar.Function v) (scalar-clean scalar.Function v h))

    -- ---- operators, which give numbers and addresses

    number-fine : (j : Kind) (r : Result ℤ ℕ) → Fine (number j r)
    number-fine j r = fine-on r _ (λ z. refl)

    truth-fine : (b : Bool) → is_clean (truth_value b) ≡ true
    truth-fine true = refl
    truth-fine false = refl

    equality-fine : (o : Arith) (b : Bool) → Fine (by_equality o b)
    equality-fine op.Equal b = truth-fine b
    equality-fine op.NotEqual true = refl
    equality-fine op.NotEqual false = refl
    equality-fine o b = tt

    numbers-fine : (o : Arith) (i : Kind) (a : ℤ) (j : Kind) (b : ℤ) → Fine (of_numbers o i a j b)
    numbers-fine op.ShiftLeft i a j b = number-fine (promoted i) (int_op op.ShiftLeft (promoted i) (convert (promoted i) a) b)
    numbers-fine op.ShiftRight i a j b = number-fine (promoted i) (int_op op.ShiftRight (promoted i) (convert (promoted i) a) b)
    numbers-fine o i a j b = number-fine (result_kind o (usual i j)) (int_op o (usual i j) (convert (usual i j) a) (convert (usual i j) b))

    prefixed-fine : (o : Prefix) (j : Kind) (z : ℤ) → Fine (prefixed o j z)
    prefixed-fine prefix.Negate j z = number-fine (promoted j) (int_op op.Subtract (promoted j) (pos 0) (convert (promoted j) z))
    prefixed-fine prefix.Complement j z = number-fine (promoted j) (int_op op.Xor (promoted j) (convert (promoted j) z) (convert (promoted j) (negsuc 0)))
    prefixed-fine prefix.Not j z = truth-fine (not (is_true z))

    address-fine : (r : Result Pointer ℕ) → Fine (address_value r)
    address-fine r = fine-on r _ (λ p. refl)

    tested-fine : (b : Bool) (act : ℕ) (o : Arith) (e : Bool) → Fine (cond b (Err act) (by_equality o e))
    tested-fine b act o e = fine-if b (Err act) (by_equality o e) tt (equality-fine o e)

    moved-fine : (o : Arith) (p : Pointer) (z : ℤ) (m : Memory) → Fine (of_address o p z m)
    moved-fine op.Add p z m = address-fine (moved_by p z m)
    moved-fine op.Subtract p z m = address-fine (moved_back p z m)
    moved-fine o p z m = tested-fine (is_true z) _ o (same_pointer p pointer.Null)

    before-fine : (o : Arith) (z : ℤ) (p : Pointer) (m : Memory) → Fine (before_address o z p m)
    before-fine op.Add z p m = address-fine (moved_by p z m)
    before-fine o z p m = tested-fine (is_true z) _ o (same_pointer pointer.Null p)

    applied-fine : (o : Arith) (x y : Value) (m : Memory) → Fine (applied o x y m)
    applied-fine o (value.Number i a) (value.Number j b) m = numbers-fine o i a j b
    applied-fine o (value.Number i a) (value.Address p) m = before-fine o a p m
    applied-fine o (value.Number i a) (value.Function f) m = tested-fine (is_true a) _ o (f == 0)
    applied-fine o (value.Address p) (value.Number j b) m = moved-fine o p b m
    applied-fine o (value.Address p) (value.Address q) m =
        fine-if (is_equality o) (by_equality o (same_pointer p q)) _ (equality-fine o (same_pointer p q)) (fine-on (of_pointers o p q m) _ (λ z. refl))
    applied-fine o (value.Address p) (value.Function f) m = tt
    applied-fine o (value.Function f) (value.Number j b) m = tested-fine (is_true b) _ o (f == 0)
    applied-fine o (value.Function f) (value.Address p) m = tt
    applied-fine o (value.Function f) (value.Function g) m = equality-fine o (f == g)

    -- ---- expressions

    constant-fine : (c : CConstant) → is_clean (constant_value c) ≡ true
    constant-fine (constants.Signed z) = refl
    constant-fine (constants.Unsigned n) = refl

    module _ (names : List Named) (scope : Scope) (m : Memory) (apart : Apart names scope) (clean : Clean m) where
      named-clean : (n : List ℕ) (t : CType) → typed_name n (lookup names n) ≡ Ok t → Fine (named_value (scope n) m)
      named-clean n t e = go (scope n) refl
        where
          other : (f : ℕ) → scope n ≡ Some (function f) → (b : Bool) → (f == k) ≡ b → not b ≡ true
          other f is true same = absurd (type-known n (lookup names n) t e (unknown-none n names (apart.hidden n f is same)))
          other f is false same = refl

          go : (o : Option Meaning) → scope n ≡ o → Fine (named_value o m)
          go None is = tt
          go (Some (variable b (single t))) is = read-clean t (pointer.At b 0) m clean
          go (Some (variable b array)) is = refl
          go (Some (function f)) is = other f is (f == k) refl

      address-named : (o : Option Meaning) → Fine (named_address o)
      address-named None = tt
      address-named (Some (variable b shape)) = refl
      address-named (Some (function f)) = tt

      pointed-clean : (t : CType) (v : Value) → Fine (addressed v (λ p. read (scalar_of t) p m))
      pointed-clean t (value.Number j z) = tt
      pointed-clean t (value.Address p) = read-clean (scalar_of t) p m clean
      pointed-clean t (value.Function f) = tt

      prefixed-clean : (o : Prefix) (v : Value) → Fine (numbered v (λ j z. prefixed o j z))
      prefixed-clean o (value.Number j z) = prefixed-fine o j z
      prefixed-clean o (value.Address p) = tt
      prefixed-clean o (value.Function f) = tt

      pub value-clean : (e : Expression) (t : CType) → typed e names ≡ Ok t → Fine (value_of e scope m)
      value-clean (constant c) t e = constant-fine c
      value-clean (load (named n)) t e = named-clean n t e
      value-clean (load (pointed u a)) t e = fine-on (value_of a scope m) _ (λ v. pointed-clean u v)
      value-clean (unary o a) t e = fine-on (value_of a scope m) _ (λ v. prefixed-clean o v)
      value-clean (cast u a) t e =
          let x = then-ok (moved (type_marks u) (typed a names)) (typed_cast u (is_zero a)) t e in
          fine-then (value_of a scope m) _ (value-clean a x.one (moved-ok (type_marks u) (typed a names) x.one x.is)) (λ v h. fitted-clean (scalar_of u) v h)
      value-clean (address n) t e = address-named (scope n)
      value-clean (binary o a b) t e = fine-on (value_of a scope m) _ (λ x. fine-on (value_of b scope m) _ (λ y. applied-fine o x y m))

      -- ---- stores

      pub stored-clean : (at : Target) (v : Value) → is_clean v ≡ true → FineMemory (stored at v m)
      stored-clean at v h = memory-then (fitted at.scalar v) _ (fitted-clean at.scalar v h) (λ u l. clean-write at.pointer u m clean l)

      by-source : (o : Option (Result Pointer ℕ)) (e : Expression) (t : CType) (at : Target) → typed e names ≡ Ok t → FineMemory (by_source o e at scope m)
      by-source None e t at h = memory-then (value_of e scope m) _ (value-clean e t h) (λ v l. stored-clean at v l)
      by-source (Some from) e t at h = memory-on from _ (λ p. clean-carry (bytes_of at.scalar) p at.pointer m clean)

      pub assigned-clean : (place : Place) (e : Expression) (t : CType) → typed e names ≡ Ok t → FineMemory (assigned place e scope m)
      assigned-clean place e t h = memory-on (target_of place scope m) _ (λ at. by-source (source_of e scope m) e t at h)

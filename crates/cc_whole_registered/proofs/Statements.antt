-- Statements that keep the rules of validity where `atexit` is not known as a function: they register nothing, and its number stands nowhere behind them.
use Rattle.std.proofs.Common.{◌≡◌, ℕ, zero, suc, ◌+◌, ◌-◌, Bool, true, false, not, ◌&&◌, ◌||◌, ◌==◌, cond, List, [], ◌∷◌, ◌++◌, length, ℤ, Option, Some, None, Result, Ok, Err, refl, ap, sym, subst, ◌∙◌, arith}
use Rattle.std.specs.Prelude.{bytes_eq, codes, find, map, slice_get, option_map, nat_lt, is_some}
use Rattle.cf_base.proofs.Tests.{same_bytes, bytes_same}
use Rattle.std.proofs.lemmas.Bool.Decides.{nat_tests}
use Rattle.cf_base.specs.Integers.{bits_of}
use Rattle.cf_base.specs.Event.{End}
use Rattle.cf_base.specs.World.{World, Ran, Went, Stops, and_then, spend_of, deeper, next_of}
use Rattle.cc_whole.specs.declared.types.CType.{CType}
use Rattle.cc_whole.specs.declared.types.CSignature.{CSignature}
use Rattle.cc_whole.specs.declared.types.CVariableType.{CVariableType}
use Rattle.cc_whole.specs.declared.types.CVariableType.TheVariants as cvariable
use Rattle.cc_whole.specs.declared.statement.CLocal.{CLocal}
use Rattle.cc_whole.specs.declared.unit.CParameter.{CParameter}
use Rattle.cc_whole.specs.declared.unit.CPrototype.{CPrototype}
use Rattle.cc_whole.specs.Plain as c
use Rattle.cc_whole.specs.Plain.{Place, Expression, Callee as Called_by, by_name, by_pointer, Statement, assign, call, block, leave, next, choose, loop, select, give, Statements, done, followed, SwitchItems, closed, labelled, otherwise, stated, Body, body, Function}
use Rattle.cc_whole.specs.Fault.{Checked, Checks, fine, holds, checked_then, moved, ◌before◌}
use Rattle.cc_whole.specs.Known.{Meant, function as a_function, object, Named, Known, lookup, parameters_named, locals_named}
use Rattle.cc_whole.specs.Types.{local_type, same_type, is_integer, is_function_pointer}
use Rattle.cc_whole.specs.Landmarks.{marks, signature_marks, target_marks, place_marks, callee_marks, locals_marks, statement_marks, body_marks}
use Rattle.cc_whole.specs.Numbers.{label_of, fits_constant}
use Rattle.cc_whole.specs.declared.types.CConstant.{CConstant}
use Rattle.cc_whole.specs.Statements as checks
use Rattle.cc_whole.specs.Statements.{checked, checked_statements, checked_switch, checked_body, checked_locals, with_locals, in_a_loop, in_a_switch, no_labels, Labels}
use Rattle.cc_whole.specs.Typed.{typed, typed_target, is_zero, fits_type}
use Rattle.cc_whole.specs.Valid.{inside}
use Rattle.cc_whole_memory.specs.declared.cells.Cell.TheVariants as cell
use Rattle.cc_whole_memory.specs.declared.store.Storage.{Storage}
use Rattle.cc_whole_memory.specs.declared.store.Storage.TheVariants as storage
use Rattle.cc_whole_memory.specs.declared.value.Pointer.{Pointer}
use Rattle.cc_whole_memory.specs.declared.value.Pointer.TheVariants as pointer
use Rattle.cc_whole_memory.specs.declared.value.Value.{Value}
use Rattle.cc_whole_memory.specs.declared.value.Value.TheVariants as value
use Rattle.cc_whole_memory.specs.Values.{size_of}
use Rattle.cc_whole_memory.specs.Cells.{Cells, put}
use Rattle.cc_whole_memory.specs.Blocks.{Block, Memory, first_cell, new_block, born, ended, on_ok, Allotted, allotted, charge, Freed, freed, freed_block, heap_size}
use Rattle.cc_whole_mean.specs.declared.named.Named.{Named as Meaning}
use Rattle.cc_whole_mean.specs.declared.named.Named.TheVariants.{Variable as variable, Function as function}
use Rattle.cc_whole_mean.specs.declared.named.Shape.TheVariants.{Single as single}
use Rattle.cc_whole_mean.specs.declared.named.Target.{Target}
use Rattle.cc_whole_mean.specs.Types.{scalar_of, local_shape, local_size}
use Rattle.cc_whole_mean.specs.Scope.{Scope, bind, bind_locals, bind_parameters}
use Rattle.cc_whole_mean.specs.Values.{value_of, values_of, stored, assigned, integer_of, is_true}
use Rattle.cc_whole_mean.specs.Flow.{State, in_memory, Flow, Falls, Breaks, Continues, Returns, Exits, tried, falling, turning, switching, ending, ended_from, born_locals, born_holding, born_arguments, Called, Back, Gone, called_back}
use Rattle.cc_whole_mean.specs.Callee as callee
use Rattle.cc_whole_mean.specs.Callee.{Callee, own, built_in, Library, library_named, found_library, found_function, function_named, callee_numbered, has_type}
use Rattle.cc_whole_mean.specs.Library.{does_library, of_number, of_pointer, of_function, of_none, of_one, back_int, byte_or_end}
use Rattle.cc_whole_mean.specs.Mean.{Program, Again, run_function, enter_helper, enter_function, enter, called_own, called, Chosen, name as by_its_name, pointer as by_its_pointer, chosen, function_number, callee_of, if_type, targeted, used, store_result, go_back, call_to, given, wanted, is_wanted, does, does_body, does_all, does_from, does_items, refused, helps_in, runs}
use Rattle.cc_whole.specs.Known.{is_helper, is_main}
use Rattle.cc_whole_registered.proofs.Values.{Then, then-ok, moved-ok, Unknown, unknown-none, is_clean, clean_cell, CleanCells, CleanBlock, Clean, Fine, FineAll, FineValues, FineMemory, Apart, cell-if, block-if, clean-put, value-clean, stored-clean, assigned-clean}

abbrev pub at_exit : List ℕ
at_exit = codes "atexit"

-- ---- checks that find nothing

pub first : {A : Type 0} (c : Checks) (d : Checked A) (a : A) → (c before d) ≡ Ok a → c ≡ fine
first (Ok u) d a e = refl
first (Err f) d a e = absurd (cc)

pub second : {A : Type 0} (c : Checks) (d : Checked A) (a : A) → (c before d) ≡ Ok a → d ≡ Ok a
second (Ok u) d a e = e
second (Err f) d a e = absurd (cc)

pub holding : (b : Bool) (rule n : ℕ) → holds b rule n ≡ fine → b ≡ true
holding true rule n e = refl
holding false rule n e = absurd (cc)

-- ---- names

-- `atexit` is no function here
abbrev pub NoFunction : List Named → Type 0
NoFunction names = (p : CPrototype) → lookup names at_exit ≡ Some (a_function p) → ⊥

none-more : (x : Named) (names : List Named) → ((p : CPrototype) → x.meant ≡ a_function p → ⊥) → NoFunction names → NoFunction (x ∷ names)
none-more x names other none p e = go (bytes_eq x.name at_exit) e
  where
    go : (b : Bool) → option_map (λ (x : Named). x.meant) (cond b (Some x) (find (λ (x : Named). bytes_eq x.name at_exit) names)) ≡ Some (a_function p) → ⊥
    go true h = other p (some-same h)
      where
        some-same : {a b : Meant} → Some a ≡ Some b → a ≡ b
        some-same e = cc
    go false h = none p h

object-apart : (t : CVariableType) (p : CPrototype) → object t ≡ a_function p → ⊥
object-apart t p e = absurd (cc)

none-locals : (xs : List CLocal) (names : List Named) → NoFunction names → NoFunction (locals_named xs ++ names)
none-locals [] names none = none
none-locals (x ∷ xs) names none =
    none-more (record { name = x.name; meant = object (local_type x.ty) }) (locals_named xs ++ names) (object-apart (local_type x.ty)) (none-locals xs names none)

none-parameters : (xs : List CParameter) (names : List Named) → NoFunction names → NoFunction (parameters_named xs ++ names)
none-parameters [] names none = none
none-parameters (x ∷ xs) names none =
    none-more (record { name = x.name; meant = object (cvariable.Scalar x.ty) }) (parameters_named xs ++ names) (object-apart (cvariable.Scalar x.ty)) (none-parameters xs names none)

-- what a name stood for before a variable was bound
pub record Before (b : Bool) (o : Option Meaning) (f : ℕ) : Type 0 where
  pub other : b ≡ false
  pub earlier : o ≡ Some (function f)

pub bound-before : (b : Bool) (v : Meaning) (o : Option Meaning) (f : ℕ) → ((g : ℕ) → v ≡ function g → ⊥) → cond b (Some v) o ≡ Some (function f) → Before b o f
bound-before true v o f apart e = absurd (apart f (let same : v ≡ function f = cc in same))
bound-before false v o f apart e = record { other = refl; earlier = e }

turned : (a b : List ℕ) → bytes_eq a b ≡ false → bytes_eq b a ≡ false
turned a b e = go (bytes_eq b a) refl
  where
    go : (t : Bool) → bytes_eq b a ≡ t → t ≡ false
    go true is = absurd (let bad : bytes_eq a b ≡ true = bytes_same a b (sym (same_bytes b a is)) in let both : true ≡ false = sym bad ∙ e in cc)
    go false is = refl

record Among (n : List ℕ) (xs : List Named) (o : Option Meaning) (f : ℕ) : Type 0 where
  unknown : Unknown n xs
  earlier : o ≡ Some (function f)

locals-before : (xs : List CLocal) (b : ℕ) (scope : Scope) (n : List ℕ) (f : ℕ) → bind_locals xs b scope n ≡ Some (function f) → Among n (locals_named xs) (scope n) f
locals-before [] b scope n f e = record { unknown = tt; earlier = e }
locals-before (x ∷ xs) b scope n f e =
    let rest = locals-before xs (suc b) (bind x.name (variable b (local_shape x.ty)) scope) n f e in
    let here = bound-before (bytes_eq n x.name) (variable b (local_shape x.ty)) (scope n) f (λ g h. absurd (cc)) rest.earlier in
    record { unknown = (turned n x.name here.other, rest.unknown); earlier = here.earlier }

parameters-before : (xs : List CParameter) (b : ℕ) (scope : Scope) (n : List ℕ) (f : ℕ) → bind_parameters xs b scope n ≡ Some (function f)
    → Among n (parameters_named xs) (scope n) f
parameters-before [] b scope n f e = record { unknown = tt; earlier = e }
parameters-before (x ∷ xs) b scope n f e =
    let rest = parameters-before xs (suc b) (bind x.name (variable b (single (scalar_of x.ty))) scope) n f e in
    let here = bound-before (bytes_eq n x.name) (variable b (single (scalar_of x.ty))) (scope n) f (λ g h. absurd (cc)) rest.earlier in
    record { unknown = (turned n x.name here.other, rest.unknown); earlier = here.earlier }

unknown-both : (n : List ℕ) (xs ys : List Named) → Unknown n xs → Unknown n ys → Unknown n (xs ++ ys)
unknown-both n [] ys u v = v
unknown-both n (x ∷ xs) ys u v = (u.0, unknown-both n xs ys u.1 v)

-- ---- runs

abbrev pub All : {A : Type 0} → (A → Type 0) → Ran A → Type 0
All P (Went a w) = P a
All P (Stops end trace) = Unit {0}

all-then : {A B : Type 0} (P : A → Type 0) (Q : B → Type 0) (x : Ran A) (go : A → World → Ran B) → All P x → ((a : A) (w : World) → P a → All Q (go a w)) → All Q (and_then x go)
all-then P Q (Went a w) go h k = k a w h
all-then P Q (Stops end trace) go h k = tt

all-if : {A : Type 0} (P : A → Type 0) (b : Bool) (x y : Ran A) → All P x → All P y → All P (cond b x y)
all-if P true x y h k = h
all-if P false x y h k = k

all-tried : {A B : Type 0} (Q : B → Type 0) (r : Result A ℕ) (w : World) (go : A → Ran B) → ((a : A) → r ≡ Ok a → All Q (go a)) → All Q (tried r w go)
all-tried Q (Ok a) w go h = h a refl
all-tried Q (Err act) w go h = tt

all-spend : {A : Type 0} (Q : A → Type 0) (n : ℕ) (w : World) (go : World → Ran A) → ((v : World) → All Q (go v)) → All Q (spend_of n w go)
all-spend Q zero w go h = tt
all-spend Q (suc n) w go h = h _

all-deeper : {A : Type 0} (Q : A → Type 0) (d : ℕ) (w : World) (go : ℕ → Ran A) → ((n : ℕ) → All Q (go n)) → All Q (deeper d w go)
all-deeper Q zero w go h = tt
all-deeper Q (suc d) w go h = h d

labelled-behind : (x : CConstant) (rest : SwitchItems) (ls : Labels) (known : Known) → checked_switch (labelled x rest) ls known ≡ fine
    → checked_switch rest (record ls { cases = label_of x ∷ ls.cases }) known ≡ fine
labelled-behind x rest ls known c =
    let one : Checks = holds (not (checks.has_case ls.cases (label_of x))) 8 0 in
    let two : Checks = holds (fits_constant x) 11 1 in
    let inner : Checks = checked_switch rest (record ls { cases = label_of x ∷ ls.cases }) known in
    moved-ok 2 inner tt (second two (moved 2 inner) tt (second one (two before moved 2 inner) tt c))

otherwise-behind : (rest : SwitchItems) (ls : Labels) (known : Known) → checked_switch (otherwise rest) ls known ≡ fine
    → checked_switch rest (record ls { has_default = true }) known ≡ fine
otherwise-behind rest ls known c =
    let inner : Checks = checked_switch rest (record ls { has_default = true }) known in
    moved-ok 1 inner tt (second (holds (not ls.has_default) 8 0) (moved 1 inner) tt c)

stated-behind : (st : Statement) (rest : SwitchItems) (ls : Labels) (known : Known) → checked_switch (stated st rest) ls known ≡ fine → checked_switch rest ls known ≡ fine
stated-behind st rest ls known c =
    let inner : Checks = checked_switch rest ls known in
    moved-ok (statement_marks st) inner tt (second (checked st known) (moved (statement_marks st) inner) tt c)

abbrev pub Other : Library → Type 0
Other callee.putchar = Unit {0}
Other callee.getchar = Unit {0}
Other callee.exit = Unit {0}
Other callee.malloc = Unit {0}
Other callee.free = Unit {0}
Other callee.atexit = ⊥

module _ (k : ℕ) (some : (0 == k) ≡ false) where
  -- ---- memory

  first-clean : (s : Storage) → clean_cell k (first_cell s) ≡ true
  first-clean storage.Static = refl
  first-clean storage.Local = refl
  first-clean storage.Heap = refl

  pub clean-born : (s : Storage) (n : ℕ) (m : Memory) → Clean k m → Clean k (born s n m)
  clean-born s n m h = record {
    block = λ b. block-if k (b == m.next) (Some (new_block s n)) (m.block b) (λ i. cell-if k (nat_lt i n) (first_cell s) cell.Gone (first-clean s) refl) (h.block b);
  }

  clean-ended : (b : ℕ) (m : Memory) → Clean k m → Clean k (ended b m)
  clean-ended b m h = record { block = λ c. block-if k (c == b) None (m.block c) tt (h.block c) }

  clean-from : (j b : ℕ) (m : Memory) → Clean k m → Clean k (ended_from j b m)
  clean-from zero b m h = h
  clean-from (suc j) b m h = clean-from j (suc b) (ended b m) (clean-ended b m h)

  clean-locals : (xs : List CLocal) (m : Memory) → Clean k m → Clean k (born_locals xs m)
  clean-locals [] m h = h
  clean-locals (x ∷ xs) m h = clean-locals xs (born storage.Local (local_size x.ty) m) (clean-born storage.Local (local_size x.ty) m h)

  abbrev empty : Cells
  empty i = cell.Gone

  clean-holding : (v : Value) (m : Memory) → is_clean k v ≡ true → Clean k m → Clean k (born_holding v m)
  clean-holding v m l h = record {
    block = λ b. block-if k (b == m.next) (Some (record { storage = storage.Local; size = size_of v; cells = put v 0 empty })) (m.block b)
        (clean-put k v 0 empty l (λ i. refl)) (h.block b);
  }

  clean-arguments : (vs : List Value) (m : Memory) → FineAll k vs → Clean k m → Clean k (born_arguments vs m)
  clean-arguments [] m l h = h
  clean-arguments (v ∷ vs) m l h = clean-arguments vs (born_holding v m) l.1 (clean-holding v m l.0 h)

  -- ---- states

  -- nothing is registered, and the number stands nowhere
  pub record Calm (s : State) : Type 0 where
    pub memory : Clean k s.memory
    pub none : s.registered ≡ []

  abbrev pub FineGiven : Option Value → Type 0
  FineGiven None = Unit {0}
  FineGiven (Some v) = is_clean k v ≡ true

  abbrev pub CalmFlow : Flow → Type 0
  CalmFlow (Falls s) = Calm s
  CalmFlow (Breaks s) = Calm s
  CalmFlow (Continues s) = Calm s
  CalmFlow (Returns v s) = Calm s × FineGiven v
  CalmFlow (Exits z s) = Calm s

  abbrev pub CalmCalled : Called → Type 0
  CalmCalled (Back v s) = Calm s × FineGiven v
  CalmCalled (Gone z s) = Calm s

  calm-in : (s : State) (m : Memory) → Calm s → Clean k m → Calm (in_memory s m)
  calm-in s m h l = record { memory = l; none = h.none }

  calm-ended : (j b : ℕ) (s : State) → Calm s → Calm (in_memory s (ended_from j b s.memory))
  calm-ended j b s h = calm-in s (ended_from j b s.memory) h (clean-from j b s.memory h.memory)

  calm-ending : (j b : ℕ) (flow : Flow) → CalmFlow flow → CalmFlow (ending j b flow)
  calm-ending j b (Falls s) h = calm-ended j b s h
  calm-ending j b (Breaks s) h = calm-ended j b s h
  calm-ending j b (Continues s) h = calm-ended j b s h
  calm-ending j b (Returns v s) h = (calm-ended j b s h.0, h.1)
  calm-ending j b (Exits z s) h = calm-ended j b s h

  calm-switching : (flow : Flow) → CalmFlow flow → CalmFlow (switching flow)
  calm-switching (Falls s) h = h
  calm-switching (Breaks s) h = h
  calm-switching (Continues s) h = h
  calm-switching (Returns v s) h = h
  calm-switching (Exits z s) h = h

  calm-called : (flow : Flow) → CalmFlow flow → CalmCalled (called_back flow)
  calm-called (Falls s) h = (h, tt)
  calm-called (Breaks s) h = (h, tt)
  calm-called (Continues s) h = (h, tt)
  calm-called (Returns v s) h = h
  calm-called (Exits z s) h = h

  calm-falling : (go : State → World → Ran Flow) → ((s : State) (w : World) → Calm s → All CalmFlow (go s w)) → (flow : Flow) (w : World) → CalmFlow flow
      → All CalmFlow (falling go flow w)
  calm-falling go f (Falls s) w h = f s w h
  calm-falling go f (Breaks s) w h = h
  calm-falling go f (Continues s) w h = h
  calm-falling go f (Returns v s) w h = h
  calm-falling go f (Exits z s) w h = h

  calm-turning : (go : State → World → Ran Flow) → ((s : State) (w : World) → Calm s → All CalmFlow (go s w)) → (flow : Flow) (w : World) → CalmFlow flow
      → All CalmFlow (turning go flow w)
  calm-turning go f (Falls s) w h = f s w h
  calm-turning go f (Breaks s) w h = h
  calm-turning go f (Continues s) w h = f s w h
  calm-turning go f (Returns v s) w h = h
  calm-turning go f (Exits z s) w h = h

  -- ---- the library

  calm-byte : (input : List ℕ) (s : State) (w : World) → Calm s → All CalmCalled (next_of input w (λ byte w. back_int (byte_or_end byte) s w))
  calm-byte [] s w h = (h, refl)
  calm-byte (byte ∷ rest) s w h = (h, refl)

  calm-none : (l : Library) (s : State) (w : World) → Calm s → All CalmCalled (of_none l s w)
  calm-none callee.putchar s w h = tt
  calm-none callee.getchar s w h = calm-byte w.input s w h
  calm-none callee.exit s w h = tt
  calm-none callee.malloc s w h = tt
  calm-none callee.free s w h = tt
  calm-none callee.atexit s w h = tt

  allotted-clean : (n heap : ℕ) (m : Memory) → Clean k m → Clean k (allotted n heap m).memory
  allotted-clean n heap m h = go (nat_lt heap (charge n))
    where
      go : (b : Bool) → Clean k (cond {A = Allotted} b (record { pointer = pointer.Null; heap = heap; memory = m })
          (record { pointer = pointer.At m.next 0; heap = heap - charge n; memory = born storage.Heap n m })).memory
      go true = h
      go false = clean-born storage.Heap n m h

  calm-number : (l : Library) → Other l → (z : ℤ) (s : State) (w : World) → Calm s → All CalmCalled (of_number l z s w)
  calm-number callee.putchar o z s w h = (h, refl)
  calm-number callee.getchar o z s w h = tt
  calm-number callee.exit o z s w h = h
  calm-number callee.malloc o z s w h =
      (calm-in s (allotted (bits_of 32 z) w.heap s.memory).memory h (allotted-clean (bits_of 32 z) w.heap s.memory h.memory), refl)
  calm-number callee.free o z s w h = tt
  calm-number callee.atexit o z s w h = tt

  abbrev FreedClean : Result Freed ℕ → Type 0
  FreedClean (Ok f) = Clean k f.memory
  FreedClean (Err act) = Unit {0}

  block-freed : (b q : ℕ) (o : Option ℕ) (heap : ℕ) (m : Memory) → Clean k m → FreedClean (freed_block b q o heap m)
  block-freed b q None heap m h = tt
  block-freed b q (Some size) heap m h = go (q == 0)
    where
      go : (t : Bool) → FreedClean (cond t (Ok (record { heap = heap + charge size; memory = ended b m })) (Err 10))
      go true = clean-ended b m h
      go false = tt

  freed-clean : (p : Pointer) (heap : ℕ) (m : Memory) → Clean k m → FreedClean (freed p heap m)
  freed-clean pointer.Null heap m h = h
  freed-clean (pointer.At b q) heap m h = block-freed b q (heap_size (m.block b)) heap m h

  calm-pointer : (l : Library) (p : Pointer) (s : State) (w : World) → Calm s → All CalmCalled (of_pointer l p s w)
  calm-pointer callee.putchar p s w h = tt
  calm-pointer callee.getchar p s w h = tt
  calm-pointer callee.exit p s w h = tt
  calm-pointer callee.malloc p s w h = tt
  calm-pointer callee.free p s w h =
      all-tried CalmCalled (freed p w.heap s.memory) w _ (λ f e. (calm-in s f.memory h (subst FreedClean e (freed-clean p w.heap s.memory h.memory)), tt))
  calm-pointer callee.atexit p s w h = tt

  calm-function : (l : Library) → Other l → (inside : Bool) (f : ℕ) (s : State) (w : World) → All CalmCalled (of_function l inside f s w)
  calm-function callee.putchar o inside f s w = tt
  calm-function callee.getchar o inside f s w = tt
  calm-function callee.exit o inside f s w = tt
  calm-function callee.malloc o inside f s w = tt
  calm-function callee.free o inside f s w = tt
  calm-function callee.atexit o inside f s w = absurd o

  calm-one : (l : Library) → Other l → (inside : Bool) (v : Value) (s : State) (w : World) → Calm s → All CalmCalled (of_one l inside v s w)
  calm-one l o inside (value.Number j z) s w h = calm-number l o z s w h
  calm-one l o inside (value.Address p) s w h = calm-pointer l p s w h
  calm-one l o inside (value.Function f) s w h = calm-function l o inside f s w

  calm-library : (l : Library) → Other l → (inside : Bool) (vs : List Value) (s : State) (w : World) → Calm s → All CalmCalled (does_library l inside vs s w)
  calm-library l o inside [] s w h = calm-none l s w h
  calm-library l o inside (v ∷ []) s w h = calm-one l o inside v s w h
  calm-library l o inside (v ∷ (u ∷ vs)) s w h = tt

  -- ---- functions of a program

  pub record FunctionFine (p : Program) (f : Function) : Type 0 where
    pub names : List Named
    pub body : checked_body f.body (inside f.prototype names) ≡ fine
    pub none : NoFunction names
    pub apart : Apart k names p.names

  abbrev pub CalleeFine : Program → Callee → Type 0
  CalleeFine p (own f) = FunctionFine p f
  CalleeFine p (built_in l) = Other l

  abbrev pub FoundFine : Program → Result Callee ℕ → Type 0
  FoundFine p (Ok c) = CalleeFine p c
  FoundFine p (Err act) = Unit {0}

  -- what is called by a name or a number that is not that of `atexit`
  pub record ProgramFine (p : Program) : Type 0 where
    pub named : (n : List ℕ) → bytes_eq n at_exit ≡ false → FoundFine p (callee_of p.functions (by_its_name n))
    pub numbered : (f : ℕ) → (f == k) ≡ false → FoundFine p (callee_numbered p.functions f)

  module _ (p : Program) (program : ProgramFine p) where
    abbrev pub CalmRun : (Statement → Scope → ℕ → State → World → Ran Flow) → Type 0
    CalmRun run = (st : Statement) (scope : Scope) (depth : ℕ) (s : State) (w : World) (known : Known) → Apart k known.names scope → NoFunction known.names
        → checked st known ≡ fine → Calm s → All CalmFlow (run st scope depth s w)

    abbrev pub CalmAgain : Again → Type 0
    CalmAgain a = (inside : Bool) → CalmRun (a inside)

    pub run-calm : (run : Statement → Scope → ℕ → State → World → Ran Flow) → CalmRun run → (f : Function) → FunctionFine p f → (vs : List Value) → FineAll k vs
        → (depth : ℕ) (s : State) (w : World) → Calm s → All CalmCalled (run_function run p.names f vs depth s w)
    run-calm run calm f fit vs l depth s w h =
        let ps = f.prototype.parameters in
        all-then CalmFlow CalmCalled (run (block f.body) (bind_parameters ps s.memory.next p.names) depth (in_memory s (born_arguments vs s.memory)) w) _
        (calm (block f.body) (bind_parameters ps s.memory.next p.names) depth (in_memory s (born_arguments vs s.memory)) w (inside f.prototype fit.names)
        (record {
          hidden = λ n g e same.
              let b = parameters-before ps s.memory.next p.names n g e in unknown-both n (parameters_named ps) fit.names b.unknown (fit.apart.hidden n g b.earlier same);
        })
        (none-parameters ps fit.names fit.none) fit.body (calm-in s (born_arguments vs s.memory) h (clean-arguments vs s.memory l h.memory)))
        (λ flow v c. calm-called (ending (length vs) s.memory.next flow) (calm-ending (length vs) s.memory.next flow c))

    module _ (a helps : Again) (again : CalmAgain a) (helping : CalmAgain helps) where
      helper-calm : (inside : Bool) (f : Function) → FunctionFine p f → (vs : List Value) → FineAll k vs → (depth : ℕ) (s : State) (w : World) → Calm s
          → All CalmCalled (enter_helper inside helps p.names f vs depth s w)
      helper-calm true f fit vs l depth s w h = tt
      helper-calm false f fit vs l depth s w h = run-calm (helps true) (helping true) f fit vs l depth s w h

      called-calm : (c : Callee) → CalleeFine p c → (inside : Bool) (vs : List Value) → FineAll k vs → (depth : ℕ) (s : State) (w : World) → Calm s
          → All CalmCalled (called a helps p inside c vs depth s w)
      called-calm (own f) fit inside vs l depth s w h =
          all-if CalmCalled (is_main f.prototype.name) _ _ tt
          (all-if CalmCalled (length f.prototype.parameters == length vs) _ _
          (all-if CalmCalled (is_helper f.prototype.name) _ _ (helper-calm inside f fit vs l depth s w h)
          (all-spend CalmCalled w.ticks w _ (λ v. all-deeper CalmCalled depth v _ (λ d. run-calm (a false) (again false) f fit vs l d s _ h)))) tt)
      called-calm (built_in l) o inside vs m depth s w h = calm-library l o inside vs s w h

      -- ---- statements

      module _ (inside : Bool) where
        abbrev Ends : (World → Ran Flow) → Type 0
        Ends go = (w : World) → All CalmFlow (go w)

        module _ (scope : Scope) (known : Known) (apart : Apart k known.names scope) (none : NoFunction known.names) (s : State) (h : Calm s) where
          arguments-clean : (ts : List CType) (es : List Expression) → length ts ≡ length es → checks.arguments ts es known.names ≡ fine
              → FineValues k (values_of es scope s.memory)
          arguments-clean ts [] e l = tt
          arguments-clean [] (x ∷ es) e l = absurd (let bad : 0 ≡ suc (length es) = e in omega (arith, bad))
          arguments-clean (t ∷ ts) (x ∷ es) e l =
              let one = then-ok (typed x known.names) (λ u. holds (same_type u t) 5 0 before moved (marks x) (checks.arguments ts es known.names)) tt l in
              let rest = moved-ok (marks x) (checks.arguments ts es known.names) tt
              (second (holds (same_type one.one t) 5 0) (moved (marks x) (checks.arguments ts es known.names)) tt one.rest) in
              both (value_of x scope s.memory) (value-clean k some known.names scope s.memory apart h.memory x one.one one.is) (values_of es scope s.memory)
              (arguments-clean ts es (let n : suc (length ts) ≡ suc (length es) = e in omega (arith, n)) rest)
            where
              both : (r : Result Value ℕ) → Fine k r → (rs : Result (List Value) ℕ) → FineValues k rs
                  → FineValues k (on_ok r (λ v. on_ok rs (λ vs. Ok (v ∷ vs))))
              both (Ok v) i (Ok vs) j = (i, j)
              both (Ok v) i (Err act) j = tt
              both (Err act) i rs j = tt

          abbrev ChosenFine : Result Chosen ℕ → Type 0
          ChosenFine (Ok f) = FoundFine p (callee_of p.functions f)
          ChosenFine (Err act) = Unit {0}

          typed-fine : (sig : CSignature) (r : Result Callee ℕ) → FoundFine p r → FoundFine p (on_ok r (λ c. if_type sig c))
          typed-fine sig (Ok c) i = go (has_type sig.result sig.parameters c)
            where
              go : (b : Bool) → FoundFine p (cond b (Ok c) (Err 9))
              go true = i
              go false = tt
          typed-fine sig (Err act) i = tt

          clean-number : (f : ℕ) → not (f == k) ≡ true → (f == k) ≡ false
          clean-number f e = go (f == k) e
            where
              go : (b : Bool) → not b ≡ true → b ≡ false
              go true bad = absurd (cc)
              go false i = refl

          pointed-fine : (sig : CSignature) (r : Result Value ℕ) → Fine k r → ChosenFine (on_ok r (λ v. on_ok (function_number v) (λ f. Ok (by_its_pointer sig f))))
          pointed-fine sig (Ok (value.Number j z)) i = tt
          pointed-fine sig (Ok (value.Address q)) i = tt
          pointed-fine sig (Ok (value.Function f)) i = typed-fine sig (callee_numbered p.functions f) (program.numbered f (clean-number f i))
          pointed-fine sig (Err act) i = tt

          chosen-fine : (f : Called_by) (sig : CSignature) → checks.called_type f known.names ≡ Ok sig → checks.called_pointer f known.names ≡ fine
              → ChosenFine (chosen inside f scope s.memory)
          chosen-fine (by_name n) sig e pe = program.named n (go (bytes_eq n at_exit) refl)
            where
              known-as : (o : Option Meant) → checks.called_name o ≡ Ok sig → lookup known.names at_exit ≡ o → ⊥
              known-as None l is = absurd (cc)
              known-as (Some (a_function q)) l is = none q is
              known-as (Some (object t)) l is = absurd (cc)

              go : (b : Bool) → bytes_eq n at_exit ≡ b → b ≡ false
              go true is = absurd (known-as (lookup known.names n) e (sym (ap (lookup known.names) (same_bytes n at_exit is))))
              go false is = refl
          chosen-fine (by_pointer t x) sig e pe = go inside
            where
              one : Then (typed x known.names) (λ t. holds (is_function_pointer t) 3 0) tt
              one =
                  let pointed = λ (u : CType). holds (is_function_pointer u) 3 0 in
                  then-ok (typed x known.names) pointed tt (moved-ok (signature_marks t) (checked_then (typed x known.names) pointed) tt pe)

              go : (b : Bool) → ChosenFine (chosen b (by_pointer t x) scope s.memory)
              go true = tt
              go false = pointed-fine t (value_of x scope s.memory) (value-clean k some known.names scope s.memory apart h.memory x one.one one.is)

        back-calm : (at : Option Target) (r : Called) (w : World) → CalmCalled r → All CalmFlow (go_back at r w)
        back-calm None (Back v s) w h = h.0
        back-calm (Some at) (Back v s) w h = go v h.1
          where
            memory-fine : (r : Result Memory ℕ) → FineMemory k r → All CalmFlow (tried r w (λ m. Went (Falls (in_memory s m)) w))
            memory-fine (Ok m) l = calm-in s m h.0 l
            memory-fine (Err act) l = tt

            go : (v : Option Value) → FineGiven v → All CalmFlow (tried (on_ok (used v) (λ v. stored at v s.memory)) w (λ m. Went (Falls (in_memory s m)) w))
            go None l = tt
            go (Some v) l = memory-fine (stored at v s.memory)
                (stored-clean k some [] (λ n. None) s.memory (record { hidden = λ n f e same. absurd (cc) }) h.0.memory at v l)
        back-calm at (Gone z s) w h = h

        -- ---- calls

        record CallParts (sig : CSignature) (f : Called_by) (es : List Expression) (known : Known) : Type 0 where
          count : length sig.parameters ≡ length es
          pointed : checks.called_pointer f known.names ≡ fine
          passed : checks.arguments sig.parameters es known.names ≡ fine

        call-parts : (stored : Option CType) (sig : CSignature) (f : Called_by) (es : List Expression) (known : Known) → checks.calls stored sig f es known ≡ fine
            → CallParts sig f es known
        call-parts stored sig f es known e =
            let one : Checks = holds (checks.fits_stored stored sig.result) 4 0 in
            let two : Checks = holds (length sig.parameters == length es) 5 0 in
            let three : Checks = holds (not known.in_helper || checks.helper_may_call f) 9 0 in
            let four : Checks = holds (not (checks.calls_main f)) 10 0 in
            let five : Checks = checks.called_pointer f known.names in
            let six : Checks = moved (callee_marks f) (checks.arguments sig.parameters es known.names) in
            let behind_one : (two before three before four before five before six) ≡ fine = second one (two before three before four before five before six) tt e in
            let behind_two : (three before four before five before six) ≡ fine = second two (three before four before five before six) tt behind_one in
            let behind_three : (four before five before six) ≡ fine = second three (four before five before six) tt behind_two in
            let behind_four : (five before six) ≡ fine = second four (five before six) tt behind_three in
            let many = holding (length sig.parameters == length es) 5 0 (first two (three before four before five before six) tt behind_one) in
            record {
              count = grind (arith, nat_tests, many);
              pointed = first five six tt behind_four;
              passed = moved-ok (callee_marks f) (checks.arguments sig.parameters es known.names) tt (second five six tt behind_four);
            }

        call-calm : (f : Called_by) (place : Option Place) (es : List Expression) (scope : Scope) (depth : ℕ) (s : State) (w : World) (known : Known)
            → Apart k known.names scope → NoFunction known.names → checks.called place f es known ≡ fine → Calm s
            → All CalmFlow (call_to (λ c vs s w. called a helps p inside c vs depth s w) p.functions inside place f es scope s w)
        call-calm f place es scope depth s w known apart none e h =
            let typed_by = λ (o : Option CType). moved (target_marks place) (checked_then (checks.called_type f known.names) (λ sig. checks.calls o sig f es known)) in
            let x = then-ok (checks.stored_in place known.names) typed_by tt e in
            let by_type = λ (sig : CSignature). checks.calls x.one sig f es known in
            let y = then-ok (checks.called_type f known.names) by_type tt (moved-ok (target_marks place) (checked_then (checks.called_type f known.names) by_type) tt x.rest) in
            let parts = call-parts x.one y.one f es known y.rest in
            let named = chosen-fine scope known apart none s h f y.one y.is parts.pointed in
            let passed = arguments-clean scope known apart none s h y.one.parameters es parts.count parts.passed in
            all-tried CalmFlow (targeted place scope s.memory) w _ (λ at _.
            all-tried CalmFlow (chosen inside f scope s.memory) w _ (λ chosen is.
            all-tried CalmFlow (values_of es scope s.memory) w _ (λ vs are.
            all-tried CalmFlow (callee_of p.functions chosen) w _ (λ c there.
            all-then CalmCalled CalmFlow (called a helps p inside c vs depth s w) _
            (called-calm c (subst (FoundFine p) there (subst (ChosenFine scope known apart none s h) is named)) inside vs (subst (FineValues k) are passed) depth s w h)
            (λ r v l. back-calm at r v l)))))

        memory-goes : (s : State) (r : Result Memory ℕ) (w : World) → Calm s → FineMemory k r → All CalmFlow (tried r w (λ m. Went (Falls (in_memory s m)) w))
        memory-goes s (Ok m) w h l = calm-in s m h l
        memory-goes s (Err act) w h l = tt

        given-fine : (e : Option Expression) (scope : Scope) (known : Known) → Apart k known.names scope → checks.given e known ≡ fine → (s : State) (w : World) → Calm s
            → All CalmFlow (tried (given e scope s.memory) w (λ v. Went (Returns v s) w))
        given-fine None scope known apart e s w h = (h, tt)
        given-fine (Some x) scope known apart e s w h =
            let fits = λ (t : CType). holds (checks.fits_given known.result t (is_zero x)) 6 0 in
            let rest = second (holds (is_some known.result) 6 0) (checked_then (moved 1 (typed x known.names)) fits) tt e in
            let one = then-ok (moved 1 (typed x known.names)) fits tt rest in
            go (value_of x scope s.memory) (value-clean k some known.names scope s.memory apart h.memory x one.one (moved-ok 1 (typed x known.names) one.one one.is))
          where
            go : (r : Result Value ℕ) → Fine k r → All CalmFlow (tried (on_ok r (λ v. Ok (Some v))) w (λ v. Went (Returns v s) w))
            go (Ok v) l = (h, l)
            go (Err act) l = tt

        mutual
          pub does-calm : (st : Statement) (scope : Scope) (depth : ℕ) (s : State) (w : World) (known : Known) → Apart k known.names scope → NoFunction known.names
              → checked st known ≡ fine → Calm s → All CalmFlow (does a helps p inside st scope depth s w)
          does-calm (assign place e) scope depth s w known apart none c h =
              let by_place = λ (t : CType). moved (place_marks place) (checks.assigned t e known.names) in
              let x = then-ok (typed_target place known.names) by_place tt c in
              let by_type = λ (t : CType). holds (fits_type x.one t (is_zero e)) 4 0 in
              let y = then-ok (typed e known.names) by_type tt (moved-ok (place_marks place) (checked_then (typed e known.names) by_type) tt x.rest) in
              memory-goes s (assigned place e scope s.memory) w h (assigned-clean k some known.names scope s.memory apart h.memory place e y.one y.is)
          does-calm (call place f es) scope depth s w known apart none c h = call-calm f place es scope depth s w known apart none c h
          does-calm (block b) scope depth s w known apart none c h = body-calm b scope depth s w known apart none c h
          does-calm leave scope depth s w known apart none c h = h
          does-calm next scope depth s w known apart none c h = h
          does-calm (choose e b other) scope depth s w known apart none c h =
              let one : Checks = moved 1 (checks.condition e known.names) in
              let two : Checks = moved (1 + marks e) (checked_body b known) in
              let three : Checks = moved (1 + (marks e + body_marks b)) (checked_body other known) in
              let rest = second one (two before three) tt c in
              let this = moved-ok (1 + marks e) (checked_body b known) tt (first two three tt rest) in
              let that = moved-ok (1 + (marks e + body_marks b)) (checked_body other known) tt (second two three tt rest) in
              all-tried CalmFlow (integer_of e scope s.memory) w _ (λ z _.
              all-if CalmFlow (is_true z) _ _ (body-calm b scope depth s w known apart none this h) (body-calm other scope depth s w known apart none that h))
          does-calm (loop b) scope depth s w known apart none c h =
              all-spend CalmFlow w.ticks w _ (λ v.
              all-then CalmFlow CalmFlow (does_body a helps p inside b scope depth s v) _
              (body-calm b scope depth s v (in_a_loop known) apart none (moved-ok 1 (checked_body b (in_a_loop known)) tt c) h)
              (λ flow u l. calm-turning (λ s w. a inside (loop b) scope depth s w) (λ s w i. again inside (loop b) scope depth s w known apart none c i) flow u l))
          does-calm (select e items) scope depth s w known apart none c h =
              let one : Checks = moved 1 (checks.condition e known.names) in
              let two : Checks = moved (1 + marks e) (checked_switch items no_labels (in_a_switch known)) in
              let inner = moved-ok (1 + marks e) (checked_switch items no_labels (in_a_switch known)) tt (second one two tt c) in
              all-tried CalmFlow (integer_of e scope s.memory) w _ (λ z _.
              all-then CalmFlow CalmFlow (does_from a helps p inside (wanted (bits_of 32 z) items) items scope depth s w) _
              (from-calm (wanted (bits_of 32 z) items) items scope depth s w no_labels (in_a_switch known) apart none inner h) (λ flow v l. calm-switching flow l))
          does-calm (give e) scope depth s w known apart none c h = given-fine e scope known apart c s w h

          body-calm : (b : Body) (scope : Scope) (depth : ℕ) (s : State) (w : World) (known : Known) → Apart k known.names scope → NoFunction known.names
              → checked_body b known ≡ fine → Calm s → All CalmFlow (does_body a helps p inside b scope depth s w)
          body-calm (body locals all) scope depth s w known apart none c h =
              let inner = moved (locals_marks locals) (checked_statements all (with_locals locals known)) in
              let stated = moved-ok (locals_marks locals) (checked_statements all (with_locals locals known)) tt (second (checked_locals locals []) inner tt c) in
              all-then CalmFlow CalmFlow (does_all a helps p inside all (bind_locals locals s.memory.next scope) depth (in_memory s (born_locals locals s.memory)) w) _
              (all-calm all (bind_locals locals s.memory.next scope) depth (in_memory s (born_locals locals s.memory)) w (with_locals locals known)
              (record {
                hidden = λ n g e same.
                    let b = locals-before locals s.memory.next scope n g e in unknown-both n (locals_named locals) known.names b.unknown (apart.hidden n g b.earlier same);
              })
              (none-locals locals known.names none) stated (calm-in s (born_locals locals s.memory) h (clean-locals locals s.memory h.memory)))
              (λ flow v l. calm-ending (length locals) s.memory.next flow l)

          all-calm : (all : Statements) (scope : Scope) (depth : ℕ) (s : State) (w : World) (known : Known) → Apart k known.names scope → NoFunction known.names
              → checked_statements all known ≡ fine → Calm s → All CalmFlow (does_all a helps p inside all scope depth s w)
          all-calm done scope depth s w known apart none c h = h
          all-calm (followed st rest) scope depth s w known apart none c h =
              let behind : Checks = moved (statement_marks st) (checked_statements rest known) in
              let this = first (checked st known) behind tt c in
              let that = moved-ok (statement_marks st) (checked_statements rest known) tt (second (checked st known) behind tt c) in
              all-then CalmFlow CalmFlow (does a helps p inside st scope depth s w) _ (does-calm st scope depth s w known apart none this h)
              (λ flow v l. calm-falling (λ s w. does_all a helps p inside rest scope depth s w) (λ s u i. all-calm rest scope depth s u known apart none that i) flow v l)

          from-calm : (label : Option ℕ) (items : SwitchItems) (scope : Scope) (depth : ℕ) (s : State) (w : World) (ls : Labels) (known : Known) → Apart k known.names scope
              → NoFunction known.names → checked_switch items ls known ≡ fine → Calm s → All CalmFlow (does_from a helps p inside label items scope depth s w)
          from-calm label closed scope depth s w ls known apart none c h = h
          from-calm label (labelled x rest) scope depth s w ls known apart none c h =
              let behind = labelled-behind x rest ls known c in
              all-if CalmFlow (is_wanted label x) _ _ (items-calm rest scope depth s w (record ls { cases = label_of x ∷ ls.cases }) known apart none behind h)
              (from-calm label rest scope depth s w (record ls { cases = label_of x ∷ ls.cases }) known apart none behind h)
          from-calm None (otherwise rest) scope depth s w ls known apart none c h = items-calm rest scope depth s w (record ls { has_default = true }) known apart none (otherwise-behind rest ls known c) h
          from-calm (Some bits) (otherwise rest) scope depth s w ls known apart none c h =
              from-calm (Some bits) rest scope depth s w (record ls { has_default = true }) known apart none (otherwise-behind rest ls known c) h
          from-calm label (stated st rest) scope depth s w ls known apart none c h =
              from-calm label rest scope depth s w ls known apart none (stated-behind st rest ls known c) h

          items-calm : (items : SwitchItems) (scope : Scope) (depth : ℕ) (s : State) (w : World) (ls : Labels) (known : Known) → Apart k known.names scope
              → NoFunction known.names → checked_switch items ls known ≡ fine → Calm s → All CalmFlow (does_items a helps p inside items scope depth s w)
          items-calm closed scope depth s w ls known apart none c h = h
          items-calm (labelled x rest) scope depth s w ls known apart none c h = items-calm rest scope depth s w (record ls { cases = label_of x ∷ ls.cases }) known apart none (labelled-behind x rest ls known c) h
          items-calm (otherwise rest) scope depth s w ls known apart none c h = items-calm rest scope depth s w (record ls { has_default = true }) known apart none (otherwise-behind rest ls known c) h
          items-calm (stated st rest) scope depth s w ls known apart none c h =
              let this = first (checked st known) (moved (statement_marks st) (checked_switch rest ls known)) tt c in
              all-then CalmFlow CalmFlow (does a helps p inside st scope depth s w) _ (does-calm st scope depth s w known apart none this h)
              (λ flow v l. calm-falling (λ s w. does_items a helps p inside rest scope depth s w)
              (λ s u i. items-calm rest scope depth s u ls known apart none (stated-behind st rest ls known c) i) flow v l)

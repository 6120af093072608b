-- Actions that compare two pointers, or take their difference.
use Rattle.std.proofs.Common.{◌≡◌, ℕ, ◌+◌, ◌*◌, ◌≤◌, ◌<◌, nat_lt, nat_le, Bool, true, false, not, ◌&&◌, ◌==◌, if◌then◌else◌, refl, sym, ◌∙◌, ap, subst, arith, inl, inr}
use Rattle.std.specs.Prelude.{ℤ, pos, ◌-ℤ◌, Some, Result, Ok, Err}
use Rattle.std.proofs.lemmas.Bool.Decides.{nat_tests}
use Rattle.cf_base.specs.declared.kind.Kind.TheVariants.{Int}
use Rattle.cf_base.specs.declared.arith.Arith.{Arith}
use Rattle.cf_base.specs.declared.arith.Arith.TheVariants as op
use Rattle.cf_base.specs.Integers.{convert, truth, int_op, ranged}
use Rattle.cf_base.proofs.Tests.{both}
use Rattle.cf_base.specs.World.{World}
use Rattle.cf_core.specs.Types.{Name, SourceType}
use Rattle.cf_core.specs.Store as source
use Rattle.cf_core.specs.Calls.{Program}
use Rattle.cf_core.specs.declared.operators.PointerOperator.TheVariants as pointer_operator
use Rattle.cf_core.specs.Types.{void}
use Rattle.cf_core.specs.Places.{Place, place_eq}
use Rattle.cf_core.specs.Pointers.{element_of, truth_value, both_stand, both_there, same_array, difference_of, ordered, comparable, equal_values}
use Rattle.cf_core.specs.Size.{size}
use Rattle.cf_core.specs.Store.{is_dead}
use Rattle.cf_core.specs.Run.{State, ◌>>=◌, ◌>>◌, gives, need}
use Rattle.cf_core.specs.Calls as core
use Rattle.cf_lower_layout.specs.Sorts.{address, code}
use Rattle.cf_lower_layout.proofs.Laid.{laid-at}
use Rattle.cf_plain.specs.Plain as plain
use Rattle.cf_plain.specs.Plain.{Register}
use Rattle.cf_plain.specs.Acts.{Registers, acts, used_in}
use Rattle.cc_whole.specs.Plain.{Expression, binary, constant}
use Rattle.cc_whole_memory.specs.declared.value.Pointer.{Pointer}
use Rattle.cc_whole_memory.specs.declared.value.Pointer.TheVariants as pointer
use Rattle.cc_whole_memory.specs.declared.value.Value.{Value}
use Rattle.cc_whole_memory.specs.declared.value.Value.TheVariants as value
use Rattle.cc_whole_memory.specs.Blocks.{Memory, on_ok, different_blocks}
use Rattle.cc_whole_memory.specs.Pointers.{if_live, of_offsets, of_pointers, same_pointer}
use Rattle.cc_whole_mean.specs.Scope.{Scope}
use Rattle.cc_whole_mean.specs.Values as c
use Rattle.cc_whole_mean.specs.Values.{value_of, number, applied, by_equality}
use Rattle.cf_lower_relate.specs.Map.{Map, IsSome, Numbered, offset_of, pointer_to, type_of_place}
use Rattle.cf_lower_relate.specs.Relation.{Rel}
use Rattle.cf_lower_relate.proofs.Comparisons.{Standing, Elements, elements, same-pointers}
use Rattle.cf_lower_relate.proofs.Counts.{less-bytes, at-most-bytes, differences, ranged-fits, fits-pos}
use Rattle.cf_lower_relate.proofs.Words.{convert-same}
use Rattle.cf_lower.specs.Kept.{holds, a_truth, of_kind, Keeping}
use Rattle.cf_lower.specs.Written.{int_constant}
use Rattle.cf_lower.specs.Expressions.{zero as nought, in_register, address_in}
use Rattle.cf_lower_steps.specs.Steps.{HasValue, GivenAs, InRegisters, Step}
use Rattle.cf_lower_steps.proofs.Operators.{of-kind, integer-kept}
use Rattle.cf_lower_steps.proofs.Values.{K, step-need, step-used}
use Rattle.cf_lower_pointers.proofs.Answers.{truth-number, truth-kept, Equality, Sameness}
use Rattle.cf_lower_pointers.proofs.Moved.{AtPlace, at-place, not-dead-stands, pointed-size}
use Rattle.cf_lower_pointers.proofs.Operands.{value-held, two-step}
use Rattle.cf_lower_pointers.specs.Sets.{OneIsNull}

not-false : (b : Bool) → not b ≡ true → b ≡ false
not-false true h = absurd (cc)
not-false false h = refl

number-same : (i j : ℕ) → i ≡ j → i == j ≡ true
number-same i j e = grind (arith, nat_tests, e)

unlike-null : (x : Pointer) → IsSome x → same_pointer x pointer.Null ≡ false
unlike-null pointer.Null h = absurd h
unlike-null (pointer.At b q) h = refl

null-unlike : (x : Pointer) → IsSome x → same_pointer pointer.Null x ≡ false
null-unlike pointer.Null h = absurd h
null-unlike (pointer.At b q) h = refl

-- how the C orders offsets, and the source the numbers of elements
pub record Orders (o : Arith) (less : ℕ → ℕ → Bool) : Type 0 where
  pub not_equality : c.is_equality o ≡ false
  pub by : (i j : ℕ) → of_offsets o i j ≡ truth (less i j)
  pub bytes : (a i j n : ℕ) → 0 < n → less (a + i * n) (a + j * n) ≡ less i j

pub less : Orders op.Less nat_lt
less = record { not_equality = refl; by = λ i j. refl; bytes = less-bytes }

pub greater : Orders op.Greater (λ i j. nat_lt j i)
greater = record { not_equality = refl; by = λ i j. refl; bytes = λ a i j n some. less-bytes a j i n some }

pub less-equal : Orders op.LessEqual nat_le
less-equal = record { not_equality = refl; by = λ i j. refl; bytes = at-most-bytes }

pub greater-equal : Orders op.GreaterEqual (λ i j. nat_le j i)
greater-equal = record { not_equality = refl; by = λ i j. refl; bytes = λ a i j n some. at-most-bytes a j i n some }

module _ (P : Program) (function : Name → ℕ) (signature : Name → SourceType) (F : Map) (s : State) (m : Memory)
    (rel : Rel (K P function signature F) F s m) (w : World) (scope : Scope) where
  standing : (p : Place) (found : Result Value ℕ) → AtPlace P function signature F p found → Standing (K P function signature F) F s m rel p
  standing p found at = record { known = at.known; live = at.live; inside = at.inside }

  -- two pointers, where both stand
  pub record Both (p q : Place) (one two : Result Value ℕ) : Type 0 where
    pub first : AtPlace P function signature F p one
    pub second : AtPlace P function signature F q two

  both-there : (t u : SourceType) (p q : Place) (one two : Result Value ℕ) → HasValue (K P function signature F) F (holds (address t)) (source.At p) one
      → HasValue (K P function signature F) F (holds (address u)) (source.At q) two → both_stand P.classes s p q ≡ true → Both p q one two
  both-there t u p q one two hp hq h =
      let parts = both (not (is_dead P.classes (s.object p.object) p.route)) (not (is_dead P.classes (s.object q.object) q.route)) h in
      record {
        first = at-place P function signature F s m rel w scope t p one hp (not-dead-stands P.classes (s.object p.object) p.route (not-false _ parts.0));
        second = at-place P function signature F s m rel w scope u q two hq (not-dead-stands P.classes (s.object q.object) q.route (not-false _ parts.1));
      }

  -- and where the storage of both is there
  both-in : (t u : SourceType) (p q : Place) (one two : Result Value ℕ) → HasValue (K P function signature F) F (holds (address t)) (source.At p) one
      → HasValue (K P function signature F) F (holds (address u)) (source.At q) two → both_there s p q ≡ true → Both p q one two
  both-in t u p q one two hp hq h =
      let parts = both (not (s.object p.object).is_gone) (not (s.object q.object).is_gone) h in
      record {
        first = at-place P function signature F s m rel w scope t p one hp (not-false _ parts.0);
        second = at-place P function signature F s m rel w scope u q two hq (not-false _ parts.1);
      }

  -- the offsets of two elements of one array
  in-one : (o : Arith) (p q : Place) (one two : Result Value ℕ) (at : Both p q one two)
      (e : Elements (K P function signature F) F s m rel p q (standing p one at.first) (standing q two at.second))
      → of_pointers o (pointer_to (K P function signature F) F p) (pointer_to (K P function signature F) F q) m
      ≡ of_offsets o (e.start + (element_of p.route).index * size P.classes (type_of_place (K P function signature F) F p))
      (e.start + (element_of q.route).index * size P.classes (type_of_place (K P function signature F) F p))
  in-one o p q one two at e =
      ap (λ b. if b then if_live (m.block (F.block p.object)) (of_offsets o (offset_of (K P function signature F) F p) (offset_of (K P function signature F) F q)) else Err different_blocks)
      (number-same (F.block p.object) (F.block q.object) e.block)
      ∙ ap (λ x. if_live x (of_offsets o (offset_of (K P function signature F) F p) (offset_of (K P function signature F) F q)))
      (rel.stands p.object at.first.known at.first.live).there
      ∙ ap (λ i. of_offsets o i (offset_of (K P function signature F) F q)) e.first
      ∙ ap (λ j. of_offsets o (e.start + (element_of p.route).index * size P.classes (type_of_place (K P function signature F) F p)) j) e.second

  module _ (again : core.Again) (kept : Keeping) (g : Registers) (regs : InRegisters (K P function signature F) F kept g scope m)
      (r q : Register) (t u : SourceType) (kr : kept r ≡ holds (address t)) (kq : kept q ≡ holds (address u)) where
    abbrev Left : source.Value → Type 0
    Left v = HasValue (K P function signature F) F (holds (address t)) v (value_of (in_register (address t) r) scope m)

    abbrev Right : source.Value → Type 0
    Right v = HasValue (K P function signature F) F (holds (address u)) v (value_of (in_register (address u) q) scope m)

    abbrev compared : Arith → Result Value ℕ
    compared o = value_of (binary o (in_register (address t) r) (in_register (address u) q)) scope m

    applied-there : (o : Arith) (x y : Value) → value_of (in_register (address t) r) scope m ≡ Ok x → value_of (in_register (address u) q) scope m ≡ Ok y
        → compared o ≡ applied o x y m
    applied-there o x y hx hy =
        ap (λ a. on_ok a (λ x. on_ok (value_of (in_register (address u) q) scope m) (λ y. applied o x y m))) hx
        ∙ ap (λ a. on_ok a (λ y. applied o x y m)) hy

    -- `<` and the like
    pub ordered-step : (o : Arith) (less : ℕ → ℕ → Bool) → Orders o less
        → Step (K P function signature F) F ((used_in g r >>= (λ x. used_in g q >>= (λ y. ordered P.classes less x y))) s w) s w a_truth (compared o)
    ordered-step o less by =
        two-step P function signature F s m w scope kept g regs a_truth (compared o) r q (holds (address t)) (holds (address u)) (address t) (address u)
        (ordered P.classes less) kr refl kq refl of-values
      where
        of-places : (p q' : Place) → Left (source.At p) → Right (source.At q') → both_stand P.classes s p q' ≡ true → same_array p q' ≡ true
            → GivenAs (K P function signature F) F a_truth (truth_value (less (element_of p.route).index (element_of q'.route).index)) (compared o)
        of-places p q' hp hq stand same =
            let at = both-there t u p q' _ _ hp hq stand in
            let e = elements (K P function signature F) F s m rel p q' (standing p _ at.first) (standing q' _ at.second) same in
            truth-kept (K P function signature F) F (less (element_of p.route).index (element_of q'.route).index) (compared o)
            (applied-there o _ _ at.first.is at.second.is
            ∙ ap (λ b. if b then by_equality o (same_pointer (pointer_to (K P function signature F) F p) (pointer_to (K P function signature F) F q'))
            else number Int (of_pointers o (pointer_to (K P function signature F) F p) (pointer_to (K P function signature F) F q') m)) by.not_equality
            ∙ ap (number Int) (in-one o p q' _ _ at e ∙ by.by _ _)
            ∙ ap (λ b. number Int (truth b)) (by.bytes e.start (element_of p.route).index (element_of q'.route).index _ e.some)
            ∙ truth-number (less (element_of p.route).index (element_of q'.route).index))

        of-values : (v x : source.Value) → Left v → Right x → Step (K P function signature F) F (ordered P.classes less v x s w) s w a_truth (compared o)
        of-values (source.At p) (source.At q') hp hq =
            step-need P function signature F s w a_truth (compared o) (both_stand P.classes s p q') 10 _ (λ stand.
            step-need P function signature F s w a_truth (compared o) (same_array p q') 10 _ (λ same. record { by = (refl, refl, of-places p q' hp hq stand same) }))
        of-values (source.At p) source.Null hp hq = record { by = refl }
        of-values source.Null source.Null hp hq = record { by = refl }
        of-values source.Null (source.At q') hp hq = record { by = refl }
        of-values (source.At p) x hp hq = absurd hq.same
        of-values source.Null x hp hq = absurd hq.same
        of-values v x hp hq = absurd hp.same

    -- `==` and `!=`
    pub equal-step : (o : Arith) (turn : Bool → Bool) → Equality o turn
        → Step (K P function signature F) F ((used_in g r >>= (λ x. used_in g q >>= (λ y. equal_values P.classes x y >>= (λ b. gives (truth_value (turn b)))))) s w)
        s w a_truth (compared o)
    equal-step o turn by =
        two-step P function signature F s m w scope kept g regs a_truth (compared o) r q (holds (address t)) (holds (address u)) (address t) (address u)
        (λ x y. equal_values P.classes x y >>= (λ b. gives (truth_value (turn b)))) kr refl kq refl of-values
      where
        -- what the C gives of two pointers
        of-pointers : (x y : Pointer) (b : Bool) → value_of (in_register (address t) r) scope m ≡ Ok (value.Address x)
            → value_of (in_register (address u) q) scope m ≡ Ok (value.Address y) → same_pointer x y ≡ b
            → GivenAs (K P function signature F) F a_truth (truth_value (turn b)) (compared o)
        of-pointers x y b hx hy same =
            truth-kept (K P function signature F) F (turn b) (compared o)
            (applied-there o (value.Address x) (value.Address y) hx hy
            ∙ ap (λ e. if e then by_equality o (same_pointer x y) else number Int (of_pointers o x y m)) by.is
            ∙ ap (by_equality o) same ∙ by.by b)

        of-places : (p q' : Place) → Left (source.At p) → Right (source.At q') → both_stand P.classes s p q' ≡ true → comparable P.classes s p q' ≡ true
            → GivenAs (K P function signature F) F a_truth (truth_value (turn (place_eq p q'))) (compared o)
        of-places p q' hp hq stand fit =
            let at = both-there t u p q' _ _ hp hq stand in
            of-pointers (pointer_to (K P function signature F) F p) (pointer_to (K P function signature F) F q') (place_eq p q') at.first.is at.second.is
            (same-pointers (K P function signature F) F s m rel p q' (standing p _ at.first) (standing q' _ at.second) fit)

        of-values : (v x : source.Value) → Left v → Right x
            → Step (K P function signature F) F ((equal_values P.classes v x >>= (λ b. gives (truth_value (turn b)))) s w) s w a_truth (compared o)
        of-values (source.At p) (source.At q') hp hq = by_tests (both_stand P.classes s p q') (comparable P.classes s p q') refl refl
          where
            by_tests : (a b : Bool) → both_stand P.classes s p q' ≡ a → comparable P.classes s p q' ≡ b
                → Step (K P function signature F) F
                (((need a 10 >> (need b 10 >> gives (place_eq p q'))) >>= (λ b. gives (truth_value (turn b)))) s w)
                s w a_truth (compared o)
            by_tests true true stand fit = record { by = (refl, refl, of-places p q' hp hq stand fit) }
            by_tests true false stand fit = record { by = refl }
            by_tests false b stand fit = record { by = refl }
        of-values source.Null source.Null hp hq =
            record { by = (refl, refl, of-pointers pointer.Null pointer.Null true (hp.is ∙ ap (λ (y : Value). Ok y) hp.same) (hq.is ∙ ap (λ (y : Value). Ok y) hq.same) refl) }
        of-values source.Null (source.At q') hp hq = record {
          by = (
            refl,
            refl,
            of-pointers pointer.Null hq.same.pointer false (hp.is ∙ ap (λ (y : Value). Ok y) hp.same) (hq.is ∙ ap (λ (y : Value). Ok y) hq.same.is)
                (null-unlike hq.same.pointer hq.same.some),
          );
        }
        of-values (source.At p) source.Null hp hq = record {
          by = (
            refl,
            refl,
            of-pointers hp.same.pointer pointer.Null false (hp.is ∙ ap (λ (y : Value). Ok y) hp.same.is) (hq.is ∙ ap (λ (y : Value). Ok y) hq.same)
                (unlike-null hp.same.pointer hp.same.some),
          );
        }
        of-values (source.At p) x hp hq = absurd hq.same
        of-values source.Null x hp hq = absurd hq.same
        of-values v x hp hq = absurd hp.same

    -- the difference, in elements
    module _ (no_void : t ≡ void → ⊥) where
      abbrev difference : Result Value ℕ
      difference = value_of (binary op.Divide (binary op.Subtract (in_register (address t) r) (in_register (address u) q)) (constant (int_constant (size P.classes t)))) scope m

      apart : (p q' : Place) → Left (source.At p) → Right (source.At q') → both_there s p q' ≡ true → same_array p q' ≡ true
          → GivenAs (K P function signature F) F (of_kind Int) (source.Number (pos (element_of p.route).index -ℤ pos (element_of q'.route).index)) difference
      apart p q' hp hq there same =
          let at = both-in t u p q' _ _ hp hq there in
          let e = elements (K P function signature F) F s m rel p q' (standing p _ at.first) (standing q' _ at.second) same in
          let n = size P.classes (type_of_place (K P function signature F) F p) in
          let d = differences e.start (element_of p.route).index (element_of q'.route).index n e.some e.first_fits e.second_fits in
          let sizes = pointed-size P function signature F s m rel w scope t p hp.value no_void hp.same in
          let small = (laid-at P.classes (F.type p.object) (rel.laid p.object at.first.known) p.route at.first.inside).small in
          let bytes = pos (e.start + (element_of p.route).index * n) -ℤ pos (e.start + (element_of q'.route).index * n) in
          integer-kept P function signature F (of_kind Int) (pos (element_of p.route).index -ℤ pos (element_of q'.route).index) difference
          (of-kind Int (pos (element_of p.route).index -ℤ pos (element_of q'.route).index) d.number)
          (ap (λ a. on_ok a (λ x. applied op.Divide x (value.Number Int (pos (size P.classes t))) m))
          (applied-there op.Subtract _ _ at.first.is at.second.is ∙ ap (number Int) (in-one op.Subtract p q' _ _ at e ∙ ranged-fits bytes d.fit))
          ∙ ap (λ k. number Int (int_op op.Divide Int (convert Int bytes) (convert Int (pos k)))) sizes
          ∙ ap (λ x. number Int (int_op op.Divide Int x (convert Int (pos n)))) (convert-same Int bytes d.fit)
          ∙ ap (λ x. number Int (int_op op.Divide Int bytes x)) (convert-same Int (pos n) (fits-pos n small))
          ∙ ap (number Int) d.divided
          ∙ ap (λ z. Ok (value.Number Int z)) (sym (convert-same Int (pos (element_of p.route).index -ℤ pos (element_of q'.route).index) d.number)))

      pub difference-step : Step (K P function signature F) F (acts again P g (plain.pointer_operate pointer_operator.Difference r q) s w) s w (of_kind Int) difference
      difference-step =
          two-step P function signature F s m w scope kept g regs (of_kind Int) difference r q (holds (address t)) (holds (address u)) (address t) (address u)
          difference_of kr refl kq refl of-values
        where
          of-values : (v x : source.Value) → Left v → Right x → Step (K P function signature F) F (difference_of v x s w) s w (of_kind Int) difference
          of-values (source.At p) (source.At q') hp hq =
              step-need P function signature F s w (of_kind Int) difference (both_there s p q') 5 _ (λ there.
              step-need P function signature F s w (of_kind Int) difference (same_array p q') 6 _ (λ same. record { by = (refl, refl, apart p q' hp hq there same) }))
          of-values (source.At p) source.Null hp hq = record { by = refl }
          of-values source.Null source.Null hp hq = record { by = refl }
          of-values source.Null (source.At q') hp hq = record { by = refl }
          of-values (source.At p) x hp hq = absurd hq.same
          of-values source.Null x hp hq = absurd hq.same
          of-values v x hp hq = absurd hp.same

  -- ---- pointers to functions, of which one is null

  module _ (numbered : Numbered (K P function signature F)) (again : core.Again) (kept : Keeping) (g : Registers)
      (regs : InRegisters (K P function signature F) F kept g scope m) (r q : Register) (t u : SourceType) (kr : kept r ≡ holds (code t)) (kq : kept q ≡ holds (code u))
      (one : OneIsNull g r q) where
    abbrev is_null : Expression → Expression
    is_null e = binary op.Equal e nought

    abbrev same_code : Arith → Result Value ℕ
    same_code o = value_of (binary o (is_null (in_register (code t) r)) (is_null (in_register (code u) q))) scope m

    abbrev LeftCode : source.Value → Type 0
    LeftCode v = HasValue (K P function signature F) F (holds (code t)) v (value_of (in_register (code t) r) scope m)

    abbrev RightCode : source.Value → Type 0
    RightCode v = HasValue (K P function signature F) F (holds (code u)) v (value_of (in_register (code u) q) scope m)

    is-none : (e : Expression) (i : ℕ) (b : Bool) → value_of e scope m ≡ Ok (value.Function i) → i == 0 ≡ b → value_of (is_null e) scope m ≡ Ok (c.truth_value b)
    is-none e i b h same = ap (λ a. on_ok a (λ x. applied op.Equal x (value.Number Int (pos 0)) m)) h ∙ ap (by_equality op.Equal) same

    -- what the C gives, by whether each is null
    by-nulls : (o : Arith) (i j : ℕ) (a b d : Bool) → value_of (in_register (code t) r) scope m ≡ Ok (value.Function i)
        → value_of (in_register (code u) q) scope m ≡ Ok (value.Function j) → i == 0 ≡ a → j == 0 ≡ b
        → applied o (c.truth_value a) (c.truth_value b) m ≡ Ok (c.truth_value d)
        → GivenAs (K P function signature F) F a_truth (truth_value d) (same_code o)
    by-nulls o i j a b d hx hy ha hb same =
        truth-kept (K P function signature F) F d (same_code o)
        (ap (λ x. on_ok x (λ x. on_ok (value_of (is_null (in_register (code u) q)) scope m) (λ y. applied o x y m))) (is-none (in_register (code t) r) i a hx ha)
        ∙ ap (λ y. on_ok y (λ y. applied o (c.truth_value a) y m)) (is-none (in_register (code u) q) j b hy hb) ∙ same)

    pub code-step : (o : Arith) (turn : Bool → Bool) → Sameness o turn
        → Step (K P function signature F) F ((used_in g r >>= (λ x. used_in g q >>= (λ y. equal_values P.classes x y >>= (λ b. gives (truth_value (turn b)))))) s w)
        s w a_truth (same_code o)
    code-step o turn by =
        step-used P function signature F s w a_truth (same_code o) g r (λ x. used_in g q >>= (λ y. equal_values P.classes x y >>= (λ b. gives (truth_value (turn b)))))
        (λ v iv uv.
        step-used P function signature F s w a_truth (same_code o) g q (λ y. equal_values P.classes v y >>= (λ b. gives (truth_value (turn b))))
        (λ x ix ux. of-values v x iv ix (value-held P function signature F s m w scope kept g regs r (holds (code t)) (code t) v kr refl iv uv)
        (value-held P function signature F s m w scope kept g regs q (holds (code u)) (code u) x kq refl ix ux)))
      where
        not-null : (f h : Name) → g r ≡ Some (source.Code f) → g q ≡ Some (source.Code h) → OneIsNull g r q → ⊥
        not-null f h iv ix (inl e) = absurd (cc)
        not-null f h iv ix (inr e) = absurd (cc)

        of-values : (v x : source.Value) → g r ≡ Some v → g q ≡ Some x → LeftCode v → RightCode x
            → Step (K P function signature F) F ((equal_values P.classes v x >>= (λ b. gives (truth_value (turn b)))) s w) s w a_truth (same_code o)
        of-values (source.Code f) (source.Code h) iv ix hp hq = absurd (not-null f h iv ix one)
        of-values source.Null source.Null iv ix hp hq = record {
          by = (
            refl,
            refl,
            by-nulls o 0 0 true true (turn true) (hp.is ∙ ap (λ (y : Value). Ok y) hp.same) (hq.is ∙ ap (λ (y : Value). Ok y) hq.same) refl refl (by.both m),
          );
        }
        of-values source.Null (source.Code h) iv ix hp hq = record {
          by = (
            refl,
            refl,
            by-nulls o 0 (function h) true false (turn false) (hp.is ∙ ap (λ (y : Value). Ok y) hp.same) (hq.is ∙ ap (λ (y : Value). Ok y) hq.same.is) refl
                (numbered.some h hq.same.known) (by.first m),
          );
        }
        of-values (source.Code f) source.Null iv ix hp hq = record {
          by = (
            refl,
            refl,
            by-nulls o (function f) 0 false true (turn false) (hp.is ∙ ap (λ (y : Value). Ok y) hp.same.is) (hq.is ∙ ap (λ (y : Value). Ok y) hq.same)
                (numbered.some f hp.same.known) refl (by.second m),
          );
        }
        of-values (source.Code f) x iv ix hp hq = absurd hq.same
        of-values source.Null x iv ix hp hq = absurd hq.same
        of-values v x iv ix hp hq = absurd hp.same

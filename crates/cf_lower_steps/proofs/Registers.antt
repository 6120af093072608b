-- A register is set in both, and objects are written without touching registers.
use Rattle.std.proofs.Common.{◌≡◌, ℕ, zero, suc, ◌+◌, ◌≤◌, ◌<◌, nat_le, Bool, true, false, ◌==◌, if◌then◌else◌, refl, sym, ◌∙◌, ap, subst, arith}
use Rattle.std.specs.Prelude.{Option, Some, None, Result, Ok, Err}
use Rattle.std.proofs.lemmas.Bool.Decides.{nat_tests}
use Rattle.cf_base.specs.declared.kind.Kind.TheVariants.{Int}
use Rattle.cf_core.specs.Store as source
use Rattle.cf_core.specs.Run.{State}
use Rattle.cf_lower_layout.specs.Sorts.{Sort, number, address, code}
use Rattle.cf_plain.specs.Plain.{Register}
use Rattle.cf_plain.specs.Acts.{Registers}
use Rattle.cf_plain.specs.Running.{keep as keep_value}
use Rattle.cc_whole.specs.Plain.{Expression, named}
use Rattle.cc_whole_memory.specs.declared.value.Pointer.TheVariants as pointer
use Rattle.cc_whole_memory.specs.declared.value.Value.{Value}
use Rattle.cc_whole_memory.specs.declared.value.Value.TheVariants as value
use Rattle.cc_whole_memory.specs.declared.value.Scalar.{Scalar}
use Rattle.cc_whole_memory.specs.declared.value.Scalar.TheVariants as scalar
use Rattle.cc_whole.specs.declared.types.CType.TheVariants as ty
use Rattle.cc_whole_memory.specs.Values.{bytes_of, type_of, size_of, as_scalar}
use Rattle.cc_whole_memory.specs.Cells.{put, load}
use Rattle.cc_whole_memory.specs.Blocks as blocks
use Rattle.cc_whole_memory.specs.Blocks.{Block, Memory, put_block, inside, reached, on_ok, value_or_act, read, write, with_cells}
use Rattle.cc_whole_mean.specs.Scope.{Scope}
use Rattle.cc_whole_mean.specs.Types.{scalar_of}
use Rattle.cc_whole_mean.specs.Values.{value_of, typed, fitted, named_value, variable_target, assigned, assigned_to, by_source, source_of, stored}
use Rattle.cf_lower_relate.specs.Map.{Fixed, Map}
use Rattle.cf_lower_relate.specs.Relation.{Rel}
use Rattle.cf_lower_relate.proofs.Bits.{convert-int}
use Rattle.cf_lower_relate.proofs.Cells.{load-same}
use Rattle.cf_lower_relate.proofs.Objects.{rel-other, block-same, block-other}
use Rattle.cf_lower_relate.proofs.Sorts.{sort-eq}
use Rattle.cf_lower.specs.Kept.{Kept, integer_of, holds, Keeping, keep, local_kept}
use Rattle.cf_lower.specs.Written.{register_type, register_name}
use Rattle.cf_lower.specs.Expressions.{in_register, local_value}
use Rattle.cf_lower_steps.specs.Steps.{InLocal, KeptAs, InRegisters}
use Rattle.cf_lower_steps.specs.Own.{Own, Lives, OwnBlocks}
use Rattle.cf_lower_steps.proofs.Holding.{has-value}

-- ---- the source's registers

pub same-register : (i j : ℕ) → i == j ≡ true → i ≡ j
same-register i j e = grind (arith, nat_tests, e)

-- what the source's `keep` gives, by the test of numbers
kept-same : (g : Registers) (r : Register) (v : source.Value) → keep_value g r v r ≡ Some v
kept-same g zero v = refl
kept-same g (suc r) v = kept-same (λ q. g (suc q)) r v

pub kept-other : (g : Registers) (r q : Register) (v : source.Value) → q == r ≡ false → keep_value g r v q ≡ g q
kept-other g zero zero v e = absurd (grind (arith, nat_tests, e))
kept-other g zero (suc q) v e = refl
kept-other g (suc r) zero v e = refl
kept-other g (suc r) (suc q) v e = kept-other (λ i. g (suc i)) r q v (grind (arith, nat_tests, e))

-- ---- values that a register holds are of its C type

module _ (K : Fixed) (F : Map) where
  -- what a register holds is of its C type
  pub local-type : (x : Kept) (t : Sort) (v : source.Value) (c : Value) → local_kept x ≡ Some t → InLocal K F x v c → type_of c ≡ scalar_of (register_type t)
  local-type (integer_of f) t (source.Number z) c e h = ap type_of h.is ∙ ap (λ u. scalar_of (register_type u)) (sort-eq e)
  local-type (holds (address a)) t source.Null c e h = ap type_of h ∙ ap (λ u. scalar_of (register_type u)) (sort-eq e)
  local-type (holds (address a)) t (source.At p) c e h = ap type_of h.is ∙ ap (λ u. scalar_of (register_type u)) (sort-eq e)
  local-type (holds (code a)) t source.Null c e h = ap type_of h ∙ ap (λ u. scalar_of (register_type u)) (sort-eq e)
  local-type (holds (code a)) t (source.Code f) c e h = ap type_of h.is ∙ ap (λ u. scalar_of (register_type u)) (sort-eq e)
  local-type x t v c e h = absurd h

  -- and stays what it is there
  pub local-stays : (x : Kept) (t : Sort) (v : source.Value) (c : Value) → local_kept x ≡ Some t → InLocal K F x v c → as_scalar (scalar_of (register_type t)) c ≡ Some c
  local-stays (integer_of f) t (source.Number z) c e h =
      ap (λ u. as_scalar (scalar_of (register_type u)) c) (sym (sort-eq e))
      ∙ ap (as_scalar (scalar_of ty.Int)) h.is ∙ ap (λ y. Some (value.Number Int y)) (convert-int Int z) ∙ ap (λ (y : Value). Some y) (sym h.is)
  local-stays (holds (address a)) t source.Null c e h =
      ap (λ u. as_scalar (scalar_of (register_type u)) c) (sym (sort-eq e)) ∙ ap (as_scalar (scalar_of ty.Pointer)) h ∙ ap (λ (y : Value). Some y) (sym h)
  local-stays (holds (address a)) t (source.At p) c e h =
      ap (λ u. as_scalar (scalar_of (register_type u)) c) (sym (sort-eq e)) ∙ ap (as_scalar (scalar_of ty.Pointer)) h.is ∙ ap (λ (y : Value). Some y) (sym h.is)
  local-stays (holds (code a)) t source.Null c e h =
      ap (λ u. as_scalar (scalar_of (register_type u)) c) (sym (sort-eq e)) ∙ ap (as_scalar (scalar_of ty.FunctionPointer)) h ∙ ap (λ (y : Value). Some y) (sym h)
  local-stays (holds (code a)) t (source.Code f) c e h =
      ap (λ u. as_scalar (scalar_of (register_type u)) c) (sym (sort-eq e)) ∙ ap (as_scalar (scalar_of ty.FunctionPointer)) h.is ∙ ap (λ (y : Value). Some y) (sym h.is)
  local-stays x t v c e h = absurd h

  -- a value of the scalar that is wanted fits it
  pub fitted-stays : (a : Scalar) (c : Value) → type_of c ≡ a → as_scalar a c ≡ Some c → fitted a c ≡ Ok c
  fitted-stays (scalar.Integer k) c e h = ap typed h
  fitted-stays scalar.Pointer (value.Number k z) e h = absurd (cc)
  fitted-stays scalar.Pointer (value.Address p) e h = refl
  fitted-stays scalar.Pointer (value.Function f) e h = absurd (cc)
  fitted-stays scalar.Function (value.Number k z) e h = absurd (cc)
  fitted-stays scalar.Function (value.Address p) e h = absurd (cc)
  fitted-stays scalar.Function (value.Function f) e h = refl

  four : (t : Sort) → bytes_of (scalar_of (register_type t)) ≡ 4
  four (number k) = refl
  four (address t) = refl
  four (code t) = refl

  -- what is assigned to a register's C local
  pub record Assigns (own : Own) (s : State) (scope : Scope) (kept : Keeping) (g : Registers) (b : ℕ) (m : Memory) (done : Result Memory ℕ) : Type 0 where
    pub after : Memory
    pub is : done ≡ Ok after
    pub rel : Rel K F s after
    pub registers : InRegisters K F kept g scope after
    pub own_blocks : OwnBlocks own F scope after
    pub next : after.next ≡ m.next
    pub elsewhere : (c : ℕ) → c == b ≡ false → after.block c ≡ m.block c

  module _ (own : Own) (s : State) (m : Memory) (rel : Rel K F s m) (scope : Scope) (blocks_of : OwnBlocks own F scope m) where
    -- a block of its own changes: objects stand as before
    abbrev changed_at : ℕ → Block → Memory
    changed_at b x = record m { block = put_block b (Some x) m.block }

    different : (i j : ℕ) → (i ≡ j → ⊥) → i == j ≡ false
    different i j no_same = by_test (i == j) refl
      where
        by_test : (b : Bool) → i == j ≡ b → i == j ≡ false
        by_test false e = e
        by_test true e = absurd (no_same (same-register i j e))

    own-rel : (t : Sort) (r : Register) → r < own.bound → (x : Block) → Rel K F s (changed_at (own.block t r) x)
    own-rel t r lt x =
        rel-other K F s m rel (changed_at (own.block t r) x) (omega arith)
        (λ o lo e. block-other (own.block t r) (F.block o) (Some x) m.block (different (F.block o) (own.block t r) (blocks_of.free t r lt o lo e)))

    own-blocks : (t : Sort) (r : Register) → r < own.bound → (x : Block) → 4 ≤ x.size → OwnBlocks own F scope (changed_at (own.block t r) x)
    own-blocks t r lt x size = record {
      named = blocks_of.named;
      lives = λ u q lq. by_test u q lq (own.block u q == own.block t r) refl;
      apart = blocks_of.apart;
      free = blocks_of.free;
    }
      where
        by_test : (u : Sort) (q : Register) → q < own.bound → (b : Bool) → own.block u q == own.block t r ≡ b → Lives (changed_at (own.block t r) x) (own.block u q)
        by_test u q lq true e =
            record { block = x; there = ap (λ (c : Bool). if c then Some x else m.block (own.block u q)) e; size = size }
        by_test u q lq false e =
            let h = blocks_of.lives u q lq in record { block = h.block; there = block-other (own.block t r) (own.block u q) (Some x) m.block e ∙ h.there; size = h.size }

    -- what a register's C local holds
    local-value : (m' : Memory) (t : Sort) (r : Register) → r < own.bound → value_of (in_register t r) scope m' ≡ read (scalar_of (register_type t)) (pointer.At (own.block t r) 0) m'
    local-value m' t r lt = ap (λ n. named_value n m') (blocks_of.named t r lt)

    module _ (kept : Keeping) (g : Registers) (regs : InRegisters K F kept g scope m) (below : (q : Register) (u : Sort) → local_kept (kept q) ≡ Some u → q < own.bound)
        (x : Kept) (t : Sort) (r : Register) (lt : r < own.bound) (v : source.Value) (c : Value) (local : local_kept x ≡ Some t) (is : InLocal K F x v c) where
      bytes : size_of c ≡ bytes_of (scalar_of (register_type t))
      bytes = ap bytes_of (local-type x t v c local is)

      reached-own : (n : ℕ) → n ≡ 4
          → reached (pointer.At (own.block t r) 0) n m ≡ Ok (record { number = own.block t r; offset = 0; block = (blocks_of.lives t r lt).block })
      reached-own n e =
          let h = blocks_of.lives t r lt in
          ap (inside (own.block t r) 0 n) h.there
          ∙ ap (λ b. if b then Ok (record { number = own.block t r; offset = 0; block = h.block }) else Err blocks.outside)
          (let size = h.size in let q : nat_le (0 + n) h.block.size ≡ true = grind (arith, nat_tests, size, e) in q)

      abbrev new_block : Block
      new_block = record (blocks_of.lives t r lt).block { cells = put c 0 (blocks_of.lives t r lt).block.cells }

      written : write (pointer.At (own.block t r) 0) c m ≡ Ok (changed_at (own.block t r) new_block)
      written =
          ap (λ a. on_ok a (λ at. Ok (with_cells at (put c at.offset at.block.cells) m))) (reached-own (size_of c) (bytes ∙ four t))

      reads-new : value_of (in_register t r) scope (changed_at (own.block t r) new_block) ≡ Ok c
      reads-new =
          let size = (blocks_of.lives t r lt).size in
          local-value (changed_at (own.block t r) new_block) t r lt
          ∙ ap (λ x. on_ok (inside (own.block t r) 0 (bytes_of (scalar_of (register_type t))) x) (λ at. value_or_act (load (scalar_of (register_type t)) at.block.cells at.offset)))
          (block-same (own.block t r) (Some new_block) m.block)
          ∙ ap (λ b. on_ok {A = blocks.Place} (if b then Ok (record { number = own.block t r; offset = 0; block = new_block }) else Err blocks.outside)
          (λ at. value_or_act (load (scalar_of (register_type t)) at.block.cells at.offset)))
          (let e = four t in let q : nat_le (0 + bytes_of (scalar_of (register_type t))) new_block.size ≡ true = grind (arith, nat_tests, size, e) in q)
          ∙ ap value_or_act (load-same (scalar_of (register_type t)) c 0 (blocks_of.lives t r lt).block.cells bytes ∙ local-stays x t v c local is)

      reads-other : (u : Sort) (q : Register) → q < own.bound → q == r ≡ false
          → value_of (in_register u q) scope (changed_at (own.block t r) new_block) ≡ value_of (in_register u q) scope m
      reads-other u q lq ne =
          local-value (changed_at (own.block t r) new_block) u q lq
          ∙ ap (λ x. on_ok (inside (own.block u q) 0 (bytes_of (scalar_of (register_type u))) x) (λ at. value_or_act (load (scalar_of (register_type u)) at.block.cells at.offset)))
          (block-other (own.block t r) (own.block u q) (Some new_block) m.block
          (different (own.block u q) (own.block t r) (λ e. let h = (blocks_of.apart u t q r lq lt e).0 in let k : q == r ≡ true = grind (arith, nat_tests, h) in true-false k ne)))
          ∙ sym (local-value m u q lq)
        where
          true-false : {b : Bool} → b ≡ true → b ≡ false → ⊥
          true-false h k = absurd (cc)

      registers-after : InRegisters K F (keep kept r x) (keep_value g r v) scope (changed_at (own.block t r) new_block)
      registers-after q y held = by_test (q == r) refl
        where
          some-same : {a b : source.Value} → Some a ≡ Some b → a ≡ b
          some-same e = cc

          here : q ≡ r → KeptAs K F x y (value_of (local_value (local_kept x) q) scope (changed_at (own.block t r) new_block))
          here same =
              subst (λ i. KeptAs K F x y (value_of (local_value (local_kept x) i) scope (changed_at (own.block t r) new_block))) (sym same)
              (subst (λ z. KeptAs K F x z (value_of (local_value (local_kept x) r) scope (changed_at (own.block t r) new_block)))
              (some-same (sym (kept-same g r v) ∙ ap (keep_value g r v) (sym same) ∙ held))
              (has-value K F x v (value_of (local_value (local_kept x) r) scope (changed_at (own.block t r) new_block))
              (record { value = c; is = ap (λ a. value_of (local_value a r) scope (changed_at (own.block t r) new_block)) local ∙ reads-new; same = is })))

          reads-same : q == r ≡ false → (a : Option Sort) → local_kept (kept q) ≡ a
              → value_of (local_value a q) scope (changed_at (own.block t r) new_block) ≡ value_of (local_value a q) scope m
          reads-same e None l = refl
          reads-same e (Some u) l = reads-other u q (below q u l) e

          by_test : (b : Bool) → q == r ≡ b
              → KeptAs K F (if b then x else kept q) y (value_of (local_value (local_kept (if b then x else kept q)) q) scope (changed_at (own.block t r) new_block))
          by_test true e = here (same-register q r e)
          by_test false e =
              subst (λ z. KeptAs K F (kept q) y z) (sym (reads-same e (local_kept (kept q)) refl)) (regs q y (sym (kept-other g r q v e) ∙ held))

      -- An expression that is no load is assigned to a register's C local.
      pub assign-register : (e : Expression) → value_of e scope m ≡ Ok c → source_of e scope m ≡ None
          → Assigns own s scope (keep kept r x) (keep_value g r v) (own.block t r) m (assigned (named (register_name t r)) e scope m)
      assign-register e value no_load = record {
        after = changed_at (own.block t r) new_block;
        is = ap (λ n. on_ok (variable_target n) (λ at. assigned_to at e scope m)) (blocks_of.named t r lt)
            ∙ ap (λ n. by_source n e (record { pointer = pointer.At (own.block t r) 0; scalar = scalar_of (register_type t) }) scope m) no_load
            ∙ ap (λ a. on_ok a (λ y. stored (record { pointer = pointer.At (own.block t r) 0; scalar = scalar_of (register_type t) }) y m)) value
            ∙ ap (λ a. on_ok a (λ y. write (pointer.At (own.block t r) 0) y m)) (fitted-stays (scalar_of (register_type t)) c (local-type x t v c local is) (local-stays x t v c local is))
            ∙ written;
        rel = own-rel t r lt new_block;
        registers = registers-after;
        own_blocks = own-blocks t r lt new_block (blocks_of.lives t r lt).size;
        next = refl;
        elsewhere = λ b ne. block-other (own.block t r) b (Some new_block) m.block ne;
      }

-- A flag is set: nothing else changes.
use Rattle.std.proofs.Common.{◌≡◌, ℕ, ◌+◌, ◌<◌, ◌≤◌, nat_le, Bool, true, false, ◌==◌, if◌then◌else◌, refl, sym, ◌∙◌, ap, arith}
use Rattle.std.specs.Prelude.{pos, Some, Ok, Err}
use Rattle.std.proofs.lemmas.Bool.Decides.{nat_tests}
use Rattle.cf_base.specs.declared.kind.Kind.TheVariants.{Int}
use Rattle.cf_base.specs.Integers.{convert}
use Rattle.cf_core.specs.Run.{State}
use Rattle.cf_plain.specs.Acts.{Registers}
use Rattle.cc_whole.specs.Plain.{named, constant}
use Rattle.cc_whole_memory.specs.declared.value.Pointer.TheVariants as pointer
use Rattle.cc_whole_memory.specs.declared.value.Value.{Value}
use Rattle.cc_whole_memory.specs.declared.value.Value.TheVariants as value
use Rattle.cc_whole_memory.specs.declared.value.Scalar.TheVariants as scalar
use Rattle.cc_whole_memory.specs.Cells.{put, load}
use Rattle.cc_whole_memory.specs.Blocks as blocks
use Rattle.cc_whole_memory.specs.Blocks.{Block, Memory, put_block, inside, reached, on_ok, value_or_act, write, with_cells}
use Rattle.cc_whole_mean.specs.Scope.{Scope}
use Rattle.cc_whole_mean.specs.Values.{named_value, variable_target, assigned, assigned_to}
use Rattle.cf_lower_control.specs.LowerKept.{Keeping}
use Rattle.cf_lower_control.specs.LowerWritten.{flag_name, int_constant}
use Rattle.cf_lower_relate.specs.Map.{Fixed, Map}
use Rattle.cf_lower_relate.proofs.Cells.{load-same}
use Rattle.cf_lower_relate.proofs.Objects.{rel-other, block-same, block-other}
use Rattle.cf_lower_relate.proofs.Values.{grows-same}
use Rattle.cf_lower_control.specs.StepsOwn.{Own, Lives}
use Rattle.cf_lower_control.specs.StepsFlows.{Between}
use Rattle.cf_lower_control.specs.StepsLowering.{Below}
use Rattle.cf_lower_control.proofs.StepsBetween.{between-elsewhere}
use Rattle.cf_lower_control.proofs.StepsLocals.{locals-elsewhere}
use Rattle.cf_lower_control.proofs.StepsStatements.{different}
use Rattle.cf_lower_turns.specs.Flags.{Flags, InFlags, Shows}
use Rattle.cf_lower_turns.specs.Here.{HasRoom, Outer}
use Rattle.cf_lower_turns.specs.Texts.{Texts, TextsLaid, InTexts}
use Rattle.cf_lower_turns.proofs.Literals.{texts-stay}

same-number : (i j : ℕ) → i == j ≡ true → i ≡ j
same-number i j e = grind (arith, nat_tests, e)

module _ (own : Own) (flags : Flags) (F : Map) (scope : Scope) (m : Memory) (there : InFlags own flags F scope m) (d n : ℕ) (lt : d < flags.bound)
    (small : convert Int (pos n) ≡ pos n) where
  abbrev b : ℕ
  b = flags.block d

  abbrev holds : Value
  holds = value.Number Int (pos n)

  abbrev old : Block
  old = (there.lives d lt).block

  abbrev new : Block
  new = record old { cells = put holds 0 old.cells }

  abbrev pub after : Memory
  after = record m { block = put_block b (Some new) m.block }

  room : (x : Block) → 4 ≤ x.size → nat_le (0 + 4) x.size ≡ true
  room x size = grind (arith, nat_tests, size)

  reached-flag : (k : Memory) (x : Block) → k.block b ≡ Some x → 4 ≤ x.size → reached (pointer.At b 0) 4 k ≡ Ok (record { number = b; offset = 0; block = x })
  reached-flag k x e size =
      ap (inside b 0 4) e ∙ ap (λ t. if t then Ok (record { number = b; offset = 0; block = x }) else Err blocks.outside) (room x size)

  pub set-flag : assigned (named (flag_name d)) (constant (int_constant n)) scope m ≡ Ok after
  set-flag =
      ap (λ x. on_ok (variable_target x) (λ at. assigned_to at (constant (int_constant n)) scope m)) (there.named d lt)
      ∙ ap (λ x. write (pointer.At b 0) (value.Number Int x) m) small
      ∙ ap (λ a. on_ok a (λ at. Ok (with_cells at (put holds at.offset at.block.cells) m))) (reached-flag m old (there.lives d lt).there (there.lives d lt).size)

  pub shows-new : Shows scope d n after
  shows-new =
      ap (λ x. named_value x after) (there.named d lt)
      ∙ ap (λ a. on_ok a (λ at. value_or_act (load (scalar.Integer Int) at.block.cells at.offset)))
      (reached-flag after new (block-same b (Some new) m.block) (there.lives d lt).size)
      ∙ ap value_or_act (load-same (scalar.Integer Int) holds 0 old.cells refl ∙ ap (λ x. Some (value.Number Int x)) small)

  other : (c : ℕ) → (c ≡ b → ⊥) → after.block c ≡ m.block c
  other c ne = block-other b c (Some new) m.block (different c b ne)

  pub shows-other : (e k : ℕ) → e < flags.bound → (e ≡ d → ⊥) → Shows scope e k m → Shows scope e k after
  shows-other e k le ne h =
      ap (λ x. named_value x after) (there.named e le)
      ∙ ap (λ x. on_ok (inside (flags.block e) 0 4 x) (λ at. value_or_act (load (scalar.Integer Int) at.block.cells at.offset)))
      (other (flags.block e) (λ same. ne (there.apart e d le lt same)))
      ∙ sym (ap (λ x. named_value x m) (there.named e le)) ∙ h

  pub flags-after : InFlags own flags F scope after
  flags-after = record {
    named = there.named;
    lives = λ e le. by_test e le (flags.block e == b) refl;
    apart = there.apart;
    registers = there.registers;
    locals = there.locals;
    free = there.free;
  }
    where
      by_test : (e : ℕ) → e < flags.bound → (t : Bool) → flags.block e == b ≡ t → Lives after (flags.block e)
      by_test e le true q =
          record { block = new; there = ap (λ (t : Bool). if t then Some new else m.block (flags.block e)) q; size = (there.lives d lt).size }
      by_test e le false q =
          let h = there.lives e le in record { block = h.block; there = block-other b (flags.block e) (Some new) m.block q ∙ h.there; size = h.size }

  pub between-after : (K : Fixed) (kept : Keeping) (g : Registers) (s : State) → Between K own scope F kept g s m → Below own kept → Between K own scope F kept g s after
  between-after K kept g s between below =
      between-elsewhere K own scope F kept g s s m after between
      (rel-other K F s m between.rel after (omega arith) (λ o lo live. other (F.block o) (λ same. there.free d o lt lo live same)))
      (locals-elsewhere K own F scope s m between.locals after (λ i li. other (own.local i) (λ same. there.locals d i lt li same)) refl)
      below (λ u r lr. other (own.block u r) (λ same. there.registers d u r lt lr same))

  -- another block has room as before
  pub room-after : (c k : ℕ) → (b ≡ c → ⊥) → HasRoom m c k → HasRoom after c k
  room-after c k ne h = record { block = h.block; there = other c (λ same. ne (sym same)) ∙ h.there; size = h.size; below = h.below }

  -- the blocks of before are none of the flags
  pub outer-after : (texts : Texts) (E : Map) (first : Memory) → first.next ≤ flags.block d → Outer texts E F first m → Outer texts E F first after
  outer-after texts E first later outer = record {
    next = outer.next;
    remains = λ c x lc e. let h = outer.remains c x lc e in record { block = h.block; there = other c (earlier c lc) ∙ h.there; size = h.size };
    same = λ c lc no free. other c (earlier c lc) ∙ outer.same c lc no free;
    free = outer.free;
    hidden = outer.hidden;
    before = outer.before;
  }
    where
      earlier : (c : ℕ) → c < first.next → c ≡ b → ⊥
      earlier c lc same = omega (arith, lc, later, same)

  pub texts-after : (K : Fixed) (texts : Texts) (first : ℕ) (s : State) → first ≤ flags.block d → TextsLaid K texts first → InTexts K texts F s m → InTexts K texts F s after
  texts-after K texts first s later laid h =
      texts-stay K texts first F F (grows-same F) s s refl m after laid (λ c lc free. free) (λ c lc free. other c (λ same. omega (arith, lc, later, same))) h

-- A local begins: its object stands in its C local.
use Rattle.std.proofs.Common.{◌≡◌, ℕ, suc, ◌+◌, ◌<◌, ◌≤◌, nat_lt, Bool, true, false, ◌&&◌, ◌==◌, if◌then◌else◌, refl, sym, ◌∙◌, ap, subst, arith, inr}
use Rattle.std.specs.Prelude.{Option, Some, None, length}
use Rattle.std.proofs.lemmas.Bool.Decides.{nat_tests}
use Rattle.cf_base.specs.World.{Went}
use Rattle.cf_core.specs.Types.{SourceType, without_const}
use Rattle.cf_core.specs.Places.{is_scalar}
use Rattle.cf_core.specs.Store as source
use Rattle.cf_core.specs.Store.{Object, new_object, automatic}
use Rattle.cf_core.specs.Run.{State, Gives, upd, lists_local, ◌>>=◌, ◌>>◌, gives, valid, declared_object, frame_changed}
use Rattle.cf_core.specs.Calls.{root}
use Rattle.cf_core.specs.Size.{size}
use Rattle.cf_lower_layout.specs.Layout.{LaidOut}
use Rattle.cf_lower_layout.specs.Sorts.{Sort, address}
use Rattle.cf_lower_layout.proofs.Laid.{size-without}
use Rattle.cf_plain.specs.Plain as plain
use Rattle.cf_plain.specs.Plain.{Register, set}
use Rattle.cf_plain.specs.Running.{Falls, does, keep as keep_value}
use Rattle.cc_whole.specs.Plain as c_tree
use Rattle.cc_whole_memory.specs.declared.value.Pointer.TheVariants as pointer
use Rattle.cc_whole_memory.specs.declared.value.Value.TheVariants as value
use Rattle.cc_whole_mean.specs.Values.{value_of, named_address}
use Rattle.cf_lower_relate.specs.Map.{Map, Stage, shown, is_ended, is_hidden, extended, Grows}
use Rattle.cf_lower_relate.specs.Relation.{Rel}
use Rattle.cf_lower_relate.specs.Relation as relation
use Rattle.cf_lower_relate.proofs.Births.{grows-extended, rel-born}
use Rattle.cf_lower_relate.proofs.Objects.{upd-cases, upd-same, upd-other, below-apart}
use Rattle.cf_lower.specs.Kept.{Kept, holds, argument, keep, declared_kept, is_argument, type_of_local, local_kept}
use Rattle.cf_lower.specs.Written.{local_name}
use Rattle.cf_lower.specs.Statements.{lowered, put_in}
use Rattle.cf_lower_steps.specs.Own.{OwnBlocks, LocalBlock, LocalObject, InLocals}
use Rattle.cf_lower_steps.specs.Flows.{Between, Simulates, Ends}
use Rattle.cf_lower_steps.specs.Steps.{GivenAs}
use Rattle.cf_lower_steps.specs.Lowering.{runs, falls_only}
use Rattle.cf_lower_steps.specs.Moment.{Moment, fixed, Stands, Lowers}
use Rattle.cf_lower_steps.proofs.Statements.{set-value, simulates-from}
use Rattle.cf_lower_pointers.specs.Sets.{Sets}
use Rattle.cf_lower_objects.proofs.Growth.{registers-grow}

same-number : (i j : ℕ) → i == j ≡ true → i ≡ j
same-number i j e = grind (arith, nat_tests, e)

number-same : (i j : ℕ) → i ≡ j → i == j ≡ true
number-same i j e = grind (arith, nat_tests, e)

some-same : {i j : ℕ} → Some i ≡ Some j → i ≡ j
some-same e = cc

true-false : {b : Bool} → b ≡ true → b ≡ false → ⊥
true-false h k = absurd (cc)

module _ (at : Moment) (h : Stands at) (i : ℕ) (t : SourceType) (lt : i < length at.own.locals.types)
    (typed : without_const t ≡ without_const (type_of_local at.own.locals i)) (laid : LaidOut at.program.classes t)
    (over : (o : ℕ) → at.state.frame.locals i ≡ Some o → is_ended (at.map.stage o) ≡ true)
    (st : Stage) (live_now : is_ended st ≡ false) (seen : is_argument at.own.locals i && is_scalar (type_of_local at.own.locals i) ≡ false → is_hidden st ≡ false) where
  abbrev s : State
  s = at.state

  abbrev F : Map
  F = at.map

  abbrev b : ℕ
  b = at.own.local i

  abbrev locals : InLocals (fixed at) at.own at.map at.scope at.state at.memory.memory
  locals = h.between.locals

  -- the state behind
  abbrev pub born_state : State
  born_state = record s { next = suc s.next; object = upd s.next (new_object t automatic) s.object; frame = lists_local i s.next s.frame }

  abbrev pub G : Map
  G = extended s.next t b 0 st F

  count : F.count ≡ s.next
  count = h.between.rel.count

  pub grows : Grows F G
  grows = grows-extended F s.next t b 0 st (let e = count in omega (arith, e))

  old : (o : ℕ) → o < F.count → o == s.next ≡ false
  old o lo = below-apart s.next o (let e = count in omega (arith, e, lo))

  -- no object stands in the C local
  free : (p : ℕ) → p < F.count → is_ended (F.stage p) ≡ false → F.block p ≡ b → ⊥
  free p lp live e = true-false (over p (locals.only i p lt lp live e)) live

  abbrev here : LocalBlock (fixed at) at.own at.scope at.memory.memory i
  here = locals.blocks i lt

  none-some : {v : source.Value} → None ≡ Some v → ⊥
  none-some e = absurd (cc)

  stands-new : relation.Stands (fixed at) G s.next (new_object t automatic) at.memory.memory
  stands-new = record {
    block = here.block;
    there = ap at.memory.memory.block (upd-same s.next b F.block) ∙ here.there;
    size =
        let base = upd-same s.next 0 F.base in
        let room = here.size in
        let types : size at.program.classes t ≡ size at.program.classes (type_of_local at.own.locals i) =
        sym (size-without at.program.classes t) ∙ ap (size at.program.classes) typed ∙ size-without at.program.classes (type_of_local at.own.locals i) in
        omega (arith, base, room, types);
    cells = λ π u v l e held. absurd (none-some held);
  }

  rel-new : Rel (fixed at) G born_state at.memory.memory
  rel-new =
      let r = rel-born (fixed at) F s at.memory.memory h.between.rel (new_object t automatic) b 0 st laid live_now refl here.below free stands-new in
      record { count = r.count; type = r.type; laid = r.laid; gone = r.gone; stands = r.stands; below = r.below; apart = r.apart }

  blocks-new : OwnBlocks at.own G at.scope at.memory.memory
  blocks-new = record {
    named = h.between.blocks.named;
    lives = h.between.blocks.lives;
    apart = h.between.blocks.apart;
    free = λ u r lr o lo live e. free-new u r lr o lo live e;
  }
    where
      free-new : (u : Sort) (r : Register) → r < at.own.bound → (o : ℕ) → o < suc s.next → is_ended (upd s.next st F.stage o) ≡ false
          → upd s.next b F.block o ≡ at.own.block u r → ⊥
      free-new u r lr o lo live e = by_test (o == s.next) refl
        where
          by_test : (t : Bool) → o == s.next ≡ t → ⊥
          by_test true q = here.apart u r lr (sym (sym (ap (λ (t : Bool). if t then b else F.block o) q) ∙ e))
          by_test false q =
              h.between.blocks.free u r lr o (let c = count in grind (arith, nat_tests, q, lo, c))
              (sym (ap is_ended (upd-other s.next o st F.stage q)) ∙ live) (sym (upd-other s.next o b F.block q) ∙ e)

  object-new : LocalObject at.own G i s.next
  object-new = record {
    known = omega arith;
    type = ap without_const (upd-same s.next t F.type) ∙ typed;
    visible = λ v. ap is_hidden (upd-same s.next st F.stage) ∙ seen v;
    block = λ live. upd-same s.next b F.block;
    base = λ live. upd-same s.next 0 F.base;
  }

  object-old : (j o : ℕ) → LocalObject at.own F j o → LocalObject at.own G j o
  object-old j o x =
      let new = old o x.known in
      record {
        known = let k = x.known in let c = count in omega (arith, k, c);
        type = ap without_const (upd-other s.next o t F.type new) ∙ x.type;
        visible = λ v. ap is_hidden (upd-other s.next o st F.stage new) ∙ x.visible v;
        block = λ live. upd-other s.next o b F.block new ∙ x.block (sym (ap is_ended (upd-other s.next o st F.stage new)) ∙ live);
        base = λ live. upd-other s.next o 0 F.base new ∙ x.base (sym (ap is_ended (upd-other s.next o st F.stage new)) ∙ live);
      }

  locals-new : InLocals (fixed at) at.own G at.scope born_state at.memory.memory
  locals-new = record { blocks = locals.blocks; objects = objects-new; only = only-new }
    where
      objects-new : (j o : ℕ) → j < length at.own.locals.types → upd i (Some s.next) s.frame.locals j ≡ Some o → LocalObject at.own G j o
      objects-new j o lj e = by_test (j == i) refl
        where
          by_test : (t : Bool) → j == i ≡ t → LocalObject at.own G j o
          by_test true q =
              let same : j ≡ i = same-number j i q in
              let number : s.next ≡ o = some-same (sym (ap (λ (t : Bool). if t then Some s.next else s.frame.locals j) q) ∙ e) in
              subst (λ k. LocalObject at.own G k o) (sym same) (subst (λ k. LocalObject at.own G i k) number object-new)
          by_test false q = object-old j o (locals.objects j o lj (sym (upd-other i j (Some s.next) s.frame.locals q) ∙ e))

      only-new : (j o : ℕ) → j < length at.own.locals.types → o < suc s.next → is_ended (upd s.next st F.stage o) ≡ false
          → upd s.next b F.block o ≡ at.own.local j → upd i (Some s.next) s.frame.locals j ≡ Some o
      only-new j o lj lo live e = by_test (o == s.next) refl
        where
          known : o == s.next ≡ false → o < F.count
          known q = let c = count in grind (arith, nat_tests, q, lo, c)

          before : o == s.next ≡ false → s.frame.locals j ≡ Some o
          before q =
              locals.only j o lj (known q) (sym (ap is_ended (upd-other s.next o st F.stage q)) ∙ live) (sym (upd-other s.next o b F.block q) ∙ e)

          by_local : o == s.next ≡ false → (t : Bool) → j == i ≡ t → upd i (Some s.next) s.frame.locals j ≡ Some o
          by_local q true k =
              let same : j ≡ i = same-number j i k in
              absurd (true-false (over o (ap s.frame.locals (sym same) ∙ before q)) (sym (ap is_ended (upd-other s.next o st F.stage q)) ∙ live))
          by_local q false k = upd-other i j (Some s.next) s.frame.locals k ∙ before q

          by_test : (t : Bool) → o == s.next ≡ t → upd i (Some s.next) s.frame.locals j ≡ Some o
          by_test true q =
              let number : o ≡ s.next = same-number o s.next q in
              let same : i ≡ j = here.alone j lj (sym (ap (λ (t : Bool). if t then b else F.block o) q) ∙ e) in
              ap (λ (t : Bool). if t then Some s.next else s.frame.locals j) (number-same j i (sym same)) ∙ ap (λ (k : ℕ). Some k) (sym number)
          by_test false q = by_local q (j == i) refl

  pub between-new : Between (fixed at) at.own at.scope G at.kept at.registers born_state at.memory.memory
  between-new = record {
    rel = rel-new;
    registers = registers-grow (fixed at) F G grows at.kept at.registers at.scope at.memory.memory h.between.registers;
    blocks = blocks-new;
    locals = locals-new;
  }

  -- the address of the C local
  pub given-new : is_hidden st ≡ false → GivenAs (fixed at) G (holds (address (without_const t))) (source.At (root s.next)) (value_of (c_tree.address (local_name i)) at.scope at.memory.memory)
  given-new not_hidden = record {
    value = value.Address (pointer.At b 0);
    is = ap named_address here.named;
    same = record {
      known = omega arith;
      visible = ap is_hidden (upd-same s.next st F.stage) ∙ not_hidden;
      inside = refl;
      type = inr (ap without_const (upd-same s.next t F.type));
      pointer = pointer.At b 0;
      some = tt;
      is = refl;
      there = λ k. ap (λ n. pointer.At n 0) (sym (upd-same s.next b F.block))
          ∙ ap (pointer.At (upd s.next b F.block s.next)) (let base = upd-same s.next 0 F.base in let z : 0 ≡ upd s.next 0 F.base s.next + 0 = omega (arith, base) in z);
    };
  }

module _ (at : Moment) (h : Stands at) (i : ℕ) (t : SourceType) (lt : i < length at.own.locals.types)
    (typed : without_const t ≡ without_const (type_of_local at.own.locals i)) (laid : LaidOut at.program.classes t)
    (over : (o : ℕ) → at.state.frame.locals i ≡ Some o → is_ended (at.map.stage o) ≡ true) (visible : is_argument at.own.locals i && is_scalar t ≡ false) where
  abbrev born : State
  born = born_state at h i t lt typed laid over shown refl (λ v. refl)

  module _ (r : Register) (lr : r < at.own.bound) where
    -- the register has the address of the C local
    declared : Simulates (Ends (fixed at) at.own at.scope at.map (keep at.kept r (holds (address (without_const t)))) falls_only)
        (Went (Gives (Falls (keep_value at.registers r (source.At (root at.state.next)))) born) at.world)
        (runs at.c_again at.helps at.c_program at.helper at.scope at.depth (put_in at.inside (Some (address (without_const t))) r (c_tree.address (local_name i))) at.memory at.world)
    declared =
        simulates-from (fixed at) at.own at.scope (keep at.kept r (holds (address (without_const t)))) falls_only at.map (G at h i t lt typed laid over shown refl (λ v. refl)) (grows at h i t lt typed laid over shown refl (λ v. refl)) _ _
        (set-value at.c_again at.helps at.c_program at.helper at.scope at.depth (fixed at) at.own (G at h i t lt typed laid over shown refl (λ v. refl)) at.kept at.registers born at.memory at.world
        (between-new at h i t lt typed laid over shown refl (λ v. refl)) h.below
        (holds (address (without_const t))) (address (without_const t)) r lr refl (c_tree.address (local_name i)) refl falls_only (source.At (root at.state.next)) (given-new at h i t lt typed laid over shown refl (λ v. refl) refl))

  pub kept-here : declared_kept at.inside.locals i t ≡ holds (address (without_const t))
  kept-here =
      ap (λ l. declared_kept l i t) h.locals ∙ ap (λ (q : Bool). if q then argument i t else holds (address (without_const t))) visible

  pub declare-lowered : Sets (plain.declare i t) (holds (address (without_const t))) at
  declare-lowered r lr =
      subst (λ ss. Simulates (Ends (fixed at) at.own at.scope at.map (keep at.kept r (holds (address (without_const t)))) falls_only)
      (does at.again at.program (set r (plain.declare i t)) at.registers at.state at.world)
      (runs at.c_again at.helps at.c_program at.helper at.scope at.depth ss at.memory at.world))
      (sym (ap (λ z. put_in at.inside (local_kept z) r (c_tree.address (local_name i))) kept-here))
      (by_test (nat_lt i at.state.frame.count))
    where
      by_test : (q : Bool) → Simulates (Ends (fixed at) at.own at.scope at.map (keep at.kept r (holds (address (without_const t)))) falls_only)
          (((valid q >> (declared_object t >>= (λ o. frame_changed (lists_local i o) >> gives o))) >>= (λ o. gives (source.At (root o)))
          >>= (λ v. gives (Falls (keep_value at.registers r v)))) at.state at.world)
          (runs at.c_again at.helps at.c_program at.helper at.scope at.depth (put_in at.inside (Some (address (without_const t))) r (c_tree.address (local_name i))) at.memory at.world)
      by_test true = declared r lr
      by_test false = record { by = tt }

-- Objects that are filled with zeros, and with the bytes of a literal.
use Rattle.std.proofs.Common.{◌≡◌, ℕ, suc, ◌+◌, ◌<◌, ◌≤◌, Bool, true, false, not, ◌==◌, List, [], ◌∷◌, ◌++◌, refl, sym, ◌∙◌, ap, subst, arith, ◌⊎◌, inl, inr}
use Rattle.std.specs.Prelude.{Option, Some, None, Result, Ok, is_some}
use Rattle.std.proofs.lemmas.Bool.Decides.{nat_tests}
use Rattle.cf_base.specs.Event.{Undefined}
use Rattle.cf_base.specs.World.{World, Ran, Went, Stops, and_then}
use Rattle.cf_core.specs.Types.{SourceType, void, without_const}
use Rattle.cf_core.specs.Classes.{Class}
use Rattle.cf_core.specs.Places.{Route, Place, beyond, type_at}
use Rattle.cf_core.specs.Size.{size}
use Rattle.cf_core.specs.Store as source
use Rattle.cf_core.specs.Store.{Object, hold_all, from_part}
use Rattle.cf_core.specs.Run.{State, Did, Gives, Malformed, onward, with_object, gives}
use Rattle.cf_core.specs.Access.{fill_zeros}
use Rattle.cf_lower_layout.specs.Layout.{offset, leads, Apart}
use Rattle.cf_lower_layout.specs.Sorts.{Sort, address, sort_of}
use Rattle.cf_lower_layout.proofs.Laid.{size-without}
use Rattle.cf_lower_layout.proofs.Parts.{Placed, lies_in, holds as holds_in, apart, placed, scalar-alone, route-inside}
use Rattle.cf_plain.specs.Plain as plain
use Rattle.cf_plain.specs.Plain.{Register, act}
use Rattle.cf_plain.specs.Acts.{Registers, acts, doing}
use Rattle.cf_plain.specs.Running.{Flow, Falls, calls, does}
use Rattle.cc_whole.specs.Plain.{Expression, Statement, in_order}
use Rattle.cc_whole_memory.specs.declared.value.Pointer.TheVariants as pointer
use Rattle.cc_whole_memory.specs.declared.value.Scalar.{Scalar}
use Rattle.cc_whole_memory.specs.declared.value.Value.{Value}
use Rattle.cc_whole_memory.specs.declared.value.Value.TheVariants as value
use Rattle.cc_whole_memory.specs.Values.{bytes_of, zero_of}
use Rattle.cc_whole_memory.specs.Cells.{Cells, load}
use Rattle.cc_whole_memory.specs.Blocks.{Block, Memory, on_ok, inside, value_or_act, put_block}
use Rattle.cc_whole_mean.specs.Flow as c
use Rattle.cc_whole_mean.specs.Flow.{in_memory}
use Rattle.cc_whole_mean.specs.Types.{scalar_of}
use Rattle.cc_whole_mean.specs.Values.{value_of, named_value}
use Rattle.cc_whole_mean.proofs.Growth.{grows-does_all, grows-helps, grows-runs}
use Rattle.cf_lower.specs.Kept.{Kept, holds, Keeping, local_kept}
use Rattle.cf_lower.specs.Written.{register_type, register_name}
use Rattle.cf_lower.specs.Expressions.{address_in}
use Rattle.cf_lower.specs.Statements.{lowered, zeros, zeros_in}
use Rattle.cf_lower_relate.specs.Map.{Fixed, Map, Is, is_ended, offset_of, pointer_to, type_of_place}
use Rattle.cf_lower_relate.specs.Relation.{Rel, Loads, InCells}
use Rattle.cf_lower_relate.specs.Relation as relation
use Rattle.cf_lower_relate.specs.Scalars.{c_scalar}
use Rattle.cf_lower_relate.proofs.Objects.{rel-changed, rel-other, block-same, block-other}
use Rattle.cf_lower_relate.proofs.Sorts.{bytes-some, sort-bytes, sort-scalar}
use Rattle.cf_lower_steps.specs.Steps.{HasValue}
use Rattle.cf_lower_steps.specs.Flows.{Simulates}
use Rattle.cf_lower_steps.proofs.Statements.{different}
use Rattle.cf_lower_steps.proofs.Tests.{test-place}
use Rattle.cf_lower_steps.proofs.Values.{known-in, stage-shown}
use Rattle.cf_lower_turns.specs.Around.{Around, depth_of, inside_at}
use Rattle.cf_lower_turns.specs.Here.{Remains, Here}
use Rattle.cf_lower_turns.specs.Ways.{ends}
use Rattle.cf_lower_turns.specs.Scene.{GivesBack, Scene, fixed_in, again_at, c_again_at, helps_at, list_at}
use Rattle.cf_lower_turns.proofs.Following.{sim-here}
use Rattle.cf_lower_leaves.proofs.After.{here-stored}
use Rattle.cf_lower_leaves.proofs.Remains.{Keeps}
use Rattle.cf_lower_actions.specs.Fits.{Fits}
use Rattle.cf_lower_actions.specs.Leaf.{IsThere}
use Rattle.cf_lower_actions.proofs.Noughts.{zero-is}
use Rattle.cf_lower_actions.proofs.Routes.{beyond-some, beyond-there, scalar-zero, zeroed-with, parts-zeroed}
use Rattle.cf_lower_actions.proofs.Zeroed.{Zeroed, Changed, Filled, zeros-filled}

true-false : {b : Bool} → b ≡ true → b ≡ false → ⊥
true-false h k = absurd (cc)

some-value : {x y : source.Value} → Some x ≡ Some y → x ≡ y
some-value e = cc

some-block : {x y : Block} → Some x ≡ Some y → x ≡ y
some-block e = cc

-- ---- the cells of the object

module _ (K : Fixed) (F : Map) (x : Object) (base : ℕ) (π : Route) (old now : Cells) (before : InCells K F x base old) (lead : leads K.classes x.type π ≡ true)
    (zeroed : Zeroed K.classes (type_at K.classes x.type π) (base + offset K.classes x.type π) now)
    (same : (a : Scalar) (q : ℕ) → 0 < bytes_of a → Apart q (bytes_of a) (base + offset K.classes x.type π) (size K.classes (type_at K.classes x.type π)) → load a now q ≡ load a old q) where
  abbrev pub zeroed_object : Object
  zeroed_object = hold_all π (λ r. Some (source.zero_of (type_at K.classes x.type (r ++ π)))) x

  -- a scalar of the part
  zero-there : (σ : Route) (u : Sort) (v : source.Value) → leads K.classes x.type (σ ++ π) ≡ true → sort_of (type_at K.classes x.type (σ ++ π)) ≡ Some u
      → source.zero_of (type_at K.classes x.type (σ ++ π)) ≡ v → Loads K F u v (load (c_scalar u) now (base + offset K.classes x.type (σ ++ π)))
  zero-there σ u v l e is =
      let z = parts-zeroed K.classes now x.type base π σ l zeroed in
      record {
        value = zero_of (c_scalar u);
        is = scalar-zero K.classes now (type_at K.classes x.type (σ ++ π)) u (base + offset K.classes x.type (σ ++ π)) e z;
        same = subst (λ a. Is K F u a (zero_of (c_scalar u))) is (zero-is K F (type_at K.classes x.type (σ ++ π)) u e);
      }

  -- any scalar
  now-zeroed : InCells K F zeroed_object base now
  now-zeroed ρ u v l e held = by_part (beyond ρ π) refl held
    where
      elsewhere : beyond ρ π ≡ None → x.held ρ ≡ Some v → Placed K.classes x.type ρ π → Loads K F u v (load (c_scalar u) now (base + offset K.classes x.type ρ))
      elsewhere none is (lies_in σ k) = absurd (true-false (beyond-there σ π) (sym (ap (λ r. is_some (beyond r π)) k) ∙ ap is_some none))
      elsewhere none is (holds_in σ k) =
          let empty = scalar-alone K.classes x.type σ ρ (ap (leads K.classes x.type) (sym k) ∙ lead) (sort-scalar (type_at K.classes x.type ρ) u e) in
          absurd (true-false (beyond-there [] π) (ap (λ r. is_some (beyond r π)) (k ∙ ap (λ τ. τ ++ ρ) empty) ∙ ap is_some none))
      elsewhere none is (apart far) =
          let found = before ρ u v l e is in
          let bytes = sort-bytes K.classes (type_at K.classes x.type ρ) u e in
          record {
            value = found.value;
            is = same (c_scalar u) (base + offset K.classes x.type ρ) (bytes-some u) (away far bytes) ∙ found.is;
            same = found.same;
          }
        where
          away : Apart (offset K.classes x.type ρ) (size K.classes (type_at K.classes x.type ρ)) (offset K.classes x.type π) (size K.classes (type_at K.classes x.type π))
              → size K.classes (type_at K.classes x.type ρ) ≡ bytes_of (c_scalar u)
              → Apart (base + offset K.classes x.type ρ) (bytes_of (c_scalar u)) (base + offset K.classes x.type π) (size K.classes (type_at K.classes x.type π))
          away (inl le) bytes = inl (omega (arith, le, bytes))
          away (inr le) bytes = inr (omega (arith, le, bytes))

      by_part : (o : Option Route) → beyond ρ π ≡ o → from_part (λ r. Some (source.zero_of (type_at K.classes x.type (r ++ π)))) o (x.held ρ) ≡ Some v
          → Loads K F u v (load (c_scalar u) now (base + offset K.classes x.type ρ))
      by_part None k is = elsewhere k is (placed K.classes x.type ρ π l lead)
      by_part (Some σ) k is =
          let there = beyond-some ρ π σ k in
          subst (λ r. Loads K F u v (load (c_scalar u) now (base + offset K.classes x.type r))) (sym there)
          (zero-there σ u v (ap (leads K.classes x.type) (sym there) ∙ l) (ap (λ r. sort_of (type_at K.classes x.type r)) (sym there) ∙ e) (some-value is))

-- ---- the statement

-- a block that has other cells is still there
pub changed-keeps : (m k : Memory) (b : ℕ) (blk : Block) (now : Cells) → m.block b ≡ Some blk → k.next ≡ m.next → k.block b ≡ Some (record blk { cells = now })
    → ((x : ℕ) → x == b ≡ false → k.block x ≡ m.block x) → Keeps m k
changed-keeps m k b blk now there next after elsewhere = record { remains = λ x old e. by_test x old e (x == b) refl; next = next }
  where
    by_test : (x : ℕ) (old : Block) → m.block x ≡ Some old → (a : Bool) → x == b ≡ a → Remains old (k.block x)
    by_test x old e true q =
        let same : x ≡ b = grind (arith, nat_tests, q) in
        let block : old ≡ blk = some-block (sym e ∙ ap m.block same ∙ there) in
        record { block = record blk { cells = now }; there = ap k.block same ∙ after; size = let e : old.size ≡ blk.size = ap (λ (o : Block). o.size) block in omega (arith, e) }
    by_test x old e false q = record { block = old; there = elsewhere x q ∙ e; size = omega arith }

module _ (z : Scene) (fits : Fits z) (around : Around Keeping) (p : Keeping) (n : ℕ) (g : Registers) (s : State) (t : c.State) (w : World)
    (h : Here (fixed_in z) z.body p (depth_of around) g s t) (r : Register) (y : SourceType) (kr : p r ≡ holds (address y)) (no_void : y ≡ void → ⊥)
    (there : IsThere z.program.classes g s r) where
  abbrev pub S : Flow → State → c.Flow → Type 0
  S = ends Keeping z.body.scope (Here (fixed_in z) z.body) (GivesBack (fixed_in z) z.body z.result) around p

  abbrev pub F : Map
  F = h.map

  bounded : r < z.body.own.bound
  bounded = h.below r (address y) (ap local_kept kr)

  -- the pointer is in a block of its own
  address-stays : (b : ℕ) (k : Memory) → (z.body.own.block (address void) r ≡ b → ⊥) → ((x : ℕ) → x == b ≡ false → k.block x ≡ t.memory.block x)
      → value_of (address_in r) z.body.scope k ≡ value_of (address_in r) z.body.scope t.memory
  address-stays b k ne same =
      ap (λ x. named_value x k) (h.between.blocks.named (address void) r bounded)
      ∙ ap (λ x. on_ok (inside (z.body.own.block (address void) r) 0 (bytes_of (scalar_of (register_type (address void)))) x)
      (λ at. value_or_act (load (scalar_of (register_type (address void))) at.block.cells at.offset))) (same (z.body.own.block (address void) r) (different (z.body.own.block (address void) r) b ne))
      ∙ sym (ap (λ x. named_value x t.memory) (h.between.blocks.named (address void) r bounded))

  module _ (o : Place) (is : g r ≡ Some (source.At o)) where
    abbrev pub points : HasValue (fixed_in z) F (holds (address y)) (source.At o) (value_of (address_in r) z.body.scope t.memory)
    points = known-in z.program z.function z.signature F (calls (again_at z n)) s t.memory h.between.rel w z.body.scope p g h.between.registers r (holds (address y)) (source.At o) kr is

    pub live : is_ended (F.stage o.object) ≡ false
    live = sym (h.between.rel.gone o.object points.same.known) ∙ (there o is).0

    abbrev pub b : ℕ
    b = F.block o.object

    abbrev pub stands : relation.Stands (fixed_in z) F o.object (s.object o.object) t.memory
    stands = h.between.rel.stands o.object points.same.known live

    abbrev pub blk : Block
    blk = stands.block

    pub typed : (s.object o.object).type ≡ F.type o.object
    typed = h.between.rel.type o.object points.same.known

    -- where the pointer points to
    pointed : value_of (address_in r) z.body.scope t.memory ≡ Ok (value.Address (pointer.At b (offset_of (fixed_in z) F o)))
    pointed = points.is ∙ ap (λ (v : Value). Ok v) (points.same.is ∙ ap value.Address (points.same.there (stage-shown (F.stage o.object) points.same.visible live)))

    elsewhere-own : z.body.own.block (address void) r ≡ b → ⊥
    elsewhere-own e = h.between.blocks.free (address void) r bounded o.object points.same.known live (sym e)

    pub stays : (k : Memory) → ((x : ℕ) → x == b ≡ false → k.block x ≡ t.memory.block x)
        → value_of (address_in r) z.body.scope k ≡ Ok (value.Address (pointer.At b (offset_of (fixed_in z) F o)))
    stays k same = address-stays b k elsewhere-own same ∙ pointed

    -- the type of the place, otherwise than in const
    of-type : without_const (type_of_place (fixed_in z) F o) ≡ y
    of-type = by_type points.same.type
      where
        by_type : (y ≡ void) ⊎ (without_const (type_of_place (fixed_in z) F o) ≡ y) → without_const (type_of_place (fixed_in z) F o) ≡ y
        by_type (inl e) = absurd (no_void e)
        by_type (inr e) = e

    abbrev pub part : SourceType
    part = type_at z.program.classes (s.object o.object).type o.route

    pub part-type : without_const part ≡ y
    part-type = ap (λ a. without_const (type_at z.program.classes a o.route)) typed ∙ of-type

    part-size : size z.program.classes y ≡ size z.program.classes part
    part-size = ap (size z.program.classes) (sym part-type) ∙ size-without z.program.classes part

    pub part-offset : offset_of (fixed_in z) F o ≡ F.base o.object + offset z.program.classes (s.object o.object).type o.route
    part-offset = ap (λ a. F.base o.object + offset z.program.classes a o.route) (sym typed)

    pub room : offset_of (fixed_in z) F o + 0 + size z.program.classes y ≤ blk.size
    room =
        let inner = route-inside z.program.classes (s.object o.object).type o.route (there o is).1 in
        let outer = stands.size in
        let one = part-size in
        let two = part-offset in
        omega (arith, inner, outer, one, two)

    abbrev Zero_run : List Statement → Cells → (Cells → Type 0) → Type 0
    Zero_run ss cells Done =
        Filled (c_again_at z n) (helps_at z n) z.c_program z.helper z.body.scope z.depth w t (address_in r) b (offset_of (fixed_in z) F o) blk t.memory stays
        ss t.memory (offset_of (fixed_in z) F o + 0) (size z.program.classes y) cells Done

    pub filled : Zero_run (zeros z.program.classes y (address_in r) 0) blk.cells (Zeroed z.program.classes y (offset_of (fixed_in z) F o + 0))
    filled =
        zeros-filled (c_again_at z n) (helps_at z n) z.c_program z.helper z.body.scope z.depth w t (address_in r) b (offset_of (fixed_in z) F o) blk t.memory stays z.program.classes y
        0 t.memory blk.cells (record { next = refl; there = stands.there; elsewhere = λ x ne. refl }) room

    abbrev at : ℕ
    at = F.base o.object + offset z.program.classes (s.object o.object).type o.route

    at-offset : offset_of (fixed_in z) F o + 0 ≡ at
    at-offset = let e = part-offset in omega (arith, e)

    part-zeroed : Zeroed z.program.classes part at filled.now
    part-zeroed =
        zeroed-with z.program.classes filled.now part at
        (subst (λ a. Zeroed z.program.classes a at filled.now) (sym part-type) (subst (λ q. Zeroed z.program.classes y q filled.now) at-offset filled.done))

    part-apart : (a : Scalar) (q : ℕ) → 0 < bytes_of a → Apart q (bytes_of a) at (size z.program.classes part) → load a filled.now q ≡ load a blk.cells q
    part-apart a q some far =
        filled.apart a q some (subst (λ k. Apart q (bytes_of a) k (size z.program.classes y)) (sym at-offset) (subst (λ k. Apart q (bytes_of a) at k) (sym part-size) far))

    abbrev pub now_object : Object
    now_object = hold_all o.route (λ r. Some (source.zero_of (type_at z.program.classes (s.object o.object).type (r ++ o.route)))) (s.object o.object)

    abbrev put_there : Memory
    put_there = record t.memory { block = put_block b (Some (record blk { cells = filled.now })) t.memory.block }

    -- the objects stand in the memory behind
    pub rel-behind : Rel (fixed_in z) F (with_object o.object (λ x. now_object) s) filled.after
    rel-behind =
        rel-other (fixed_in z) F (with_object o.object (λ x. now_object) s) put_there
        (rel-changed (fixed_in z) F s t.memory h.between.rel o.object now_object (Some (record blk { cells = filled.now })) points.same.known live typed (there o is).0
        (record {
          block = record blk { cells = filled.now };
          there = block-same b (Some (record blk { cells = filled.now })) t.memory.block;
          size = stands.size;
          cells = now-zeroed (fixed_in z) F (s.object o.object) (F.base o.object) o.route blk.cells filled.now stands.cells (there o is).1 part-zeroed part-apart;
        }))
        filled.after (let e = filled.changed.next in omega (arith, e)) (λ k lk live. by_test (F.block k) (F.block k == b) refl)
      where
        by_test : (x : ℕ) (a : Bool) → x == b ≡ a → filled.after.block x ≡ put_block b (Some (record blk { cells = filled.now })) t.memory.block x
        by_test x true q =
            let same : x ≡ b = grind (arith, nat_tests, q) in
            ap filled.after.block same ∙ filled.changed.there ∙ sym (block-same b (Some (record blk { cells = filled.now })) t.memory.block)
            ∙ ap (put_block b (Some (record blk { cells = filled.now })) t.memory.block) (sym same)
        by_test x false q = filled.changed.elsewhere x q ∙ sym (block-other b x (Some (record blk { cells = filled.now })) t.memory.block q)

    keeps : Keeps t.memory filled.after
    keeps = changed-keeps t.memory filled.after b blk filled.now stands.there filled.changed.next filled.changed.there filled.changed.elsewhere

    zeros-there : Simulates S (Went (Gives (Falls g) (with_object o.object (λ x. now_object) s)) w) (list_at z n (zeros z.program.classes y (address_in r) 0) t w)
    zeros-there =
        sim-here S (Falls g) (with_object o.object (λ x. now_object) s) w (list_at z n (zeros z.program.classes y (address_in r) 0) t w) (c.Falls (in_memory t filled.after)) filled.run
        (record {
          after = in_memory t filled.after;
          is = refl;
          related = here-stored (fixed_in z) z.body p (depth_of around) g s (with_object o.object (λ x. now_object) s) t filled.after h rel-behind refl refl keeps
              o.object points.same.known live filled.changed.elsewhere;
        })

  zeros-step : Simulates S (does (again_at z n) z.program (act (plain.zeros r)) g s w) (list_at z n (zeros z.program.classes y (address_in r) 0) t w)
  zeros-step =
      test-place (λ ran. Simulates S (and_then ran (λ did w. onward did (λ v. gives (Falls g)) w)) (list_at z n (zeros z.program.classes y (address_in r) 0) t w)) s w
      (record { by = tt })
      (λ k. record {
        by = (grows-does_all (c_again_at z n) (helps_at z n) (grows-runs z.c_program n) (grows-helps z.c_program (c_again_at z n) (grows-runs z.c_program n) z.helper)
            z.c_program z.helper (in_order (zeros z.program.classes y (address_in r) 0)) z.body.scope z.depth t w).by;
      })
      g r (λ p. doing (fill_zeros z.program.classes p)) (λ o is. zeros-there o is)

  pub zeros-done : Simulates S (does (again_at z n) z.program (act (plain.zeros r)) g s w) (list_at z n (lowered (act (plain.zeros r)) (inside_at z.inside around) p) t w)
  zeros-done =
      subst (λ ss. Simulates S (does (again_at z n) z.program (act (plain.zeros r)) g s w) (list_at z n ss t w))
      (sym (ap (λ k. zeros_in z.inside.classes k r) kr ∙ ap (λ cs. zeros cs y (address_in r) 0) fits.classes)) zeros-step

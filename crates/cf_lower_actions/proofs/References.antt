-- Locals that are references: their names stand for what they are bound to (8.4.3).
use Rattle.std.proofs.Common.{◌≡◌, ℕ, ◌<◌, nat_lt, Bool, true, false, not, if◌then◌else◌, [], refl, sym, ◌∙◌, ap, subst, arith}
use Rattle.std.specs.Prelude.{◌+◌, Option, Some, None, Result, Ok, length}
use Rattle.cf_base.specs.Event.{Undefined}
use Rattle.cf_base.specs.World.{World, Ran, Went, Stops}
use Rattle.cf_core.specs.Types.{SourceType, reference, takes, gives as gives_type, const, without_const}
use Rattle.cf_core.specs.Places.{is_inside, is_reference, is_scalar}
use Rattle.cf_core.specs.Store as source
use Rattle.cf_core.specs.Store.{is_usable}
use Rattle.cf_core.specs.Run.{State, Did, Malformed, Act, ◌>>=◌, ◌>>◌, gives, undefined, need, valid, some_or, when}
use Rattle.cf_core.specs.Access.{place_type, read_place, bound_to, followed}
use Rattle.cf_core.specs.Calls.{root}
use Rattle.cf_lower_layout.specs.Sorts.{Sort, address, code, scalar_sort, sort_of, sort_to}
use Rattle.cf_plain.specs.Plain as plain
use Rattle.cf_plain.specs.Acts.{Registers, acts}
use Rattle.cf_plain.specs.Running.{calls}
use Rattle.cc_whole.specs.Plain as c_tree
use Rattle.cc_whole.specs.Plain.{load, named}
use Rattle.cc_whole_memory.specs.declared.value.Pointer.TheVariants as pointer
use Rattle.cc_whole_memory.specs.declared.value.Value.{Value}
use Rattle.cc_whole_memory.specs.Blocks.{on_ok, read}
use Rattle.cc_whole_mean.specs.Flow as c
use Rattle.cc_whole_mean.specs.Types.{scalar_of}
use Rattle.cc_whole_mean.specs.Values.{value_of, fitted, named_value}
use Rattle.cf_lower.specs.Kept.{holds, Keeping, of_sort, place_of, referred, type_of_local}
use Rattle.cf_lower.specs.Written.{c_type, register_type, local_name}
use Rattle.cf_lower.specs.Expressions.{place_named, as_value}
use Rattle.cf_lower_kept.specs.Ready.{is_code}
use Rattle.cf_lower_kept.proofs.Operands.{address-sort, holds-sort}
use Rattle.cf_lower_relate.specs.Map.{is_ended, pointer_to}
use Rattle.cf_lower_relate.specs.Scalars.{c_scalar}
use Rattle.cf_lower_relate.proofs.Memory.{read-place}
use Rattle.cf_lower_steps.specs.Steps.{GivenAs, Step}
use Rattle.cf_lower_steps.proofs.Values.{usable-stands, stored-scalar, as-register}
use Rattle.cf_lower_turns.specs.Around.{Around, depth_of}
use Rattle.cf_lower_turns.specs.Here.{Here}
use Rattle.cf_lower_turns.specs.Scene.{Scene, fixed_in, again_at}
use Rattle.cf_lower_objects.proofs.Naming.{reference-const}
use Rattle.cf_lower_actions.specs.Fits.{Fits}
use Rattle.cf_lower_actions.specs.Given.{Given}
use Rattle.cf_lower_actions.specs.Leaf.{const_on_none}

-- what a reference is as a scalar
reference-sort : (y : SourceType) → is_reference y ≡ true → sort_of y ≡ Some (sort_to (without_const (referred y)))
reference-sort (reference t) e = refl
reference-sort (const t) e = reference-sort t e ∙ ap (λ (b : Bool). Some (sort_to (without_const (if b then referred t else const t)))) (sym e)
reference-sort y e = absurd (cc)

false-true : {b : Bool} → b ≡ true → b ≡ false → ⊥
false-true h k = absurd (cc)

-- the C local of a register that holds it
place-register : (t : SourceType) → const_on_none t ≡ true → register_type (sort_to t) ≡ register_type (sort_to (without_const t))
place-register (takes p t) e = refl
place-register (gives_type t b) e = refl
place-register (const t) e = by_test (is_code t) refl
  where
    by_test : (b : Bool) → is_code t ≡ b → register_type (address (const t)) ≡ register_type (sort_to (without_const t))
    by_test false k = ap register_type (sym (address-sort t k))
    by_test true k = absurd (false-true e (ap not k))
place-register t e = refl

-- ---- tests, where a value comes behind what follows

module _ (Q : Ran (Did source.Value) → Type 0) (s : State) (w : World) (wrong : Q (Went Malformed w)) (ends : (n : ℕ) → Q (Stops (Undefined n) w.trace)) where
  valid-then : (b : Bool) (next : Act source.Value) (go : source.Value → Act source.Value) → (b ≡ true → Q ((next >>= go) s w)) → Q (((valid b >> next) >>= go) s w)
  valid-then true next go h = h refl
  valid-then false next go h = wrong

  needs-then : (a b : Bool) (n k : ℕ) (next : Act source.Value) (go : source.Value → Act source.Value) → (a ≡ true → b ≡ true → Q ((next >>= go) s w))
      → Q ((((need a n >> need b k) >> next) >>= go) s w)
  needs-then true true n k next go h = h refl refl
  needs-then true false n k next go h = ends k
  needs-then false b n k next go h = ends n

module _ (z : Scene) (fits : Fits z) (around : Around Keeping) (p : Keeping) (i : ℕ) (lt : i < length z.body.own.locals.types)
    (refers : is_reference (type_of_local z.body.own.locals i) ≡ true) (well : const_on_none (referred (type_of_local z.body.own.locals i)) ≡ true) where
  abbrev y : SourceType
  y = type_of_local z.body.own.locals i

  abbrev u : Sort
  u = sort_to (without_const (referred y))

  abbrev expression : c_tree.Expression
  expression = as_value (sort_to (referred y)) (load (named (local_name i)))

  module _ (n : ℕ) (g : Registers) (s : State) (t : c.State) (w : World) (h : Here (fixed_in z) z.body p (depth_of around) g s t) where
    abbrev Q : Ran (Did source.Value) → Type 0
    Q ran = Step (fixed_in z) h.map ran s w (holds u) (value_of expression z.body.scope t.memory)

    -- what the reference holds
    given-there : (o : ℕ) → s.frame.locals i ≡ Some o → is_usable z.program.classes (s.object o) [] ≡ true → (v : source.Value) → (s.object o).held [] ≡ Some v
        → GivenAs (fixed_in z) h.map (holds u) v (value_of expression z.body.scope t.memory)
    given-there o e usable v held =
        let x = h.between.locals.objects i o lt e in
        let live = sym (h.between.rel.gone o x.known) ∙ usable-stands z.program.classes (s.object o) [] usable in
        let found = read-place (fixed_in z) h.map s t.memory h.between.rel (root o) u x.known live refl (ap scalar_sort x.type ∙ reference-sort y refers) v held in
        let base = x.base live in
        let place : pointer.At (z.body.own.local i) 0 ≡ pointer_to (fixed_in z) h.map (root o) =
        ap (λ b. pointer.At b 0) (sym (x.block live)) ∙ ap (pointer.At (h.map.block o)) (let k : 0 ≡ h.map.base o + 0 = omega (arith, base) in k) in
        subst (λ k. GivenAs (fixed_in z) h.map k v (value_of expression z.body.scope t.memory)) (holds-sort (without_const (referred y)))
        (subst (GivenAs (fixed_in z) h.map (of_sort (Some u)) v)
        (sym (ap (λ k. on_ok (named_value k t.memory) (λ a. fitted (scalar_of (register_type (sort_to (referred y)))) a)) (fits.shaped i lt u (reference-sort y refers))
        ∙ ap (λ k. on_ok (read k (pointer.At (z.body.own.local i) 0) t.memory) (λ a. fitted (scalar_of (register_type (sort_to (referred y)))) a)) (stored-scalar u)
        ∙ ap (λ k. on_ok (read (c_scalar u) k t.memory) (λ a. fitted (scalar_of (register_type (sort_to (referred y)))) a)) place
        ∙ ap (λ k. on_ok k (λ a. fitted (scalar_of (register_type (sort_to (referred y)))) a)) found.is
        ∙ ap (λ k. fitted (scalar_of k) found.value) (place-register (referred y) well)))
        (as-register z.program z.function z.signature h.map u v found.value found.same))

    reference-step : Q (acts (calls (again_at z n)) z.program g (plain.local i) s w)
    reference-step = by_count (nat_lt i s.frame.count)
      where
        wrong : Q (Went Malformed w)
        wrong = record { by = tt }

        ends : (k : ℕ) → Q (Stops (Undefined k) w.trace)
        ends k = record { by = refl }

        bound : (o : ℕ) → s.frame.locals i ≡ Some o → is_usable z.program.classes (s.object o) [] ≡ true → (x : Option source.Value) → (s.object o).held [] ≡ x
            → Q ((some_or x (undefined 7) >>= bound_to) s w)
        bound o e usable None held = ends 7
        bound o e usable (Some source.Null) held = ends 4
        bound o e usable (Some v) held = record { by = (refl, refl, given-there o e usable v held) }

        reads : (o : ℕ) → s.frame.locals i ≡ Some o → Q ((read_place z.program.classes (root o) >>= bound_to) s w)
        reads o e =
            valid-then Q s w wrong ends (is_scalar (place_type z.program.classes s (root o))) _ bound_to (λ sc.
            needs-then Q s w wrong ends (is_inside z.program.classes (s.object o).type []) (is_usable z.program.classes (s.object o) []) 6 5 _ bound_to (λ inside usable.
            bound o e usable ((s.object o).held []) refl))

        by_local : (x : Option ℕ) → s.frame.locals i ≡ x → Q (((some_or x (undefined 5) >>= (λ o. gives (root o))) >>= followed z.program.classes) s w)
        by_local None e = ends 5
        by_local (Some o) e =
            let x = h.between.locals.objects i o lt e in
            subst (λ b. Q ((when b (read_place z.program.classes (root o) >>= bound_to) (gives (source.At (root o)))) s w))
            (sym (ap is_reference (h.between.rel.type o x.known) ∙ reference-const (h.map.type o) ∙ ap is_reference x.type ∙ sym (reference-const y) ∙ refers)) (reads o e)

        by_count : (b : Bool)
            → Q (((valid b >> (some_or (s.frame.locals i) (undefined 5) >>= (λ o. gives (root o)))) >>= followed z.program.classes) s w)
        by_count true = by_local (s.frame.locals i) refl
        by_count false = wrong

  pub reference-given : Given z around p (plain.local i)
  reference-given = record {
    kept = holds u;
    is = ap (λ l. place_of (type_of_local l i)) fits.locals;
    sort = u;
    local = refl;
    expression = expression;
    no_load = λ m. refl;
    expressed = ap (λ l. place_named (local_name i) (type_of_local l i)) fits.locals
        ∙ ap (λ b. elim b as (λ x. c_tree.Expression) [ true ↦ expression | false ↦ c_tree.address (local_name i) ]) refers;
    assigned = λ r. refl;
    dropped = refl;
    step = reference-step;
  }

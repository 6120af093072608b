-- Names of functions and of locals.
use Rattle.std.proofs.Common.{◌≡◌, ℕ, ◌<◌, nat_lt, Bool, true, false, ◌&&◌, ◌||◌, if◌then◌else◌, refl, sym, ◌∙◌, ap, subst, arith, inr}
use Rattle.std.specs.Prelude.{◌+◌, Option, Some, None, Result, Ok, is_some, length}
use Rattle.cf_base.specs.World.{World}
use Rattle.cf_core.specs.Types.{Name, SourceType, reference, const, without_const, same_but_const}
use Rattle.cf_core.specs.Core.{Function}
use Rattle.cf_core.specs.Places.{is_reference, is_scalar}
use Rattle.cf_core.specs.Store as source
use Rattle.cf_core.specs.Run.{State, ◌>>=◌, ◌>>◌, gives, undefined, valid, need, some_or, when, done}
use Rattle.cf_core.specs.Access.{read_place, bound_to, followed}
use Rattle.cf_core.specs.Calls.{Program, root, is_library, function_named, has_type}
use Rattle.cf_core.specs.Calls as core
use Rattle.cf_lower_layout.specs.Sorts.{address, code, sort_to}
use Rattle.cf_lower_layout.proofs.Types.{same-without_const}
use Rattle.cf_plain.specs.Plain as plain
use Rattle.cf_plain.specs.Plain.{Register}
use Rattle.cf_plain.specs.Acts.{acts}
use Rattle.cf_plain.specs.Running.{calls}
use Rattle.cc_whole.specs.Plain as c_tree
use Rattle.cc_whole.specs.Plain.{load, named}
use Rattle.cc_whole_memory.specs.declared.value.Pointer.TheVariants as pointer
use Rattle.cc_whole_memory.specs.declared.value.Value.{Value}
use Rattle.cc_whole_memory.specs.declared.value.Value.TheVariants as value
use Rattle.cc_whole_mean.specs.declared.named.Named.TheVariants as meant
use Rattle.cc_whole_mean.specs.Values.{value_of, named_value, named_address, variable_source}
use Rattle.cf_lower_relate.specs.Map.{Stage, hidden, shown, ended, is_ended, is_shown}
use Rattle.cf_lower.specs.Kept.{holds, local_kept, place_of, referred, is_argument, type_of_local}
use Rattle.cf_lower.specs.Written.{local_name}
use Rattle.cf_lower.specs.Expressions.{place_named, as_value}
use Rattle.cf_lower.specs.Statements.{put_in}
use Rattle.cf_lower_steps.specs.Lowering.{is_function}
use Rattle.cf_lower_steps.specs.Steps.{GivenAs, Step}
use Rattle.cf_lower_steps.specs.Moment.{Moment, fixed, Stands}
use Rattle.cf_lower_pointers.specs.Sets.{Sets}
use Rattle.cf_lower_pointers.proofs.Setting.{sets}

or-left : (a b : Bool) → a ≡ true → a || b ≡ true
or-left true b h = refl
or-left false b h = absurd (cc)

or-right : (a b : Bool) → b ≡ true → a || b ≡ true
or-right true b h = refl
or-right false b h = h

-- ---- types of names

pub reference-const : (t : SourceType) → is_reference t ≡ is_reference (without_const t)
reference-const (const t) = reference-const t
reference-const t = refl

pub same-reference : (t u : SourceType) → without_const t ≡ without_const u → is_reference u ≡ false → is_reference t ≡ false
same-reference t u e h = reference-const t ∙ ap is_reference e ∙ sym (reference-const u) ∙ h

pub referred-same : (t : SourceType) → is_reference t ≡ false → without_const (referred t) ≡ without_const t
referred-same (reference t) h = absurd (cc)
referred-same (const t) h = ap (λ (b : Bool). without_const (if b then referred t else const t)) h
referred-same t h = refl

pub stage-live : (st : Stage) → is_shown st ≡ true → is_ended st ≡ false
stage-live hidden h = absurd (cc)
stage-live shown h = refl
stage-live ended h = absurd (cc)

module _ (at : Moment) (h : Stands at) where
  -- ---- functions

  module _ (name : Name) (t : SourceType) (scoped : at.scope name ≡ Some (meant.Function (at.function name)))
      (library : is_library name ≡ true → without_const (at.signature name) ≡ without_const t)
      (defined : (f : Function) → function_named at.program name ≡ Some f → at.signature name ≡ f.type) where
    abbrev found : Result Value ℕ
    found = value_of (load (named name)) at.scope at.memory.memory

    named-there : is_function at.program name ≡ true → without_const (at.signature name) ≡ without_const t
        → GivenAs (fixed at) at.map (holds (code (without_const t))) (source.Code name) found
    named-there known type =
        record { value = value.Function (at.function name); is = ap (λ n. named_value n at.memory.memory) scoped; same = record { is = refl; known = known; type = type } }

    pub function-step : Step (fixed at) at.map (acts (calls at.again) at.program at.registers (plain.function name t) at.state at.world) at.state at.world
        (holds (code (without_const t))) found
    function-step = by_library (is_library name) refl
      where
        by_type : (f : Function) → function_named at.program name ≡ Some f → (b : Bool) → same_but_const f.type t ≡ b
            → Step (fixed at) at.map ((need b 9 >> gives (source.Code name)) at.state at.world) at.state at.world (holds (code (without_const t))) found
        by_type f e true same = record {
          by = (
            refl,
            refl,
            named-there (or-right (is_library name) (is_some (function_named at.program name)) (ap is_some e))
                (ap without_const (defined f e) ∙ same-without_const f.type t same),
          );
        }
        by_type f e false same = record { by = refl }

        by_function : (o : Option Function) → function_named at.program name ≡ o
            → Step (fixed at) at.map ((has_type o t >> gives (source.Code name)) at.state at.world) at.state at.world (holds (code (without_const t))) found
        by_function None e = record { by = tt }
        by_function (Some f) e = by_type f e (same_but_const f.type t) refl

        by_library : (b : Bool) → is_library name ≡ b
            → Step (fixed at) at.map ((when b done (has_type (function_named at.program name) t) >> gives (source.Code name)) at.state at.world) at.state at.world
            (holds (code (without_const t))) found
        by_library true e = record { by = (refl, refl, named-there (or-left (is_library name) (is_some (function_named at.program name)) e) (library e)) }
        by_library false e = by_function (function_named at.program name) refl

    pub function-lowered : Sets (plain.function name t) (holds (code (without_const t))) at
    function-lowered =
        sets at h (plain.function name t) (holds (code (without_const t))) (code (without_const t)) (load (named name)) refl (ap variable_source scoped) (λ r. refl) function-step

  -- ---- locals

  module _ (i : ℕ) (lt : i < length at.own.locals.types) (no_reference : is_reference (type_of_local at.own.locals i) ≡ false)
      (visible : is_argument at.own.locals i && is_scalar (type_of_local at.own.locals i) ≡ false)
      (object : sort_to (without_const (type_of_local at.own.locals i)) ≡ address (without_const (type_of_local at.own.locals i))) where
    abbrev t : SourceType
    t = type_of_local at.own.locals i

    abbrev place : Result Value ℕ
    place = value_of (c_tree.address (local_name i)) at.scope at.memory.memory

    local-there : (o : ℕ) → at.state.frame.locals i ≡ Some o → GivenAs (fixed at) at.map (holds (address (without_const t))) (source.At (root o)) place
    local-there o e =
        let x = h.between.locals.objects i o lt e in
        record {
          value = value.Address (pointer.At (at.own.local i) 0);
          is = ap named_address (h.between.locals.blocks i lt).named;
          same = record {
            known = x.known;
            visible = x.visible visible;
            inside = refl;
            type = inr x.type;
            pointer = pointer.At (at.own.local i) 0;
            some = tt;
            is = refl;
            there = λ k.
                let live = stage-live (at.map.stage o) k in
                ap (λ n. pointer.At n 0) (sym (x.block live))
                ∙ ap (pointer.At (at.map.block o)) (let base = x.base live in let z : 0 ≡ at.map.base o + 0 = omega (arith, base) in z);
          };
        }

    pub local-step : Step (fixed at) at.map (acts (calls at.again) at.program at.registers (plain.local i) at.state at.world) at.state at.world (holds (address (without_const t))) place
    local-step = by_count (nat_lt i at.state.frame.count)
      where
        by_reference : (o : ℕ) → at.state.frame.locals i ≡ Some o → (b : Bool) → is_reference (at.state.object o).type ≡ b
            → Step (fixed at) at.map ((when b (read_place at.program.classes (root o) >>= bound_to) (gives (source.At (root o)))) at.state at.world)
            at.state at.world (holds (address (without_const t))) place
        by_reference o e false k = record { by = (refl, refl, local-there o e) }
        by_reference o e true k =
            let x = h.between.locals.objects i o lt e in
            absurd (true-false k (ap is_reference (h.between.rel.type o x.known) ∙ same-reference (at.map.type o) t x.type no_reference))
          where
            true-false : {b : Bool} → b ≡ true → b ≡ false → ⊥
            true-false p q = absurd (cc)

        by_local : (x : Option ℕ) → at.state.frame.locals i ≡ x
            → Step (fixed at) at.map (((some_or x (undefined 5) >>= (λ o. gives (root o))) >>= followed at.program.classes) at.state at.world) at.state at.world
            (holds (address (without_const t))) place
        by_local None e = record { by = refl }
        by_local (Some o) e = by_reference o e (is_reference (at.state.object o).type) refl

        by_count : (b : Bool)
            → Step (fixed at) at.map
            (((valid b >> (some_or (at.state.frame.locals i) (undefined 5) >>= (λ o. gives (root o)))) >>= followed at.program.classes) at.state at.world)
            at.state at.world (holds (address (without_const t))) place
        by_count true = by_local (at.state.frame.locals i) refl
        by_count false = record { by = tt }

    pub local-lowered : Sets (plain.local i) (holds (address (without_const t))) at
    local-lowered = sets at h (plain.local i) (holds (address (without_const t))) (address (without_const t)) (c_tree.address (local_name i)) refl refl
        (λ r. ap (λ l. put_in at.inside (local_kept (place_of (type_of_local l i))) r (place_named (local_name i) (type_of_local l i))) h.locals
        ∙ ap (λ u. put_in at.inside (local_kept (holds (sort_to u))) r (place_named (local_name i) t)) (referred-same t no_reference)
        ∙ ap (λ z. put_in at.inside (Some z) r (place_named (local_name i) t)) object
        ∙ ap (λ b. put_in at.inside (Some (address (without_const t))) r
        (elim b as (λ x. c_tree.Expression) [ true ↦ as_value (sort_to (referred t)) (load (named (local_name i))) | false ↦ c_tree.address (local_name i) ])) no_reference)
        local-step

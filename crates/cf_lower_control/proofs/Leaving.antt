-- `break` and `continue` in a loop without a step, and `return` of a value.
use Rattle.std.proofs.Common.{◌≡◌, ℕ, Bool, true, [], ◌∷◌, refl, sym, ◌∙◌, ap, subst}
use Rattle.std.specs.Prelude.{Option, Some, None, Result, Ok}
use Rattle.cf_base.specs.Event.{Undefined}
use Rattle.cf_base.specs.World.{Ran, Went, Stops, and_then}
use Rattle.cf_core.specs.Types.{SourceType}
use Rattle.cf_core.specs.Store as source
use Rattle.cf_core.specs.Run.{Gives as Did_gives, ◌>>=◌, gives, malformed, some_or}
use Rattle.cf_core.specs.Access.{used}
use Rattle.cf_lower_layout.specs.Sorts.{Sort, sort_of}
use Rattle.cf_plain.specs.Plain.{Register, leave, continue, give}
use Rattle.cf_plain.specs.Running.{Breaks, Continues, Returns}
use Rattle.cc_whole.specs.Plain as c_tree
use Rattle.cc_whole_memory.specs.declared.value.Value.{Value}
use Rattle.cc_whole_memory.specs.Blocks.{on_ok}
use Rattle.cc_whole_mean.specs.Flow as c
use Rattle.cc_whole_mean.specs.Flow.{tried, falling}
use Rattle.cc_whole_mean.specs.Mean as mean
use Rattle.cc_whole_mean.specs.Values.{value_of, fitted}
use Rattle.cc_whole_mean.specs.Types.{scalar_of}
use Rattle.cc_whole.specs.Plain.{in_order}
use Rattle.cc_whole_mean.proofs.Growth.{GrowsAgain, grows-does_all}
use Rattle.cf_lower_relate.specs.Map.{Map, Grows}
use Rattle.cf_lower_relate.proofs.Values.{grows-same}
use Rattle.cf_lower.specs.Kept.{Kept, Keeping, local_kept}
use Rattle.cf_lower.specs.Written.{if_scalar, c_type}
use Rattle.cf_lower.specs.Expressions.{local_value, as_stored}
use Rattle.cf_lower.specs.Statements.{lowered}
use Rattle.cf_lower_steps.specs.Steps.{HasValue, KeptAs}
use Rattle.cf_lower_steps.specs.Flows.{Simulates, Ways, Ends}
use Rattle.cf_lower_steps.specs.Lowering.{Takes, runs}
use Rattle.cf_lower_steps.specs.Moment.{Moment, fixed, Stands, Lowers}
use Rattle.cf_lower_steps.proofs.Holding.{usable, usable-has}
use Rattle.cf_lower_steps.proofs.Stores.{as-stored-value}
use Rattle.cf_lower_control.specs.Loops.{InLoop, Weaker}
use Rattle.cf_lower_control.specs.Returning.{Gives}

module _ (at : Moment) (h : Stands at) (E : Map) (grows : Grows E at.map) (outer : Keeping) (less : Weaker (fixed at) at.scope at.kept outer) (ways : Ways) where
  pub leave-lowered : at.inside.leaving ≡ c_tree.leave ∷ [] → Lowers at leave at.kept (InLoop (fixed at) at.own at.scope E outer ways)
  leave-lowered e =
      subst (λ ss. Simulates (Ends (fixed at) at.own at.scope at.map at.kept (InLoop (fixed at) at.own at.scope E outer ways))
      (Went (Did_gives (Breaks at.registers) at.state) at.world)
      (runs at.c_again at.helps at.c_program at.helper at.scope at.depth ss at.memory at.world)) (sym e)
      (record {
        by = record {
          value = c.Breaks at.memory;
          run = refl;
          related = record {
            after = at.memory;
            is = refl;
            stays = record {
              map = at.map;
              grows = grows;
              between = record {
                rel = h.between.rel;
                registers = less at.map at.registers at.memory.memory h.between.registers;
                blocks = h.between.blocks;
                locals = h.between.locals;
              };
            };
          };
        };
      })

  pub continue-lowered : at.inside.going_on ≡ c_tree.next ∷ [] → Lowers at continue at.kept (InLoop (fixed at) at.own at.scope E outer ways)
  continue-lowered e =
      subst (λ ss. Simulates (Ends (fixed at) at.own at.scope at.map at.kept (InLoop (fixed at) at.own at.scope E outer ways))
      (Went (Did_gives (Continues at.registers) at.state) at.world)
      (runs at.c_again at.helps at.c_program at.helper at.scope at.depth ss at.memory at.world)) (sym e)
      (record {
        by = record {
          value = c.Continues at.memory;
          run = refl;
          related = record {
            after = at.memory;
            is = refl;
            stays = record {
              map = at.map;
              grows = grows;
              between = record {
                rel = h.between.rel;
                registers = less at.map at.registers at.memory.memory h.between.registers;
                blocks = h.between.blocks;
                locals = h.between.locals;
              };
            };
          };
        };
      })

-- ---- `return`

module _ (at : Moment) (h : Stands at) (grown : GrowsAgain at.c_again) (helped : GrowsAgain at.helps) (E : Map) (grows : Grows E at.map)
    (r : Register) (u : Sort) (x : Kept) (b : Sort) (result : sort_of at.inside.result ≡ Some u) (kr : at.kept r ≡ x) (lx : local_kept x ≡ Some b) (takes : Takes u x) where
  abbrev target : Ran c.Flow
  target = runs at.c_again at.helps at.c_program at.helper at.scope at.depth (c_tree.give (Some (as_stored u (local_value (Some b) r))) ∷ []) at.memory at.world

  in-value : (v : source.Value) → at.registers r ≡ Some v → usable v ≡ true → HasValue (fixed at) at.map x v (value_of (local_value (Some b) r) at.scope at.memory.memory)
  in-value v is us =
      usable-has (fixed at) at.map x b v (value_of (local_value (Some b) r) at.scope at.memory.memory) lx us
      (subst (λ a. KeptAs (fixed at) at.map x v (value_of (local_value a r) at.scope at.memory.memory)) lx
      (subst (λ y. KeptAs (fixed at) at.map y v (value_of (local_value (local_kept y) r) at.scope at.memory.memory)) kr (h.between.registers r v is)))

  returned : (v : source.Value) → HasValue (fixed at) at.map x v (value_of (local_value (Some b) r) at.scope at.memory.memory)
      → Simulates (Ends (fixed at) at.own at.scope at.map at.kept (Gives (fixed at) E u)) (gives (Returns v) at.state at.world) target
  returned v hv =
      let y = as-stored-value (fixed at) at.map u x v hv.value takes hv.same in
      record {
        by = record {
          value = c.Returns (Some y.value) at.memory;
          run = ap (λ a. and_then (tried (on_ok (on_ok a (λ z. fitted (scalar_of (c_type u)) z)) (λ z. Ok (Some z))) at.world (λ z. Went (c.Returns z at.memory) at.world))
              (falling (λ s w. Went (c.Falls s) w))) hv.is
              ∙ ap (λ a. and_then (tried (on_ok a (λ z. Ok (Some z))) at.world (λ z. Went (c.Returns z at.memory) at.world))
              (falling (λ s w. Went (c.Falls s) w))) y.is;
          related = record { after = at.memory; value = y.value; is = refl; map = at.map; grows = grows; rel = h.between.rel; same = y.same };
        };
      }

  undefined-there : Simulates (Ends (fixed at) at.own at.scope at.map at.kept (Gives (fixed at) E u)) (Stops (Undefined 16) at.world.trace) target
  undefined-there = record {
    by = (grows-does_all at.c_again at.helps grown helped at.c_program at.helper (in_order (c_tree.give (Some (as_stored u (local_value (Some b) r))) ∷ []))
        at.scope at.depth at.memory at.world).by;
  }

  pub give-lowered : Lowers at (give (Some r)) at.kept (Gives (fixed at) E u)
  give-lowered =
      subst (λ ss. Simulates (Ends (fixed at) at.own at.scope at.map at.kept (Gives (fixed at) E u))
      ((some_or (at.registers r) malformed >>= used >>= (λ v. gives (Returns v))) at.state at.world)
      (runs at.c_again at.helps at.c_program at.helper at.scope at.depth ss at.memory at.world))
      (sym (ap (λ z. if_scalar z (c_tree.give None ∷ []) (λ s. c_tree.give (Some (as_stored s (local_value (local_kept (at.kept r)) r))) ∷ [])) result
      ∙ ap (λ k. c_tree.give (Some (as_stored u (local_value (local_kept k) r))) ∷ []) kr
      ∙ ap (λ l. c_tree.give (Some (as_stored u (local_value l r))) ∷ []) lx))
      (by_value (at.registers r) refl)
    where
      by_value : (y : Option source.Value) → at.registers r ≡ y
          → Simulates (Ends (fixed at) at.own at.scope at.map at.kept (Gives (fixed at) E u)) ((some_or y malformed >>= used >>= (λ v. gives (Returns v))) at.state at.world) target
      by_value None e = record { by = tt }
      by_value (Some source.Nothing) e = record { by = tt }
      by_value (Some source.Missing) e = undefined-there
      by_value (Some source.Built) e = record { by = tt }
      by_value (Some (source.Number z)) e = returned (source.Number z) (in-value (source.Number z) e refl)
      by_value (Some source.Null) e = returned source.Null (in-value source.Null e refl)
      by_value (Some (source.At p)) e = returned (source.At p) (in-value (source.At p) e refl)
      by_value (Some (source.Code f)) e = returned (source.Code f) (in-value (source.Code f) e refl)
      by_value (Some (source.DataMember path i)) e = returned (source.DataMember path i) (in-value (source.DataMember path i) e refl)
      by_value (Some (source.FunctionMember path d)) e = returned (source.FunctionMember path d) (in-value (source.FunctionMember path d) e refl)

-- Branches: both ways run what they run, and behind them stands what both keep.
use Rattle.std.proofs.Common.{◌≡◌, ℕ, zero, suc, Bool, true, false, not, ◌&&◌, if◌then◌else◌, List, [], ◌∷◌, refl, sym, ◌∙◌, ap, subst, arith}
use Rattle.std.specs.Prelude.{ℤ, pos, negsuc, int_le, Option, Some, None, Result, Ok}
use Rattle.std.proofs.lemmas.Bool.Decides.{nat_tests}
use Rattle.cf_base.specs.declared.kind.Kind.{Kind}
use Rattle.cf_base.specs.declared.kind.Kind.TheVariants.{Int}
use Rattle.cf_base.specs.Integers.{convert}
use Rattle.cf_base.specs.Event.{Ended, Ticks, Depth, Undefined}
use Rattle.cf_base.specs.World.{World, Ran, Went, Stops, and_then}
use Rattle.cf_base.proofs.Tests.{both}
use Rattle.cf_core.specs.Types.{type_eq}
use Rattle.cf_core.specs.Store as source
use Rattle.cf_core.specs.Run.{State, Did, Gives, Exits, Malformed, Act, ◌>>=◌, malformed, some_or, when}
use Rattle.cf_core.specs.Access.{used}
use Rattle.cf_lower_layout.specs.Sorts.{Sort, number, address, code}
use Rattle.cf_lower_layout.proofs.Types.{same-type}
use Rattle.cf_plain.specs.Plain.{Register}
use Rattle.cf_plain.specs.Acts.{Registers, used_in}
use Rattle.cf_plain.specs.Running as plain
use Rattle.cf_plain.specs.Running.{Falls, Breaks, Continues, Returns}
use Rattle.cc_whole.specs.Plain.{Statement, choose, in_order}
use Rattle.cc_whole_memory.specs.declared.value.Value.{Value}
use Rattle.cc_whole_memory.specs.Blocks.{Memory, on_ok}
use Rattle.cc_whole_mean.specs.Scope.{Scope}
use Rattle.cc_whole_mean.specs.Values.{value_of, numbered, is_true}
use Rattle.cc_whole_mean.specs.Flow as c
use Rattle.cc_whole_mean.specs.Flow.{tried, falling, ending}
use Rattle.cc_whole_mean.specs.Mean as mean
use Rattle.cc_whole_mean.specs.Mean.{Program, does_body}
use Rattle.cc_whole_mean.proofs.Growth.{GrowsAgain, grows-does_all}
use Rattle.cf_lower_relate.specs.Map.{Fixed, Map}
use Rattle.cf_lower_relate.proofs.Bits.{nonzero, nonzero-word}
use Rattle.cf_lower.specs.Kept.{Kept, unknown, integer_of, holds, argument, Keeping, local_kept, same_kept, both_kept, common}
use Rattle.cf_lower.specs.Expressions.{integer_in, local_value}
use Rattle.cf_lower.specs.Statements.{block}
use Rattle.cf_lower_steps.specs.Steps.{HasValue, KeptAs, InRegisters}
use Rattle.cf_lower_steps.specs.Own.{Own}
use Rattle.cf_lower_steps.specs.Flows.{Simulates, Ways, Ends}
use Rattle.cf_lower_steps.proofs.Statements.{runs}

-- ---- what both ways keep

module _ (K : Fixed) (F : Map) where
  narrower : (f h : Kind → Bool) (v : source.Value) (found : Result Value ℕ) → ((k : Kind) → h k ≡ true → f k ≡ true)
      → KeptAs K F (integer_of f) v found → KeptAs K F (integer_of h) v found
  narrower f h source.Nothing found in_f e = tt
  narrower f h source.Missing found in_f e = tt
  narrower f h (source.Number z) found in_f e =
      record { value = e.value; is = e.is; same = record { is = e.same.is; word = e.same.word; fits = λ k t. e.same.fits k (in_f k t) } }
  narrower f h v found in_f e = absurd e.same

  both-left : (x y : Kept) (v : source.Value) (go : Option Sort → Result Value ℕ) → KeptAs K F x v (go (local_kept x))
      → KeptAs K F (both_kept x y) v (go (local_kept (both_kept x y)))
  both-left unknown y v go h = unknown-first y
    where
      unknown-first : (y : Kept) → KeptAs K F (both_kept unknown y) v (go (local_kept (both_kept unknown y)))
      unknown-first y = tt
  both-left (integer_of f) (integer_of g) v go h = narrower f (λ k. f k && g k) v (go (Some (number Int))) (λ k t. (both (f k) (g k) t).0) h
  both-left (integer_of f) unknown v go h = tt
  both-left (integer_of f) (holds b) v go h = tt
  both-left (integer_of f) (argument j u) v go h = tt
  both-left (holds a) y v go h = by_test (same_kept (holds a) y)
    where
      by_test : (b : Bool) → KeptAs K F (if b then holds a else unknown) v (go (local_kept (if b then holds a else unknown)))
      by_test true = h
      by_test false = tt
  both-left (argument i t) y v go h = by_test (same_kept (argument i t) y)
    where
      by_test : (b : Bool) → KeptAs K F (if b then argument i t else unknown) v (go (local_kept (if b then argument i t else unknown)))
      by_test true = tt
      by_test false = tt

  both-right : (x y : Kept) (v : source.Value) (go : Option Sort → Result Value ℕ) → KeptAs K F y v (go (local_kept y))
      → KeptAs K F (both_kept x y) v (go (local_kept (both_kept x y)))
  both-right unknown y v go h = tt
  both-right (integer_of f) (integer_of g) v go h = narrower g (λ k. f k && g k) v (go (Some (number Int))) (λ k t. (both (f k) (g k) t).1) h
  both-right (integer_of f) unknown v go h = tt
  both-right (integer_of f) (holds b) v go h = tt
  both-right (integer_of f) (argument j u) v go h = tt
  both-right (holds (address t)) (holds (address u)) v go h = by_test (type_eq t u) refl
    where
      by_test : (b : Bool) → type_eq t u ≡ b → KeptAs K F (if b then holds (address t) else unknown) v (go (local_kept (if b then holds (address t) else unknown)))
      by_test true e = subst (λ z. KeptAs K F (holds (address z)) v (go (Some (address z)))) (sym (same-type t u e)) h
      by_test false e = tt
  both-right (holds (code t)) (holds (code u)) v go h = by_test (type_eq t u) refl
    where
      by_test : (b : Bool) → type_eq t u ≡ b → KeptAs K F (if b then holds (code t) else unknown) v (go (local_kept (if b then holds (code t) else unknown)))
      by_test true e = subst (λ z. KeptAs K F (holds (code z)) v (go (Some (code z)))) (sym (same-type t u e)) h
      by_test false e = tt
  both-right (holds a) y v go h = tt
  both-right (argument i t) y v go h = by_test (same_kept (argument i t) y)
    where
      by_test : (b : Bool) → KeptAs K F (if b then argument i t else unknown) v (go (local_kept (if b then argument i t else unknown)))
      by_test true = tt
      by_test false = tt

  module _ (scope : Scope) (m : Memory) (g : Registers) (one two : Keeping) where
    pub common-left : InRegisters K F one g scope m → InRegisters K F (common one two) g scope m
    common-left h r v e = both-left (one r) (two r) v (λ a. value_of (local_value a r) scope m) (h r v e)

    pub common-right : InRegisters K F two g scope m → InRegisters K F (common one two) g scope m
    common-right h r v e = both-right (one r) (two r) v (λ a. value_of (local_value a r) scope m) (h r v e)

module _ (K : Fixed) (own : Own) (scope : Scope) (F : Map) (one two : Keeping) (ways : Ways)
    (wider : (G : Map) (g : Registers) (m : Memory) → InRegisters K G one g scope m → InRegisters K G two g scope m) where
  ends-wider : (flow : plain.Flow) (s : State) (d : c.Flow) → Ends K own scope F one ways flow s d → Ends K own scope F two ways flow s d
  ends-wider (Falls g) s d h = record {
    after = h.after;
    is = h.is;
    stays = record {
      map = h.stays.map;
      grows = h.stays.grows;
      between = record {
        rel = h.stays.between.rel;
        registers = wider h.stays.map g h.after.memory h.stays.between.registers;
        blocks = h.stays.between.blocks;
        locals = h.stays.between.locals;
      };
    };
  }
  ends-wider (Breaks g) s d h = h
  ends-wider (Continues g) s d h = h
  ends-wider (Returns v) s d h = h

  pub keeps-less : (x : Ran (Did plain.Flow)) (y : Ran c.Flow) → Simulates (Ends K own scope F one ways) x y → Simulates (Ends K own scope F two ways) x y
  keeps-less (Went (Gives flow s) w) y h = record { by = record { value = h.by.value; run = h.by.run; related = ends-wider flow s h.by.value h.by.related } }
  keeps-less (Went (Exits z s) w) y h = record { by = h.by }
  keeps-less (Went Malformed w) y h = record { by = tt }
  keeps-less (Stops (Undefined act) trace) y h = record { by = h.by }
  keeps-less (Stops (Ended status) trace) y h = record { by = h.by }
  keeps-less (Stops Ticks trace) y h = record { by = h.by }
  keeps-less (Stops Depth trace) y h = record { by = h.by }

-- ---- the C's blocks and conditions

no-ending : (r : Ran c.Flow) (b : ℕ) → and_then r (λ flow w. Went (ending 0 b flow) w) ≡ r
no-ending (Went (c.Falls s) w) b = refl
no-ending (Went (c.Breaks s) w) b = refl
no-ending (Went (c.Continues s) w) b = refl
no-ending (Went (c.Returns v s) w) b = refl
no-ending (Went (c.Exits z s) w) b = refl
no-ending (Stops end trace) b = refl

pub falls-on : (r : Ran c.Flow) → and_then r (falling (λ s w. Went (c.Falls s) w)) ≡ r
falls-on (Went (c.Falls s) w) = refl
falls-on (Went (c.Breaks s) w) = refl
falls-on (Went (c.Continues s) w) = refl
falls-on (Went (c.Returns v s) w) = refl
falls-on (Went (c.Exits z s) w) = refl
falls-on (Stops end trace) = refl

c-true : (z : ℤ) → is_true z ≡ nonzero z
c-true (pos zero) = refl
c-true (pos (suc n)) = refl
c-true (negsuc n) = refl

source-true : (z : ℤ) → not (int_le z (pos 0) && int_le (pos 0) z) ≡ nonzero z
source-true (pos zero) = refl
source-true (pos (suc n)) = grind (arith, nat_tests)
source-true (negsuc n) = refl

module _ (again helps : mean.Again) (p : Program) (grown : GrowsAgain again) (helped : GrowsAgain helps)
    (helper : Bool) (scope : Scope) (depth : ℕ) where
  pub block-runs : (ss : List Statement) (t : c.State) (w : World) → does_body again helps p helper (block ss) scope depth t w ≡ runs again helps p helper scope depth ss t w
  block-runs ss t w = no-ending (runs again helps p helper scope depth ss t w) t.memory.next

  module _ (K : Fixed) (own : Own) (F : Map) (kept one two : Keeping) (g : Registers) (s : State) (t : c.State) (w : World) (r : Register) (f : Kind → Bool)
      (kr : kept r ≡ integer_of f) (regs : InRegisters K F kept g scope t.memory) (xs ys : List Statement) (ways : Ways) (a b : Act plain.Flow)
      (first : Simulates (Ends K own scope F one ways) (a s w) (runs again helps p helper scope depth xs t w))
      (second : Simulates (Ends K own scope F two ways) (b s w) (runs again helps p helper scope depth ys t w)) where
    abbrev target : Ran c.Flow
    target = runs again helps p helper scope depth (choose (integer_in r) (block xs) (block ys) ∷ []) t w

    abbrev Q : Ran (Did plain.Flow) → Type 0
    Q ran = Simulates (Ends K own scope F (common one two) ways) ran target

    chosen : (z : ℤ) → HasValue K F (integer_of f) (source.Number z) (value_of (integer_in r) scope t.memory)
        → target ≡ (if nonzero z then runs again helps p helper scope depth xs t w else runs again helps p helper scope depth ys t w)
    chosen z h =
        falls-on _
        ∙ ap (λ a. tried (on_ok a (λ v. numbered v (λ k z. Ok z))) w
        (λ z. if is_true z then does_body again helps p helper (block xs) scope depth t w else does_body again helps p helper (block ys) scope depth t w))
        (h.is ∙ ap (λ (v : Value). Ok v) h.same.is)
        ∙ ap (λ q. if q then does_body again helps p helper (block xs) scope depth t w else does_body again helps p helper (block ys) scope depth t w)
        (c-true (convert Int z) ∙ nonzero-word z h.same.word)
        ∙ ap (λ x. if nonzero z then x else does_body again helps p helper (block ys) scope depth t w) (block-runs xs t w)
        ∙ ap (λ y. if nonzero z then runs again helps p helper scope depth xs t w else y) (block-runs ys t w)

    by-number : (z : ℤ) → HasValue K F (integer_of f) (source.Number z) (value_of (integer_in r) scope t.memory) → Q (when (not (int_le z (pos 0) && int_le (pos 0) z)) a b s w)
    by-number z h =
        subst (λ q. Simulates (Ends K own scope F (common one two) ways) (when q a b s w) target) (sym (source-true z))
        (subst (λ y. Simulates (Ends K own scope F (common one two) ways) (when (nonzero z) a b s w) y) (sym (chosen z h)) (by_test (nonzero z)))
      where
        by_test : (q : Bool) → Simulates (Ends K own scope F (common one two) ways) (when q a b s w)
            (if q then runs again helps p helper scope depth xs t w else runs again helps p helper scope depth ys t w)
        by_test true = keeps-less K own scope F one (common one two) ways (λ G g m h. common-left K G scope m g one two h) (a s w) _ first
        by_test false = keeps-less K own scope F two (common one two) ways (λ G g m h. common-right K G scope m g one two h) (b s w) _ second

    pub branches : Q ((used_in g r >>= plain.is_true >>= (λ q. when q a b)) s w)
    branches = by_value (g r) refl
      where
        known : (v : source.Value) → g r ≡ Some v → KeptAs K F (integer_of f) v (value_of (integer_in r) scope t.memory)
        known v e = subst (λ y. KeptAs K F y v (value_of (local_value (local_kept y) r) scope t.memory)) kr (regs r v e)

        by_value : (y : Option source.Value) → g r ≡ y → Q ((some_or y malformed >>= used >>= plain.is_true >>= (λ q. when q a b)) s w)
        by_value None e = record { by = tt }
        by_value (Some source.Nothing) e = record { by = tt }
        by_value (Some source.Missing) e = record { by = (grows-does_all again helps grown helped p helper (in_order (choose (integer_in r) (block xs) (block ys) ∷ [])) scope depth t w).by }
        by_value (Some source.Built) e = record { by = tt }
        by_value (Some (source.Number z)) e = by-number z (known (source.Number z) e)
        by_value (Some source.Null) e = record { by = tt }
        by_value (Some (source.At o)) e = record { by = tt }
        by_value (Some (source.Code n)) e = record { by = tt }
        by_value (Some (source.DataMember path i)) e = record { by = tt }
        by_value (Some (source.FunctionMember path d)) e = record { by = tt }

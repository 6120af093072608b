-- Statements behind statements, and branches.
use Rattle.std.proofs.Common.{◌≡◌, ℕ, zero, suc, Bool, true, false, not, ◌&&◌, if◌then◌else◌, List, [], ◌∷◌, ◌++◌, refl, sym, ◌∙◌, ap, subst, arith}
use Rattle.std.proofs.lemmas.Bool.Decides.{nat_tests}
use Rattle.std.specs.Prelude.{ℤ, pos, negsuc, int_le, Option, Some, None, Ok}
use Rattle.cf_base.specs.declared.kind.Kind.TheVariants.{Int}
use Rattle.cf_base.specs.Integers.{convert}
use Rattle.cf_base.specs.World.{World, Ran, and_then}
use Rattle.cf_base.specs.Agree.{Adds}
use Rattle.cf_core.specs.Store as source
use Rattle.cf_core.specs.Run.{State, Did, Act, ◌>>=◌, onward, malformed, some_or, when}
use Rattle.cf_core.specs.Access.{used}
use Rattle.cf_plain.specs.Plain.{Register, Plain, Plains, branch}
use Rattle.cf_plain.specs.Acts.{Registers}
use Rattle.cf_plain.specs.Running as plain
use Rattle.cf_plain.specs.Running.{Flow, Falls, Breaks, Continues, Returns, does, all}
use Rattle.cc_whole.specs.Plain as c_tree
use Rattle.cc_whole.specs.Plain.{Statement, SwitchItems, in_order}
use Rattle.cc_whole_memory.specs.Blocks.{on_ok}
use Rattle.cc_whole_mean.specs.Values.{numbered, is_true, value_of}
use Rattle.cc_whole_mean.specs.Flow as c
use Rattle.cc_whole_mean.specs.Flow.{tried, falling}
use Rattle.cc_whole_mean.specs.Mean as mean
use Rattle.cc_whole_mean.specs.Mean.{does_body}
use Rattle.cc_whole_mean.proofs.Growth.{grows-falling, grows-does_all, grows-does_items}
use Rattle.cf_lower_relate.proofs.Bits.{nonzero, nonzero-word}
use Rattle.cf_lower.specs.Kept.{Keeping, after}
use Rattle.cf_lower.specs.Expressions.{integer_in}
use Rattle.cf_lower.specs.Statements.{block, stated_all, items, all_lowered}
use Rattle.cf_lower_steps.specs.Flows.{Simulates}
use Rattle.cf_lower_steps.proofs.Branches.{block-runs, falls-on}
use Rattle.cf_lower_steps.proofs.Statements.{runs-join}
use Rattle.cf_lower_turns.specs.Around.{Around, depth_of, inside_at}
use Rattle.cf_lower_bounds.specs.Needs.{IsNumber, is_nonzero}
use Rattle.cf_lower_turns.proofs.Following.{sim-here, sim-as, leaves-pass}
use Rattle.cf_lower_place.specs.Input.{IsInput}
use Rattle.cf_lower_bounds.proofs.Inputs.{Takes, takes-does_all, sim-on}
use Rattle.cf_lower_bounds.proofs.Laws.{HasNumber}
use Rattle.cf_lower_bounds.proofs.Leaving.{ways-leave}
use Rattle.cf_lower_bounds.proofs.Setup.{Setup, Runners, ends, list, lowered_at, all_at, SameFrom}
use Rattle.cf_lower_bounds.proofs.Written.{items-run}

c-true : (n : ℤ) → is_true n ≡ nonzero n
c-true (pos zero) = refl
c-true (pos (suc n)) = refl
c-true (negsuc n) = refl

source-true : (n : ℤ) → not (int_le n (pos 0) && int_le (pos 0) n) ≡ nonzero n
source-true (pos zero) = refl
source-true (pos (suc n)) = grind (arith, nat_tests)
source-true (negsuc n) = refl

module _ (z : Setup) (m : Runners) (around : Around z.Point) where
  abbrev d : ℕ
  d = depth_of around

  -- where the first falls the next follows
  module _ (p e : z.Point) (f : Registers → Act Flow) (go : c.State → World → Ran c.Flow) (follow : SameFrom z m p around e f go)
      (grows : (t : c.State) (w : World) → Adds w.trace (go t w)) where
    next-falls : (flow : Flow) (s : State) (x : c.Flow) (w : World) → IsInput w.input → ends z around p flow s x → Simulates (ends z around e) ((plain.falling f flow) s w) (falling go x w)
    next-falls (Falls g) s x w i h = sim-as (ends z around e) (f g s w) (go h.after w) (falling go x w) (ap (λ y. falling go y w) h.is) (follow g s h.after w h.related i)
    next-falls (Breaks g) s x w i h =
        sim-here (ends z around e) (Breaks g) s w (falling go x w) x (leaves-pass go x w (ways-leave z m around (Breaks g) s x h)) h
    next-falls (Continues g) s x w i h =
        sim-here (ends z around e) (Continues g) s w (falling go x w) x (leaves-pass go x w (ways-leave z m around (Continues g) s x h)) h
    next-falls (Returns v) s x w i h =
        sim-here (ends z around e) (Returns v) s w (falling go x w) x (leaves-pass go x w (ways-leave z m around (Returns v) s x h)) h

    pub falls-next : (input : List ℕ) (x : Ran (Did Flow)) (y : Ran c.Flow) → Takes input y → IsInput input → Simulates (ends z around p) x y
        → Simulates (ends z around e) (and_then x (λ did w. onward did (plain.falling f) w)) (and_then y (falling go))
    falls-next input x y takes i h =
        sim-on (ends z around p) (ends z around e) input x y (plain.falling f) (falling go) takes i h (λ flow s x w i k. next-falls flow s x w i k) (λ n t w. refl)
        (λ x w. grows-falling go grows x w)

  list-grows : (ss : List Statement) (t : c.State) (w : World) → Adds w.trace (list z m ss t w)
  list-grows ss t w = grows-does_all m.c_again m.helps m.grown m.helped m.c_program m.helper (in_order ss) z.scope m.depth t w

  list-takes : (ss : List Statement) (t : c.State) (w : World) → Takes w.input (list z m ss t w)
  list-takes ss t w = takes-does_all m.c_again m.helps m.left m.left_helps m.c_program m.helper (in_order ss) z.scope m.depth t w

  -- a statement and those behind it, which stand at this point
  pub then-all : (s : Plain) (ss : Plains) (p h e : z.Point) → z.kept h ≡ after z.inside.locals s (z.kept p)
      → SameFrom z m p around h (does m.again m.program s) (λ t w. list z m (lowered_at z s around p) t w)
      → SameFrom z m h around e (all m.again m.program ss) (λ t w. list z m (all_at z ss around h) t w)
      → SameFrom z m p around e (λ g. does m.again m.program s g >>= plain.falling (λ h. all m.again m.program ss h))
      (λ t w. list z m (lowered_at z s around p ++ all_lowered ss (inside_at z.inside around) (after z.inside.locals s (z.kept p))) t w)
  then-all s ss p h e kept first follow g st t w r i =
      let behind : List Statement = all_lowered ss (inside_at z.inside around) (after z.inside.locals s (z.kept p)) in
      sim-as (ends z around e) _ _ _
      (runs-join m.c_again m.helps m.c_program m.helper z.scope m.depth (lowered_at z s around p) behind t w)
      (falls-next h e (all m.again m.program ss) (λ t w. list z m behind t w)
      (subst (λ k. SameFrom z m h around e (all m.again m.program ss) (λ t w. list z m (all_lowered ss (inside_at z.inside around) k) t w)) kept follow)
      (λ t w. list-grows behind t w) w.input (does m.again m.program s g st w) (list z m (lowered_at z s around p) t w) (list-takes (lowered_at z s around p) t w) i
      (first g st t w r i))

  -- the same in a switch, at whose labels registers hold this
  pub then-items : (s : Plain) (ss : Plains) (k : Keeping) (p h e : z.Point) → z.kept h ≡ after z.inside.locals s (z.kept p)
      → SameFrom z m p around h (does m.again m.program s) (λ t w. list z m (lowered_at z s around p) t w)
      → SameFrom z m h around e (all m.again m.program ss)
      (λ t w. mean.does_items m.c_again m.helps m.c_program m.helper (items ss (inside_at z.inside around) k (z.kept h)) z.scope m.depth t w)
      → SameFrom z m p around e (λ g. does m.again m.program s g >>= plain.falling (λ h. all m.again m.program ss h))
      (λ t w. mean.does_items m.c_again m.helps m.c_program m.helper
      (stated_all (lowered_at z s around p) (items ss (inside_at z.inside around) k (after z.inside.locals s (z.kept p)))) z.scope m.depth t w)
  then-items s ss k p h e kept first follow g st t w r i =
      let behind : SwitchItems = items ss (inside_at z.inside around) k (after z.inside.locals s (z.kept p)) in
      sim-as (ends z around e) _ _ _
      (items-run m.c_again m.helps m.c_program m.grown m.helped m.helper z.scope m.depth (lowered_at z s around p) behind t w)
      (falls-next h e (all m.again m.program ss) (λ t w. mean.does_items m.c_again m.helps m.c_program m.helper behind z.scope m.depth t w)
      (subst (λ i. SameFrom z m h around e (all m.again m.program ss)
      (λ t w. mean.does_items m.c_again m.helps m.c_program m.helper (items ss (inside_at z.inside around) k i) z.scope m.depth t w)) kept follow)
      (λ t w. grows-does_items m.c_again m.helps m.grown m.helped m.c_program m.helper behind z.scope m.depth t w)
      w.input (does m.again m.program s g st w) (list z m (lowered_at z s around p) t w) (list-takes (lowered_at z s around p) t w) i (first g st t w r i))

  -- ---- branches

  -- from points at which it is known whether the number is 0
  module _ (r : Register) (ss ts : Plains) (p e set unset : z.Point) (number : IsNumber (z.kept p r))
      (into_set : (g : Registers) (s : State) (t : c.State) (n : ℤ) → g r ≡ Some (source.Number n) → is_nonzero n ≡ true → z.R p d g s t → z.R set d g s t)
      (into_unset : (g : Registers) (s : State) (t : c.State) (n : ℤ) → g r ≡ Some (source.Number n) → is_nonzero n ≡ false → z.R p d g s t → z.R unset d g s t)
      (first : SameFrom z m set around e (all m.again m.program ss) (λ t w. list z m (all_at z ss around p) t w))
      (second : SameFrom z m unset around e (all m.again m.program ts) (λ t w. list z m (all_at z ts around p) t w))
      (g : Registers) (s : State) (t : c.State) (w : World) (at : z.R p d g s t) (input : IsInput w.input) where
    abbrev xs : List Statement
    xs = all_at z ss around p

    abbrev ys : List Statement
    ys = all_at z ts around p

    abbrev target : Ran c.Flow
    target = list z m (c_tree.choose (integer_in r) (block xs) (block ys) ∷ []) t w

    abbrev Q : Ran (Did Flow) → Type 0
    Q ran = Simulates (ends z around e) ran target

    chosen : (n : ℤ) → HasNumber number.kinds n (value_of (integer_in r) z.scope t.memory) → target ≡ (if nonzero n then list z m xs t w else list z m ys t w)
    chosen n h =
        falls-on _
        ∙ ap (λ a. tried (on_ok a (λ v. numbered v (λ k y. Ok y))) w
        (λ y. if is_true y then does_body m.c_again m.helps m.c_program m.helper (block xs) z.scope m.depth t w
        else does_body m.c_again m.helps m.c_program m.helper (block ys) z.scope m.depth t w)) h.is
        ∙ ap (λ q. if q then does_body m.c_again m.helps m.c_program m.helper (block xs) z.scope m.depth t w
        else does_body m.c_again m.helps m.c_program m.helper (block ys) z.scope m.depth t w)
        (c-true (convert Int n) ∙ nonzero-word n h.word)
        ∙ ap (λ x. if nonzero n then x else does_body m.c_again m.helps m.c_program m.helper (block ys) z.scope m.depth t w)
        (block-runs m.c_again m.helps m.c_program m.grown m.helped m.helper z.scope m.depth xs t w)
        ∙ ap (λ y. if nonzero n then list z m xs t w else y) (block-runs m.c_again m.helps m.c_program m.grown m.helped m.helper z.scope m.depth ys t w)

    by-number : (n : ℤ) → g r ≡ Some (source.Number n) → HasNumber number.kinds n (value_of (integer_in r) z.scope t.memory)
        → Q (when (not (int_le n (pos 0) && int_le (pos 0) n)) (all m.again m.program ss g) (all m.again m.program ts g) s w)
    by-number n holds h =
        subst (λ q. Q (when q (all m.again m.program ss g) (all m.again m.program ts g) s w)) (sym (source-true n))
        (sim-as (ends z around e) (when (nonzero n) (all m.again m.program ss g) (all m.again m.program ts g) s w) (if nonzero n then list z m xs t w else list z m ys t w) target
        (chosen n h) (by_test (nonzero n) refl))
      where
        by_test : (q : Bool) → nonzero n ≡ q → Simulates (ends z around e) (when q (all m.again m.program ss g) (all m.again m.program ts g) s w) (if q then list z m xs t w else list z m ys t w)
        by_test true k = first g s t w (into_set g s t n holds (source-true n ∙ k) at) input
        by_test false k = second g s t w (into_unset g s t n holds (source-true n ∙ k) at) input

    pub branches : Q (does m.again m.program (branch r ss ts) g s w)
    branches = by_value (g r) refl
      where
        by_value : (y : Option source.Value) → g r ≡ y
            → Q ((some_or y malformed >>= used >>= plain.is_true >>= (λ q. when q (all m.again m.program ss g) (all m.again m.program ts g))) s w)
        by_value None i = record { by = tt }
        by_value (Some source.Nothing) i = record { by = tt }
        by_value (Some source.Missing) i = record { by = (list-grows (c_tree.choose (integer_in r) (block xs) (block ys) ∷ []) t w).by }
        by_value (Some source.Built) i = record { by = tt }
        by_value (Some (source.Number n)) i = by-number n i (z.laws.number p d g s t at r number.kinds n number.is i)
        by_value (Some source.Null) i = record { by = tt }
        by_value (Some (source.At o)) i = record { by = tt }
        by_value (Some (source.Code f)) i = record { by = tt }
        by_value (Some (source.DataMember path j)) i = record { by = tt }
        by_value (Some (source.FunctionMember path f)) i = record { by = tt }

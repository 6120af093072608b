-- What runs in a helper registers nothing for `exit`, unless a tick was spent.
use Rattle.std.proofs.Common.{◌≡◌, ℕ, zero, suc, ◌<◌, ◌≤◌, Bool, true, false, List, [], ◌∷◌, length, Option, Some, None, Result, Ok, Err, ℤ, refl, sym, subst, ◌∙◌, arith, cond, ◌==◌}
use Rattle.cf_base.specs.Integers.{bits_of}
use Rattle.cf_base.specs.Event.{Enter}
use Rattle.cf_base.specs.World.{World, Ran, Went, Stops, and_then, spend, spend_of, deeper, show, next_of}
use Rattle.cc_whole.specs.Known.{is_helper, is_main}
use Rattle.cc_whole.specs.Plain.{Place, Expression, Callee as Called_by, Statement, assign, call, block, leave, next, choose, loop, select, give, Statements, done, followed, SwitchItems, closed, labelled, otherwise, stated, Body, body, Function}
use Rattle.cc_whole_memory.specs.declared.value.Pointer.{Pointer}
use Rattle.cc_whole_memory.specs.declared.value.Value.{Value}
use Rattle.cc_whole_memory.specs.declared.value.Value.TheVariants as value
use Rattle.cc_whole_memory.specs.Blocks.{freed, on_ok}
use Rattle.cc_whole_mean.specs.declared.named.Target.{Target}
use Rattle.cc_whole_mean.specs.Scope.{Scope, bind_locals, bind_parameters}
use Rattle.cc_whole_mean.specs.Values.{values_of, stored, assigned, integer_of, is_true}
use Rattle.cc_whole_mean.specs.Flow.{State, in_memory, Flow, Falls, Breaks, Continues, Returns, Exits, tried, falling, turning, switching, ending, born_locals, born_arguments, Called, Back, Gone, called_back}
use Rattle.cc_whole_mean.specs.Callee.{Callee, own, built_in}
use Rattle.cc_whole_mean.specs.Callee as callee
use Rattle.cc_whole_mean.specs.Library.{does_library, of_number, of_pointer, of_function, of_none, of_one, back_int, byte_or_end, wrong}
use Rattle.cc_whole_mean.specs.Mean.{Program, Again, run_function, enter_function, called_own, called, chosen, callee_of, targeted, used, go_back, call_to, given, wanted, is_wanted, does, does_body, does_all, does_from, does_items, refused}
use Rattle.cc_whole_mean.specs.Start.{state_after}
use Rattle.cc_whole_mean.proofs.Enough.{Left, AlikeBelow, alike-body}

abbrev pub registered_in : Flow → List ℕ
registered_in (Falls s) = s.registered
registered_in (Breaks s) = s.registered
registered_in (Continues s) = s.registered
registered_in (Returns v s) = s.registered
registered_in (Exits z s) = s.registered

abbrev pub registered_after : Called → List ℕ
registered_after r = (state_after r).registered

-- a run that goes on has at most so many ticks left, and where it has as many, these functions are registered
pub record Holds (n t : ℕ) (found want : List ℕ) : Type 0 where
  pub left : n ≤ t
  pub same : n ≡ t → found ≡ want

abbrev pub Quiet : {A : Type 0} → (A → List ℕ) → List ℕ → ℕ → Ran A → Type 0
Quiet found want t (Went a w) = Holds w.ticks t (found a) want
Quiet found want t (Stops end trace) = Unit {0}

-- a run that goes on has fewer ticks left
abbrev pub Fewer : {A : Type 0} → ℕ → Ran A → Type 0
Fewer t (Went a w) = w.ticks < t
Fewer t (Stops end trace) = Unit {0}

quiet-fewer : {A : Type 0} (found : A → List ℕ) (want : List ℕ) (t : ℕ) (x : Ran A) → Fewer t x → Quiet found want t x
quiet-fewer found want t (Went a w) less = record { left = omega arith; same = λ e. absurd (omega arith) }
quiet-fewer found want t (Stops end trace) less = tt

quiet-weaker : {A : Type 0} (found : A → List ℕ) (before want : List ℕ) (n t : ℕ) (x : Ran A) → n ≤ t → (n ≡ t → before ≡ want)
    → Quiet found before n x → Quiet found want t x
quiet-weaker found before want n t (Went a w) le e h =
    let less : w.ticks ≤ n = h.left in
    record { left = omega arith; same = λ all. h.same (omega arith) ∙ e (omega arith) }
quiet-weaker found before want n t (Stops end trace) le e h = tt

quiet-then : {A B : Type 0} (found : A → List ℕ) (after : B → List ℕ) (want : List ℕ) (t : ℕ) (x : Ran A) (go : A → World → Ran B) → Quiet found want t x
    → ((a : A) (w : World) → w.ticks ≤ t → Quiet after (found a) w.ticks (go a w)) → Quiet after want t (and_then x go)
quiet-then found after want t (Went a w) go h k = quiet-weaker after (found a) want w.ticks t (go a w) h.left h.same (k a w h.left)
quiet-then found after want t (Stops end trace) go h k = tt

quiet-tried : {A B : Type 0} (found : B → List ℕ) (want : List ℕ) (t : ℕ) (r : Result A ℕ) (w : World) (go : A → Ran B)
    → ((a : A) → Quiet found want t (go a)) → Quiet found want t (tried r w go)
quiet-tried found want t (Ok a) w go h = h a
quiet-tried found want t (Err act) w go h = tt

quiet-if : {A : Type 0} (found : A → List ℕ) (want : List ℕ) (t : ℕ) (b : Bool) (x y : Ran A) → Quiet found want t x → Quiet found want t y
    → Quiet found want t (cond b x y)
quiet-if found want t true x y h k = h
quiet-if found want t false x y h k = k

left-then : {A B : Type 0} (n : ℕ) (x : Ran A) (go : A → World → Ran B) → Left n x → ((a : A) (w : World) → w.ticks ≤ n → Left n (go a w)) → Left n (and_then x go)
left-then n (Went a w) go left h = h a w left
left-then n (Stops end trace) go left h = tt

left-weaker : {A : Type 0} (n k : ℕ) (x : Ran A) → n ≤ k → Left n x → Left k x
left-weaker n k (Went a w) le left = omega arith
left-weaker n k (Stops end trace) le left = tt

fewer-left : {A : Type 0} (n k : ℕ) (x : Ran A) → n < k → Left n x → Fewer k x
fewer-left n k (Went a w) less left = omega arith
fewer-left n k (Stops end trace) less left = tt

fewer-spend_of : {A : Type 0} (t : ℕ) (w : World) (go : World → Ran A) → t ≤ w.ticks → ((v : World) → v.ticks < w.ticks → Left v.ticks (go v))
    → Fewer w.ticks (spend_of t w go)
fewer-spend_of zero w go le h = tt
fewer-spend_of (suc t) w go le h = fewer-left t w.ticks (go (record w { ticks = t })) (omega arith) (h (record w { ticks = t }) (omega arith))

-- where a tick is spent, fewer are left
fewer-spend : {A : Type 0} (w : World) (go : World → Ran A) → ((v : World) → v.ticks < w.ticks → Left v.ticks (go v)) → Fewer w.ticks (spend w go)
fewer-spend w go h = fewer-spend_of w.ticks w go (omega arith) h

left-deeper : {A : Type 0} (n depth : ℕ) (w : World) (go : ℕ → Ran A) → ((d : ℕ) → Left n (go d)) → Left n (deeper depth w go)
left-deeper n zero w go h = tt
left-deeper n (suc depth) w go h = h depth

left-turning : (n : ℕ) (go : State → World → Ran Flow) → ((s : State) (w : World) → w.ticks ≤ n → Left n (go s w)) → (flow : Flow) (w : World) → w.ticks ≤ n
    → Left n (turning go flow w)
left-turning n go h (Falls s) w le = h s w le
left-turning n go h (Breaks s) w le = le
left-turning n go h (Continues s) w le = h s w le
left-turning n go h (Returns v s) w le = le
left-turning n go h (Exits z s) w le = le

quiet-went : {A : Type 0} (found : A → List ℕ) (a : A) (w : World) → Quiet found (found a) w.ticks (Went a w)
quiet-went found a w = record { left = omega arith; same = λ e. refl }

-- ---- the library, in a helper

quiet-byte : (input : List ℕ) (s : State) (w : World) → Quiet registered_after s.registered w.ticks (next_of input w (λ byte w. back_int (byte_or_end byte) s w))
quiet-byte [] s w = record { left = omega arith; same = λ e. refl }
quiet-byte (byte ∷ rest) s w = record { left = omega arith; same = λ e. refl }

quiet-none : (l : callee.Library) (s : State) (w : World) → Quiet registered_after s.registered w.ticks (of_none l s w)
quiet-none callee.putchar s w = tt
quiet-none callee.getchar s w = quiet-byte w.input s w
quiet-none callee.exit s w = tt
quiet-none callee.malloc s w = tt
quiet-none callee.free s w = tt
quiet-none callee.atexit s w = tt

quiet-number : (l : callee.Library) (z : ℤ) (s : State) (w : World) → Quiet registered_after s.registered w.ticks (of_number l z s w)
quiet-number callee.putchar z s w = record { left = omega arith; same = λ e. refl }
quiet-number callee.getchar z s w = tt
quiet-number callee.exit z s w = record { left = omega arith; same = λ e. refl }
quiet-number callee.malloc z s w = record { left = omega arith; same = λ e. refl }
quiet-number callee.free z s w = tt
quiet-number callee.atexit z s w = tt

quiet-pointer : (l : callee.Library) (p : Pointer) (s : State) (w : World) → Quiet registered_after s.registered w.ticks (of_pointer l p s w)
quiet-pointer callee.putchar p s w = tt
quiet-pointer callee.getchar p s w = tt
quiet-pointer callee.exit p s w = tt
quiet-pointer callee.malloc p s w = tt
quiet-pointer callee.free p s w = quiet-tried registered_after s.registered w.ticks (freed p w.heap s.memory) w _ (λ f. record { left = omega arith; same = λ e. refl })
quiet-pointer callee.atexit p s w = tt

quiet-function : (l : callee.Library) (f : ℕ) (s : State) (w : World) → Quiet registered_after s.registered w.ticks (of_function l true f s w)
quiet-function callee.putchar f s w = tt
quiet-function callee.getchar f s w = tt
quiet-function callee.exit f s w = tt
quiet-function callee.malloc f s w = tt
quiet-function callee.free f s w = tt
quiet-function callee.atexit f s w = tt

quiet-one : (l : callee.Library) (v : Value) (s : State) (w : World) → Quiet registered_after s.registered w.ticks (of_one l true v s w)
quiet-one l (value.Number k z) s w = quiet-number l z s w
quiet-one l (value.Address p) s w = quiet-pointer l p s w
quiet-one l (value.Function f) s w = quiet-function l f s w

quiet-library : (l : callee.Library) (vs : List Value) (s : State) (w : World) → Quiet registered_after s.registered w.ticks (does_library l true vs s w)
quiet-library l [] s w = quiet-none l s w
quiet-library l (v ∷ []) s w = quiet-one l v s w
quiet-library l (v ∷ (u ∷ vs)) s w = tt

-- ---- results

registered-ending : (k b : ℕ) (flow : Flow) → registered_after (called_back (ending k b flow)) ≡ registered_in flow
registered-ending k b (Falls s) = refl
registered-ending k b (Breaks s) = refl
registered-ending k b (Continues s) = refl
registered-ending k b (Returns v s) = refl
registered-ending k b (Exits z s) = refl

registered-ended : (k b : ℕ) (flow : Flow) → registered_in (ending k b flow) ≡ registered_in flow
registered-ended k b (Falls s) = refl
registered-ended k b (Breaks s) = refl
registered-ended k b (Continues s) = refl
registered-ended k b (Returns v s) = refl
registered-ended k b (Exits z s) = refl

registered-switching : (flow : Flow) → registered_in (switching flow) ≡ registered_in flow
registered-switching (Falls s) = refl
registered-switching (Breaks s) = refl
registered-switching (Continues s) = refl
registered-switching (Returns v s) = refl
registered-switching (Exits z s) = refl

quiet-back : (at : Option Target) (r : Called) (w : World) → Quiet registered_in (registered_after r) w.ticks (go_back at r w)
quiet-back None (Back v s) w = record { left = omega arith; same = λ e. refl }
quiet-back (Some at) (Back v s) w = quiet-tried registered_in s.registered w.ticks (on_ok (used v) (λ v. stored at v s.memory)) w _ (λ m. record { left = omega arith; same = λ e. refl })
quiet-back at (Gone z s) w = record { left = omega arith; same = λ e. refl }

quiet-falling : (n : ℕ) (go : State → World → Ran Flow) → ((s : State) (w : World) → w.ticks ≤ n → Quiet registered_in s.registered w.ticks (go s w))
    → (flow : Flow) (w : World) → w.ticks ≤ n → Quiet registered_in (registered_in flow) w.ticks (falling go flow w)
quiet-falling n go h (Falls s) w le = h s w le
quiet-falling n go h (Breaks s) w le = record { left = omega arith; same = λ e. refl }
quiet-falling n go h (Continues s) w le = record { left = omega arith; same = λ e. refl }
quiet-falling n go h (Returns v s) w le = record { left = omega arith; same = λ e. refl }
quiet-falling n go h (Exits z s) w le = record { left = omega arith; same = λ e. refl }

module _ (p : Program) (k : ℕ) (a b : Again) (again : AlikeBelow k a b) where
  helped : AlikeBelow (suc k) refused refused
  helped inside st scope depth s w less = record { same = refl; left = tt }

  -- a function that is no helper spends a tick
  pub fewer-entered : (f : Function) (vs : List Value) (depth : ℕ) (s : State) (w : World) → w.ticks ≤ k → Fewer w.ticks (enter_function a p.names f vs depth s w)
  fewer-entered f vs depth s w le = fewer-spend w _ (λ v less. left-deeper v.ticks depth v _ (λ d.
      left-then v.ticks
      (a false (block f.body) (bind_parameters f.prototype.parameters s.memory.next p.names) d (in_memory s (born_arguments vs s.memory)) (show (Enter f.prototype.name) v)) _
      (again false (block f.body) (bind_parameters f.prototype.parameters s.memory.next p.names) d (in_memory s (born_arguments vs s.memory)) (show (Enter f.prototype.name) v) (omega arith)).left
      (λ flow u le'. le')))

  quiet-own : (f : Function) (vs : List Value) (depth : ℕ) (s : State) (w : World) → w.ticks ≤ k
      → Quiet registered_after s.registered w.ticks (called_own a refused p.names true f vs depth s w)
  quiet-own f vs depth s w le =
      quiet-if registered_after s.registered w.ticks (is_main f.prototype.name) (wrong w) _ tt
      (quiet-if registered_after s.registered w.ticks (length f.prototype.parameters == length vs) _ (wrong w)
      (quiet-if registered_after s.registered w.ticks (is_helper f.prototype.name) (wrong w) _ tt
      (quiet-fewer registered_after s.registered w.ticks (enter_function a p.names f vs depth s w) (fewer-entered f vs depth s w le))) tt)

  quiet-called : (c : Callee) (vs : List Value) (depth : ℕ) (s : State) (w : World) → w.ticks ≤ k
      → Quiet registered_after s.registered w.ticks (called a refused p true c vs depth s w)
  quiet-called (own f) vs depth s w le = quiet-own f vs depth s w le
  quiet-called (built_in l) vs depth s w le = quiet-library l vs s w

  quiet-call : (f : Called_by) (place : Option Place) (es : List Expression) (scope : Scope) (depth : ℕ) (s : State) (w : World) → w.ticks ≤ k
      → Quiet registered_in s.registered w.ticks (call_to (λ c vs s w. called a refused p true c vs depth s w) p.functions true place f es scope s w)
  quiet-call f place es scope depth s w le =
      quiet-tried registered_in s.registered w.ticks (targeted place scope s.memory) w _ (λ at.
      quiet-tried registered_in s.registered w.ticks (chosen true f scope s.memory) w _ (λ f.
      quiet-tried registered_in s.registered w.ticks (values_of es scope s.memory) w _ (λ vs.
      quiet-tried registered_in s.registered w.ticks (callee_of p.functions f) w _ (λ c.
      quiet-then registered_after registered_in s.registered w.ticks (called a refused p true c vs depth s w) _ (quiet-called c vs depth s w le) (λ r v le'. quiet-back at r v)))))

  mutual
    pub quiet-does : (st : Statement) (scope : Scope) (depth : ℕ) (s : State) (w : World) → w.ticks ≤ k
        → Quiet registered_in s.registered w.ticks (does a refused p true st scope depth s w)
    quiet-does (assign place e) scope depth s w le =
        quiet-tried registered_in s.registered w.ticks (assigned place e scope s.memory) w _ (λ m. record { left = omega arith; same = λ e. refl })
    quiet-does (call place f es) scope depth s w le = quiet-call f place es scope depth s w le
    quiet-does (block c) scope depth s w le = quiet-body c scope depth s w le
    quiet-does leave scope depth s w le = record { left = omega arith; same = λ e. refl }
    quiet-does next scope depth s w le = record { left = omega arith; same = λ e. refl }
    quiet-does (choose e c other) scope depth s w le = quiet-tried registered_in s.registered w.ticks (integer_of e scope s.memory) w _ (λ z.
        quiet-if registered_in s.registered w.ticks (is_true z) _ _ (quiet-body c scope depth s w le) (quiet-body other scope depth s w le))
    quiet-does (loop c) scope depth s w le = quiet-fewer registered_in s.registered w.ticks _ (fewer-spend w _ (λ v less.
        left-then v.ticks (does_body a refused p true c scope depth s v) _ (alike-body p k a b refused refused again helped true c scope depth s v (omega arith)).left
        (left-turning v.ticks _ (λ s u le'. left-weaker u.ticks v.ticks (a true (loop c) scope depth s u) le' (again true (loop c) scope depth s u (omega arith)).left))))
    quiet-does (select e items) scope depth s w le = quiet-tried registered_in s.registered w.ticks (integer_of e scope s.memory) w _ (λ z.
        quiet-then registered_in registered_in s.registered w.ticks (does_from a refused p true (wanted (bits_of 32 z) items) items scope depth s w) _
        (quiet-from (wanted (bits_of 32 z) items) items scope depth s w le) (λ flow v le'. record { left = omega arith; same = λ e. registered-switching flow }))
    quiet-does (give e) scope depth s w le = quiet-tried registered_in s.registered w.ticks (given e scope s.memory) w _ (λ v. record { left = omega arith; same = λ e. refl })

    quiet-body : (c : Body) (scope : Scope) (depth : ℕ) (s : State) (w : World) → w.ticks ≤ k
        → Quiet registered_in s.registered w.ticks (does_body a refused p true c scope depth s w)
    quiet-body (body locals all) scope depth s w le =
        quiet-then registered_in registered_in s.registered w.ticks
        (does_all a refused p true all (bind_locals locals s.memory.next scope) depth (in_memory s (born_locals locals s.memory)) w) _
        (quiet-all all (bind_locals locals s.memory.next scope) depth (in_memory s (born_locals locals s.memory)) w le)
        (λ flow v le'. record { left = omega arith; same = λ e. registered-ended (length locals) s.memory.next flow })

    quiet-all : (all : Statements) (scope : Scope) (depth : ℕ) (s : State) (w : World) → w.ticks ≤ k
        → Quiet registered_in s.registered w.ticks (does_all a refused p true all scope depth s w)
    quiet-all done scope depth s w le = record { left = omega arith; same = λ e. refl }
    quiet-all (followed st rest) scope depth s w le =
        quiet-then registered_in registered_in s.registered w.ticks (does a refused p true st scope depth s w) _ (quiet-does st scope depth s w le)
        (λ flow v le'. quiet-falling k _ (λ s u few. quiet-all rest scope depth s u few) flow v (omega arith))

    quiet-from : (label : Option ℕ) (items : SwitchItems) (scope : Scope) (depth : ℕ) (s : State) (w : World) → w.ticks ≤ k
        → Quiet registered_in s.registered w.ticks (does_from a refused p true label items scope depth s w)
    quiet-from label closed scope depth s w le = record { left = omega arith; same = λ e. refl }
    quiet-from label (labelled c rest) scope depth s w le =
        quiet-if registered_in s.registered w.ticks (is_wanted label c) _ _ (quiet-items rest scope depth s w le) (quiet-from label rest scope depth s w le)
    quiet-from None (otherwise rest) scope depth s w le = quiet-items rest scope depth s w le
    quiet-from (Some bits) (otherwise rest) scope depth s w le = quiet-from (Some bits) rest scope depth s w le
    quiet-from label (stated st rest) scope depth s w le = quiet-from label rest scope depth s w le

    quiet-items : (items : SwitchItems) (scope : Scope) (depth : ℕ) (s : State) (w : World) → w.ticks ≤ k
        → Quiet registered_in s.registered w.ticks (does_items a refused p true items scope depth s w)
    quiet-items closed scope depth s w le = record { left = omega arith; same = λ e. refl }
    quiet-items (labelled c rest) scope depth s w le = quiet-items rest scope depth s w le
    quiet-items (otherwise rest) scope depth s w le = quiet-items rest scope depth s w le
    quiet-items (stated st rest) scope depth s w le =
        quiet-then registered_in registered_in s.registered w.ticks (does a refused p true st scope depth s w) _ (quiet-does st scope depth s w le)
        (λ flow v le'. quiet-falling k _ (λ s u few. quiet-items rest scope depth s u few) flow v (omega arith))

  -- a function without arguments that is called at the end of a run, `inside` being how a helper's body runs
  module _ (inside : Again) (same : (st : Statement) (scope : Scope) (depth : ℕ) (s : State) (w : World)
      → inside true st scope depth s w ≡ does a refused p true st scope depth s w) where
    quiet-helper : (f : Function) (depth : ℕ) (s : State) (w : World) → w.ticks ≤ k
        → Quiet registered_after s.registered w.ticks (run_function (inside true) p.names f [] depth s w)
    quiet-helper f depth s w le =
        quiet-then registered_in registered_after s.registered w.ticks
        (inside true (block f.body) (bind_parameters f.prototype.parameters s.memory.next p.names) depth (in_memory s s.memory) w) _
        (subst (λ x. Quiet registered_in s.registered w.ticks x)
        (sym (same (block f.body) (bind_parameters f.prototype.parameters s.memory.next p.names) depth (in_memory s s.memory) w))
        (quiet-does (block f.body) (bind_parameters f.prototype.parameters s.memory.next p.names) depth (in_memory s s.memory) w le))
        (λ flow v le'. record { left = omega arith; same = λ e. registered-ending 0 s.memory.next flow })

    quiet-last_own : (f : Function) (depth : ℕ) (s : State) (w : World) → w.ticks ≤ k
        → Quiet registered_after s.registered w.ticks (called_own a inside p.names false f [] depth s w)
    quiet-last_own f depth s w le =
        quiet-if registered_after s.registered w.ticks (is_main f.prototype.name) (wrong w) _ tt
        (quiet-if registered_after s.registered w.ticks (length f.prototype.parameters == 0) _ (wrong w)
        (quiet-if registered_after s.registered w.ticks (is_helper f.prototype.name) _ _ (quiet-helper f depth s w le)
        (quiet-fewer registered_after s.registered w.ticks (enter_function a p.names f [] depth s w) (fewer-entered f [] depth s w le))) tt)

    pub quiet-last : (c : Callee) (depth : ℕ) (s : State) (w : World) → w.ticks ≤ k
        → Quiet registered_after s.registered w.ticks (called a inside p false c [] depth s w)
    quiet-last (own f) depth s w le = quiet-last_own f depth s w le
    quiet-last (built_in l) depth s w le = quiet-none l s w

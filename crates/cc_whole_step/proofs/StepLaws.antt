-- What each step keeps, as facts about moments.
use Rattle.std.proofs.Common.{◌≡◌, ℕ, zero, suc, ◌-◌, ◌<◌, ◌≤◌, Bool, true, false, ◌==◌, List, [], ◌∷◌, ◌++◌, length, ℤ, pos, negsuc, Option, Some, None, Result, Ok, Err, Bor, refl, ap, sym, ◌∙◌, arith, cond, map}
use Rattle.std.specs.Global.{Global}
use Rattle.std.specs.Prelude.{Vec}
use Rattle.cf_base.specs.Integers.{bits_of}
use Rattle.cf_base.specs.Event.{Ticks, Undefined}
use Rattle.cf_base.specs.World.{World, Ran, Went, Stops, and_then, spend_of}
use Rattle.cc_whole.specs.declared.statement.CStatement.{CStatement}
use Rattle.cc_whole.specs.declared.statement.CStatement.TheFolds.{fold_out-CBody}
use Rattle.cc_whole.specs.declared.statement.CSwitchItem.{CSwitchItem}
use Rattle.cc_whole.specs.declared.statement.CSwitchItem.TheVariants as part
use Rattle.cc_whole.specs.declared.types.CConstant.{CConstant}
use Rattle.cc_whole.specs.declared.unit.CParameter.{CParameter}
use Rattle.cc_whole_laws.proofs.Views.{of-Case, of-Default, of-Statement}
use Rattle.cc_whole.specs.declared.statement.CLocal.{CLocal}
use Rattle.cc_whole.specs.declared.statement.CBody.{CBody, out-CBody}
use Rattle.cc_whole.specs.Plain.{Place, Expression, Statement, assign, give, choose, loop, select, Statements, followed, statement_of, SwitchItem, switch_item_of, switch_in_order, SwitchItems, closed, labelled, otherwise, stated, Body, body, body_of, statement_step, switch_step, body_step}
use Rattle.cc_whole_memory.specs.declared.act.Act.{Act}
use Rattle.cc_whole_memory.specs.declared.store.Store.{Store}
use Rattle.cc_whole_memory.specs.declared.value.Value.{Value}
use Rattle.cc_whole_memory.specs.Blocks.{Memory}
use Rattle.cc_whole_memory.specs.Store.{memory_of, act_number}
use Rattle.cc_whole_mean.specs.Scope.{Scope, bind_locals}
use Rattle.cc_whole_mean.specs.Values.{assigned, integer_of, is_true}
use Rattle.cc_whole_mean.specs.Flow.{State, in_memory, Flow, Falls, Breaks, Continues, Returns, Exits, tried, falling, turning, switching, ending, ended_from, born_locals, called_back}
use Rattle.cc_whole_mean.specs.Mean.{given, wanted, is_wanted, runs, helps_in, does_from, does_items, Again, Program}
use Rattle.cc_whole_mean.proofs.Enough.{runs_again}
use Rattle.cc_whole_start.specs.First.{first_of}
use Rattle.cc_whole_start.proofs.FirstLaws.{locals-first}
use Rattle.cc_whole_step.specs.declared.mark.Mark.{Mark}
use Rattle.cc_whole_step.specs.declared.mark.Mark.TheVariants as mark
use Rattle.cc_whole_step.specs.declared.mark.Level.{Level}
use Rattle.cc_whole_step.specs.declared.mark.Flow.{Flow as Left}
use Rattle.cc_whole_step.specs.declared.mark.Flow.TheVariants as left
use Rattle.cc_whole_step.specs.declared.mark.Doing.{Doing}
use Rattle.cc_whole_step.specs.declared.mark.Doing.TheVariants as doing
use Rattle.cc_whole_step.specs.declared.moment.Moment.{Moment}
use Rattle.cc_whole_step.specs.Frames.{scope_of}
use Rattle.cc_whole_step.specs.Running.{statements_of, switch_of, Ground, run_statement, run_body, run_all, run_items, run_doing, after, whole, Outside, ground_of, state_of, world_of, going, total, beginning, opening, listing, switching_on, leaving, flow_of, flow_back, popped}
use Rattle.cc_whole_step.specs.Switch.{behind_label}
use Rattle.cc_whole_step.specs.Comes.{Meaning, StepsOn, EndsAs}
use Rattle.cc_whole_step.proofs.Resume.{scope_above, with_marks, pushed, whole-push, ends, acts}

-- statements in order
pub rest-pushed : (s : Moment) (marks : Vec Mark Global) (all : List CStatement) (first : CStatement) (rest : Bor (List CStatement))
    → all ≡ first ∷ rest.now → marks.items ≡ s.frames.marks.items ++ mark.Rest s.level rest ∷ []
    → (n : ℕ) (o : Outside) → listing (statements_of all) n s o ≡ beginning (statement_of first) n (with_marks marks s) o
rest-pushed s marks all first rest is items n o =
    ap (λ (l : List CStatement). listing (statements_of l) n s o) is
    ∙ sym (pushed (ground_of n s) s.frames.marks.items marks.items (mark.Rest s.level rest)
    (λ (x : Scope). run_statement (ground_of n s) s.level (statement_of first) x (state_of s) (world_of s o)) items)

-- items of a `switch` in order
pub items-pushed : (s : Moment) (marks : Vec Mark Global) (st : Statement) (rest : Bor (List CSwitchItem))
    → marks.items ≡ s.frames.marks.items ++ mark.Items s.level rest ∷ []
    → (n : ℕ) (o : Outside) → switching_on (stated st (switch_of rest.now)) n s o ≡ beginning st n (with_marks marks s) o
items-pushed s marks st rest items n o =
    sym (pushed (ground_of n s) s.frames.marks.items marks.items (mark.Items s.level rest)
    (λ (x : Scope). run_statement (ground_of n s) s.level st x (state_of s) (world_of s o)) items)

-- a body, as its parts are read in the code
body_of-out : (b : CBody) → body_of b ≡ body (out-CBody b).locals (statements_of (out-CBody b).statements)
body_of-out b = fold_out-CBody Statement SwitchItem Body statement_step switch_step body_step b

pub opens : (s : Moment) (store : Store) (marks : Vec Mark Global) (b : CBody) (locals : Bor (List CLocal)) (all : Bor (List CStatement)) (first : ℕ)
    → locals.now ≡ (out-CBody b).locals → all.now ≡ (out-CBody b).statements
    → memory_of store ≡ born_locals locals.now (memory_of s.store) → first ≡ first_of (length locals.now) (memory_of s.store)
    → marks.items ≡ s.frames.marks.items ++ mark.Locals locals first ∷ []
    → StepsOn (opening (body_of b)) None s (record s { store = store; frames = record s.frames { marks = marks }; doing = doing.Run all })
opens s store marks b locals all first e f memory number items = record {
  same = λ n o lt.
      let g = ground_of n s in
      let S = scope_of s.frames in
      let M = memory_of s.store in
      let w = world_of s o in
      let A = statements_of all.now in
      ap (λ (c : Body). whole g s.frames.marks.items (run_body g s.level c S (state_of s) w))
      (body_of-out b ∙ sym (ap (λ l. body l (statements_of (out-CBody b).statements)) e) ∙ sym (ap (λ l. body locals.now (statements_of l)) f))
      ∙ ap (λ (m : Memory). whole g s.frames.marks.items (and_then (run_all g s.level A (bind_locals locals.now M.next S) (in_memory (state_of s) m) w)
      (λ flow w. Went (ending (length locals.now) M.next flow) w))) (sym memory)
      ∙ sym (locals-first locals.now M (λ bound ends. whole g s.frames.marks.items
      (and_then (run_all g s.level A (bound S) (in_memory (state_of s) (memory_of store)) w) (λ flow w. Went (ends flow) w))))
      ∙ ap (λ (k : ℕ). whole g s.frames.marks.items (after g S (mark.Locals locals k) (run_all g s.level A (bind_locals locals.now k S) (in_memory (state_of s) (memory_of store)) w))) (sym number)
      ∙ sym (pushed g s.frames.marks.items marks.items (mark.Locals locals first)
      (λ (x : Scope). run_all g s.level A x (in_memory (state_of s) (memory_of store)) w) items);
  ticks = omega arith;
}

-- an `if`

chooses : (s : Moment) (n : ℕ) (o : Outside) (b other : Body) → Bool → Ran Flow
chooses s n o b other t =
    cond t (run_body (ground_of n s) s.level b (scope_of s.frames) (state_of s) (world_of s o)) (run_body (ground_of n s) s.level other (scope_of s.frames) (state_of s) (world_of s o))

choosing : (s : Moment) (n : ℕ) (o : Outside) (b other : Body) → Result ℤ ℕ → Ran Flow
choosing s n o b other x = tried x (world_of s o) (λ z. cond (is_true z) (run_body (ground_of n s) s.level b (scope_of s.frames) (state_of s) (world_of s o))
    (run_body (ground_of n s) s.level other (scope_of s.frames) (state_of s) (world_of s o)))

is_true-not : (z : ℤ) → (z ≡ pos 0 → ⊥) → is_true z ≡ true
is_true-not (pos zero) some = absurd (some refl)
is_true-not (pos (suc k)) some = refl
is_true-not (negsuc k) some = refl

pub choose-first : (s : Moment) (e : Expression) (b other : Body) (z : ℤ) → integer_of e (scope_of s.frames) (memory_of s.store) ≡ Ok z → (z ≡ pos 0 → ⊥)
    → (n : ℕ) (o : Outside) → beginning (choose e b other) n s o ≡ opening b n s o
unfolding chooses choosing
choose-first s e b other z gives some n o =
    ap (λ x. whole (ground_of n s) s.frames.marks.items (choosing s n o b other x)) gives
    ∙ ap (λ t. whole (ground_of n s) s.frames.marks.items (chooses s n o b other t)) (is_true-not z some)

pub choose-second : (s : Moment) (e : Expression) (b other : Body) (z : ℤ) → integer_of e (scope_of s.frames) (memory_of s.store) ≡ Ok z → z ≡ pos 0
    → (n : ℕ) (o : Outside) → beginning (choose e b other) n s o ≡ opening other n s o
unfolding choosing
choose-second s e b other z gives none n o =
    ap (λ x. whole (ground_of n s) s.frames.marks.items (choosing s n o b other x)) (gives ∙ ap Ok none)

pub choose-acts : (s : Moment) (e : Expression) (b other : Body) (a : Act) → integer_of e (scope_of s.frames) (memory_of s.store) ≡ Err (act_number a)
    → EndsAs (beginning (choose e b other)) (Undefined (act_number a)) s
unfolding choosing
choose-acts s e b other a fails = acts s (beginning (choose e b other)) (integer_of e (scope_of s.frames) (memory_of s.store)) a (λ n o x. choosing s n o b other x)
    (λ n o. refl) (λ n o. refl) fails

-- a turn of a loop

pub spent-none : {A : Type 0} (t : ℕ) (w : World) (go : World → Ran A) → t ≡ 0 → spend_of t w go ≡ Stops Ticks w.trace
spent-none t w go e = ap (λ k. spend_of k w go) e

pub spent-one : {A : Type 0} (t : ℕ) (w : World) (go : World → Ran A) → (t ≡ 0 → ⊥) → spend_of t w go ≡ go (record w { ticks = t - 1 })
spent-one zero w go some = absurd (some refl)
spent-one (suc k) w go some = ap (λ j. go (record w { ticks = j })) (let h : k ≡ suc k - 1 = omega arith in h)

turned : (g : Ground) (level : Level) (b : Body) (scope : Scope) (s : State) (w : World) → Ran Flow
turned g level b scope s w =
    and_then (run_body g level b scope s w) (turning (λ s w. runs g.program g.bound level.in_helper (loop b) scope level.depth s w))

pub repeat-ends : (s : Moment) (b : Body) → s.ticks ≡ 0 → EndsAs (beginning (loop b)) Ticks s
unfolding turned
repeat-ends s b none = ends s (beginning (loop b)) Ticks
    (λ n o. run_statement (ground_of n s) s.level (loop b) (scope_of s.frames) (state_of s) (world_of s o)) (λ n o. refl)
    (λ n o. spent-none s.ticks (world_of s o) (turned (ground_of n s) s.level b (scope_of s.frames) (state_of s)) none)

pub repeat-pushed : (s : Moment) (marks : Vec Mark Global) (b : Bor CBody) → (s.ticks ≡ 0 → ⊥)
    → marks.items ≡ s.frames.marks.items ++ mark.Turn s.level b ∷ []
    → (n : ℕ) (o : Outside) → beginning (loop (body_of b.now)) n s o ≡ opening (body_of b.now) n (record (with_marks marks s) { ticks = s.ticks - 1 }) o
unfolding turned
repeat-pushed s marks b some items n o =
    let g = ground_of n s in
    ap (whole g s.frames.marks.items) (spent-one s.ticks (world_of s o) (turned g s.level (body_of b.now) (scope_of s.frames) (state_of s)) some)
    ∙ sym (pushed g s.frames.marks.items marks.items (mark.Turn s.level b)
    (λ (x : Scope). run_body g s.level (body_of b.now) x (state_of s) (record (world_of s o) { ticks = s.ticks - 1 })) items)

-- a turn that is taken off the stack begins the loop again
turn-again : (s : Moment) (level : Level) (b : Bor CBody) (n : ℕ) (o : Outside) → s.ticks < n
    → going n s o (λ g scope s w. runs g.program g.bound level.in_helper (loop (body_of b.now)) scope level.depth s w)
    ≡ beginning (loop (body_of b.now)) n (record s { level = level }) o
turn-again s level b n o lt = ap (whole (ground_of n s) s.frames.marks.items)
    (runs_again (ground_of n s).program n level.in_helper (loop (body_of b.now)) (scope_of s.frames) level.depth (state_of s) (world_of s o) lt)

pub turn-falls : (s : Moment) (level : Level) (b : Bor CBody) (n : ℕ) (o : Outside) → s.ticks < n
    → popped (mark.Turn level b) left.Falls n s o ≡ beginning (loop (body_of b.now)) n (record s { level = level }) o
unfolding turn-again
turn-falls s level b n o lt = turn-again s level b n o lt

pub turn-continues : (s : Moment) (level : Level) (b : Bor CBody) (n : ℕ) (o : Outside) → s.ticks < n
    → popped (mark.Turn level b) left.Continues n s o ≡ beginning (loop (body_of b.now)) n (record s { level = level }) o
unfolding turn-again
turn-continues s level b n o lt = turn-again s level b n o lt

-- a `switch`

module _ (again helps : Again) (p : Program) (inside : Bool) where
  by-test : (t : Bool) (label : Option ℕ) (rest : SwitchItems) (scope : Scope) (depth : ℕ) (s : State) (w : World)
      → does_from again helps p inside label rest scope depth s w ≡ does_items again helps p inside (behind_label label rest) scope depth s w
      → cond t (does_items again helps p inside rest scope depth s w) (does_from again helps p inside label rest scope depth s w)
      ≡ does_items again helps p inside (cond t rest (behind_label label rest)) scope depth s w
  by-test true label rest scope depth s w e = refl
  by-test false label rest scope depth s w e = e

  from-behind : (label : Option ℕ) (items : SwitchItems) (scope : Scope) (depth : ℕ) (s : State) (w : World)
      → does_from again helps p inside label items scope depth s w ≡ does_items again helps p inside (behind_label label items) scope depth s w
  from-behind label closed scope depth s w = refl
  from-behind label (labelled c rest) scope depth s w = by-test (is_wanted label c) label rest scope depth s w (from-behind label rest scope depth s w)
  from-behind None (otherwise rest) scope depth s w = refl
  from-behind (Some bits) (otherwise rest) scope depth s w = from-behind (Some bits) rest scope depth s w
  from-behind label (stated st rest) scope depth s w = from-behind label rest scope depth s w

selecting : (s : Moment) (items : SwitchItems) (n : ℕ) (o : Outside) → Result ℤ ℕ → Ran Flow
selecting s items n o x = tried x (world_of s o) (λ z.
    and_then (does_from (runs (ground_of n s).program n) (helps_in (runs (ground_of n s).program n) (ground_of n s).program s.level.in_helper) (ground_of n s).program s.level.in_helper
    (wanted (bits_of 32 z) items) items (scope_of s.frames) s.level.depth (state_of s) (world_of s o)) (λ flow w. Went (switching flow) w))

pub select-acts : (s : Moment) (e : Expression) (items : SwitchItems) (a : Act) → integer_of e (scope_of s.frames) (memory_of s.store) ≡ Err (act_number a)
    → EndsAs (beginning (select e items)) (Undefined (act_number a)) s
unfolding selecting
select-acts s e items a fails = acts s (beginning (select e items)) (integer_of e (scope_of s.frames) (memory_of s.store)) a (λ n o x. selecting s items n o x)
    (λ n o. refl) (λ n o. refl) fails

pub select-pushed : (s : Moment) (marks : Vec Mark Global) (e : Expression) (items : SwitchItems) (z : ℤ) (label : Option ℕ) (rest : Bor (List CSwitchItem))
    → integer_of e (scope_of s.frames) (memory_of s.store) ≡ Ok z → label ≡ wanted (bits_of 32 z) items → switch_of rest.now ≡ behind_label label items
    → marks.items ≡ s.frames.marks.items ++ mark.Switch ∷ []
    → StepsOn (beginning (select e items)) None s (record (with_marks marks s) { doing = doing.Items rest })
unfolding selecting
select-pushed s marks e items z label rest gives is behind pushes = record {
  same = λ n o lt.
      let g = ground_of n s in
      ap (λ x. whole g s.frames.marks.items (selecting s items n o x)) gives
      ∙ ap (λ (r : Ran Flow). whole g s.frames.marks.items (and_then r (λ flow w. Went (switching flow) w)))
      (ap (λ (l : Option ℕ). does_from (runs g.program n) (helps_in (runs g.program n) g.program s.level.in_helper) g.program s.level.in_helper
      l items (scope_of s.frames) s.level.depth (state_of s) (world_of s o)) (sym is)
      ∙ from-behind (runs g.program n) (helps_in (runs g.program n) g.program s.level.in_helper) g.program s.level.in_helper label items
      (scope_of s.frames) s.level.depth (state_of s) (world_of s o))
      ∙ ap (λ (i : SwitchItems). whole g s.frames.marks.items (after g (scope_of s.frames) mark.Switch (run_items g s.level i (scope_of s.frames) (state_of s) (world_of s o)))) (sym behind)
      ∙ sym (pushed g s.frames.marks.items marks.items mark.Switch
      (λ (x : Scope). run_items g s.level (switch_of rest.now) x (state_of s) (world_of s o)) pushes);
  ticks = omega arith;
}

-- what is taken off the stack

pub pops : (s : Moment) (marks : Vec Mark Global) (m : Mark) (flow : Left) → s.frames.marks.items ≡ marks.items ++ m ∷ []
    → (n : ℕ) (o : Outside) → leaving flow n s o ≡ popped m flow n (with_marks marks s) o
pops s marks m flow is n o =
    ap (λ (ms : List Mark). whole (ground_of n s) ms (Went (flow_of flow (state_of s)) (world_of s o))) is
    ∙ whole-push (ground_of n s) marks.items m (Went (flow_of flow (state_of s)) (world_of s o))

pub ending-flow : (k b : ℕ) (flow : Left) (s : State) → ending k b (flow_of flow s) ≡ flow_of flow (in_memory s (ended_from k b s.memory))
ending-flow k b left.Falls s = refl
ending-flow k b left.Breaks s = refl
ending-flow k b left.Continues s = refl
ending-flow k b (left.Returns v) s = refl
ending-flow k b (left.Exits z) s = refl

-- an assignment

assigning : (s : Moment) (o : Outside) → Result Memory ℕ → Ran Flow
assigning s o r = tried r (world_of s o) (λ m. Went (Falls (in_memory (state_of s) m)) (world_of s o))

pub assign-acts : (s : Moment) (p : Place) (e : Expression) (a : Act) → assigned p e (scope_of s.frames) (memory_of s.store) ≡ Err (act_number a)
    → EndsAs (beginning (assign p e)) (Undefined (act_number a)) s
unfolding assigning
assign-acts s p e a fails = acts s (beginning (assign p e)) (assigned p e (scope_of s.frames) (memory_of s.store)) a (λ n o x. assigning s o x) (λ n o. refl) (λ n o. refl) fails

pub assign-goes : (s : Moment) (store : Store) (p : Place) (e : Expression) → assigned p e (scope_of s.frames) (memory_of s.store) ≡ Ok (memory_of store)
    → (n : ℕ) (o : Outside) → beginning (assign p e) n s o ≡ leaving left.Falls n (record s { store = store }) o
unfolding assigning
assign-goes s store p e gives n o = ap (λ x. whole (ground_of n s) s.frames.marks.items (assigning s o x)) gives

-- a `return`

giving : (s : Moment) (o : Outside) → Result (Option Value) ℕ → Ran Flow
giving s o r = tried r (world_of s o) (λ v. Went (Returns v (state_of s)) (world_of s o))

pub give-acts : (s : Moment) (e : Option Expression) (a : Act) → given e (scope_of s.frames) (memory_of s.store) ≡ Err (act_number a)
    → EndsAs (beginning (give e)) (Undefined (act_number a)) s
unfolding giving
give-acts s e a fails = acts s (beginning (give e)) (given e (scope_of s.frames) (memory_of s.store)) a (λ n o x. giving s o x) (λ n o. refl) (λ n o. refl) fails

pub give-goes : (s : Moment) (e : Option Expression) (v : Option Value) → given e (scope_of s.frames) (memory_of s.store) ≡ Ok v
    → (n : ℕ) (o : Outside) → beginning (give e) n s o ≡ leaving (left.Returns v) n s o
unfolding giving
give-goes s e v gives n o = ap (λ x. whole (ground_of n s) s.frames.marks.items (giving s o x)) gives

-- what a `switch` has first

pub of-label : (items rest : List CSwitchItem) (first : CSwitchItem) (k : CConstant) → items ≡ first ∷ rest → first ≡ part.Case k
    → switch_of items ≡ labelled k (switch_of rest)
of-label items rest first k is at = ap switch_of (is ∙ ap (λ (x : CSwitchItem). x ∷ rest) at) ∙ ap (λ x. switch_in_order (x ∷ map switch_item_of rest)) (of-Case k)

pub of-default : (items rest : List CSwitchItem) (first : CSwitchItem) → items ≡ first ∷ rest → first ≡ part.Default → switch_of items ≡ otherwise (switch_of rest)
of-default items rest first is at = ap switch_of (is ∙ ap (λ (x : CSwitchItem). x ∷ rest) at) ∙ ap (λ x. switch_in_order (x ∷ map switch_item_of rest)) of-Default

pub of-inner : (items rest : List CSwitchItem) (first : CSwitchItem) (st : CStatement) → items ≡ first ∷ rest → first ≡ part.Statement st
    → switch_of items ≡ stated (statement_of st) (switch_of rest)
of-inner items rest first st is at = ap switch_of (is ∙ ap (λ (x : CSwitchItem). x ∷ rest) at) ∙ ap (λ x. switch_in_order (x ∷ map switch_item_of rest)) (of-Statement st)

-- locals end, and parameters

pub locals-end : (s : Moment) (store : Store) (locals : Bor (List CLocal)) (first : ℕ) (flow : Left) → memory_of store ≡ ended_from (length locals.now) first (memory_of s.store)
    → (n : ℕ) (o : Outside) → popped (mark.Locals locals first) flow n s o ≡ leaving flow n (record s { store = store }) o
locals-end s store locals first flow memory n o =
    ap (λ (f : Flow). whole (ground_of n s) s.frames.marks.items (Went f (world_of s o)))
    (ending-flow (length locals.now) first flow (state_of s) ∙ ap (λ m. flow_of flow (in_memory (state_of s) m)) (sym memory))

pub parameters-end : (s : Moment) (store : Store) (ps : Bor (List CParameter)) (first count : ℕ) (flow back : Left)
    → ((st : State) → flow_of back st ≡ flow_back (called_back (flow_of flow st))) → memory_of store ≡ ended_from count first (memory_of s.store)
    → (n : ℕ) (o : Outside) → popped (mark.Parameters ps first count) flow n s o ≡ leaving back n (record s { store = store }) o
parameters-end s store ps first count flow back comes memory n o =
    ap (λ (f : Flow). whole (ground_of n s) s.frames.marks.items (Went (flow_back (called_back f)) (world_of s o)))
    (ending-flow count first flow (state_of s) ∙ ap (λ m. flow_of flow (in_memory (state_of s) m)) (sym memory))
    ∙ ap (λ (f : Flow). whole (ground_of n s) s.frames.marks.items (Went f (world_of s o))) (sym (comes (in_memory (state_of s) (memory_of store))))

-- Where the ticks are fewer than the bound, one more changes nothing.
use Rattle.std.proofs.Common.{◌≡◌, ℕ, zero, suc, ◌<◌, ◌≤◌, Bool, true, false, List, [], ◌∷◌, length, ℤ, pos, Option, Some, None, Result, Ok, Err, refl, ap, ◌∙◌, arith, cond, nat_lt, ◌==◌}
use Rattle.cf_base.specs.Integers.{bits_of}
use Rattle.cf_base.specs.Event.{Enter}
use Rattle.cf_base.specs.World.{World, Ran, Went, Stops, and_then, spend, spend_of, deeper, show, next_of}
use Rattle.cc_whole.specs.Plain.{Place, Expression, Callee as Called_by, Statement, assign, call, block, leave, next, choose, loop, select, give, Statements, done, followed, SwitchItems, closed, labelled, otherwise, stated, Body, body, Function}
use Rattle.cc_whole_memory.specs.declared.value.Value.{Value}
use Rattle.cc_whole_memory.specs.declared.value.Value.TheVariants as value
use Rattle.cc_whole_memory.specs.Blocks.{freed, on_ok}
use Rattle.cc_whole_mean.specs.declared.named.Target.{Target}
use Rattle.cc_whole_mean.specs.Scope.{Scope, bind_locals, bind_parameters}
use Rattle.cc_whole_mean.specs.Values.{values_of, stored, assigned, integer_of, is_true}
use Rattle.cc_whole_mean.specs.Flow.{State, in_memory, Flow, Falls, Breaks, Continues, Returns, Exits, tried, falling, turning, ending, born_locals, born_arguments, Called, Back, Gone, called_back}
use Rattle.cc_whole.specs.Known.{is_helper, is_main}
use Rattle.cc_whole_mean.specs.Callee.{Callee, own, built_in}
use Rattle.cc_whole_mean.specs.Callee as callee
use Rattle.cc_whole_mean.specs.Library.{does_library, of_number, of_pointer, of_function, of_none, of_one, back_int, byte_or_end, most_registered, wrong}
use Rattle.cc_whole_mean.specs.Mean.{Program, Again, run_function, enter_helper, enter_function, called_own, called, chosen, callee_of, targeted, used, go_back, call_to, given, wanted, is_wanted, does, does_body, does_all, does_from, does_items, refused, helps_in, runs}

-- at most so many ticks are left where a run goes on
abbrev pub Left : {A : Type 0} → ℕ → Ran A → Type 0
Left n (Went a w) = w.ticks ≤ n
Left n (Stops end trace) = Unit {0}

pub record Alike {A : Type 0} (n : ℕ) (x y : Ran A) : Type 0 where
  pub same : x ≡ y
  pub left : Left n x

pub alike-itself : {A : Type 0} (n : ℕ) (x : Ran A) → Left n x → Alike n x x
alike-itself n x left = record { same = refl; left = left }

pub alike-then : {A B : Type 0} (n : ℕ) (x y : Ran A) (f g : A → World → Ran B) → Alike n x y
    → ((a : A) (w : World) → w.ticks ≤ n → Alike n (f a w) (g a w)) → Alike n (and_then x f) (and_then y g)
alike-then n (Went a w) y f g e h = record { same = (h a w e.left).same ∙ ap (λ r. and_then r g) e.same; left = (h a w e.left).left }
alike-then n (Stops end trace) y f g e h = record { same = ap (λ r. and_then r g) e.same; left = tt }

pub alike-tried : {A B : Type 0} (n : ℕ) (r : Result A ℕ) (w : World) (f g : A → Ran B) → ((a : A) → Alike n (f a) (g a)) → Alike n (tried r w f) (tried r w g)
alike-tried n (Ok a) w f g h = h a
alike-tried n (Err act) w f g h = record { same = refl; left = tt }

pub alike-weaker : {A : Type 0} (n k : ℕ) (x y : Ran A) → n ≤ k → Alike n x y → Alike k x y
alike-weaker n k (Went a w) y le e = record { same = e.same; left = let h : w.ticks ≤ n = e.left in omega arith }
alike-weaker n k (Stops end trace) y le e = record { same = e.same; left = tt }

spend_of-alike : {A : Type 0} (t : ℕ) (w : World) (f g : World → Ran A) → t ≤ w.ticks
    → ((v : World) → v.ticks < w.ticks → Alike v.ticks (f v) (g v)) → Alike w.ticks (spend_of t w f) (spend_of t w g)
spend_of-alike zero w f g le h = record { same = refl; left = tt }
spend_of-alike (suc t) w f g le h =
    alike-weaker t w.ticks (f (record w { ticks = t })) (g (record w { ticks = t })) (omega arith) (h (record w { ticks = t }) (omega arith))

pub alike-spend : {A : Type 0} (w : World) (f g : World → Ran A)
    → ((v : World) → v.ticks < w.ticks → Alike v.ticks (f v) (g v)) → Alike w.ticks (spend w f) (spend w g)
alike-spend w f g h = spend_of-alike w.ticks w f g (omega arith) h

pub alike-deeper : {A : Type 0} (n depth : ℕ) (w : World) (f g : ℕ → Ran A) → ((d : ℕ) → Alike n (f d) (g d)) → Alike n (deeper depth w f) (deeper depth w g)
alike-deeper n zero w f g h = record { same = refl; left = tt }
alike-deeper n (suc depth) w f g h = h depth

pub alike-falling : (n : ℕ) (f g : State → World → Ran Flow) → ((s : State) (w : World) → w.ticks ≤ n → Alike n (f s w) (g s w))
    → (flow : Flow) (w : World) → w.ticks ≤ n → Alike n (falling f flow w) (falling g flow w)
alike-falling n f g h (Falls s) w le = h s w le
alike-falling n f g h (Breaks s) w le = record { same = refl; left = le }
alike-falling n f g h (Continues s) w le = record { same = refl; left = le }
alike-falling n f g h (Returns v s) w le = record { same = refl; left = le }
alike-falling n f g h (Exits z s) w le = record { same = refl; left = le }

pub alike-turning : (n : ℕ) (f g : State → World → Ran Flow) → ((s : State) (w : World) → w.ticks ≤ n → Alike n (f s w) (g s w))
    → (flow : Flow) (w : World) → w.ticks ≤ n → Alike n (turning f flow w) (turning g flow w)
alike-turning n f g h (Falls s) w le = h s w le
alike-turning n f g h (Breaks s) w le = record { same = refl; left = le }
alike-turning n f g h (Continues s) w le = h s w le
alike-turning n f g h (Returns v s) w le = record { same = refl; left = le }
alike-turning n f g h (Exits z s) w le = record { same = refl; left = le }

-- a library function spends no tick

tried-left : {A B : Type 0} (n : ℕ) (r : Result A ℕ) (w : World) (f : A → Ran B) → ((a : A) → Left n (f a)) → Left n (tried r w f)
tried-left n (Ok a) w f h = h a
tried-left n (Err act) w f h = tt

if-left : {A : Type 0} (n : ℕ) (b : Bool) (x y : Ran A) → Left n x → Left n y → Left n (cond b x y)
if-left n true x y e f = e
if-left n false x y e f = f

next-left : (input : List ℕ) (s : State) (w : World) → Left w.ticks (next_of input w (λ byte w. back_int (byte_or_end byte) s w))
next-left [] s w = omega arith
next-left (byte ∷ rest) s w = omega arith

number-left : (l : callee.Library) (z : ℤ) (s : State) (w : World) → Left w.ticks (of_number l z s w)
number-left callee.putchar z s w = omega arith
number-left callee.getchar z s w = tt
number-left callee.exit z s w = omega arith
number-left callee.malloc z s w = omega arith
number-left callee.free z s w = tt
number-left callee.atexit z s w = tt

pointer-left : (l : callee.Library) (p : _) (s : State) (w : World) → Left w.ticks (of_pointer l p s w)
pointer-left callee.putchar p s w = tt
pointer-left callee.getchar p s w = tt
pointer-left callee.exit p s w = tt
pointer-left callee.malloc p s w = tt
pointer-left callee.free p s w = tried-left w.ticks (freed p w.heap s.memory) w _ (λ f. omega arith)
pointer-left callee.atexit p s w = tt

function-left : (l : callee.Library) (inside : Bool) (f : ℕ) (s : State) (w : World) → Left w.ticks (of_function l inside f s w)
function-left callee.putchar inside f s w = tt
function-left callee.getchar inside f s w = tt
function-left callee.exit inside f s w = tt
function-left callee.malloc inside f s w = tt
function-left callee.free inside f s w = tt
function-left callee.atexit true f s w = tt
function-left callee.atexit false f s w = if-left w.ticks (nat_lt (length s.registered) most_registered) (back_int (pos 0) (record s { registered = f ∷ s.registered }) w) (back_int (pos 1) s w) (omega arith) (omega arith)

none-left : (l : callee.Library) (s : State) (w : World) → Left w.ticks (of_none l s w)
none-left callee.putchar s w = tt
none-left callee.getchar s w = next-left w.input s w
none-left callee.exit s w = tt
none-left callee.malloc s w = tt
none-left callee.free s w = tt
none-left callee.atexit s w = tt

one-left : (l : callee.Library) (inside : Bool) (v : Value) (s : State) (w : World) → Left w.ticks (of_one l inside v s w)
one-left l inside (value.Number k z) s w = number-left l z s w
one-left l inside (value.Address p) s w = pointer-left l p s w
one-left l inside (value.Function f) s w = function-left l inside f s w

pub library-left : (l : callee.Library) (inside : Bool) (vs : List Value) (s : State) (w : World) → Left w.ticks (does_library l inside vs s w)
library-left l inside [] s w = none-left l s w
library-left l inside (v ∷ []) s w = one-left l inside v s w
library-left l inside (v ∷ (u ∷ vs)) s w = tt

alike-if : {A : Type 0} (n : ℕ) (b : Bool) (x y u v : Ran A) → Alike n x u → Alike n y v → Alike n (cond b x y) (cond b u v)
alike-if n true x y u v e f = e
alike-if n false x y u v e f = f

-- two ways to run a statement are alike at fewer than so many ticks
abbrev pub AlikeBelow : ℕ → Again → Again → Type 0
AlikeBelow k a b = (inside : Bool) (st : Statement) (scope : Scope) (depth : ℕ) (s : State) (w : World) → w.ticks < k
    → Alike w.ticks (a inside st scope depth s w) (b inside st scope depth s w)

module _ (p : Program) (k : ℕ) (a b h i : Again) (again : AlikeBelow k a b) (helps : AlikeBelow (suc k) h i) where
  alike-function : (n : ℕ) (run run' : Statement → Scope → ℕ → State → World → Ran Flow) (f : Function) (vs : List Value) (depth : ℕ) (s : State) (w : World)
      → ((st : Statement) (scope : Scope) (s : State) → Alike n (run st scope depth s w) (run' st scope depth s w))
      → Alike n (run_function run p.names f vs depth s w) (run_function run' p.names f vs depth s w)
  alike-function n run run' f vs depth s w same =
      alike-then n (run (block f.body) (bind_parameters f.prototype.parameters s.memory.next p.names) depth (in_memory s (born_arguments vs s.memory)) w)
      (run' (block f.body) (bind_parameters f.prototype.parameters s.memory.next p.names) depth (in_memory s (born_arguments vs s.memory)) w)
      (λ flow w. Went (called_back (ending (length vs) s.memory.next flow)) w) (λ flow w. Went (called_back (ending (length vs) s.memory.next flow)) w)
      (same (block f.body) (bind_parameters f.prototype.parameters s.memory.next p.names) (in_memory s (born_arguments vs s.memory)))
      (λ flow v le. record { same = refl; left = le })

  alike-helper : (inside : Bool) (f : Function) (vs : List Value) (depth : ℕ) (s : State) (w : World) → w.ticks ≤ k
      → Alike w.ticks (enter_helper inside h p.names f vs depth s w) (enter_helper inside i p.names f vs depth s w)
  alike-helper true f vs depth s w le = record { same = refl; left = tt }
  alike-helper false f vs depth s w le =
      alike-function w.ticks (h true) (i true) f vs depth s w (λ st scope s. helps true st scope depth s w (omega arith))

  alike-entered : (f : Function) (vs : List Value) (depth : ℕ) (s : State) (w : World) → w.ticks ≤ k
      → Alike w.ticks (enter_function a p.names f vs depth s w) (enter_function b p.names f vs depth s w)
  alike-entered f vs depth s w le = alike-spend w _ _ (λ v less. alike-deeper v.ticks depth v _ _ (λ d.
      alike-function v.ticks (a false) (b false) f vs d s (show (Enter f.prototype.name) v) (λ st scope s. again false st scope d s (show (Enter f.prototype.name) v) (omega arith))))

  alike-own : (inside : Bool) (f : Function) (vs : List Value) (depth : ℕ) (s : State) (w : World) → w.ticks ≤ k
      → Alike w.ticks (called_own a h p.names inside f vs depth s w) (called_own b i p.names inside f vs depth s w)
  alike-own inside f vs depth s w le =
      alike-if w.ticks (is_main f.prototype.name) _ _ _ _ (record { same = refl; left = tt })
      (alike-if w.ticks (length f.prototype.parameters == length vs) _ (wrong w) _ (wrong w)
      (alike-if w.ticks (is_helper f.prototype.name) _ _ _ _ (alike-helper inside f vs depth s w le) (alike-entered f vs depth s w le))
      (record { same = refl; left = tt }))

  alike-called : (inside : Bool) (c : Callee) (vs : List Value) (depth : ℕ) (s : State) (w : World) → w.ticks ≤ k
      → Alike w.ticks (called a h p inside c vs depth s w) (called b i p inside c vs depth s w)
  alike-called inside (own f) vs depth s w le = alike-own inside f vs depth s w le
  alike-called inside (built_in l) vs depth s w le = record { same = refl; left = library-left l inside vs s w }

  alike-back : (n : ℕ) (at : Option Target) (r : Called) (w : World) → w.ticks ≤ n → Alike n (go_back at r w) (go_back at r w)
  alike-back n None (Back v s) w le = record { same = refl; left = le }
  alike-back n (Some at) (Back v s) w le = alike-tried n (on_ok (used v) (λ v. stored at v s.memory)) w (λ m. Went (Falls (in_memory s m)) w) (λ m. Went (Falls (in_memory s m)) w) (λ m. record { same = refl; left = le })
  alike-back n at (Gone z s) w le = record { same = refl; left = le }

  alike-call : (inside : Bool) (f : Called_by) (place : Option Place) (es : List Expression) (scope : Scope) (depth : ℕ) (s : State) (w : World) → w.ticks ≤ k
      → Alike w.ticks (call_to (λ c vs s w. called a h p inside c vs depth s w) p.functions inside place f es scope s w)
      (call_to (λ c vs s w. called b i p inside c vs depth s w) p.functions inside place f es scope s w)
  alike-call inside f place es scope depth s w le =
      alike-tried w.ticks (targeted place scope s.memory) w _ _ (λ at. alike-tried w.ticks (chosen inside f scope s.memory) w _ _ (λ f.
      alike-tried w.ticks (values_of es scope s.memory) w _ _ (λ vs. alike-tried w.ticks (callee_of p.functions f) w _ _ (λ c.
      alike-then w.ticks (called a h p inside c vs depth s w) (called b i p inside c vs depth s w) _ _ (alike-called inside c vs depth s w le)
      (λ r v le'. alike-back w.ticks at r v le')))))

  mutual
    pub alike-does : (inside : Bool) (st : Statement) (scope : Scope) (depth : ℕ) (s : State) (w : World) → w.ticks ≤ k
        → Alike w.ticks (does a h p inside st scope depth s w) (does b i p inside st scope depth s w)
    alike-does inside (assign place e) scope depth s w le =
        alike-tried w.ticks (assigned place e scope s.memory) w _ _ (λ m. record { same = refl; left = omega arith })
    alike-does inside (call place f es) scope depth s w le = alike-call inside f place es scope depth s w le
    alike-does inside (block c) scope depth s w le = alike-body inside c scope depth s w le
    alike-does inside leave scope depth s w le = record { same = refl; left = omega arith }
    alike-does inside next scope depth s w le = record { same = refl; left = omega arith }
    alike-does inside (choose e c other) scope depth s w le = alike-tried w.ticks (integer_of e scope s.memory) w _ _ (λ z.
        alike-if w.ticks (is_true z) _ _ _ _ (alike-body inside c scope depth s w le) (alike-body inside other scope depth s w le))
    alike-does inside (loop c) scope depth s w le = alike-spend w _ _ (λ v less.
        alike-then v.ticks (does_body a h p inside c scope depth s v) (does_body b i p inside c scope depth s v) _ _ (alike-body inside c scope depth s v (omega arith))
        (alike-turning v.ticks _ _ (λ s u fewer. alike-weaker u.ticks v.ticks _ _ fewer (again inside (loop c) scope depth s u (omega arith)))))
    alike-does inside (select e items) scope depth s w le = alike-tried w.ticks (integer_of e scope s.memory) w _ _ (λ z.
        alike-then w.ticks (does_from a h p inside (wanted (bits_of 32 z) items) items scope depth s w) (does_from b i p inside (wanted (bits_of 32 z) items) items scope depth s w)
        _ _ (alike-from inside (wanted (bits_of 32 z) items) items scope depth s w le) (λ flow v le'. record { same = refl; left = le' }))
    alike-does inside (give e) scope depth s w le = alike-tried w.ticks (given e scope s.memory) w _ _ (λ v. record { same = refl; left = omega arith })

    pub alike-body : (inside : Bool) (c : Body) (scope : Scope) (depth : ℕ) (s : State) (w : World) → w.ticks ≤ k
        → Alike w.ticks (does_body a h p inside c scope depth s w) (does_body b i p inside c scope depth s w)
    alike-body inside (body locals all) scope depth s w le =
        alike-then w.ticks (does_all a h p inside all (bind_locals locals s.memory.next scope) depth (in_memory s (born_locals locals s.memory)) w)
        (does_all b i p inside all (bind_locals locals s.memory.next scope) depth (in_memory s (born_locals locals s.memory)) w) _ _
        (alike-all inside all (bind_locals locals s.memory.next scope) depth (in_memory s (born_locals locals s.memory)) w le)
        (λ flow v le. record { same = refl; left = le })

    pub alike-all : (inside : Bool) (all : Statements) (scope : Scope) (depth : ℕ) (s : State) (w : World) → w.ticks ≤ k
        → Alike w.ticks (does_all a h p inside all scope depth s w) (does_all b i p inside all scope depth s w)
    alike-all inside done scope depth s w le = record { same = refl; left = omega arith }
    alike-all inside (followed st rest) scope depth s w le =
        alike-then w.ticks (does a h p inside st scope depth s w) (does b i p inside st scope depth s w) _ _ (alike-does inside st scope depth s w le)
        (alike-falling w.ticks _ _ (λ s v le'. alike-weaker v.ticks w.ticks _ _ le' (alike-all inside rest scope depth s v (omega arith))))

    pub alike-from : (inside : Bool) (label : Option ℕ) (items : SwitchItems) (scope : Scope) (depth : ℕ) (s : State) (w : World) → w.ticks ≤ k
        → Alike w.ticks (does_from a h p inside label items scope depth s w) (does_from b i p inside label items scope depth s w)
    alike-from inside label closed scope depth s w le = record { same = refl; left = omega arith }
    alike-from inside label (labelled c rest) scope depth s w le =
        alike-if w.ticks (is_wanted label c) _ _ _ _ (alike-items inside rest scope depth s w le) (alike-from inside label rest scope depth s w le)
    alike-from inside None (otherwise rest) scope depth s w le = alike-items inside rest scope depth s w le
    alike-from inside (Some bits) (otherwise rest) scope depth s w le = alike-from inside (Some bits) rest scope depth s w le
    alike-from inside label (stated st rest) scope depth s w le = alike-from inside label rest scope depth s w le

    pub alike-items : (inside : Bool) (items : SwitchItems) (scope : Scope) (depth : ℕ) (s : State) (w : World) → w.ticks ≤ k
        → Alike w.ticks (does_items a h p inside items scope depth s w) (does_items b i p inside items scope depth s w)
    alike-items inside closed scope depth s w le = record { same = refl; left = omega arith }
    alike-items inside (labelled c rest) scope depth s w le = alike-items inside rest scope depth s w le
    alike-items inside (otherwise rest) scope depth s w le = alike-items inside rest scope depth s w le
    alike-items inside (stated st rest) scope depth s w le =
        alike-then w.ticks (does a h p inside st scope depth s w) (does b i p inside st scope depth s w) _ _ (alike-does inside st scope depth s w le)
        (alike-falling w.ticks _ _ (λ s v le'. alike-weaker v.ticks w.ticks _ _ le' (alike-items inside rest scope depth s v (omega arith))))

-- the body of a helper is alike where what it enters is
pub helps-alike : (p : Program) (k : ℕ) (a b : Again) → AlikeBelow k a b → (inside : Bool) → AlikeBelow (suc k) (helps_in a p inside) (helps_in b p inside)
helps-alike p k a b again true inside st scope depth s w less = record { same = refl; left = tt }
helps-alike p k a b again false inside st scope depth s w less =
    alike-does p k a b refused refused again (λ inside st scope depth s w less. record { same = refl; left = tt }) true st scope depth s w (omega arith)

pub runs-alike : (p : Program) (n : ℕ) → AlikeBelow n (runs p n) (runs p (suc n))
runs-alike p zero inside st scope depth s w less = absurd (omega arith)
runs-alike p (suc n) inside st scope depth s w less =
    alike-does p n (runs p n) (runs p (suc n)) (helps_in (runs p n) p inside) (helps_in (runs p (suc n)) p inside) (runs-alike p n)
    (helps-alike p n (runs p n) (runs p (suc n)) (runs-alike p n) inside) inside st scope depth s w (omega arith)

-- at fewer ticks than the bound, a statement behind a spent tick runs as any other
pub runs_again : (p : Program) (n : ℕ) (inside : Bool) (st : Statement) (scope : Scope) (depth : ℕ) (s : State) (w : World) → w.ticks < n
    → runs p n inside st scope depth s w ≡ does (runs p n) (helps_in (runs p n) p inside) p inside st scope depth s w
runs_again p n inside st scope depth s w less = (runs-alike p n inside st scope depth s w less).same

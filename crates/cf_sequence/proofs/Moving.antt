-- How states of the core and of the plain program stand to each other between statements: the objects of open scopes, and how they end.
use Rattle.std.proofs.Common.{◌≡◌, ℕ, ◌≤◌, ◌<◌, ◌==◌, Bool, true, false, ◌||◌, if◌then◌else◌, List, [], ◌∷◌, ◌++◌, refl, sym, ◌∙◌, ap, subst, arith, ◌⊎◌, inl, inr}
use Rattle.std.specs.Prelude.{Option, Some, None}
use Rattle.std.specs.List.{list_any}
use Rattle.std.proofs.lemmas.Bool.Decides.{nat_tests}
use Rattle.cf_base.specs.World.{World, Ran, Went, and_then}
use Rattle.cf_core.specs.Types.{SourceType, class, array, const}
use Rattle.cf_core.specs.Classes.{class_named, destructor_in}
use Rattle.cf_core.specs.Core.{item}
use Rattle.cf_core.specs.Places.{Place, inner}
use Rattle.cf_core.specs.Store.{Value, Nothing, Object}
use Rattle.cf_core.specs.Run.{State, Frame, Did, Gives, Act, ◌>>=◌, ◌>>◌, gives, done, tick, when, for_all, for_each_back, object_changed, with_object, gone, lists_local, lists_in_scope, with_frame}
use Rattle.cf_core.specs.Calls.{Program, Again, root, destroy, by_destructor, has_destructor, end_object}
use Rattle.cf_plain.specs.Plain.{Plains, act, more}
use Rattle.cf_plain.specs.Plain as plain
use Rattle.cf_plain.specs.Acts.{Registers, end_local}
use Rattle.cf_plain.specs.Running as running
use Rattle.cf_plain.specs.Running.{Flow, calls}
use Rattle.cf_sequence.specs.Follows.{Follows}
use Rattle.cf_sequence.specs.Made.{Local}
use Rattle.cf_sequence.specs.Expressions.{finished}
use Rattle.cf_sequence.proofs.Following.{on}
use Rattle.cf_sequence.proofs.Kept.{Kept, Ready}
use Rattle.cf_sequence.proofs.PlainSteps.{runs_on, act-steps}

-- ---- the ends of objects, where no class has a destructor

pub no-destructor : (t : SourceType) → has_destructor [] t ≡ false
no-destructor (class c) = refl
no-destructor (array t n) = no-destructor t
no-destructor (const t) = no-destructor t
no-destructor t = refl

pub destroy-nothing : (again : Again) (P : Program) → P.classes ≡ [] → (t : SourceType) (p : Place) → destroy again P t p ≡ done
destroy-nothing again P e (class c) p = ap (λ cs. by_destructor again P (destructor_in (class_named cs c)) p) e
destroy-nothing again P e (array t n) p = ap (λ cs. when (has_destructor cs t) (for_each_back n (λ i. tick >> destroy again P t (inner (item i) p))) done) e
    ∙ ap (λ b. when b (for_each_back n (λ i. tick >> destroy again P t (inner (item i) p))) done) (no-destructor t)
destroy-nothing again P e (const t) p = destroy-nothing again P e t p
destroy-nothing again P e t p = refl

-- objects whose storage has ended
abbrev pub all_gone : List ℕ → State → State
all_gone [] s = s
all_gone (o ∷ os) s = all_gone os (with_object o gone s)

pub gone-frame : (os : List ℕ) (s : State) (f : Frame) → all_gone os (with_frame f s) ≡ with_frame f (all_gone os s)
gone-frame [] s f = refl
gone-frame (o ∷ os) s f = gone-frame os (with_object o gone s) f

pub gone-append : (os ps : List ℕ) (s : State) → all_gone (os ++ ps) s ≡ all_gone ps (all_gone os s)
gone-append [] ps s = refl
gone-append (o ∷ os) ps s = gone-append os ps (with_object o gone s)

pub gone-same : (os : List ℕ) (s : State) → (all_gone os s).frame ≡ s.frame
gone-same [] s = refl
gone-same (o ∷ os) s = gone-same os (with_object o gone s)

end-object : (again : Again) (P : Program) → P.classes ≡ [] → (o : ℕ) (s : State) (w : World) → end_object again P o s w ≡ Went (Gives tt (with_object o gone s)) w
end-object again P e o s w = ap (λ (a : Act (Unit {0})). (a >> object_changed o gone) s w) (destroy-nothing again P e (s.object o).type (root o))

pub ends-all : (again : Again) (P : Program) → P.classes ≡ [] → (os : List ℕ) (s : State) (w : World) → for_all os (end_object again P) s w ≡ Went (Gives tt (all_gone os s)) w
ends-all again P e [] s w = refl
ends-all again P e (o ∷ os) s w =
    ap (λ r. and_then r (on (λ u. for_all os (end_object again P)))) (end-object again P e o s w) ∙ ends-all again P e os (with_object o gone s) w

-- ---- later states

-- No number of an object comes again, and what is gone stays so.
pub record Later (s t : State) : Type 0 where
  pub next : s.next ≤ t.next
  pub gone : (o : ℕ) → o < s.next → (s.object o).is_gone ≡ true → (t.object o).is_gone ≡ true

pub later-same : (s : State) → Later s s
later-same s = record { next = omega arith; gone = λ o lt e. e }

pub later-then : (s t u : State) → Later s t → Later t u → Later s u
later-then s t u a b = record { next = (let x = a.next in let y = b.next in omega arith); gone = λ o lt e. b.gone o (let x = a.next in omega arith) (a.gone o lt e) }

gone-at : (o p : ℕ) (s : State) → p == o ≡ true → ((with_object o gone s).object p).is_gone ≡ true
gone-at o p s e = ap (λ b. (if b then record (s.object o) { is_gone = true } else s.object p).is_gone) e

stays-gone : (o p : ℕ) (s : State) → (s.object p).is_gone ≡ true → ((with_object o gone s).object p).is_gone ≡ true
stays-gone o p s e = by (p == o) refl
  where
    by : (b : Bool) → p == o ≡ b → ((with_object o gone s).object p).is_gone ≡ true
    by true k = gone-at o p s k
    by false k = ap (λ b. (if b then record (s.object o) { is_gone = true } else s.object p).is_gone) k ∙ e

pub later-gone : (os : List ℕ) (s : State) → Later s (all_gone os s)
later-gone [] s = later-same s
later-gone (o ∷ os) s =
    later-then s (with_object o gone s) (all_gone os (with_object o gone s)) (record { next = omega arith; gone = λ p lt e. stays-gone o p s e }) (later-gone os (with_object o gone s))

-- what has ended is gone
abbrev pub is_in : ℕ → List ℕ → Bool
is_in o os = list_any (λ (p : ℕ). p == o) os

number-is : (o p : ℕ) → p == o ≡ true → p ≡ o
number-is o p e = grind (arith, nat_tests, e)

pub ends-gone : (os : List ℕ) (s : State) (o : ℕ) → is_in o os ≡ true → ((all_gone os s).object o).is_gone ≡ true
ends-gone [] s o e = absurd (cc)
ends-gone (p ∷ os) s o e = by (p == o) refl (λ k. ends-gone os (with_object p gone s) o k)
  where
    stay : (qs : List ℕ) (t : State) → (t.object o).is_gone ≡ true → ((all_gone qs t).object o).is_gone ≡ true
    stay [] t g = g
    stay (q ∷ qs) t g = stay qs (with_object q gone t) (stays-gone q o t g)

    by : (b : Bool) → p == o ≡ b → (is_in o os ≡ true → ((all_gone os (with_object p gone s)).object o).is_gone ≡ true) → ((all_gone os (with_object p gone s)).object o).is_gone ≡ true
    by true k later = stay os (with_object p gone s) (gone-at p o s (let same : p ≡ o = number-is o p k in grind (arith, nat_tests, same)))
    by false k later = later (subst (λ b. b || is_in o os ≡ true) k e)

-- to end what is gone changes nothing
pub gone-again : (o : ℕ) (s : State) → (s.object o).is_gone ≡ true → with_object o gone s ≡ s
gone-again o s e = ap (λ (ob : ℕ → Object). record s { object = ob }) (λ i p. same p i)
  where
    by : (p : ℕ) (b : Bool) → p == o ≡ b → (if b then record (s.object o) { is_gone = true } else s.object p) ≡ s.object p
    by p true k = ap (λ (g : Bool). record (s.object o) { is_gone = g }) (sym e) ∙ ap s.object (sym (number-is o p k))
    by p false k = refl

    same : (p : ℕ) → (with_object o gone s).object p ≡ s.object p
    same p = by p (p == o) refl

-- ---- the objects of locals in open scopes

-- a local that names no object, or one that is gone
abbrev pub Over : State → Option ℕ → Type 0
Over t None = Unit {0}
Over t (Some o) = (o < t.next) × ((t.object o).is_gone ≡ true)

pub over-later : (s t : State) → Later s t → (p : Option ℕ) → Over s p → Over t p
over-later s t l None h = tt
over-later s t l (Some o) h = ((let a = l.next in let b = h.0 in omega arith), l.gone o h.0 h.1)

-- it is the next of these objects, or over
pub data Picked (t : State) (p : Option ℕ) (rest : List ℕ → Type 0) (os : List ℕ) : Type 0 where
  is_next : (o : ℕ) (ps : List ℕ) → p ≡ Some o → os ≡ o ∷ ps → rest ps → Picked t p rest os
  is_over : Over t p → rest os → Picked t p rest os

-- These are the objects of the locals, which are below the bound; a local of an arm of an `if` may be over.
abbrev pub Held : State → (ℕ → Option ℕ) → ℕ → List Local → List ℕ → Type 0
Held t locals m [] os = os ≡ []
Held t locals m (x ∷ xs) os = (x.number < m) × Picked t (locals x.number) (λ ps. Held t locals m xs ps) os

pub held-more : (t : State) (locals : ℕ → Option ℕ) (m : ℕ) (x : Local) (xs : List Local) (o : ℕ) (os : List ℕ) → locals x.number ≡ Some o → x.number < m → Held t locals m xs os
    → Held t locals m (x ∷ xs) (o ∷ os)
held-more t locals m x xs o os at lt h = (lt, is_next o os at refl h)

pub held-kept : (s t : State) (locals later : ℕ → Option ℕ) (m n : ℕ) (xs : List Local) (os : List ℕ) → Later s t → Held s locals m xs os → m ≤ n
    → ((i : ℕ) → i < m → later i ≡ locals i) → Held t later n xs os
held-kept s t locals later m n [] os l h le same = h
held-kept s t locals later m n (x ∷ xs) os l h le same = ((let lt = h.0 in omega arith), by h.1 (λ ps rest. held-kept s t locals later m n xs ps l rest le same))
  where
    by : Picked s (locals x.number) (λ ps. Held s locals m xs ps) os → ((ps : List ℕ) → Held s locals m xs ps → Held t later n xs ps) → Picked t (later x.number) (λ ps. Held t later n xs ps) os
    by (is_next o ps at split rest) go = is_next o ps (same x.number h.0 ∙ at) split (go ps rest)
    by (is_over over rest) go = is_over (subst (Over t) (sym (same x.number h.0)) (over-later s t l (locals x.number) over)) (go os rest)

pub held-append : (t : State) (locals : ℕ → Option ℕ) (m : ℕ) (xs ys : List Local) (os ps : List ℕ) → Held t locals m xs os → Held t locals m ys ps → Held t locals m (xs ++ ys) (os ++ ps)
held-append t locals m [] ys os ps h k = subst (λ qs. Held t locals m ys (qs ++ ps)) (sym h) k
held-append t locals m (x ∷ xs) ys os ps h k = (h.0, by h.1 (λ qs rest. held-append t locals m xs ys qs ps rest k))
  where
    by : Picked t (locals x.number) (λ ps. Held t locals m xs ps) os → ((qs : List ℕ) → Held t locals m xs qs → Held t locals m (xs ++ ys) (qs ++ ps))
        → Picked t (locals x.number) (λ qs. Held t locals m (xs ++ ys) qs) (os ++ ps)
    by (is_next o qs at split rest) go = is_next o (qs ++ ps) at (ap (λ rs. rs ++ ps) split) (go qs rest)
    by (is_over over rest) go = is_over over (go os rest)

-- the objects of the first of them, and those of the others
pub record HeldParts (t : State) (locals : ℕ → Option ℕ) (m : ℕ) (xs ys : List Local) (os : List ℕ) : Type 0 where
  pub first : List ℕ
  pub second : List ℕ
  pub parts : os ≡ first ++ second
  pub first_held : Held t locals m xs first
  pub second_held : Held t locals m ys second

pub held-parts : (t : State) (locals : ℕ → Option ℕ) (m : ℕ) (xs ys : List Local) (os : List ℕ) → Held t locals m (xs ++ ys) os → HeldParts t locals m xs ys os
held-parts t locals m [] ys os h = record { first = []; second = os; parts = refl; first_held = refl; second_held = h }
held-parts t locals m (x ∷ xs) ys os h = by h.1 (λ qs rest. held-parts t locals m xs ys qs rest)
  where
    by : Picked t (locals x.number) (λ ps. Held t locals m (xs ++ ys) ps) os → ((qs : List ℕ) → Held t locals m (xs ++ ys) qs → HeldParts t locals m xs ys qs) → HeldParts t locals m (x ∷ xs) ys os
    by (is_next o qs at split rest) go =
        let r = go qs rest in
        record { first = o ∷ r.first; second = r.second; parts = split ∙ ap (λ ps. o ∷ ps) r.parts; first_held = (h.0, is_next o r.first at refl r.first_held); second_held = r.second_held }
    by (is_over over rest) go =
        let r = go os rest in
        record { first = r.first; second = r.second; parts = r.parts; first_held = (h.0, is_over over r.first_held); second_held = r.second_held }

-- locals that are over, below the bound
abbrev pub AllOver : State → (ℕ → Option ℕ) → ℕ → List Local → Type 0
AllOver t locals m [] = Unit {0}
AllOver t locals m (x ∷ xs) = (x.number < m) × Over t (locals x.number) × AllOver t locals m xs

pub held-over : (t : State) (locals : ℕ → Option ℕ) (m : ℕ) (xs ys : List Local) (os : List ℕ) → AllOver t locals m xs → Held t locals m ys os → Held t locals m (xs ++ ys) os
held-over t locals m [] ys os over h = h
held-over t locals m (x ∷ xs) ys os over h = (over.0, is_over over.1 (held-over t locals m xs ys os over.2 h))

abbrev pub AllBelow : ℕ → List Local → Type 0
AllBelow m [] = Unit {0}
AllBelow m (x ∷ xs) = (x.number < m) × AllBelow m xs

pub below-more : (m n : ℕ) (xs : List Local) → m ≤ n → AllBelow m xs → AllBelow n xs
below-more m n [] le a = tt
below-more m n (x ∷ xs) le a = ((let b = a.0 in omega arith), below-more m n xs le a.1)

pub below-append : (m : ℕ) (xs ys : List Local) → AllBelow m xs → AllBelow m ys → AllBelow m (xs ++ ys)
below-append m [] ys a b = b
below-append m (x ∷ xs) ys a b = (a.0, below-append m xs ys a.1 b)

pub all-over-later : (s t : State) (locals later : ℕ → Option ℕ) (m n : ℕ) (xs : List Local) → Later s t → m ≤ n → ((i : ℕ) → i < m → later i ≡ locals i) → AllOver s locals m xs → AllOver t later n xs
all-over-later s t locals later m n [] l le same h = tt
all-over-later s t locals later m n (x ∷ xs) l le same h =
    ((let a = h.0 in omega arith), subst (Over t) (sym (same x.number h.0)) (over-later s t l (locals x.number) h.1), all-over-later s t locals later m n xs l le same h.2)

-- ---- which local an object is of

abbrev pub AllAbove : ℕ → List Local → Type 0
AllAbove m [] = Unit {0}
AllAbove m (x ∷ xs) = (m ≤ x.number) × AllAbove m xs

pub above-append : (m : ℕ) (xs ys : List Local) → AllAbove m xs → AllAbove m ys → AllAbove m (xs ++ ys)
above-append m [] ys a b = b
above-append m (x ∷ xs) ys a b = (a.0, above-append m xs ys a.1 b)

pub above-less : (m n : ℕ) (xs : List Local) → n ≤ m → AllAbove m xs → AllAbove n xs
above-less m n [] le a = tt
above-less m n (x ∷ xs) le a = ((let b = a.0 in omega arith), above-less m n xs le a.1)

pub record Names (locals : ℕ → Option ℕ) (p m o : ℕ) : Type 0 where
  pub number : ℕ
  pub low : p ≤ number
  pub high : number < m
  pub at : locals number ≡ Some o

pub held-names : (t : State) (locals : ℕ → Option ℕ) (p m : ℕ) (xs : List Local) (os : List ℕ) → Held t locals m xs os → AllAbove p xs → (o : ℕ) → is_in o os ≡ true → Names locals p m o
held-names t locals p m [] os h above o e =
    let none : is_in o [] ≡ true = subst (λ qs. is_in o qs ≡ true) h e in absurd (let k = none in cc)
held-names t locals p m (x ∷ xs) os h above o e = by h.1 (λ qs rest k. held-names t locals p m xs qs rest above.1 o k)
  where
    test : (q : ℕ) (ps : List ℕ) → locals x.number ≡ Some q → is_in o ps ≡ true ⊎ (q == o ≡ true) → (is_in o ps ≡ true → Names locals p m o) → Names locals p m o
    test q ps at (inl there) later = later there
    test q ps at (inr same) later = record { number = x.number; low = above.0; high = h.0; at = at ∙ ap Some (number-is o q same) }

    or-there : (a b : Bool) → a || b ≡ true → (b ≡ true) ⊎ (a ≡ true)
    or-there true b k = inr refl
    or-there false b k = inl k

    by : Picked t (locals x.number) (λ ps. Held t locals m xs ps) os → ((qs : List ℕ) → Held t locals m xs qs → is_in o qs ≡ true → Names locals p m o) → Names locals p m o
    by (is_next q ps at split rest) go = test q ps at (or-there (q == o) (is_in o ps) (subst (λ qs. is_in o qs ≡ true) split e)) (go ps rest)
    by (is_over over rest) go = go os rest e

module _ (again : running.Again) (H : Program) (classless : H.classes ≡ []) (A B : Type 0) (S : A → State → B → State → Type 0) where
  -- locals end in the plain program
  pub finished-steps : (xs : List Local) (os : List ℕ) (m : ℕ) (rest : Plains) (g : Registers) (K : Flow → Act B) (x : Ran (Did A)) (s : State) (f : Frame) (w : World)
      → Held s f.locals m xs os
      → Follows S x (runs_on again H rest g K (with_frame f (all_gone os s)) w)
      → Follows S x (runs_on again H (finished xs rest) g K (with_frame f s) w)
  finished-steps [] os m rest g K x s f w held next = subst (λ qs. Follows S x (runs_on again H rest g K (with_frame f (all_gone qs s)) w)) held next
  finished-steps (y ∷ ys) os m rest g K x s f w held next =
      act-steps again H (plain.finish y.type y.number) (finished ys rest) g K x (with_frame f s) w
      (by held.1 (λ ps t later go. finished-steps ys ps m rest g K x t f w (held-kept s t f.locals f.locals m m ys ps later.0 later.1 (omega arith) (λ i lt. refl)) go))
    where
      G : Value → Act B
      G v = λ t w. runs_on again H (finished ys rest) g K t w

      Ends : Option ℕ → Type 0
      Ends p = Follows S x (and_then (end_local (calls again) H y.type p (with_frame f s) w) (on G))

      -- what comes behind, in a later state
      Goes : Type 0
      Goes =
          (ps : List ℕ) (t : State) → Later s t × Held s f.locals m ys ps → Follows S x (runs_on again H rest g K (with_frame f (all_gone ps t)) w)
          → Follows S x (runs_on again H (finished ys rest) g K (with_frame f t) w)

      -- the object of a local ends
      ends : (o : ℕ) → Follows S x (runs_on again H (finished ys rest) g K (with_frame f (with_object o gone s)) w) → Ends (Some o)
      ends o go =
          subst (λ (a : Act (Unit {0})). Follows S x (and_then ((a >> (object_changed o gone >>= (λ u. gives Nothing))) (with_frame f s) w) (on G)))
          (sym (destroy-nothing (calls again) H classless y.type (root o))) go

      by_local : Goes → (p : Option ℕ) → Over s p → Held s f.locals m ys os → Ends p
      by_local go None over rest_held = go os s (later-same s, rest_held) next
      by_local go (Some o) over rest_held =
          ends o (subst (λ z. Follows S x (runs_on again H (finished ys rest) g K (with_frame f z) w)) (sym (gone-again o s over.1)) (go os s (later-same s, rest_held) next))

      by : Picked s (f.locals y.number) (λ ps. Held s f.locals m ys ps) os → Goes → Ends (f.locals y.number)
      by (is_next o ps at split rest_held) go =
          subst Ends (sym at)
          (ends o (go ps (with_object o gone s) (later-gone (o ∷ []) s, rest_held) (subst (λ qs. Follows S x (runs_on again H rest g K (with_frame f (all_gone qs s)) w)) split next)))
      by (is_over over rest_held) go = by_local go (f.locals y.number) over rest_held

-- ---- between statements

-- From one moment to a later one of a function, in which the locals below the bound stay what they are.
pub record Moved (m : ℕ) (s : State) (f : Frame) (t : State) (g : Frame) : Type 0 where
  pub core : t.frame ≡ record s.frame { locals = t.frame.locals; scope = t.frame.scope }
  pub plain : g ≡ record f { locals = g.locals }
  pub below : (i : ℕ) → i < m → g.locals i ≡ f.locals i
  pub locals : (i : ℕ) → i < s.frame.count → g.locals i ≡ t.frame.locals i
  pub later : Later s t

pub moved-count : (m : ℕ) (s : State) (f : Frame) (t : State) (g : Frame) → Moved m s f t g → t.frame.count ≡ s.frame.count
moved-count m s f t g v = ap (λ (x : Frame). x.count) v.core

pub moved-then : (m n : ℕ) (s : State) (f : Frame) (t : State) (g : Frame) (u : State) (h : Frame) → m ≤ n → Moved m s f t g → Moved n t g u h → Moved m s f u h
moved-then m n s f t g u h le a b = record {
  core = b.core ∙ ap (λ (x : Frame). record x { locals = u.frame.locals; scope = u.frame.scope }) a.core;
  plain = b.plain ∙ ap (λ (x : Frame). record x { locals = h.locals }) a.plain;
  below = λ i lt. b.below i (omega arith) ∙ a.below i lt;
  locals = λ i lt. b.locals i (let e = moved-count m s f t g a in omega arith);
  later = later-then s t u a.later b.later;
}

-- where only an expression has been evaluated
pub moved-kept : (m k : ℕ) (s : State) (f : Frame) (t : State) (g : Frame) → m ≤ k → Ready k s.frame f → t.frame ≡ s.frame → Kept k f g → Later s t → Moved m s f t g
moved-kept m k s f t g le ready same kept later = record {
  core = same ∙ ap (λ (x : Frame). record s.frame { locals = x.locals; scope = x.scope }) (sym same);
  plain = kept.frame;
  below = λ i lt. kept.below i (omega arith);
  locals = λ i lt. kept.below i (let c = ready.count in omega arith) ∙ ready.locals i lt ∙ ap (λ (x : Frame). x.locals i) (sym same);
  later = later;
}

pub moved-ready : (m k : ℕ) (s : State) (f : Frame) (t : State) (g : Frame) → Ready k s.frame f → Moved m s f t g → Ready k t.frame g
moved-ready m k s f t g r v = record {
  alike = record {
    function = ap (λ (x : Frame). x.function) v.plain ∙ r.alike.function ∙ sym (ap (λ (x : Frame). x.function) v.core);
    this = ap (λ (x : Frame). x.this) v.plain ∙ r.alike.this ∙ sym (ap (λ (x : Frame). x.this) v.core);
    result = ap (λ (x : Frame). x.result) v.plain ∙ r.alike.result ∙ sym (ap (λ (x : Frame). x.result) v.core);
    depth = ap (λ (x : Frame). x.depth) v.plain ∙ r.alike.depth ∙ sym (ap (λ (x : Frame). x.depth) v.core);
  };
  count = (let e = moved-count m s f t g v in let c = r.count in omega arith);
  wide = (let e : g.count ≡ f.count = ap (λ (x : Frame). x.count) v.plain in let c = r.wide in omega arith);
  locals = λ i lt. v.locals i (let e = moved-count m s f t g v in omega arith);
}

-- the scope at hand is another
abbrev pub with_scope : List ℕ → State → State
with_scope os t = with_frame (record t.frame { scope = os }) t

pub moved-scope : (m : ℕ) (s : State) (f : Frame) (t : State) (g : Frame) (os : List ℕ) → Moved m s f t g → Moved m s f (with_scope os t) g
moved-scope m s f t g os v = record {
  core = ap (λ (x : Frame). record x { scope = os }) v.core;
  plain = v.plain;
  below = v.below;
  locals = v.locals;
  later = record { next = v.later.next; gone = v.later.gone };
}

-- from a state whose scope was another
pub moved-opened : (m : ℕ) (s : State) (os : List ℕ) (f : Frame) (t : State) (g : Frame) → Moved m (with_scope os s) f t g → Moved m s f t g
moved-opened m s os f t g v = record { core = v.core; plain = v.plain; below = v.below; locals = v.locals; later = record { next = v.later.next; gone = v.later.gone } }

pub moved-gone : (m : ℕ) (s : State) (f : Frame) (t : State) (g : Frame) (os : List ℕ) → Moved m s f t g → Moved m s f (all_gone os t) g
moved-gone m s f t g os v =
    record {
      core = gone-same os t ∙ v.core ∙ ap (λ (x : Frame). record s.frame { locals = x.locals; scope = x.scope }) (sym (gone-same os t));
      plain = v.plain;
      below = v.below;
      locals = λ i lt. v.locals i lt ∙ ap (λ (x : Frame). x.locals i) (sym (gone-same os t));
      later = later-then s t (all_gone os t) v.later (later-gone os t);
    }

-- The objects beyond the scope at hand that the ways out of a statement end; those of the function's own locals; and how many parameters it has.
pub record Beyond : Type 0 where
  pub breaks : List ℕ
  pub continues : List ℕ
  pub returns : List ℕ
  pub own : List ℕ
  pub params : ℕ

-- ---- the function's own locals

-- an object of one is gone, or of a scope that is open
pub data Stays (own : List ℕ) (s : State) (o : ℕ) : Type 0 where
  has_ended : (s.object o).is_gone ≡ true → Stays own s o
  is_here : is_in o s.frame.scope ≡ true → Stays own s o
  is_beyond : is_in o own ≡ true → Stays own s o

-- Each names an object of its own.
pub record Owned (p : ℕ) (own : List ℕ) (s : State) : Type 0 where
  pub known : (i o : ℕ) → p ≤ i → s.frame.locals i ≡ Some o → o < s.next
  pub apart : (i j o : ℕ) → p ≤ i → p ≤ j → s.frame.locals i ≡ Some o → s.frame.locals j ≡ Some o → i ≡ j
  pub stays : (i o : ℕ) → p ≤ i → s.frame.locals i ≡ Some o → Stays own s o

pub owned-kept : (p : ℕ) (own : List ℕ) (s t : State) → Owned p own s → t.frame ≡ s.frame → Later s t → Owned p own t
owned-kept p own s t h same l =
    let back : (i o : ℕ) → t.frame.locals i ≡ Some o → s.frame.locals i ≡ Some o = λ i o e. ap (λ (x : Frame). x.locals i) (sym same) ∙ e in
    record {
      known = λ i o le e. let a = h.known i o le (back i o e) in let b = l.next in omega arith;
      apart = λ i j o le le2 e e2. h.apart i j o le le2 (back i o e) (back j o e2);
      stays = λ i o le e. by o (h.known i o le (back i o e)) (h.stays i o le (back i o e));
    }
  where
    by : (o : ℕ) → o < s.next → Stays own s o → Stays own t o
    by o lt (has_ended e) = has_ended (l.gone o lt e)
    by o lt (is_here e) = is_here (subst (λ (x : Frame). is_in o x.scope ≡ true) (sym same) e)
    by o lt (is_beyond e) = is_beyond e

in-append-left : (o : ℕ) (os ps : List ℕ) → is_in o os ≡ true → is_in o (os ++ ps) ≡ true
in-append-left o [] ps e = absurd (let k = e in cc)
in-append-left o (q ∷ os) ps e = by (q == o) e (in-append-left o os ps)
  where
    by : (b : Bool) → b || is_in o os ≡ true → (is_in o os ≡ true → is_in o (os ++ ps) ≡ true) → b || is_in o (os ++ ps) ≡ true
    by true e later = refl
    by false e later = later e

in-append-right : (o : ℕ) (os ps : List ℕ) → is_in o ps ≡ true → is_in o (os ++ ps) ≡ true
in-append-right o [] ps e = e
in-append-right o (q ∷ os) ps e = by (q == o) (in-append-right o os ps e)
  where
    by : (b : Bool) → is_in o (os ++ ps) ≡ true → b || is_in o (os ++ ps) ≡ true
    by true later = refl
    by false later = later

pub data InParts (o : ℕ) (os ps : List ℕ) : Type 0 where
  in_first : is_in o os ≡ true → InParts o os ps
  in_second : is_in o ps ≡ true → InParts o os ps

pub in-append : (o : ℕ) (os ps : List ℕ) → is_in o (os ++ ps) ≡ true → InParts o os ps
in-append o [] ps e = in_second e
in-append o (q ∷ os) ps e = by (q == o) refl (λ k. in-append o os ps k)
  where
    more_in : (q == o) ≡ false → InParts o os ps → InParts o (q ∷ os) ps
    more_in k (in_first r) = in_first (ap (λ b. b || is_in o os) k ∙ r)
    more_in k (in_second r) = in_second r

    by : (b : Bool) → (q == o) ≡ b → (is_in o (os ++ ps) ≡ true → InParts o os ps) → InParts o (q ∷ os) ps
    by true k go = in_first (ap (λ b. b || is_in o os) k)
    by false k go = more_in k (go (subst (λ b. b || is_in o (os ++ ps) ≡ true) k e))

-- a scope opens
pub owned-opened : (p : ℕ) (own : List ℕ) (s : State) → Owned p own s → Owned p (s.frame.scope ++ own) (with_scope [] s)
owned-opened p own s h = record { known = h.known; apart = h.apart; stays = λ i o le e. by o (h.stays i o le e) }
  where
    by : (o : ℕ) → Stays own s o → Stays (s.frame.scope ++ own) (with_scope [] s) o
    by o (has_ended e) = has_ended e
    by o (is_here e) = is_beyond (in-append-left o s.frame.scope own e)
    by o (is_beyond e) = is_beyond (in-append-right o s.frame.scope own e)

-- a scope closes
pub owned-closed : (p : ℕ) (own os : List ℕ) (t : State) → Owned p (os ++ own) t → Owned p own (with_scope os (all_gone t.frame.scope t))
owned-closed p own os t h =
    let u : State = all_gone t.frame.scope t in
    let back : (i o : ℕ) → u.frame.locals i ≡ Some o → t.frame.locals i ≡ Some o = λ i o e. ap (λ (x : Frame). x.locals i) (sym (gone-same t.frame.scope t)) ∙ e in
    record {
      known = λ i o le e. let a = h.known i o le (back i o e) in let b = (later-gone t.frame.scope t).next in omega arith;
      apart = λ i j o le le2 e e2. h.apart i j o le le2 (back i o e) (back j o e2);
      stays = λ i o le e. by o (h.known i o le (back i o e)) (h.stays i o le (back i o e));
    }
  where
    either : (o : ℕ) → InParts o os own → Stays own (with_scope os (all_gone t.frame.scope t)) o
    either o (in_first e) = is_here e
    either o (in_second e) = is_beyond e

    by : (o : ℕ) → o < t.next → Stays (os ++ own) t o → Stays own (with_scope os (all_gone t.frame.scope t)) o
    by o lt (has_ended e) = has_ended ((later-gone t.frame.scope t).gone o lt e)
    by o lt (is_here e) = has_ended (ends-gone t.frame.scope t o e)
    by o lt (is_beyond e) = either o (in-append o os own e)

-- the scope at hand has these too
pub owned-scope : (p : ℕ) (own os : List ℕ) (t : State) → Owned p own t → ((o : ℕ) → is_in o t.frame.scope ≡ true → is_in o os ≡ true) → Owned p own (with_scope os t)
owned-scope p own os t h more_in = record { known = h.known; apart = h.apart; stays = λ i o le e. by o (h.stays i o le e) }
  where
    by : (o : ℕ) → Stays own t o → Stays own (with_scope os t) o
    by o (has_ended e) = has_ended e
    by o (is_here e) = is_here (more_in o e)
    by o (is_beyond e) = is_beyond e

-- a local is declared with a new object
pub owned-more : (p : ℕ) (own : List ℕ) (s t : State) (i o : ℕ) → Owned p own s → p ≤ i → s.next ≤ o → o < t.next → Later s t → t.frame ≡ lists_in_scope o (lists_local i o s.frame) → Owned p own t
owned-more p own s t i o h le new there l same = record {
  known = λ j q lj e. known-of j q lj (which j q e);
  apart = λ j k q lj lk e e2. apart-of j k q lj lk (which j q e) (which k q e2);
  stays = λ j q lj e. stays-of j q lj (which j q e);
}
  where
    Which : ℕ → ℕ → Type 0
    Which j q = ((j ≡ i) × (q ≡ o)) ⊎ (s.frame.locals j ≡ Some q)

    some-same : (a b : ℕ) → Some a ≡ Some b → a ≡ b
    some-same a b e = cc

    which : (j q : ℕ) → t.frame.locals j ≡ Some q → Which j q
    which j q e = by (j == i) refl (ap (λ (x : Frame). x.locals j) (sym same) ∙ e)
      where
        by : (b : Bool) → j == i ≡ b → (if j == i then Some o else s.frame.locals j) ≡ Some q → Which j q
        by true k z = inl (number-is i j k, some-same q o (sym z ∙ ap (λ b. if b then Some o else s.frame.locals j) k))
        by false k z = inr (sym (ap (λ b. if b then Some o else s.frame.locals j) k) ∙ z)

    known-of : (j q : ℕ) → p ≤ j → Which j q → q < t.next
    known-of j q lj (inl x) = let e = x.1 in omega (arith, there)
    known-of j q lj (inr e) = let a = h.known j q lj e in let b = l.next in omega arith

    apart-of : (j k q : ℕ) → p ≤ j → p ≤ k → Which j q → Which k q → j ≡ k
    apart-of j k q lj lk (inl x) (inl y) = x.0 ∙ sym y.0
    apart-of j k q lj lk (inl x) (inr e) = let a = h.known k q lk e in let b = x.1 in absurd (omega (arith, a, b, new))
    apart-of j k q lj lk (inr e) (inl y) = let a = h.known j q lj e in let b = y.1 in absurd (omega (arith, a, b, new))
    apart-of j k q lj lk (inr e) (inr d) = h.apart j k q lj lk e d

    old : (q : ℕ) → q < s.next → Stays own s q → Stays own t q
    old q lt (has_ended e) = has_ended (l.gone q lt e)
    old q lt (is_here e) = is_here (subst (λ (x : Frame). is_in q x.scope ≡ true) (sym same) (or-second (o == q) (is_in q s.frame.scope) e))
      where
        or-second : (a b : Bool) → b ≡ true → a || b ≡ true
        or-second true b k = refl
        or-second false b k = k
    old q lt (is_beyond e) = is_beyond e

    stays-of : (j q : ℕ) → p ≤ j → Which j q → Stays own t q
    stays-of j q lj (inl x) =
        is_here (subst (λ (y : Frame). is_in q y.scope ≡ true) (sym same) (ap (λ b. b || is_in q s.frame.scope) (let e : q ≡ o = x.1 in let f : (o == q) ≡ true = grind (arith, nat_tests, e) in f)))
    stays-of j q lj (inr e) = old q (h.known j q lj e) (h.stays j q lj e)

-- Full expressions of a body, and initialisers of locals.
use Rattle.std.proofs.Common.{◌≡◌, ℕ, suc, ◌+◌, Bool, true, false, ◌||◌, List, [], ◌∷◌, length, refl, ap, sym, subst, ◌∙◌}
use Rattle.std.specs.Prelude.{Option, Some, None, if◌then◌else◌}
use Rattle.cf_classes.specs.declared.class.MemberRef.{MemberRef}
use Rattle.cf_core.specs.Types.{Name, SourceType}
use Rattle.cf_core.specs.Classes.{Class}
use Rattle.cf_core.specs.Core as core
use Rattle.cf_core.specs.Core.{Core}
use Rattle.cf_core.specs.FromTypes.{Tables, type_of}
use Rattle.cf_core.specs.Joined.{is_nothing}
use Rattle.cf_plain.specs.declared.action.Action.{Action}
use Rattle.cf_plain.specs.declared.action.Action.TheVariants as action
use Rattle.cf_plain.specs.View.{action_of}
use Rattle.cf_plain.specs.Plain.{Plains, more, set as sets, act as acts}
use Rattle.cf_plain.specs.Plain as plain
use Rattle.cf_sequence.specs.Built.{is_start, is_value, is_filling, is_list}
use Rattle.cf_sequence.specs.Made.{width}
use Rattle.cf_sequence.specs.Expressions.{destination, value, whole, builds, used as use_of}
use Rattle.cf_sequence.specs.Statements.{Inside, statement, condition}
use Rattle.cf_sequence.specs.Statements as definition
use Rattle.cf_sequence.proofs.Filling.{fill, filling-adds, started-is}
use Rattle.cf_sequence.proofs.Calling.{never}
use Rattle.cf_sequence.proofs.Fulls.{nothing-is}
use Rattle.cf_sequence_expr.specs.declared.writing.Writing.{Writing}
use Rattle.cf_sequence_expr.specs.Writes.{used, set, act}
use Rattle.cf_sequence_expr.specs.Pieces.{Piece}
use Rattle.cf_sequence_stmt.specs.declared.body.Body.{Body}
use Rattle.cf_sequence_stmt.specs.declared.body.Open.{Open}
use Rattle.cf_sequence_stmt.specs.Bodies.{Initial, does_nothing, fills, lists, gives, is_blank, behind_flags, full, given, tested, started, held_too, declared}
use Rattle.cf_sequence_written.proofs.Puts.{Puts, Still, puts-none, still-set, still-act, still-used, puts-as, puts-still, still-puts}
use Rattle.cf_sequence_written.proofs.Values.{Writes}
use Rattle.cf_sequence_written.proofs.Evaluated.{gives-value}
use Rattle.cf_sequence_written.proofs.Fulls.{puts-whole, puts-all}
use Rattle.cf_sequence_written.proofs.Opens.{ends}
use Rattle.cf_sequence_written.proofs.Held.{held_list}
use Rattle.cf_sequence_written.proofs.Bodies.{Goes, goes-on, goes-opened}

pub gives-builds : (e : Core) → is_start e ≡ true → is_nothing e ≡ false → builds e ≡ false
gives-builds e ok there = gives-value e (subst (λ b. b || is_value e ≡ true) there ok)

module _ (tables : Tables) (signature : MemberRef → Name) where
  -- an expression that stands by itself, or an initialiser
  pub record Whole (p : Piece) (e : Core) : Type 0 where
    pub writes : (classes : List Class) → Writes tables signature classes p e
    pub count : length (p.locals []) ≡ width e
    pub put : is_nothing e ≡ false → builds e ≡ false

  behind : {p : Piece} {e : Core} → Whole p e → (n : ℕ) → behind_flags n p ≡ n + width e
  behind w n = ap (λ m. n + m) w.count

  pub register : {p : Piece} {e : Core} → Whole p e → behind_flags 0 p ≡ 0 + width e
  register w = behind w 0

  pub goes-full : {p : Piece} {e : Core} (f : Inside) (b : Body) → Whole p e
      → Goes tables signature (λ k rest. statement f (core.full e) k rest) (width e) [] b (full p b)
  unfolding full
  goes-full {p} {e} f b w = goes-on tables signature b (puts-all tables signature f.classes 0 None (w.writes f.classes) (behind w 0))

  -- a value that is used
  pub goes-given : {p : Piece} {e : Core} (classes : List Class) (b : Body) → Whole p e
      → Goes tables signature (λ k rest. whole e 0 k (λ x n rest. value classes x e None n k (use_of n rest)) (λ n. rest)) (width e) [] b (given p b)
  unfolding given
  goes-given {p} {e} classes b w =
      goes-on tables signature b
      (puts-whole tables signature classes 0 None use_of (w.writes classes)
      (subst (λ r. Still tables signature (used (behind_flags 0 p)) (use_of r)) (behind w 0) (still-used tables signature (behind_flags 0 p))) (behind w 0))

  -- a condition
  pub goes-tested : {p : Piece} {e : Core} (classes : List Class) (b : Body) → Whole p e
      → Goes tables signature (λ k rest. condition classes e k (λ n. rest)) (width e) [] b (tested p b)
  unfolding tested
  goes-tested {p} {e} classes b w =
      let r = behind_flags 0 p in
      goes-on tables signature b
      (puts-whole tables signature classes 0 None (λ n rest. more (sets n (plain.truth n)) rest) (w.writes classes)
      (subst (λ n. Still tables signature (set r (action.Truth r)) (λ rest. more (sets n (plain.truth n)) rest)) (behind w 0) (still-set tables signature r (action.Truth r))) (behind w 0))

  -- Initialisers.

  -- a list: the elements of an array of this type, from a free register on
  pub record Lists (f : ℕ → ℕ → ℕ → Writing → Writing) (e : Core) : Type 0 where
    pub puts : (classes : List Class) (t n m : ℕ) → is_list (type_of tables t) e ≡ true → m ≡ suc n + width e
        → Puts tables signature (f t n m) (λ k rest. definition.started classes (type_of tables t) e n k rest) (width e)

  -- what an initialiser is found to do
  abbrev pub Begins : Initial → Core → Type 0
  Begins does_nothing e = is_nothing e ≡ true
  Begins (fills a) e = (is_filling e ≡ true) × ((n : ℕ) → action_of tables signature (a n) ≡ fill e n)
  Begins (lists f) e = (is_nothing e ≡ false) × (is_filling e ≡ false) × (builds e ≡ true) × Lists f e
  Begins gives e = (is_nothing e ≡ false) × (is_filling e ≡ false) × ((T : SourceType) → is_list T e ≡ false)

  pub as-found : (i : Initial) (e : Core) → Begins i e → is_blank i ≡ is_nothing e
  as-found does_nothing e begins = sym begins
  as-found (fills a) e begins = by e begins.0
    where
      by : (e : Core) → is_filling e ≡ true → false ≡ is_nothing e
      by core.blank ok = ok
      by e ok = refl
  as-found (lists f) e begins = sym begins.0
  as-found gives e begins = sym begins.0

  -- the initialiser of an object of this type, as it is written
  pub record Initiates (i : Initial) (p : Piece) (t : ℕ) (e : Core) : Type 0 where
    pub begins : Begins i e
    pub whole : is_filling e ≡ false → is_list (type_of tables t) e ≡ false → Whole p e
    pub count : length (p.locals []) ≡ width e

  puts-value-there : {p : Piece} {e : Core} (classes : List Class) (t n : ℕ) → builds e ≡ false → Whole p e
      → Puts tables signature (started gives p t n) (λ k rest. definition.started classes (type_of tables t) e n k rest) (width e)
  unfolding started
  puts-value-there {p} {e} classes t n gives_value w =
      let T = type_of tables t in
      let r = behind_flags (suc n) p in
      let put : ℕ → Bool → Plains → Plains = λ k c rest.
      whole e (suc n) k (λ x m rest. value classes x e (destination n T) m k (if c then rest else more (acts (plain.first n m)) rest)) (λ m. rest) in
      puts-as tables signature
      (puts-whole tables signature classes (suc n) (destination n T) (λ m rest. more (acts (plain.first n m)) rest) (w.writes classes)
      (subst (λ m. Still tables signature (act (action.First n r)) (λ rest. more (acts (plain.first n m)) rest)) (behind w (suc n)) (still-act tables signature (action.First n r))) (behind w (suc n)))
      (λ k rest. ap (λ c. put k c rest) (sym gives_value)) refl

  puts-nothing : (p : Piece) (e : Core) (classes : List Class) (t n : ℕ) → is_nothing e ≡ true
      → Puts tables signature (started does_nothing p t n) (λ k rest. definition.started classes (type_of tables t) e n k rest) (width e)
  unfolding started
  puts-nothing p e classes t n blank =
      subst (λ e. Puts tables signature (λ w. w) (λ k rest. definition.started classes (type_of tables t) e n k rest) (width e)) (sym (nothing-is e blank)) (puts-none tables signature)

  puts-filled : (p : Piece) (e : Core) (classes : List Class) (t n : ℕ) (a : ℕ → Action) → is_filling e ≡ true → action_of tables signature (a n) ≡ fill e n
      → Puts tables signature (started (fills a) p t n) (λ k rest. definition.started classes (type_of tables t) e n k rest) (width e)
  unfolding started
  puts-filled p e classes t n a filling same =
      puts-as tables signature (puts-still tables signature (puts-none tables signature) (still-act tables signature (a n)))
      (λ k rest. ap (λ x. more (acts x) rest) same ∙ sym (started-is classes (type_of tables t) e filling n k rest)) (sym (ap length (filling-adds e filling)))

  puts-listed : {p : Piece} {e : Core} (classes : List Class) (t n : ℕ) (f : ℕ → ℕ → ℕ → Writing → Writing) → Initiates (lists f) p t e
      → Puts tables signature (started (lists f) p t n) (λ k rest. definition.started classes (type_of tables t) e n k rest) (width e)
  unfolding started
  puts-listed {p} {e} classes t n f w =
      Lists.puts w.begins.3 classes t n (behind_flags (suc n) p) (listed (is_list (type_of tables t) e) refl) (ap (λ m. suc n + m) w.count)
    where
      listed : (b : Bool) → is_list (type_of tables t) e ≡ b → is_list (type_of tables t) e ≡ true
      listed true is = is
      listed false is = never (sym (Whole.put (w.whole w.begins.1 is) w.begins.0) ∙ w.begins.2)

  pub puts-started : {p : Piece} {e : Core} (classes : List Class) (t n : ℕ) (i : Initial) → Initiates i p t e
      → Puts tables signature (started i p t n) (λ k rest. definition.started classes (type_of tables t) e n k rest) (width e)
  puts-started {p} {e} classes t n does_nothing w = puts-nothing p e classes t n w.begins
  puts-started {p} {e} classes t n (fills a) w = puts-filled p e classes t n a w.begins.0 (w.begins.1 n)
  puts-started {p} {e} classes t n (lists f) w = puts-listed classes t n f w
  puts-started {p} {e} classes t n gives w =
      let whole = w.whole w.begins.1 (w.begins.2 (type_of tables t)) in puts-value-there classes t n (whole.put w.begins.0) whole

  pub goes-declared : {p : Piece} {e : Core} (f : Inside) (b : Body) (i t : ℕ) (initial : Initial) (held : Option Open) → Initiates initial p t e
      → Goes tables signature (λ k rest. statement f (core.declare i (type_of tables t) e) k rest) (width e) (record { number = i; type = type_of tables t } ∷ ends tables (held_list held)) b
      (declared i t initial held p b)
  unfolding declared held_too
  goes-declared f b i t initial None w =
      goes-opened tables signature i t
      (goes-on tables signature b (still-puts tables signature (still-set tables signature 0 (action.Declare i t)) (puts-started f.classes t 0 initial w)))
  goes-declared f b i t initial (Some x) w =
      goes-opened tables signature i t (goes-opened tables signature x.number x.ty
      (goes-on tables signature b (still-puts tables signature (still-set tables signature 0 (action.Declare i t)) (puts-started f.classes t 0 initial w))))

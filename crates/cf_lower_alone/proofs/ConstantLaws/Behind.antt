-- Behind the constants all stands as the source's `main` needs it.
use Rattle.std.proofs.Common.{◌≡◌, ℕ, ◌<◌, true, false, ◌==◌, List, [], ◌∷◌, slice_get, map, Option, Some, None, Ok, refl, ap, sym, subst, ◌∙◌, arith}
use Rattle.std.specs.Prelude.{filter, codes, option_map}
use Rattle.std.specs.List.{flat_map}
use Rattle.std.proofs.lemmas.Bool.Decides.{nat_tests}
use Rattle.cf_base.specs.Agree.{Adds}
use Rattle.cf_base.specs.World.{World, Ran, Went, Stops}
use Rattle.cf_core.specs.Types.{Name, void}
use Rattle.cf_core.specs.Core.{Static}
use Rattle.cf_core.specs.Places.{Route, type_at}
use Rattle.cf_core.specs.Store.{zero_of}
use Rattle.cf_core.specs.Objects.{static_number}
use Rattle.cf_core.specs.Program.{static_object_of, first_state}
use Rattle.cf_core.specs.Run.{State, Did, Gives, Exits, Malformed, for_all}
use Rattle.cf_plain.specs.Plain.{PlainStatic}
use Rattle.cf_plain.specs.Program.{PlainSetting, set_constant}
use Rattle.cf_plain.specs.Joined.{renamed_all, sets_constant, constant_setting}
use Rattle.cf_plain.specs.Running as plain
use Rattle.cf_plain_finished.specs.Finished.{Always, NoneFinished}
use Rattle.cc_whole.specs.Known.{is_helper, is_main}
use Rattle.cc_whole.specs.Plain.{Statement, in_order}
use Rattle.cc_whole_closed.proofs.Plains.{statement_with}
use Rattle.cc_whole_link.specs.Rename.{Renaming}
use Rattle.cc_whole_memory.specs.declared.store.Storage.TheVariants as storage
use Rattle.cc_whole_memory.specs.Blocks.{Memory, born}
use Rattle.cc_whole_mean.specs.Callee.{own, callee_named}
use Rattle.cc_whole_mean.specs.declared.named.Named.TheVariants as meant
use Rattle.cc_whole_mean.specs.Flow as c
use Rattle.cc_whole_mean.specs.Flow.{in_memory}
use Rattle.cc_whole_mean.specs.Mean as mean
use Rattle.cc_whole_mean.specs.Mean.{refused, helps_in}
use Rattle.cc_whole_mean.proofs.Growth.{grows-runs, grows-refused, grows-does_all}
use Rattle.cc_whole_sections.specs.Sections.{Every}
use Rattle.cf_lower.specs.Constants.{nothing_known, constant_code}
use Rattle.cf_lower.specs.Functions.{owner_of}
use Rattle.cf_lower_relate.specs.Map.{Fixed, Map, is_shown}
use Rattle.cf_lower_relate.proofs.Objects.{block-other}
use Rattle.cf_lower_steps.specs.Flows.{Simulates}
use Rattle.cf_lower_turns.specs.Texts.{Text, Texts, Free, NewText, TextsLaid}
use Rattle.cf_lower_turns.proofs.Following.{sim-as, sim-map}
use Rattle.cf_lower_calls.specs.Returns.Called.{Programs, fixed}
use Rattle.cf_lower_begun.specs.Begun.{static_map}
use Rattle.cf_lower_settings.specs.Set.{NamedThere, NamesStand, Standing, Clear, SetAs, NoExit}
use Rattle.cf_lower_settings.proofs.Runs.{GivesAs}
use Rattle.cf_lower_settings.proofs.Settings.{Done, Sets, Different, sim-of, no-exit, settings-alike}
use Rattle.cf_lower_settings.proofs.Stores.{shown-visible}
use Rattle.cf_lower_alone.specs.Linked.{calls_of_helpers, helpers_of}
use Rattle.cf_lower_alone.specs.Starts.{Starts}
use Rattle.cf_lower_alone.specs.Added.{main_scope, status_block, ReadyBehind, ConstantsAlike}
use Rattle.cf_lower_alone.proofs.AgreesLaws.Ready.{ready, place}
use Rattle.cf_lower_alone.proofs.ConstantLaws.Helper.{around, sim-around, helper, helper-called}

always-of : {A : Type 0} (K : Fixed) (texts : Texts) (F : Map) (s : State) (m : Memory) (x : Ran (Did A)) (y : Ran c.Flow)
    → Simulates (λ a t flow. SetAs K texts F s m t flow) x y → NoExit x → s.finished ≡ [] → Always NoneFinished x
always-of K texts F s m (Went (Gives a t) w) y h n e = record { by = h.by.related.later.finished ∙ e }
always-of K texts F s m (Went (Exits z t) w) y h n e = absurd (n.by)
always-of K texts F s m (Went Malformed w) y h n e = record { by = tt }
always-of K texts F s m (Stops end trace) y h n e = record { by = tt }

-- All literals, of functions and of initialisers, as the program starts in this memory.
pub record AllTexts (B : Programs) (m : Memory) (texts : Texts) : Type 0 where
  pub functions : (f : Name) (j : ℕ) (x : Text) → B.texts f j ≡ Some x → texts f j ≡ Some x
  pub laid : TextsLaid (fixed B) texts m.next
  pub new : (f : Name) (j : ℕ) (x : Text) → texts f j ≡ Some x → NewText (fixed B) (static_map B.program) m x

module _ (B : Programs) (depth : ℕ) (m : Memory) (start : Starts B depth m) where
  pub named-there : (name : Name) (o : ℕ) → static_number B.program name ≡ Some o → NamedThere B.program (static_map B.program) B.c_program.names name o
  named-there name o e =
      let x = start.statics name o e in
      record { shape = x.shape; named = x.named; known = x.known; type = x.type; shown = x.shown; base = x.base }

module _ (B : Programs) (depth : ℕ) (m : Memory) (start : Starts B depth m) (texts : Texts) (all : AllTexts B m texts) where
  abbrev F : Map
  F = static_map B.program

  abbrev m0 : Memory
  m0 = born storage.Local 4 m

  younger : (b n : ℕ) → b < n → b == n ≡ false
  younger b n lt = grind (arith, nat_tests, lt)

  -- as both start all stands
  pub stands-first : Standing (fixed B) texts F (first_state B.program depth) m0
  stands-first = record {
    rel = (ready B depth m start).rel;
    shown = λ o lt. refl;
    laid = record { below = λ f j x e. let l = all.laid.below f j x e in omega (arith, l); laid = all.laid.laid; apart = all.laid.apart };
    literals = λ f j x e.
        let t = all.new f j x e in
        record {
          free = t.free;
          block = t.block;
          there = block-other m.next x.block (Some status_block) m.block (younger x.block m.next (all.laid.below f j x e)) ∙ t.there;
          size = t.size;
          cells = t.cells;
        };
  }

  pub ready-behind : (t : State) (flow : c.Flow) → SetAs (fixed B) texts F (first_state B.program depth) m0 t flow → ReadyBehind B depth m.next t flow
  ready-behind t flow x =
      let R = ready B depth m start in
      let P = place B depth m start in
      let wider = x.later.wider in
      let stands = x.later.standing in
      let next = x.later.next in
      let free : Free x.map m.next = wider.free m.next (λ f j y e same. let l = all.laid.below f j y e in absurd (omega (arith, l, same))) P.free in
      record {
        after = x.after;
        is = x.is;
        map = x.map;
        ready = record {
          rel = stands.rel;
          shown = λ o lt. shown-visible (x.map.stage o) (stands.shown o lt);
          texts_laid = record {
            below = λ f j y e. let l = R.texts_laid.below f j y e in omega (arith, l, next);
            laid = R.texts_laid.laid;
            apart = R.texts_laid.apart;
          };
          texts = λ f j y e. stands.literals f j y (all.functions f j y e);
          statics = λ name o e.
              let y = start.statics name o e in
              record {
                shape = y.shape;
                named = y.named ∙ ap (λ (b : ℕ). Some (meant.Variable b y.shape)) (sym (wider.block o y.known));
                known = let l = y.known in let k = wider.count in omega (arith, l, k);
                type = wider.type o y.known ∙ y.type;
                shown = ap is_shown (wider.stage o y.known) ∙ y.shown;
                base = wider.base o y.known ∙ y.base;
              };
        };
        place = record {
          block = x.later.elsewhere m.next free ∙ P.block;
          below = let l = P.below in omega (arith, l, next);
          no_text = P.no_text;
          free = free;
        };
        levels = x.later.depth;
        finished = x.later.finished;
      }

-- what is called before `main` is found
abbrev pub HelperFound : Programs → Renaming → List Statement → Type 0
HelperFound B r [] = Unit {0}
HelperFound B r (s ∷ ss) =
    (is_main (r (codes "__hci")) ≡ false) × ((is_helper (r (codes "__hci")) ≡ true)
    × (callee_named B.c_program.functions (r (codes "__hci"))
    ≡ Ok (own (helper (r (codes "__hci")) (in_order (map (λ (x : Statement). statement_with x r) (s ∷ ss)))))))

module _ (B : Programs) (none : B.program.classes ≡ []) where
  -- static storage is zero as the program starts
  zeroed-first : (x : Option Static) (π : Route) → (static_object_of B.program.classes x).held π
      ≡ Some (zero_of (type_at [] (static_object_of B.program.classes x).type π))
  zeroed-first None π = ap (λ cs. Some (zero_of (type_at cs void π))) none
  zeroed-first (Some x) π = ap (λ cs. Some (zero_of (type_at cs x.type π))) none

  unset-first : (depth : ℕ) (q : Name → Name) (xs : List PlainStatic)
      → Every (λ (x : PlainStatic). (o : ℕ) → static_number B.program (q x.name) ≡ Some o → Clear ((static_map B.program).type o) [] o (first_state B.program depth)) xs
  unset-first depth q xs x h o is π u lead sort free = zeroed-first (slice_get B.program.statics o) π

module _ (B : Programs) (none : B.program.classes ≡ []) (first : c.State) (start : (depth : ℕ) → Starts B depth first.memory)
    (N : NamesStand B.program B.function B.signature (static_map B.program) B.c_program.names) (q r : Name → Name) (name : Name) (xs : List PlainStatic)
    (texts : Texts) (all : AllTexts B first.memory texts) (sets : Every (Sets B.program texts B.c_program.names q r name) xs) (differ : Different B.program q xs) where
  abbrev stores : List Statement
  stores = flat_map (λ (x : PlainStatic). constant_code [] x.start (owner_of x) nothing_known) (filter (λ (x : PlainStatic). x.is_constant) xs)

  abbrev there : PlainStatic → PlainStatic
  there x = record x { name = q x.name; start = renamed_all q x.start; owner = option_map q x.owner }

  abbrev settings : List PlainSetting
  settings = map (constant_setting name) (filter sets_constant (map there xs))

  module _ (found : HelperFound B r stores) (n depth : ℕ) where
    abbrev again : mean.Again
    again = mean.runs B.c_program n

    abbrev inner : List Statement → c.State → World → Ran c.Flow
    inner ss u w = mean.does_all again refused B.c_program true (in_order ss) B.c_program.names depth u w

    abbrev with_names : List Statement → List Statement
    with_names ss = map (λ (x : Statement). statement_with x r) ss

    inner-adds : (ss : List Statement) (u : c.State) (w : World) → Adds w.trace (inner ss u w)
    inner-adds ss u w = grows-does_all again refused (grows-runs B.c_program n) grows-refused B.c_program true (in_order ss) B.c_program.names depth u w

    abbrev F0 : Map
    F0 = static_map B.program

    abbrev s0 : State
    s0 = first_state B.program depth

    abbrev u0 : c.State
    u0 = in_memory first (born storage.Local 4 first.memory)

    abbrev source : World → Ran (Did (Unit {0}))
    source w = for_all settings (set_constant (plain.runs B.program B.functions n) B.program) s0 w

    abbrev S : State → c.Flow → Type 0
    S t flow = SetAs (fixed B) texts F0 s0 u0.memory t flow

    in-helper : (w : World) (ss : List Statement) → HelperFound B r ss
        → ((u : c.State) → u.memory ≡ u0.memory → Simulates (λ a t flow. S t flow) (source w) (inner (with_names ss) u w))
        → Simulates (λ a t flow. S t flow) (source w)
        (mean.does_all again (helps_in again B.c_program false) B.c_program false (in_order (calls_of_helpers (helpers_of r ss)))
        (main_scope B.c_program.names first.memory.next) depth u0 w)
    in-helper w [] found h = h u0 refl
    in-helper w (s ∷ ss) found h =
        let u1 : c.State = in_memory (in_memory u0 u0.memory) u0.memory in
        sim-as (λ a t flow. S t flow) (source w) (around u0.memory.next (inner (with_names (s ∷ ss)) u1 w)) _
        (helper-called B.c_program again (r (codes "__hci")) (in_order (with_names (s ∷ ss))) found.0 found.1.0 found.1.1
        (main_scope B.c_program.names first.memory.next) depth u0 w)
        (sim-around (fixed B) texts F0 s0 u0.memory u0.memory.next (source w) (inner (with_names (s ∷ ss)) u1 w) (h u1 refl))

    stands-at : (u : c.State) → u.memory ≡ u0.memory → Standing (fixed B) texts F0 s0 u.memory
    stands-at u e = subst (Standing (fixed B) texts F0 s0) (sym e) (stands-first B depth first.memory (start depth) texts all)

    -- all are set in both, from a state of the C with this memory
    all-set : (u : c.State) → u.memory ≡ u0.memory → (w : World)
        → GivesAs (source w) w
        (λ a t. Done B.program B.function B.signature texts B.c_program.names q r (plain.runs B.program B.functions n) again refused B.c_program true depth name
        (with_names stores) F0 s0 u t)
    all-set u e w =
        settings-alike B.program B.function B.signature texts B.c_program.names q r (plain.runs B.program B.functions n) again refused B.c_program true depth name xs sets differ w
        F0 N s0 u (stands-at u e) (unset-first B none depth q xs)

    pub set-sim : (w : World) → Simulates (λ a t flow. S t flow) (source w)
        (mean.does_all again (helps_in again B.c_program false) B.c_program false (in_order (calls_of_helpers (helpers_of r stores)))
        (main_scope B.c_program.names first.memory.next) depth u0 w)
    set-sim w =
        in-helper w stores found (λ u e.
        subst (λ m. Simulates (λ a t flow. SetAs (fixed B) texts F0 s0 m t flow) (source w) (inner (with_names stores) u w)) e
        (sim-of B.program B.function B.signature texts B.c_program.names q r (plain.runs B.program B.functions n) again refused B.c_program true depth name (with_names stores) F0 s0 u w
        (inner-adds (with_names stores) u w) (source w) (all-set u e w)))

    pub set-kept : (w : World) → Always NoneFinished (source w)
    set-kept w =
        always-of (fixed B) texts F0 s0 u0.memory (source w) _ (set-sim w)
        (no-exit B.program B.function B.signature texts B.c_program.names q r (plain.runs B.program B.functions n) again refused B.c_program true depth name _ (source w) w (all-set u0 refl w)) refl

  pub constants-alike : HelperFound B r stores → ConstantsAlike B settings (calls_of_helpers (helpers_of r stores)) first
  constants-alike found = record {
    alike = λ n depth w input.
        sim-map (λ a t flow. SetAs (fixed B) texts (static_map B.program) (first_state B.program depth) (born storage.Local 4 first.memory) t flow)
        (λ a t flow. ReadyBehind B depth first.memory.next t flow) (λ a t flow. ready-behind B depth first.memory (start depth) texts all t flow) _ _ (set-sim found n depth w);
    kept = λ n depth w. set-kept found n depth w;
  }

-- Static objects are set one after another in both.
use Rattle.std.proofs.Common.{◌≡◌, ℕ, Bool, true, false, not, ◌&&◌, cond, ◌<◌, List, [], ◌∷◌, ◌++◌, map, Some, refl, ap, sym, subst, ◌∙◌, inl, inr, append-nil}
use Rattle.std.specs.Prelude.{filter, option_map}
use Rattle.std.specs.List.{flat_map}
use Rattle.std.proofs.lemmas.Bool.{true≢false}
use Rattle.cf_base.specs.Event.{Ended, Ticks, Depth, Undefined}
use Rattle.cf_base.specs.World.{World, Ran, Went, Stops, shown}
use Rattle.cf_base.specs.Agree.{Begins, Adds}
use Rattle.cf_core.specs.Types.{Name, SourceType}
use Rattle.cf_core.specs.Store.{Object}
use Rattle.cf_core.specs.Run.{State, Did, Gives, Exits, Malformed, Act, done, for_all, with_frame}
use Rattle.cf_core.specs.Calls.{Program}
use Rattle.cf_core.specs.Objects.{static_number}
use Rattle.cf_core.specs.Joined.{owner_or}
use Rattle.cf_plain.specs.Plain.{Plains, nothing, more, PlainStatic}
use Rattle.cf_plain.specs.Acts.{no_registers}
use Rattle.cf_plain.specs.Joined.{renamed_all, is_empty, sets_constant, constant_setting}
use Rattle.cf_plain.specs.Program.{set_constant}
use Rattle.cf_plain.specs.Running as running
use Rattle.cf_plain.specs.Running.{Flow, all}
use Rattle.cc_whole.specs.Plain.{Statement}
use Rattle.cc_whole_mean.specs.Flow as c
use Rattle.cc_whole_mean.specs.Mean as mean
use Rattle.cc_whole_mean.specs.Scope.{Scope}
use Rattle.cc_whole_sections.specs.Sections.{Every}
use Rattle.cf_lower_relate.specs.Map.{Fixed, Map}
use Rattle.cf_lower.specs.Constants.{nothing_known, all_known_after, constant_code}
use Rattle.cf_lower.specs.Functions.{owner_of}
use Rattle.cf_lower_steps.specs.Lowering.{fixed_of}
use Rattle.cf_lower_steps.specs.Flows.{Simulates}
use Rattle.cf_lower_turns.specs.Texts.{Texts}
use Rattle.cf_lower_program.specs.Alike.{nothing_told, all_told_after, statements_alike, start_alike}
use Rattle.cf_lower_settings.specs.Named.{NamesGo}
use Rattle.cf_lower_settings.specs.Set.{NamesStand, OwnObject, LiteralThere, Standing, Clear, Wider, SetAs, NoExit}
use Rattle.cf_lower_settings.proofs.Runs.{GivesAs, gives-then, gives-map}
use Rattle.cf_lower_settings.proofs.Done.{with_names}
use Rattle.cf_lower_settings.proofs.Later.{run, LaterBy, by-none, by-both, stand-later}
use Rattle.cf_lower_settings.proofs.Statements.{Walked, statements-walk}

-- ---- an empty initialiser

empty-code : (ss : Plains) (f : Name) (q : Name → Name) → is_empty (renamed_all q ss) ≡ true → constant_code [] ss f nothing_known ≡ []
empty-code nothing f q e = refl
empty-code (more s ss) f q e = absurd (true≢false (sym e))

-- what is asked of a static object, whose object has this number; literals of those outside functions are numbered with the name `other`
pub record Sets (P : Program) (texts : Texts) (names : Scope) (q r : Name → Name) (other : Name) (x : PlainStatic) : Type 0 where
  pub alike : start_alike x ≡ true
  pub names_go : NamesGo q r (LiteralThere texts names r (owner_of x) (owner_or other (option_map q x.owner))) x.start
  pub object : ℕ
  pub numbered : static_number P (q x.name) ≡ Some object
  pub goes : r x.name ≡ q x.name

-- different static objects are different objects
abbrev pub Different : Program → (Name → Name) → List PlainStatic → Type 0
Different P q [] = Unit {0}
Different P q (x ∷ xs) =
    Every (λ (y : PlainStatic). (a b : ℕ) → static_number P (q x.name) ≡ Some a → static_number P (q y.name) ≡ Some b → b ≡ a → ⊥) xs × Different P q xs

module _ (P : Program) (function : Name → ℕ) (signature : Name → SourceType) (texts : Texts) (names : Scope) (q r : Name → Name) (again : running.Again)
    (c_again helps : mean.Again) (program : mean.Program) (inside : Bool) (depth : ℕ) (other : Name) where
  abbrev K : Fixed
  K = fixed_of P function signature

  -- these statements of the C are done, behind which the objects stand in some map
  pub record Done (xs : List Statement) (F : Map) (s : State) (u : c.State) (t : State) : Type 0 where
    pub map : Map
    pub done : LaterBy K texts names r c_again helps program inside depth xs F s u map t

  abbrev pub c_run : List Statement → c.State → World → Ran c.Flow
  c_run ss u w = run K texts names r c_again helps program inside depth ss u w

  -- ---- both runs from what the source does

  pub sim-of : {A : Type 0} (xs : List Statement) (F : Map) (s : State) (u : c.State) (w : World) → Adds w.trace (c_run xs u w) → (x : Ran (Did A))
      → GivesAs x w (λ a t. Done xs F s u t) → Simulates (λ a t flow. SetAs K texts F s u.memory t flow) x (c_run xs u w)
  sim-of xs F s u w adds (Went (Gives a t) w1) h =
      let d = h.by.1.done in
      subst (λ w1. Simulates (λ a t flow. SetAs K texts F s u.memory t flow) (Went (Gives a t) w1) (c_run xs u w)) (sym h.by.0) (record {
        by = record {
          value = c.Falls d.after;
          run = ap (λ l. c_run l u w) (sym (append-nil xs)) ∙ d.runs [] w;
          related = record { after = d.after; is = refl; map = h.by.1.map; later = d.later };
        };
      })
  sim-of xs F s u w adds (Went (Exits z t) w1) h = absurd (h.by)
  sim-of xs F s u w adds (Went Malformed w1) h = record { by = tt }
  sim-of xs F s u w adds (Stops (Undefined n) trace) h = record { by = subst (λ t. Begins t (shown (c_run xs u w))) (sym h.by) adds.by }
  sim-of xs F s u w adds (Stops (Ended z) trace) h = absurd (h.by)
  sim-of xs F s u w adds (Stops Ticks trace) h = absurd (h.by)
  sim-of xs F s u w adds (Stops Depth trace) h = absurd (h.by)

  pub no-exit : {A : Type 0} (R : A → State → Type 0) (x : Ran (Did A)) (w : World) → GivesAs x w R → NoExit x
  no-exit R (Went (Gives a t) w1) w h = record { by = tt }
  no-exit R (Went (Exits z t) w1) w h = absurd (h.by)
  no-exit R (Went Malformed w1) w h = record { by = tt }
  no-exit R (Stops end trace) w h = record { by = tt }

  -- ---- one initialiser

  -- its stores are done, and no other object has changed
  pub record SetsOwn (xs : List Statement) (own : ℕ) (F : Map) (s : State) (u : c.State) (t : State) : Type 0 where
    pub done : Done xs F s u t
    pub kept : (o : ℕ) → o < F.count → (o ≡ own → ⊥) → t.object o ≡ s.object o

  module _ (F : Map) (N : NamesStand P function signature F names) where
    pub one-set : (name : Name) (own : ℕ) → OwnObject F names r name own → (ss : Plains) (f : Name) (s : State) (u : c.State) (w : World)
        → statements_alike name ss f nothing_known nothing_told ≡ true → NamesGo q r (LiteralThere texts names r f s.frame.function) ss → Standing K texts F s u.memory
        → Clear (F.type own) [] own s
        → GivesAs (all again P (renamed_all q ss) no_registers s w) w (λ flow t. SetsOwn (with_names r (constant_code [] ss f nothing_known)) own F s u t)
    one-set name own O ss f s u w e goes stands clear =
        gives-map
        (Walked P function signature texts names q r again c_again helps program inside depth name own (constant_code [] ss f nothing_known)
        (all_known_after [] ss f nothing_known) (all_told_after ss f nothing_known nothing_told) F s u)
        (λ flow t. SetsOwn (with_names r (constant_code [] ss f nothing_known)) own F s u t) (all again P (renamed_all q ss) no_registers s w) w
        (λ flow t d. record { done = record { map = d.map; done = d.done }; kept = d.kept })
        (statements-walk P function signature texts names q r again c_again helps program inside depth name own F N O ss f s.frame.function nothing_known nothing_told no_registers s u w
        (λ i v e. tt) stands clear refl e goes)

    -- one static object, in the frame of its function
    abbrev framed : Name → State → State
    framed g t = with_frame (record t.frame { function = g }) t

    stands-framed : (g : Name) (t : State) (u : c.State) → Standing K texts F t u.memory → Standing K texts F (framed g t) u.memory
    stands-framed g t u h =
        let r = h.rel in
        record {
          rel = record { count = r.count; type = r.type; laid = r.laid; gone = r.gone; stands = r.stands; below = r.below; apart = r.apart };
          shown = h.shown;
          laid = h.laid;
          literals = h.literals;
        }

    own-object : (x : PlainStatic) (h : Sets P texts names q r other x) → OwnObject F names r x.name h.object
    own-object x h =
        let y = N.statics (q x.name) h.object h.numbered in
        record { shape = y.shape; named = ap names h.goes ∙ y.named; known = y.known; shown = y.shown }

    framed-done : (g : Name) (xs : List Statement) (own : ℕ) (s : State) (u : c.State) (t : State) → SetsOwn xs own F (framed g s) u t → SetsOwn xs own F s u t
    framed-done g xs own s u t h =
        let d = h.done.done in
        record {
          done = record {
            map = h.done.map;
            done = record {
              after = d.after;
              runs = d.runs;
              later = record {
                wider = d.later.wider;
                standing = d.later.standing;
                next = d.later.next;
                elsewhere = d.later.elsewhere;
                depth = d.later.depth;
                finished = d.later.finished;
              };
            };
          };
          kept = h.kept;
        }

    static-set : (x : PlainStatic) (h : Sets P texts names q r other x) (s : State) (u : c.State) (w : World) → Standing K texts F s u.memory → Clear (F.type h.object) [] h.object s
        → GivesAs (set_constant again P (record { function = owner_or other (option_map q x.owner); start = renamed_all q x.start }) s w) w
        (λ a t. SetsOwn (with_names r (constant_code [] x.start (owner_of x) nothing_known)) h.object F s u t)
    static-set x h s u w stands clear =
        let g : Name = owner_or other (option_map q x.owner) in
        gives-then (λ flow t. SetsOwn (with_names r (constant_code [] x.start (owner_of x) nothing_known)) h.object F (framed g s) u t)
        (λ a t. SetsOwn (with_names r (constant_code [] x.start (owner_of x) nothing_known)) h.object F s u t)
        (all again P (renamed_all q x.start) no_registers (framed g s) w) w (λ _. done)
        (one-set x.name h.object (own-object x h) x.start (owner_of x) (framed g s) u w h.alike h.names_go (stands-framed g s u stands) clear)
        (λ flow t d. record { by = (refl, framed-done g _ h.object s u t d) })

  -- ---- all of a file

  abbrev pub renamed_static : PlainStatic → PlainStatic
  renamed_static x = record x { name = q x.name; start = renamed_all q x.start; owner = option_map q x.owner }

  abbrev pub code_of : PlainStatic → List Statement
  code_of x = constant_code [] x.start (owner_of x) nothing_known

  abbrev pub source_sets : Name → List PlainStatic → Act (Unit {0})
  source_sets name xs = for_all (map (constant_setting name) (filter sets_constant (map renamed_static xs))) (set_constant again P)

  abbrev pub c_stores : List PlainStatic → List Statement
  c_stores xs = flat_map code_of (filter (λ (x : PlainStatic). x.is_constant) xs)

  -- none of them was set
  abbrev pub Unset : Map → List PlainStatic → State → Type 0
  Unset F xs s = Every (λ (x : PlainStatic). (o : ℕ) → static_number P (q x.name) ≡ Some o → Clear (F.type o) [] o s) xs

  -- all are set, from whatever map
  abbrev AllSet : List PlainStatic → World → Type 0
  AllSet xs w =
      (F : Map) → NamesStand P function signature F names → (s : State) (u : c.State) → Standing K texts F s u.memory → Unset F xs s
      → GivesAs (source_sets other xs s w) w (λ a t. Done (with_names r (c_stores xs)) F s u t)

  done-on : (xs ys : List Statement) (F : Map) (s : State) (u : c.State) (t v : State) (d : Done (with_names r xs) F s u t) → Done (with_names r ys) d.map t d.done.after v
      → Done (with_names r (xs ++ ys)) F s u v
  done-on xs ys F s u t v d e =
      record { map = e.map; done = by-both K texts names r c_again helps program inside depth xs ys F d.map e.map s u t v d.done e.done }

  settings-step : (x : PlainStatic) (xs : List PlainStatic) (mine : Sets P texts names q r other x)
      → Every (λ (y : PlainStatic). (a b : ℕ) → static_number P (q x.name) ≡ Some a → static_number P (q y.name) ≡ Some b → b ≡ a → ⊥) xs → (w : World)
      → AllSet xs w → AllSet (x ∷ xs) w
  settings-step x xs mine apart w again-set F N s u stands unset = go x.is_constant
    where
      L : List PlainStatic
      L = filter sets_constant (map renamed_static xs)

      M : List PlainStatic
      M = filter (λ (x : PlainStatic). x.is_constant) xs

      Goal : List PlainStatic → List Statement → Type 0
      Goal l ss = GivesAs (for_all (map (constant_setting other) l) (set_constant again P) s w) w (λ a t. Done (with_names r ss) F s u t)

      without : Goal L (flat_map code_of M)
      without = again-set F N s u stands (λ y k. unset y (inr k))

      still-unset : (G : Map) → Wider texts F G → (t : State) → ((o : ℕ) → o < F.count → (o ≡ mine.object → ⊥) → t.object o ≡ s.object o) → Unset G xs t
      still-unset G wider t kept y k o is =
          let known = (N.statics (q y.name) o is).known in
          subst (λ (z : Object). Clear (G.type o) [] o (record s { object = λ p. z })) (sym (kept o known (λ e. apart y k mine.object o mine.numbered is e)))
          (subst (λ t. Clear t [] o s) (sym (wider.type o known)) (unset y (inr k) o is))

      with-it : Goal (renamed_static x ∷ L) (code_of x ++ flat_map code_of M)
      with-it =
          gives-then (λ a t. SetsOwn (with_names r (code_of x)) mine.object F s u t) (λ a t. Done (with_names r (code_of x ++ flat_map code_of M)) F s u t)
          (set_constant again P (constant_setting other (renamed_static x)) s w) w (λ _. for_all (map (constant_setting other) L) (set_constant again P))
          (static-set F N x mine s u w stands (unset x (inl refl) mine.object mine.numbered))
          (λ a t d.
          gives-map (λ a v. Done (with_names r (flat_map code_of M)) d.done.map t d.done.done.after v) (λ a v. Done (with_names r (code_of x ++ flat_map code_of M)) F s u v)
          (for_all (map (constant_setting other) L) (set_constant again P) t w) w
          (λ a v e. done-on (code_of x) (flat_map code_of M) F s u t v d.done e)
          (again-set d.done.map (stand-later P function signature texts F d.done.map d.done.done.later.wider names q r N) t d.done.done.after d.done.done.later.standing
          (still-unset d.done.map d.done.done.later.wider t d.kept)))

      both-ways : (e : Bool) → is_empty (renamed_all q x.start) ≡ e → Goal (cond (not e) (renamed_static x ∷ L) L) (code_of x ++ flat_map code_of M)
      both-ways true is = subst (λ l. Goal L (l ++ flat_map code_of M)) (sym (empty-code x.start (owner_of x) q is)) without
      both-ways false is = with-it

      go : (b : Bool) → Goal (cond (b && not (is_empty (renamed_all q x.start))) (renamed_static x ∷ L) L) (flat_map code_of (cond b (x ∷ M) M))
      go true = both-ways (is_empty (renamed_all q x.start)) refl
      go false = without

  pub settings-alike : (xs : List PlainStatic) → Every (Sets P texts names q r other) xs → Different P q xs → (w : World) → AllSet xs w
  settings-alike [] h apart w =
      λ F N s u stands unset. record { by = (refl, record { map = F; done = by-none K texts names r c_again helps program inside depth F s u stands }) }
  settings-alike (x ∷ xs) h apart w = settings-step x xs (h x (inl refl)) apart.0 w (settings-alike xs (λ y k. h y (inr k)) apart.1 w)

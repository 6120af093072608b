-- What statements of an initialiser do in the source, its stores do in the C.
use Rattle.std.proofs.Common.{◌≡◌, ℕ, zero, suc, ◌<◌, Bool, true, false, not, ◌&&◌, List, [], ◌∷◌, ◌++◌, length, ℤ, pos, negsuc, Option, Some, None, inr, refl, ap, sym, subst, ◌∙◌, arith}
use Rattle.std.specs.Prelude.{int_le, nat_le}
use Rattle.std.proofs.lemmas.Bool.{true≢false}
use Rattle.std.proofs.lemmas.Bool.Decides.{nat_tests}
use Rattle.cf_base.proofs.Tests.{both}
use Rattle.cf_base.specs.declared.kind.Kind.TheVariants.{Char}
use Rattle.cf_base.specs.World.{World, Ran}
use Rattle.cf_core.specs.Types.{Name, SourceType, integer, array, without_const}
use Rattle.cf_core.specs.Objects.{literal_of}
use Rattle.cf_core.specs.Store.{Object}
use Rattle.cf_core.specs.Store as source
use Rattle.cf_core.specs.Run.{Frame, State, Did, ◌>>=◌, ◌>>◌, gives, malformed, some_or, when, born, changed}
use Rattle.cf_core.specs.Access.{used}
use Rattle.cf_core.specs.Calls.{Program, root}
use Rattle.cf_plain.specs.Plain as plain
use Rattle.cf_plain.specs.Plain.{Register, Action, Plain, Plains, act, set, branch, nothing, more}
use Rattle.cf_plain.specs.Acts.{Registers, acts}
use Rattle.cf_plain.specs.Joined.{renamed_action, renamed, renamed_all}
use Rattle.cf_plain.specs.Running as running
use Rattle.cf_plain.specs.Running.{Flow, Falls, calls, does, all, is_true, keep as keep_value}
use Rattle.cc_whole.specs.Plain.{Statement}
use Rattle.cc_whole_mean.specs.declared.named.Named.TheVariants as meant
use Rattle.cc_whole_mean.specs.Flow as c
use Rattle.cc_whole_mean.specs.Mean as mean
use Rattle.cc_whole_mean.specs.Scope.{Scope}
use Rattle.cf_lower_relate.specs.Map.{Fixed, Map, shown, is_shown}
use Rattle.cf_lower_relate.proofs.Objects.{upd-same, upd-other}
use Rattle.cf_lower.specs.Written.{literal_name}
use Rattle.cf_lower.specs.Constants.{Known, a_number, at, nothing_known, holds_truth, known_by, known_after, all_known_after, constant_stores, constant_code}
use Rattle.cf_lower_steps.specs.Lowering.{fixed_of}
use Rattle.cf_lower_turns.specs.Texts.{Text, Texts, text_type, NewText, MadeText, TextAs, object_of_text}
use Rattle.cf_lower_program.specs.Alike.{Told, nothing_told, left, action_alike, fact_by, parts_by, has_number, told_after, all_told_after, statement_alike, statements_alike}
use Rattle.cf_lower_settings.specs.Named.{NameGoes, NamesIn, NamesGo}
use Rattle.cf_lower_settings.specs.Set.{NamesStand, OwnObject, LiteralThere, Standing, Clear}
use Rattle.cf_lower_settings.proofs.Runs.{GivesAs, gives-then, gives-map}
use Rattle.cf_lower_settings.proofs.Known.{KnownAs, Knows, knows-set}
use Rattle.cf_lower_settings.proofs.Actions.{is-number, action-known}
use Rattle.cf_lower_settings.proofs.Acts.{ActDone, act-done}
use Rattle.cf_lower_settings.proofs.Done.{with_names}
use Rattle.cf_lower_settings.proofs.Later.{LaterBy, by-none, by-done, by-both, knows-later, stand-later, own-later}
use Rattle.cf_lower_settings.proofs.Literals.{map_born, state_born, old, made, later-born}

-- whether a number is other than 0
number-true : (z : ℤ) (T : Bool) → holds_truth (a_number z) ≡ Some T → not (int_le z (pos 0) && int_le (pos 0) z) ≡ T
number-true (pos zero) T e = same-truth e
  where
    same-truth : Some false ≡ Some T → false ≡ T
    same-truth e = cc
number-true (pos (suc n)) T e = (let t : not (nat_le (suc n) 0 && nat_le 0 (suc n)) ≡ true = grind (arith, nat_tests) in t) ∙ same-truth e
  where
    same-truth : Some true ≡ Some T → true ≡ T
    same-truth e = cc
number-true (negsuc n) T e = same-truth e
  where
    same-truth : Some true ≡ Some T → true ≡ T
    same-truth e = cc

module _ (P : Program) (function : Name → ℕ) (signature : Name → SourceType) (texts : Texts) (names : Scope) (q r : Name → Name) (again : running.Again)
    (c_again helps : mean.Again) (program : mean.Program) (inside : Bool) (depth : ℕ) (name : Name) (own : ℕ) where
  abbrev Kx : Fixed
  Kx = fixed_of P function signature

  abbrev Done : List Statement → Map → State → c.State → Map → State → Type 0
  Done = LaterBy Kx texts names r c_again helps program inside depth

  abbrev Holds : Map → (Register → Known) → Told → Registers → Type 0
  Holds F g told regs = Knows P function signature F names q r g told.facts regs

  -- statements have fallen through in both, registers hold what is known of them, and what may not have been set is clear
  pub record Walked (xs : List Statement) (g : Register → Known) (told : Told) (F : Map) (s : State) (u : c.State) (flow : Flow) (t : State) : Type 0 where
    pub map : Map
    pub regs : Registers
    pub is : flow ≡ Falls regs
    pub holds : Holds map g told regs
    pub done : Done (with_names r xs) F s u map t
    pub clear : Clear (map.type own) told.parts own t
    pub kept : (o : ℕ) → o < F.count → (o ≡ own → ⊥) → t.object o ≡ s.object o
    pub owner : t.frame.function ≡ s.frame.function

  -- a number that decides a branch
  truth-walks : (F : Map) (xs : List Statement) (g h : Register → Known) (told after : Told) (regs : Registers) (i : Register) (a b : Plains) (s : State) (u : c.State) (w : World)
      → Holds F g told regs → (z : ℤ) → g i ≡ a_number z → (T : Bool)
      → GivesAs (when T (all again P a regs) (all again P b regs) s w) w (Walked xs h after F s u) → holds_truth (a_number z) ≡ Some T
      → GivesAs (does again P (branch i a b) regs s w) w (Walked xs h after F s u)
  truth-walks F xs g h told after regs i a b s u w known z is T run truth =
      by (regs i) refl
    where
      R : Flow → State → Type 0
      R = Walked xs h after F s u

      of-number : (z : ℤ) → holds_truth (a_number z) ≡ Some T → GivesAs ((is_true (source.Number z) >>= (λ t. when t (all again P a regs) (all again P b regs))) s w) w R
      of-number z e = subst (λ T. GivesAs (when T (all again P a regs) (all again P b regs) s w) w R) (sym (number-true z T e)) run

      by : (o : Option source.Value) → regs i ≡ o → GivesAs ((some_or o malformed >>= used >>= is_true >>= (λ t. when t (all again P a regs) (all again P b regs))) s w) w R
      by None e = record { by = tt }
      by (Some v) e =
          subst (λ v. GivesAs ((used v >>= is_true >>= (λ t. when t (all again P a regs) (all again P b regs))) s w) w R)
          (sym (subst (λ x. KnownAs P function signature F names q r x (told.facts i) v) is (known i v e))) (of-number z truth)

  -- statements behind others
  walked-on : (F : Map) (xs ys : List Statement) (g h : Register → Known) (told after : Told) (s : State) (u : c.State) (flow : Flow) (t : State) (x : Walked xs g told F s u flow t)
      → (ran : Ran (Did Flow)) (w : World) → GivesAs ran w (Walked ys h after x.map t x.done.after) → GivesAs ran w (Walked (xs ++ ys) h after F s u)
  walked-on F xs ys g h told after s u flow t x ran w e =
      gives-map (Walked ys h after x.map t x.done.after) (Walked (xs ++ ys) h after F s u) ran w
      (λ flow v y. record {
        map = y.map;
        regs = y.regs;
        is = y.is;
        holds = y.holds;
        done = by-both Kx texts names r c_again helps program inside depth xs ys F x.map y.map s u t v x.done y.done;
        clear = y.clear;
        kept = λ o lt n. y.kept o (let c = x.done.later.wider.count in omega (arith, lt, c)) n ∙ x.kept o lt n;
        owner = y.owner ∙ x.owner;
      }) e

  abbrev chosen : Plains → Plains → Name → (Register → Known) → Told → Option Bool → Bool
  chosen ss ts f g told x = elim x [ None ↦ false | Some b ↦ elim b [ true ↦ statements_alike name ss f g told | false ↦ statements_alike name ts f g told ] ]

  branch-walks : (F : Map) (i : Register) (ss ts : Plains) (f : Name) (g : Register → Known) (told : Told) (regs : Registers) (s : State) (u : c.State) (w : World)
      → Holds F g told regs → has_number (g i) ≡ true
      → (statements_alike name ss f g told ≡ true
      → GivesAs (all again P (renamed_all q ss) regs s w) w (Walked (constant_code [] ss f g) (all_known_after [] ss f g) (all_told_after ss f g told) F s u))
      → (statements_alike name ts f g told ≡ true
      → GivesAs (all again P (renamed_all q ts) regs s w) w (Walked (constant_code [] ts f g) (all_known_after [] ts f g) (all_told_after ts f g told) F s u))
      → chosen ss ts f g told (holds_truth (g i)) ≡ true
      → GivesAs (does again P (branch i (renamed_all q ss) (renamed_all q ts)) regs s w) w
      (Walked (constant_stores [] (branch i ss ts) f g) (known_after [] (branch i ss ts) f g) (told_after (branch i ss ts) f g told) F s u)
  branch-walks F i ss ts f g told regs s u w known number one other e = by-truth (holds_truth (g i)) refl e
    where
      by-truth : (x : Option Bool) → holds_truth (g i) ≡ x → chosen ss ts f g told x ≡ true
          → GivesAs (does again P (branch i (renamed_all q ss) (renamed_all q ts)) regs s w) w
          (Walked (elim x [ None ↦ [] | Some b ↦ elim b [ true ↦ constant_code [] ss f g | false ↦ constant_code [] ts f g ] ])
          (elim x [ None ↦ nothing_known | Some b ↦ elim b [ true ↦ all_known_after [] ss f g | false ↦ all_known_after [] ts f g ] ])
          (elim x [ None ↦ nothing_told | Some b ↦ elim b [ true ↦ all_told_after ss f g told | false ↦ all_told_after ts f g told ] ]) F s u)
      by-truth None is h = absurd (true≢false (sym h))
      by-truth (Some true) is h =
          is-number (g i) number _ (λ z same.
          truth-walks F (constant_code [] ss f g) g (all_known_after [] ss f g) told (all_told_after ss f g told) regs i (renamed_all q ss) (renamed_all q ts) s u w known z same true
          (one h) (ap holds_truth (sym same) ∙ is))
      by-truth (Some false) is h =
          is-number (g i) number _ (λ z same.
          truth-walks F (constant_code [] ts f g) g (all_known_after [] ts f g) told (all_told_after ts f g told) regs i (renamed_all q ss) (renamed_all q ts) s u w known z same false
          (other h) (ap holds_truth (sym same) ∙ is))

  -- ---- a register is set

  module _ (F : Map) (N : NamesStand P function signature F names) (O : OwnObject F names r name own) (g : Register → Known) (told : Told) (regs : Registers) (s : State)
      (u : c.State) (w : World) (known : Holds F g told regs) (stands : Standing Kx texts F s u.memory) (clear : Clear (F.type own) told.parts own s) (i : Register) (f : Name) where
    -- to what is known of an action that names no literal
    set-walks : (a : Action) → action_alike g a ≡ true → NameGoes q r (λ j b. ⊥) a
        → GivesAs (does again P (renamed q (set i a)) regs s w) w (Walked [] (known_after [] (set i a) f g) (told_after (set i a) f g told) F s u)
    set-walks a e goes =
        gives-then (λ v t. (t ≡ s) × KnownAs P function signature F names q r (known_by [] f g a) (fact_by g told.facts a) v)
        (Walked [] (known_after [] (set i a) f g) (told_after (set i a) f g told) F s u)
        (acts (calls again) P regs (renamed_action q a) s w) w (λ v. gives (Falls (keep_value regs i v)))
        (action-known P function signature F names N q r (calls again) regs g told.facts known s w stands.rel.type stands.rel.laid f a goes e)
        (λ v t h. record {
          by = (
            refl,
            subst (Walked [] (known_after [] (set i a) f g) (told_after (set i a) f g told) F s u (Falls (keep_value regs i v))) (sym h.0) (record {
              map = F;
              regs = keep_value regs i v;
              is = refl;
              holds = knows-set P function signature F names q r g told.facts regs i (known_by [] f g a) (fact_by g told.facts a) v h.1 known;
              done = by-none Kx texts names r c_again helps program inside depth F s u stands;
              clear = clear;
              kept = λ o lt n. refl;
              owner = refl;
            }),
          );
        })

    -- to a literal, whose object stands already, or begins now
    module _ (here : Name) (is_here : s.frame.function ≡ here) (j : ℕ) (b : List ℕ) (L : LiteralThere texts names r f here j b) where
      abbrev x : Text
      x = L.text

      abbrev R : Flow → State → Type 0
      R = Walked [] (known_after [] (set i (plain.text j b)) f g) (told_after (set i (plain.text j b)) f g told) F s u

      there : texts s.frame.function j ≡ Some x
      there = ap (λ n. texts n j) is_here ∙ L.is

      same-type : text_type x ≡ array (integer Char) (length b)
      same-type = ap (λ b. array (integer Char) (length b)) L.bytes

      abbrev At : Map → ℕ → Type 0
      At G o = KnownAs P function signature G names q r (at (literal_name f j) 0 (array (integer Char) (length b))) (left 1) (source.At (root o))

      made-at : (G : Map) (o : ℕ) → MadeText G x o → is_shown (G.stage o) ≡ true → At G o
      made-at G o a live = record {
        place = root o;
        is = refl;
        shape = L.shape;
        named = L.named ∙ ap (λ b. Some (meant.Variable b L.shape)) (sym (a.block live));
        known = a.known;
        shown = live;
        base = a.base live;
        points = refl;
        offset = refl;
        type = inr (ap without_const (a.type ∙ same-type));
        left = omega arith;
      }

      old-walks : (o : ℕ) → MadeText F x o → R (Falls (keep_value regs i (source.At (root o)))) s
      old-walks o a = record {
        map = F;
        regs = keep_value regs i (source.At (root o));
        is = refl;
        holds = knows-set P function signature F names q r g told.facts regs i (known_by [] f g (plain.text j b)) (left 1) (source.At (root o))
            (made-at F o a (stands.shown o a.known)) known;
        done = by-none Kx texts names r c_again helps program inside depth F s u stands;
        clear = clear;
        kept = λ o lt n. refl;
        owner = refl;
      }

      new-walks : (a : NewText Kx F u.memory x) → R (Falls (keep_value regs i (source.At (root s.next)))) (state_born Kx texts F s u.memory stands j x there a)
      new-walks a =
          let G : Map = map_born Kx texts F s u.memory stands j x there a in
          let t : State = state_born Kx texts F s u.memory stands j x there a in
          let later = later-born Kx texts F s u.memory stands j x there a in
          let other : (o : ℕ) → o < F.count → t.object o ≡ s.object o =
          λ o lt. upd-other s.next o (literal_of x.bytes) s.object (old Kx texts F s u.memory stands j x there a o lt) in
          record {
            map = G;
            regs = keep_value regs i (source.At (root s.next));
            is = refl;
            holds = knows-set P function signature G names q r g told.facts regs i (known_by [] f g (plain.text j b)) (left 1) (source.At (root s.next))
                (made-at G s.next (made Kx texts F s u.memory stands j x there a) (ap is_shown (upd-same s.next shown F.stage)))
                (knows-later P function signature texts F G later.wider names q r g told.facts regs known);
            done = record { after = u; runs = λ rest w. refl; later = later };
            clear = subst (λ (y : Object). Clear (G.type own) told.parts own (record s { object = λ p. y })) (sym (other own O.known))
                (subst (λ y. Clear y told.parts own s) (sym (later.wider.type own O.known)) clear);
            kept = λ o lt n. other o lt;
            owner = refl;
          }

      text-then : (o : Option ℕ) → TextAs Kx F u.memory x o
          → GivesAs
          (((some_or o (born (literal_of x.bytes) >>= (λ o. changed (λ k. record k { literals = record { function = s.frame.function; number = j; object = o } ∷ k.literals }) >> gives o)))
          >>= (λ o. gives (source.At (root o))) >>= (λ v. gives (Falls (keep_value regs i v)))) s w) w R
      text-then None a = record { by = (refl, new-walks a) }
      text-then (Some o) a = record { by = (refl, old-walks o a) }

      text-walks : GivesAs (does again P (renamed q (set i (plain.text j b))) regs s w) w R
      text-walks =
          subst (λ b. GivesAs (does again P (set i (plain.text j b)) regs s w) w R) L.bytes
          (text-then (object_of_text s.frame.function j s) (stands.literals s.frame.function j x there))

  -- ---- all

  mutual
    statement-walks : (F : Map) (N : NamesStand P function signature F names) (O : OwnObject F names r name own) (st : Plain) (f here : Name) (g : Register → Known) (told : Told)
        (regs : Registers) (s : State) (u : c.State) (w : World) → Holds F g told regs → Standing Kx texts F s u.memory → Clear (F.type own) told.parts own s
        → s.frame.function ≡ here → statement_alike name st f g told ≡ true → NamesIn q r (LiteralThere texts names r f here) st
        → GivesAs (does again P (renamed q st) regs s w) w (Walked (constant_stores [] st f g) (known_after [] st f g) (told_after st f g told) F s u)
    statement-walks F N O (act a) f here g told regs s u w known stands clear is_here e goes =
        gives-then (λ v t. ActDone P function signature F names N q r c_again helps program inside depth name own O (with_names r (constant_stores [] (act a) f g)) (parts_by g told.parts a) s u t)
        (Walked (constant_stores [] (act a) f g) g (told_after (act a) f g told) F s u)
        (acts (calls again) P regs (renamed_action q a) s w) w (λ v. gives (Falls regs))
        (act-done P function signature F names N q r c_again helps program inside depth name own O (calls again) regs g told known s u stands.rel clear w a e)
        (λ v t h. record {
          by = (
            refl,
            record {
              map = F;
              regs = regs;
              is = refl;
              holds = known;
              done = by-done Kx texts names r c_again helps program inside depth F (with_names r (constant_stores [] (act a) f g)) s u t stands h.done;
              clear = h.clear;
              kept = λ o lt n. h.kept o n;
              owner = ap (λ (x : Frame). x.function) h.done.since.frame;
            },
          );
        })
    statement-walks F N O (set i (plain.text j b)) f here g told regs s u w known stands clear is_here e goes =
        text-walks F N O g told regs s u w known stands clear i f here is_here j b goes
    statement-walks F N O (set i a) f here g told regs s u w known stands clear is_here e goes =
        set-walks F N O g told regs s u w known stands clear i f a e goes
    statement-walks F N O (branch i ss ts) f here g told regs s u w known stands clear is_here e goes =
        let two = both (has_number (g i)) (chosen ss ts f g told (holds_truth (g i))) e in
        branch-walks F i ss ts f g told regs s u w known two.0 (λ h. statements-walk F N O ss f here g told regs s u w known stands clear is_here h goes.0)
        (λ h. statements-walk F N O ts f here g told regs s u w known stands clear is_here h goes.1) two.1
    statement-walks F N O st f here g told regs s u w known stands clear is_here e goes = absurd (true≢false (sym e))

    pub statements-walk : (F : Map) (N : NamesStand P function signature F names) (O : OwnObject F names r name own) (ss : Plains) (f here : Name) (g : Register → Known)
        (told : Told) (regs : Registers) (s : State) (u : c.State) (w : World) → Holds F g told regs → Standing Kx texts F s u.memory → Clear (F.type own) told.parts own s
        → s.frame.function ≡ here → statements_alike name ss f g told ≡ true → NamesGo q r (LiteralThere texts names r f here) ss
        → GivesAs (all again P (renamed_all q ss) regs s w) w (Walked (constant_code [] ss f g) (all_known_after [] ss f g) (all_told_after ss f g told) F s u)
    statements-walk F N O nothing f here g told regs s u w known stands clear is_here e goes = record {
      by = (
        refl,
        record {
          map = F;
          regs = regs;
          is = refl;
          holds = known;
          done = by-none Kx texts names r c_again helps program inside depth F s u stands;
          clear = clear;
          kept = λ o lt n. refl;
          owner = refl;
        },
      );
    }
    statements-walk F N O (more st ss) f here g told regs s u w known stands clear is_here e goes =
        let two = both (statement_alike name st f g told) (statements_alike name ss f (known_after [] st f g) (told_after st f g told)) e in
        let h : Register → Known = known_after [] st f g in
        let after : Told = told_after st f g told in
        gives-then (Walked (constant_stores [] st f g) h after F s u)
        (Walked (constant_stores [] st f g ++ constant_code [] ss f h) (all_known_after [] ss f h) (all_told_after ss f h after) F s u)
        (does again P (renamed q st) regs s w) w (running.falling (λ k. all again P (renamed_all q ss) k))
        (statement-walks F N O st f here g told regs s u w known stands clear is_here two.0 goes.0)
        (λ flow t x.
        subst (λ flow. GivesAs (running.falling (λ k. all again P (renamed_all q ss) k) flow t w) w
        (Walked (constant_stores [] st f g ++ constant_code [] ss f h) (all_known_after [] ss f h) (all_told_after ss f h after) F s u)) (sym x.is)
        (walked-on F (constant_stores [] st f g) (constant_code [] ss f h) h (all_known_after [] ss f h) after (all_told_after ss f h after) s u flow t x
        (all again P (renamed_all q ss) x.regs t w) w
        (statements-walk x.map (stand-later P function signature texts F x.map x.done.later.wider names q r N)
        (own-later P function signature texts F x.map x.done.later.wider names q r name own O) ss f here h after x.regs t x.done.after w x.holds x.done.later.standing x.clear
        (x.owner ∙ is_here) two.1 goes.1)))

-- What stood before stands on in a map with more literals' objects.
use Rattle.std.proofs.Common.{◌≡◌, ℕ, ◌+◌, ◌<◌, ◌≤◌, ◌⊎◌, Bool, true, List, [], ◌++◌, Some, refl, ap, sym, subst, ◌∙◌, append_assoc, arith}
use Rattle.std.proofs.lemmas.List.{map-append}
use Rattle.cf_base.specs.World.{World, Ran}
use Rattle.cf_core.specs.Types.{Name, SourceType, void, without_const}
use Rattle.cf_core.specs.Run.{State, Frame}
use Rattle.cf_core.specs.Calls.{Program}
use Rattle.cf_core.specs.Store as source
use Rattle.cf_lower_layout.specs.Layout.{offset, points}
use Rattle.cf_core.specs.Places.{type_at}
use Rattle.cf_core.specs.Pointers.{element_of, bound_of}
use Rattle.cf_plain.specs.Plain.{Register}
use Rattle.cf_plain.specs.Acts.{Registers}
use Rattle.cc_whole.specs.Plain.{Statement, in_order}
use Rattle.cc_whole_closed.proofs.Plains.{statement_with}
use Rattle.cc_whole_memory.specs.Blocks.{Memory}
use Rattle.cc_whole_mean.specs.declared.named.Named.TheVariants as meant
use Rattle.cc_whole_mean.specs.Flow as c
use Rattle.cc_whole_mean.specs.Mean as mean
use Rattle.cc_whole_mean.specs.Scope.{Scope}
use Rattle.cf_lower.specs.Constants.{Known, unknown, a_number, null, at, a_function}
use Rattle.cf_lower_relate.specs.Map.{Fixed, Map, Grows, is_ended, is_hidden, is_shown}
use Rattle.cf_lower_turns.specs.Texts.{Texts, Free, TextAs, TextsLaid, object_of_text}
use Rattle.cf_lower_turns.proofs.Literals.{text-stays}
use Rattle.cf_lower_program.specs.Alike.{Fact, left_of}
use Rattle.cf_lower_settings.specs.Set.{NamesStand, OwnObject, Since, Standing, Wider, Later}
use Rattle.cf_lower_settings.proofs.Known.{IsAt, KnownAs, Knows}
use Rattle.cf_lower_settings.proofs.Done.{with_names, DoneBy}

-- ---- maps

module _ (texts : Texts) where
  pub wider-none : (F : Map) → Wider texts F F
  wider-none F = record {
    count = omega arith;
    block = λ o lt. refl;
    base = λ o lt. refl;
    type = λ o lt. refl;
    stage = λ o lt. refl;
    free = λ b none free. free;
  }

  older : (F G : Map) → Wider texts F G → (o : ℕ) → o < F.count → o < G.count
  older F G a o lt = let l = a.count in omega (arith, l, lt)

  pub wider-then : (F G H : Map) → Wider texts F G → Wider texts G H → Wider texts F H
  wider-then F G H a b = record {
    count = let l = a.count in let k = b.count in omega (arith, l, k);
    block = λ o lt. b.block o (older F G a o lt) ∙ a.block o lt;
    base = λ o lt. b.base o (older F G a o lt) ∙ a.base o lt;
    type = λ o lt. b.type o (older F G a o lt) ∙ a.type o lt;
    stage = λ o lt. b.stage o (older F G a o lt) ∙ a.stage o lt;
    free = λ c none free. b.free c none (a.free c none free);
  }

  -- what is free later was free
  pub free-before : (F G : Map) → Wider texts F G → (b : ℕ) → Free G b → Free F b
  free-before F G a b free o lt live e = free o (older F G a o lt) (ap is_ended (a.stage o lt) ∙ live) (a.block o lt ∙ e)

  pub wider-grows : (F G : Map) → Wider texts F G → Grows F G
  wider-grows F G a = record {
    count = a.count;
    type = a.type;
    visible = λ o lt h. ap is_hidden (a.stage o lt) ∙ h;
    shown = λ o lt h k. sym (ap is_shown (a.stage o lt)) ∙ k;
    block = λ o lt h k. a.block o lt;
    base = λ o lt h k. a.base o lt;
  }

-- ---- what stands in both

module _ (K : Fixed) (texts : Texts) where
  -- in one map
  pub later-since : (F : Map) (s t : State) (m n : Memory) → Standing K texts F s m → Since K F s m t n → Later K texts F s m F t n
  later-since F s t m n h a = record {
    wider = wider-none texts F;
    standing = record {
      rel = a.rel;
      shown = h.shown;
      laid = subst (TextsLaid K texts) (sym a.next) h.laid;
      literals = λ f j x e.
          subst (TextAs K F n x) (ap (λ l. object_of_text f j (record s { literals = l })) (sym a.literals))
          (text-stays K F F (wider-grows texts F F (wider-none texts F)) m n x (λ free. free) (λ free. a.elsewhere x.block free) (object_of_text f j s) (h.literals f j x e));
    };
    next = a.next;
    elsewhere = a.elsewhere;
    depth = ap (λ (x : Frame). x.depth) a.frame;
    finished = a.finished;
  }

  pub later-none : (F : Map) (s : State) (m : Memory) → Standing K texts F s m → Later K texts F s m F s m
  later-none F s m h = record {
    wider = wider-none texts F;
    standing = h;
    next = refl;
    elsewhere = λ b free. refl;
    depth = refl;
    finished = refl;
  }

  pub later-then : (F G H : Map) (s t u : State) (m n o : Memory) → Later K texts F s m G t n → Later K texts G t n H u o → Later K texts F s m H u o
  later-then F G H s t u m n o a b = record {
    wider = wider-then texts F G H a.wider b.wider;
    standing = b.standing;
    next = b.next ∙ a.next;
    elsewhere = λ c free. b.elsewhere c free ∙ a.elsewhere c (free-before texts G H b.wider c free);
    depth = b.depth ∙ a.depth;
    finished = b.finished ∙ a.finished;
  }

  module _ (names : Scope) (r : Name → Name) (c_again helps : mean.Again) (p : mean.Program) (inside : Bool) (depth : ℕ) where
    abbrev pub run : List Statement → c.State → World → Ran c.Flow
    run ss u w = mean.does_all c_again helps p inside (in_order ss) names depth u w

    -- these statements of the C are done before others
    pub record LaterBy (xs : List Statement) (F : Map) (s : State) (u : c.State) (G : Map) (t : State) : Type 0 where
      pub after : c.State
      pub runs : (rest : List Statement) (w : World) → run (xs ++ rest) u w ≡ run rest after w
      pub later : Later K texts F s u.memory G t after.memory

    pub by-none : (F : Map) (s : State) (u : c.State) → Standing K texts F s u.memory → LaterBy [] F s u F s
    by-none F s u h = record { after = u; runs = λ rest w. refl; later = later-none F s u.memory h }

    pub by-done : (F : Map) (xs : List Statement) (s : State) (u : c.State) (t : State) → Standing K texts F s u.memory
        → DoneBy K F names r c_again helps p inside depth xs s u t → LaterBy xs F s u F t
    by-done F xs s u t h a = record { after = a.after; runs = a.runs; later = later-since F s t u.memory a.after.memory h a.since }

    -- of statements before names are replaced
    pub by-both : (xs ys : List Statement) (F G H : Map) (s : State) (u : c.State) (t v : State) (a : LaterBy (with_names r xs) F s u G t)
        → LaterBy (with_names r ys) G t a.after H v → LaterBy (with_names r (xs ++ ys)) F s u H v
    by-both xs ys F G H s u t v a b =
        subst (λ l. LaterBy l F s u H v) (sym (map-append (λ (x : Statement). statement_with x r) xs ys)) (record {
          after = b.after;
          runs = λ rest w.
              ap (λ l. run l u w) (append_assoc (with_names r xs) (with_names r ys) rest) ∙ a.runs (with_names r ys ++ rest) w ∙ b.runs rest w;
          later = later-then F G H s t v u.memory a.after.memory b.after.memory a.later b.later;
        })

-- ---- what is known

module _ (P : Program) (function : Name → ℕ) (signature : Name → SourceType) (texts : Texts) (F G : Map) (a : Wider texts F G) (names : Scope) (q r : Name → Name) where
  at-later : (n : Name) (o : ℕ) (t : SourceType) (k : ℕ) (v : source.Value) → IsAt P function signature F names q r n o t k v → IsAt P function signature G names q r n o t k v
  at-later n o t k v x =
      let p = x.place in
      let type : F.type p.object ≡ G.type p.object = sym (a.type p.object x.known) in
      record {
        place = p;
        is = x.is;
        shape = x.shape;
        named = x.named ∙ ap (λ b. Some (meant.Variable b x.shape)) (sym (a.block p.object x.known));
        known = older texts F G a p.object x.known;
        shown = ap is_shown (a.stage p.object x.known) ∙ x.shown;
        base = a.base p.object x.known ∙ x.base;
        points = subst (λ u. points P.classes u p.route ≡ true) type x.points;
        offset = subst (λ u. offset P.classes u p.route ≡ o) type x.offset;
        type = subst (λ u. (t ≡ void) ⊎ (without_const (type_at P.classes u p.route) ≡ without_const t)) type x.type;
        left = subst (λ u. (element_of p.route).index + k ≤ bound_of P.classes u (element_of p.route)) type x.left;
      }

  known-later : (x : Known) (f : Fact) (v : source.Value) → KnownAs P function signature F names q r x f v → KnownAs P function signature G names q r x f v
  known-later (a_number z) f v h = h
  known-later null f v h = h
  known-later (at n o t) f v h = at-later n o t (left_of f) v h
  known-later (a_function n) f v h = record { is = h.is; named = h.named; known = h.known; type = h.type }
  known-later unknown f v h = tt

  pub knows-later : (g : Register → Known) (h : Register → Fact) (regs : Registers) → Knows P function signature F names q r g h regs
      → Knows P function signature G names q r g h regs
  knows-later g h regs known i v e = known-later (g i) (h i) v (known i v e)

  pub stand-later : NamesStand P function signature F names → NamesStand P function signature G names
  stand-later N = record {
    none = N.none;
    statics = λ name o e.
        let x = N.statics name o e in
        record {
          shape = x.shape;
          named = x.named ∙ ap (λ b. Some (meant.Variable b x.shape)) (sym (a.block o x.known));
          known = older texts F G a o x.known;
          type = a.type o x.known ∙ x.type;
          shown = ap is_shown (a.stage o x.known) ∙ x.shown;
          base = a.base o x.known ∙ x.base;
        };
    functions = N.functions;
    typed = N.typed;
    library = N.library;
  }

  pub own-later : (name : Name) (own : ℕ) → OwnObject F names r name own → OwnObject G names r name own
  own-later name own O = record {
    shape = O.shape;
    named = O.named ∙ ap (λ b. Some (meant.Variable b O.shape)) (sym (a.block own O.known));
    known = older texts F G a own O.known;
    shown = ap is_shown (a.stage own O.known) ∙ O.shown;
  }

-- String literals: the first time that one is named its object comes to stand in its block (2.5.4).
use Rattle.std.proofs.Common.{◌≡◌, ℕ, suc, ◌+◌, ◌<◌, ◌≤◌, ◌⊎◌, inl, inr, Bool, true, false, ◌&&◌, ◌==◌, if◌then◌else◌, List, [], ◌∷◌, refl, sym, ◌∙◌, ap, subst, arith}
use Rattle.std.specs.Prelude.{cond, Option, Some, None, find, length, bytes_eq}
use Rattle.std.proofs.lemmas.Bool.Decides.{nat_tests}
use Rattle.cf_base.specs.declared.kind.Kind.TheVariants.{Char}
use Rattle.cf_base.specs.World.{World, Went}
use Rattle.cf_base.proofs.Tests.{both, all_of, same_bytes, bytes_same}
use Rattle.cf_core.specs.Types.{Name, SourceType, integer, array, without_const}
use Rattle.cf_core.specs.Store as source
use Rattle.cf_core.specs.Objects.{literal_of, found_literal}
use Rattle.cf_core.specs.Run.{State, Literal, Gives, upd, ◌>>=◌, ◌>>◌, gives, born, changed, some_or}
use Rattle.cf_core.specs.Calls.{root}
use Rattle.cf_lower_layout.specs.Sorts.{Sort, address}
use Rattle.cf_plain.specs.Plain as plain
use Rattle.cf_plain.specs.Plain.{Register, act, set}
use Rattle.cf_plain.specs.Acts.{Registers}
use Rattle.cf_plain.specs.Running.{Flow, Falls, does, keep as keep_value}
use Rattle.cc_whole.specs.Plain as c_tree
use Rattle.cc_whole_memory.specs.declared.value.Pointer.TheVariants as pointer
use Rattle.cc_whole_memory.specs.declared.value.Value.TheVariants as value
use Rattle.cc_whole_mean.specs.declared.named.Named.TheVariants as meant
use Rattle.cc_whole_mean.specs.declared.named.Shape.{Shape}
use Rattle.cc_whole_mean.specs.Flow as c
use Rattle.cc_whole_mean.specs.Values.{value_of, named_address}
use Rattle.cf_lower.specs.Kept.{holds, Keeping, keep, after}
use Rattle.cf_lower.specs.Written.{literal_name}
use Rattle.cf_lower.specs.Statements.{lowered, set_register}
use Rattle.cf_lower_relate.specs.Map.{Map, Stage, shown, Grows, extended, is_ended, is_hidden, is_shown}
use Rattle.cf_lower_relate.specs.Relation.{InCells, Rel, Stands}
use Rattle.cf_lower_relate.proofs.Births.{grows-extended, rel-born}
use Rattle.cf_lower_relate.proofs.Objects.{upd-same, upd-other, below-apart, cells-grow}
use Rattle.cf_lower_steps.specs.Own.{OwnBlocks, LocalObject, InLocals}
use Rattle.cf_lower_steps.specs.Steps.{GivenAs}
use Rattle.cf_lower_steps.specs.Flows.{Between, Simulates}
use Rattle.cf_lower_turns.specs.Around.{Around, depth_of, inside_at}
use Rattle.cf_lower_turns.specs.Here.{Still, InLocal, Homes, HiddenArguments, Here}
use Rattle.cf_lower_turns.specs.Texts.{Text, NoText, Free, text_type, NewText, MadeText, TextAs, object_of_text, InTexts}
use Rattle.cf_lower_turns.specs.Ways.{ends}
use Rattle.cf_lower_turns.specs.Scene.{GivesBack, Scene, fixed_in, again_at, list_at}
use Rattle.cf_lower_turns.proofs.Following.{sim-here}
use Rattle.cf_lower_turns.proofs.Literals.{text-stays}
use Rattle.cf_lower_leaves.proofs.Setting.{set-step}
use Rattle.cf_lower_objects.proofs.Growth.{registers-grow}
use Rattle.cf_lower_actions.proofs.Runs.{here-moved}

same-text : {x y : Text} → Some x ≡ Some y → x ≡ y
same-text e = cc

same-number : (i j : ℕ) → i == j ≡ true → i ≡ j
same-number i j e = grind (arith, nat_tests, e)

module _ (z : Scene) (around : Around Keeping) (p : Keeping) (n : ℕ) (g : Registers) (s : State) (t : c.State) (w : World)
    (h : Here (fixed_in z) z.body p (depth_of around) g s t) (j : ℕ) (x : Text) (is : z.body.texts z.inside.function j ≡ Some x)
    (function : s.frame.function ≡ z.inside.function) (shape : Shape)
    (named : z.body.scope (literal_name z.inside.function j) ≡ Some (meant.Variable x.block shape)) where
  abbrev S : Keeping → Flow → State → c.Flow → Type 0
  S q = ends Keeping z.body.scope (Here (fixed_in z) z.body) (GivesBack (fixed_in z) z.body z.result) around q

  abbrev F : Map
  F = h.map

  abbrev f : Name
  f = z.inside.function

  abbrev y : SourceType
  y = array (integer Char) (length x.bytes)

  below : x.block < z.body.first.next
  below = h.texts_laid.below f j x is

  -- ---- its object stands there

  made-given : (o : ℕ) → MadeText F x o
      → GivenAs (fixed_in z) F (holds (address y)) (source.At (root o)) (value_of (c_tree.address (literal_name f j)) z.body.scope t.memory)
  made-given o a = record {
    value = value.Address (pointer.At x.block 0);
    is = ap named_address named;
    same = record {
      known = a.known;
      visible = a.visible;
      inside = refl;
      type = inr (ap without_const a.type);
      pointer = pointer.At x.block 0;
      some = tt;
      is = refl;
      there = λ k.
          ap (λ b. pointer.At b 0) (sym (a.block k))
          ∙ ap (pointer.At (F.block o)) (let base = a.base k in let m : 0 ≡ F.base o + 0 = omega (arith, base) in m);
    };
  }

  -- ---- it comes to stand there

  module _ (a : NewText (fixed_in z) F t.memory x) where
    abbrev G : Map
    G = extended s.next (text_type x) x.block 0 shown F

    abbrev behind : State
    behind = record s {
      next = suc s.next;
      object = upd s.next (literal_of x.bytes) s.object;
      literals = record { function = s.frame.function; number = j; object = s.next } ∷ s.literals;
    }

    count : F.count ≡ s.next
    count = h.between.rel.count

    grows : Grows F G
    grows = grows-extended F s.next (text_type x) x.block 0 shown (let e = count in omega (arith, e))

    old : (o : ℕ) → o < F.count → o == s.next ≡ false
    old o lo = below-apart s.next o (let e = count in omega (arith, e, lo))

    known : (o : ℕ) → o < G.count → o == s.next ≡ false → o < F.count
    known o lo e = let k = count in grind (arith, nat_tests, e, lo, k)

    stage-old : (o : ℕ) → o == s.next ≡ false → is_ended (G.stage o) ≡ false → is_ended (F.stage o) ≡ false
    stage-old o ne live = sym (ap is_ended (upd-other s.next o shown F.stage ne)) ∙ live

    -- a block in which it does not come to stand
    elsewhere : (o b : ℕ) → o < G.count → is_ended (G.stage o) ≡ false → G.block o ≡ b → (x.block ≡ b → ⊥)
        → (o < F.count → is_ended (F.stage o) ≡ false → F.block o ≡ b → ⊥) → ⊥
    elsewhere o b lo live e new before = by_test (o == s.next) refl
      where
        by_test : (q : Bool) → o == s.next ≡ q → ⊥
        by_test true q = new (sym (ap (λ (k : Bool). if k then x.block else F.block o) q) ∙ e)
        by_test false q = before (known o lo q) (stage-old o q live) (sym (upd-other s.next o x.block F.block q) ∙ e)

    stands-new : Stands (fixed_in z) G s.next (literal_of x.bytes) t.memory
    stands-new = record {
      block = a.block;
      there = ap t.memory.block (upd-same s.next x.block F.block) ∙ a.there;
      size = let base = upd-same s.next 0 F.base in let room = a.size in omega (arith, base, room);
      cells = subst (λ q. InCells (fixed_in z) G (literal_of x.bytes) q a.block.cells) (sym (upd-same s.next 0 F.base))
          (cells-grow (fixed_in z) F G grows (literal_of x.bytes) 0 a.block.cells a.cells);
    }

    rel-new : Rel (fixed_in z) G behind t.memory
    rel-new =
        let r = rel-born (fixed_in z) F s t.memory h.between.rel (literal_of x.bytes) x.block 0 shown (h.texts_laid.laid f j x is) refl refl
        (let b = below in let m = h.outer.next in omega (arith, b, m)) a.free stands-new in
        record { count = r.count; type = r.type; laid = r.laid; gone = r.gone; stands = r.stands; below = r.below; apart = r.apart }

    own-apart : (u : Sort) (r : Register) → r < z.body.own.bound → x.block ≡ z.body.own.block u r → ⊥
    own-apart u r lr e = let b = below in let l = h.later.registers u r lr in omega (arith, b, l, e)

    local-apart : (i : ℕ) → i < length z.body.own.locals.types → x.block ≡ z.body.own.local i → ⊥
    local-apart i li e = let b = below in let l = h.later.locals i li in omega (arith, b, l, e)

    object-old : (i o : ℕ) → LocalObject z.body.own F i o → LocalObject z.body.own G i o
    object-old i o k =
        let new = old o k.known in
        record {
          known = let m = k.known in let c = count in omega (arith, m, c);
          type = ap without_const (upd-other s.next o (text_type x) F.type new) ∙ k.type;
          visible = λ v. ap is_hidden (upd-other s.next o shown F.stage new) ∙ k.visible v;
          block = λ live. upd-other s.next o x.block F.block new ∙ k.block (stage-old o new live);
          base = λ live. upd-other s.next o 0 F.base new ∙ k.base (stage-old o new live);
        }

    between-new : Between (fixed_in z) z.body.own z.body.scope G p g behind t.memory
    between-new = record {
      rel = rel-new;
      registers = registers-grow (fixed_in z) F G grows p g z.body.scope t.memory h.between.registers;
      blocks = record {
        named = h.between.blocks.named;
        lives = h.between.blocks.lives;
        apart = h.between.blocks.apart;
        free = λ u r lr o lo live e. elsewhere o (z.body.own.block u r) lo live e (own-apart u r lr) (λ lm lv m. h.between.blocks.free u r lr o lm lv m);
      };
      locals = record {
        blocks = h.between.locals.blocks;
        objects = λ i o li e. object-old i o (h.between.locals.objects i o li e);
        only = λ i o li lo live e. only-new i o li lo live e (o == s.next) refl;
      };
    }
      where
        only-new : (i o : ℕ) → i < length z.body.own.locals.types → o < G.count → is_ended (G.stage o) ≡ false → G.block o ≡ z.body.own.local i
            → (q : Bool) → o == s.next ≡ q → s.frame.locals i ≡ Some o
        only-new i o li lo live e true q = absurd (local-apart i li (sym (ap (λ (k : Bool). if k then x.block else F.block o) q) ∙ e))
        only-new i o li lo live e false q = h.between.locals.only i o li (known o lo q) (stage-old o q live) (sym (upd-other s.next o x.block F.block q) ∙ e)

    made : MadeText G x s.next
    made = record {
      known = omega arith;
      type = upd-same s.next (text_type x) F.type;
      visible = ap is_hidden (upd-same s.next shown F.stage);
      block = λ e. upd-same s.next x.block F.block;
      base = λ e. upd-same s.next 0 F.base;
    }

    -- all literals, of which one is made now
    texts-new : InTexts (fixed_in z) z.body.texts G behind t.memory
    texts-new e i k there = by_test (bytes_eq s.frame.function e && (j == i)) refl
      where
        by_test : (b : Bool) → bytes_eq s.frame.function e && (j == i) ≡ b → TextAs (fixed_in z) G t.memory k (object_of_text e i behind)
        by_test true q =
            let two = both (bytes_eq s.frame.function e) (j == i) q in
            let names : f ≡ e = sym function ∙ same_bytes s.frame.function e two.0 in
            let numbers : j ≡ i = same-number j i two.1 in
            let same : x ≡ k = same-text (sym is ∙ ap (λ m. z.body.texts m j) names ∙ ap (z.body.texts e) numbers ∙ there) in
            subst (TextAs (fixed_in z) G t.memory k)
            (sym (ap (λ (b : Bool). found_literal (cond b (Some (record { function = s.frame.function; number = j; object = s.next }))
            (find (λ (l : Literal). bytes_eq l.function e && (l.number == i)) s.literals))) q))
            (subst (λ m. MadeText G m s.next) same made)
        by_test false q =
            subst (TextAs (fixed_in z) G t.memory k)
            (sym (ap (λ (b : Bool). found_literal (cond b (Some (record { function = s.frame.function; number = j; object = s.next }))
            (find (λ (l : Literal). bytes_eq l.function e && (l.number == i)) s.literals))) q))
            (text-stays (fixed_in z) F G grows t.memory t.memory k
            (λ free o lo live m. elsewhere o k.block lo live m (λ blocks. other-text q (h.texts_laid.apart f e j i x k is there blocks)) (λ lm lv b. free o lm lv b))
            (λ free. refl) (object_of_text e i s) (h.texts e i k there))
          where
            true-false : {b : Bool} → b ≡ true → b ≡ false → ⊥
            true-false u v = absurd (cc)

            other-text : bytes_eq s.frame.function e && (j == i) ≡ false → (f ≡ e) × (j ≡ i) → ⊥
            other-text q two =
                true-false (all_of (bytes_eq s.frame.function e) (j == i) (bytes_same s.frame.function e (function ∙ two.0))
                (let k : j ≡ i = two.1 in grind (arith, nat_tests, k))) q

    still : (o : ℕ) → o < z.body.start.count → is_hidden (z.body.start.stage o) ≡ true → Still z.body.start F o → Still z.body.start G o
    still o lo hid k =
        let other = old o (let m = h.grows.count in omega (arith, lo, m)) in
        record {
          stage = upd-other s.next o shown F.stage other ∙ k.stage;
          block = upd-other s.next o x.block F.block other ∙ k.block;
          base = upd-other s.next o 0 F.base other ∙ k.base;
        }

    homes : Homes z.body G
    homes o lo live = by_test (o == s.next) refl
      where
        by_test : (q : Bool) → o == s.next ≡ q → (G.block o < z.body.first.next) ⊎ InLocal z.body (G.block o)
        by_test true q = inl (subst (λ b. b < z.body.first.next) (sym (ap (λ (k : Bool). if k then x.block else F.block o) q)) below)
        by_test false q =
            subst (λ b. (b < z.body.first.next) ⊎ InLocal z.body b) (sym (upd-other s.next o x.block F.block q)) (h.homes o (known o lo q) (stage-old o q live))

    arguments : HiddenArguments z.body.own G behind
    arguments i o li v there live =
        let other = old o (h.between.locals.objects i o li there).known in
        ap is_hidden (upd-other s.next o shown F.stage other) ∙ h.arguments i o li v there (stage-old o other live)

    abbrev here-new : Here (fixed_in z) z.body p (depth_of around) g behind t
    here-new = here-moved (fixed_in z) z.body p p (depth_of around) g g s behind t h G grows between-new h.below
        (λ e o le lo live k. elsewhere o (z.body.flags.block e) lo live k (λ m. let b = below in let l = h.later.flags e le in omega (arith, b, l, m))
        (λ lm lv m. h.flags_there.free e o le lm lv m))
        (λ b lb no free o lo live k. elsewhere o b lo live k (λ m. no f j x is m) (λ lm lv m. free o lm lv m)) texts-new still homes arguments

    new-given : GivenAs (fixed_in z) G (holds (address y)) (source.At (root s.next)) (value_of (c_tree.address (literal_name f j)) z.body.scope t.memory)
    new-given = record {
      value = value.Address (pointer.At x.block 0);
      is = ap named_address named;
      same = record {
        known = omega arith;
        visible = ap is_hidden (upd-same s.next shown F.stage);
        inside = refl;
        type = inr (ap without_const (upd-same s.next (text_type x) F.type));
        pointer = pointer.At x.block 0;
        some = tt;
        is = refl;
        there = λ k.
            ap (λ b. pointer.At b 0) (sym (upd-same s.next x.block F.block))
            ∙ ap (pointer.At (upd s.next x.block F.block s.next)) (let base = upd-same s.next 0 F.base in let m : 0 ≡ upd s.next 0 F.base s.next + 0 = omega (arith, base) in m);
      };
    }

  -- ---- both

  -- what the source does
  module _ (q : Keeping) (go : source.Value → Flow) (ss : List c_tree.Statement)
      (old_one : (o : ℕ) → MadeText F x o → Simulates (S q) (Went (Gives (go (source.At (root o))) s) w) (list_at z n ss t w))
      (new_one : (a : NewText (fixed_in z) F t.memory x) → Simulates (S q) (Went (Gives (go (source.At (root s.next))) (behind a)) w) (list_at z n ss t w)) where
    text-then : (o : Option ℕ) → TextAs (fixed_in z) F t.memory x o
        → Simulates (S q)
        (((some_or o (born (literal_of x.bytes) >>= (λ o. changed (λ k. record k { literals = record { function = s.frame.function; number = j; object = o } ∷ k.literals }) >> gives o)))
        >>= (λ o. gives (source.At (root o))) >>= (λ v. gives (go v))) s w) (list_at z n ss t w)
    text-then None a = new_one a
    text-then (Some o) a = old_one o a

  -- the literal by the name of the frame
  this-text : TextAs (fixed_in z) F t.memory x (object_of_text s.frame.function j s)
  this-text = subst (TextAs (fixed_in z) F t.memory x) (ap (λ m. object_of_text m j s) (sym function)) (h.texts f j x is)

  pub text-set : (r : Register) → r < z.body.own.bound
      → Simulates (S (after z.inside.locals (set r (plain.text j x.bytes)) p)) (does (again_at z n) z.program (set r (plain.text j x.bytes)) g s w)
      (list_at z n (lowered (set r (plain.text j x.bytes)) (inside_at z.inside around) p) t w)
  text-set r lr =
      text-then (keep p r (holds (address y))) (λ v. Falls (keep_value g r v)) (set_register (address y) r (c_tree.address (literal_name f j)) ∷ [])
      (λ o a. set-step z n around p (keep p r (holds (address y))) g s t w h (holds (address y)) (address y) r lr refl (c_tree.address (literal_name f j)) refl refl
      (Went (Gives (source.At (root o)) s) w) (record { by = (refl, refl, made-given o a) }))
      (λ a. set-step z n around p (keep p r (holds (address y))) g (behind a) t w (here-new a) (holds (address y)) (address y) r lr refl (c_tree.address (literal_name f j)) refl refl
      (Went (Gives (source.At (root s.next)) (behind a)) w) (record { by = (refl, refl, new-given a) }))
      (object_of_text s.frame.function j s) this-text

  pub text-done : Simulates (S p) (does (again_at z n) z.program (act (plain.text j x.bytes)) g s w)
      (list_at z n (lowered (act (plain.text j x.bytes)) (inside_at z.inside around) p) t w)
  text-done =
      text-then p (λ v. Falls g) []
      (λ o a. sim-here (S p) (Falls g) s w (list_at z n [] t w) (c.Falls t) refl (record { after = t; is = refl; related = h }))
      (λ a. sim-here (S p) (Falls g) (behind a) w (list_at z n [] t w) (c.Falls t) refl (record { after = t; is = refl; related = here-new a }))
      (object_of_text s.frame.function j s) this-text

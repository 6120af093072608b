-- A function with a hand of its own: what its body makes, and what can be named behind it (8.3).
use Rattle.std.proofs.Common.{◌≡◌, inl, inr, ℕ, zero, suc, ◌+◌, ◌<◌, ◌≤◌, Bool, true, false, not, ◌||◌, if◌then◌else◌, List, [], ◌∷◌, ◌++◌, length, drop, map, bytes_eq, Option, Some, None, slice_get, get_or, refl, sym, ap, subst, ◌∙◌, true≢false, arith, length-append}
use Rattle.std.specs.List.{list_any, list_all}
use Rattle.std.proofs.lemmas.List.{length-map}
use Rattle.std.proofs.lemmas.Option.{slice_get_within, slice_get-get_or}
use Rattle.std.proofs.Math.Seq.{drop-append_seam}
use Rattle.cf_types.specs.declared.ty.Ty.{Ty}
use Rattle.cf_types.specs.declared.ty.Ty.TheVariants as ty
use Rattle.cf_types.proofs.Places.{get-last, get-snoc, get-left}
use Rattle.cf_lookup.specs.Scope.{OpenScopes}
use Rattle.cf_core.specs.declared.node.Core.{Core as Node}
use Rattle.cf_core.specs.declared.unit.CoreFn.{CoreFn}
use Rattle.cf_core.specs.declared.unit.CoreStatic.{CoreStatic}
use Rattle.cf_core.specs.Numbers.{has_type}
use Rattle.cf_core.specs.Types.{SourceType}
use Rattle.cf_core.specs.Valid.{Body, fits, is_complete}
use Rattle.cf_core_typed.proofs.Same.{and-both}
use Rattle.cf_elab.specs.Answer.{Answer, Made, Refused, Passed, Elab, onward}
use Rattle.cf_elab.specs.Arguments.{fun_at, result_of}
use Rattle.cf_elab.specs.Access.{outside}
use Rattle.cf_elab.specs.Definition as row
use Rattle.cf_elab.specs.Definition.{body_hand, own_types, core_function}
use Rattle.cf_elab.specs.Env.{Env, Hand, Name, Home, local_home, static_home, BodyKind, plain_body, main_body, Entity, Object, object, functions, alias, class_name, enum_name, enumerator, FunctionEntry}
use Rattle.cf_elab.specs.Members.{class_of_body}
use Rattle.cf_elab.specs.Names.{without_last, is_main}
use Rattle.cf_elab.specs.Objects.{is_static_home}
use Rattle.cf_elab.specs.Shape.{Parameter}
use Rattle.cf_elab.specs.Statement.{Made as MadeOf, is_main_body}
use Rattle.cf_elab_valid.specs.Answers.{Good, Fine}
use Rattle.cf_elab_valid.specs.Scene.{Scene, IsScene, tree, core, OwnerThere, Within, Steps, Inside, IsOpen, IsNumberedIn, HomeFits, EntityFits, TypeFits, EntryFits, PartInside, StaticFits, FunctionFits, in_frame, Classless, Holds}
use Rattle.cf_elab_valid.specs.Statements.{Inner, AreStatements}
use Rattle.cf_elab_valid.proofs.Calls.{fun-is, entry_result}
use Rattle.cf_elab_valid.proofs.Options.{some_is}
use Rattle.cf_elab_valid.proofs.Scopes.{empty-numbered, left-numbered, left-scopes, within-another}
use Rattle.cf_elab_valid.proofs.Shapes.{ParametersThere}
use Rattle.cf_elab_valid.proofs.Values.{has_type-is}
use Rattle.cf_elab_valid.proofs.Ways.{begins-get, begins-last, begins-same, begins-through, same-hand, within-before, When}
use Rattle.cf_elab_valid_objects.specs.Declared.{AreComplete}
use Rattle.cf_elab_valid_files.proofs.SwitchesLaws.Scoped.{entered, left}
use Rattle.cf_elab_valid_files.proofs.StaticsLaws.Names.{Any}
use Rattle.cf_elab_valid_files.specs.Bodies.Laws.{IsEnd}
use Rattle.cf_elab_valid_files.specs.Functions.Laws.{IsFileEnd}
use Rattle.cf_elab_valid_files.proofs.FunctionsLaws.Bodies.{BodyFits, body-fine}
use Rattle.cf_elab_valid_files.proofs.FunctionsLaws.Ends.{nowhere, nowhere-end, never-within, has-complete, same-name, any-at, get-behind}
use Rattle.cf_elab_valid_files.proofs.FunctionsLaws.Parameters.{AreHomes}

-- ---- where types and enumerations are the same

part-same : (a b : Env) (v : Ty) → b.types ≡ a.types → b.classes ≡ a.classes → PartInside a v → PartInside b v
part-same a b (ty.Fun f) p q k = subst (λ t. f < length t.funs) (sym p) k
part-same a b (ty.Enum n) p q k = subst (λ t. n < length t.enums) (sym q) k
part-same a b ty.Void p q k = tt
part-same a b (ty.Int n) p q k = tt
part-same a b (ty.Class n) p q k = tt
part-same a b (ty.Ptr n) p q k = tt
part-same a b (ty.Ref n) p q k = tt
part-same a b (ty.Array n m) p q k = tt
part-same a b (ty.MemData n m) p q k = tt
part-same a b (ty.MemFun n m) p q k = tt
part-same a b (ty.Const n) p q k = tt

named-same : (a b : Env) (x : Entity) → b.types ≡ a.types → b.classes ≡ a.classes → TypeFits a x → TypeFits b x
named-same a b (alias t) p q k = subst (λ u. t < length u.types) (sym p) k
named-same a b (enum_name n) p q k = subst (λ u. n < length u.enums) (sym q) k
named-same a b (object x) p q k = tt
named-same a b (functions fs) p q k = tt
named-same a b (class_name n) p q k = tt
named-same a b (enumerator t z) p q k = tt

entry-same : (s z : Scene) (a b : Env) (f : FunctionEntry) → b.types ≡ a.types → EntryFits s a f → EntryFits z b f
entry-same s z a b f p k = record { fun = k.fun; here = subst (λ u. slice_get u.types f.type ≡ Some (ty.Fun k.fun)) (sym p) k.here }

-- ---- a frame of its own

-- the scene with another frame and another result
abbrev pub framed : Scene → List ℕ → ℕ → Scene
framed s locals result = record s { locals = locals; result = result }

not-static : (h : Home) → not (is_static_home h) ≡ false → is_static_home h ≡ true
not-static (static_home name) k = refl
not-static (local_home i) k = absurd (true≢false k)

module _ (s : Scene) (none : s.locals ≡ []) (L : List ℕ) (r : ℕ) where
  home-static : (t : ℕ) (h : Home) → HomeFits s t h → is_static_home h ≡ true
  home-static t (static_home name) k = refl
  home-static t (local_home i) k = absurd (nothing-there (subst (λ l. slice_get l i ≡ Some t) none k))
    where
      nothing-there : slice_get [] i ≡ Some t → ⊥
      nothing-there q = absurd cc

  -- outside of functions nothing is in a frame
  no-frame : (e : Env) (x : Entity) → EntityFits s e x → in_frame x ≡ false
  no-frame e (object x) f = ap not (home-static x.type x.home f.1)
  no-frame e (functions fs) f = refl
  no-frame e (alias t) f = refl
  no-frame e (class_name n) f = refl
  no-frame e (enum_name n) f = refl
  no-frame e (enumerator t z) f = refl

  static-home : (z : Scene) (t : ℕ) (h : Home) → is_static_home h ≡ true → HomeFits z t h
  static-home z t (static_home name) k = tt
  static-home z t (local_home i) k = absurd (true≢false (sym k))

  entity-into : (a b : Env) (x : Entity) → b.types ≡ a.types → b.classes ≡ a.classes → EntityFits s a x → EntityFits (framed s L r) b x
  entity-into a b (object x) p q f = (subst (λ u. x.type < length u.types) (sym p) f.0, static-home (framed s L r) x.type x.home (home-static x.type x.home f.1), f.2, f.3)
  entity-into a b (functions fs) p q f = tt
  entity-into a b (alias t) p q f = subst (λ u. t < length u.types) (sym p) f
  entity-into a b (class_name n) p q f = f
  entity-into a b (enum_name n) p q f = subst (λ u. n < length u.enums) (sym q) f
  entity-into a b (enumerator t z) p q f = (subst (λ u. t < length u.types) (sym p) f.0, f.1)

  entity-out : (a b : Env) (x : Entity) → b.types ≡ a.types → b.classes ≡ a.classes → in_frame x ≡ false → EntityFits (framed s L r) a x → EntityFits s b x
  entity-out a b (object x) p q k f = (subst (λ u. x.type < length u.types) (sym p) f.0, static-home s x.type x.home (not-static x.home k), f.2, f.3)
  entity-out a b (functions fs) p q k f = tt
  entity-out a b (alias t) p q k f = subst (λ u. t < length u.types) (sym p) f
  entity-out a b (class_name n) p q k f = f
  entity-out a b (enum_name n) p q k f = subst (λ u. n < length u.enums) (sym q) f
  entity-out a b (enumerator t z) p q k f = (subst (λ u. t < length u.types) (sym p) f.0, f.1)

  static-into : (x : CoreStatic) → StaticFits s x → StaticFits (framed s L r) x
  static-into x k = record { type = k.type; numbers = k.numbers; start = k.start; owner = owner-into x.owner k.owner }
    where
      owner-into : (o : Option Name) → OwnerThere s o → OwnerThere (framed s L r) o
      owner-into None q = tt
      owner-into (Some name) q = q

  static-out : (x : CoreStatic) → StaticFits (framed s L r) x → StaticFits s x
  static-out x k = record { type = k.type; numbers = k.numbers; start = k.start; owner = owner-out x.owner k.owner }
    where
      owner-out : (o : Option Name) → OwnerThere (framed s L r) o → OwnerThere s o
      owner-out None q = tt
      owner-out (Some name) q = q

  function-into : (f : CoreFn) → FunctionFits s f → FunctionFits (framed s L r) f
  function-into f k = record { plain = k.plain; result = k.result; params = k.params; locals = k.locals; numbers = k.numbers; body = k.body }

  function-out : (f : CoreFn) → FunctionFits (framed s L r) f → FunctionFits s f
  function-out f k = record { plain = k.plain; result = k.result; params = k.params; locals = k.locals; numbers = k.numbers; body = k.body }

-- ---- a definition

module _ (s : Scene) (end : IsFileEnd s) (e : Env) (f : FunctionEntry) (at : ℕ) (ss : List (Elab MadeOf)) (ps : List Parameter) (statements : (z : Scene) → IsEnd z → (n : ℕ) (m : Bool) → AreStatements z n m ss) (some : zero < length e.types.types) (c : Classless e) (h : When s e (Holds s e)) (k : ℕ) (there : slice_get e.entries k ≡ Some f) (inside : When s e (ParametersThere ps e)) where
  abbrev result : ℕ
  result = result_of (fun_at e.types f.type)

  abbrev own : Hand
  own = body_hand f.link (if is_main f.link then main_body else plain_body) (outside f.name f.type) result ps

  abbrev handed : Env
  handed = record e { hand = own }

  abbrev start : Env
  start = entered handed

  abbrev run : Elab Node
  run g = onward (row.declare_parameters 0 ps g) (λ _. row.body_of at ss)

  abbrev n : ℕ
  n = length ps

  abbrev m : Bool
  m = is_main f.link

  main-told : is_main_body own.kind ≡ true → m ≡ true
  main-told = by (is_main f.link)
    where
      by : (b : Bool) → is_main_body (if b then main_body else plain_body) ≡ true → b ≡ true
      by true q = refl
      by false q = absurd (true≢false (sym q))

  kind-told : class_of_body own.kind ≡ None
  kind-told = by (is_main f.link)
    where
      by : (b : Bool) → class_of_body (if b then main_body else plain_body) ≡ None
      by true = refl
      by false = refl

  start-classless : Classless start
  start-classless = record { none = c.none; none_open = c.none_open; no_body = kind-told; no_type = c.no_type; no_name = c.no_name; no_defaults = c.no_defaults }

  types-length : length ps ≤ length (own_types ps)
  types-length = let same = length-map ps (λ (p : Parameter). p.type) in omega (arith, same)

  -- in each scene where the function is one of the file
  in-scene : (z : Scene) → IsEnd z → OwnerThere z (Some f.link) → When z start (Inside start result) → When z start (Holds z start) → When z start (ParametersThere ps start) → When z start (AreHomes z 0 ps)
      → Fine z (λ x g. BodyFits z n m false false x) start (run start)
  in-scene z whole owner there held params homes =
      body-fine z whole n m at ss (statements z whole n m) ps start refl refl homes
      (record { main = main-told; there = there; behind = types-length; deep = within-another e.scopes.outer e.scopes.inner; owner = owner }) start-classless held params

  -- ---- behind the body

  module _ (x : Node) (g : Env) (in-any : (z : Scene) → IsEnd z → OwnerThere z (Some f.link) → When z start (Inside start result) → When z start (Holds z start) → When z start (ParametersThere ps start) → When z start (AreHomes z 0 ps)
      → Good z (λ y b. BodyFits z n m false false y) start x g) where
    abbrev L : List ℕ
    L = g.hand.locals

    abbrev fn : CoreFn
    fn = core_function f result ps (x, drop (length ps) L)

    abbrev final : Env
    final = record (left g) { hand = e.hand; functions = g.functions ++ fn ∷ [] }

    -- in an end that is never reached, for what does not depend on it
    abbrev ended : Scene
    ended = nowhere (fn ∷ []) result

    first : Good ended (λ y b. BodyFits ended n m false false y) start x g
    first = in-any ended (nowhere-end (fn ∷ []) result) (any-at (λ (y : CoreFn). bytes_eq y.name f.link) (fn ∷ []) 0 fn refl (same-name f.link))
        (λ w. absurd (never-within start (fn ∷ []) result some w)) (λ w. absurd (never-within start (fn ∷ []) result some w)) (λ w. absurd (never-within start (fn ∷ []) result some w)) (λ w. absurd (never-within start (fn ∷ []) result some w))

    abbrev before : OpenScopes
    before = record { outer = e.scopes.outer; inner = e.scopes.inner }

    back : without_last g.scopes.outer ≡ before
    back = ap without_last first.steps.outer ∙ left-scopes e.scopes.outer e.scopes.inner

    final-steps : Steps e final
    final-steps = record {
      types = first.steps.types;
      funs = first.steps.funs;
      enums = first.steps.enums;
      locals = begins-same e.hand.locals;
      statics = first.steps.statics;
      functions = begins-through e.functions g.functions (g.functions ++ fn ∷ []) first.steps.functions (begins-last g.functions fn);
      homes = first.steps.homes;
      hand = same-hand e.hand;
      outer = ap (λ (o : OpenScopes). o.outer) back;
    }

    final-classless : Classless final
    final-classless = record { none = first.classless.none; none_open = first.classless.none_open; no_body = c.no_body; no_type = first.classless.no_type; no_name = first.classless.no_name; no_defaults = first.classless.no_defaults }

    -- ---- at the end of the file

    module _ (w : Within final s) where
      early : Within e s
      early = within-before e final s final-steps w

      held : Holds s e
      held = h early

      abbrev z : Scene
      z = framed s L result

      -- the frame
      split : L ≡ own_types ps ++ first.steps.locals.more
      split = first.steps.locals.all

      rest : drop (length ps) L ≡ first.steps.locals.more
      rest = ap (drop (length ps)) split ∙ ap (λ q. drop q (own_types ps ++ first.steps.locals.more)) (sym (length-map ps (λ (p : Parameter). p.type))) ∙ drop-append_seam (own_types ps) first.steps.locals.more

      whole-frame : own_types ps ++ drop (length ps) L ≡ L
      whole-frame = ap (λ l. own_types ps ++ l) rest ∙ sym split

      fn-there : slice_get s.functions (length g.functions) ≡ Some fn
      fn-there = begins-get (g.functions ++ fn ∷ []) s.functions (length g.functions) fn w.functions (get-last g.functions fn)

      frame : AreComplete z
      frame i t there = end.frames (length g.functions) fn fn-there i t (ap (λ l. slice_get l i) whole-frame ∙ there)

      z-end : IsEnd z
      z-end = record { scene = record { table = end.scene.table; no_class = end.scene.no_class; none_to_reference = end.scene.none_to_reference; sizes = end.scene.sizes }; arrays = end.arrays; frame = frame }

      owner : OwnerThere z (Some f.link)
      owner = any-at (λ (y : CoreFn). bytes_eq y.name f.link) s.functions (length g.functions) fn fn-there (same-name f.link)

      result-there : Inside e result
      result-there =
          let entry = held.entries k f there in
          let is = fun-is s end.scene e early held f entry in
          subst (λ o. Inside e (result_of o)) (sym is) (entry_result s end.scene at f e (λ v. (h v).entries k f there) _ is early held)

      homes-from : (i : ℕ) (qs : List Parameter) → ((j t : ℕ) → slice_get (own_types qs) j ≡ Some t → slice_get z.locals (i + j) ≡ Some t) → AreHomes z i qs
      homes-from i [] at = tt
      homes-from i (q ∷ qs) at = (subst (λ j. slice_get z.locals j ≡ Some q.type) (plus-zero i) (at 0 q.type refl), homes-from (i + 1) qs (λ j t there. subst (λ b. slice_get z.locals b ≡ Some t) (plus-one i j) (at (suc j) t there)))
        where
          plus-zero : (a : ℕ) → a + 0 ≡ a
          plus-zero a = omega arith

          plus-one : (a b : ℕ) → a + suc b ≡ (a + 1) + b
          plus-one a b = omega arith

      homes : AreHomes z 0 ps
      homes = homes-from 0 ps (λ j t there. subst (λ i. slice_get L i ≡ Some t) (zero-plus j) (ap (λ l. slice_get l j) split ∙ get-left (own_types ps) first.steps.locals.more j t there))
        where
          zero-plus : (a : ℕ) → a ≡ 0 + a
          zero-plus a = omega arith

      start-holds : Holds z start
      start-holds = record {
        parts = λ t v q. part-same e start v refl refl (held.parts t v q);
        no_outer = held.no_outer;
        entities = λ i y o q. entity-into s end.outside L result e start y refl refl (held.entities i y (empty-numbered i (e.scopes.outer ++ e.scopes.inner ∷ []) o) q);
        named_types = λ i y q. named-same e start y refl refl (held.named_types i y q);
        entries = λ i y q. entry-same s z e start y refl (held.entries i y q);
        open_there = λ i o. held.open_there i (empty-numbered i (e.scopes.outer ++ e.scopes.inner ∷ []) o);
        outside = λ i y q home. entity-into s end.outside L result e start (object y) refl refl (held.outside i y q home);
        statics = λ i y q. static-into s end.outside L result y (held.statics i y q);
        functions = λ i y q. function-into s end.outside L result y (held.functions i y q);
        result = refl;
      }

      params-there : (qs : List Parameter) → ParametersThere qs e → ParametersThere qs start
      params-there [] p = tt
      params-there (q ∷ qs) p = (p.0, params-there qs p.1)

      made : Good z (λ y b. BodyFits z n m false false y) start x g
      made = in-any z z-end owner (λ v. result-there) (λ v. start-holds) (λ v. params-there ps (inside early)) (λ v. homes)

      there-end : Within g z
      there-end = record {
        types = w.types;
        funs = w.funs;
        enums = w.enums;
        locals = begins-same L;
        statics = w.statics;
        functions = begins-through g.functions (g.functions ++ fn ∷ []) s.functions (begins-last g.functions fn) w.functions;
      }

      behind : Holds z g
      behind = made.holds there-end

      body : BodyFits z n m false false x
      body = made.made there-end

      all-there : (l : List ℕ) → ((i t : ℕ) → slice_get l i ≡ Some t → is_complete [] (tree s t) ≡ true) → list_all (has_type s.tables) l ≡ true
      all-there [] q = refl
      all-there (t ∷ l) q = and-both (has_type s.tables t) (list_all (has_type s.tables) l) (has-complete s.tables t (q 0 t refl)) (all-there l (λ i u p. q (suc i) u p))

      params-complete : (i t : ℕ) → slice_get (own_types ps) i ≡ Some t → is_complete [] (tree s t) ≡ true
      params-complete i t p = frame i t (ap (λ l. slice_get l i) split ∙ get-left (own_types ps) first.steps.locals.more i t p)

      locals-complete : (i t : ℕ) → slice_get (drop (length ps) L) i ≡ Some t → is_complete [] (tree s t) ≡ true
      locals-complete i t p =
          end.frames (length g.functions) fn fn-there (length (own_types ps) + i) t (get-behind (own_types ps) (drop (length ps) L) i t p)

      function-fits : FunctionFits s fn
      function-fits = record {
        plain = refl;
        result = has_type-is s e result early result-there;
        params = all-there (own_types ps) params-complete;
        locals = all-there (drop (length ps) L) locals-complete;
        numbers = body.numbers;
        body = subst (λ l. fits (own_body (map (tree s) l)) false false (core s x) ≡ true) (sym whole-frame)
            (subst (λ q. fits (record (own_body (map (tree s) L)) { parameters = q }) false false (core s x) ≡ true) (sym (length-map ps (λ (p : Parameter). p.type))) body.fine);
      }
        where
          own_body : List SourceType → Body
          own_body locals = record { scope = record { classes = []; statics = s.statics; locals = locals; this = None }; parameters = length (own_types ps); result = tree s result; is_main = m }

      -- ---- what can be named

      opened : (i : ℕ) → IsOpen i final.scopes → IsOpen i e.scopes
      opened i o = subst (IsOpen i) back o

      stays : (i : ℕ) (y : Entity) → IsOpen i e.scopes → slice_get g.entities i ≡ Some y → in_frame y ≡ false
      stays i y o q =
          let old = get_or e.entities i (alias 0) in
          let old-at = slice_get-get_or e.entities i (alias 0) (held.open_there i o) in
          let later = first.steps.homes i old old-at in
          ap in_frame (some_is y later.entity (sym q ∙ later.here)) ∙ later.home ∙ no-frame s end.outside L result e old (held.entities i old o old-at)

      still-open : (i : ℕ) → IsOpen i e.scopes → IsOpen i g.scopes
      still-open i o = left-numbered i g.scopes.outer (g.scopes.inner ∷ []) (subst (IsNumberedIn i) (sym first.steps.outer) o)

      final-holds : Holds s final
      final-holds = record {
        parts = λ t v q. part-same g final v refl refl (behind.parts t v q);
        no_outer = behind.no_outer;
        entities = λ i y o q. entity-out s end.outside L result g final y refl refl (stays i y (opened i o) q) (behind.entities i y (still-open i (opened i o)) q);
        named_types = λ i y q. named-same g final y refl refl (behind.named_types i y q);
        entries = λ i y q. entry-same z s g final y refl (behind.entries i y q);
        open_there = λ i o. let old-at = slice_get-get_or e.entities i (alias 0) (held.open_there i (opened i o)) in let later = first.steps.homes i (get_or e.entities i (alias 0)) old-at in slice_get_within g.entities i later.entity later.here;
        outside = λ i y q home. entity-out s end.outside L result g final (object y) refl refl (ap not home) (behind.outside i y q home);
        statics = λ i y q. static-out s end.outside L result y (behind.statics i y q);
        functions = λ i y q. elim (get-snoc g.functions fn i y q) [ inl a ↦ function-out s end.outside L result y (behind.functions i y a) | inr b ↦ subst (FunctionFits s) b.1 function-fits ];
        result = held.result;
      }

    defined-good : Good s (Any {A = Unit {0}}) e (tt {0}) final
    defined-good = record { steps = final-steps; classless = final-classless; holds = final-holds; made = λ w. tt }

  pub defined-fine : Fine s Any e (row.define_function ps (row.body_of at ss) (Some f) e)
  defined-fine = by (run start) in-scene
    where
      Scened : Answer Node → Type 0
      Scened r =
          (z : Scene) → IsEnd z → OwnerThere z (Some f.link) → When z start (Inside start result) → When z start (Holds z start) → When z start (ParametersThere ps start) → When z start (AreHomes z 0 ps)
          → Fine z (λ x g. BodyFits z n m false false x) start r

      by : (r : Answer Node) → Scened r → Fine s Any e (onward (onward (onward r (λ x g. Made x (left g))) (λ x g. Made (x, drop (length ps) g.hand.locals) (record g { hand = e.hand })))
          (λ y g. Made (tt {0}) (record g { functions = g.functions ++ core_function f result ps y ∷ [] })))
      by (Made x g) q = defined-good x g q
      by (Refused rule place) q = tt
      by (Passed bound most) q = tt

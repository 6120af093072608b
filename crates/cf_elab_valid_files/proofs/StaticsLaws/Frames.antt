-- Static objects of functions (6.7).
use Rattle.std.proofs.Common.{◌≡◌, ℕ, ◌+◌, Bool, true, false, not, ◌&&◌, ◌||◌, is_some, if◌then◌else◌, nat_le, length, [], ◌∷◌, ◌++◌, List, Option, Some, None, slice_get, refl, sym, ap, subst, ◌∙◌, true≢false}
use Rattle.std.specs.Option.{option_map_or}
use Rattle.cf_base.specs.declared.limit.Bound.TheVariants as bound_of
use Rattle.cf_types.proofs.Places.{get-last}
use Rattle.cf_classes.specs.OwnedName.{local_static_name}
use Rattle.cf_core.specs.Core.{Core, Static, once}
use Rattle.cf_core.specs.declared.node.Core.{Core as Node}
use Rattle.cf_core.specs.declared.node.Core.TheFolds.{fold-roll-Core}
use Rattle.cf_core.specs.declared.node.Core.TheOpen.{Core-F}
use Rattle.cf_core.specs.declared.node.Core.TheVariants as node
use Rattle.cf_core.specs.declared.node.Core.TheVariants.{rolls-Once}
use Rattle.cf_core.specs.declared.unit.CoreStatic.{CoreStatic}
use Rattle.cf_core.specs.FromClasses.{signature_of}
use Rattle.cf_core.specs.Joined.{is_nothing}
use Rattle.cf_core.specs.Numbers.{are_known, known_step, known_part}
use Rattle.cf_core.specs.Typed.{typing}
use Rattle.cf_core.specs.Types.{is_void}
use Rattle.cf_core.specs.Valid.{fits, constant_starts, initialises_local}
use Rattle.cf_core.specs.View.{Started as StartedCore, core_step, started_step}
use Rattle.cf_elab.specs.Answer.{Answer, Made, Refused, Passed, Elab, onward, need, gives}
use Rattle.cf_elab.specs.Complete.{within, most_name}
use Rattle.cf_elab.specs.Env.{Env, Hand, Name, Object, object, class_name, static_home}
use Rattle.cf_elab.specs.Initial.{Start, Keeper}
use Rattle.cf_elab.specs.Names.{declared_here, declare as declare_row}
use Rattle.cf_elab.specs.Objects as row
use Rattle.cf_elab.specs.Objects.{Written, Reached, written_place, block_object, static_keeper, static_of, start_or_none, started, define_static}
use Rattle.cf_elab_valid.specs.Answers.{Fine}
use Rattle.cf_elab_valid.specs.Scene.{Scene, IsScene, tree, core, typed, scope_of, file_scope, OwnerThere, StaticFits, Steps, Within, Inside, Classless, Holds}
use Rattle.cf_elab_valid.specs.Statements.{body_of}
use Rattle.cf_elab_valid.proofs.FitRows.{Still, needed, still-fine}
use Rattle.cf_elab_valid.proofs.Moved.{moved-holds, moved-classless}
use Rattle.cf_elab_valid.proofs.Nodes.{core-Blank, known-Blank}
use Rattle.cf_elab_valid.proofs.Options.{some_is}
use Rattle.cf_elab_valid.proofs.Values.{has_type-is}
use Rattle.cf_elab_valid.proofs.Ways.{begins-same, homes-same, fine-before, inside-later, onward-fine, steps-through, within-before, When}
use Rattle.cf_elab_valid_objects.specs.Declared.{ReachedFits, AllReached}
use Rattle.cf_elab_valid_objects.specs.Quiet.{LeavesNames, LeavesIn}
use Rattle.cf_elab_valid_objects.specs.Starts.{NoVoidElements, StartFits, MaybeFits}
use Rattle.cf_elab_valid_objects.proofs.Keepers.{defined, defined-steps, defined-fine, defined-there, static_keeper-is}
use Rattle.cf_elab_valid_objects.proofs.Naming.{found-last, named, named-steps, named-classless, named-holds}
use Rattle.cf_elab_valid_files.specs.Statics.Fixed.{IsApart, ApartIn, IsFixed, FixedIn, AreParts}
use Rattle.cf_elab_valid_files.specs.Statics.Linked.{StandsFor}
use Rattle.cf_elab_valid_files.proofs.StaticsLaws.Files.{static-leaves}
use Rattle.cf_elab_valid_files.proofs.StaticsLaws.Names.{object_is}
use Rattle.cf_elab_valid_files.proofs.StaticsLaws.Starting.{Known, started-fine, stands-left}

or_true : (b : Bool) → (b || true) ≡ true
or_true true = refl
or_true false = refl

-- where this is apart is known of what is made
apart-known : (s : Scene) (r : Answer Start) → ApartIn s r → Known s (IsApart s) r
apart-known s (Made x f) k = k
apart-known s (Refused rule at) k = tt
apart-known s (Passed bound most) k = tt

-- of what is made and what is behind it this is known
abbrev SaysIn : {A : Type 0} → (A → Env → Type 0) → Answer A → Type 0
SaysIn K (Made a f) = K a f
SaysIn K (Refused rule at) = Unit {0}
SaysIn K (Passed bound most) = Unit {0}

-- behind parts that leave the names, and of which this is known
parts-fine : {A B : Type 0} (s : Scene) (P : A → Env → Type 0) (K : A → Env → Type 0) (Q : B → Env → Type 0) (e : Env) (r : Answer A) (go : A → Env → Answer B) → Fine s P e r → LeavesIn e r → SaysIn K r
    → ((a : A) (f : Env) → K a f → LeavesNames e f → Steps e f → Classless f → When s f (Holds s f) → When s f (P a f) → Fine s Q f (go a f)) → Fine s Q e (onward r go)
parts-fine s P K Q e (Made a f) go k l said next = fine-before s Q e f (go a f) k.steps (next a f said l k.steps k.classless k.holds k.made)
parts-fine s P K Q e (Refused rule at) go k l said next = tt
parts-fine s P K Q e (Passed bound most) go k l said next = tt

fixed-said : (s : Scene) (r : Answer (Option Written)) → FixedIn s r → SaysIn (λ w f. Within f s → IsFixed s w) r
fixed-said s (Made w f) k = k
fixed-said s (Refused rule at) k = tt
fixed-said s (Passed bound most) k = tt

module _ (s : Scene) where
  core-Once : (at : ℕ) (n : Name) (e : Node) → core s (node.Once at n e) ≡ once n (core s e)
  core-Once at n e = ap (core s) (sym (rolls-Once at n e)) ∙ fold-roll-Core Core StartedCore (core_step s.tables (signature_of s.tables)) (started_step s.tables (signature_of s.tables)) (Core-F.Once at n e)

  known-Once : (at : ℕ) (n : Name) (e : Node) → are_known s.tables (node.Once at n e) ≡ are_known s.tables e
  known-Once at n e = ap (are_known s.tables) (sym (rolls-Once at n e)) ∙ fold-roll-Core Bool Bool (known_step s.tables) (known_part s.tables) (Core-F.Once at n e)

module _ (s : Scene) (scene : IsScene s) (arrays : NoVoidElements s.tables) (n : ℕ) (m : Bool) (at : ℕ) (name : Name) (t : ℕ) (link owner : Name) where
  abbrev keeper : ℕ → Elab Keeper
  keeper = static_keeper link (Some owner) at

  abbrev x : Object
  x = block_object t (static_home link) at

  abbrev Result : List Reached → Env → Type 0
  Result rs f = AllReached s n m rs

  -- ---- the static object that is made at last

  abbrev made : Start → CoreStatic
  made st = static_of link t (if st.is_constant then st.node else node.Blank at) (Some owner) st.is_constant true

  made-fits : (st : Start) (f : Env) → OwnerThere s (Some owner) → Within f s → Inside f t → StartFits s (tree s t) st → IsApart s st → StaticFits s (made st)
  made-fits st f own w i k apart = by st.is_constant refl
    where
      by : (b : Bool) → st.is_constant ≡ b → StaticFits s (static_of link t (if b then st.node else node.Blank at) (Some owner) st.is_constant true)
      by true is = record {
        type = has_type-is s f t w i;
        numbers = k.numbers;
        start = ap (λ b. is_nothing (core s st.node) || b) (apart.apart is (tree s t) k.starts) ∙ or_true (is_nothing (core s st.node));
        owner = own;
      }
      by false is = record {
        type = has_type-is s f t w i;
        numbers = known-Blank s.tables at;
        start = ap (λ c. is_nothing c || (typing (file_scope s) c).start (tree s t)) (core-Blank s.tables (signature_of s.tables) at);
        owner = own;
      }

  -- ---- the statement that reaches it

  reached-fits : (st : Start) (f : Env) → Within (defined s scene (made st) f) s → StartFits s (tree s t) st → AllReached s n m (row.reached at link st)
  reached-fits st f w k = by st.is_constant
    where
      by : (b : Bool) → AllReached s n m (if b then [] else record { node = node.Once at link st.node; initialises = false } ∷ [])
      by true = tt
      by false = (
        record {
          numbers = known-Once s at link st.node ∙ k.numbers;
          fine = λ b c. ap (fits (body_of s n m) b c) (core-Once s at link st.node)
              ∙ ap (λ o. constant_starts o (typed s st.node)) (defined-there s scene (made st) f w) ∙ k.starts;
          reached = λ r. absurd (true≢false (sym r ∙ ap initialises_local (core-Once s at link st.node)));
        },
        tt,
      )

  module _ (parts : Elab (Option Written)) (e : Env) (given : AreParts s e parts) (own : OwnerThere s (Some owner)) (c : Classless e) (h : When s e (Holds s e)) (i : When s e (Inside e t)) (v : When s e (is_void (tree s t) ≡ false)) where
    abbrev counting : Hand
    counting = record e.hand { statics = e.hand.statics + 1 }

    abbrev begun : Env
    begun = record e { hand = counting }

    begun-steps : Steps e begun
    begun-steps = record {
      types = begins-same e.types.types;
      funs = begins-same e.types.funs;
      enums = begins-same e.classes.enums;
      locals = begins-same e.hand.locals;
      statics = begins-same e.statics;
      functions = begins-same e.functions;
      homes = homes-same e.entities;
      hand = record { link = refl; kind = refl; result = refl; breaks = refl; continues = refl };
      outer = refl;
    }

    abbrev told : Env
    told = named name (object x) begun

    steps : Steps e told
    steps = steps-through e begun told begun-steps (named-steps name (object x) begun)

    no_class : (k : ℕ) → object x ≡ class_name k → ⊥
    no_class k is = absurd cc

    classless : Classless told
    classless = named-classless name (object x) begun no_class (moved-classless s counting e.scopes e refl c)

    holds : When s told (Holds s told)
    holds w = let early = within-before e told s steps w in named-holds s name (object x) begun (i early, tt, v early, tt) tt (moved-holds s counting e.scopes e refl (λ j q. q) (h early))

    stands : is_some (declared_here begun name) ≡ false → StandsFor name t told
    stands fresh j y found there =
        let is : length e.entities ≡ j = some_is (length e.entities) j (sym (found-last name (length e.entities) e.scopes.inner fresh) ∙ found) in
        let same : x ≡ y = object_is x y (some_is (object x) (object y) (sym (get-last e.entities (object x)) ∙ ap (λ k. slice_get (e.entities ++ object x ∷ []) k) is ∙ there)) in
        ap (λ (o : Object). o.type) (sym same)

    -- ---- behind the parts

    abbrev ending : Option Written → Start → Elab (List Reached)
    ending w st f =
        onward (row.need_constant at w st f) (λ _ g. onward (within (nat_le (length link) most_name) bound_of.Names most_name g) (λ _ q. Made (row.reached at link st) (defined s scene (made st) q)))

    short-still : (b : Bool) (f : Env) → Still f (within b bound_of.Names most_name f)
    short-still true f = refl
    short-still false f = tt

    ended-fine : (w : Option Written) (st : Start) (f : Env) → Steps e f → Classless f → When s f (Holds s f) → When s f (StartFits s (tree s t) st × IsApart s st) → Fine s Result f (ending w st f)
    ended-fine w st f g c1 h1 k =
        still-fine s Result f (row.need_constant at w st f) _ (needed f (f.extent.computed || st.is_constant) 48 (option_map_or written_place w at))
        (still-fine s Result f (within (nat_le (length link) most_name) bound_of.Names most_name f) (λ q. Made (row.reached at link st) (defined s scene (made st) q)) (short-still (nat_le (length link) most_name) f)
        (defined-fine s scene Result (row.reached at link st) (made st) f c1 h1
        (λ w. let early = within-before f (defined s scene (made st) f) s (defined-steps s scene (made st) f) w in
        made-fits st f own early (inside-later e f t g (i (within-before e f s g early))) (k early).0 (k early).1)
        (λ w. reached-fits st f w (k (within-before f (defined s scene (made st) f) s (defined-steps s scene (made st) f) w)).0)))

    body-fine : is_some (declared_here begun name) ≡ false → Fine s Result told (onward (parts told) (λ w f. onward (started keeper name at t w f) (ending w)))
    body-fine fresh =
        parts-fine s (λ w f. MaybeFits s f w) (λ w f. Within f s → IsFixed s w) Result told (parts told) (λ w f. onward (started keeper name at t w f) (ending w))
        (given.initial.fine told steps classless holds) (given.initial.leaves told steps classless) (fixed-said s (parts told) (given.fixed told steps classless holds))
        (λ w f fixed l g c1 h1 fw. let step = steps-through e told f steps g in
        onward-fine s (λ st q. StartFits s (tree s t) st × IsApart s st) Result f (started keeper name at t w f) (ending w)
        (started-fine s scene arrays keeper (static_keeper-is s scene link (Some owner) at own) (static-leaves link (Some owner) at) name at t (IsApart s) w f
        (λ q. apart-known s (start_or_none keeper at t w f) ((fixed q).starts f c1 h1 fw link owner own at at t
        (λ q. inside-later e f t step (i (within-before e f s step q))) (λ q. v (within-before e f s step q)))) c1 h1 fw
        (λ q. inside-later e f t step (i (within-before e f s step q))) (λ q. v (within-before e f s step q)) (λ q. stands-left name t told f l (stands fresh)))
        (λ st k g2 c2 h2 p. ended-fine w st k (steps-through e f k step g2) c2 h2 p))

    pub frame-fine : Fine s Result e (row.define_static_local at name t parts link owner e)
    frame-fine = fresh (is_some (declared_here begun name)) refl
      where
        fresh : (b : Bool) → is_some (declared_here begun name) ≡ b
            → Fine s Result e (onward (onward (need (not b) 8 at begun) (λ _. declare_row name (object x))) (λ _ g. onward (parts g) (λ w q. onward (started keeper name at t w q) (ending w))))
        fresh true is = tt
        fresh false is = fine-before s Result e told (onward (parts told) (λ w q. onward (started keeper name at t w q) (ending w))) steps (body-fine is)

module _ (s : Scene) (scene : IsScene s) (arrays : NoVoidElements s.tables) where
  pub function-fine : (n : ℕ) (m : Bool) (at : ℕ) (name : Name) (t : ℕ) (parts : Elab (Option Written)) (e : Env) → AreParts s e parts → OwnerThere s (Some e.hand.link) → Classless e → When s e (Holds s e)
      → When s e (Inside e t) → When s e (is_void (tree s t) ≡ false) → Fine s (λ rs f. AllReached s n m rs) e (row.define_in_function at name t parts e)
  function-fine n m at name t parts e given own c h i v = frame-fine s scene arrays n m at name t (local_static_name name e.hand.statics e.hand.link) e.hand.link parts e given own c h i v

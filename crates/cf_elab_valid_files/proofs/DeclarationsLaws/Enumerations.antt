-- Enumerations (7.2).
use Rattle.std.proofs.Common.{◌≡◌, inl, inr, ℕ, ◌<◌, Bool, true, false, not, ◌&&◌, ◌||◌, is_some, List, [], ◌∷◌, ◌++◌, length, map, ℤ, pos, Option, Some, None, slice_get, bytes_eq, if◌then◌else◌, refl, sym, ap, subst, ◌∙◌, arith, length-append}
use Rattle.std.specs.List.{list_any}
use Rattle.cf_base.specs.declared.kind.Kind.TheVariants as kind
use Rattle.cf_base.specs.Integers.{fits}
use Rattle.cf_types.specs.declared.ty.Ty.{Ty}
use Rattle.cf_types.specs.declared.ty.Ty.TheVariants as ty
use Rattle.cf_types.proofs.Places.{get-snoc}
use Rattle.cf_classes.specs.declared.class.What.TheVariants as what
use Rattle.cf_classes.specs.declared.label.Label.{Label}
use Rattle.cf_classes.specs.LinkName.{scope_code, enum_names}
use Rattle.cf_core.specs.Types.{enumeration}
use Rattle.cf_core.specs.Typing.{holds_number}
use Rattle.cf_elab.specs.Answer.{Answer, Made, Refused, Passed, Elab, onward, need, gives, maybe}
use Rattle.cf_elab.specs.ClassScope.{in_class, open_class, has_name, add_plain, declare_enum, declare_enumerator}
use Rattle.cf_elab.specs.Enumeration as row
use Rattle.cf_elab.specs.Enumeration.{Item, Counted, number_of, one_more, number_or_zero, int_or_zero, label_name, own_names, needs_new}
use Rattle.cf_elab.specs.Env.{Env, Name, Entity, object, class_name, enum_name, enumerator}
use Rattle.cf_elab.specs.Made.{intern}
use Rattle.cf_elab.specs.Names.{declare, scoped, is_file_scope}
use Rattle.cf_elab.specs.Operand.{Value, Part, evaluated}
use Rattle.cf_elab_valid.specs.Answers.{Fine, IsPart}
use Rattle.cf_elab_valid.specs.Scene.{Scene, IsScene, tree, Steps, Within, Inside, Classless, Holds}
use Rattle.cf_elab_valid.proofs.Arithmetic.{IsOperand}
use Rattle.cf_elab_valid.proofs.FitRows.{Still, needed, still-fine, still-onward}
use Rattle.cf_elab_valid.proofs.Making.{IsType, intern-fine}
use Rattle.cf_elab_valid.proofs.Named.{IsThere}
use Rattle.cf_elab_valid.proofs.Parts.{evaluated-fine}
use Rattle.cf_elab_valid.proofs.Trees.{tree-at}
use Rattle.cf_elab_valid.proofs.Ways.{begins-get, begins-same, begins-last, homes-same, same-hand, entity-later, named-later, entry-later, fine-as, made-fine, onward-fine, steps-through, within-before, When}
use Rattle.cf_elab_valid_files.proofs.SwitchesLaws.Scoped.{entered, entered-classless, entered-holds, scoped-fine}
use Rattle.cf_elab_valid_objects.proofs.Growing.{part-later}
use Rattle.cf_elab_valid_objects.proofs.Naming.{named}
use Rattle.cf_elab_valid_files.proofs.StaticsLaws.Names.{Any}
use Rattle.cf_elab_valid_files.specs.Declarations.Items.{AreItems}
use Rattle.cf_elab_valid_files.proofs.DeclarationsLaws.Entering.{in-no-class, no-open-class, type-later, named-fine, still-then}

-- ---- values that are in int

int-fits : (z : Option ℤ) → fits kind.Int (int_or_zero z) ≡ true
int-fits z = by (fits kind.Int (number_or_zero z)) refl
  where
    by : (b : Bool) → fits kind.Int (number_or_zero z) ≡ b → fits kind.Int (if b then number_or_zero z else pos 0) ≡ true
    by true is = is
    by false is = refl

abbrev AllInts : List Counted → Type 0
AllInts [] = Unit {0}
AllInts (c ∷ cs) = (fits kind.Int (number_or_zero c.number) ≡ true) × AllInts cs

-- the environment stays, and all are
abbrev IntsIn : List Counted → Env → Answer (Unit {0}) → Type 0
IntsIn cs e (Made u f) = (f ≡ e) × AllInts cs
IntsIn cs e (Refused rule at) = Unit {0}
IntsIn cs e (Passed bound most) = Unit {0}

ints-told : (cs : List Counted) (e : Env) → IntsIn cs e (row.all_ints cs e)
ints-told [] e = (refl, tt)
ints-told (c ∷ cs) e = by (ints-told cs e) (fits kind.Int (number_or_zero c.number)) refl
  where
    rest : fits kind.Int (number_or_zero c.number) ≡ true → (r : Answer (Unit {0})) → IntsIn cs e r → IntsIn (c ∷ cs) e r
    rest is (Made u f) k = (k.0, (is, k.1))
    rest is (Refused rule at) k = tt
    rest is (Passed bound most) k = tt

    by : IntsIn cs e (row.all_ints cs e) → (b : Bool) → fits kind.Int (number_or_zero c.number) ≡ b → IntsIn (c ∷ cs) e (onward (need b 5 c.at e) (λ _. row.all_ints cs))
    by k false is = tt
    by k true is = rest is (row.all_ints cs e) k

module _ (s : Scene) where
  ints-fine : {B : Type 0} (Q : B → Env → Type 0) (cs : List Counted) (e : Env) (go : Env → Answer B) → (AllInts cs → Fine s Q e (go e)) → Fine s Q e (onward (row.all_ints cs e) (λ _. go))
  ints-fine {B} Q cs e go next = by (row.all_ints cs e) (ints-told cs e)
    where
      by : (r : Answer (Unit {0})) → IntsIn cs e r → Fine s Q e (onward r (λ _. go))
      by (Made u f) k = subst (λ x. Fine s Q e (go x)) (sym k.0) (next k.1)
      by (Refused rule at) k = tt
      by (Passed bound most) k = tt

-- ---- checks that leave the environment

new-still : (name : Name) (at : ℕ) (before : List Name) (e : Env) → Still e (needs_new name at before e)
new-still name at before e = needed e (not (has_name e name) && not (list_any (bytes_eq name) before)) 8 at

all-new-still : (before : List Name) (cs : List Counted) (e : Env) → Still e (row.all_new before cs e)
all-new-still before [] e = refl
all-new-still before (c ∷ cs) e = still-then e (needs_new c.name c.at before e) (row.all_new (c.name ∷ before) cs) (new-still c.name c.at before e) (all-new-still (c.name ∷ before) cs e)

all-constant-still : (cs : List Counted) (e : Env) → Still e (row.all_constant cs e)
all-constant-still [] e = refl
all-constant-still (c ∷ cs) e = still-then e (need (is_some c.number) 19 c.at e) (row.all_constant cs) (needed e (is_some c.number) 19 c.at) (all-constant-still cs e)

name-still : (name : Option (ℕ × Name)) (e : Env) → Still e (row.name_checked name e)
name-still None e = refl
name-still (Some n) e = new-still n.1 n.0 [] e

module _ (s : Scene) (scene : IsScene s) where
  -- ---- a new enumeration

  abbrev enlarged : Name → Env → Env
  enlarged name e = record e { classes = record e.classes { enums = e.classes.enums ++ record { name = name; outer = open_class e } ∷ [] } }

  enlarged-steps : (name : Name) (e : Env) → Steps e (enlarged name e)
  enlarged-steps name e = record {
    types = begins-same e.types.types;
    funs = begins-same e.types.funs;
    enums = begins-last e.classes.enums (record { name = name; outer = open_class e });
    locals = begins-same e.hand.locals;
    statics = begins-same e.statics;
    functions = begins-same e.functions;
    homes = homes-same e.entities;
    hand = same-hand e.hand;
    outer = refl;
  }

  enlarged-holds : (name : Name) (e : Env) → Classless e → Holds s e → Holds s (enlarged name e)
  enlarged-holds name e c h =
      let f = enlarged name e in
      let g = enlarged-steps name e in record {
        parts = λ t v at. part-later e f v g (h.parts t v at);
        no_outer = λ n l at. elim (get-snoc e.classes.enums (record { name = name; outer = open_class e }) n l at) [
          | inl a ↦ h.no_outer n l a
          | inr b ↦ subst (λ (x : Label). x.outer ≡ None) b.1 (no-open-class e c)
        ];
        entities = λ n x o at. entity-later s e f x g (h.entities n x o at);
        named_types = λ n x at. named-later e f x g (h.named_types n x at);
        entries = λ n x at. entry-later s e f x g (h.entries n x at);
        open_there = h.open_there;
        outside = λ n x at home. entity-later s e f (object x) g (h.outside n x at home);
        statics = h.statics;
        functions = h.functions;
        result = h.result;
      }

  enlarged-classless : (name : Name) (e : Env) → Classless e → Classless (enlarged name e)
  enlarged-classless name e c = record { none = c.none; none_open = c.none_open; no_body = c.no_body; no_type = c.no_type; no_name = c.no_name; no_defaults = c.no_defaults }

  abbrev IsEnum : ℕ → Env → Type 0
  IsEnum n f = n < length f.classes.enums

  new-fine : (name : Name) (e : Env) → Classless e → When s e (Holds s e) → Fine s IsEnum e (row.new_enum name e)
  new-fine name e c h = record {
    steps = enlarged-steps name e;
    classless = enlarged-classless name e c;
    holds = λ w. enlarged-holds name e c (h (within-before e (enlarged name e) s (enlarged-steps name e) w));
    made = λ w. omega (arith, length-append e.classes.enums (record { name = name; outer = open_class e } ∷ []));
  }

  -- ---- enumerators

  -- a number in int is one of the enumeration
  number-holds : (n t : ℕ) (z : ℤ) (e : Env) → Within e s → IsType (ty.Enum n) t e → fits kind.Int z ≡ true → holds_number z (tree s t) ≡ true
  number-holds n t z e w is f = ap (holds_number z) (tree-at s.tables scene.table t (ty.Enum n) (begins-get e.types.types s.tables.types.types t (ty.Enum n) w.types is.here)) ∙ f

  no_class : (t : ℕ) (z : Option ℤ) (k : ℕ) → enumerator t z ≡ class_name k → ⊥
  no_class t z k is = absurd cc

  enumerator-fine : {A : Type 0} (P : A → Env → Type 0) (a : A) (name : Name) (n t : ℕ) (z : Option ℤ) (e : Env) → fits kind.Int (number_or_zero z) ≡ true → Classless e → When s e (Holds s e) → When s e (IsType (ty.Enum n) t e)
      → When s e (P a (named name (enumerator t z) e)) → Fine s P e (Made a (named name (enumerator t z) e))
  enumerator-fine P a name n t z e f c h is p = named-fine s P a name (enumerator t z) e (no_class t z) c h (λ w. ((is w).inside, number-holds n t (number_or_zero z) e w (is w) f)) (λ w. tt) p

  -- what is within a scope that is entered is so without it
  outside : (e : Env) → Within (entered e) s → Within e s
  outside e w = record { types = w.types; funs = w.funs; enums = w.enums; locals = w.locals; statics = w.statics; functions = w.functions }

  type-inside : (u : Ty) (t : ℕ) (e : Env) → When s e (IsType u t e) → When s (entered e) (IsType u t (entered e))
  type-inside u t e is w = let k = is (outside e w) in record { inside = k.inside; here = k.here }

  counted-fine : (n t : ℕ) (next : Option ℤ) (xs : List Item) (e : Env) → AreItems s xs → Classless e → When s e (Holds s e) → When s e (IsType (ty.Enum n) t e) → Fine s Any e (row.counted t next xs e)
  counted-fine n t next [] e k c h is = made-fine s Any e [] c h (λ w. tt)
  counted-fine n t next (x ∷ xs) e k c h is =
      onward-fine s (Any {A = Option Value}) (Any {A = List Counted}) e (row.own_value t x e) _ (value-fine x.value k.0)
      (λ v e1 g1 c1 h1 any. onward-fine s (Any {A = Unit {0}}) (Any {A = List Counted}) e1 (declare x.name (enumerator t (Some (int_or_zero (number_of next v)))) e1) (λ _ f. onward (row.counted t (one_more (number_of next v)) xs f) (λ rest. gives (record { at = x.at; name = x.name; number = number_of next v } ∷ rest)))
      (enumerator-fine Any tt x.name n t (Some (int_or_zero (number_of next v))) e1 (int-fits (number_of next v)) c1 h1 (λ w. type-later (ty.Enum n) t e e1 g1 (is (within-before e e1 s g1 w))) (λ w. tt))
      (λ u e2 g2 c2 h2 any2. onward-fine s (Any {A = List Counted}) (Any {A = List Counted}) e2 (row.counted t (one_more (number_of next v)) xs e2) (λ rest. gives (record { at = x.at; name = x.name; number = number_of next v } ∷ rest))
      (counted-fine n t (one_more (number_of next v)) xs e2 k.1 c2 h2 (λ w. let g = steps-through e e1 e2 g1 g2 in type-later (ty.Enum n) t e e2 g (is (within-before e e2 s g w))))
      (λ cs e3 g3 c3 h3 any3. made-fine s (Any {A = List Counted}) e3 (record { at = x.at; name = x.name; number = number_of next v } ∷ cs) c3 h3 (λ w. tt))))
    where
      own : Part → Elab Value
      own p f = onward (declare x.name (enumerator t None) f) (λ _. evaluated p)

      own-fine : (p : Part) → IsPart s p → Fine s Any (entered e) (own p (entered e))
      own-fine p q =
          onward-fine s (Any {A = Unit {0}}) (Any {A = Value}) (entered e) (declare x.name (enumerator t None) (entered e)) (λ _. evaluated p)
          (enumerator-fine Any tt x.name n t None (entered e) refl (entered-classless s e c) (entered-holds s e h) (type-inside (ty.Enum n) t e is) (λ w. tt))
          (λ u e1 g1 c1 h1 any. fine-as s (IsOperand s) Any e1 (evaluated p e1) (λ y f r. tt) (evaluated-fine s scene p e1 q c1 h1))

      value-fine : (o : Option Part) → ((p : Part) → o ≡ Some p → IsPart s p) → Fine s Any e (maybe (λ (p : Part). scoped (own p)) o e)
      value-fine None q = made-fine s Any e None c h (λ w. tt)
      value-fine (Some p) q =
          onward-fine s (Any {A = Value}) Any e (scoped (own p) e) (λ y. gives (Some y)) (scoped-fine s Any (own p) e (λ y f r. tt) (own-fine p (q p refl))) (λ y e1 g c1 h1 f. made-fine s Any e1 (Some y) c1 h1 (λ w. tt))

  -- ---- what is declared at last

  all-declared : (n t : ℕ) (cs : List Counted) (e : Env) → AllInts cs → Classless e → When s e (Holds s e) → When s e (IsType (ty.Enum n) t e) → Fine s Any e (row.declare_all t cs e)
  all-declared n t [] e k c h is = made-fine s Any e tt c h (λ w. tt)
  all-declared n t (x ∷ xs) e k c h is =
      onward-fine s Any Any e (declare_enumerator x.name x.at t (number_or_zero x.number) e) (λ _. row.declare_all t xs)
      (subst (λ b. let run : Elab (Unit {0}) = if b then add_plain x.name x.at (what.Enumerator (number_or_zero x.number)) t else declare x.name (enumerator t (Some (number_or_zero x.number))) in Fine s Any e (run e)) (sym (in-no-class e c))
      (enumerator-fine Any tt x.name n t (Some (number_or_zero x.number)) e k.0 c h is (λ w. tt)))
      (λ u e1 g c1 h1 any. all-declared n t xs e1 k.1 c1 h1 (λ w. type-later (ty.Enum n) t e e1 g (is (within-before e e1 s g w))))

  name-declared : (n t : ℕ) (name : Option (ℕ × Name)) (e : Env) → Classless e → When s e (Holds s e) → When s e (IsEnum n e) → Fine s Any e (row.name_declared n t name e)
  name-declared n t None e c h i = made-fine s Any e tt c h (λ w. tt)
  name-declared n t (Some x) e c h i =
      subst (λ b. let run : Elab (Unit {0}) = if b then add_plain x.1 x.0 what.Alias t else declare x.1 (enum_name n) in Fine s Any e (run e)) (sym (in-no-class e c))
      (named-fine s Any tt x.1 (enum_name n) e (λ k is. absurd cc) c h i i (λ w. tt))

  name-known : (n : ℕ) (name : Option (ℕ × Name)) (e : Env) → Classless e → When s e (Holds s e) → When s e (IsEnum n e) → Fine s Any e (row.name_known n name e)
  name-known n None e c h i = made-fine s Any e tt c h (λ w. tt)
  name-known n (Some x) e c h i = named-fine s Any tt x.1 (enum_name n) e (λ k is. absurd cc) c h i i (λ w. tt)

  -- ---- the whole

  module _ (alias : Option Name) (at : ℕ) (name : Option (ℕ × Name)) (list : List Item) (items : AreItems s list) where
    abbrev checked : ℕ → ℕ → List Counted → Elab ℕ
    checked n t cs e =
        onward (need (is_file_scope e.scopes || not (is_some name)) 48 at e)
        (λ _ f. onward (row.name_checked name f)
        (λ _ f. onward (row.all_new (own_names name) cs f)
        (λ _ f. onward (row.all_constant cs f)
        (λ _ f. onward (row.all_ints cs f)
        (λ _ f. onward (row.name_declared n t name f)
        (λ _ f. onward (row.declare_all t cs f) (λ _. gives t)))))))

    checked-fine : (n t : ℕ) (cs : List Counted) (e : Env) → Classless e → When s e (Holds s e) → When s e (IsEnum n e) → When s e (IsType (ty.Enum n) t e) → Fine s IsThere e (checked n t cs e)
    checked-fine n t cs e c h i is =
        still-fine s IsThere e (need (is_file_scope e.scopes || not (is_some name)) 48 at e) _ (needed e (is_file_scope e.scopes || not (is_some name)) 48 at)
        (still-fine s IsThere e (row.name_checked name e) _ (name-still name e)
        (still-fine s IsThere e (row.all_new (own_names name) cs e) _ (all-new-still (own_names name) cs e)
        (still-fine s IsThere e (row.all_constant cs e) _ (all-constant-still cs e)
        (ints-fine s IsThere cs e _ (λ k. onward-fine s Any IsThere e (row.name_declared n t name e) _ (name-declared n t name e c h i)
        (λ u e1 g1 c1 h1 any. onward-fine s Any IsThere e1 (row.declare_all t cs e1) (λ _. gives t)
        (all-declared n t cs e1 k c1 h1 (λ w. type-later (ty.Enum n) t e e1 g1 (is (within-before e e1 s g1 w))))
        (λ v e2 g2 c2 h2 any2. made-fine s IsThere e2 t c2 h2 (λ w. let g = steps-through e e1 e2 g1 g2 in (type-later (ty.Enum n) t e e2 g (is (within-before e e2 s g w))).inside))))))))

    -- the enumerators are in a scope of their own until then, and the enumeration's name in one around it
    abbrev in_scope : ℕ → ℕ → Elab (List Counted)
    in_scope n t f = onward (row.name_known n name f) (λ _. scoped (row.counted t (Some (pos 0)) list))

    scope-fine : (n t : ℕ) (e : Env) → Classless e → When s e (Holds s e) → When s e (IsEnum n e) → When s e (IsType (ty.Enum n) t e) → Fine s Any e (scoped (in_scope n t) e)
    scope-fine n t e c h i is =
        scoped-fine s Any (in_scope n t) e (λ cs f p. tt)
        (onward-fine s (Any {A = Unit {0}}) (Any {A = List Counted}) (entered e) (row.name_known n name (entered e)) (λ _. scoped (row.counted t (Some (pos 0)) list))
        (name-known n name (entered e) (entered-classless s e c) (entered-holds s e h) (λ w. i (outside e w)))
        (λ u e1 g1 c1 h1 any. scoped-fine s Any (row.counted t (Some (pos 0)) list) e1 (λ cs f p. tt)
        (counted-fine n t (Some (pos 0)) list (entered e1) items (entered-classless s e1 c1) (entered-holds s e1 h1)
        (type-inside (ty.Enum n) t e1 (λ w. type-later (ty.Enum n) t (entered e) e1 g1 (type-inside (ty.Enum n) t e is (within-before (entered e) e1 s g1 w)))))))

    behind-scope : (n t : ℕ) (e : Env) → Classless e → When s e (Holds s e) → When s e (IsEnum n e) → When s e (IsType (ty.Enum n) t e)
        → Fine s IsThere e (onward (scoped (in_scope n t) e) (λ cs. checked n t cs))
    behind-scope n t e c h i is =
        onward-fine s (Any {A = List Counted}) IsThere e (scoped (in_scope n t) e) (λ cs. checked n t cs) (scope-fine n t e c h i is)
        (λ cs f g c1 h1 any. checked-fine n t cs f c1 h1 (λ w. enum-later f g (i (within-before e f s g w))) (λ w. type-later (ty.Enum n) t e f g (is (within-before e f s g w))))
      where
        enum-later : (b : Env) → Steps e b → IsEnum n e → IsEnum n b
        enum-later b g k = omega (arith, k, ap length g.enums.all, length-append e.classes.enums g.enums.more)

    pub enumeration-fine : (e : Env) → Classless e → When s e (Holds s e) → Fine s IsThere e (row.enumeration_row alias at name list e)
    enumeration-fine e c h =
        onward-fine s IsEnum IsThere e (row.new_enum (label_name name alias) e) _ (new-fine (label_name name alias) e c h)
        (λ n e1 g1 c1 h1 i. onward-fine s (IsType (ty.Enum n)) IsThere e1 (intern (ty.Enum n) e1) _ (intern-fine s (ty.Enum n) e1 refl i c1 h1)
        (λ t e2 g2 c2 h2 is. behind-scope n t e2 c2 h2 (λ w. omega (arith, i (within-before e1 e2 s g2 w), ap length g2.enums.all, length-append e1.classes.enums g2.enums.more)) is))

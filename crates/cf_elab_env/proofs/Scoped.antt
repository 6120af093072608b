-- Scopes that are opened and closed, and names that are declared.
use Rattle.std.proofs.Common.{◌≡◌, ℕ, zero, suc, ◌+◌, ◌<◌, Bool, true, false, List, [], ◌∷◌, ◌++◌, length, Option, None, Some, is_none, All, if◌then◌else◌, refl, sym, ap, subst, ◌∙◌, arith, length-append}
use Rattle.std.proofs.Math.ListN.{set}
use Rattle.std.proofs.lemmas.List.{length-set}
use Rattle.std.proofs.lemmas.List.Elements.{All-append, All-cons, All-set}
use Rattle.cf_lookup.specs.Scope.{OpenScopes, in_scope}
use Rattle.cf_elab.specs.Answer.{Made}
use Rattle.cf_elab.specs.Env.{Env, Name, Entity, FunctionEntry, Hand, object, functions, alias, class_name, enum_name, enumerator}
use Rattle.cf_elab.specs.Env.{OpenClass}
use Rattle.cf_elab.specs.ClassScope.{open_class}
use Rattle.cf_elab.specs.Names.{without_last, replaced}
use Rattle.cf_types.specs.declared.ty.Ty.{Ty}
use Rattle.cf_types.specs.declared.ty.Ty.TheVariants as ty
use Rattle.cf_classes.specs.ClassTable.{ClassTable}
use Rattle.cf_classes.specs.declared.label.Label.{Label}
use Rattle.cf_core.specs.declared.unit.CoreStatic.{CoreStatic}
use Rattle.cf_elab_env.specs.Holds.{IsEnv, EnumGiven, IsEntity, IsEntry, IsHand, AreNames}
use Rattle.cf_elab_env.specs.Shut as shut
use Rattle.cf_elab_env.proofs.Growth.{All-into}

pub All-none : {A : Type 0} (P : A → Type 0) → All P []
All-none P = λ i d w. absurd (omega arith)

pub All-one : {A : Type 0} (P : A → Type 0) (x : A) → P x → All P (x ∷ [])
All-one P x h = All-cons P x [] h (All-none P)

-- an environment with other scopes, and with more entities
module _ (env : Env) (e : IsEnv env) where
  pub with_scopes : (scopes : OpenScopes) → All (λ names. AreNames (length env.entities) names) scopes.outer → AreNames (length env.entities) scopes.inner
      → IsEnv (record env { scopes = scopes })
  with_scopes scopes outer inner = record {
    no_class = e.no_class;
    no_open_class = e.no_open_class;
    table = e.table;
    no_class_type = e.no_class_type;
    enums = e.enums;
    no_outer = e.no_outer;
    entities = e.entities;
    entries = e.entries;
    outer = outer;
    inner = inner;
    linked = e.linked;
    hand = e.hand;
  }

  names_more : (x : Entity) (names : List (Name × ℕ)) → AreNames (length env.entities) names → AreNames (length (env.entities ++ x ∷ [])) names
  names_more x names h = All-into (λ (n : Name × ℕ). n.1 < length env.entities) (λ (n : Name × ℕ). n.1 < length (env.entities ++ x ∷ [])) names (λ n k. omega (arith, k, length-append env.entities (x ∷ []))) h

  pub with_entity : (x : Entity) → IsEntity env.types (length env.entries) x → IsEnv (record env { entities = env.entities ++ x ∷ [] })
  with_entity x known = record {
    no_class = e.no_class;
    no_open_class = e.no_open_class;
    table = e.table;
    no_class_type = e.no_class_type;
    enums = e.enums;
    no_outer = e.no_outer;
    entities = All-append (IsEntity env.types (length env.entries)) env.entities (x ∷ []) e.entities (All-one (IsEntity env.types (length env.entries)) x known);
    entries = e.entries;
    outer = All-into (AreNames (length env.entities)) (AreNames (length (env.entities ++ x ∷ []))) env.scopes.outer (names_more x) e.outer;
    inner = names_more x env.scopes.inner e.inner;
    linked = names_more x env.linked e.linked;
    hand = e.hand;
  }

  -- one more name for an entity that there is
  pub with_name : (name : Name) (n : ℕ) → n < length env.entities → IsEnv (record env { scopes = record env.scopes { inner = env.scopes.inner ++ (name, n) ∷ [] } })
  with_name name n below =
      let P : Name × ℕ → Type 0 = λ x. x.1 < length env.entities in
      with_scopes (record env.scopes { inner = env.scopes.inner ++ (name, n) ∷ [] }) e.outer
      (All-append P env.scopes.inner ((name, n) ∷ []) e.inner (All-one P (name, n) below))

  pub with_linked : (name : Name) (n : ℕ) → n < length env.entities → IsEnv (record env { linked = env.linked ++ (name, n) ∷ [] })
  with_linked name n below = record {
    no_class = e.no_class;
    no_open_class = e.no_open_class;
    table = e.table;
    no_class_type = e.no_class_type;
    enums = e.enums;
    no_outer = e.no_outer;
    entities = e.entities;
    entries = e.entries;
    outer = e.outer;
    inner = e.inner;
    linked = let P : Name × ℕ → Type 0 = λ x. x.1 < length env.entities in All-append P env.linked ((name, n) ∷ []) e.linked (All-one P (name, n) below);
    hand = e.hand;
  }

  -- another entity under a number
  pub with_replaced : (n : ℕ) (x : Entity) → IsEntity env.types (length env.entries) x → IsEnv (record env { entities = set env.entities n x })
  with_replaced n x known =
      let same : length (set env.entities n x) ≡ length env.entities = length-set env.entities n x in
      record {
        no_class = e.no_class;
        no_open_class = e.no_open_class;
        table = e.table;
        no_class_type = e.no_class_type;
        enums = e.enums;
        no_outer = e.no_outer;
        entities = All-set (IsEntity env.types (length env.entries)) env.entities n x known e.entities;
        entries = e.entries;
        outer = subst (λ k. All (AreNames k) env.scopes.outer) (sym same) e.outer;
        inner = subst (λ k. AreNames k env.scopes.inner) (sym same) e.inner;
        linked = subst (λ k. All (λ (x : Name × ℕ). x.1 < k) env.linked) (sym same) e.linked;
        hand = e.hand;
      }

  -- one more enumeration, which stands in no class
  pub with_enum : (x : Label) → x.outer ≡ None → (classes : ClassTable) → classes.enums ≡ env.classes.enums ++ x ∷ [] → classes.defined ≡ env.classes.defined
      → IsEnv (record env { classes = classes })
  with_enum x free classes grown same = record {
    no_class = same ∙ e.no_class;
    no_open_class = e.no_open_class;
    table = e.table;
    no_class_type = e.no_class_type;
    enums = subst (λ es. All (EnumGiven (length es)) env.types.types) (sym grown)
        (All-into (EnumGiven (length env.classes.enums)) (EnumGiven (length (env.classes.enums ++ x ∷ []))) env.types.types (given_more x) e.enums);
    no_outer = let P : Label → Type 0 = λ l. l.outer ≡ None in subst (All P) (sym grown) (All-append P env.classes.enums (x ∷ []) e.no_outer (All-one P x free));
    entities = e.entities;
    entries = e.entries;
    outer = e.outer;
    inner = e.inner;
    linked = e.linked;
    hand = e.hand;
  }
    where
      given_more : (x : Label) (t : Ty) → EnumGiven (length env.classes.enums) t → EnumGiven (length (env.classes.enums ++ x ∷ [])) t
      given_more x (ty.Enum n) h = omega (arith, h, length-append env.classes.enums (x ∷ []))
      given_more x ty.Void h = tt
      given_more x (ty.Int k) h = tt
      given_more x (ty.Class c) h = tt
      given_more x (ty.Ptr t) h = tt
      given_more x (ty.Ref t) h = tt
      given_more x (ty.Array t n) h = tt
      given_more x (ty.Fun f) h = tt
      given_more x (ty.MemData c t) h = tt
      given_more x (ty.MemFun c f) h = tt
      given_more x (ty.Const t) h = tt

  pub with_hand : (hand : Hand) → IsHand env.types hand → IsEnv (record env { hand = hand })
  with_hand hand known = record {
    no_class = e.no_class;
    no_open_class = e.no_open_class;
    table = e.table;
    no_class_type = e.no_class_type;
    enums = e.enums;
    no_outer = e.no_outer;
    entities = e.entities;
    entries = e.entries;
    outer = e.outer;
    inner = e.inner;
    linked = e.linked;
    hand = known;
  }

  entity_more : (f : FunctionEntry) (x : Entity) → IsEntity env.types (length env.entries) x → IsEntity env.types (length (env.entries ++ f ∷ [])) x
  entity_more f (object x) known = known
  entity_more f (functions fs) known =
      All-into (λ n. n < length env.entries) (λ n. n < length (env.entries ++ f ∷ [])) fs (λ n k. omega (arith, k, length-append env.entries (f ∷ []))) known
  entity_more f (alias t) known = known
  entity_more f (class_name c) known = known
  entity_more f (enum_name n) known = known
  entity_more f (enumerator t z) known = known

  pub with_entry : (f : FunctionEntry) → IsEntry env.types f → IsEnv (record env { entries = env.entries ++ f ∷ [] })
  with_entry f known = record {
    no_class = e.no_class;
    no_open_class = e.no_open_class;
    table = e.table;
    no_class_type = e.no_class_type;
    enums = e.enums;
    no_outer = e.no_outer;
    entities = All-into (IsEntity env.types (length env.entries)) (IsEntity env.types (length (env.entries ++ f ∷ []))) env.entities (entity_more f) e.entities;
    entries = All-append (IsEntry env.types) env.entries (f ∷ []) e.entries (All-one (IsEntry env.types) f known);
    outer = e.outer;
    inner = e.inner;
    linked = e.linked;
    hand = e.hand;
  }

  pub with_set_entry : (n : ℕ) (f : FunctionEntry) → IsEntry env.types f → IsEnv (record env { entries = set env.entries n f })
  with_set_entry n f known = record {
    no_class = e.no_class;
    no_open_class = e.no_open_class;
    table = e.table;
    no_class_type = e.no_class_type;
    enums = e.enums;
    no_outer = e.no_outer;
    entities = subst (λ k. All (IsEntity env.types k) env.entities) (sym (length-set env.entries n f)) e.entities;
    entries = All-set (IsEntry env.types) env.entries n f known e.entries;
    outer = e.outer;
    inner = e.inner;
    linked = e.linked;
    hand = e.hand;
  }

  -- the scope that was the innermost stands around the new one
  pub opened : (new : OpenScopes) → new.outer ≡ env.scopes.outer ++ env.scopes.inner ∷ [] → new.inner ≡ [] → IsEnv (record env { scopes = new })
  opened new outer inner =
      let P : List (Name × ℕ) → Type 0 = AreNames (length env.entities) in
      with_scopes new (subst (All P) (sym outer) (All-append P env.scopes.outer (env.scopes.inner ∷ []) e.outer (All-one P env.scopes.inner e.inner)))
      (subst P (sym inner) (All-none (λ (n : Name × ℕ). n.1 < length env.entities)))

-- ---- the rows

pub opened_is : (env : Env) (new : OpenScopes) → new.outer ≡ env.scopes.outer ++ env.scopes.inner ∷ [] → new.inner ≡ []
    → shut.enter_scope env ≡ Made tt (record env { scopes = new })
unfolding shut.enter_scope
opened_is env new outer inner = λ i. Made tt (record env { scopes = record { outer = sym outer i; inner = sym inner i } })

-- a list whose last item is left out
without_last-is : (outer : List (List (Name × ℕ))) (inner : List (Name × ℕ)) → without_last (outer ++ inner ∷ []) ≡ record { outer = outer; inner = inner }
without_last-is [] inner = refl
without_last-is (s ∷ []) inner = refl
without_last-is (s ∷ t ∷ rest) inner = ap (λ (o : OpenScopes). record o { outer = s ∷ o.outer }) (without_last-is (t ∷ rest) inner)

pub closed_is : (env : Env) (new : OpenScopes) → env.scopes.outer ≡ new.outer ++ new.inner ∷ [] → shut.leave_scope env ≡ Made tt (record env { scopes = new })
unfolding shut.leave_scope
closed_is env new was = ap (λ (o : OpenScopes). Made tt (record env { scopes = o })) (ap without_last was ∙ without_last-is new.outer new.inner)

pub emptied_is : (env : Env) (new : OpenScopes) → env.scopes.outer ≡ [] → new.outer ≡ [] → new.inner ≡ [] → shut.leave_scope env ≡ Made tt (record env { scopes = new })
unfolding shut.leave_scope
emptied_is env new was outer inner =
    ap (λ (o : OpenScopes). Made tt (record env { scopes = o })) (ap without_last was ∙ (λ i. record { outer = sym outer i; inner = sym inner i }))

-- scopes in which the innermost has one name more
named : (old new : OpenScopes) (name : Name) (n : ℕ) → new.inner ≡ old.inner ++ (name, n) ∷ [] → new.outer ≡ old.outer → new ≡ record old { inner = old.inner ++ (name, n) ∷ [] }
named old new name n inner outer = λ i. record { outer = outer i; inner = inner i }

pub bound_is : (env : Env) (new : OpenScopes) (name : Name) (n : ℕ) → new.inner ≡ env.scopes.inner ++ (name, n) ∷ [] → new.outer ≡ env.scopes.outer
    → shut.bind_name name n env ≡ Made tt (record env { scopes = new })
unfolding shut.bind_name
bound_is env new name n inner outer = ap (λ (o : OpenScopes). Made tt (record env { scopes = o })) (sym (named env.scopes new name n inner outer))

pub declared_is : (env : Env) (new : OpenScopes) (name : Name) (x : Entity) (n : ℕ) (entities : List Entity) → entities ≡ env.entities ++ x ∷ [] → n ≡ length env.entities
    → new.inner ≡ env.scopes.inner ++ (name, n) ∷ [] → new.outer ≡ env.scopes.outer → shut.declare name x env ≡ Made tt (record env { scopes = new; entities = entities })
unfolding shut.declare
declared_is env new name x n entities grown last inner outer =
    ap (λ k. Made tt (record env { scopes = record env.scopes { inner = env.scopes.inner ++ (name, k) ∷ [] }; entities = env.entities ++ x ∷ [] })) (sym last)
    ∙ (λ i. Made tt (record env { scopes = sym (named env.scopes new name n inner outer) i; entities = sym grown i }))

module _ (env : Env) (e : IsEnv env) where
  abbrev With : OpenScopes → List Entity → Type 0
  With scopes entities = IsEnv (record env { scopes = scopes; entities = entities })

  pub entity_holds : (x : Entity) (scopes : OpenScopes) (entities : List Entity) → IsEntity env.types (length env.entries) x → entities ≡ env.entities ++ x ∷ []
      → scopes ≡ env.scopes → With scopes entities
  entity_holds x scopes entities known grown same =
      subst (λ (o : OpenScopes). With o entities) (sym same) (subst (λ (l : List Entity). With env.scopes l) (sym grown) (with_entity env e x known))

  pub declared_holds : (name : Name) (x : Entity) (n : ℕ) (scopes : OpenScopes) (entities : List Entity) → IsEntity env.types (length env.entries) x
      → entities ≡ env.entities ++ x ∷ [] → n ≡ length env.entities → scopes.inner ≡ env.scopes.inner ++ (name, n) ∷ [] → scopes.outer ≡ env.scopes.outer → With scopes entities
  declared_holds name x n scopes entities known grown last inner outer =
      let more = with_entity env e x known in
      let below : n < length (env.entities ++ x ∷ []) = omega (arith, length-append env.entities (x ∷ [])) in
      let both = with_name (record env { entities = env.entities ++ x ∷ [] }) more name n below in
      subst (λ (o : OpenScopes). With o entities) (sym (named env.scopes scopes name n inner outer))
      (subst (λ (l : List Entity). With (record env.scopes { inner = env.scopes.inner ++ (name, n) ∷ [] }) l) (sym grown) both)

  pub bound_holds : (name : Name) (n : ℕ) (scopes : OpenScopes) → n < length env.entities → scopes.inner ≡ env.scopes.inner ++ (name, n) ∷ [] → scopes.outer ≡ env.scopes.outer
      → IsEnv (record env { scopes = scopes })
  bound_holds name n scopes below inner outer =
      subst (λ (o : OpenScopes). IsEnv (record env { scopes = o })) (sym (named env.scopes scopes name n inner outer)) (with_name env e name n below)

-- an item in the place of another
replaced-set : {A : Type 0} (xs : List A) (n : ℕ) (x : A) → replaced n x xs ≡ set xs n x
replaced-set [] n x = refl
replaced-set (y ∷ ys) zero x = refl
replaced-set (y ∷ ys) (suc n) x = ap (λ l. y ∷ l) (replaced-set ys n x)

pub redeclared_is : (env : Env) (n : ℕ) (x : Entity) → shut.redeclare n x env ≡ Made tt (record env { entities = set env.entities n x })
unfolding shut.redeclare
redeclared_is env n x = ap (λ l. Made tt (record env { entities = l })) (replaced-set env.entities n x)

pub set_entry_is : (env : Env) (n : ℕ) (f : FunctionEntry) (entries : List FunctionEntry) → entries ≡ set env.entries n f → shut.set_entry n f env ≡ Made tt (record env { entries = entries })
unfolding shut.set_entry
set_entry_is env n f entries is = ap (λ l. Made tt (record env { entries = l })) (replaced-set env.entries n f ∙ sym is)

pub new_enum_is : (env : Env) (classes : ClassTable) (name : Name) (n : ℕ) → env.open_classes ≡ [] → n ≡ length env.classes.enums
    → classes.enums ≡ env.classes.enums ++ record { name = name; outer = None } ∷ [] → classes.labels ≡ env.classes.labels → classes.defined ≡ env.classes.defined
    → shut.new_enum name env ≡ Made n (record env { classes = classes })
unfolding shut.new_enum
new_enum_is env classes name n closed last enums labels defined =
    let outside : open_class env ≡ None = ap (λ (os : List OpenClass). elim os as (λ _. Option ℕ) [ [] ↦ None | o ∷ rest ↦ Some o.class ]) closed in
    ap (λ k. Made (length env.classes.enums) (record env { classes = record env.classes { enums = env.classes.enums ++ record { name = name; outer = k } ∷ [] } })) outside
    ∙ (λ i. Made (sym last i) (record env { classes = record { labels = sym labels i; enums = sym enums i; defined = sym defined i } }))

pub new_local_is : (env : Env) (t n : ℕ) (hand : Hand) → n ≡ length env.hand.locals → hand ≡ record env.hand { locals = env.hand.locals ++ t ∷ [] }
    → shut.new_local t env ≡ Made n (record env { hand = hand })
unfolding shut.new_local
new_local_is env t n hand last grown = λ i. Made (sym last i) (record env { hand = sym grown i })

pub define_static_is : (env : Env) (x : CoreStatic) (statics : List CoreStatic) → statics ≡ env.statics ++ x ∷ [] → shut.define_static x env ≡ Made tt (record env { statics = statics })
unfolding shut.define_static
define_static_is env x statics grown = λ i. Made tt (record env { statics = sym grown i })

-- What the test finds constant is constant: a value, or what sets an object of a type.
use Rattle.std.proofs.Common.{◌≡◌, Bool, true, false, not, ◌&&◌, ◌||◌, List, [], ◌∷◌, map, refl, ap, sym, subst, ◌∙◌}
use Rattle.std.specs.Prelude.{Option, Some, None}
use Rattle.cf_classes.specs.declared.class.MemberRef.{MemberRef}
use Rattle.cf_core.specs.declared.node.Core.{Core as Node, roll-Core, ind-Core}
use Rattle.cf_core.specs.declared.node.Core.TheOpen.{Core-F}
use Rattle.cf_core.specs.declared.node.Core.TheFolds.{fold-roll-Core, map-Core}
use Rattle.cf_core.specs.declared.node.PartStart.{PartStart, fold-PartStart}
use Rattle.cf_core.specs.declared.node.Holder.TheVariants as holder
use Rattle.cf_core.specs.Places.{is_reference}
use Rattle.cf_core.specs.Types.{Name, SourceType, plain, element}
use Rattle.cf_core.specs.Core.{Core, Cores}
use Rattle.cf_core.specs.FromTypes.{Tables}
use Rattle.cf_core.specs.View.{Started, core_step, started_step, core_of, listed}
use Rattle.cf_sequence.specs.Built.{is_row, is_filling, is_constant_value, is_constant_initial, is_constant_list, are_constant_elements, is_constant_element, is_bound, is_constant_set}
use Rattle.cf_sequence_built.specs.Unbuilt as unbuilt
use Rattle.cf_sequence_built.specs.Unbuilt.{Constant, constant_step, constant_part, constant, set_by_list, sets, each_sets, sets_object}
use Rattle.cf_sequence_written.proofs.Tested.{row-is}

two-same : (a b c d : Bool) → a ≡ c → b ≡ d → a && b ≡ c && d
two-same a b c d p q = ap (λ x. x && b) p ∙ ap (λ x. c && x) q

-- what is told of a list, as what sets an object
abbrev pub Lists : Option (SourceType → Bool) → Core → Type 0
Lists None c = (t : SourceType) → is_constant_list t c ≡ false
Lists (Some f) c = ((t : SourceType) → f t ≡ is_constant_list t c) × (is_constant_initial c ≡ false)

or-false : (b : Bool) → b ≡ (b || false)
or-false true = refl
or-false false = refl

list-by : (o : Option (SourceType → Bool)) (c : Core) → Lists o c → (t : SourceType) (other : Bool) → other ≡ is_constant_initial c → set_by_list o t other ≡ is_constant_element t c
list-by None c lists t other e = e ∙ or-false (is_constant_initial c) ∙ ap (λ b. is_constant_initial c || b) (sym (lists t))
list-by (Some f) c lists t other e = lists.0 t ∙ ap (λ b. b || is_constant_list t c) (sym lists.1)

pub record Told (x : Constant) (c : Core) : Type 0 where
  pub value : x.value ≡ is_constant_value c
  pub filling : x.is_filling ≡ is_filling c
  pub list : Lists x.list c
  pub bound : x.is_bound ≡ is_bound c

sets-is : (x : Constant) (c : Core) → Told x c → (t : SourceType) → sets t x ≡ is_constant_element t c
sets-is x c told t =
    list-by x.list c told.list t (x.is_filling || x.value) (ap (λ b. b || x.value) told.filling ∙ ap (λ b. is_filling c || b) told.value)

pub sets-object : (x : Constant) (c : Core) → Told x c → (t : SourceType) → sets_object t x ≡ is_constant_set t c
sets-object x c told t =
    ap (λ b. b || (not (is_reference t) && sets t x)) told.bound ∙ ap (λ b. is_bound c || (not (is_reference t) && b)) (sets-is x c told t)

module _ (tables : Tables) (signature : MemberRef → Name) where
  abbrev of_node : Node → Core
  of_node = core_of tables signature

  abbrev IsTold : Node → Type 0
  IsTold n = Told (constant n) (of_node n)

  abbrev Child : Type 0
  Child = (n : Node) × IsTold n

  abbrev PartChild : Type 0
  PartChild = (p : PartStart) × Unit {0}

  abbrev node_of : Child → Node
  node_of c = c.0

  abbrev part_of : PartChild → PartStart
  part_of c = c.0

  abbrev started_of : PartStart → Started
  started_of = fold-PartStart Core Started (core_step tables signature) (started_step tables signature)

  abbrev part_constant : PartStart → Constant
  part_constant = fold-PartStart Constant Constant constant_step constant_part

  abbrev shape : Core-F Child PartChild → Core-F Node PartStart
  shape y = map-Core _ _ _ _ node_of part_of y

  abbrev IsLayer : Core-F Node PartStart → Type 0
  IsLayer x = Told (constant_step (map-Core _ _ _ _ constant part_constant x)) (core_step tables signature (map-Core _ _ _ _ of_node started_of x))

  two : (a b : Child) → (constant a.0).value && (constant b.0).value ≡ is_constant_value (of_node a.0) && is_constant_value (of_node b.0)
  two a b = two-same (constant a.0).value (constant b.0).value (is_constant_value (of_node a.0)) (is_constant_value (of_node b.0)) a.1.value b.1.value

  abbrev constants_of : List Child → List Constant
  constants_of es = map constant (map node_of es)

  abbrev cores_of : List Child → Cores
  cores_of es = listed (map of_node (map node_of es))

  each-is : (es : List Child) (t : SourceType) → each_sets t (constants_of es) ≡ are_constant_elements t (cores_of es)
  each-is [] t = refl
  each-is (e ∷ es) t =
      two-same (sets t (constant e.0)) (each_sets t (constants_of es)) (is_constant_element t (of_node e.0)) (are_constant_elements t (cores_of es)) (sets-is (constant e.0) (of_node e.0) e.1 t)
      (each-is es t)

  list-is : (es : List Child) (rest : Child) (t : SourceType)
      → unbuilt.is_row t && (each_sets (element (plain t)) (constants_of es) && (constant rest.0).is_filling) ≡ is_row t && (are_constant_elements (element (plain t)) (cores_of es) && is_filling (of_node rest.0))
  list-is es rest t =
      let u : SourceType = element (plain t) in
      two-same (unbuilt.is_row t) (each_sets u (constants_of es) && (constant rest.0).is_filling) (is_row t) (are_constant_elements u (cores_of es) && is_filling (of_node rest.0)) (row-is t)
      (two-same (each_sets u (constants_of es)) (constant rest.0).is_filling (are_constant_elements u (cores_of es)) (is_filling (of_node rest.0)) (each-is es u) rest.1.filling)

  layer : (y : Core-F Child PartChild) → IsLayer (shape y)
  layer (Core-F.Address at e) = record { value = e.1.value; filling = refl; list = λ t. refl; bound = refl }
  layer (Core-F.Dereference at e) = record { value = e.1.value; filling = refl; list = λ t. refl; bound = refl }
  layer (Core-F.Decay at e) = record { value = e.1.value; filling = refl; list = λ t. refl; bound = refl }
  layer (Core-F.Index at a b) = record { value = two a b; filling = refl; list = λ t. refl; bound = refl }
  layer (Core-F.Convert at t e) = record { value = e.1.value; filling = refl; list = λ t. refl; bound = refl }
  layer (Core-F.Operate at op k a b) = record { value = two a b; filling = refl; list = λ t. refl; bound = refl }
  layer (Core-F.Unary at op k e) = record { value = e.1.value; filling = refl; list = λ t. refl; bound = refl }
  layer (Core-F.Not at e) = record { value = e.1.value; filling = refl; list = λ t. refl; bound = refl }
  layer (Core-F.And at a b) = record { value = two a b; filling = refl; list = λ t. refl; bound = refl }
  layer (Core-F.Or at a b) = record { value = two a b; filling = refl; list = λ t. refl; bound = refl }
  layer (Core-F.PointerOperate at op a b) = record { value = two a b; filling = refl; list = λ t. refl; bound = refl }
  layer (Core-F.Conditional at c a b) = record {
    value = two-same (constant c.0).value ((constant a.0).value && (constant b.0).value) (is_constant_value (of_node c.0)) (is_constant_value (of_node a.0) && is_constant_value (of_node b.0)) c.1.value (two a b);
    filling = refl;
    list = λ t. refl;
    bound = refl;
  }
  layer (Core-F.Bind at holder.NoTemporary e) = record { value = refl; filling = refl; list = λ t. refl; bound = e.1.value }
  layer (Core-F.Bind at (holder.LocalTemporary i t) e) = record { value = refl; filling = refl; list = λ t. refl; bound = refl }
  layer (Core-F.Bind at (holder.StaticTemporary name) e) = record { value = refl; filling = refl; list = λ t. refl; bound = e.1.value }
  layer (Core-F.List at es rest) = record { value = refl; filling = refl; list = (list-is es rest, refl); bound = refl }
  layer y = record { value = refl; filling = refl; list = λ t. refl; bound = refl }

  rolled : (x : Core-F Node PartStart) → IsLayer x → IsTold (roll-Core x)
  rolled x p =
      subst (λ k. Told k (of_node (roll-Core x))) (sym (fold-roll-Core Constant Constant constant_step constant_part x))
      (subst (λ c. Told (constant_step (map-Core _ _ _ _ constant part_constant x)) c) (sym (fold-roll-Core Core Started (core_step tables signature) (started_step tables signature) x)) p)

  pub told : (n : Node) → Told (constant n) (of_node n)
  told = ind-Core IsTold (λ p. Unit {0}) (λ x y is. subst (λ z. IsTold (roll-Core z)) is (rolled (shape y) (layer y))) (λ x y is. tt)

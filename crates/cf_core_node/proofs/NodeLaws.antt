-- A node that has a form is what its tree is, under the names that it goes by in a program of its file alone.
use Rattle.std.proofs.Common.{◌≡◌, ◌∙◌, ℕ, Bool, true, false, List, [], ◌∷◌, map, Option, Some, None, Ok, Err, option_map, slice_get, refl, ap, sym, subst}
use Rattle.cf_types.specs.Table.{Table}
use Rattle.cf_classes.specs.TypeTree.{fun_of}
use Rattle.cf_classes.specs.declared.class.MemberRef.{MemberRef}
use Rattle.cf_core.specs.Types.{Name}
use Rattle.cf_core.specs.FromTypes.{Tables, type_of}
use Rattle.cf_core.specs.Core as plain
use Rattle.cf_core.specs.Core.{Cores, MaybeCore, more, absent, given}
use Rattle.cf_core.specs.View.{Started, core_step, started_step, listed, maybe as maybe_core, change_of as plain_change}
use Rattle.cf_core.specs.Joined.{renamed, renamed_all, renamed_maybe, name_in}
use Rattle.cf_core.specs.declared.operators.LoopForm.{LoopForm}
use Rattle.cf_core.specs.declared.node.Core.{Core, fold-Core, roll-Core, ind-Core}
use Rattle.cf_core.specs.declared.node.Core.TheOpen.{Core-F}
use Rattle.cf_core.specs.declared.node.Core.TheFolds.{fold-roll-Core, map-Core}
use Rattle.cf_core.specs.declared.node.PartStart.{PartStart, fold-PartStart}
use Rattle.cf_core.specs.declared.node.Change.{Change as CoreChange}
use Rattle.cf_core.specs.declared.node.Change.TheVariants as core_change
use Rattle.cf_core.specs.declared.node.Holder.TheVariants as holder
use Rattle.cf_run_tree.specs.declared.node.Unary.{Unary}
use Rattle.cf_run_tree.specs.declared.node.Unary.TheVariants as one
use Rattle.cf_run_tree.specs.declared.node.Binary.{Binary}
use Rattle.cf_run_tree.specs.declared.node.Binary.TheVariants as two
use Rattle.cf_run_tree.specs.declared.node.Node.{Node}
use Rattle.cf_run_tree.specs.declared.node.Node.TheVariants as node
use Rattle.cf_run_tree.specs.Tree as tree
use Rattle.cf_run_tree.proofs.Views.{core-Number, core-Text, core-Function, core-Local, core-Static, core-Apply, core-Join, core-And, core-Or, core-Conditional, core-Comma, core-Temporary, core-Call, core-PointerCall, core-Bind, core-Hold, core-List, core-Characters, core-Zeros, core-Blank, core-Full, core-Block, core-Sequence, core-Declare, core-If, core-Loop, core-Switch, core-Case, core-Default, core-Break, core-Continue, core-Return}
use Rattle.cf_core_shape.specs.Shapes.{shape_of, object_type_of, signature_of}
use Rattle.cf_core_shape.proofs.TypeLaws.{IsOrdered, shape-type, object-type, function-type}
use Rattle.cf_run_tree.specs.declared.shape.ObjectType.{ObjectType}
use Rattle.cf_run_tree.specs.declared.program.Program.{Program}
use Rattle.cf_run_tree.specs.declared.program.Signature.{Signature}
use Rattle.cf_core_node.specs.declared.defined.Defined.{Defined}
use Rattle.cf_core_node.specs.Defined.{agrees, agrees_object, function_defined, static_defined}
use Rattle.cf_core_node.specs.Formed.{Formed, placed, allowed, after, made, all, maybe}
use Rattle.cf_core_node.specs.Nodes.{change_of, node_of, named_function, named_object, step, no_part}

changed : (c : CoreChange) → tree.change_of (change_of c) ≡ plain_change c
changed (core_change.Arithmetic op k to) = refl
changed (core_change.Moved back) = refl

-- What is named in a program has the type that a file names it with, where that is the type of its definition in the file.
pub record Agreed (types : Table) (defined : Defined) (p : Program) : Type 0 where
  pub functions : (n : Name) (t : ℕ) (s : Signature) → signature_of types t ≡ Some s → agrees (function_defined defined n) (fun_of types (slice_get types.types t)) ≡ true
      → tree.function_head p n s ≡ s
  pub statics : (n : Name) (t : ℕ) (o : ObjectType) → object_type_of types t ≡ Some o → agrees_object (static_defined defined n) t ≡ true → tree.static_type p n o ≡ o

module _ (tables : Tables) (ordered : IsOrdered tables.types) (defined : Defined) (signature : MemberRef → Name) (p : Program) (agreed : Agreed tables.types defined p) where
  abbrev r : Name → Name
  r = name_in 1 defined.own

  abbrev view : Node → plain.Core
  view = tree.core_of tables p

  abbrev core_of : Core → plain.Core
  core_of = fold-Core plain.Core Started (core_step tables signature) (started_step tables signature)

  abbrev started_of : PartStart → Started
  started_of = fold-PartStart plain.Core Started (core_step tables signature) (started_step tables signature)

  abbrev formed : Core → Formed Node
  formed = node_of tables.types defined

  abbrev part_of : PartStart → Unit {0}
  part_of = fold-PartStart (Formed Node) (Unit {0}) (step tables.types defined) no_part

  -- a form is that of this core
  abbrev Views : Formed Node → plain.Core → Type 0
  Views (Ok n) c = view n ≡ c
  Views (Err at) c = Unit {0}

  abbrev ViewsAll : Formed (List Node) → Cores → Type 0
  ViewsAll (Ok ns) cs = listed (map view ns) ≡ cs
  ViewsAll (Err at) cs = Unit {0}

  abbrev ViewsMaybe : Formed (Option Node) → MaybeCore → Type 0
  ViewsMaybe (Ok n) c = maybe_core (option_map view n) ≡ c
  ViewsMaybe (Err at) c = Unit {0}

  abbrev IsViewed : Core → Type 0
  IsViewed n = Views (formed n) (renamed r (core_of n))

  abbrev Child : Type 0
  Child = (n : Core) × IsViewed n

  abbrev PartChild : Type 0
  PartChild = (p : PartStart) × Unit {0}

  -- ---- what is made of parts

  of_one : (f : Node → Node) (g : plain.Core → plain.Core) → ((a : Node) → view (f a) ≡ g (view a)) → (x : Formed Node) (c : plain.Core) → Views x c
      → Views (made (λ a. f a) x) (g c)
  of_one f g law (Ok a) c v = law a ∙ ap g v
  of_one f g law (Err at) c v = tt

  of_two : (f : Node → Node → Node) (g : plain.Core → plain.Core → plain.Core) → ((a b : Node) → view (f a b) ≡ g (view a) (view b))
      → (x : Formed Node) (c : plain.Core) → Views x c → (y : Formed Node) (d : plain.Core) → Views y d → Views (after x (λ a. made (λ b. f a b) y)) (g c d)
  of_two f g law (Ok a) c v y d w = of_one (f a) (g c) (λ b. law a b ∙ ap (λ a. g a (view b)) v) y d w
  of_two f g law (Err at) c v y d w = tt

  of_three : (f : Node → Node → Node → Node) (g : plain.Core → plain.Core → plain.Core → plain.Core)
      → ((a b e : Node) → view (f a b e) ≡ g (view a) (view b) (view e)) → (x : Formed Node) (c : plain.Core) → Views x c → (y : Formed Node) (d : plain.Core) → Views y d
      → (z : Formed Node) (e : plain.Core) → Views z e → Views (after x (λ a. after y (λ b. made (λ e. f a b e) z))) (g c d e)
  of_three f g law (Ok a) c v y d w z e u = of_two (f a) (g c) (λ b e. law a b e ∙ ap (λ a. g a (view b) (view e)) v) y d w z e u
  of_three f g law (Err at) c v y d w z e u = tt

  of_all : (f : List Node → Node) (g : Cores → plain.Core) → ((ns : List Node) → view (f ns) ≡ g (listed (map view ns))) → (x : Formed (List Node)) (cs : Cores)
      → ViewsAll x cs → Views (made (λ ns. f ns) x) (g cs)
  of_all f g law (Ok ns) cs v = law ns ∙ ap g v
  of_all f g law (Err at) cs v = tt

  of_maybe : (f : Option Node → Node) (g : MaybeCore → plain.Core) → ((n : Option Node) → view (f n) ≡ g (maybe_core (option_map view n)))
      → (x : Formed (Option Node)) (c : MaybeCore) → ViewsMaybe x c → Views (made (λ n. f n) x) (g c)
  of_maybe f g law (Ok n) c v = law n ∙ ap g v
  of_maybe f g law (Err at) c v = tt

  -- a first part before others

  of_placed : {A : Type 0} (at : ℕ) (o : Option A) (f : A → Formed Node) (c : plain.Core) → ((a : A) → o ≡ Some a → Views (f a) c) → Views (after (placed at o) f) c
  of_placed at None f c h = tt
  of_placed at (Some a) f c h = h a refl

  of_leaf : {A : Type 0} (at : ℕ) (o : Option A) (f : A → Node) (c : plain.Core) → ((a : A) → o ≡ Some a → view (f a) ≡ c) → Views (made (λ a. f a) (placed at o)) c
  of_leaf at None f c h = tt
  of_leaf at (Some a) f c h = h a refl

  first : (f : Node → Formed Node) (g : plain.Core → plain.Core) (x : Formed Node) (c : plain.Core) → Views x c → ((a : Node) → Views (f a) (g (view a))) → Views (after x f) (g c)
  first f g (Ok a) c v h = subst (λ d. Views (f a) (g d)) v (h a)
  first f g (Err at) c v h = tt

  first_all : (f : List Node → Formed Node) (g : Cores → plain.Core) (x : Formed (List Node)) (cs : Cores) → ViewsAll x cs
      → ((ns : List Node) → Views (f ns) (g (listed (map view ns)))) → Views (after x f) (g cs)
  first_all f g (Ok ns) cs v h = subst (λ d. Views (f ns) (g d)) v (h ns)
  first_all f g (Err at) cs v h = tt

  first_maybe : (f : Option Node → Formed Node) (g : MaybeCore → plain.Core) (x : Formed (Option Node)) (c : MaybeCore) → ViewsMaybe x c
      → ((n : Option Node) → Views (f n) (g (maybe_core (option_map view n)))) → Views (after x f) (g c)
  first_maybe f g (Ok n) c v h = subst (λ d. Views (f n) (g d)) v (h n)
  first_maybe f g (Err at) c v h = tt

  in_row : (x : Formed Node) (c : plain.Core) → Views x c → (y : Formed (List Node)) (cs : Cores) → ViewsAll y cs
      → ViewsAll (after x (λ a. made (λ rest. a ∷ rest) y)) (more c cs)
  in_row (Ok a) c v (Ok ns) cs w = ap (λ c. more c (listed (map view ns))) v ∙ ap (more c) w
  in_row (Ok a) c v (Err at) cs w = tt
  in_row (Err at) c v y cs w = tt

  row : (xs : List Child) → ViewsAll (all (map formed (map (λ (c : Child). c.0) xs))) (renamed_all r (listed (map core_of (map (λ (c : Child). c.0) xs))))
  row [] = refl
  row (x ∷ xs) = in_row (formed x.0) (renamed r (core_of x.0)) x.1 _ _ (row xs)

  given_one : (x : Formed Node) (c : plain.Core) → Views x c → ViewsMaybe (made (λ a. Some a) x) (given c)
  given_one (Ok a) c v = ap given v
  given_one (Err at) c v = tt

  perhaps : (x : Option Child) → ViewsMaybe (maybe (option_map formed (option_map (λ (c : Child). c.0) x)))
      (renamed_maybe r (maybe_core (option_map core_of (option_map (λ (c : Child). c.0) x))))
  perhaps None = refl
  perhaps (Some x) = given_one (formed x.0) (renamed r (core_of x.0)) x.1

  -- ---- the forms

  apply : (op : Unary) (g : plain.Core → plain.Core) → ((a : plain.Core) → tree.applied tables op a ≡ g a) → (e : Child)
      → Views (made (λ e. node.Apply op e) (formed e.0)) (g (renamed r (core_of e.0)))
  apply op g law e = of_one (node.Apply op) g (λ a. core-Apply tables p op a ∙ law (view a)) (formed e.0) (renamed r (core_of e.0)) e.1

  join : (op : Binary) (g : plain.Core → plain.Core → plain.Core) → ((a b : plain.Core) → tree.joined tables op a b ≡ g a b) → (a b : Child)
      → Views (after (formed a.0) (λ a. made (λ b. node.Join op a b) (formed b.0))) (g (renamed r (core_of a.0)) (renamed r (core_of b.0)))
  join op g law a b =
      of_two (node.Join op) g (λ a b. core-Join tables p op a b ∙ law (view a) (view b)) (formed a.0) (renamed r (core_of a.0)) a.1 (formed b.0) (renamed r (core_of b.0)) b.1

  convert-is : (at t : ℕ) (e : Child) → Views (after (placed at (shape_of tables.types.types t)) (λ s. made (λ e. node.Apply (one.Convert s) e) (formed e.0)))
      (plain.convert (type_of tables t) (renamed r (core_of e.0)))
  convert-is at t e =
      of_placed at (shape_of tables.types.types t) _ _
      (λ s h. apply (one.Convert s) (plain.convert (type_of tables t)) (λ a. ap (λ w. plain.convert w a) (sym (shape-type tables ordered t s h))) e)

  temporary-is : (at t : ℕ) (e : Child) → Views (after (placed at (shape_of tables.types.types t)) (λ s. made (λ e. node.Temporary s e) (formed e.0)))
      (plain.temporary (type_of tables t) (renamed r (core_of e.0)))
  temporary-is at t e =
      of_placed at (shape_of tables.types.types t) _ _
      (λ s h. of_one (node.Temporary s) (plain.temporary (type_of tables t)) (λ a. core-Temporary tables p s a ∙ ap (λ w. plain.temporary w (view a)) (sym (shape-type tables ordered t s h)))
      (formed e.0) (renamed r (core_of e.0)) e.1)

  hold-is : (at i t : ℕ) (e : Child) → Views (after (placed at (shape_of tables.types.types t)) (λ s. made (λ e. node.Hold i s e) (formed e.0)))
      (plain.bind (plain.local_temporary i (type_of tables t)) (renamed r (core_of e.0)))
  hold-is at i t e =
      of_placed at (shape_of tables.types.types t) _ _
      (λ s h. of_one (node.Hold i s) (plain.bind (plain.local_temporary i (type_of tables t)))
      (λ a. core-Hold tables p i s a ∙ ap (λ w. plain.bind (plain.local_temporary i w) (view a)) (sym (shape-type tables ordered t s h))) (formed e.0) (renamed r (core_of e.0)) e.1)

  declare-is : (at i t : ℕ) (e : Child) → Views (after (placed at (object_type_of tables.types t)) (λ s. made (λ e. node.Declare i s e) (formed e.0)))
      (plain.declare i (type_of tables t) (renamed r (core_of e.0)))
  declare-is at i t e =
      of_placed at (object_type_of tables.types t) _ _
      (λ s h. of_one (node.Declare i s) (plain.declare i (type_of tables t)) (λ a. core-Declare tables p i s a ∙ ap (λ w. plain.declare i w (view a)) (sym (object-type tables ordered t s h)))
      (formed e.0) (renamed r (core_of e.0)) e.1)

  -- what stands behind a test that holds
  of_allowed : {A : Type 0} (at : ℕ) (b : Bool) (x : Formed A) (go : A → Formed Node) (c : plain.Core) → (b ≡ true → Views (after x go) c) → Views (after (allowed at b x) go) c
  of_allowed at true x go c h = h refl
  of_allowed at false x go c h = tt

  made-after : {A : Type 0} (f : A → Node) (x : Formed A) (c : plain.Core) → Views (after x (λ a. Ok (f a))) c → Views (made f x) c
  made-after f (Ok a) c h = h
  made-after f (Err at) c h = tt

  function-type-is : (t : ℕ) (n : Name) (s : Signature) → signature_of tables.types t ≡ Some s → agrees (function_defined defined n) (fun_of tables.types (slice_get tables.types.types t)) ≡ true
      → tree.signature_type tables (tree.function_head p n s) ≡ type_of tables t
  function-type-is t n s h k = ap (tree.signature_type tables) (agreed.functions n t s h k) ∙ sym (function-type tables ordered t s h)

  object-type-is : (t : ℕ) (n : Name) (o : ObjectType) → object_type_of tables.types t ≡ Some o → agrees_object (static_defined defined n) t ≡ true
      → tree.object_type tables (tree.static_type p n o) ≡ type_of tables t
  object-type-is t n o h k = ap (tree.object_type tables) (agreed.statics n t o h k) ∙ sym (object-type tables ordered t o h)

  static-is : (at t : ℕ) (n : Name) → Views (made (λ s. node.Static n s) (named_object tables.types defined at n t)) (plain.static_object n (type_of tables t))
  static-is at t n =
      made-after (node.Static n) (named_object tables.types defined at n t) _
      (of_allowed at (agrees_object (static_defined defined n) t) _ _ _
      (λ k. of_placed at (object_type_of tables.types t) _ _ (λ s h. core-Static tables p n s ∙ ap (plain.static_object n) (object-type-is t n s h k))))

  function-is : (at t : ℕ) (n : Name) → Views (made (λ s. node.Function n s) (named_function tables.types defined at n t)) (plain.function n (type_of tables t))
  function-is at t n =
      made-after (node.Function n) (named_function tables.types defined at n t) _
      (of_allowed at (agrees (function_defined defined n) (fun_of tables.types (slice_get tables.types.types t))) _ _ _
      (λ k. of_placed at (signature_of tables.types t) _ _ (λ s h. core-Function tables p n s ∙ ap (plain.function n) (function-type-is t n s h k))))

  call-is : (at t : ℕ) (n : Name) (es : List Child)
      → Views (after (named_function tables.types defined at n t) (λ s. made (λ es. node.Call n s es) (all (map formed (map (λ (c : Child). c.0) es)))))
      (plain.call n (type_of tables t) absent (renamed_all r (listed (map core_of (map (λ (c : Child). c.0) es)))))
  call-is at t n es =
      of_allowed at (agrees (function_defined defined n) (fun_of tables.types (slice_get tables.types.types t))) _ _ _
      (λ k. of_placed at (signature_of tables.types t) _ _
      (λ s h. of_all (node.Call n s) (plain.call n (type_of tables t) absent)
      (λ ns. core-Call tables p n s ns ∙ ap (λ w. plain.call n w absent (listed (map view ns))) (function-type-is t n s h k)) _ _ (row es)))

  pointer-is : (at t : ℕ) (e : Child) (es : List Child)
      → Views (after (placed at (signature_of tables.types t)) (λ s. after (formed e.0) (λ e. made (λ es. node.PointerCall e s es) (all (map formed (map (λ (c : Child). c.0) es))))))
      (plain.pointer_call absent (renamed r (core_of e.0)) (type_of tables t) (renamed_all r (listed (map core_of (map (λ (c : Child). c.0) es)))))
  pointer-is at t e es =
      let cs = renamed_all r (listed (map core_of (map (λ (c : Child). c.0) es))) in
      of_placed at (signature_of tables.types t) _ _
      (λ s h. first _ (λ c. plain.pointer_call absent c (type_of tables t) cs) (formed e.0) (renamed r (core_of e.0)) e.1
      (λ a. of_all (λ es. node.PointerCall a s es) (plain.pointer_call absent (view a) (type_of tables t))
      (λ ns. core-PointerCall tables p a s ns ∙ ap (λ w. plain.pointer_call absent (view a) w (listed (map view ns))) (sym (function-type tables ordered t s h))) _ _ (row es)))

  loop-is : (how : LoopForm) (c e : Option Child) (s : Child)
      → Views (after (maybe (option_map formed (option_map (λ (c : Child). c.0) c))) (λ c. after (maybe (option_map formed (option_map (λ (c : Child). c.0) e))) (λ e. made (λ s. node.Loop how c e s) (formed s.0))))
      (plain.loop how (renamed_maybe r (maybe_core (option_map core_of (option_map (λ (c : Child). c.0) c)))) (renamed_maybe r (maybe_core (option_map core_of (option_map (λ (c : Child). c.0) e))))
      (renamed r (core_of s.0)))
  loop-is how c e s =
      let m = renamed_maybe r (maybe_core (option_map core_of (option_map (λ (c : Child). c.0) e))) in
      let b = renamed r (core_of s.0) in
      first_maybe _ (λ c. plain.loop how c m b) _ _ (perhaps c)
      (λ n. first_maybe _ (λ e. plain.loop how (maybe_core (option_map view n)) e b) _ _ (perhaps e)
      (λ k. of_one (node.Loop how n k) (plain.loop how (maybe_core (option_map view n)) (maybe_core (option_map view k))) (λ a. core-Loop tables p how n k a) (formed s.0) b s.1))

  if-is : (c a : Child) (b : Option Child)
      → Views (after (formed c.0) (λ c. after (formed a.0) (λ a. made (λ b. node.If c a b) (maybe (option_map formed (option_map (λ (c : Child). c.0) b))))))
      (plain.branch (renamed r (core_of c.0)) (renamed r (core_of a.0)) (renamed_maybe r (maybe_core (option_map core_of (option_map (λ (c : Child). c.0) b)))))
  if-is c a b =
      let m = renamed_maybe r (maybe_core (option_map core_of (option_map (λ (c : Child). c.0) b))) in
      first _ (λ x. plain.branch x (renamed r (core_of a.0)) m) (formed c.0) (renamed r (core_of c.0)) c.1
      (λ x. first _ (λ y. plain.branch (view x) y m) (formed a.0) (renamed r (core_of a.0)) a.1
      (λ y. of_maybe (λ b. node.If x y b) (plain.branch (view x) (view y)) (λ n. core-If tables p x y n) _ _ (perhaps b)))

  switch-is : (e : Child) (es : List Child)
      → Views (after (formed e.0) (λ e. made (λ es. node.Switch e es) (all (map formed (map (λ (c : Child). c.0) es)))))
      (plain.switch (renamed r (core_of e.0)) (renamed_all r (listed (map core_of (map (λ (c : Child). c.0) es)))))
  switch-is e es =
      let cs = renamed_all r (listed (map core_of (map (λ (c : Child). c.0) es))) in
      first _ (λ x. plain.switch x cs) (formed e.0) (renamed r (core_of e.0)) e.1
      (λ x. of_all (λ es. node.Switch x es) (plain.switch (view x)) (λ ns. core-Switch tables p x ns) _ _ (row es))

  list-is : (es : List Child) (e : Child)
      → Views (after (all (map formed (map (λ (c : Child). c.0) es))) (λ es. made (λ rest. node.List es rest) (formed e.0)))
      (plain.list (renamed_all r (listed (map core_of (map (λ (c : Child). c.0) es)))) (renamed r (core_of e.0)))
  list-is es e =
      let rest = renamed r (core_of e.0) in
      first_all _ (λ cs. plain.list cs rest) _ _ (row es)
      (λ ns. of_one (λ rest. node.List ns rest) (plain.list (listed (map view ns))) (λ a. core-List tables p ns a) (formed e.0) rest e.1)

  return-is : (e : Option Child)
      → Views (made (λ e. node.Return e) (maybe (option_map formed (option_map (λ (c : Child). c.0) e))))
      (plain.give (renamed_maybe r (maybe_core (option_map core_of (option_map (λ (c : Child). c.0) e)))))
  return-is e = of_maybe (λ e. node.Return e) plain.give (core-Return tables p) _ _ (perhaps e)

  -- a layer of the tree, once its parts are viewed
  layer : (y : Core-F Child PartChild)
      → Views (step tables.types defined (map-Core _ _ _ _ formed part_of (map-Core _ _ _ _ (λ (c : Child). c.0) (λ (c : PartChild). c.0) y)))
      (renamed r (core_step tables signature (map-Core _ _ _ _ core_of started_of (map-Core _ _ _ _ (λ (c : Child). c.0) (λ (c : PartChild). c.0) y))))
  layer (Core-F.Number at z) = core-Number tables p z
  layer (Core-F.Text at j bytes) = core-Text tables p j bytes
  layer (Core-F.This at) = tt
  layer (Core-F.Local at i) = core-Local tables p i
  layer (Core-F.Static at n t) = static-is at t (r n)
  layer (Core-F.Function at n t) = function-is at t (r n)
  layer (Core-F.Member at e i) = tt
  layer (Core-F.Read at e) = apply one.Read plain.read (λ a. refl) e
  layer (Core-F.Address at e) = apply one.Address plain.address (λ a. refl) e
  layer (Core-F.Dereference at e) = apply one.Dereference plain.dereference (λ a. refl) e
  layer (Core-F.Decay at e) = apply one.Decay plain.decay (λ a. refl) e
  layer (Core-F.Index at a b) = join two.Index plain.index (λ a b. refl) a b
  layer (Core-F.Convert at t e) = convert-is at t e
  layer (Core-F.Up at path e) = tt
  layer (Core-F.Down at c path e) = tt
  layer (Core-F.FromVoid at t e) = tt
  layer (Core-F.ToMember at path e) = tt
  layer (Core-F.DataPointer at i) = tt
  layer (Core-F.FunctionPointer at t) = tt
  layer (Core-F.Through at a b) = tt
  layer (Core-F.Operate at op k a b) = join (two.Operate op k) (plain.operate op k) (λ a b. refl) a b
  layer (Core-F.Unary at op k e) = apply (one.Sign op k) (plain.unary op k) (λ a. refl) e
  layer (Core-F.Not at e) = apply one.Not plain.logical_not (λ a. refl) e
  layer (Core-F.And at a b) = of_two node.And plain.logical_and (core-And tables p) _ _ a.1 _ _ b.1
  layer (Core-F.Or at a b) = of_two node.Or plain.logical_or (core-Or tables p) _ _ a.1 _ _ b.1
  layer (Core-F.PointerOperate at op a b) = join (two.Point op) (plain.pointer_operate op) (λ a b. refl) a b
  layer (Core-F.Conditional at c a b) = of_three node.Conditional plain.conditional (core-Conditional tables p) _ _ c.1 _ _ a.1 _ _ b.1
  layer (Core-F.Comma at es) = of_all node.Comma plain.comma (core-Comma tables p) _ _ (row es)
  layer (Core-F.Store at a b) = join two.Store plain.store (λ a b. refl) a b
  layer (Core-F.Update at a c b) = join (two.Update (change_of c)) (λ a b. plain.update a (plain_change c) b) (λ a b. ap (λ w. plain.update a w b) (changed c)) a b
  layer (Core-F.Increment at is_postfix c e) = apply (one.Increment is_postfix (change_of c)) (plain.step is_postfix (plain_change c)) (λ a. ap (λ w. plain.step is_postfix w a) (changed c)) e
  layer (Core-F.Assign at t a b es) = tt
  layer (Core-F.Temporary at t e) = temporary-is at t e
  layer (Core-F.Call at f t None es) = call-is at t (r f) es
  layer (Core-F.Call at f t (Some o) es) = tt
  layer (Core-F.VirtualCall at m t e es) = tt
  layer (Core-F.PointerCall at None e t es) = pointer-is at t e es
  layer (Core-F.PointerCall at (Some o) e t es) = tt
  layer (Core-F.New at t e) = tt
  layer (Core-F.NewArray at t n e) = tt
  layer (Core-F.Delete at t e) = tt
  layer (Core-F.DeleteArray at t e) = tt
  layer (Core-F.Build at f t es) = tt
  layer (Core-F.Copy at t e es) = tt
  layer (Core-F.Each at e) = tt
  layer (Core-F.List at es rest) = list-is es rest
  layer (Core-F.Characters at bytes) = core-Characters tables p bytes
  layer (Core-F.Bind at holder.NoTemporary e) = of_one node.Bind (plain.bind plain.no_temporary) (core-Bind tables p) _ _ e.1
  layer (Core-F.Bind at (holder.LocalTemporary i t) e) = hold-is at i t e
  layer (Core-F.Bind at (holder.StaticTemporary n) e) = tt
  layer (Core-F.Zeros at) = core-Zeros tables p
  layer (Core-F.Blank at) = core-Blank tables p
  layer (Core-F.Full at e) = of_one node.Full plain.full (core-Full tables p) _ _ e.1
  layer (Core-F.Block at es) = of_all node.Block plain.block (core-Block tables p) _ _ (row es)
  layer (Core-F.Sequence at es) = of_all node.Sequence plain.sequence (core-Sequence tables p) _ _ (row es)
  layer (Core-F.Declare at i t e) = declare-is at i t e
  layer (Core-F.Once at n e) = tt
  layer (Core-F.If at c a None) = if-is c a None
  layer (Core-F.If at c a (Some b)) = if-is c a (Some b)
  layer (Core-F.Loop at how None None s) = loop-is how None None s
  layer (Core-F.Loop at how None (Some e) s) = loop-is how None (Some e) s
  layer (Core-F.Loop at how (Some c) None s) = loop-is how (Some c) None s
  layer (Core-F.Loop at how (Some c) (Some e) s) = loop-is how (Some c) (Some e) s
  layer (Core-F.Switch at e es) = switch-is e es
  layer (Core-F.Case at z) = core-Case tables p z
  layer (Core-F.Default at) = core-Default tables p
  layer (Core-F.Break at) = core-Break tables p
  layer (Core-F.Continue at) = core-Continue tables p
  layer (Core-F.Return at None) = return-is None
  layer (Core-F.Return at (Some e)) = return-is (Some e)
  layer (Core-F.Parts at ps s) = tt

  viewed-roll : (x : Core-F Core PartStart)
      → Views (step tables.types defined (map-Core _ _ _ _ formed part_of x)) (renamed r (core_step tables signature (map-Core _ _ _ _ core_of started_of x))) → IsViewed (roll-Core x)
  viewed-roll x v =
      subst (λ f. Views f (renamed r (core_of (roll-Core x)))) (sym (fold-roll-Core (Formed Node) (Unit {0}) (step tables.types defined) no_part x))
      (subst (λ c. Views (step tables.types defined (map-Core _ _ _ _ formed part_of x)) (renamed r c))
      (sym (fold-roll-Core plain.Core Started (core_step tables signature) (started_step tables signature) x)) v)

  viewed : (n : Core) → IsViewed n
  viewed = ind-Core IsViewed (λ _. Unit {0})
      (λ x y is. subst (λ z. IsViewed (roll-Core z)) is (viewed-roll (map-Core _ _ _ _ (λ (c : Child). c.0) (λ (c : PartChild). c.0) y) (layer y)))
      (λ _ _ _. tt)

  pub node_views : (n : Core) (m : Node) → node_of tables.types defined n ≡ Ok m → tree.core_of tables p m ≡ renamed (name_in 1 defined.own) (core_of n)
  node_views n m e = let P : Formed Node → Type 0 = λ f. Views f (renamed r (core_of n)) in subst P e (viewed n)

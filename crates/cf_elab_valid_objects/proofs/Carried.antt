-- Plans that are carried out: each value, list and text starts what it is for (8.4.1, 8.4.2).
use Rattle.std.proofs.Common.{◌≡◌, ℕ, suc, true, false, ◌&&◌, nat_le, List, [], ◌∷◌, length, map, refl, sym, ap, ◌∙◌, true≢false}
use Rattle.cf_core.specs.declared.node.Core.TheVariants as node
use Rattle.cf_core.specs.FromClasses.{signature_of}
use Rattle.cf_core.specs.Numbers.{are_known, all_of}
use Rattle.cf_core.specs.Places.{is_reference}
use Rattle.cf_core.specs.Typed as typed_form
use Rattle.cf_core.specs.Typed.{typing, typings, all_start}
use Rattle.cf_core.specs.Types.{SourceType, reference, const}
use Rattle.cf_core.specs.Typing.{Scope}
use Rattle.cf_core.specs.Core.{zeros}
use Rattle.cf_core.specs.View.{listed}
use Rattle.cf_core_typed.proofs.Same.{and-both}
use Rattle.cf_core_typed.proofs.Starts.{list-array}
use Rattle.cf_elab.specs.Answer.{Elab, onward, gives}
use Rattle.cf_elab.specs.Env.{Env}
use Rattle.cf_elab.specs.Expression.{literal}
use Rattle.cf_elab.specs.Initial.{Start, Keeper, fixed_start}
use Rattle.cf_elab.specs.Lists.{Tree, leaf, text, branch, Plan, Plans, by_value, by_list, by_text, wrong, no_plans, plans, Starts, by_tree, carried_out, all_carried_out}
use Rattle.cf_elab.specs.Operand.{value_of}
use Rattle.cf_elab.specs.UserFit.{initial}
use Rattle.cf_elab_valid.specs.Answers.{Fine}
use Rattle.cf_elab_valid.specs.Scene.{Scene, IsScene, typed, core, scope_of, Inside, Classless, Holds}
use Rattle.cf_elab_valid.proofs.Arithmetic.{IsOperand}
use Rattle.cf_elab_valid.proofs.Names.{operand-onward, value_of-fine}
use Rattle.cf_elab_valid.proofs.Nodes.{core-List, core-Zeros, core-Characters, known-List, known-Zeros, known-Characters}
use Rattle.cf_elab_valid.proofs.Sizes.{literal-fine}
use Rattle.cf_elab_valid.proofs.Ways.{inside-later, made-fine, onward-fine, within-before, When}
use Rattle.cf_elab_valid_objects.specs.Starts.{StartFits, IsKeeper, TreeFits}
use Rattle.cf_elab_valid_objects.proofs.Kept.{initial-as}
use Rattle.cf_elab_valid_objects.proofs.References.{reference-told}
use Rattle.cf_elab_valid_objects.proofs.Plans.{plan_count, element_of, ScalarIs, ArrayOf, PlanFits, PlansFit, plans-later}

module _ (s : Scene) (scene : IsScene s) (keeper : ℕ → Elab Keeper) (keeps : IsKeeper s keeper) where
  abbrev pub Started : SourceType → Start → Env → Type 0
  Started t x e = StartFits s t x

  -- ---- a value

  tree-fine : (at u : ℕ) (x : Tree) (t : SourceType) (e : Env) → Classless e → When s e (Holds s e) → When s e (Inside e u) → When s e (ScalarIs s u t) → When s e (TreeFits s e x) → Fine s (Started t) e (by_tree keeper at u x e)
  tree-fine at u (leaf p v) t e c h i is f = initial-as s scene keeper keeps e v c h f at u t i (λ w. (is w).no_void) (λ w. (is w).same) (λ w. (is w).whole)
  tree-fine at u (text p n bytes) t e c h i is f =
      onward-fine s (IsOperand s) (Started t) e (onward (literal n bytes e) value_of) (initial keeper at u)
      (operand-onward s (IsOperand s) e (literal n bytes e) value_of (literal-fine s scene n bytes e c h) (λ o e1 shown g c1 h1 fo. value_of-fine s scene o e1 shown c1 h1 fo))
      (λ v e1 g c1 h1 fv. initial-as s scene keeper keeps e1 v c1 h1 fv at u t (λ w. inside-later e e1 u g (i (within-before e e1 s g w)))
      (λ w. (is (within-before e e1 s g w)).no_void) (λ w. (is (within-before e e1 s g w)).same) (λ w. (is (within-before e e1 s g w)).whole))
  tree-fine at u (branch p ts) t e c h i is f = tt

  -- ---- lists

  -- the elements of a list
  pub record Listed (t : SourceType) (n : ℕ) (r : Starts) : Type 0 where
    pub numbers : all_of s.tables (map (are_known s.tables) r.nodes) ≡ true
    pub start : all_start (scope_of s) t (typings (scope_of s) (listed (map (core s) r.nodes))) ≡ true
    pub count : length (typings (scope_of s) (listed (map (core s) r.nodes))) ≡ n

  list-starts : (at : ℕ) (t : SourceType) (a : ArrayOf s t) (n : ℕ) (r : Starts) → nat_le n a.count ≡ true → Listed (element_of t) n r → StartFits s t (fixed_start (node.List at r.nodes (node.Zeros at)) r.are_constant)
  list-starts at t a n r small l =
      let es = typings (scope_of s) (listed (map (core s) r.nodes)) in record {
        numbers = known-List s.tables at r.nodes (node.Zeros at) ∙ and-both (all_of s.tables (map (are_known s.tables) r.nodes)) (are_known s.tables (node.Zeros at)) l.numbers (known-Zeros s.tables at);
        starts = ap (λ c. (typing (scope_of s) c).start t) (core-List s.tables (signature_of s.tables) at r.nodes (node.Zeros at))
            ∙ ap (λ z. typed_form.list_starts (scope_of s) es (typing (scope_of s) z) t) (core-Zeros s.tables (signature_of s.tables) at)
            ∙ a.form es (typing (scope_of s) zeros)
            ∙ list-array (scope_of s) (listed (map (core s) r.nodes)) (element_of t) a.count (ap (λ m. nat_le m a.count) l.count ∙ small) l.start (reference-told (scope_of s) (element_of t) ∙ a.no_reference);
        number = tt;
      }

  text-starts : (at : ℕ) (bytes : List ℕ) (t : SourceType) → typed_form.string_starts (scope_of s) (length bytes) t ≡ true → StartFits s t (fixed_start (node.Characters at bytes) true)
  text-starts at bytes t h = record {
    numbers = known-Characters s.tables at bytes;
    starts = ap (λ c. (typing (scope_of s) c).start t) (core-Characters s.tables (signature_of s.tables) at bytes) ∙ h;
    number = tt;
  }

  both-listed : (x : Start) (t : SourceType) (ps : Plans) (r : Starts) → StartFits s t x → Listed t (plan_count ps) r → Listed t (suc (plan_count ps)) (record { nodes = x.node ∷ r.nodes; are_constant = x.is_constant && r.are_constant })
  both-listed x t ps r first rest = record {
    numbers = and-both (are_known s.tables x.node) (all_of s.tables (map (are_known s.tables) r.nodes)) first.numbers rest.numbers;
    start = and-both ((typed s x.node).start t) (all_start (scope_of s) t (typings (scope_of s) (listed (map (core s) r.nodes)))) first.starts rest.start;
    count = ap suc rest.count;
  }

  mutual
    pub carried-fine : (p : Plan) (t : SourceType) (e : Env) → Classless e → When s e (Holds s e) → When s e (PlanFits s e p t) → Fine s (Started t) e (carried_out keeper p e)
    carried-fine (by_value at u x) t e c h f = tree-fine at u x t e c h (λ w. (f w).0) (λ w. (f w).1) (λ w. (f w).2)
    carried-fine (by_list at ps) t e c h f =
        onward-fine s (λ r _. Listed (element_of t) (plan_count ps) r) (Started t) e (all_carried_out keeper ps e) _ (all-carried ps (element_of t) e c h (λ w. (f w).0.no_reference) (λ w. (f w).2))
        (λ r e1 g c1 h1 l. made-fine s (Started t) e1 (fixed_start (node.List at r.nodes (node.Zeros at)) r.are_constant) c1 h1
        (λ w. let k = f (within-before e e1 s g w) in list-starts at t k.0 (plan_count ps) r k.1 (l w)))
    carried-fine (by_text at bytes) t e c h f = made-fine s (Started t) e (fixed_start (node.Characters at bytes) true) c h (λ w. text-starts at bytes t (f w))
    carried-fine (wrong rule at) t e c h f = tt

    pub all-carried : (ps : Plans) (t : SourceType) (e : Env) → Classless e → When s e (Holds s e) → When s e (is_reference t ≡ false) → When s e (PlansFit s e ps t)
        → Fine s (λ r _. Listed t (plan_count ps) r) e (all_carried_out keeper ps e)
    all-carried no_plans t e c h n f = made-fine s (λ r _. Listed t 0 r) e (record { nodes = []; are_constant = true }) c h (λ w. record { numbers = refl; start = refl; count = refl })
    all-carried (plans p ps) t e c h n f =
        onward-fine s (Started t) (λ r _. Listed t (suc (plan_count ps)) r) e (carried_out keeper p e) _ (carried-fine p t e c h (λ w. (f w).0))
        (λ x e1 g1 c1 h1 fx. onward-fine s (λ r _. Listed t (plan_count ps) r) (λ r _. Listed t (suc (plan_count ps)) r) e1 (all_carried_out keeper ps e1)
        (λ r. gives (record { nodes = x.node ∷ r.nodes; are_constant = x.is_constant && r.are_constant }))
        (all-carried ps t e1 c1 h1 (λ w. n (within-before e e1 s g1 w)) (λ w. plans-later s ps t e e1 g1 (f (within-before e e1 s g1 w)).1))
        (λ r e2 g2 c2 h2 fr. made-fine s (λ r _. Listed t (suc (plan_count ps)) r) e2 (record { nodes = x.node ∷ r.nodes; are_constant = x.is_constant && r.are_constant }) c2 h2
        (λ w. both-listed x t ps r (fx (within-before e1 e2 s g2 w)) (fr w))))

-- Commas: no operand is a class object, so each gives its node, and the last is the value.
use Rattle.std.proofs.Common.{◌≡◌, ℕ, zero, suc, ◌-◌, ◌<◌, true, false, List, [], ◌∷◌, length, map, Option, None, Some, is_some, slice_get, All, refl, sym, ap, subst, ◌∙◌, true≢false, arith}
use Rattle.std.proofs.lemmas.List.Elements.{All-head, All-tail}
use Rattle.cf_core.specs.declared.node.Core.{Core as Node}
use Rattle.cf_core.specs.declared.node.Core.TheVariants as node
use Rattle.cf_types.specs.Table.{Table}
use Rattle.cf_elab.specs.Answer.{Answer, Made, Refused}
use Rattle.cf_elab.specs.Choice as choice
use Rattle.cf_elab.specs.Env.{Env}
use Rattle.cf_elab.specs.MethodNode.{unused}
use Rattle.cf_elab.specs.Operand.{Value, computed}
use Rattle.cf_elab_env.specs.Holds.{Known, IsEnv}
use Rattle.cf_elab_env.proofs.Sorts.{at_place}
use Rattle.cf_elab_arith.specs.Choice.Shut as shut
use Rattle.cf_elab_arith.proofs.ChoiceLaws.ClassFree.{unused_node}

last_at : (v : Value) (vs : List Value) → slice_get (v ∷ vs) (length vs) ≡ Some (choice.last_of v vs)
last_at v [] = refl
last_at v (x ∷ xs) = last_at x xs

some_last : (v : Value) (vs : List Value) → slice_get (v ∷ vs) (length (v ∷ vs) - 1) ≡ Some (choice.last_of v vs)
some_last v vs = let e : length (v ∷ vs) - 1 ≡ length vs = omega arith in ap (slice_get (v ∷ vs)) e ∙ last_at v vs

pub no_operand : (at : ℕ) (vs : List Value) (env : Env) → None ≡ slice_get vs (length vs - 1) → shut.sequence at vs env ≡ Refused 18 at
unfolding shut.sequence
no_operand at [] env h = refl
no_operand at (v ∷ vs) env h = absurd (true≢false (sym (ap is_some (h ∙ some_last v vs))))

-- the values' own nodes
nodes_are : (env : Env) (v : Value) (vs : List Value) → IsEnv env → All (λ v. Known env.types v) (v ∷ vs) → choice.in_order env v vs ≡ map (λ (x : Value). x.node) (v ∷ vs)
nodes_are env v [] e known = refl
nodes_are env v (x ∷ xs) e known =
    let first : Known env.types v = All-head (λ v. Known env.types v) v (x ∷ xs) known in
    ap (λ n. n ∷ choice.in_order env x xs) (unused_node env v e first.typed)
    ∙ ap (λ ns. v.node ∷ ns) (nodes_are env x xs e (All-tail (λ v. Known env.types v) v (x ∷ xs) known))

abbrev comma : ℕ → List Node → Value → Value
comma at ns l = record (computed at (node.Comma at ns) l.type) { is_lvalue = l.is_lvalue }

module _ (at : ℕ) (vs : List Value) (env : Env) (l r : Value) (ns : List Node) (e : IsEnv env) (known : All (λ v. Known env.types v) vs)
    (last : Some l ≡ slice_get vs (length vs - 1)) (nodes : ns ≡ map (λ (x : Value). x.node) vs) (is : r ≡ comma at ns l) where
  pub in_sequence : shut.sequence at vs env ≡ Made r env
  unfolding shut.sequence
  in_sequence = by vs known last nodes
    where
      by : (vs : List Value) → All (λ v. Known env.types v) vs → Some l ≡ slice_get vs (length vs - 1) → ns ≡ map (λ (x : Value). x.node) vs → choice.sequence at vs env ≡ Made r env
      by [] known last nodes = absurd (true≢false (ap is_some last))
      by (v ∷ vs) known last nodes =
          ap (λ ns. Made (comma at ns (choice.last_of v vs)) env) (nodes_are env v vs e known ∙ sym nodes)
          ∙ ap (λ o. Made (comma at ns (get o)) env) (sym (last ∙ some_last v vs)) ∙ ap (λ r. Made r env) (sym is)
        where
          get : Option Value → Value
          get None = l
          get (Some v) = v

  pub sequence_known : Known env.types r
  sequence_known =
      let k : Known env.types l = at_place (λ v. Known env.types v) vs (length vs - 1) l known (sym last) in
      let made : Known env.types (comma at ns l) = record { typed = k.typed; number = tt } in
      subst (Known env.types) (sym is) made

pub ruleset sequence_laws = (no_operand, in_sequence, sequence_known)

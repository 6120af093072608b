-- What actions give, by their forms.
use Rattle.std.proofs.Common.{◌≡◌, ℕ, List, Option, Some, None, refl, sym, ap, ◌∙◌}
use Rattle.std.specs.Prelude.{ℤ}
use Rattle.std.specs.Option.{option_map}
use Rattle.cf_base.specs.Integers.{fits}
use Rattle.cf_core.specs.FromTypes.{Tables, type_of}
use Rattle.cf_core.specs.Types.{Name, SourceType}
use Rattle.cf_base.specs.declared.arith.Arith.{Arith}
use Rattle.cf_base.specs.declared.kind.Kind.{Kind}
use Rattle.cf_core.specs.declared.node.Change.{Change as CodeChange}
use Rattle.cf_core.specs.declared.operators.PointerOperator.{PointerOperator}
use Rattle.cf_core.specs.declared.operators.UnaryOperator.{UnaryOperator}
use Rattle.cf_plain.specs.declared.action.Action.{Action as CodeAction}
use Rattle.cf_plain.specs.declared.action.Action.TheVariants as code
use Rattle.cf_plain.specs.Plain as plain
use Rattle.cf_plain.specs.Plain.{Register}
use Rattle.cf_plain_kept.specs.Kept.{Kept, an_integer, Keeping, named, pointed_call, kept_by}
use Rattle.cf_lowerable_types.specs.declared.kinds.Kinds.{Kinds}
use Rattle.cf_lowerable_types.specs.Kinds.{has_kind}
use Rattle.cf_lowerable_ready.specs.declared.content.Content.TheVariants as content
use Rattle.cf_lowerable_ready.specs.declared.scene.Scene.{Scene}
use Rattle.cf_lowerable_ready.specs.Contents.{known}
use Rattle.cf_lowerable_ready.specs.Given.{done_kept}
use Rattle.cf_lowerable_ready.specs.Scenes.{action_in, locals_in, result_in}

pub constant_known : (tables : Tables) (ks : Kinds) (z : ℤ) → has_kind ks ≡ (λ k. fits k z) → known tables (content.Number ks) ≡ Some (an_integer (λ k. fits k z))
constant_known tables ks z e = ap (λ f. Some (an_integer f)) e

module _ (tables : Tables) (o : Option ℕ) (p : Option SourceType) (is : option_map (type_of tables) o ≡ p) where
  pub local_there : (t : ℕ) (k : Option Kept) → o ≡ Some t → k ≡ named (Some (type_of tables t)) → k ≡ named p
  local_there t k some e = e ∙ ap named (sym (ap (option_map (type_of tables)) some) ∙ is)

  pub local_missing : o ≡ None → None ≡ named p
  local_missing none = ap named (sym (ap (option_map (type_of tables)) none) ∙ is)

pub pointed_at : (g : Keeping) (r : Register) (t : SourceType) (k y : Option Kept) → k ≡ g r → y ≡ pointed_call t k → y ≡ pointed_call t (g r)
pointed_at g r t k y at e = e ∙ ap (pointed_call t) at

module _ (x : Scene) (g : Keeping) where
  module _ (a : CodeAction) (k : Option Kept) where
    pub call_is : (f : Name) (t : ℕ) (o p : Option ℕ) (is : List ℕ) → a ≡ code.Call f t o is p
        → ((f : Name) (is : List ℕ) → k ≡ done_kept g (plain.call f (type_of x.tables.now t) o is p)) → k ≡ done_kept g (action_in x a)
    call_is f t o p is at e = e f is ∙ sym (ap (λ b. done_kept g (action_in x b)) at)

    pub through_is : (r t : ℕ) (o p : Option ℕ) (is : List ℕ) → a ≡ code.PointerCall o r t is p
        → ((is : List ℕ) → k ≡ done_kept g (plain.pointer_call o r (type_of x.tables.now t) is p)) → k ≡ done_kept g (action_in x a)
    through_is r t o p is at e = e is ∙ sym (ap (λ b. done_kept g (action_in x b)) at)

  -- what is done to objects, and calls
  pub done_is : (a : CodeAction) → ((z : ℤ) → a ≡ code.Number z → ⊥)
      → ((j : ℕ) (b : List ℕ) → a ≡ code.Text j b → ⊥)
      → ((i : ℕ) → a ≡ code.Local i → ⊥)
      → ((n : Name) (t : ℕ) → a ≡ code.Static n t → ⊥)
      → ((n : Name) (t : ℕ) → a ≡ code.Function n t → ⊥)
      → ((r : ℕ) → a ≡ code.Read r → ⊥)
      → ((r : ℕ) → a ≡ code.Dereference r → ⊥)
      → ((r : ℕ) → a ≡ code.Decay r → ⊥)
      → ((r : ℕ) (q : ℕ) → a ≡ code.Index r q → ⊥)
      → ((t : ℕ) (r : ℕ) → a ≡ code.Convert t r → ⊥)
      → ((t : ℕ) (r : ℕ) → a ≡ code.FromVoid t r → ⊥)
      → ((o : Arith) (k : Kind) (r : ℕ) (q : ℕ) → a ≡ code.Operate o k r q → ⊥)
      → ((o : UnaryOperator) (k : Kind) (r : ℕ) → a ≡ code.Unary o k r → ⊥)
      → ((r : ℕ) → a ≡ code.Truth r → ⊥)
      → ((r : ℕ) → a ≡ code.Not r → ⊥)
      → ((o : PointerOperator) (r : ℕ) (q : ℕ) → a ≡ code.PointerOperate o r q → ⊥)
      → ((c : CodeChange) (r : ℕ) (q : ℕ) → a ≡ code.Changed c r q → ⊥)
      → ((i : ℕ) (t : ℕ) → a ≡ code.Declare i t → ⊥)
      → done_kept g (action_in x a) ≡ kept_by (locals_in x) (result_in x) g (action_in x a)
  done_is (code.Number z) n0 n1 n2 n3 n4 n5 n6 n7 n8 n9 n10 n11 n12 n13 n14 n15 n16 n17 = absurd (n0 z refl)
  done_is (code.Text j b) n0 n1 n2 n3 n4 n5 n6 n7 n8 n9 n10 n11 n12 n13 n14 n15 n16 n17 = absurd (n1 j b refl)
  done_is (code.Local i) n0 n1 n2 n3 n4 n5 n6 n7 n8 n9 n10 n11 n12 n13 n14 n15 n16 n17 = absurd (n2 i refl)
  done_is (code.Static n t) n0 n1 n2 n3 n4 n5 n6 n7 n8 n9 n10 n11 n12 n13 n14 n15 n16 n17 = absurd (n3 n t refl)
  done_is (code.Function n t) n0 n1 n2 n3 n4 n5 n6 n7 n8 n9 n10 n11 n12 n13 n14 n15 n16 n17 = absurd (n4 n t refl)
  done_is (code.Read r) n0 n1 n2 n3 n4 n5 n6 n7 n8 n9 n10 n11 n12 n13 n14 n15 n16 n17 = absurd (n5 r refl)
  done_is (code.Dereference r) n0 n1 n2 n3 n4 n5 n6 n7 n8 n9 n10 n11 n12 n13 n14 n15 n16 n17 = absurd (n6 r refl)
  done_is (code.Decay r) n0 n1 n2 n3 n4 n5 n6 n7 n8 n9 n10 n11 n12 n13 n14 n15 n16 n17 = absurd (n7 r refl)
  done_is (code.Index r q) n0 n1 n2 n3 n4 n5 n6 n7 n8 n9 n10 n11 n12 n13 n14 n15 n16 n17 = absurd (n8 r q refl)
  done_is (code.Convert t r) n0 n1 n2 n3 n4 n5 n6 n7 n8 n9 n10 n11 n12 n13 n14 n15 n16 n17 = absurd (n9 t r refl)
  done_is (code.FromVoid t r) n0 n1 n2 n3 n4 n5 n6 n7 n8 n9 n10 n11 n12 n13 n14 n15 n16 n17 = absurd (n10 t r refl)
  done_is (code.Operate o k r q) n0 n1 n2 n3 n4 n5 n6 n7 n8 n9 n10 n11 n12 n13 n14 n15 n16 n17 = absurd (n11 o k r q refl)
  done_is (code.Unary o k r) n0 n1 n2 n3 n4 n5 n6 n7 n8 n9 n10 n11 n12 n13 n14 n15 n16 n17 = absurd (n12 o k r refl)
  done_is (code.Truth r) n0 n1 n2 n3 n4 n5 n6 n7 n8 n9 n10 n11 n12 n13 n14 n15 n16 n17 = absurd (n13 r refl)
  done_is (code.Not r) n0 n1 n2 n3 n4 n5 n6 n7 n8 n9 n10 n11 n12 n13 n14 n15 n16 n17 = absurd (n14 r refl)
  done_is (code.PointerOperate o r q) n0 n1 n2 n3 n4 n5 n6 n7 n8 n9 n10 n11 n12 n13 n14 n15 n16 n17 = absurd (n15 o r q refl)
  done_is (code.Changed c r q) n0 n1 n2 n3 n4 n5 n6 n7 n8 n9 n10 n11 n12 n13 n14 n15 n16 n17 = absurd (n16 c r q refl)
  done_is (code.Declare i t) n0 n1 n2 n3 n4 n5 n6 n7 n8 n9 n10 n11 n12 n13 n14 n15 n16 n17 = absurd (n17 i t refl)
  done_is (code.Call f t (Some o) is p) n0 n1 n2 n3 n4 n5 n6 n7 n8 n9 n10 n11 n12 n13 n14 n15 n16 n17 = refl
  done_is (code.Call f t None is (Some p)) n0 n1 n2 n3 n4 n5 n6 n7 n8 n9 n10 n11 n12 n13 n14 n15 n16 n17 = refl
  done_is (code.Call f t None is None) n0 n1 n2 n3 n4 n5 n6 n7 n8 n9 n10 n11 n12 n13 n14 n15 n16 n17 = refl
  done_is (code.PointerCall (Some o) r t is p) n0 n1 n2 n3 n4 n5 n6 n7 n8 n9 n10 n11 n12 n13 n14 n15 n16 n17 = refl
  done_is (code.PointerCall None r t is (Some p)) n0 n1 n2 n3 n4 n5 n6 n7 n8 n9 n10 n11 n12 n13 n14 n15 n16 n17 = refl
  done_is (code.PointerCall None r t is None) n0 n1 n2 n3 n4 n5 n6 n7 n8 n9 n10 n11 n12 n13 n14 n15 n16 n17 = refl
  done_is code.This n0 n1 n2 n3 n4 n5 n6 n7 n8 n9 n10 n11 n12 n13 n14 n15 n16 n17 = refl
  done_is code.Result n0 n1 n2 n3 n4 n5 n6 n7 n8 n9 n10 n11 n12 n13 n14 n15 n16 n17 = refl
  done_is a n0 n1 n2 n3 n4 n5 n6 n7 n8 n9 n10 n11 n12 n13 n14 n15 n16 n17 = refl

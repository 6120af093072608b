-- Values that are no places: each step of a conversion leaves them so, and apart (4, 5.19).
use Rattle.std.proofs.Common.{◌≡◌, ℕ, Bool, true, false, if◌then◌else◌, List, [], ◌∷◌, ℤ, pos, Option, Some, None, is_some, refl, sym, ap, ◌∙◌, true≢false}
use Rattle.std.specs.Option.{option_map, option_map_or}
use Rattle.cf_base.specs.Integers.{convert}
use Rattle.cf_base.specs.declared.kind.Kind.{Kind}
use Rattle.cf_convert.specs.Constness.{bare}
use Rattle.cf_convert.specs.declared.conv.ConvStep.{ConvStep}
use Rattle.cf_convert.specs.declared.conv.ConvStep.TheVariants.{Read, Decay, AddConst, Promote, Integer, Null, ToVoid, ToBase, ToMember}
use Rattle.cf_core.specs.declared.node.Core.{Core as Node}
use Rattle.cf_core.specs.declared.node.Core.TheVariants as node
use Rattle.cf_elab.specs.Answer.{gives}
use Rattle.cf_elab.specs.Env.{Env}
use Rattle.cf_elab.specs.Fit.{to_integer, null_of, wrapped, all_steps}
use Rattle.cf_elab.specs.Made.{pointer_to}
use Rattle.cf_elab.specs.Operand.{Value, Sort, array_sort, function_sort, class_sort, sort_of, read_node, read_value, decayed, plain_sort, plain}
use Rattle.cf_types.specs.Table.{Table}
use Rattle.cf_elab_valid.specs.Scene.{Scene}
use Rattle.cf_elab_apart.specs.Apart.{Alike, Apart}
use Rattle.cf_elab_apart.proofs.Alike.{alike-Number, alike-Decay, alike-Convert, alike-Up, alike-ToMember}
use Rattle.cf_elab_apart.proofs.Answers.{Known, known-onward, known-then}

-- ---- what makes a value apart

module _ (s : Scene) where
  -- a value with neither
  pub bare-apart : (v : Value) → v.number ≡ None → v.is_fixed ≡ false → Apart s v
  bare-apart v n f = record { fixed = λ q. absurd (true≢false (sym q ∙ f)); number = λ l z. absurd (true≢false (sym z ∙ ap is_some n)) }

  -- a place that is not fixed
  pub place-apart : (v : Value) → v.is_lvalue ≡ true → v.is_fixed ≡ false → Apart s v
  place-apart v l f = record { fixed = λ q. absurd (true≢false (sym q ∙ f)); number = λ m z. absurd (true≢false (sym l ∙ m)) }

  pub alike-apart : (v : Value) → Alike s v.node → Apart s v
  alike-apart v h = record { fixed = λ q. h; number = λ l z. h }

  -- a value with a number at most
  pub number-apart : (v : Value) → v.is_fixed ≡ false → (is_some v.number ≡ true → Alike s v.node) → Apart s v
  number-apart v f h = record { fixed = λ q. absurd (true≢false (sym q ∙ f)); number = λ l z. h z }

  -- a value that is fixed at most
  pub fixed-apart : (v : Value) → v.number ≡ None → (v.is_fixed ≡ true → Alike s v.node) → Apart s v
  fixed-apart v n h = record { fixed = h; number = λ l z. absurd (true≢false (sym z ∙ ap is_some n)) }

pub some-mapped : (f : ℤ → ℤ) (o : Option ℤ) → is_some (option_map f o) ≡ true → is_some o ≡ true
some-mapped f None h = absurd (true≢false (sym h))
some-mapped f (Some z) h = refl

-- ---- values that are no places

-- `W` is what the node waits for
module _ (s : Scene) (W : Type 0) where
  abbrev pub Settled : Value → Type 0
  Settled v = (v.is_lvalue ≡ false) × (W → Apart s v)

  pub retyped-settled : (t : ℕ) (v : Value) → Settled v → Settled (record v { type = t })
  retyped-settled t v k = (k.0, λ w. record { fixed = λ q. (k.1 w).fixed q; number = λ l z. (k.1 w).number l z })

  -- what is read is a number that is known, or is none
  read_alike : (v : Value) (o : Option ℤ) → is_some o ≡ true → Alike s (option_map_or (λ z. node.Number v.at z) o (node.Read v.at v.node))
  read_alike v None h = absurd (true≢false (sym h))
  read_alike v (Some z) h = alike-Number s v.at z

  pub read-settled : (types : Table) (v : Value) → (W → Apart s v) → Settled (read_value types v)
  read-settled types v k = by v.is_lvalue refl
    where
      by : (b : Bool) → v.is_lvalue ≡ b
          → Settled (if b then record v { node = read_node v; type = bare types v.type; is_lvalue = false; is_fixed = false } else record v { type = bare types v.type })
      by true l = (refl, λ w. record { fixed = λ q. absurd (true≢false (sym q)); number = λ m z. read_alike v v.number z })
      by false l = (l, λ w. record { fixed = λ q. (k w).fixed q; number = λ m z. (k w).number m z })

  pub decayed-settled : (v : Value) (t : ℕ) (e : Env) → (W → (v.is_fixed ≡ true → Alike s v.node) × (is_some v.number ≡ true → Alike s v.node)) → Known Settled (decayed v t e)
  decayed-settled v t e k =
      known-onward Settled (pointer_to t e) (λ p. gives (record v { node = node.Decay v.at v.node; type = p; is_lvalue = false }))
      (λ p f. (refl, λ w. record { fixed = λ q. alike-Decay s v.at v.node ((k w).0 q); number = λ l z. alike-Decay s v.at v.node ((k w).1 z) }))

  pub plain-settled : (v : Value) (e : Env) → Settled v → Known Settled (plain v e)
  plain-settled v e k = by (sort_of e.types v.type)
    where
      by : (o : Sort) → Known Settled (plain_sort e.types v o e)
      by (array_sort t n) = decayed-settled v t e (λ w. ((k.1 w).fixed, λ z. (k.1 w).number k.0 z))
      by (function_sort f) = decayed-settled v (bare e.types v.type) e (λ w. ((k.1 w).fixed, λ z. (k.1 w).number k.0 z))
      by (class_sort c) = k
      by other = read-settled e.types v k.1

  -- ---- the other steps

  integer-settled : (t : ℕ) (k : Kind) (v : Value) → Settled v → Settled (to_integer t k v)
  integer-settled t k v h =
      (h.0, λ w. record { fixed = λ q. alike-Convert s v.at t v.node ((h.1 w).fixed q); number = λ l z. alike-Convert s v.at t v.node ((h.1 w).number l (some-mapped (convert k) v.number z)) })

  pub null-settled : (t : ℕ) (v : Value) → Settled (null_of t v)
  null-settled t v = (refl, λ w. alike-apart s (null_of t v) (alike-Convert s v.at t (node.Number v.at (pos 0)) (alike-Number s v.at (pos 0))))

  wrapped-settled : (make : ℕ → Node → Node) (v : Value) → ((n : Node) → Alike s n → Alike s (make v.at n)) → Settled v → Settled (wrapped make v)
  wrapped-settled make v alike h = (h.0, λ w. fixed-apart s (wrapped make v) refl (λ q. alike v.node ((h.1 w).fixed q)))

  pub steps-settled : (t : ℕ) (ss : List ConvStep) (v : Value) (e : Env) → Settled v → Known Settled (all_steps t ss v e)
  steps-settled t [] v e k = retyped-settled t v k
  steps-settled t (Read ∷ ss) v e k = steps-settled t ss (read_value e.types v) e (read-settled e.types v k.1)
  steps-settled t (Decay ∷ ss) v e k = known-then Settled Settled (plain v e) (all_steps t ss) (plain-settled v e k) (λ y f q. steps-settled t ss y f q)
  steps-settled t (AddConst ∷ ss) v e k = steps-settled t ss v e k
  steps-settled t (Promote ∷ ss) v e k = steps-settled t ss _ e (integer-settled t _ v k)
  steps-settled t (Integer j ∷ ss) v e k = steps-settled t ss (to_integer t j v) e (integer-settled t j v k)
  steps-settled t (Null ∷ ss) v e k = steps-settled t ss (null_of t v) e (null-settled t v)
  steps-settled t (ToVoid ∷ ss) v e k = steps-settled t ss _ e (wrapped-settled (λ at n. node.Convert at t n) v (λ n h. alike-Convert s v.at t n h) k)
  steps-settled t (ToBase p ∷ ss) v e k = steps-settled t ss _ e (wrapped-settled (λ at n. node.Up at p n) v (λ n h. alike-Up s v.at p n h) k)
  steps-settled t (ToMember p ∷ ss) v e k = steps-settled t ss _ e (wrapped-settled (λ at n. node.ToMember at p n) v (λ n h. alike-ToMember s v.at p n h) k)

-- ---- a place that stays fixed, whatever the steps

module _ (s : Scene) (W : Type 0) where
  abbrev pub StaysFixed : Value → Type 0
  StaysFixed v = W → v.is_fixed ≡ true → Alike s v.node

  read-fixed : (types : Table) (v : Value) → StaysFixed v → StaysFixed (read_value types v)
  read-fixed types v k = by v.is_lvalue
    where
      by : (b : Bool) → StaysFixed (if b then record v { node = read_node v; type = bare types v.type; is_lvalue = false; is_fixed = false } else record v { type = bare types v.type })
      by true w q = absurd (true≢false (sym q))
      by false w q = k w q

  decayed-fixed : (v : Value) (t : ℕ) (e : Env) → StaysFixed v → Known StaysFixed (decayed v t e)
  decayed-fixed v t e k =
      known-onward StaysFixed (pointer_to t e) (λ p. gives (record v { node = node.Decay v.at v.node; type = p; is_lvalue = false })) (λ p f w q. alike-Decay s v.at v.node (k w q))

  plain-fixed : (v : Value) (e : Env) → StaysFixed v → Known StaysFixed (plain v e)
  plain-fixed v e k = by (sort_of e.types v.type)
    where
      by : (o : Sort) → Known StaysFixed (plain_sort e.types v o e)
      by (array_sort t n) = decayed-fixed v t e k
      by (function_sort f) = decayed-fixed v (bare e.types v.type) e k
      by (class_sort c) = k
      by other = read-fixed e.types v k

  pub steps-fixed : (t : ℕ) (ss : List ConvStep) (v : Value) (e : Env) → StaysFixed v → Known StaysFixed (all_steps t ss v e)
  steps-fixed t [] v e k = k
  steps-fixed t (Read ∷ ss) v e k = steps-fixed t ss (read_value e.types v) e (read-fixed e.types v k)
  steps-fixed t (Decay ∷ ss) v e k = known-then StaysFixed StaysFixed (plain v e) (all_steps t ss) (plain-fixed v e k) (λ y f q. steps-fixed t ss y f q)
  steps-fixed t (AddConst ∷ ss) v e k = steps-fixed t ss v e k
  steps-fixed t (Promote ∷ ss) v e k = steps-fixed t ss _ e (λ w q. alike-Convert s v.at t v.node (k w q))
  steps-fixed t (Integer j ∷ ss) v e k = steps-fixed t ss (to_integer t j v) e (λ w q. alike-Convert s v.at t v.node (k w q))
  steps-fixed t (Null ∷ ss) v e k = steps-fixed t ss (null_of t v) e (λ w q. alike-Convert s v.at t (node.Number v.at (pos 0)) (alike-Number s v.at (pos 0)))
  steps-fixed t (ToVoid ∷ ss) v e k = steps-fixed t ss (wrapped (λ at n. node.Convert at t n) v) e (λ w q. alike-Convert s v.at t v.node (k w q))
  steps-fixed t (ToBase p ∷ ss) v e k = steps-fixed t ss (wrapped (λ at n. node.Up at p n) v) e (λ w q. alike-Up s v.at p v.node (k w q))
  steps-fixed t (ToMember p ∷ ss) v e k = steps-fixed t ss (wrapped (λ at n. node.ToMember at p n) v) e (λ w q. alike-ToMember s v.at p v.node (k w q))

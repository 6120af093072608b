-- A temporary that a reference binds, by how long it is kept.
use Rattle.std.proofs.Common.{◌≡◌, ℕ, Bool, true, false, length, nat_le, Option, refl, sym, ap, subst, ◌∙◌}
use Rattle.cf_base.specs.declared.limit.Bound.TheVariants as bound
use Rattle.cf_types.specs.Table.{Table}
use Rattle.cf_core.specs.declared.node.Holder.TheVariants as holder
use Rattle.cf_elab.specs.Answer.{Answer, Made, onward, gives}
use Rattle.cf_elab.specs.Complete.{within, name_within, most_name}
use Rattle.cf_elab.specs.Env.{Env, Name}
use Rattle.cf_elab.specs.Initial.{Start, full_expression, kept, keeps}
use Rattle.cf_elab.specs.Objects.{local_keeper, static_keeper, define_static}
use Rattle.cf_elab.specs.Operand.{Value}
use Rattle.cf_classes.specs.OwnedName.{temporary_name}
use Rattle.cf_elab_env.specs.Holds.{Grows}
use Rattle.cf_elab_env.specs.Shut as made
use Rattle.cf_elab_env.proofs.Growth.{grows-refl}
use Rattle.cf_elab_objects.specs.Links.Shut as links
use Rattle.cf_elab_initial.specs.Initials.Keeping.{keeping_seen, kept_start, temporary_of}
use Rattle.cf_elab_initial.specs.Initials.Shut as shut
use Rattle.cf_elab_initial.specs.declared.initials.keeping.Keeping.{Keeping}
use Rattle.cf_elab_initial.specs.declared.initials.keeping.Keeping.TheVariants as keeping

-- ---- by the way of keeping

module _ (k : Keeping) (at u : ℕ) (x : Value) (env : Env) where
  pub held_expression : (s : Start) → k ≡ keeping.FullExpression → s ≡ keeps at u full_expression x → shut.held (keeping_seen k) at u x env ≡ Made s env
  unfolding shut.held
  held_expression s is e = ap (λ k. shut.held (keeping_seen k) at u x env) is ∙ ap (λ s. Made s env) (sym e)

  pub held_local : (r : Answer Start) → k ≡ keeping.Local → shut.held local_keeper at u x env ≡ r → shut.held (keeping_seen k) at u x env ≡ r
  held_local r is h = ap (λ k. shut.held (keeping_seen k) at u x env) is ∙ h

  pub held_static : (reference : Name) (owner : Option Name) (place : ℕ) → k ≡ keeping.Static reference owner place
      → shut.held (keeping_seen k) at u x env ≡ shut.held (static_keeper reference owner place) at u x env
  held_static reference owner place is = ap (λ k. shut.held (keeping_seen k) at u x env) is

-- ---- temporaries with homes of their own

module _ (at u : ℕ) (x : Value) (env next : Env) where
  pub local_held : (i : ℕ) (s : Start) → made.new_local u env ≡ Made i next → s ≡ kept_start at (holder.LocalTemporary i u) x → shut.held local_keeper at u x env ≡ Made s next
  unfolding shut.held made.new_local
  local_held i s new e = ap (λ a. onward a (λ i env. Made (kept_start at (holder.LocalTemporary i u) x) env)) new ∙ ap (λ s. Made s next) (sym e)

-- a static one, once its link name is within the limit
module _ (at u : ℕ) (x : Value) (env : Env) (reference name : Name) (owner : Option Name) (place : ℕ) (is : name ≡ temporary_name reference) where
  abbrev kept_behind : Name → Env → Answer Start
  kept_behind n e = onward (made.define_static (temporary_of n owner place u) e) (λ _ e. Made (kept_start at (holder.StaticTemporary n) x) e)

  named : (n : Name) (b : Bool) → onward (onward (within b bound.Names most_name env) (λ _ e. onward (define_static (temporary_of n owner place u) e) (λ _. gives (kept (holder.StaticTemporary n))))) (λ k. gives (keeps at u k x))
      ≡ onward (within b bound.Names most_name env) (λ _ e. kept_behind n e)
  unfolding made.define_static
  named n true = refl
  named n false = refl

  pub static_is : shut.held (static_keeper reference owner place) at u x env ≡ onward (links.name_within name env) (λ _ e. kept_behind name e)
  unfolding shut.held links.name_within made.define_static
  static_is = named (temporary_name reference) (nat_le (length (temporary_name reference)) most_name) ∙ ap (λ n. onward (name_within n env) (λ _ e. kept_behind n e)) (sym is)

pub same_types : (old new : Table) → new ≡ old → Grows old new
same_types old new e = subst (Grows old) (sym e) (grows-refl old)

pub ruleset held_laws = (held_expression, held_local, held_static, same_types, grows-refl)

pub ruleset local_laws = (local_held)

pub ruleset static_laws = (static_is)

-- Static objects outside of functions (3.3, 8.4).
use Rattle.std.proofs.Common.{◌≡◌, ℕ, Bool, true, false, ◌||◌, nat_le, length, [], ◌∷◌, ◌++◌, map, Option, Some, None, refl, sym, ap, subst, ◌∙◌}
use Rattle.std.specs.Option.{option_map_or}
use Rattle.cf_base.specs.declared.limit.Bound.TheVariants as bound_of
use Rattle.cf_core.specs.declared.node.Core.TheVariants as node
use Rattle.cf_core.specs.declared.node.Holder.TheVariants as holder
use Rattle.cf_core.specs.declared.unit.CoreStatic.{CoreStatic}
use Rattle.cf_core.specs.FromClasses.{signature_of}
use Rattle.cf_core.specs.Numbers.{are_known}
use Rattle.cf_core.specs.Typed.{typing}
use Rattle.cf_core.specs.Types.{is_void}
use Rattle.cf_core.specs.Typing.{Scope}
use Rattle.cf_classes.specs.OwnedName.{temporary_name}
use Rattle.cf_elab.specs.Answer.{Answer, Made, Refused, Passed, Elab, onward, need, gives}
use Rattle.cf_elab.specs.Complete.{within, most_name}
use Rattle.cf_elab.specs.Env.{Env, Name, Object}
use Rattle.cf_elab.specs.Initial.{Start, Keeper, kept}
use Rattle.cf_elab.specs.Objects as row
use Rattle.cf_elab.specs.Objects.{Says, Written, written_place, static_keeper, static_of, start_or_none, started, variable_link, define_static}
use Rattle.cf_elab_valid.specs.Answers.{Fine}
use Rattle.cf_elab_valid.specs.Scene.{Scene, IsScene, tree, core, typed, scope_of, file_scope, OwnerThere, StaticFits, Steps, Within, Inside, Classless, Holds}
use Rattle.cf_elab_valid.proofs.FitRows.{needed, still-fine}
use Rattle.cf_elab_valid.proofs.Values.{has_type-is}
use Rattle.cf_elab_valid.proofs.Ways.{fine-as, inside-later, onward-fine, steps-through, within-before, When}
use Rattle.cf_elab_valid_objects.specs.Declared.{AreInitial}
use Rattle.cf_elab_valid_objects.specs.Quiet.{LeavesNames, LeavesIn}
use Rattle.cf_elab_valid_objects.specs.Starts.{NoVoidElements, StartFits, MaybeFits}
use Rattle.cf_elab_valid_objects.proofs.Keepers.{defined, defined-steps, defined-fine, static_keeper-is}
use Rattle.cf_elab_valid_objects.proofs.Locals.{leaving-fine}
use Rattle.cf_elab_valid_files.specs.Statics.Linked.{StandsFor}
use Rattle.cf_elab_valid_files.proofs.StaticsLaws.Linked.{linked-fine}
use Rattle.cf_elab_valid_files.proofs.StaticsLaws.Names.{Any}
use Rattle.cf_elab_valid_files.proofs.StaticsLaws.Starting.{Known, Given, started-fine, stands-left}

-- the static keeper leaves the names
pub static-leaves : (reference : Name) (owner : Option Name) (at u : ℕ) (e : Env) → Classless e → LeavesIn e (static_keeper reference owner at u e)
static-leaves reference owner at u e c = by (nat_le (length (temporary_name reference)) most_name)
  where
    by : (b : Bool) → LeavesIn e (onward (within b bound_of.Names most_name e) (λ _ f. onward (define_static (static_of (temporary_name reference) u (node.Blank at) owner true true) f) (λ _. gives (kept (holder.StaticTemporary (temporary_name reference))))))
    by false = tt
    by true = record { same = refl; kind = refl; no_type = c.no_type }

-- outside of functions there are no locals
pub scope-outside : (s : Scene) → s.locals ≡ [] → scope_of s ≡ file_scope s
scope-outside s none = ap (λ l. let x : Scope = record { classes = []; statics = s.statics; locals = map (tree s) l; this = None } in x) none

-- nothing is known
nothing_known : {A : Type 0} (s : Scene) (r : Answer A) → Known s (λ _. Unit {0}) r
nothing_known s (Made x f) = λ w. tt
nothing_known s (Refused rule at) = tt
nothing_known s (Passed bound most) = tt

module _ (s : Scene) (scene : IsScene s) (arrays : NoVoidElements s.tables) (none : s.locals ≡ []) (d : Says) (parts : Elab (Option Written)) (e : Env) (initial : AreInitial s e parts) where
  abbrev keeper : ℕ → Elab Keeper
  keeper = static_keeper (variable_link d.name) None d.at

  abbrev Start_is : Start → Env → Type 0
  Start_is x f = StartFits s (tree s d.type) x × Unit {0}

  -- the static object that is made at last
  abbrev made : Object → Start → CoreStatic
  made x st = static_of (variable_link d.name) d.type st.node None st.is_constant x.is_internal

  made-fits : (x : Object) (st : Start) (f : Env) → Within f s → Inside f d.type → StartFits s (tree s d.type) st → StaticFits s (made x st)
  made-fits x st f w i k = record {
    type = has_type-is s f d.type w i;
    numbers = k.numbers;
    start = ap (λ c. (typing c (core s st.node)).start (tree s d.type)) (sym (scope-outside s none)) ∙ k.starts;
    owner = tt;
  }

  module _ (c : Classless e) (h : When s e (Holds s e)) (i : When s e (Inside e d.type)) (n : When s e (is_void (tree s d.type) ≡ false)) where
    defining-fine : (x : Object) (st : Start) (g : Env) → Steps e g → Classless g → When s g (Holds s g) → When s g (StartFits s (tree s d.type) st) → Fine s Any g (define_static (made x st) g)
    defining-fine x st g step c1 h1 k =
        defined-fine s scene Any tt (made x st) g c1 h1
        (λ w. let early = within-before g (defined s scene (made x st) g) s (defined-steps s scene (made x st) g) w in
        made-fits x st g early (inside-later e g d.type step (i (within-before e g s step early))) (k early)) (λ w. tt)

    ended-fine : (x : Object) (w : Option Written) (st : Start) (g : Env) → Steps e g → Classless g → When s g (Holds s g) → When s g (StartFits s (tree s d.type) st)
        → Fine s Any g (onward (row.need_constant d.at w st g) (λ _. define_static (made x st)))
    ended-fine x w st g step c1 h1 k =
        still-fine s Any g (row.need_constant d.at w st g) (define_static (made x st)) (needed g (g.extent.computed || st.is_constant) 48 (option_map_or written_place w d.at)) (defining-fine x st g step c1 h1 k)

    pub file-fine : Fine s Any e (row.define_in_file d parts e)
    file-fine =
        onward-fine s (λ x f. StandsFor d.name d.type f) Any e (row.declare_linked d e) _ (linked-fine s scene d e c h i n)
        (λ x e1 g1 c1 h1 stands. leaving-fine s (λ w f. MaybeFits s f w) Any e1 (parts e1) _ (initial.fine e1 g1 c1 h1) (initial.leaves e1 g1 c1)
        (λ w e2 l g2 c2 h2 f. let step = steps-through e e1 e2 g1 g2 in
        onward-fine s Start_is Any e2 (started keeper d.name d.at d.type w e2) _
        (started-fine s scene arrays keeper (static_keeper-is s scene (variable_link d.name) None d.at tt) (static-leaves (variable_link d.name) None d.at) d.name d.at d.type (λ _. Unit {0}) w e2
        (λ v. nothing_known s (start_or_none keeper d.at d.type w e2)) c2 h2 f
        (λ v. inside-later e e2 d.type step (i (within-before e e2 s step v))) (λ v. n (within-before e e2 s step v))
        (λ v. stands-left d.name d.type e1 e2 l (stands (within-before e1 e2 s g2 v))))
        (λ st e3 g3 c3 h3 k. ended-fine x w st e3 (steps-through e e2 e3 step g3) c3 h3 (λ v. (k v).0))))

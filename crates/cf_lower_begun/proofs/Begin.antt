-- Static objects stand in their variables, zeroed, as a program begins.
use Rattle.std.proofs.Common.{◌≡◌, ℕ, zero, suc, ◌+◌, ◌≤◌, ◌<◌, false, List, [], ◌∷◌, length, slice_get, refl, sym, subst, arith}
use Rattle.std.specs.Prelude.{Option, Some, None}
use Rattle.cf_core.specs.Types.{Name, SourceType}
use Rattle.cf_core.specs.Classes.{Class}
use Rattle.cf_core.specs.Core.{Static}
use Rattle.cf_core.specs.Store.{zeroed_object}
use Rattle.cf_core.specs.Calls.{Program}
use Rattle.cf_core.specs.Program.{static_object_of, length_of, first_state}
use Rattle.cf_core.specs.Size.{size}
use Rattle.cf_lower_layout.specs.Layout.{LaidOut}
use Rattle.cc_whole.specs.declared.unit.CVariable.{CVariable}
use Rattle.cc_whole_memory.specs.declared.store.Storage.TheVariants as storage
use Rattle.cc_whole_memory.specs.Blocks.{Memory, no_memory, new_block}
use Rattle.cc_whole_mean.specs.Types.{variable_size}
use Rattle.cc_whole_mean.specs.Scope.{Scope}
use Rattle.cc_whole_mean.specs.Start.{laid_out}
use Rattle.cf_lower_relate.specs.Map.{Fixed, Map}
use Rattle.cf_lower_relate.specs.Relation.{Stands, Rel}
use Rattle.cf_lower_steps.specs.Lowering.{fixed_of}
use Rattle.cf_lower_begun.specs.Begun.{static_map, StaticsFirst}
use Rattle.cf_lower_begun.proofs.Variables.{laid-next, laid-at, laid-new}
use Rattle.cf_lower_begun.proofs.Zeroed.{zeroed-in, variable-room}

never-gone : (classes : List Class) (o : Option Static) → (static_object_of classes o).is_gone ≡ false
never-gone classes None = refl
never-gone classes (Some x) = refl

pub record StaticAt (xs : List Static) (o : ℕ) : Type 0 where
  pub one : Static
  pub at : slice_get xs o ≡ Some one

pub static-at : (xs : List Static) (o : ℕ) → o < length_of xs → StaticAt xs o
static-at [] o lt = absurd (let l : o < 0 = lt in omega (arith, l))
static-at (x ∷ xs) zero lt = record { one = x; at = refl }
static-at (x ∷ xs) (suc o) lt =
    let l : suc o < suc (length_of xs) = lt in
    let rest = static-at xs o (omega (arith, l)) in
    record { one = rest.one; at = rest.at }

slice-below : (vs : List CVariable) (o : ℕ) (v : CVariable) → slice_get vs o ≡ Some v → o < length vs
slice-below [] o v e = absurd (cc)
slice-below (x ∷ vs) zero v e = let l : 0 < suc (length vs) = omega arith in l
slice-below (x ∷ vs) (suc o) v e =
    let rest = slice-below vs o v e in
    let l : suc o < suc (length vs) = omega (arith, rest) in
    l

module _ (P : Program) (function : Name → ℕ) (signature : Name → SourceType) (vs : List CVariable) (names : Scope) (depth : ℕ) (first : StaticsFirst P vs) where
  abbrev K : Fixed
  K = fixed_of P function signature

  abbrev F : Map
  F = static_map P

  abbrev m : Memory
  m = laid_out names vs no_memory

  one-stands : (o : ℕ) (x : Static) → slice_get P.statics o ≡ Some x → Stands K F o (zeroed_object P.classes x.type) m
  one-stands o x e =
      let v = first.variables o x e in
      let here : 0 + o ≡ o = omega arith in
      let n : ℕ = variable_size v.one.ty in
      let room : size P.classes x.type ≤ n = subst (λ t. size P.classes x.type ≤ variable_size t) (sym v.type) (variable-room P.classes x.type) in
      record {
        block = new_block storage.Static n;
        there = subst (λ (b : ℕ). m.block b ≡ Some (new_block storage.Static n)) here (laid-new names v.one (0 + o) m v.start (laid-at names vs no_memory o v.one v.is));
        size = let l : 0 + size P.classes x.type ≤ n = omega (arith, room) in l;
        cells = zeroed-in K F x.type n room;
      }

  pub statics-begin : Rel K F (first_state P depth) m
  statics-begin = record {
    count = refl;
    type = λ o lt. refl;
    laid = λ o lt.
        let x = static-at P.statics o lt in
        subst (λ y. LaidOut P.classes (static_object_of P.classes y).type) (sym x.at) (first.laid o x.one x.at);
    gone = λ o lt. never-gone P.classes (slice_get P.statics o);
    stands = λ o lt live.
        let x = static-at P.statics o lt in
        subst (λ y. Stands K F o (static_object_of P.classes y) m) (sym x.at) (one-stands o x.one x.at);
    below = λ o lt live.
        let x = static-at P.statics o lt in
        let v = first.variables o x.one x.at in
        let less = slice-below vs o v.one v.is in
        let next = laid-next names vs no_memory in
        omega (arith, less, next);
    apart = λ o p lo lp live other same. same;
  }

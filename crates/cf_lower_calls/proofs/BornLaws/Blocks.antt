-- The C frame of a lowered function, where it is entered.
use Rattle.std.proofs.Common.{◌≡◌, ℕ, zero, suc, ◌+◌, ◌-◌, ◌*◌, ◌<◌, ◌≤◌, nat_lt, nat_le, Bool, true, false, ◌&&◌, ◌==◌, List, [], ◌∷◌, ◌++◌, length, slice_get, refl, sym, ◌∙◌, ap, subst, arith}
use Rattle.std.specs.Prelude.{Option, Some, None, option_map, is_some}
use Rattle.std.specs.List.{list_all}
use Rattle.std.proofs.lemmas.Bool.Decides.{nat_tests}
use Rattle.std.proofs.lemmas.List.{length-append}
use Rattle.std.proofs.lemmas.Option.{slice_get_within}
use Rattle.cf_base.proofs.Tests.{both}
use Rattle.cf_core.specs.Types.{Name, SourceType, without_const, parameters}
use Rattle.cf_core.specs.Classes.{Class}
use Rattle.cf_core.specs.Run.{State}
use Rattle.cf_core.specs.Size as source
use Rattle.cf_lower_layout.specs.Sorts.{Sort, sort_of, scalar_sort}
use Rattle.cf_plain.specs.Plain.{Register, PlainFunction}
use Rattle.cf_plain.specs.Running.{header}
use Rattle.cc_whole.specs.declared.types.CType.{CType}
use Rattle.cc_whole.specs.declared.types.CType.TheVariants as ty
use Rattle.cc_whole.specs.declared.types.CLocalType.TheVariants as local
use Rattle.cc_whole.specs.declared.statement.CLocal.{CLocal}
use Rattle.cc_whole.specs.declared.unit.CParameter.{CParameter}
use Rattle.cc_whole_locals.specs.Held.{holding}
use Rattle.cc_whole_locals.specs.Names.{is_local, is_parameter, locals_differ, parameters_differ}
use Rattle.cc_whole_locals.proofs.Blocks.{locals-below, locals-next, local-born, arguments-next, argument-born}
use Rattle.cc_whole_locals.proofs.Names.{other-local, bound-local, other-parameter, bound-parameter}
use Rattle.cc_whole_memory.specs.declared.store.Storage.TheVariants as storage
use Rattle.cc_whole_memory.specs.declared.value.Value.{Value}
use Rattle.cc_whole_memory.specs.Values.{bytes_of, size_of}
use Rattle.cc_whole_memory.specs.Blocks.{Block, Memory, new_block}
use Rattle.cc_whole_mean.specs.declared.named.Named.TheVariants as meant
use Rattle.cc_whole_mean.specs.declared.named.Shape.TheVariants.{Single as single}
use Rattle.cc_whole_mean.specs.Flow.{born_arguments, born_locals}
use Rattle.cc_whole_mean.specs.Scope.{Scope, bind_locals, bind_parameters}
use Rattle.cc_whole_mean.specs.Types.{scalar_of, local_shape, local_size}
use Rattle.cf_lower.specs.Kept.{is_argument, type_of_local, type_or_void}
use Rattle.cf_lower.specs.Written.{if_scalar, c_type, words, local_type, local_name, register_type, result_name, flag_name}
use Rattle.cf_lower.specs.Functions.{scalar, lowered_parameters, all_bound, all_nesting, locals_of}
use Rattle.cf_lower_relate.specs.Map.{Map, is_ended}
use Rattle.cf_lower_relate.proofs.Sorts.{sort-bytes}
use Rattle.cf_lower_steps.specs.Own.{Own, class_of, Lives, LocalBlock}
use Rattle.cf_lower_turns.specs.Flags.{Flags}
use Rattle.cf_lower_turns.specs.Here.{HasRoom}
use Rattle.cf_lower_calls.specs.Returns.Called.{Programs, fixed, Entry}
use Rattle.cf_lower_calls.specs.Frames.Frame.{Frame, TypesFit}
use Rattle.cf_lower_calls.proofs.FramesLaws.Begin.{shown-stands, there-at, among-number, at-number, typed-number}
use Rattle.cf_lower_calls.proofs.InvokedLaws.Entry.{typed-count}
use Rattle.cf_lower_calls.specs.Born.Laid.{c_locals, result_types, place_of_type, registers_from, flags_from, results_from, own_of, flags_of, names_apart, is_laid_out}
use Rattle.cf_lower_calls.proofs.BornLaws.Lists.{slice-left, slice-behind, ItemAt, item-at}
use Rattle.cf_lower_calls.proofs.BornLaws.Places.{register_local, local-place, register-place, flag-place, result-place, ParameterAt, parameter-place}
use Rattle.cf_lower_calls.proofs.BornLaws.Tests.{apart-at, none-less, class-small, four-bytes, local-room}

same-block : {a b : Block} → Some a ≡ Some b → a ≡ b
same-block k = cc

module _ (B : Programs) (f : PlainFunction) (ok : is_laid_out B.program.classes f ≡ true) (E : Map) (s : State) (first : Memory) (os : List ℕ) (cs : List Value)
    (entry : Entry B (header f) E s first os cs) where
  abbrev classes : List Class
  classes = B.program.classes

  abbrev ts : List SourceType
  ts = parameters f.type

  abbrev ps : List CParameter
  ps = lowered_parameters 0 ts

  abbrev xs : List CLocal
  xs = c_locals classes f

  abbrev born : Memory
  born = born_arguments cs first

  abbrev m : Memory
  m = born_locals xs born

  abbrev own : Own
  own = own_of f first.next born.next

  abbrev flags : Flags
  flags = flags_of f born.next

  abbrev outside : Scope
  outside = bind_parameters ps first.next B.c_program.names

  abbrev scope : Scope
  scope = bind_locals xs born.next outside

  -- ---- the tests

  scalars : list_all (λ t. is_some (sort_of t)) ts ≡ true
  scalars = (both (list_all (λ t. is_some (sort_of t)) ts) (list_all (λ i. nat_le (length ts) i) (locals_of f).arguments && (locals_differ xs && (parameters_differ ps && names_apart ps xs))) ok).0

  rest1 : list_all (λ i. nat_le (length ts) i) (locals_of f).arguments && (locals_differ xs && (parameters_differ ps && names_apart ps xs)) ≡ true
  rest1 = (both (list_all (λ t. is_some (sort_of t)) ts) (list_all (λ i. nat_le (length ts) i) (locals_of f).arguments && (locals_differ xs && (parameters_differ ps && names_apart ps xs))) ok).1

  none_below : list_all (λ i. nat_le (length ts) i) (locals_of f).arguments ≡ true
  none_below = (both (list_all (λ i. nat_le (length ts) i) (locals_of f).arguments) (locals_differ xs && (parameters_differ ps && names_apart ps xs)) rest1).0

  rest2 : locals_differ xs && (parameters_differ ps && names_apart ps xs) ≡ true
  rest2 = (both (list_all (λ i. nat_le (length ts) i) (locals_of f).arguments) (locals_differ xs && (parameters_differ ps && names_apart ps xs)) rest1).1

  differ : locals_differ xs ≡ true
  differ = (both (locals_differ xs) (parameters_differ ps && names_apart ps xs) rest2).0

  rest3 : parameters_differ ps && names_apart ps xs ≡ true
  rest3 = (both (locals_differ xs) (parameters_differ ps && names_apart ps xs) rest2).1

  -- ---- numbers

  as-many : length cs ≡ length ts
  as-many = entry.count ∙ typed-count E os ts entry.typed

  start : born.next ≡ first.next + length ts
  start = let a = arguments-next cs first in let b = as-many in omega (arith, a, b)

  types-count : length own.locals.types ≡ length ts + length f.locals
  types-count = length-append ts f.locals

  -- ---- the C locals behind the parameters

  module _ (i : ℕ) (x : CLocal) (at : slice_get xs i ≡ Some x) where
    named-there : scope x.name ≡ Some (meant.Variable (born.next + i) (local_shape x.ty))
    named-there = bound-local xs born.next outside differ i x at

    block-there : m.block (born.next + i) ≡ Some (new_block storage.Local (local_size x.ty))
    block-there = local-born xs born i x at

    below-there : born.next + i < m.next
    below-there = let a = slice_get_within xs i x at in let b = locals-next xs born in omega (arith, a, b)

  -- ---- parameters

  parameter-named : (i : ℕ) (t : SourceType) → slice_get ts i ≡ Some t → (p : ParameterAt 0 ts i t) → scope (local_name i) ≡ Some (meant.Variable (first.next + i) (single (scalar_of (c_type p.sort))))
  parameter-named i t e p =
      let n : 0 + i ≡ i = omega arith in
      let is = p.is ∙ ap (λ (j : ℕ). Some (record { ty = c_type p.sort; name = local_name j })) n in
      other-local xs born.next outside (local_name i) (apart-at ps xs (both (parameters_differ ps) (names_apart ps xs) rest3).1 i (record { ty = c_type p.sort; name = local_name i }) is)
      ∙ bound-parameter ps first.next B.c_program.names (both (parameters_differ ps) (names_apart ps xs) rest3).0 i (record { ty = c_type p.sort; name = local_name i }) is

  -- its block holds the argument, which has the size of its type
  parameter-size : (i : ℕ) (t : SourceType) → slice_get ts i ≡ Some t → (a : Sort) → sort_of t ≡ Some a → (v : Value) → slice_get cs i ≡ Some v → source.size classes t ≤ size_of v
  parameter-size i t e a sorted v k =
      let lt = slice_get_within cs i v k in
      let count = entry.count in
      let o = there-at os i (omega (arith, lt, count)) in
      let x = at-number E os first.next entry.stand i o.object o.is in
      let known = entry.known o.object (among-number os i o.object o.is) in
      let stands = entry.rel.stands o.object known (shown-stands (E.stage o.object) x.shown) in
      let same : stands.block ≡ holding v = same-block (sym stands.there ∙ ap born.block x.block ∙ argument-born cs first i v k) in
      let size : stands.block.size ≡ size_of v = ap (λ (y : Block). y.size) same in
      let enough = stands.size in
      let base = x.base in
      let type : source.size classes (s.object o.object).type ≡ source.size classes (E.type o.object) = ap (source.size classes) (entry.rel.type o.object known) in
      let typed : sort_of (E.type o.object) ≡ Some a =
      ap scalar_sort (typed-number E (λ j. type_or_void (slice_get ts j)) os ts entry.typed (λ j u is. ap type_or_void is) i o.object o.is ∙ ap (λ (y : Option SourceType). without_const (type_or_void y)) e)
      ∙ sorted in
      let one = sort-bytes classes (E.type o.object) a typed in
      let two = sort-bytes classes t a sorted in
      omega (arith, enough, base, size, type, one, two)

  parameter-block : (i : ℕ) → i < length ts → LocalBlock (fixed B) own scope m i
  parameter-block i lt =
      let t = item-at ts i lt in
      let p = parameter-place 0 ts scalars i t.item t.is in
      let v = item-at cs i (let n = as-many in omega (arith, lt, n)) in
      let below = start in
      record {
        shape = single (scalar_of (c_type p.sort));
        named = parameter-named i t.item t.is p;
        block = holding v.item;
        there = locals-below xs born (first.next + i) (omega (arith, below, lt)) ∙ argument-born cs first i v.item v.is;
        size =
            let enough = parameter-size i t.item t.is p.sort p.sorted v.item v.is in
            let same : source.size classes (type_of_local own.locals i) ≡ source.size classes t.item = ap (λ (o : Option SourceType). source.size classes (type_or_void o)) (slice-left ts f.locals i t.item t.is) in
            omega (arith, enough, same);
        below = let n = locals-next xs born in omega (arith, below, lt, n);
        apart = λ a r lr e. omega (arith, below, lt, e);
        alone = λ j lj e. omega (arith, e);
      }

  -- ---- locals

  local-block : (i : ℕ) → i < length own.locals.types → length ts ≤ i → LocalBlock (fixed B) own scope m i
  local-block i li le =
      let count = types-count in
      let t = item-at f.locals (i - length ts) (omega (arith, li, le, count)) in
      let place = local-place classes f (i - length ts) t.item t.is in
      let n : length ts + (i - length ts) ≡ i = omega (arith, le) in
      let from = start in
      let at : born.next + (i - length ts) ≡ first.next + i = omega (arith, from, le) in
      record {
        shape = local_shape (local_type classes t.item);
        named = ap (λ (j : ℕ). scope (local_name j)) (sym n)
            ∙ named-there (i - length ts) (record { ty = local_type classes t.item; name = local_name (length ts + (i - length ts)) }) place
            ∙ ap (λ (b : ℕ). Some (meant.Variable b (local_shape (local_type classes t.item)))) at;
        block = new_block storage.Local (local_size (local_type classes t.item));
        there = ap m.block (sym at) ∙ block-there (i - length ts) (record { ty = local_type classes t.item; name = local_name (length ts + (i - length ts)) }) place;
        size =
            let enough = local-room classes t.item in
            let same : source.size classes (type_of_local own.locals i) ≡ source.size classes t.item =
            ap (λ (o : Option SourceType). source.size classes (type_or_void o))
            (ap (λ (j : ℕ). slice_get (ts ++ f.locals) j) (sym n) ∙ slice-behind ts f.locals (length ts) (i - length ts) t.item refl t.is) in
            omega (arith, enough, same);
        below = let b = below-there (i - length ts) (record { ty = local_type classes t.item; name = local_name (length ts + (i - length ts)) }) place in omega (arith, b, at);
        apart = λ a r lr e. omega (arith, from, li, count, e);
        alone = λ j lj e. omega (arith, e);
      }

  any-local : (i : ℕ) → i < length own.locals.types → LocalBlock (fixed B) own scope m i
  any-local i li = by_test (nat_lt i (length ts)) refl
    where
      by_test : (b : Bool) → nat_lt i (length ts) ≡ b → LocalBlock (fixed B) own scope m i
      by_test true q = parameter-block i (grind (arith, nat_tests, q))
      by_test false q = local-block i li (grind (arith, nat_tests, q))

  -- ---- results

  pub record AtPlace (t : CType) (c : ℕ) : Type 0 where
    pub place : ℕ
    pub found : place_of_type t (result_types f) ≡ Some place
    pub is : c ≡ born.next + (results_from f + place)

  at-place : (t : CType) (c : ℕ) → flags.result t ≡ Some c → AtPlace t c
  at-place t c e = by_place (place_of_type t (result_types f)) refl e
    where
      some-number : {a b : ℕ} → Some a ≡ Some b → a ≡ b
      some-number k = cc

      by_place : (o : Option ℕ) → place_of_type t (result_types f) ≡ o → option_map (λ (i : ℕ). born.next + (results_from f + i)) o ≡ Some c → AtPlace t c
      by_place None q k = absurd (let n = k in cc)
      by_place (Some j) q k = record { place = j; found = q; is = sym (some-number k) }

  result-room : (t : CType) (c : ℕ) → flags.result t ≡ Some c → HasRoom m c (bytes_of (scalar_of t))
  result-room t c e =
      let x = at-place t c e in
      let place = result-place classes f t x.place x.found in
      record {
        block = new_block storage.Local (bytes_of (scalar_of t));
        there = ap m.block x.is ∙ block-there (results_from f + x.place) (scalar t (result_name t)) place;
        size = omega arith;
        below = let b = below-there (results_from f + x.place) (scalar t (result_name t)) place in let is = x.is in omega (arith, b, is);
      }

  -- ---- the frame

  pub frame-born : Frame (fixed B) own flags scope first cs m
  frame-born = record {
    registers = record {
      named = λ t r lr. named-there (registers_from f + (3 * r + class_of t)) (register_local t r) (register-place classes f t r lr);
      lives = λ t r lr. record {
        block = new_block storage.Local (bytes_of (scalar_of (register_type t)));
        there = block-there (registers_from f + (3 * r + class_of t)) (register_local t r) (register-place classes f t r lr);
        size = let n = four-bytes t in omega (arith, n);
      };
      apart = λ t u r q lr lq e. (
        (let a = class-small t in let b = class-small u in omega (arith, a, b, e)),
        (let a = class-small t in let b = class-small u in omega (arith, a, b, e)),
      );
      behind = λ t r lr. let a = start in let b = as-many in omega (arith, a, b);
      below = λ t r lr. below-there (registers_from f + (3 * r + class_of t)) (register_local t r) (register-place classes f t r lr);
    };
    flags_there = record {
      named = λ d ld. named-there (flags_from f + d) (scalar ty.Int (flag_name d)) (flag-place classes f d ld);
      lives = λ d ld. record {
        block = new_block storage.Local 4;
        there = block-there (flags_from f + d) (scalar ty.Int (flag_name d)) (flag-place classes f d ld);
        size = omega arith;
      };
      apart = λ d e ld le k. omega (arith, k);
      registers = λ d t r ld lr e. let a = class-small t in omega (arith, a, lr, e);
      locals = λ d i ld li e. let a = start in let b = types-count in omega (arith, a, b, li, e);
      behind = λ d ld. let a = start in let b = as-many in omega (arith, a, b);
      below = λ d ld. below-there (flags_from f + d) (scalar ty.Int (flag_name d)) (flag-place classes f d ld);
    };
    locals = record {
      few = let a = as-many in let b = types-count in omega (arith, a, b);
      blocks = any-local;
      parameters = λ i li. refl;
      behind = λ i li le. omega (arith, le);
      none_passed = λ i li. none-less (length ts) i (locals_of f).arguments none_below (let a = as-many in omega (arith, a, li));
    };
    results = record {
      named = λ t c e.
          let x = at-place t c e in
          named-there (results_from f + x.place) (scalar t (result_name t)) (result-place classes f t x.place x.found)
          ∙ ap (λ (b : ℕ). Some (meant.Variable b (single (scalar_of t)))) (sym x.is);
      room = result-room;
      behind = λ t c e. let x = at-place t c e in let is = x.is in let a = start in let b = as-many in omega (arith, is, a, b);
      registers = λ t c e u r lr k. let x = at-place t c e in let is = x.is in let a = class-small u in omega (arith, is, a, lr, k);
      locals = λ t c e i li k. let x = at-place t c e in let is = x.is in let a = start in let b = types-count in omega (arith, is, a, b, li, k);
      flags_apart = λ t c e d ld k. let x = at-place t c e in let is = x.is in omega (arith, is, ld, k);
    };
    next = let a = arguments-next cs first in let b = locals-next xs born in omega (arith, a, b);
    kept = λ b lb. let a = arguments-next cs first in locals-below xs born b (omega (arith, a, lb));
  }

  pub types-fit : TypesFit own ts
  types-fit i t e = ap type_or_void (slice-left ts f.locals i t e)

  -- ---- shapes and names

  -- a scalar's C local is one
  pub shaped-born : (i : ℕ) → i < length own.locals.types → (u : Sort) → sort_of (type_of_local own.locals i) ≡ Some u
      → scope (local_name i) ≡ Some (meant.Variable (own.local i) (single (scalar_of (c_type u))))
  shaped-born i li u e = by_test (nat_lt i (length ts)) refl
    where
      some-sort : {a b : Sort} → Some a ≡ Some b → a ≡ b
      some-sort k = cc

      by_test : (b : Bool) → nat_lt i (length ts) ≡ b → scope (local_name i) ≡ Some (meant.Variable (own.local i) (single (scalar_of (c_type u))))
      by_test true q =
          let lt : i < length ts = grind (arith, nat_tests, q) in
          let t = item-at ts i lt in
          let p = parameter-place 0 ts scalars i t.item t.is in
          let same : p.sort ≡ u = some-sort (sym p.sorted ∙ ap sort_of (sym (types-fit i t.item t.is)) ∙ e) in
          parameter-named i t.item t.is p ∙ ap (λ (a : Sort). Some (meant.Variable (first.next + i) (single (scalar_of (c_type a))))) same
      by_test false q =
          let le : length ts ≤ i = grind (arith, nat_tests, q) in
          let count = types-count in
          let t = item-at f.locals (i - length ts) (omega (arith, li, le, count)) in
          let place = local-place classes f (i - length ts) t.item t.is in
          let n : length ts + (i - length ts) ≡ i = omega (arith, le) in
          let from = start in
          let at : born.next + (i - length ts) ≡ first.next + i = omega (arith, from, le) in
          let type : type_of_local own.locals i ≡ t.item =
          ap type_or_void (ap (λ (j : ℕ). slice_get (ts ++ f.locals) j) (sym n) ∙ slice-behind ts f.locals (length ts) (i - length ts) t.item refl t.is) in
          ap (λ (j : ℕ). scope (local_name j)) (sym n)
          ∙ named-there (i - length ts) (record { ty = local_type classes t.item; name = local_name (length ts + (i - length ts)) }) place
          ∙ ap (λ (b : ℕ). Some (meant.Variable b (local_shape (local_type classes t.item)))) at
          ∙ ap (λ (o : Option Sort). Some (meant.Variable (first.next + i) (local_shape (if_scalar o (local.Ints (words classes t.item)) (λ s. local.Scalar (c_type s))))))
          (ap sort_of (sym type) ∙ e)

  -- a name that none of them has stands for what it stands for outside
  pub outside-born : (name : Name) → is_local name xs ≡ false → is_parameter name ps ≡ false → scope name ≡ B.c_program.names name
  outside-born name h k = other-local xs born.next outside name h ∙ other-parameter ps first.next B.c_program.names name k

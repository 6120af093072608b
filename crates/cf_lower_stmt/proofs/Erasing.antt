-- What is written for statements does not depend on the kinds of integers that registers hold.
use Rattle.std.proofs.Common.{◌≡◌, ℕ, List, [], ◌∷◌, ◌++◌, Option, Some, None, refl, sym, ap, ◌∙◌}
use Rattle.std.specs.Option.{option_map}
use Rattle.cc_whole.specs.Plain as c
use Rattle.cc_whole.specs.Plain.{Expression, Statement, SwitchItems}
use Rattle.cc_whole.specs.declared.types.CConstant.TheVariants as constants
use Rattle.cf_base.specs.declared.kind.Kind.TheVariants.{Int}
use Rattle.cf_base.specs.Integers.{convert}
use Rattle.cf_core.specs.Classes.{Class}
use Rattle.cf_plain.specs.Plain as plain
use Rattle.cf_plain.specs.Plain.{Register, Action, Plain, Plains, act, set, branch, loop, switch, case_label, default_label, leave, continue, give, parts, nothing, more}
use Rattle.cf_lower.specs.Kept.{Kept, unknown, integer_of, holds, argument, Keeping, local_kept, kept_by, untouched, after}
use Rattle.cf_lower.specs.Expressions.{value_in, value, zero as nought, integer_in}
use Rattle.cf_lower.specs.Statements.{Inside, stored_in, first_in, zeros_in, bytes_in, done, put_in, kept, given, lowered, all_lowered, items, stated_all, in_loop, in_stepped, in_switch, block, flag_set, if_flag}
use Rattle.cf_lower_expr.specs.Values.{local_cell}
use Rattle.cf_lower_expr.proofs.Erasing.{value_in_erased, value_erased, local_erased}
use Rattle.cf_lower_layout.specs.Sorts.{Sort}
use Rattle.cf_lower_held.specs.Holds.{erased, erasing}
use Rattle.cf_lower_names.specs.declared.cell.Cell.{Cell}
use Rattle.cf_lower_names.specs.Cells.{cell_of, sort_for}
use Rattle.cf_lower_stmt.proofs.Cells.{set_cell}
use Rattle.cf_lower_stmt.specs.Steps.{set_if, value_kept}
use Rattle.cf_lower_held.proofs.Erased.{kept_by_erased}
use Rattle.cf_lower_held.proofs.After.{alike, after_erased, untouched_erased, untouched_twice}

stored_erased : (x : Kept) (r : ℕ) (e : Expression) → stored_in (erased x) r e ≡ stored_in x r e
stored_erased unknown r e = refl
stored_erased (integer_of f) r e = refl
stored_erased (holds s) r e = refl
stored_erased (argument i t) r e = refl

first_erased : (x : Kept) (r : ℕ) (e : Expression) → first_in (erased x) r e ≡ first_in x r e
first_erased unknown r e = refl
first_erased (integer_of f) r e = refl
first_erased (holds s) r e = refl
first_erased (argument i t) r e = refl

zeros_erased : (cs : List Class) (x : Kept) (r : ℕ) → zeros_in cs (erased x) r ≡ zeros_in cs x r
zeros_erased cs unknown r = refl
zeros_erased cs (integer_of f) r = refl
zeros_erased cs (holds s) r = refl
zeros_erased cs (argument i t) r = refl

bytes_erased : (cs : List Class) (x : Kept) (r : ℕ) (bytes : List ℕ) → bytes_in cs (erased x) r bytes ≡ bytes_in cs x r bytes
bytes_erased cs unknown r bytes = refl
bytes_erased cs (integer_of f) r bytes = refl
bytes_erased cs (holds s) r bytes = refl
bytes_erased cs (argument i t) r bytes = refl

module _ (x : Inside) where
  done_erased : (g : Keeping) (a : Action) → done x (erasing g) a ≡ done x g a
  done_erased g (plain.store r q) = stored_erased (g r) r (value_in (erasing g) q) ∙ ap (stored_in (g r) r) (value_in_erased g q)
  done_erased g (plain.first r q) = first_erased (g r) r (value_in (erasing g) q) ∙ ap (first_in (g r) r) (value_in_erased g q)
  done_erased g (plain.zeros r) = zeros_erased x.classes (g r) r
  done_erased g (plain.bytes r bytes) = bytes_erased x.classes (g r) r bytes
  done_erased g a = refl

  as_kept : (g : Keeping) (a : Action) → local_kept (kept_by x.locals (erasing g) a) ≡ local_kept (kept_by x.locals g a)
  as_kept g a = sym (local_erased (kept_by x.locals (erasing g) a)) ∙ ap local_kept (kept_by_erased x.locals g a) ∙ local_erased (kept_by x.locals g a)

  -- a value in its register, by what that holds
  put_is : (o : Option Sort) (r : Register) (e : Expression) → set_if o r e ≡ put_in x o r e
  put_is None r e = refl
  put_is (Some s) r e = refl

  put_erased : (g : Keeping) (r : Register) (a : Action)
      → put_in x (local_kept (kept_by x.locals (erasing g) a)) r (value x.classes x.function x.locals (erasing g) a)
      ≡ put_in x (local_kept (kept_by x.locals g a)) r (value x.classes x.function x.locals g a)
  put_erased g r a =
      ap (λ s. put_in x s r (value x.classes x.function x.locals (erasing g) a)) (as_kept g a)
      ∙ ap (put_in x (local_kept (kept_by x.locals g a)) r) (value_erased x.classes x.function x.locals g a)

  -- what is written by how the C has what the register holds
  pub kept_put : (g : Keeping) (r : Register) (a : Action) (h : Kept) (q : Option Cell) (e : Expression) (w v : List Statement) → h ≡ erased (kept_by x.locals g a) → q ≡ local_cell h
      → e ≡ value x.classes x.function x.locals g a → v ≡ w ++ set_if (option_map sort_for q) r e → v ≡ w ++ value_kept x g r a
  kept_put g r a h q e w v is cell made written =
      let o = local_kept (kept_by x.locals g a) in
      written ∙ ap (λ q. w ++ set_if (option_map sort_for q) r e) (cell ∙ ap local_cell is ∙ ap (option_map cell_of) (local_erased (kept_by x.locals g a)))
      ∙ ap (λ l. w ++ l) (set_cell o r e ∙ put_is o r e) ∙ ap (λ y. w ++ put_in x o r y) made

  kept_erased : (g : Keeping) (r : Register) (a : Action) → kept x (erasing g) r a ≡ kept x g r a
  kept_erased g r (plain.call n t o is into) = refl
  kept_erased g r (plain.pointer_call o q t is into) = refl
  kept_erased g r a = put_erased g r a

-- a loop whose turns end in a step, by what its two parts are written as
abbrev stepped_by : Inside → List Statement → List Statement → List Statement
stepped_by x ss ts =
    c.loop (block
    (flag_set x.depth 0
    ∷ c.select nought (c.otherwise (stated_all ss c.closed))
    ∷ if_flag x.depth (c.leave ∷ [])
    ∷ ts)) ∷ []

abbrev switched : Inside → Register → SwitchItems → List Statement
switched x r is = flag_set x.depth 0 ∷ c.select (integer_in r) is ∷ if_flag x.depth x.going_on ∷ []

mutual
  pub lowered_erased : (s : Plain) (x : Inside) (g : Keeping) → lowered s x (erasing g) ≡ lowered s x g
  lowered_erased (act a) x g = done_erased x g a
  lowered_erased (set r a) x g = kept_erased x g r a
  lowered_erased (branch r ss ts) x g =
      ap (λ l. c.choose (integer_in r) (block l) (block (all_lowered ts x (erasing g))) ∷ []) (all_erased ss x g)
      ∙ ap (λ l. c.choose (integer_in r) (block (all_lowered ss x g)) (block l) ∷ []) (all_erased ts x g)
  lowered_erased (loop ss nothing) x g =
      ap (λ l. c.loop (block l) ∷ [])
      (alike (all_lowered ss (in_loop x)) (all_erased ss (in_loop x)) (untouched x.locals (erasing g) ss) (untouched x.locals g ss) (untouched_erased x.locals ss g))
  lowered_erased (loop ss (more t ts)) x g =
      let h = untouched x.locals (untouched x.locals (erasing g) ss) (more t ts) in
      let k = untouched x.locals (untouched x.locals g ss) (more t ts) in
      let same = untouched_twice x.locals ss (more t ts) g in
      let first = alike (all_lowered ss (in_stepped x)) (all_erased ss (in_stepped x)) h k same in
      let second = alike (all_lowered (more t ts) (in_loop x)) (all_erased (more t ts) (in_loop x)) h k same in
      ap (λ l. stepped_by x l (all_lowered (more t ts) (in_loop x) h)) first ∙ ap (stepped_by x (all_lowered ss (in_stepped x) k)) second
  lowered_erased (switch r ss) x g =
      let h = untouched x.locals (erasing g) ss in
      let k = untouched x.locals g ss in
      let same = untouched_erased x.locals ss g in
      ap (λ is. switched x r is)
      (alike (λ a. items ss (in_switch x) a h) (λ a. items_first ss (in_switch x) a h) h k same
      ∙ alike (items ss (in_switch x) k) (items_second ss (in_switch x) k) h k same)
  lowered_erased (case_label z) x g = refl
  lowered_erased default_label x g = refl
  lowered_erased leave x g = refl
  lowered_erased continue x g = refl
  lowered_erased (give None) x g = refl
  lowered_erased (give (Some r)) x g = ap (given x.result) (value_in_erased g r)
  lowered_erased (parts ps) x g = refl

  pub all_erased : (ss : Plains) (x : Inside) (g : Keeping) → all_lowered ss x (erasing g) ≡ all_lowered ss x g
  all_erased nothing x g = refl
  all_erased (more s ss) x g =
      ap (λ l. l ++ all_lowered ss x (after x.locals s (erasing g))) (lowered_erased s x g)
      ∙ ap (λ l. lowered s x g ++ l) (alike (all_lowered ss x) (all_erased ss x) (after x.locals s (erasing g)) (after x.locals s g) (after_erased x.locals s g))

  items_first : (ss : Plains) (x : Inside) (g h : Keeping) → items ss x (erasing g) h ≡ items ss x g h
  items_first nothing x g h = refl
  items_first (more (case_label z) ss) x g h =
      ap (c.labelled (constants.Signed (convert Int z))) (items_first ss x g (erasing g) ∙ items_second ss x g g)
  items_first (more default_label ss) x g h = ap c.otherwise (items_first ss x g (erasing g) ∙ items_second ss x g g)
  items_first (more s ss) x g h = ap (stated_all (lowered s x h)) (items_first ss x g (after x.locals s h))

  pub items_second : (ss : Plains) (x : Inside) (g h : Keeping) → items ss x g (erasing h) ≡ items ss x g h
  items_second nothing x g h = refl
  items_second (more (case_label z) ss) x g h = refl
  items_second (more default_label ss) x g h = refl
  items_second (more s ss) x g h =
      ap (λ l. stated_all l (items ss x g (after x.locals s (erasing h)))) (lowered_erased s x h)
      ∙ ap (stated_all (lowered s x h)) (alike (items ss x g) (items_second ss x g) (after x.locals s (erasing h)) (after x.locals s h) (after_erased x.locals s h))

-- The C of every plain statement of a function is valid.
use Rattle.std.proofs.Common.{◌≡◌, ℕ, suc, ◌+◌, ◌≤◌, ◌<◌, max, Bool, true, false, not, ◌&&◌, ◌||◌, if◌then◌else◌, List, [], ◌∷◌, ◌++◌, refl, sym, ◌∙◌, ap, subst, arith}
use Rattle.std.specs.Prelude.{ℤ, pos, Option, Some, None, Ok, is_some}
use Rattle.std.specs.List.{list_all}
use Rattle.cf_base.specs.declared.kind.Kind.{Kind}
use Rattle.cf_base.specs.declared.kind.Kind.TheVariants.{Int, UInt}
use Rattle.cf_base.specs.Integers.{fits, convert}
use Rattle.cf_base.proofs.Tests.{both}
use Rattle.cf_core.specs.Types.{Name, SourceType, parameters, result as result_type}
use Rattle.cf_lower_layout.specs.Sorts.{Sort, sort_of}
use Rattle.cf_plain.specs.Plain.{Register, Action, Plain, Plains, act, set, branch, loop, switch, case_label, default_label, leave, continue, give, parts, nothing, more, PlainFunction}
use Rattle.cf_plain.specs.Named.{actions, all_actions}
use Rattle.cf_plain.specs.Running.{has_case}
use Rattle.cf_plain.specs.Valid as valid
use Rattle.cf_plain_kept.specs.Kept as plain
use Rattle.cc_whole.specs.declared.types.CType.{CType}
use Rattle.cc_whole.specs.declared.types.CType.TheVariants as ty
use Rattle.cc_whole.specs.declared.types.CConstant.TheVariants as constants
use Rattle.cc_whole.specs.declared.types.CVariableType.TheVariants as variable
use Rattle.cc_whole.specs.Numbers.{label_of, fits_constant}
use Rattle.cc_whole.specs.Types.{is_integer, same_type}
use Rattle.cc_whole.specs.Landmarks.{marks, body_marks, statement_marks}
use Rattle.cc_whole.specs.Fault.{Checks, fine, holds, moved, checked_then, ◌before◌}
use Rattle.cc_whole.specs.Known.{Named, Known}
use Rattle.cc_whole.specs.Plain as c
use Rattle.cc_whole.specs.Plain.{Expression, Statement, SwitchItems, Body, named, load, in_order}
use Rattle.cc_whole.specs.Typed.{typed, fits_type, is_zero}
use Rattle.cc_whole.specs.Statements.{Labels, no_labels, condition, fits_given, checked, checked_switch, checked_body}
use Rattle.cc_whole.specs.Statements as checks
use Rattle.cf_lower.specs.Kept.{Keeping, Locals, nothing_kept, after, after_all, untouched}
use Rattle.cf_lower.specs.Written.{if_scalar, c_type, int_constant, result_of, flag_name}
use Rattle.cf_lower.specs.Expressions.{in_register, integer_in, value_in, as_stored}
use Rattle.cf_lower.specs.Expressions as expressions
use Rattle.cf_lower.specs.Statements.{Inside, block, flag_set, if_flag, no_value, given, in_stepped, in_loop, in_switch, stated_all, lowered, all_lowered, items}
use Rattle.cf_lower.specs.Functions.{bound, all_bound, nesting, all_nesting, locals_of, inside}
use Rattle.cf_lower_kept.specs.Ready.{ready, all_ready}
use Rattle.cf_lower_kept.specs.Told.{Told, ToldIf, AllTold, AllToldIf}
use Rattle.cf_lower_kept.proofs.Statements.{statement-told}
use Rattle.cf_lower_program.specs.Labels.{labels, one_kind, labels_fit, all_labels_fit}
use Rattle.cf_lower_valid_body.specs.Scope.{Each, Own, Fits, Stands, BodyIsValid, standing, is_local_type}
use Rattle.cf_lower_valid_body.proofs.Lists.{each-left, each-right}
use Rattle.cf_lower_valid_body.proofs.Numbers.{int-fits}
use Rattle.cf_lower_valid_body.proofs.Keeping.{FitIf, Good, GoodIf, statement-good}
use Rattle.cf_lower_valid_body.proofs.Typed.{Has, count-has, value-has, type-same, zero-stored}
use Rattle.cf_lower_valid_body.proofs.Values.{integer-has, value-in}
use Rattle.cf_lower_valid_body.proofs.Stores.{AllChecked, all-append, in-order, block-checked, named-assigned, inside_at, value-suits, done-checked, kept-checked}
use Rattle.cf_lower_valid_body.proofs.Labels.{Fresh, all-fresh, with-case, with-default, label}

no-not : (b : Bool) → not b ≡ true → b ≡ false
no-not true e = absurd (cc)
no-not false e = refl

if-some : (b : Bool) (o : Option plain.Keeping) → is_some (if b then o else None) ≡ true → (b ≡ true) × (is_some o ≡ true)
if-some true o e = (refl, e)
if-some false o e = absurd (cc)

-- a list of kinds that one of two tests passes
abbrev OfOneKind : List ℤ → Type 0
OfOneKind zs = (k : Kind) × (list_all (fits k) zs ≡ true)

of-one-kind : (zs : List ℤ) → one_kind zs ≡ true → OfOneKind zs
of-one-kind zs e = by (list_all (fits Int) zs) refl
  where
    by : (b : Bool) → list_all (fits Int) zs ≡ b → OfOneKind zs
    by true h = (Int, h)
    by false h = (UInt, sym (ap (λ x. x || list_all (fits UInt) zs) h) ∙ e)

-- ---- statements with statements inside

module _ (k : Known) where
  choose-checked : (e : Expression) (b other : Body) → Has k.names e ty.Int → checked_body b k ≡ fine → checked_body other k ≡ fine → checked (c.choose e b other) k ≡ fine
  choose-checked e b other h first second =
      ap (λ x. moved 1 (checked_then x (λ t. holds (is_integer t) 3 0)) before moved (1 + marks e) (checked_body b k)
      before moved (1 + (marks e + body_marks b)) (checked_body other k)) h
      ∙ ap (λ x. moved (1 + marks e) x before moved (1 + (marks e + body_marks b)) (checked_body other k)) first
      ∙ ap (moved (1 + (marks e + body_marks b))) second

  loop-checked : (b : Body) → checked_body b (checks.in_a_loop k) ≡ fine → checked (c.loop b) k ≡ fine
  loop-checked b h = ap (moved 1) h

  select-checked : (e : Expression) (is : SwitchItems) → Has k.names e ty.Int → checked_switch is no_labels (checks.in_a_switch k) ≡ fine → checked (c.select e is) k ≡ fine
  select-checked e is h inner =
      ap (λ x. moved 1 (checked_then x (λ t. holds (is_integer t) 3 0)) before moved (1 + marks e) (checked_switch is no_labels (checks.in_a_switch k))) h
      ∙ ap (moved (1 + marks e)) inner

  stated-checked : (ss : List Statement) (is : SwitchItems) (ls : Labels) → AllChecked ss k → checked_switch is ls k ≡ fine → checked_switch (stated_all ss is) ls k ≡ fine
  stated-checked [] is ls h m = m
  stated-checked (s ∷ ss) is ls h m =
      ap (λ x. x before moved (statement_marks s) (checked_switch (stated_all ss is) ls k)) h.0 ∙ ap (moved (statement_marks s)) (stated-checked ss is ls h.1 m)

  label-checked : (z : ℤ) (is : SwitchItems) (ls : Labels) → checks.has_case ls.cases (label z) ≡ false
      → checked_switch is (record ls { cases = label z ∷ ls.cases }) k ≡ fine → checked_switch (c.labelled (constants.Signed (convert Int z)) is) ls k ≡ fine
  label-checked z is ls none h =
      ap (λ b. holds (not b) 8 0 before holds (fits Int (convert Int z)) 11 1 before moved 2 (checked_switch is (record ls { cases = label z ∷ ls.cases }) k)) none
      ∙ ap (λ b. holds b 11 1 before moved 2 (checked_switch is (record ls { cases = label z ∷ ls.cases }) k)) (int-fits z)
      ∙ ap (moved 2) h

  default-checked : (is : SwitchItems) (ls : Labels) → ls.has_default ≡ false → checked_switch is (record ls { has_default = true }) k ≡ fine
      → checked_switch (c.otherwise is) ls k ≡ fine
  default-checked is ls none h = ap (λ b. holds (not b) 8 0 before moved 1 (checked_switch is (record ls { has_default = true }) k)) none ∙ ap (moved 1) h

module _ (names : List Named) (f : Name) (locals : Locals) (result : SourceType) (n d : ℕ) (own : Own names locals.types n d)
    (types : list_all is_local_type locals.types ≡ true) where
  abbrev at : Bool → Bool → Known
  at breaks continues = standing names (result_of result) breaks continues

  -- ---- what is asked of a statement, before which registers hold this and so many flags are in use

  record Right (s : Plain) (g : plain.Keeping) (breaks continues : Bool) (depth : ℕ) : Type 0 where
    ready : ready locals.types result s g ≡ true
    fits : valid.fits locals.types breaks continues s ≡ true
    labels : labels_fit s ≡ true
    bound : bound s ≤ n
    nesting : nesting s + depth ≤ d
    actions : Each (Fits names f) (actions s)
    after : is_some (plain.after locals.types result s g) ≡ true

  record AllRight (ss : Plains) (g : plain.Keeping) (breaks continues : Bool) (depth : ℕ) : Type 0 where
    ready : all_ready locals.types result ss g ≡ true
    fits : valid.all_fit locals.types breaks continues ss ≡ true
    labels : all_labels_fit ss ≡ true
    bound : all_bound ss ≤ n
    nesting : all_nesting ss + depth ≤ d
    actions : Each (Fits names f) (all_actions ss)
    after : is_some (plain.after_all locals.types result ss g) ≡ true

  -- the statements and labels of a switch
  record ItemsRight (ss : Plains) (g : plain.Keeping) (continues : Bool) (depth : ℕ) (ls : Labels) : Type 0 where
    ready : all_ready locals.types result ss g ≡ true
    fits : valid.labelled_fit locals.types continues ss ≡ true
    differ : valid.labels_differ locals.types ss ≡ true
    kinds : OfOneKind (labels ss)
    fresh : Fresh ss ls
    labels : all_labels_fit ss ≡ true
    bound : all_bound ss ≤ n
    nesting : all_nesting ss + depth ≤ d
    actions : Each (Fits names f) (all_actions ss)
    after : is_some (plain.after_all locals.types result ss g) ≡ true

  -- how `break` and `continue` leave
  record Leaves (leaving going_on : List Statement) (breaks continues : Bool) : Type 0 where
    by_break : AllChecked leaving (at breaks continues)
    by_continue : AllChecked going_on (at breaks continues)

  -- ---- flags and results

  flag-checked : (depth m : ℕ) (b e : Bool) → depth < d → m ≤ 1 → checked (flag_set depth m) (at b e) ≡ fine
  flag-checked depth m b e lt small =
      named-assigned (at b e) (flag_name depth) ty.Int (c.constant (int_constant m)) (own.flag depth lt) (count-has names m (omega (arith, small)))

  if-checked : (depth : ℕ) (ss : List Statement) (b e : Bool) → depth < d → AllChecked ss (at b e) → checked (if_flag depth ss) (at b e) ≡ fine
  if-checked depth ss b e lt h =
      choose-checked (at b e) (load (named (flag_name depth))) (block ss) (block []) (value-has names (flag_name depth) (variable.Scalar ty.Int) (own.flag depth lt))
      (block-checked ss (at b e) h) (block-checked [] (at b e) tt)

  result-checked : (e : Expression) (b x : Bool) → ((s : Sort) → sort_of result ≡ Some s → Has names (as_stored s e) (c_type s))
      → AllChecked (given result e) (at b x)
  result-checked e b x has = go (sort_of result) has
    where
      go : (o : Option Sort) → ((s : Sort) → o ≡ Some s → Has names (as_stored s e) (c_type s))
          → AllChecked (if_scalar o (c.give None ∷ []) (λ s. c.give (Some (as_stored s e)) ∷ [])) (standing names (if_scalar o None (λ s. Some (c_type s))) b x)
      go None has = (refl, tt)
      go (Some s) has = (
        ap (λ y. checked_then (moved 1 y) (λ t. holds (fits_given (Some (c_type s)) t (is_zero (as_stored s e))) 6 0)) (has s refl)
            ∙ ap (λ y. holds (y || (is_zero (as_stored s e) && not (is_integer (c_type s)))) 6 0) (type-same (c_type s)),
        tt,
      )

  nothing-checked : (b x : Bool) → AllChecked (no_value result) (at b x)
  nothing-checked b x = result-checked expressions.zero b x (λ s is. zero-stored names s)

  given-checked : (o : Option plain.Kept) (h : Keeping) (r : Register) (b x : Bool) → (y : plain.Kept) → o ≡ Some y → r < n → plain.suits result y ≡ true
      → Told locals y (h r) → AllChecked (given result (value_in h r)) (at b x)
  given-checked o h r b x y e lt suits told =
      result-checked (value_in h r) b x (λ s is. value-suits names f locals result n d own types (result_of result) b x h r result y lt suits told s is)

  returned-checked : (o : Option plain.Kept) (h : Keeping) (r : Register) (b x : Bool) (g : plain.Keeping) → ToldIf locals o (h r) → FitIf n o r
      → is_some (if plain.returned locals.types result o then Some g else None) ≡ true → AllChecked (given result (value_in h r)) (at b x)
  returned-checked None h r b x g told fit s = absurd (cc)
  returned-checked (Some y) h r b x g told fit s =
      given-checked (Some y) h r b x y refl fit.0 (if-some (plain.suits result y) (Some g) s).0 told

  integer-below : (o : Option plain.Kept) (r : Register) → FitIf n o r → plain.integer_in o ≡ true → r < n
  integer-below None r h e = absurd (cc)
  integer-below (Some y) r h e = h.0

  -- ---- one statement after another

  some-first : (o : Option plain.Keeping) (ss : Plains) → is_some (elim o [ None ↦ None | Some h ↦ plain.after_all locals.types result ss h ]) ≡ true → is_some o ≡ true
  some-first None ss e = e
  some-first (Some h) ss e = refl

  first-right : (s : Plain) (ss : Plains) (g : plain.Keeping) (b e : Bool) (depth : ℕ) → AllRight (more s ss) g b e depth → Right s g b e depth
  first-right s ss g b e depth r = record {
    ready = (both (ready locals.types result s g) _ r.ready).0;
    fits = (both (valid.fits locals.types b e s) (valid.all_fit locals.types b e ss) r.fits).0;
    labels = (both (labels_fit s) (all_labels_fit ss) r.labels).0;
    bound = let le : max (bound s) (all_bound ss) ≤ n = r.bound in omega (arith, le);
    nesting = let le : max (nesting s) (all_nesting ss) + depth ≤ d = r.nesting in omega (arith, le);
    actions = each-left (Fits names f) (actions s) (all_actions ss) r.actions;
    after = some-first (plain.after locals.types result s g) ss r.after;
  }

  -- what is asked of the statements behind a statement
  rest-right : (s : Plain) (ss : Plains) (g k : plain.Keeping) (b e : Bool) (depth : ℕ) → AllRight (more s ss) g b e depth
      → plain.after locals.types result s g ≡ Some k → AllRight ss k b e depth
  rest-right s ss g k b e depth r is = record {
    ready = subst (λ o. elim o [ None ↦ false | Some h ↦ all_ready locals.types result ss h ] ≡ true) is (both (ready locals.types result s g) _ r.ready).1;
    fits = (both (valid.fits locals.types b e s) (valid.all_fit locals.types b e ss) r.fits).1;
    labels = (both (labels_fit s) (all_labels_fit ss) r.labels).1;
    bound = let le : max (bound s) (all_bound ss) ≤ n = r.bound in omega (arith, le);
    nesting = let le : max (nesting s) (all_nesting ss) + depth ≤ d = r.nesting in omega (arith, le);
    actions = each-right (Fits names f) (actions s) (all_actions ss) r.actions;
    after = subst (λ o. is_some (elim o [ None ↦ None | Some h ↦ plain.after_all locals.types result ss h ]) ≡ true) is r.after;
  }

  next-checked : (o : Option plain.Keeping) (h : Keeping) (P : Type 0) → is_some o ≡ true → AllToldIf locals o h → GoodIf n o
      → ((k : plain.Keeping) → o ≡ Some k → AllTold locals k h → Good n k → P) → P
  next-checked None h P e told good go = absurd (cc)
  next-checked (Some k) h P e told good go = go k refl told good

  -- ---- statements

  none-told : (h : Keeping) → AllTold locals plain.nothing_set h
  none-told h r = tt

  none-good : Good n plain.nothing_set
  none-good r = tt

  act-some : (o : Option plain.Kept) (F : plain.Kept → plain.Keeping) → is_some (elim o [ None ↦ None | Some x ↦ Some (F x) ]) ≡ true → is_some o ≡ true
  act-some None F e = e
  act-some (Some x) F e = refl

  joined-some : (o p : Option plain.Keeping) → is_some (plain.joined locals.types result o p) ≡ true → (is_some o ≡ true) × (is_some p ≡ true)
  joined-some None p e = absurd (cc)
  joined-some (Some g) None e = absurd (cc)
  joined-some (Some g) (Some h) e = (refl, refl)

  branch-some : (r : Register) (ss ts : Plains) (g : plain.Keeping) (bs cs : Bool) (depth : ℕ) → Right (branch r ss ts) g bs cs depth
      → (plain.integer_in (g r) ≡ true) × (is_some (plain.after_all locals.types result ss g) ≡ true) × (is_some (plain.after_all locals.types result ts g) ≡ true)
  branch-some r ss ts g bs cs depth w =
      let one = if-some (plain.integer_in (g r)) _ w.after in
      let two = joined-some (plain.after_all locals.types result ss g) (plain.after_all locals.types result ts g) one.1 in
      (one.0, two.0, two.1)

  then-right : (r : Register) (ss ts : Plains) (g : plain.Keeping) (bs cs : Bool) (depth : ℕ) → Right (branch r ss ts) g bs cs depth → AllRight ss g bs cs depth
  then-right r ss ts g bs cs depth w = record {
    ready = (both (all_ready locals.types result ss g) (all_ready locals.types result ts g) w.ready).0;
    fits = (both (valid.all_fit locals.types bs cs ss) (valid.all_fit locals.types bs cs ts) w.fits).0;
    labels = (both (all_labels_fit ss) (all_labels_fit ts) w.labels).0;
    bound = let le : max (all_bound ss) (all_bound ts) ≤ n = w.bound in omega (arith, le);
    nesting = let le : max (all_nesting ss) (all_nesting ts) + depth ≤ d = w.nesting in omega (arith, le);
    actions = each-left (Fits names f) (all_actions ss) (all_actions ts) w.actions;
    after = (branch-some r ss ts g bs cs depth w).1;
  }

  else-right : (r : Register) (ss ts : Plains) (g : plain.Keeping) (bs cs : Bool) (depth : ℕ) → Right (branch r ss ts) g bs cs depth → AllRight ts g bs cs depth
  else-right r ss ts g bs cs depth w = record {
    ready = (both (all_ready locals.types result ss g) (all_ready locals.types result ts g) w.ready).1;
    fits = (both (valid.all_fit locals.types bs cs ss) (valid.all_fit locals.types bs cs ts) w.fits).1;
    labels = (both (all_labels_fit ss) (all_labels_fit ts) w.labels).1;
    bound = let le : max (all_bound ss) (all_bound ts) ≤ n = w.bound in omega (arith, le);
    nesting = let le : max (all_nesting ss) (all_nesting ts) + depth ≤ d = w.nesting in omega (arith, le);
    actions = each-right (Fits names f) (all_actions ss) (all_actions ts) w.actions;
    after = (branch-some r ss ts g bs cs depth w).2;
  }

  both-some : (a b : Bool) (g : plain.Keeping) → is_some (if a && b then Some g else None) ≡ true → (a ≡ true) × (b ≡ true)
  both-some true true g e = (refl, refl)
  both-some true false g e = absurd (cc)
  both-some false b g e = absurd (cc)

  -- the statements of a turn, so many flags being in use there
  turn-right : (ss ts : Plains) (g : plain.Keeping) (bs cs : Bool) (depth inner : ℕ) → Right (loop ss ts) g bs cs depth → all_nesting ss + inner ≤ d
      → AllRight ss plain.nothing_set true true inner
  turn-right ss ts g bs cs depth inner w small = record {
    ready = (both (all_ready locals.types result ss plain.nothing_set) (all_ready locals.types result ts plain.nothing_set) w.ready).0;
    fits = (both (valid.all_fit locals.types true true ss) (valid.all_fit locals.types true false ts) w.fits).0;
    labels = (both (all_labels_fit ss) (all_labels_fit ts) w.labels).0;
    bound = let le : max (all_bound ss) (all_bound ts) ≤ n = w.bound in omega (arith, le);
    nesting = small;
    actions = each-left (Fits names f) (all_actions ss) (all_actions ts) w.actions;
    after = (both-some (is_some (plain.after_all locals.types result ss plain.nothing_set)) (is_some (plain.after_all locals.types result ts plain.nothing_set)) plain.nothing_set w.after).0;
  }

  step-right : (ss ts : Plains) (g : plain.Keeping) (bs cs : Bool) (depth : ℕ) → Right (loop ss ts) g bs cs depth → all_nesting ts + depth ≤ d
      → AllRight ts plain.nothing_set true false depth
  step-right ss ts g bs cs depth w small = record {
    ready = (both (all_ready locals.types result ss plain.nothing_set) (all_ready locals.types result ts plain.nothing_set) w.ready).1;
    fits = (both (valid.all_fit locals.types true true ss) (valid.all_fit locals.types true false ts) w.fits).1;
    labels = (both (all_labels_fit ss) (all_labels_fit ts) w.labels).1;
    bound = let le : max (all_bound ss) (all_bound ts) ≤ n = w.bound in omega (arith, le);
    nesting = small;
    actions = each-right (Fits names f) (all_actions ss) (all_actions ts) w.actions;
    after = (both-some (is_some (plain.after_all locals.types result ss plain.nothing_set)) (is_some (plain.after_all locals.types result ts plain.nothing_set)) plain.nothing_set w.after).1;
  }

  switch-right : (r : Register) (ss : Plains) (g : plain.Keeping) (bs cs : Bool) (depth : ℕ) → Right (switch r ss) g bs cs depth
      → ItemsRight ss plain.nothing_set cs (suc depth) no_labels
  switch-right r ss g bs cs depth w =
      let two = both (valid.labels_differ locals.types ss) (valid.labelled_fit locals.types cs ss) w.fits in
      let fit = both (one_kind (labels ss)) (all_labels_fit ss) w.labels in
      record {
        ready = w.ready;
        fits = two.1;
        differ = two.0;
        kinds = of-one-kind (labels ss) fit.0;
        fresh = all-fresh ss;
        labels = fit.1;
        bound = w.bound;
        nesting = let le : suc (all_nesting ss) + depth ≤ d = w.nesting in omega (arith, le);
        actions = w.actions;
        after = (both-some (plain.integer_in (g r)) (is_some (plain.after_all locals.types result ss plain.nothing_set)) (plain.untouched g ss) w.after).1;
      }

  not-label : (a b x : Bool) → a ≡ false → ((a || b) && x) ≡ true → (b ≡ true) × (x ≡ true)
  not-label true b x h e = absurd (cc)
  not-label false b x h e = both b x e

  -- of a statement among the labels of a switch
  item-right : (s : Plain) (ss : Plains) (g : plain.Keeping) (cs : Bool) (depth : ℕ) (ls : Labels) → valid.is_label locals.types s ≡ false
      → ItemsRight (more s ss) g cs depth ls → Right s g true cs depth
  item-right s ss g cs depth ls isnt w = record {
    ready = (both (ready locals.types result s g) _ w.ready).0;
    fits = (not-label (valid.is_label locals.types s) (valid.fits locals.types true cs s) (valid.labelled_fit locals.types cs ss) isnt w.fits).0;
    labels = (both (labels_fit s) (all_labels_fit ss) w.labels).0;
    bound = let le : max (bound s) (all_bound ss) ≤ n = w.bound in omega (arith, le);
    nesting = let le : max (nesting s) (all_nesting ss) + depth ≤ d = w.nesting in omega (arith, le);
    actions = each-left (Fits names f) (actions s) (all_actions ss) w.actions;
    after = some-first (plain.after locals.types result s g) ss w.after;
  }

  items-right : (s : Plain) (ss : Plains) (g k : plain.Keeping) (cs : Bool) (depth : ℕ) (ls new : Labels) → ItemsRight (more s ss) g cs depth ls
      → plain.after locals.types result s g ≡ Some k → valid.labels_differ locals.types ss ≡ true → OfOneKind (labels ss) → Fresh ss new
      → ItemsRight ss k cs depth new
  items-right s ss g k cs depth ls new w is differ kinds fresh = record {
    ready = subst (λ o. elim o [ None ↦ false | Some h ↦ all_ready locals.types result ss h ] ≡ true) is (both (ready locals.types result s g) _ w.ready).1;
    fits = (both (valid.is_label locals.types s || valid.fits locals.types true cs s) (valid.labelled_fit locals.types cs ss) w.fits).1;
    differ = differ;
    kinds = kinds;
    fresh = fresh;
    labels = (both (labels_fit s) (all_labels_fit ss) w.labels).1;
    bound = let le : max (bound s) (all_bound ss) ≤ n = w.bound in omega (arith, le);
    nesting = let le : max (nesting s) (all_nesting ss) + depth ≤ d = w.nesting in omega (arith, le);
    actions = each-right (Fits names f) (actions s) (all_actions ss) w.actions;
    after = subst (λ o. is_some (elim o [ None ↦ None | Some h ↦ plain.after_all locals.types result ss h ]) ≡ true) is w.after;
  }

  loop-leaves : Leaves (c.leave ∷ []) (c.next ∷ []) true true
  loop-leaves = record { by_break = (refl, tt); by_continue = (refl, tt) }

  stepped-leaves : (depth : ℕ) → depth < d → Leaves (flag_set depth 1 ∷ c.leave ∷ []) (c.leave ∷ []) true true
  stepped-leaves depth lt = record { by_break = (flag-checked depth 1 true true lt (omega arith), (refl, tt)); by_continue = (refl, tt) }

  switch-leaves : (depth : ℕ) (e : Bool) → depth < d → Leaves (c.leave ∷ []) (flag_set depth 1 ∷ c.leave ∷ []) true e
  switch-leaves depth e lt = record { by_break = (refl, tt); by_continue = (flag-checked depth 1 true e lt (omega arith), (refl, tt)) }

  step-depth : (a b depth : ℕ) → max (suc a) b + depth ≤ d → (depth < d) × (a + suc depth ≤ d) × (b + depth ≤ d)
  step-depth a b depth le = (omega (arith, le), omega (arith, le), omega (arith, le))

  mutual
    statement-checked : (s : Plain) (depth : ℕ) (leaving going_on : List Statement) (b e bs cs : Bool) (g : plain.Keeping) (h : Keeping) → AllTold locals g h
        → Good n g → Right s g bs cs depth → Leaves leaving going_on b e
        → AllChecked (lowered s (inside_at f result locals depth leaving going_on) h) (at b e)
    statement-checked (act a) depth lv go b e bs cs g h told good w x =
        done-checked names f locals result n d own types (result_of result) b e g h told good depth lv go a w.fits w.actions.0
        (act-some (plain.kept_by locals.types result g a) (λ y. g) w.after)
    statement-checked (set r a) depth lv go b e bs cs g h told good w x =
        kept-checked names f locals result n d own types (result_of result) b e g h told good depth lv go r a w.bound w.ready w.fits w.actions.0
        (act-some (plain.kept_by locals.types result g a) (λ y. plain.keep g r y) w.after)
    statement-checked (branch r ss ts) depth lv go b e bs cs g h told good w x = (
      choose-checked (at b e) (integer_in r) (block (all_lowered ss (inside_at f result locals depth lv go) h)) (block (all_lowered ts (inside_at f result locals depth lv go) h))
          (integer-has names f locals result n d own types r (integer-below (g r) r (good r) (branch-some r ss ts g bs cs depth w).0))
          (block-checked (all_lowered ss (inside_at f result locals depth lv go) h) (at b e)
          (list-checked ss depth lv go b e bs cs g h told good (then-right r ss ts g bs cs depth w) x))
          (block-checked (all_lowered ts (inside_at f result locals depth lv go) h) (at b e)
          (list-checked ts depth lv go b e bs cs g h told good (else-right r ss ts g bs cs depth w) x)),
      tt,
    )
    statement-checked (loop ss nothing) depth lv go b e bs cs g h told good w x = (
      loop-checked (at b e) (block (all_lowered ss (inside_at f result locals depth (c.leave ∷ []) (c.next ∷ [])) (untouched locals h ss)))
          (block-checked (all_lowered ss (inside_at f result locals depth (c.leave ∷ []) (c.next ∷ [])) (untouched locals h ss)) (at true true)
          (list-checked ss depth (c.leave ∷ []) (c.next ∷ []) true true true true plain.nothing_set (untouched locals h ss) (none-told (untouched locals h ss)) none-good
          (turn-right ss nothing g bs cs depth depth w w.nesting) loop-leaves)),
      tt,
    )
    statement-checked (loop ss ts) depth lv go b e bs cs g h told good w x =
        let k = untouched locals (untouched locals h ss) ts in
        let small = step-depth (all_nesting ss) (all_nesting ts) depth w.nesting in
        let inner = all_lowered ss (inside_at f result locals (suc depth) (flag_set depth 1 ∷ c.leave ∷ []) (c.leave ∷ [])) k in
        let steps = all_lowered ts (inside_at f result locals depth (c.leave ∷ []) (c.next ∷ [])) k in
        let turn : List Statement = flag_set depth 0 ∷ c.select expressions.zero (c.otherwise (stated_all inner c.closed)) ∷ if_flag depth (c.leave ∷ []) ∷ steps in (
          loop-checked (at b e) (block turn)
              (block-checked turn (at true true) (
                flag-checked depth 0 true true small.0 (omega arith),
                (
                  select-checked (at true true) expressions.zero (c.otherwise (stated_all inner c.closed)) refl
                      (default-checked (at true true) (stated_all inner c.closed) no_labels refl
                      (stated-checked (at true true) inner c.closed (record no_labels { has_default = true })
                      (list-checked ss (suc depth) (flag_set depth 1 ∷ c.leave ∷ []) (c.leave ∷ []) true true true true plain.nothing_set k (none-told k) none-good
                      (turn-right ss ts g bs cs depth (suc depth) w small.1) (stepped-leaves depth small.0)) refl)),
                  (
                    if-checked depth (c.leave ∷ []) true true small.0 (refl, tt),
                    list-checked ts depth (c.leave ∷ []) (c.next ∷ []) true true true false plain.nothing_set k (none-told k) none-good
                        (step-right ss ts g bs cs depth w small.2) loop-leaves,
                  ),
                ),
              )),
          tt,
        )
    statement-checked (switch r ss) depth lv go b e bs cs g h told good w x =
        let k = untouched locals h ss in
        let lt : depth < d = (let le : suc (all_nesting ss) + depth ≤ d = w.nesting in omega (arith, le)) in
        let is-number = both-some (plain.integer_in (g r)) (is_some (plain.after_all locals.types result ss plain.nothing_set)) (plain.untouched g ss) w.after in (
          flag-checked depth 0 b e lt (omega arith),
          (
            select-checked (at b e) (integer_in r) (items ss (inside_at f result locals (suc depth) (c.leave ∷ []) (flag_set depth 1 ∷ c.leave ∷ [])) k k)
                (integer-has names f locals result n d own types r (integer-below (g r) r (good r) is-number.0))
                (items-checked ss (suc depth) (c.leave ∷ []) (flag_set depth 1 ∷ c.leave ∷ []) e cs plain.nothing_set k k no_labels (none-told k) none-good
                (switch-right r ss g bs cs depth w) (switch-leaves depth e lt)),
            (if-checked depth go b e lt x.by_continue, tt),
          ),
        )
    statement-checked (case_label z) depth lv go b e bs cs g h told good w x = tt
    statement-checked default_label depth lv go b e bs cs g h told good w x = tt
    statement-checked leave depth lv go b e bs cs g h told good w x = x.by_break
    statement-checked continue depth lv go b e bs cs g h told good w x = x.by_continue
    statement-checked (give None) depth lv go b e bs cs g h told good w x = nothing-checked b e
    statement-checked (give (Some r)) depth lv go b e bs cs g h told good w x = returned-checked (g r) h r b e g (told r) (good r) w.after
    statement-checked (parts ps) depth lv go b e bs cs g h told good w x = tt

    list-checked : (ss : Plains) (depth : ℕ) (leaving going_on : List Statement) (b e bs cs : Bool) (g : plain.Keeping) (h : Keeping) → AllTold locals g h
        → Good n g → AllRight ss g bs cs depth → Leaves leaving going_on b e
        → AllChecked (all_lowered ss (inside_at f result locals depth leaving going_on) h) (at b e)
    list-checked nothing depth lv go b e bs cs g h told good w x = tt
    list-checked (more s ss) depth lv go b e bs cs g h told good w x =
        let here = inside_at f result locals depth lv go in
        let one = first-right s ss g bs cs depth w in
        all-append (lowered s here h) (all_lowered ss here (after locals s h)) (at b e)
        (statement-checked s depth lv go b e bs cs g h told good one x)
        (next-checked (plain.after locals.types result s g) (after locals s h) (AllChecked (all_lowered ss here (after locals s h)) (at b e)) one.after
        (statement-told locals result s g h told one.ready) (statement-good n locals.types result types names f s g good one.bound one.actions)
        (λ k is known fit. list-checked ss depth lv go b e bs cs k (after locals s h) known fit (rest-right s ss g k bs cs depth w is) x))

    items-checked : (ss : Plains) (depth : ℕ) (leaving going_on : List Statement) (e cs : Bool) (g : plain.Keeping) (k h : Keeping) (ls : Labels) → AllTold locals g h
        → Good n g → ItemsRight ss g cs depth ls → Leaves leaving going_on true e
        → checked_switch (items ss (inside_at f result locals depth leaving going_on) k h) ls (at true e) ≡ fine
    items-checked nothing depth lv go e cs g k h ls told good w x = refl
    items-checked (more (case_label z) ss) depth lv go e cs g k h ls told good w x =
        let differ = both (not (has_case z ss)) (valid.labels_differ locals.types ss) w.differ in
        let kinds = w.kinds in
        let fits-it = both (fits kinds.0 z) (list_all (fits kinds.0) (labels ss)) kinds.1 in
        label-checked (at true e) z (items ss (inside_at f result locals depth lv go) k k) ls w.fresh.0
        (items-checked ss depth lv go e cs plain.nothing_set k k (record ls { cases = label z ∷ ls.cases }) (none-told k) none-good
        (items-right (case_label z) ss g plain.nothing_set cs depth ls (record ls { cases = label z ∷ ls.cases }) w refl differ.1 (kinds.0, fits-it.1)
        (with-case kinds.0 z ls ss fits-it.0 fits-it.1 (no-not (has_case z ss) differ.0) w.fresh.1)) x)
    items-checked (more default_label ss) depth lv go e cs g k h ls told good w x =
        let differ = both (not (valid.has_default locals.types ss)) (valid.labels_differ locals.types ss) w.differ in
        default-checked (at true e) (items ss (inside_at f result locals depth lv go) k k) ls w.fresh.0
        (items-checked ss depth lv go e cs plain.nothing_set k k (record ls { has_default = true }) (none-told k) none-good
        (items-right default_label ss g plain.nothing_set cs depth ls (record ls { has_default = true }) w refl differ.1 w.kinds
        (with-default locals.types ls ss (no-not (valid.has_default locals.types ss) differ.0) w.fresh.1)) x)
    items-checked (more s ss) depth lv go e cs g k h ls told good w x =
        let here = inside_at f result locals depth lv go in
        let one = item-right s ss g cs depth ls refl w in
        stated-checked (at true e) (lowered s here h) (items ss here k (after locals s h)) ls
        (statement-checked s depth lv go true e true cs g h told good one x)
        (next-checked (plain.after locals.types result s g) (after locals s h) (checked_switch (items ss here k (after locals s h)) ls (at true e) ≡ fine) one.after
        (statement-told locals result s g h told one.ready) (statement-good n locals.types result types names f s g good one.bound one.actions)
        (λ m is known fit. items-checked ss depth lv go e cs m k (after locals s h) ls known fit (items-right s ss g m cs depth ls ls w is w.differ w.kinds w.fresh) x))

-- ---- functions

pub body-valid : (names : List Named) (f : PlainFunction) → Stands names f → BodyIsValid names f
body-valid names f x =
    let locals = locals_of f in
    let result = result_type f.type in
    in-order (all_lowered f.body (inside [] f) nothing_kept ++ no_value result) (standing names (result_of result) false false)
    (all-append (all_lowered f.body (inside [] f) nothing_kept) (no_value result) (standing names (result_of result) false false)
    (list-checked names f.name locals result (all_bound f.body) (all_nesting f.body) x.own x.types f.body 0 [] [] false false false false plain.nothing_set nothing_kept
    (λ r. tt) (λ r. tt)
    (record {
      ready = x.ready;
      fits = x.fit;
      labels = x.labels;
      bound = omega arith;
      nesting = omega arith;
      actions = x.actions;
      after = x.kept;
    })
    (record { by_break = tt; by_continue = tt }))
    (nothing-checked names f.name locals result (all_bound f.body) (all_nesting f.body) x.own x.types false false))

-- The items of valid units, as linking places and keeps them, keep rules V1 to V12.
use Rattle.std.proofs.Common.{◌≡◌, ℕ, suc, Bool, true, false, not, ◌&&◌, ◌||◌, cond, List, [], ◌∷◌, ◌++◌, Option, Some, None, option_map, map, refl, ap, sym, subst, ◌∙◌, append_assoc, append-nil}
use Rattle.std.specs.Prelude.{bytes_eq, codes, find}
use Rattle.std.specs.List.{list_any, list_all}
use Rattle.std.proofs.lemmas.Bool.{and_parts, true≢false}
use Rattle.std.proofs.lemmas.Slice.Eq.{bytes_eq-Decides}
use Rattle.cc_whole.specs.declared.unit.CItem.{CItem}
use Rattle.cc_whole.specs.declared.unit.CItem.TheVariants as item
use Rattle.cc_whole.specs.declared.unit.CUnit.{CUnit}
use Rattle.cc_whole.specs.Plain.{item_of, items_of, name_of}
use Rattle.cc_whole.specs.Landmarks.{item_marks}
use Rattle.cc_whole.specs.Fault.{fine, holds}
use Rattle.cc_whole.specs.Known.{Meant, function, object, Named, lookup, is_in, is_library}
use Rattle.cc_whole.specs.Spellable.{spellable_items, spellable_version}
use Rattle.cc_whole.specs.Valid.{agrees, own_type, has_type, named_by, is_definition, defined_after, checked_name, checked_item, checked_items, first_fault}
use Rattle.cc_whole.specs.ValidUnit.{keeps, valid_items, valid_unit}
use Rattle.cc_whole_link.specs.Rename.{Renaming, item_renamed}
use Rattle.cc_whole_link.specs.Placed.{Placed, placed, placed_units, statics, longer, static_renaming, its_name, old_name, defines_it, is_shared, defines_named, inner_names}
use Rattle.cc_whole_link.specs.Link.{Refusal, second, clashes, captured, second_definition, other_type, Breaks, FirstBroken, repeats, kept_items, undefined_use}
use Rattle.cc_whole_link.specs.Link as link
use Rattle.cc_whole_linked_valid.proofs.Checks.{keeps_fine, holds_true, both_fine, first_fine, second_fine, moved_fine, fine_moved}
use Rattle.cc_whole_linked_valid.proofs.Same.{Same, functions, same_self, same_through, Meets, nothing, both}
use Rattle.cc_whole_linked_valid.proofs.Names.{Names, Fits}
use Rattle.cc_whole_linked_valid.proofs.Words.{unit_mild, unit_goes, unit_type, has_digit, static_digit}
use Rattle.cc_whole_linked_valid.proofs.Items.{named_name, same_type_has, item_kept}
use Rattle.cc_whole_linked_valid.proofs.Program.{newest, meant_by, Each, each_more, Behind, behind_nothing, agrees_here, behind_kept, behind_left, standing_left}

-- ---- items that break nothing

pub record Unbroken (before : List Placed) (i : Placed) : Type 0 where
  pub types : list_any (other_type i) before ≡ false
  pub once : second_definition before i ≡ None

breaks_nothing : (all before : List Placed) (i : Placed) (r : Option Refusal) → Breaks all before i r → r ≡ None → Unbroken before i
breaks_nothing all before i _ (link.Breaks.undefined name u) e = absurd (cc)
breaks_nothing all before i _ (link.Breaks.twice name u t) e = absurd (cc)
breaks_nothing all before i _ (link.Breaks.shared u t d) e = absurd (cc)
breaks_nothing all before i _ (link.Breaks.typed u t d k) e = absurd (cc)
breaks_nothing all before i _ (link.Breaks.kept u t d k) e = record { types = k; once = t }

record Onward (all before : List Placed) (i : Placed) (rest : List Placed) : Type 0 where
  here : Unbroken before i
  later : FirstBroken all (before ++ i ∷ []) rest None

onward : (all before : List Placed) (i : Placed) (rest : List Placed) (r : Option Refusal) → FirstBroken all before (i ∷ rest) r → r ≡ None → Onward all before i rest
onward all _ _ _ _ (link.FirstBroken.here before i rest r b) e = absurd (cc)
onward all _ _ _ _ (link.FirstBroken.later before i rest r b f) e =
    record { here = breaks_nothing all before i None b refl; later = subst (FirstBroken all (before ++ i ∷ []) rest) e f }

-- neither defined twice, nor with a parameter or local of a longer name
record NotTwice (before : List Placed) (i : Placed) : Type 0 where
  alone : (defines_it i && list_any (second i) before) ≡ false
  free : captured i ≡ None

not_twice : (before : List Placed) (i : Placed) → second_definition before i ≡ None → NotTwice before i
not_twice before i e = go (defines_it i && list_any (second i) before) refl (list_any (clashes i) before) e
  where
    go : (a : Bool) → (defines_it i && list_any (second i) before) ≡ a → (b : Bool) → cond a (Some (its_name i)) (cond b (Some (codes "main")) (captured i)) ≡ None → NotTwice before i
    go true is b f = absurd (cc)
    go false is true f = absurd (cc)
    go false is false f = record { alone = is; free = f }

found_none : (test : List ℕ → Bool) (names : Names) → find test names ≡ None → list_all (λ n. not (test n)) names ≡ true
found_none test [] e = refl
found_none test (n ∷ names) e = go (found_none test names) (test n) e
  where
    go : (find test names ≡ None → list_all (λ n. not (test n)) names ≡ true) → (b : Bool) → cond b (Some n) (find test names) ≡ None → (not b && list_all (λ n. not (test n)) names) ≡ true
    go again true f = absurd (cc)
    go again false f = again f

-- what is kept is defined for the first time
none_before : (i : Placed) (before : List Placed) → list_any (second i) before ≡ false → list_any (λ b. defines_named (its_name i) b && (is_shared i && is_shared b)) before ≡ false
    → list_any (defines_named (its_name i)) before ≡ false
none_before i [] e f = refl
none_before i (b ∷ before) e f = go (none_before i before) (defines_named (its_name i) b) (is_shared i && is_shared b) e f
  where
    go : (list_any (second i) before ≡ false → list_any (λ b. defines_named (its_name i) b && (is_shared i && is_shared b)) before ≡ false → list_any (defines_named (its_name i)) before ≡ false)
        → (d s : Bool) → ((d && not s) || list_any (second i) before) ≡ false → ((d && s) || list_any (λ b. defines_named (its_name i) b && (is_shared i && is_shared b)) before) ≡ false
        → (d || list_any (defines_named (its_name i)) before) ≡ false
    go again true true g h = absurd (true≢false h)
    go again true false g h = absurd (true≢false g)
    go again false s g h = again g h

first_time : (before : List Placed) (names : List Named) (defined : Names) (i : Placed) → Behind before names defined → (defines_it i && list_any (second i) before) ≡ false
    → repeats before i ≡ false → (is_definition (item_of i.now) && is_in defined (its_name i)) ≡ false
first_time before names defined i h e f = go (defines_it i) e f
  where
    go : (d : Bool) → (d && list_any (second i) before) ≡ false → (d && list_any (λ b. defines_named (its_name i) b && (is_shared i && is_shared b)) before) ≡ false
        → (d && is_in defined (its_name i)) ≡ false
    go true g k = h.once (its_name i) (none_before i before g k)
    go false g k = refl

-- ---- an item of a unit

name_of_renamed : (i : CItem) (r : Renaming) → name_of (item_of (item_renamed i r)) ≡ r (name_of (item_of i))
name_of_renamed (item.Prototype p) r = refl
name_of_renamed (item.Extern t name) r = refl
name_of_renamed (item.Function f) r = refl
name_of_renamed (item.Variable v) r = refl

same_renamed : (i : CItem) (r : Renaming) → Same (named_by (item_of i)).meant (named_by (item_of (item_renamed i r))).meant
same_renamed (item.Prototype p) r = functions _ _ refl
same_renamed (item.Extern t name) r = same_self (object t)
same_renamed (item.Function f) r = functions _ _ refl
same_renamed (item.Variable v) r = same_self (object v.ty)

typed_name_of : (names : List Named) (defined : Names) (d : Bool) (x : List ℕ) (m : Meant) (p : ℕ) → checked_name names defined d x m p ≡ fine → has_type (own_type x) m ≡ true
typed_name_of names defined d x m p e =
    (and_parts (has_type (own_type x) m) (not (d && is_library x)) (holds_true _ 10 p (second_fine (holds (agrees (lookup names x) m && not (d && is_in defined x)) 2 p) _ tt e))).0

-- V10 of the name of an item
typed_item : (i : CItem) (names : List Named) (defined : Names) → checked_item (item_of i) names defined ≡ fine → has_type (own_type (name_of (item_of i))) (named_by (item_of i)).meant ≡ true
typed_item (item.Prototype p) names defined e = typed_name_of names defined false p.name (function p) _ (first_fine _ _ tt e)
typed_item (item.Extern t x) names defined e = typed_name_of names defined false x (object t) _ (first_fine _ _ tt e)
typed_item (item.Function f) names defined e =
    typed_name_of names defined true f.prototype.name (function f.prototype) _ (first_fine _ _ tt (first_fine _ _ tt (second_fine _ _ tt e)))
typed_item (item.Variable v) names defined e =
    typed_name_of names defined true v.name (object v.ty) _ (first_fine _ _ tt (first_fine _ _ tt (fine_moved _ _ (second_fine _ _ tt e))))

-- what is known of each placed item: its name had the type of its own, and is no word if it was static
pub record Placing (p : Placed) : Type 0 where
  pub own : has_type (own_type (old_name p)) (meant_by p) ≡ true
  pub longer : p.is_static ≡ true → has_digit (its_name p) ≡ true

module _ (unit : ℕ) (names : Names) where
  abbrev r : Renaming
  r = static_renaming unit names

  abbrev Meeting : List Named → List Named → Type 0
  Meeting old new = (x : List ℕ) → Meets (lookup old x) (lookup new (r x))

  fits : (old new : List Named) → Meeting old new → Fits (map (longer unit) names) old new r
  fits old new m = record { meets = m; mild = unit_mild unit names; goes = unit_goes unit names }

  module _ (i : CItem) where
    abbrev was : Named
    was = named_by (item_of i)

    abbrev now : Named
    now = named_by (item_of (item_renamed i r))

    renamed_name : now.name ≡ r was.name
    renamed_name = named_name (item_of (item_renamed i r)) ∙ name_of_renamed i r ∙ ap r (sym (named_name (item_of i)))

    -- the item's name means among the old names what it means among the new ones
    newly : (old new : List Named) → Meeting old new → (x : List ℕ) → (bytes_eq was.name x ≡ true → Meets (Some was.meant) (lookup new (r x))) → Meets (lookup (was ∷ old) x) (lookup new (r x))
    newly old new m x h = go (bytes_eq was.name x) refl
      where
        go : (b : Bool) → bytes_eq was.name x ≡ b → Meets (option_map (λ (y : Named). y.meant) (cond b (Some was) (find (λ (y : Named). bytes_eq y.name x) old))) (lookup new (r x))
        go true is = h is
        go false is = m x

    -- ---- where the item is kept

    module _ (old new : List Named) (m : Meeting old new) (agrees_there : agrees (lookup new (name_of (item_of (item_renamed i r)))) now.meant ≡ true) where
      first_now : (x : List ℕ) → bytes_eq was.name x ≡ true → Meets (Some was.meant) (lookup (now ∷ new) (r x))
      first_now x is = go (bytes_eq now.name (r x)) ((bytes_eq-Decides now.name (r x)).1 (renamed_name ∙ ap r ((bytes_eq-Decides was.name x).0 is)))
        where
          go : (b : Bool) → b ≡ true → Meets (Some was.meant) (option_map (λ (y : Named). y.meant) (cond b (Some now) (find (λ (y : Named). bytes_eq y.name (r x)) new)))
          go true e = both was.meant now.meant (same_renamed i r)
          go false e = absurd (true≢false (sym e))

      later_now : (x : List ℕ) → Meets (lookup old x) (lookup (now ∷ new) (r x))
      later_now x =
          newest (lookup old x) now new (r x) (m x)
          (λ is. subst (λ y. agrees (lookup new y) now.meant ≡ true) (sym (named_name (item_of (item_renamed i r))) ∙ (bytes_eq-Decides now.name (r x)).0 is) agrees_there)

      meeting_kept : Meeting (was ∷ old) (now ∷ new)
      meeting_kept x = go (bytes_eq was.name x) refl
        where
          go : (b : Bool) → bytes_eq was.name x ≡ b → Meets (option_map (λ (y : Named). y.meant) (cond b (Some was) (find (λ (y : Named). bytes_eq y.name x) old))) (lookup (now ∷ new) (r x))
          go true is = first_now x is
          go false is = later_now x

    -- ---- where it is left out

    meeting_left : (old new : List Named) → Meeting old new → Meets (Some now.meant) (lookup new (name_of (item_of (item_renamed i r)))) → Meeting (was ∷ old) new
    meeting_left old new m s x =
        newly old new m x (λ is. subst (λ y. Meets (Some was.meant) (lookup new y)) (name_of_renamed i r ∙ ap r (sym (named_name (item_of i)) ∙ (bytes_eq-Decides was.name x).0 is)) (through s))
      where
        through : {o : Option Meant} → Meets (Some now.meant) o → Meets (Some was.meant) o
        through (both _ n t) = both was.meant n (same_through (same_renamed i r) t)

    -- ---- what is known of it

    placing : (old : List Named) (olds : Names) → checked_item (item_of i) old olds ≡ fine → Placing (placed unit names i)
    placing old olds e = record {
      own = sym (same_type_has (own_type (name_of (item_of i))) (same_renamed i r)) ∙ typed_item i old olds e;
      longer = λ is. ap has_digit (name_of_renamed i r) ∙ static_digit unit names (name_of (item_of i)) is;
    }

    own_now : (old : List Named) (olds : Names) → checked_item (item_of i) old olds ≡ fine → has_type (own_type (its_name (placed unit names i))) now.meant ≡ true
    own_now old olds e =
        ap (λ x. has_type (own_type x) now.meant) (name_of_renamed i r)
        ∙ unit_type unit names (name_of (item_of i)) now.meant (sym (same_type_has (own_type (name_of (item_of i))) (same_renamed i r)) ∙ typed_item i old olds e)

-- ---- all items

-- where linking has gone over all placed items
module _ (all : List Placed) (tail : List CItem) where
  abbrev Then : List Placed → Type 0
  Then more = (before : List Placed) (names : List Named) (defined : Names) → Behind before names defined → Each Placing before → before ++ more ≡ all → FirstBroken all before more None
      → checked_items (items_of (kept_items before more ++ tail)) names defined ≡ fine

  module _ (unit : ℕ) (fixed : Names) (more : List Placed) (next : Then more) where
    abbrev Walks : List CItem → Type 0
    Walks items = (old : List Named) (olds : Names) (before : List Placed) (names : List Named) (defined : Names) → Meeting unit fixed old names
        → checked_items (items_of items) old olds ≡ fine → Behind before names defined → Each Placing before → before ++ (map (placed unit fixed) items ++ more) ≡ all
        → FirstBroken all before (map (placed unit fixed) items ++ more) None → checked_items (items_of (kept_items before (map (placed unit fixed) items ++ more) ++ tail)) names defined ≡ fine

    walk_items : (items : List CItem) → Walks items
    walk_items [] old olds before names defined m e h p parts f = next before names defined h p parts f
    walk_items (i ∷ items) old olds before names defined m e h p parts f = go (walk_items items) (repeats before here) refl
      where
        here : Placed
        here = placed unit fixed i

        rest : List Placed
        rest = map (placed unit fixed) items ++ more

        onto : Onward all before here rest
        onto = onward all before here rest None f refl

        own : checked_item (item_of i) old olds ≡ fine
        own = first_fine (checked_item (item_of i) old olds) _ tt e

        others : checked_items (items_of items) (named_by (item_of i) ∷ old) (defined_after (item_of i) olds) ≡ fine
        others = fine_moved (item_marks (item_of i)) _ (second_fine (checked_item (item_of i) old olds) _ tt e)

        placings : Each Placing (before ++ here ∷ [])
        placings = each_more Placing before (here ∷ []) p (placing unit fixed i old olds own, tt)

        reached : (before ++ here ∷ []) ++ rest ≡ all
        reached = append_assoc before (here ∷ []) rest ∙ parts

        types : list_any (other_type here) before ≡ false
        types = onto.here.types

        there : agrees (lookup names (its_name here)) (meant_by here) ≡ true
        there = agrees_here before names defined h here types

        twice : NotTwice before here
        twice = not_twice before here onto.here.once

        go : Walks items → (b : Bool) → repeats before here ≡ b
            → checked_items (items_of (cond b (kept_items (before ++ here ∷ []) rest) (here.now ∷ kept_items (before ++ here ∷ []) rest) ++ tail)) names defined ≡ fine
        go again true is =
            again (named_by (item_of i) ∷ old) (defined_after (item_of i) olds) (before ++ here ∷ []) names defined
            (meeting_left unit fixed i old names m (standing_left before names defined h here types is)) others (behind_left before names defined h here types is) placings reached onto.later
        go again false is =
            both_fine (checked_item (item_of here.now) names defined) _
            (item_kept unit fixed i old names olds defined
            (fits unit fixed (named_by (item_of i) ∷ old) (named_by (item_of here.now) ∷ names) (meeting_kept unit fixed i old names m there))
            (record { agrees_there = there; once = first_time before names defined here h twice.alone is })
            (found_none (is_in (map (longer unit) fixed)) (inner_names (item_of i)) twice.free) own)
            (moved_fine (item_marks (item_of here.now)) _
            (again (named_by (item_of i) ∷ old) (defined_after (item_of i) olds) (before ++ here ∷ []) (named_by (item_of here.now) ∷ names) (defined_after (item_of here.now) defined)
            (meeting_kept unit fixed i old names m there) others (behind_kept before names defined h here types (own_now unit fixed i old olds own)) placings reached onto.later))

  -- what holds of the items behind those of the units holds where all units were gone over
  walk_units : (n : ℕ) (units : List CUnit) → list_all valid_unit units ≡ true
      → ((names : List Named) (defined : Names) → Behind all names defined → Each Placing all → checked_items (items_of tail) names defined ≡ fine) → Then (placed_units n units)
  walk_units n [] valid finish before names defined h p parts f =
      let same : before ≡ all = sym (append-nil before) ∙ parts in
      finish names defined (subst (λ x. Behind x names defined) same h) (subst (Each Placing) same p)
  walk_units n (u ∷ units) valid finish before names defined h p parts f =
      let halves = and_parts (valid_unit u) (list_all valid_unit units) valid in
      let whole = (and_parts (spellable_version u.version) (valid_items (items_of u.items)) halves.0).1 in
      let rules = keeps_fine (first_fault (items_of u.items)) (and_parts (spellable_items (items_of u.items)) (keeps (first_fault (items_of u.items))) whole).1 in
      let fixed = statics (items_of u.items) in
      walk_items n fixed (placed_units (suc n) units) (walk_units (suc n) units halves.1 finish) u.items [] [] before names defined (λ x. nothing (lookup names (static_renaming n fixed x))) rules h p parts f

-- the items that are kept, and these behind them, keep the rules
pub rules_kept : (units : List CUnit) (tail : List CItem) → list_all valid_unit units ≡ true → FirstBroken (placed_units 1 units) [] (placed_units 1 units) None
    → ((names : List Named) (defined : Names) → Behind (placed_units 1 units) names defined → Each Placing (placed_units 1 units) → checked_items (items_of tail) names defined ≡ fine)
    → first_fault (items_of (kept_items [] (placed_units 1 units) ++ tail)) ≡ fine
rules_kept units tail valid f finish = walk_units (placed_units 1 units) tail 1 units valid finish [] [] [] behind_nothing tt refl f

-- What a lowered file makes known: one name has one type.
use Rattle.std.proofs.Common.{◌≡◌, Bool, true, false, not, ◌||◌, List, [], ◌∷◌, ◌++◌, map, refl, ap, sym, subst, ◌∙◌}
use Rattle.std.specs.Prelude.{Some, None, is_some, bytes_eq, codes}
use Rattle.std.specs.List.{list_all}
use Rattle.std.proofs.lemmas.Bool.{true≢false}
use Rattle.cf_base.proofs.Tests.{same_bytes, bytes_same}
use Rattle.cf_core.specs.Types.{Name}
use Rattle.cf_plain.specs.Plain.{PlainFunction, PlainStatic}
use Rattle.cc_whole.specs.declared.unit.CPrototype.{CPrototype}
use Rattle.cc_whole.specs.Plain.{Item, declares, name_of}
use Rattle.cc_whole.specs.Known.{Named}
use Rattle.cc_whole.specs.Types.{same_type}
use Rattle.cc_whole.specs.Valid.{agrees, own_type, has_type, named_by}
use Rattle.cf_lower.specs.Functions.{library}
use Rattle.cf_lower_program.specs.Names.{has_own_type}
use Rattle.cf_lower_program.specs.Lowerable.{Lowerable}
use Rattle.cc_whole_sections.specs.Sections.{In, OneType}
use Rattle.cc_whole_sections.proofs.Names.{in-left, in-right}
use Rattle.cf_lower_valid.proofs.Differ.{append-in}
use Rattle.cf_lower_valid.proofs.Inner.{mapped-in}
use Rattle.cf_lower_valid.proofs.Agreeing.{own-agrees}
use Rattle.cf_lower_valid.proofs.Others.{named-name, mapped-from}
use Rattle.cf_lower_valid.proofs.Tests.{file_of, tested, names-told, all-in}

-- the function that is called before `main`
abbrev pub constants_prototype : CPrototype
constants_prototype = record { is_static = true; result = None; name = codes "__hci"; parameters = [] }

-- what has a type of its own in each unit
abbrev pub own_items : List Item
own_items = library ++ declares constants_prototype ∷ []

own-have : list_all has_own_type own_items ≡ true
unfolding same_type
own-have = refl

own-some : list_all (λ i. is_some (own_type (name_of i))) own_items ≡ true
own-some = refl

-- ---- one type for each name

module _ (fs : List PlainFunction) (xs : List PlainStatic) (low : Lowerable (file_of fs xs)) where
  abbrev items : List Item
  items = tested fs xs low

  abbrev known_items : List Item
  known_items = own_items ++ items

  abbrev pub known : List Named
  known = map named_by known_items

  item-own : (i : Item) → In i known_items → has_type (own_type (name_of i)) (named_by i).meant ≡ true
  item-own i h =
      append-in i own_items items (has_type (own_type (name_of i)) (named_by i).meant ≡ true) h (λ k. all-in has_own_type own_items own-have i k)
      (λ k. (names-told fs xs low).own i k)

  -- where one of them has a type of its own
  own-pair : (i j : Item) → In i known_items → In j known_items → name_of i ≡ name_of j → is_some (own_type (name_of i)) ≡ true
      → agrees (Some (named_by i).meant) (named_by j).meant ≡ true
  own-pair i j h k e s =
      own-agrees (own_type (name_of i)) (named_by i).meant (named_by j).meant s (item-own i h)
      (subst (λ (y : Name). has_type (own_type y) (named_by j).meant ≡ true) (sym e) (item-own j k))

  has-own : (i : Item) → In i own_items → is_some (own_type (name_of i)) ≡ true
  has-own i h = all-in (λ i. is_some (own_type (name_of i))) own_items own-some i h

  either : (a b : Bool) → (not a || b) ≡ true → a ≡ true → b ≡ true
  either true b e h = e
  either false b e h = absurd (true≢false (sym h))

  tested-pair : (i j : Item) → In i items → In j items → bytes_eq (name_of i) (name_of j) ≡ true → agrees (Some (named_by i).meant) (named_by j).meant ≡ true
  tested-pair i j h k e =
      either (bytes_eq (name_of i) (name_of j)) (agrees (Some (named_by i).meant) (named_by j).meant)
      (all-in (λ j'. not (bytes_eq (name_of j') (name_of j)) || agrees (Some (named_by j').meant) (named_by j).meant) items ((names-told fs xs low).types j k) i h) e

  items-agree : (i j : Item) → In i known_items → In j known_items → bytes_eq (name_of i) (name_of j) ≡ true → agrees (Some (named_by i).meant) (named_by j).meant ≡ true
  items-agree i j h k e =
      let same : name_of i ≡ name_of j = same_bytes (name_of i) (name_of j) e in
      append-in i own_items items (agrees (Some (named_by i).meant) (named_by j).meant ≡ true) h (λ l. own-pair i j h k same (has-own i l))
      (λ l. append-in j own_items items (agrees (Some (named_by i).meant) (named_by j).meant ≡ true) k
      (λ m. own-pair i j h k same (subst (λ (y : Name). is_some (own_type y) ≡ true) (sym same) (has-own j m))) (λ m. tested-pair i j l m e))

  pub one-type : OneType known
  one-type = record {
    agree = λ x y h k e.
        let i = mapped-from named_by known_items x h in
        let j = mapped-from named_by known_items y k in
        subst (λ (z : Named). agrees (Some z.meant) y.meant ≡ true) i.is
        (subst (λ (z : Named). agrees (Some (named_by i.one).meant) z.meant ≡ true) j.is
        (items-agree i.one j.one i.there j.there
        (bytes_same (name_of i.one) (name_of j.one)
        (sym (named-name i.one) ∙ ap (λ (z : Named). z.name) i.is ∙ same_bytes x.name y.name e ∙ sym (ap (λ (z : Named). z.name) j.is) ∙ named-name j.one))));
    own = λ x h.
        let i = mapped-from named_by known_items x h in
        subst (λ (z : Named). has_type (own_type z.name) z.meant ≡ true) i.is
        (subst (λ (y : Name). has_type (own_type y) (named_by i.one).meant ≡ true) (sym (named-name i.one)) (item-own i.one i.there));
  }

  -- ---- what is known

  pub own-known : (i : Item) → In i own_items → In (named_by i) known
  own-known i h = mapped-in named_by i known_items (in-left i own_items items h)

  pub tested-known : (i : Item) → In i items → In (named_by i) known
  tested-known i h = mapped-in named_by i known_items (in-right i own_items items h)

  -- what bodies name
  abbrev pub wanted : List Named
  wanted = map named_by items

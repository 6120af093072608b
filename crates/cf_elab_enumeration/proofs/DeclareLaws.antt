-- Enumerations and enumerators that are declared: no class is open, so the innermost scope has them.
use Rattle.std.proofs.Common.{◌≡◌, ℕ, ◌+◌, ◌<◌, ◌≤◌, Bool, true, false, if◌then◌else◌, List, [], ◌∷◌, length, drop, get_or, Option, None, Some, All, IsTrue, ℤ, pos, refl, sym, ap, subst, ◌∙◌}
use Rattle.std.proofs.lemmas.List.{at_drop_more, at_drop_all}
use Rattle.cf_base.specs.Integers.{fits}
use Rattle.cf_base.specs.declared.kind.Kind.TheVariants as kind
use Rattle.cf_types.specs.Table.{Table}
use Rattle.cf_classes.specs.declared.class.What.TheVariants as what
use Rattle.cf_elab.specs.Answer.{Answer, Made, onward}
use Rattle.cf_elab.specs.ClassScope.{add_plain}
use Rattle.cf_elab.specs.Enumeration.{Counted, number_or_zero, int_or_zero}
use Rattle.cf_elab.specs.Env.{Env, Name, OpenClass, enum_name, enumerator}
use Rattle.cf_elab.specs.Names as names
use Rattle.cf_elab.specs.Operand.{Sort, enumeral, sort_of}
use Rattle.cf_elab_env.specs.Holds.{IsEnv, IsType, IsEntity, fits_sort}
use Rattle.cf_elab_env.specs.Shut as made
use Rattle.cf_elab_enumeration.specs.Shut as shut
use Rattle.cf_elab_enumeration.proofs.CheckLaws.{IsInt}

declared : (t : ℕ) (own : Name) (number : ℤ) (name : Name) (z : ℤ) (env : Env) (r : Answer (Unit {0})) → name ≡ own → z ≡ number → made.declare name (enumerator t (Some z)) env ≡ r
    → names.declare own (enumerator t (Some number)) env ≡ r
unfolding made.declare
declared t own number name z env r is same h =
    ap (λ n. names.declare n (enumerator t (Some number)) env) (sym is) ∙ ap (λ w. names.declare name (enumerator t (Some w)) env) (sym same) ∙ h

abbrev in_some : List OpenClass → Bool
in_some [] = false
in_some (o ∷ rest) = true

module _ (env : Env) (e : IsEnv env) where
  pub name_is : (n t at : ℕ) (name : Name) (r : Answer (Unit {0})) → made.declare name (enum_name n) env ≡ r → shut.name_declared n t (Some (at, name)) env ≡ r
  unfolding shut.name_declared made.declare
  name_is n t at name r h = ap (λ os. (if in_some os then add_plain name at what.Alias t else names.declare name (enum_name n)) env) e.no_open_class ∙ h

  pub one_is : (t : ℕ) (c : Counted) (name : Name) (z : ℤ) (r : Answer (Unit {0})) → name ≡ c.name → z ≡ number_or_zero c.number → made.declare name (enumerator t (Some z)) env ≡ r
      → shut.declare_one t c env ≡ r
  unfolding shut.declare_one made.declare
  one_is t c name z r is number h =
      ap (λ os. (if in_some os then add_plain c.name c.at (what.Enumerator (number_or_zero c.number)) t else names.declare c.name (enumerator t (Some (number_or_zero c.number)))) env) e.no_open_class
      ∙ declared t c.name (number_or_zero c.number) name z env r is number h

pub counted_is : (t : ℕ) (c : Counted) (name : Name) (z : ℤ) (env : Env) (r : Answer (Unit {0})) → name ≡ c.name → z ≡ int_or_zero c.number → made.declare name (enumerator t (Some z)) env ≡ r
    → shut.declare_counted t c env ≡ r
unfolding shut.declare_counted
counted_is t c name z env r is number h = declared t c.name (int_or_zero c.number) name z env r is number h

-- ---- what the expressions know

pub own_is : (t : ℕ) (name : Name) (env : Env) (r : Answer (Unit {0})) → made.declare name (enumerator t None) env ≡ r → shut.declare_own t name env ≡ r
unfolding shut.declare_own made.declare
own_is t name env r h = h

pub own_known : (types : Table) (count t : ℕ) → IsType types t → IsEntity types count (enumerator t None)
own_known types count t known = (known, tt)

pub ruleset own_laws = (own_is, own_known)

pub known_is : (n at : ℕ) (name : Name) (env : Env) (r : Answer (Unit {0})) → made.declare name (enum_name n) env ≡ r → shut.name_known n (Some (at, name)) env ≡ r
unfolding shut.name_known made.declare
known_is n at name env r h = h

pub ruleset known_laws = (known_is)

-- a constant of an enumeration is an int
an_int : (types : Table) (count t n : ℕ) (z : ℤ) → IsType types t → sort_of types t ≡ enumeral n → IsTrue (fits kind.Int z) → IsEntity types count (enumerator t (Some z))
an_int types count t n z known is int = let P : Sort → Type 0 = λ s. IsTrue (fits_sort s z) in (known, subst P (sym is) int)

pub enumerator_known : (types : Table) (count t n : ℕ) (z : ℤ) (number : Option ℤ) → IsType types t → sort_of types t ≡ enumeral n → z ≡ number_or_zero number
    → IsTrue (fits kind.Int (number_or_zero number)) → IsEntity types count (enumerator t (Some z))
enumerator_known types count t n z number known is same int =
    let P : ℤ → Type 0 = λ w. IsTrue (fits kind.Int w) in an_int types count t n z known is (subst P (sym same) int)

pub int_fits : (number : Option ℤ) → IsTrue (fits kind.Int (int_or_zero number))
int_fits number = by (fits kind.Int (number_or_zero number)) refl
  where
    by : (b : Bool) → fits kind.Int (number_or_zero number) ≡ b → IsTrue (fits kind.Int (if b then number_or_zero number else pos 0))
    by true h = h
    by false h = refl

pub counted_known : (types : Table) (count t n : ℕ) (z : ℤ) (number : Option ℤ) → IsType types t → sort_of types t ≡ enumeral n → z ≡ int_or_zero number → IsEntity types count (enumerator t (Some z))
counted_known types count t n z number known is same =
    let P : ℤ → Type 0 = λ w. IsTrue (fits kind.Int w) in an_int types count t n z known is (subst P (sym same) (int_fits number))

-- those from an index on are left
module _ (t : ℕ) (cs : List Counted) (i : ℕ) (first env : Env) (left : shut.declare_all t (drop i cs) env ≡ shut.declare_all t cs first) where
  pub all_declared : length cs ≤ i → shut.declare_all t cs first ≡ Made tt env
  unfolding shut.declare_all
  all_declared ended = sym left ∙ at_drop_all (λ l. shut.declare_all t l env) cs i ended

  pub one_declared : (c : Counted) (next : Env) → i < length cs → c ≡ get_or cs i c → shut.declare_one t c env ≡ Made tt next
      → shut.declare_all t (drop (i + 1) cs) next ≡ shut.declare_all t cs first
  unfolding shut.declare_all shut.declare_one
  one_declared c next inside is made =
      sym (sym left ∙ at_drop_more (λ l. shut.declare_all t l env) cs i c inside ∙ ap (λ d. shut.declare_all t (d ∷ drop (i + 1) cs) env) (sym is)
      ∙ ap (λ a. onward a (λ _ e. shut.declare_all t (drop (i + 1) cs) e)) made)

pub int_at : (cs : List Counted) (i : ℕ) (c : Counted) → i < length cs → c ≡ get_or cs i c → All IsInt cs → IsInt c
int_at cs i c inside is all = subst IsInt (sym is) (all i c inside)

pub ruleset name_laws = (name_is)

pub ruleset one_laws = (one_is, enumerator_known)

pub ruleset counted_laws = (counted_is, counted_known)

pub ruleset all_laws = (all_declared, one_declared, int_at)

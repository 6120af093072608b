-- Initialisers of static objects that do the same in both programs: each sets its own object alone, scalars to values of their types, and nothing to zeros that it has
-- set before.
use Rattle.std.specs.Prelude.{ℕ, ◌+◌, ◌-◌, nat_eq, nat_lt, nat_le, Bool, true, false, ◌&&◌, ◌||◌, not, if◌then◌else◌, List, [], ◌∷◌, ℤ, pos, negsuc, neg_ℤ, Option, Some, None, bytes_eq}
use Rattle.std.specs.List.{list_all}
use Rattle.cf_base.specs.declared.kind.Kind.TheVariants.{Char, SChar, UChar}
use Rattle.cf_base.specs.Integers.{fits}
use Rattle.cf_core.specs.declared.operators.PointerOperator.{PointerOperator}
use Rattle.cf_core.specs.declared.operators.PointerOperator.TheVariants as pointer_operator
use Rattle.cf_core.specs.Types.{Name, SourceType, void, integer, enumeration, pointer, array, const, is_void, type_eq, without_const}
use Rattle.cf_core.specs.Places.{bound, is_reference}
use Rattle.cf_core.specs.Size.{size}
use Rattle.cf_lower_layout.specs.Layout.{const_once}
use Rattle.cf_lower_layout.specs.Sorts.{Sort, number, address, code, sort_of}
use Rattle.cf_plain.specs.Plain as plain
use Rattle.cf_plain.specs.Plain.{Register, Action, Plain, Plains, act, set, branch, nothing, more, PlainStatic, PlainFile}
use Rattle.cf_lower.specs.Constants.{Known, unknown, a_number, null, at, a_function, nothing_known, holds_truth, known_after}
use Rattle.cf_lower.specs.Functions.{owner_of}
use Rattle.cf_lower_place.specs.Named.{may_be_named}
use Rattle.cf_lower_program.specs.Starts.{is_known}

-- ---- what else is known

-- of a place how many elements of its array begin there or behind, of a function its type
pub data Fact : Type 0 where
  no_fact : Fact
  left : ℕ → Fact
  of_type : SourceType → Fact

-- so many bytes from a byte of an object on
pub record Part : Type 0 where
  pub start : ℕ
  pub size : ℕ

-- of what registers hold, and which parts of its object an initialiser has set
pub record Told : Type 0 where
  pub facts : Register → Fact
  pub parts : List Part

abbrev pub nothing_told : Told
nothing_told = record { facts = λ r. no_fact; parts = [] }

abbrev pub left_of : Fact → ℕ
left_of (left n) = n
left_of f = 0

-- so many elements further
abbrev pub left_behind : ℕ → ℤ → ℕ
left_behind n (pos k) = n - k
left_behind n (negsuc k) = n

abbrev pub moved_fact : Known → Fact → ℤ → Fact
moved_fact (at n o t) f z = left (left_behind (left_of f) z)
moved_fact x f z = no_fact

abbrev pub sum_fact : Known → Known → Fact → Fact → Fact
sum_fact (a_number z) y f h = moved_fact y h z
sum_fact x (a_number z) f h = moved_fact x f z
sum_fact x y f h = no_fact

abbrev pub pointer_fact : PointerOperator → Known → Known → Fact → Fact → Fact
pointer_fact pointer_operator.Add x y f h = sum_fact x y f h
pointer_fact pointer_operator.Subtract x (a_number z) f h = moved_fact x f (neg_ℤ z)
pointer_fact o x y f h = no_fact

abbrev pub decayed_fact : Known → Fact → Fact
decayed_fact (at n o t) f = left (bound t)
decayed_fact x f = f

abbrev pub fact_by : (Register → Known) → (Register → Fact) → Action → Fact
fact_by g h (plain.static_object n t) = left 1
fact_by g h (plain.text j b) = left 1
fact_by g h (plain.function n t) = of_type t
fact_by g h (plain.dereference r) = h r
fact_by g h (plain.decay r) = decayed_fact (g r) (h r)
fact_by g h (plain.index r q) = sum_fact (g r) (g q) (h r) (h q)
fact_by g h (plain.convert t r) = h r
fact_by g h (plain.from_void t r) = h r
fact_by g h (plain.pointer_operate o r q) = pointer_fact o (g r) (g q) (h r) (h q)
fact_by g h a = no_fact

abbrev pub tell : (Register → Fact) → Register → Fact → Register → Fact
tell h r x q = if nat_eq q r then x else h q

-- ---- values

abbrev pub has_number : Known → Bool
has_number (a_number z) = true
has_number x = false

-- a pointer to a place of the first type is one to the second
abbrev pub points_as : SourceType → SourceType → Bool
points_as t u = type_eq u void || type_eq (without_const t) u

abbrev pub decays : Known → Bool
decays unknown = false
decays (at n o t) = not (is_void t) && const_once t
decays x = true

abbrev pub moves : Known → Known → Bool
moves (at n o t) (a_number z) = not (is_void t)
moves (a_number z) (at n o t) = not (is_void t)
moves x y = false

abbrev pub moves_by : PointerOperator → Known → Known → Bool
moves_by pointer_operator.Add x y = moves x y
moves_by pointer_operator.Subtract (at n o t) (a_number z) = not (is_void t)
moves_by o x y = false

abbrev pub is_pointed : Option Sort → Known → Bool
is_pointed None x = false
is_pointed (Some (address u)) (at n o t) = points_as t u
is_pointed (Some s) x = is_known x

abbrev pub converts : SourceType → Known → Bool
converts (integer k) x = has_number x
converts (enumeration e) x = has_number x
converts (pointer t) x = is_pointed (sort_of (pointer t)) x
converts (const t) x = converts t x
converts t x = false

-- actions that give what is known of them
abbrev pub action_alike : (Register → Known) → Action → Bool
action_alike g (plain.number z) = true
action_alike g (plain.static_object n t) = not (is_reference t)
action_alike g (plain.text j b) = true
action_alike g (plain.function n t) = may_be_named n t
action_alike g (plain.dereference r) = is_known (g r)
action_alike g (plain.decay r) = decays (g r)
action_alike g (plain.index r q) = moves (g r) (g q)
action_alike g (plain.convert t r) = converts t (g r)
action_alike g (plain.from_void t r) = is_known (g r)
action_alike g (plain.operate o k r q) = has_number (g r) && has_number (g q)
action_alike g (plain.unary o k r) = has_number (g r)
action_alike g (plain.truth r) = is_known (g r)
action_alike g (plain.logical_not r) = is_known (g r)
action_alike g (plain.pointer_operate o r q) = moves_by o (g r) (g q)
action_alike g a = false

-- ---- what is set

-- a value of a scalar: a number that its kind has, a pointer to what it points to, a function of its type
abbrev pub fits_scalar : Option Sort → Known → Fact → Bool
fits_scalar (Some (number k)) (a_number z) f = fits k z
fits_scalar (Some (address u)) null f = true
fits_scalar (Some (address u)) (at n o t) f = points_as t u
fits_scalar (Some (code u)) null f = true
fits_scalar (Some (code u)) (a_function n) (of_type t) = type_eq (without_const t) u
fits_scalar s x f = false

-- a part of the object of this name, and no end of an array
abbrev pub is_own : Name → Known → Fact → Bool
is_own name (at n o t) f = bytes_eq n name && nat_lt 0 (left_of f)
is_own name x f = false

abbrev pub fits_first : Known → Known → Fact → Bool
fits_first (at n o t) y f = fits_scalar (sort_of t) y f
fits_first x y f = false

abbrev pub part_of : Known → Part
part_of (at n o t) = record { start = o; size = size [] t }
part_of x = record { start = 0; size = 0 }

-- whether none of these parts has a byte of so many from a byte on
abbrev pub clear_of : ℕ → ℕ → List Part → Bool
clear_of start n [] = true
clear_of start n (p ∷ ps) = (nat_le (p.start + p.size) start || nat_le (start + n) p.start) && clear_of start n ps

-- what was not set before is zero
abbrev pub is_clear : Name → Known → List Part → Bool
is_clear name (at n o t) ps = bytes_eq n name && not (is_void t) && clear_of o (size [] t) ps
is_clear name x ps = false

-- an array of characters
abbrev pub is_text_type : SourceType → Bool
is_text_type (array (integer Char) n) = true
is_text_type (array (integer SChar) n) = true
is_text_type (array (integer UChar) n) = true
is_text_type t = false

abbrev pub takes_bytes : Known → Bool
takes_bytes (at n o t) = is_text_type (without_const t)
takes_bytes x = false

abbrev pub act_alike : Name → (Register → Known) → Told → Action → Bool
act_alike name g x (plain.reach n) = true
act_alike name g x (plain.finish_static n) = true
act_alike name g x (plain.truth r) = is_known (g r)
act_alike name g x (plain.first r q) = is_own name (g r) (x.facts r) && fits_first (g r) (g q) (x.facts q)
act_alike name g x (plain.zeros r) = is_clear name (g r) x.parts
act_alike name g x (plain.bytes r b) = is_own name (g r) (x.facts r) && is_clear name (g r) x.parts && takes_bytes (g r)
act_alike name g x a = false

abbrev pub parts_by : (Register → Known) → List Part → Action → List Part
parts_by g ps (plain.first r q) = part_of (g r) ∷ ps
parts_by g ps (plain.bytes r b) = part_of (g r) ∷ ps
parts_by g ps a = ps

-- ---- initialisers

abbrev mutual
  -- what is told behind a statement, of an initialiser whose literals are those of this function
  pub told_after : Plain → Name → (Register → Known) → Told → Told
  told_after (act a) f g x = record x { parts = parts_by g x.parts a }
  told_after (set r a) f g x = record x { facts = tell x.facts r (fact_by g x.facts a) }
  told_after (branch r ss ts) f g x =
      elim (holds_truth (g r)) [ None ↦ nothing_told | Some b ↦ elim b [ true ↦ all_told_after ss f g x | false ↦ all_told_after ts f g x ] ]
  told_after s f g x = x

  pub all_told_after : Plains → Name → (Register → Known) → Told → Told
  all_told_after nothing f g x = x
  all_told_after (more s ss) f g x = all_told_after ss f (known_after [] s f g) (told_after s f g x)

abbrev mutual
  pub statement_alike : Name → Plain → Name → (Register → Known) → Told → Bool
  statement_alike name (act a) f g x = act_alike name g x a
  statement_alike name (set r a) f g x = action_alike g a
  statement_alike name (branch r ss ts) f g x =
      has_number (g r)
      && elim (holds_truth (g r)) [ None ↦ false | Some b ↦ elim b [ true ↦ statements_alike name ss f g x | false ↦ statements_alike name ts f g x ] ]
  statement_alike name s f g x = false

  pub statements_alike : Name → Plains → Name → (Register → Known) → Told → Bool
  statements_alike name nothing f g x = true
  statements_alike name (more s ss) f g x = statement_alike name s f g x && statements_alike name ss f (known_after [] s f g) (told_after s f g x)

abbrev pub start_alike : PlainStatic → Bool
start_alike x = statements_alike x.name x.start (owner_of x) nothing_known nothing_told

-- all initialisers of the file are such
abbrev pub starts_alike : PlainFile → Bool
starts_alike file = list_all start_alike file.statics

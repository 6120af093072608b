-- Constant initialisers: they are built, and add no local.
use Rattle.std.proofs.Common.{◌≡◌, Bool, true, false, not, ◌&&◌, ◌||◌, if◌then◌else◌, List, [], ◌++◌, length, refl, sym, ◌∙◌, ap, subst}
use Rattle.std.specs.Prelude.{is_some}
use Rattle.std.proofs.lemmas.Grind.{flat_map-append}
use Rattle.cf_base.proofs.Tests.{both, all_of}
use Rattle.cf_core.specs.Types.{SourceType, plain, element}
use Rattle.cf_core.specs.Classes.{Class}
use Rattle.cf_core.specs.Core as core
use Rattle.cf_core.specs.Core.{Core, Cores, Static, no_temporary, static_temporary, none}
use Rattle.cf_core.specs.Joined.{is_nothing}
use Rattle.cf_core.specs.Nodes.{nodes, nodes_all}
use Rattle.cf_core.specs.Places.{is_reference}
use Rattle.cf_plain.specs.Plain.{Plains, nothing}
use Rattle.cf_sequence.specs.Built.{is_row, is_value, is_start, is_initial, is_filling, is_list, is_element, are_elements, is_constant_value, is_constant_initial, is_constant_list, are_constant_elements, is_constant_element, is_bound, is_constant_set, is_constant_start, is_built_static}
use Rattle.cf_sequence.specs.Made.{added, makes, width}
use Rattle.cf_sequence.specs.Statements.{type_of_static, binds, initialised, statement}
use Rattle.cf_sequence.specs.Sequenced.{outside, sequenced_start}
use Rattle.cf_sequence.proofs.Calling.{never, or-else}
use Rattle.cf_sequence.proofs.Filling.{filling-adds}
use Rattle.cf_sequence.proofs.Fulls.{nothing-is}

-- they are built

pub constant-value : (e : Core) → is_constant_value e ≡ true → is_value e ≡ true
constant-value (core.number z) ok = refl
constant-value (core.text j bytes) ok = refl
constant-value (core.static_object name t) ok = refl
constant-value (core.function name t) ok = refl
constant-value (core.address e) ok = constant-value e ok
constant-value (core.dereference e) ok = constant-value e ok
constant-value (core.decay e) ok = constant-value e ok
constant-value (core.index a b) ok =
    let p = both (is_constant_value a) (is_constant_value b) ok in all_of (is_value a) (is_value b) (constant-value a p.0) (constant-value b p.1)
constant-value (core.pointer_operate op a b) ok =
    let p = both (is_constant_value a) (is_constant_value b) ok in all_of (is_value a) (is_value b) (constant-value a p.0) (constant-value b p.1)
constant-value (core.convert t e) ok = constant-value e ok
constant-value (core.operate op k a b) ok =
    let p = both (is_constant_value a) (is_constant_value b) ok in all_of (is_value a) (is_value b) (constant-value a p.0) (constant-value b p.1)
constant-value (core.unary op k e) ok = constant-value e ok
constant-value (core.logical_not e) ok = constant-value e ok
constant-value (core.logical_and a b) ok =
    let p = both (is_constant_value a) (is_constant_value b) ok in all_of (is_value a) (is_value b) (constant-value a p.0) (constant-value b p.1)
constant-value (core.logical_or a b) ok =
    let p = both (is_constant_value a) (is_constant_value b) ok in all_of (is_value a) (is_value b) (constant-value a p.0) (constant-value b p.1)
constant-value (core.conditional c a b) ok =
    let p = both (is_constant_value c) (is_constant_value a && is_constant_value b) ok in
    let q = both (is_constant_value a) (is_constant_value b) p.1 in
    all_of (is_value c) (is_value a && is_value b) (constant-value c p.0) (all_of (is_value a) (is_value b) (constant-value a q.0) (constant-value b q.1))
constant-value e ok = never ok

-- they add no local

adds-two : (xs ys : List Core) → added xs ≡ [] → added ys ≡ [] → added (xs ++ ys) ≡ []
adds-two xs ys p q = flat_map-append makes xs ys ∙ ap (λ l. l ++ added ys) p ∙ q

constant-adds : (e : Core) → is_constant_value e ≡ true → added (nodes e) ≡ []
constant-adds (core.number z) ok = refl
constant-adds (core.text j bytes) ok = refl
constant-adds (core.static_object name t) ok = refl
constant-adds (core.function name t) ok = refl
constant-adds (core.address e) ok = constant-adds e ok
constant-adds (core.dereference e) ok = constant-adds e ok
constant-adds (core.decay e) ok = constant-adds e ok
constant-adds (core.index a b) ok =
    let p = both (is_constant_value a) (is_constant_value b) ok in adds-two (nodes a) (nodes b) (constant-adds a p.0) (constant-adds b p.1)
constant-adds (core.pointer_operate op a b) ok =
    let p = both (is_constant_value a) (is_constant_value b) ok in adds-two (nodes a) (nodes b) (constant-adds a p.0) (constant-adds b p.1)
constant-adds (core.convert t e) ok = constant-adds e ok
constant-adds (core.operate op k a b) ok =
    let p = both (is_constant_value a) (is_constant_value b) ok in adds-two (nodes a) (nodes b) (constant-adds a p.0) (constant-adds b p.1)
constant-adds (core.unary op k e) ok = constant-adds e ok
constant-adds (core.logical_not e) ok = constant-adds e ok
constant-adds (core.logical_and a b) ok =
    let p = both (is_constant_value a) (is_constant_value b) ok in adds-two (nodes a) (nodes b) (constant-adds a p.0) (constant-adds b p.1)
constant-adds (core.logical_or a b) ok =
    let p = both (is_constant_value a) (is_constant_value b) ok in adds-two (nodes a) (nodes b) (constant-adds a p.0) (constant-adds b p.1)
constant-adds (core.conditional c a b) ok =
    let p = both (is_constant_value c) (is_constant_value a && is_constant_value b) ok in
    let q = both (is_constant_value a) (is_constant_value b) p.1 in
    adds-two (nodes c ++ nodes a) (nodes b) (adds-two (nodes c) (nodes a) (constant-adds c p.0) (constant-adds a q.0)) (constant-adds b q.1)
constant-adds e ok = never ok

-- ---- the initialisers of static objects

-- what sets an object where its name has this type
abbrev pub set_as : List Class → Static → SourceType → Plains
set_as cs x t = if is_nothing x.start then nothing else initialised cs t x.name x.start 0 nothing

abbrev start_by : List Class → List Static → Static → Bool → Plains
start_by cs all x b = if b || is_some x.owner then set_as cs x (type_of_static all x.name) else statement (outside cs all) (core.once x.name x.start) 0 nothing

module _ (all : List Static) (x : Static) (ok : is_built_static all x ≡ true) where
  abbrev T : SourceType
  T = type_of_static all x.name

  pub constant-object : x.is_constant ≡ true
  constant-object = (both x.is_constant (is_constant_start T x.start) ok).0

  pub constant-start : is_constant_start T x.start ≡ true
  constant-start = (both x.is_constant (is_constant_start T x.start) ok).1

pub start-is : (cs : List Class) (all : List Static) (x : Static) → x.is_constant ≡ true → sequenced_start cs all x ≡ set_as cs x (type_of_static all x.name)
start-is cs all x constant = ap (start_by cs all x) constant

pub something-constant : (t : SourceType) (e : Core) → is_constant_start t e ≡ true → is_nothing e ≡ false → is_constant_set t e ≡ true
something-constant t e ok there = subst (λ b. b || is_constant_set t e ≡ true) there ok

or-right : (a b : Bool) → b ≡ true → a || b ≡ true
or-right true b e = refl
or-right false b e = e

or-less : (a b c : Bool) → a || b ≡ true → (b ≡ true → c ≡ true) → a || c ≡ true
or-less true b c ok go = refl
or-less false b c ok go = go ok

-- they are built as initialisers
constant-initial : (e : Core) → is_constant_initial e ≡ true → is_initial e ≡ true
constant-initial e ok =
    or-less (is_filling e) (is_constant_value e) (is_start e) ok (λ is. or-right (is_nothing e) (is_value e) (constant-value e is))

or-both : (a b c d : Bool) → a || b ≡ true → (a ≡ true → c ≡ true) → (b ≡ true → d ≡ true) → c || d ≡ true
or-both true b c d ok left right = ap (λ c. c || d) (left refl)
or-both false b c d ok left right = or-right c d (right ok)

mutual
  constant-list : (t : SourceType) (e : Core) → is_constant_list t e ≡ true → is_list t e ≡ true
  constant-list t (core.list es rest) ok =
      let u : SourceType = element (plain t) in
      let one = both (is_row t) (are_constant_elements u es && is_filling rest) ok in
      let two = both (are_constant_elements u es) (is_filling rest) one.1 in
      all_of (is_row t) (are_elements u es && is_filling rest) one.0 (all_of (are_elements u es) (is_filling rest) (constant-elements u es two.0) two.1)
  constant-list t e ok = never ok

  constant-elements : (t : SourceType) (es : Cores) → are_constant_elements t es ≡ true → are_elements t es ≡ true
  constant-elements t none ok = refl
  constant-elements t (core.more e es) ok =
      let parts = both (is_constant_element t e) (are_constant_elements t es) ok in
      all_of (is_element t e) (are_elements t es)
      (or-both (is_constant_initial e) (is_constant_list t e) (is_initial e) (is_list t e) parts.0 (constant-initial e) (constant-list t e)) (constant-elements t es parts.1)

pub constant-element : (t : SourceType) (e : Core) → is_constant_element t e ≡ true → is_element t e ≡ true
constant-element t e ok = or-both (is_constant_initial e) (is_constant_list t e) (is_initial e) (is_list t e) ok (constant-initial e) (constant-list t e)

-- nor do they add a local
initial-adds : (e : Core) → is_constant_initial e ≡ true → added (nodes e) ≡ []
initial-adds e ok = or-else (is_filling e) (is_constant_value e) ok (filling-adds e) (constant-adds e)

mutual
  list-adds : (t : SourceType) (e : Core) → is_constant_list t e ≡ true → added (nodes e) ≡ []
  list-adds t (core.list es rest) ok =
      let u : SourceType = element (plain t) in
      let parts = both (are_constant_elements u es) (is_filling rest) (both (is_row t) (are_constant_elements u es && is_filling rest) ok).1 in
      adds-two (nodes_all es) (nodes rest) (elements-add u es parts.0) (filling-adds rest parts.1)
  list-adds t e ok = never ok

  elements-add : (t : SourceType) (es : Cores) → are_constant_elements t es ≡ true → added (nodes_all es) ≡ []
  elements-add t none ok = refl
  elements-add t (core.more e es) ok =
      let parts = both (is_constant_element t e) (are_constant_elements t es) ok in
      adds-two (nodes e) (nodes_all es) (or-else (is_constant_initial e) (is_constant_list t e) parts.0 (initial-adds e) (list-adds t e)) (elements-add t es parts.1)

element-adds : (t : SourceType) (e : Core) → is_constant_element t e ≡ true → added (nodes e) ≡ []
element-adds t e ok = or-else (is_constant_initial e) (is_constant_list t e) ok (initial-adds e) (list-adds t e)

bound-adds : (e : Core) → is_bound e ≡ true → added (nodes e) ≡ []
bound-adds (core.bind no_temporary e) ok = constant-adds e ok
bound-adds (core.bind (static_temporary name) e) ok = constant-adds e ok
bound-adds e ok = never ok

is-false : (b : Bool) → not b ≡ true → b ≡ false
is-false true e = sym e
is-false false e = refl

-- What sets an object is a reference's, or another object's.
pub by-set : {X : Type 0} (t : SourceType) (e : Core) → is_constant_set t e ≡ true → (is_bound e ≡ true → X) → (is_reference t ≡ false → is_constant_element t e ≡ true → X) → X
by-set t e ok bound element =
    or-else (is_bound e) (not (is_reference t) && is_constant_element t e) ok bound
    (λ others. let parts = both (not (is_reference t)) (is_constant_element t e) others in element (is-false (is_reference t) parts.0) parts.1)

pub bound-binds : (e : Core) → is_bound e ≡ true → binds e ≡ true
bound-binds (core.bind h e) ok = refl
bound-binds e ok = never ok

pub element-binds : (t : SourceType) (e : Core) → is_constant_element t e ≡ true → binds e ≡ false
element-binds t (core.bind h e) ok = never ok
element-binds t e ok = refl

pub set-adds : (t : SourceType) (e : Core) → is_constant_set t e ≡ true → added (nodes e) ≡ []
set-adds t e ok = by-set t e ok (bound-adds e) (λ other. element-adds t e)

pub set-width : (t : SourceType) (e : Core) → is_constant_set t e ≡ true → width e ≡ 0
set-width t e ok = ap length (set-adds t e ok)

pub start-adds : (t : SourceType) (e : Core) → is_constant_start t e ≡ true → added (nodes e) ≡ []
start-adds t e ok = or-else (is_nothing e) (is_constant_set t e) ok (λ none. ap (λ e. added (nodes e)) (nothing-is e none)) (set-adds t e)

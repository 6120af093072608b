-- The C of plain statements has a text: no body inside has locals.
use Rattle.std.proofs.Common.{◌≡◌, ℕ, zero, suc, ◌+◌, ◌*◌, true, ◌&&◌, List, [], ◌∷◌, ◌++◌, refl}
use Rattle.std.specs.Prelude.{Option, Some, None}
use Rattle.cf_base.proofs.Tests.{all_of}
use Rattle.cf_base.specs.declared.kind.Kind.{Kind}
use Rattle.cf_core.specs.Types.{SourceType, array, const, result as result_type}
use Rattle.cf_core.specs.Classes.{Class}
use Rattle.cf_core.specs.Size.{size}
use Rattle.cf_lower_layout.specs.Sorts.{Sort, address, sort_of}
use Rattle.cf_plain.specs.Plain as plain
use Rattle.cf_plain.specs.Plain.{Register, Action, Plain, Plains, act, set, branch, loop, switch, case_label, default_label, leave, continue, give, parts, nothing, more}
use Rattle.cc_whole.specs.Plain as c
use Rattle.cc_whole.specs.Plain.{Expression, Statement, SwitchItems, Callee, in_order}
use Rattle.cc_whole.specs.Spellable.{spellable, spellable_statements, spellable_switch}
use Rattle.cf_lower.specs.Kept.{Kept, holds, argument, Keeping, local_kept, kept_by, after, untouched}
use Rattle.cf_lower.specs.Written.{if_scalar, c_type, result_name}
use Rattle.cf_lower.specs.Expressions.{zero as nought, address_in, value_in}
use Rattle.cf_lower.specs.Expressions as value
use Rattle.cf_lower.specs.Statements.{Inside, put, stored_in, first_in, behind, for_each, zeros, zeros_in, put_bytes, kind_in, called, done, put_in, kept, no_value, given, flag_set, if_flag, set_register, passed, through, in_stepped, in_loop, in_switch, stated_all, lowered, all_lowered, items}

abbrev pub AllSpelled : List Statement → Type 0
AllSpelled [] = Unit {0}
AllSpelled (s ∷ ss) = (spellable s ≡ true) × AllSpelled ss

pub spelled-append : (xs ys : List Statement) → AllSpelled xs → AllSpelled ys → AllSpelled (xs ++ ys)
spelled-append [] ys h g = g
spelled-append (x ∷ xs) ys h g = (h.0, spelled-append xs ys h.1 g)

pub spelled-in-order : (ss : List Statement) → AllSpelled ss → spellable_statements (in_order ss) ≡ true
spelled-in-order [] h = refl
spelled-in-order (s ∷ ss) h = all_of (spellable s) (spellable_statements (in_order ss)) h.0 (spelled-in-order ss h.1)

-- ---- actions

scalar-spelled : (o : Option Sort) (f : Sort → List Statement) → ((s : Sort) → AllSpelled (f s)) → AllSpelled (if_scalar o [] f)
scalar-spelled None f h = tt
scalar-spelled (Some s) f h = h s

stored-spelled : (x : Kept) (r : Register) (e : Expression) → AllSpelled (stored_in x r e)
stored-spelled (holds (address t)) r e = scalar-spelled (sort_of t) (λ s. put s (address_in r) e ∷ []) (λ s. (refl, tt))
stored-spelled x r e = tt

first-spelled : (x : Kept) (r : Register) (e : Expression) → AllSpelled (first_in x r e)
first-spelled (argument i t) r e = scalar-spelled (sort_of t) _ (λ s. (refl, tt))
first-spelled (holds (address t)) r e = stored-spelled (holds (address t)) r e
first-spelled x r e = tt

each-spelled : (i n : ℕ) (f : ℕ → List Statement) → ((j : ℕ) → AllSpelled (f j)) → AllSpelled (for_each i n f)
each-spelled i zero f h = tt
each-spelled i (suc n) f h = spelled-append (f i) (for_each (suc i) n f) (h i) (each-spelled (suc i) n f h)

module _ (classes : List Class) where
  zeros-spelled : (t : SourceType) (p : Expression) (at : ℕ) → AllSpelled (zeros classes t p at)
  zeros-spelled (array t n) p at = each-spelled 0 n (λ i. zeros classes t p (at + i * size classes t)) (λ j. zeros-spelled t p (at + j * size classes t))
  zeros-spelled (const t) p at = zeros-spelled t p at
  zeros-spelled t p at = scalar-spelled (sort_of t) (λ s. put s (behind p at) nought ∷ []) (λ s. (refl, tt))

  zero-spelled : (x : Kept) (r : Register) → AllSpelled (zeros_in classes x r)
  zero-spelled (holds (address t)) r = zeros-spelled t (address_in r) 0
  zero-spelled x r = tt

pub bytes-spelled : (k : Kind) (p : Expression) (i : ℕ) (b : List ℕ) → AllSpelled (put_bytes k p i b)
bytes-spelled k p i [] = tt
bytes-spelled k p i (c ∷ b) = (refl, bytes-spelled k p (suc i) b)

called-spelled : (f : Callee) (t : SourceType) (is : List ℕ) (into : Option Register) → AllSpelled (called f t is into)
called-spelled f t is None = (refl, tt)
called-spelled f t is (Some r) = go (sort_of (result_type t))
  where
    go : (o : Option Sort) → AllSpelled (if_scalar o (c.call None f (passed is) ∷ []) (λ s.
        c.call (Some (c.named (result_name (c_type s)))) f (passed is) ∷ set_register s r (value.as_value s (c.load (c.named (result_name (c_type s))))) ∷ []))
    go None = (refl, tt)
    go (Some s) = (refl, (refl, tt))

done-spelled : (x : Inside) (g : Keeping) (a : Action) → AllSpelled (done x g a)
done-spelled x g (plain.store r q) = stored-spelled (g r) r (value_in g q)
done-spelled x g (plain.first r q) = first-spelled (g r) r (value_in g q)
done-spelled x g (plain.zeros r) = zero-spelled x.classes (g r) r
done-spelled x g (plain.bytes r b) = spelled-append (zeros_in x.classes (g r) r) (put_bytes (kind_in (g r)) (address_in r) 0 b) (zero-spelled x.classes (g r) r) (bytes-spelled (kind_in (g r)) (address_in r) 0 b)
done-spelled x g (plain.call name t object is into) = called-spelled (c.by_name name) t is None
done-spelled x g (plain.pointer_call object r t is into) = called-spelled (through r t) t is None
done-spelled x g a = tt

put-in-spelled : (x : Inside) (o : Option Sort) (r : Register) (e : Expression) → AllSpelled (put_in x o r e)
put-in-spelled x None r e = tt
put-in-spelled x (Some s) r e = (refl, tt)

kept-spelled : (x : Inside) (g : Keeping) (r : Register) (a : Action) → AllSpelled (kept x g r a)
kept-spelled x g r (plain.call name t object is into) = called-spelled (c.by_name name) t is (Some r)
kept-spelled x g r (plain.pointer_call object q t is into) = called-spelled (through q t) t is (Some r)
kept-spelled x g r a = put-in-spelled x (local_kept (kept_by x.locals g a)) r (value.value x.classes x.function x.locals g a)

given-spelled : (t : SourceType) (e : Expression) → AllSpelled (given t e)
given-spelled t e = go (sort_of t)
  where
    go : (o : Option Sort) → AllSpelled (if_scalar o (c.give None ∷ []) (λ s. c.give (Some (value.as_stored s e)) ∷ []))
    go None = (refl, tt)
    go (Some s) = (refl, tt)

pub no-value-spelled : (t : SourceType) → AllSpelled (no_value t)
no-value-spelled t = given-spelled t nought

-- ---- statements

block-spelled : (ss ts : List Statement) → AllSpelled ss → AllSpelled ts → (spellable_statements (in_order ss) && spellable_statements (in_order ts)) ≡ true
block-spelled ss ts h g = all_of (spellable_statements (in_order ss)) (spellable_statements (in_order ts)) (spelled-in-order ss h) (spelled-in-order ts g)

stated-spelled : (ss : List Statement) (is : SwitchItems) → AllSpelled ss → spellable_switch is ≡ true → spellable_switch (stated_all ss is) ≡ true
stated-spelled [] is h g = g
stated-spelled (s ∷ ss) is h g = all_of (spellable s) (spellable_switch (stated_all ss is)) h.0 (stated-spelled ss is h.1 g)

mutual
  statement-spelled : (s : Plain) (x : Inside) (g : Keeping) → AllSpelled x.leaving → AllSpelled x.going_on → AllSpelled (lowered s x g)
  statement-spelled (act a) x g l o = done-spelled x g a
  statement-spelled (set r a) x g l o = kept-spelled x g r a
  statement-spelled (branch r ss ts) x g l o =
      (block-spelled (all_lowered ss x g) (all_lowered ts x g) (all-spelled ss x g l o) (all-spelled ts x g l o), tt)
  statement-spelled (loop ss nothing) x g l o =
      let inner = all_lowered ss (in_loop x) (untouched x.locals g ss) in
      (spelled-in-order inner (all-spelled ss (in_loop x) (untouched x.locals g ss) (refl, tt) (refl, tt)), tt)
  statement-spelled (loop ss ts) x g l o =
      let h = untouched x.locals (untouched x.locals g ss) ts in
      let inner = all_lowered ss (in_stepped x) h in
      let steps = all_lowered ts (in_loop x) h in
      let turn : List Statement = flag_set x.depth 0 ∷ c.select nought (c.otherwise (stated_all inner c.closed)) ∷ if_flag x.depth (c.leave ∷ []) ∷ steps in (
        spelled-in-order turn (
          refl,
          (
            stated-spelled inner c.closed (all-spelled ss (in_stepped x) h (refl, (refl, tt)) (refl, tt)) refl,
            (refl, all-spelled ts (in_loop x) h (refl, tt) (refl, tt)),
          ),
        ),
        tt,
      )
  statement-spelled (switch r ss) x g l o = (
    refl,
    (
      items-spelled ss (in_switch x) (untouched x.locals g ss) (untouched x.locals g ss) (refl, tt) (refl, (refl, tt)),
      (block-spelled x.going_on [] o tt, tt),
    ),
  )
  statement-spelled (case_label z) x g l o = tt
  statement-spelled default_label x g l o = tt
  statement-spelled leave x g l o = l
  statement-spelled continue x g l o = o
  statement-spelled (give None) x g l o = no-value-spelled x.result
  statement-spelled (give (Some r)) x g l o = given-spelled x.result (value_in g r)
  statement-spelled (parts ps) x g l o = tt

  pub all-spelled : (ss : Plains) (x : Inside) (g : Keeping) → AllSpelled x.leaving → AllSpelled x.going_on → AllSpelled (all_lowered ss x g)
  all-spelled nothing x g l o = tt
  all-spelled (more s ss) x g l o =
      spelled-append (lowered s x g) (all_lowered ss x (after x.locals s g)) (statement-spelled s x g l o) (all-spelled ss x (after x.locals s g) l o)

  items-spelled : (ss : Plains) (x : Inside) (g h : Keeping) → AllSpelled x.leaving → AllSpelled x.going_on → spellable_switch (items ss x g h) ≡ true
  items-spelled nothing x g h l o = refl
  items-spelled (more (case_label z) ss) x g h l o = items-spelled ss x g g l o
  items-spelled (more default_label ss) x g h l o = items-spelled ss x g g l o
  items-spelled (more s ss) x g h l o =
      stated-spelled (lowered s x h) (items ss x g (after x.locals s h)) (statement-spelled s x h l o) (items-spelled ss x g (after x.locals s h) l o)

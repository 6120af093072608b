-- What plain statements tell of registers behind them, lowering tells too.
use Rattle.std.proofs.Common.{◌≡◌, ℕ, Bool, true, false, ◌&&◌, ◌||◌, ◌==◌, if◌then◌else◌, refl, sym, ◌∙◌, ap, subst}
use Rattle.std.specs.Prelude.{Option, Some, None, is_some, slice_get}
use Rattle.cf_base.proofs.Tests.{both, all_of}
use Rattle.cf_core.specs.Types.{SourceType, takes, gives, without_const, type_eq, same_but_const}
use Rattle.cf_core.specs.Places.{is_scalar}
use Rattle.cf_lower_layout.specs.Sorts.{address, sort_to}
use Rattle.cf_lower_layout.proofs.Types.{same-without_const}
use Rattle.cf_plain.specs.Plain.{Register, Plain, Plains, act, set, branch, loop, switch, case_label, default_label, leave, continue, give, parts, nothing, more}
use Rattle.cf_plain_kept.specs.Kept as plain
use Rattle.cf_lower.specs.Kept as lower
use Rattle.cf_lower.specs.Kept.{Kept, unknown, integer_of, holds, argument, Keeping, Locals, is_argument, declared_kept, same_kept, both_kept}
use Rattle.cf_lower_kept.specs.Ready.{ready, all_ready}
use Rattle.cf_lower_kept.specs.Told.{IsObject, ToldIf, AllTold, AllToldIf}
use Rattle.cf_lower_kept.proofs.Actions.{action-told}
use Rattle.cf_lower_kept.proofs.Types.{type-self, same-number, number-self}

-- ---- where ways join

pub pointer-self : (t : SourceType) → both_kept (holds (sort_to t)) (holds (sort_to t)) ≡ holds (sort_to t)
pointer-self (takes p t) = ap (λ b. if b then holds (sort_to (takes p t)) else unknown) (type-self (takes p t))
pointer-self (gives t c) = ap (λ b. if b then holds (sort_to (gives t c)) else unknown) (type-self (gives t c))
pointer-self t = ap (λ b. if b then holds (address t) else unknown) (type-self t)

pub argument-self : (i : ℕ) (t : SourceType) → both_kept (argument i t) (argument i t) ≡ argument i t
argument-self i t = ap (λ b. if b then argument i t else unknown) (all_of (i == i) (type_eq t t) (number-self i) (type-self t))

pub address-self : (t : SourceType) → both_kept (holds (address t)) (holds (address t)) ≡ holds (address t)
address-self t = ap (λ b. if b then holds (address t) else unknown) (type-self t)

pub object-self : (b : Bool) (i : ℕ) (t : SourceType)
    → both_kept (if b then argument i t else holds (address (without_const t))) (if b then argument i t else holds (address (without_const t)))
    ≡ (if b then argument i t else holds (address (without_const t)))
object-self true i t = argument-self i t
object-self false i t = address-self (without_const t)

some-type : {t u : SourceType} → Some t ≡ Some u → t ≡ u
some-type e = cc

either-false : (a b c d : Bool) → (a ≡ false → c ≡ false) → (b ≡ false → d ≡ false) → (a || b) ≡ false → (c || d) ≡ false
either-false true b c d first second e = absurd (cc)
either-false false b c d first second e = ap (λ x. x || d) (first refl) ∙ second e

module _ (locals : Locals) where
  places-join : (t u : SourceType) (y z : Kept) → y ≡ holds (sort_to (without_const t)) → z ≡ holds (sort_to (without_const u)) → (b : Bool) → same_but_const t u ≡ b
      → ToldIf locals (if b then Some (plain.a_place t) else None) (both_kept y z)
  places-join t u y z h k false e = tt
  places-join t u y z h k true e =
      ap (λ q. both_kept q z) h
      ∙ ap (both_kept (holds (sort_to (without_const t)))) (k ∙ ap (λ w. holds (sort_to w)) (sym (same-without_const t u e)))
      ∙ pointer-self (without_const t)

  objects-join : (i j : ℕ) (t u : SourceType) (y z : Kept) → IsObject locals i t y → IsObject locals j u z → (b : Bool) → (i == j) && same_but_const t u ≡ b
      → ToldIf locals (if b then Some (plain.an_object i t) else None) (both_kept y z)
  objects-join i j t u y z h k false e = tt
  objects-join i j t u y z h k true e =
      let same : i ≡ j = same-number i j (both (i == j) (same_but_const t u) e).0 in
      let type : t ≡ u = some-type (sym h.there ∙ ap (slice_get locals.types) same ∙ k.there) in
      record {
        there = h.there;
        is = ap (λ q. both_kept q z) h.is
            ∙ ap (both_kept (declared_kept locals i t)) (k.is ∙ ap (λ n. declared_kept locals n u) (sym same) ∙ ap (declared_kept locals i) (sym type))
            ∙ object-self (is_argument locals i && is_scalar t) i t;
      }

  members-join : (t : SourceType) (y : Kept) (b : Bool) → ToldIf locals (if b then Some (plain.a_member t) else None) y
  members-join t y true = tt
  members-join t y false = tt

  both-told : (o p : Option plain.Kept) (y z : Kept) → ToldIf locals o y → ToldIf locals p z → ToldIf locals (plain.common (λ q. o) (λ q. p) 0) (both_kept y z)
  both-told (Some plain.no_value) (Some plain.no_value) y z h k = tt
  both-told (Some (plain.an_integer f)) (Some (plain.an_integer g)) y z h k = record {
    kinds = λ j. h.kinds j && k.kinds j;
    is = ap (λ q. both_kept q z) h.is ∙ ap (both_kept (integer_of h.kinds)) k.is;
    has = λ j e. let two = both (f j) (g j) e in all_of (h.kinds j) (k.kinds j) (h.has j two.0) (k.has j two.1);
  }
  both-told (Some (plain.a_place t)) (Some (plain.a_place u)) y z h k = places-join t u y z h k (same_but_const t u) refl
  both-told (Some (plain.a_member t)) (Some (plain.a_member u)) y z h k = members-join t (both_kept y z) (same_but_const t u)
  both-told (Some (plain.an_object i t)) (Some (plain.an_object j u)) y z h k = objects-join i j t u y z h k ((i == j) && same_but_const t u) refl
  both-told o p y z h k = tt

  -- ---- what a switch does not set

  mutual
    sets-none : (r : Register) (s : Plain) → plain.sets r s ≡ false → lower.sets locals r s ≡ false
    sets-none r (act a) e = refl
    sets-none r (set q a) e = e
    sets-none r (branch q ss ts) e =
        either-false (plain.all_set r ss) (plain.all_set r ts) (lower.all_set locals r ss) (lower.all_set locals r ts) (none-set r ss) (none-set r ts) e
    sets-none r (loop ss ts) e =
        either-false (plain.all_set r ss) (plain.all_set r ts) (lower.all_set locals r ss) (lower.all_set locals r ts) (none-set r ss) (none-set r ts) e
    sets-none r (switch q ss) e = none-set r ss e
    sets-none r (parts ps) e = absurd (cc)
    sets-none r s e = refl

    none-set : (r : Register) (ss : Plains) → plain.all_set r ss ≡ false → lower.all_set locals r ss ≡ false
    none-set r nothing e = refl
    none-set r (more s ss) e = either-false (plain.sets r s) (plain.all_set r ss) (lower.sets locals r s) (lower.all_set locals r ss) (sets-none r s) (none-set r ss) e

  untouched-told : (ss : Plains) (g : plain.Keeping) (h : Keeping) → AllTold locals g h → AllTold locals (plain.untouched g ss) (lower.untouched locals h ss)
  untouched-told ss g h told r = by (plain.all_set r ss) refl
    where
      by : (b : Bool) → plain.all_set r ss ≡ b → ToldIf locals (plain.untouched g ss r) (lower.untouched locals h ss r)
      by true e = subst (λ b. ToldIf locals (if b then None else g r) (lower.untouched locals h ss r)) (sym e) tt
      by false e =
          subst (λ b. ToldIf locals (if b then None else g r) (lower.untouched locals h ss r)) (sym e)
          (subst (λ b. ToldIf locals (g r) (if b then unknown else h r)) (sym (none-set r ss e)) (told r))

  module _ (result : SourceType) where
    ways-told : (o p : Option plain.Keeping) (c d : Keeping) → AllToldIf locals o c → AllToldIf locals p d → AllToldIf locals (plain.joined locals.types result o p) (lower.common c d)
    ways-told None p c d h k = tt
    ways-told (Some a) None c d h k = tt
    ways-told (Some a) (Some b) c d h k = λ r. both-told (a r) (b r) (c r) (d r) (h r) (k r)

    -- ---- statements

    if-told : (b : Bool) (o : Option plain.Keeping) (h : Keeping) → AllToldIf locals o h → AllToldIf locals (if b then o else None) h
    if-told true o h told = told
    if-told false o h told = tt

    act-told : (o : Option plain.Kept) (g : plain.Keeping) (h : Keeping) → AllTold locals g h → AllToldIf locals (elim o [ None ↦ None | Some x ↦ Some g ]) h
    act-told None g h told = tt
    act-told (Some x) g h told = told

    set-told : (o : Option plain.Kept) (y : Kept) (r : Register) (g : plain.Keeping) (h : Keeping) → AllTold locals g h → ToldIf locals o y
        → AllToldIf locals (elim o [ None ↦ None | Some x ↦ Some (plain.keep g r x) ]) (lower.keep h r y)
    set-told None y r g h told is = tt
    set-told (Some x) y r g h told is = λ q. by_test q (q == r)
      where
        by_test : (q : Register) (b : Bool) → ToldIf locals (if b then Some x else g q) (if b then y else h q)
        by_test q true = is
        by_test q false = told q

    behind-told : (o : Option plain.Keeping) (rest : Plains) (h : Keeping) → AllToldIf locals o h
        → ((g : plain.Keeping) → AllTold locals g h → all_ready locals.types result rest g ≡ true → AllToldIf locals (plain.after_all locals.types result rest g) (lower.after_all locals rest h))
        → elim o [ None ↦ false | Some g ↦ all_ready locals.types result rest g ] ≡ true
        → AllToldIf locals (elim o [ None ↦ None | Some g ↦ plain.after_all locals.types result rest g ]) (lower.after_all locals rest h)
    behind-told None rest h told go e = tt
    behind-told (Some g) rest h told go e = go g told e

    none-told : (h : Keeping) → AllTold locals plain.nothing_set h
    none-told h r = tt

    mutual
      pub statement-told : (s : Plain) (g : plain.Keeping) (h : Keeping) → AllTold locals g h → ready locals.types result s g ≡ true
          → AllToldIf locals (plain.after locals.types result s g) (lower.after locals s h)
      statement-told (act a) g h told e = act-told (plain.kept_by locals.types result g a) g h told
      statement-told (set r a) g h told e =
          set-told (plain.kept_by locals.types result g a) (lower.kept_by locals h a) r g h told (action-told locals result g h told a e)
      statement-told (branch r ss ts) g h told e =
          let two = both (all_ready locals.types result ss g) (all_ready locals.types result ts g) e in
          if-told (plain.integer_in (g r)) (plain.joined locals.types result (plain.after_all locals.types result ss g) (plain.after_all locals.types result ts g))
          (lower.common (lower.after_all locals ss h) (lower.after_all locals ts h))
          (ways-told (plain.after_all locals.types result ss g) (plain.after_all locals.types result ts g) (lower.after_all locals ss h) (lower.after_all locals ts h)
          (list-told ss g h told two.0) (list-told ts g h told two.1))
      statement-told (loop ss ts) g h told e =
          if-told (is_some (plain.after_all locals.types result ss plain.nothing_set) && is_some (plain.after_all locals.types result ts plain.nothing_set))
          (Some plain.nothing_set) (lower.untouched locals (lower.untouched locals h ss) ts) (none-told (lower.untouched locals (lower.untouched locals h ss) ts))
      statement-told (switch r ss) g h told e =
          if-told (plain.integer_in (g r) && is_some (plain.after_all locals.types result ss plain.nothing_set)) (Some (plain.untouched g ss)) (lower.untouched locals h ss)
          (untouched-told ss g h told)
      statement-told (case_label z) g h told e = none-told h
      statement-told default_label g h told e = none-told h
      statement-told leave g h told e = told
      statement-told continue g h told e = told
      statement-told (give None) g h told e = told
      statement-told (give (Some r)) g h told e = if-told (plain.returned locals.types result (g r)) (Some g) h told
      statement-told (parts ps) g h told e = tt

      pub list-told : (ss : Plains) (g : plain.Keeping) (h : Keeping) → AllTold locals g h → all_ready locals.types result ss g ≡ true
          → AllToldIf locals (plain.after_all locals.types result ss g) (lower.after_all locals ss h)
      list-told nothing g h told e = told
      list-told (more s rest) g h told e =
          let here : Bool = ready locals.types result s g in
          let later : Bool = elim (plain.after locals.types result s g) [ None ↦ false | Some k ↦ all_ready locals.types result rest k ] in
          let two = both here later e in
          behind-told (plain.after locals.types result s g) rest (lower.after locals s h) (statement-told s g h told two.0)
          (λ k known ok. list-told rest k (lower.after locals s h) known ok) two.1

-- What the two passes over all tokens tell.
use Rattle.std.specs.Prelude.{if◌then◌else◌, ◌&&◌}
use Rattle.std.proofs.Common.{◌≡◌, ℕ, suc, ◌-◌, ◌+◌, ◌<◌, Bool, true, false, Option, Some, None, List, [], ◌∷◌, ◌++◌, length, Result, Ok, Err, refl, ap, sym, ◌∙◌, subst, arith, append-nil, append_assoc, length-append}
use Rattle.cc_whole_tokens.specs.declared.token.Token.{Token}
use Rattle.cc_whole.specs.declared.unit.CItem.{CItem}
use Rattle.cc_whole.specs.SpellsItems.{SpellsItem, SpellsItems}
use Rattle.cc_whole.specs.SpellsItems as g
use Rattle.cc_whole_refused.specs.NotC.{GoesOn}
use Rattle.cc_whole_reading.specs.declared.stop.Stop.{Stop}
use Rattle.cc_whole_reading.specs.declared.stop.Stop.TheVariants as stop
use Rattle.cc_whole_reading.specs.declared.constants.Constants.{Constants}
use Rattle.cc_whole_reading.specs.declared.constants.Constants.TheVariants as constants
use Rattle.cc_whole_fitting.specs.declared.before.Before.{Before}
use Rattle.cc_whole_fitting.specs.declared.before.Before.TheVariants as before
use Rattle.cc_whole_fitting.specs.Numbers.{behind, behind_all, token_fits, fit_from, numbers_fit}
use Rattle.cc_whole_fitting.proofs.ItemRuns.{fits_as_items}
use Rattle.cc_whole_reading.specs.Parse.{and_then, ◌>>=◌, pure, goes_on, end}
use Rattle.cc_whole_reading.specs.Constants.{keeps, fitting, zero_of, or_zero}
use Rattle.cc_whole.specs.declared.types.CConstant.{CConstant}
use Rattle.cc_whole.specs.Numbers.{fits_constant}
use Rattle.cc_whole_reading.proofs.Decides.{SameFront, Follow, any, Took, Stuck, Answer, Decides, decides_as, decides_one}
use Rattle.cc_whole_reading.proofs.Chains.{Many, none, more, decides_all}
use Rattle.cc_whole_reading.proofs.ConstantLaws.{all_kept}
use Rattle.cc_whole_reading.proofs.Alike.{SameResult, AsTheyStand}
use Rattle.cc_whole_read_items.specs.ReadItems.{one_item, items, whole}
use Rattle.cc_whole_read_items.specs.Passes.{ReadsWhole, second_answer}
use Rattle.cc_whole_read_items.specs.Answers.{StopsAt, next, ended, NotCAt, AreItems, AreThese, AreWide, Answers}
use Rattle.cc_whole_read_items.proofs.ItemReads.{decides_item, item_some}
use Rattle.cc_whole_read_items.proofs.AlikeItems.{alike_whole}
use Rattle.cc_whole_read_items.proofs.Honest.{Strict, Refused, exactly, Ends, Honestly}
use Rattle.cc_whole_read_items.proofs.HonestReads.{honest_whole}

abbrev at_end : Follow
at_end ts = ts ≡ []

goes_same : (xs ys : List Token) → SameFront xs ys → goes_on xs ≡ goes_on ys
goes_same [] [] same = refl
goes_same [] (y ∷ ys) same = absurd same
goes_same (x ∷ xs) [] same = absurd same
goes_same (x ∷ xs) (y ∷ ys) same = refl

goes_there : (xs rest : List Token) → 0 < length xs → goes_on (xs ++ rest) ≡ true
goes_there [] rest some = absurd (omega (arith, some))
goes_there (x ∷ xs) rest some = refl

many_of : (is : List CItem) (xs : List Token) → SpellsItems is xs → Many SpellsItem is xs
many_of _ _ g.SpellsItems.none = none
many_of _ _ (g.SpellsItems.more i xs is ys d e) = more i xs is ys d (many_of is ys e)

of_many : (is : List CItem) (xs : List Token) → Many SpellsItem is xs → SpellsItems is xs
of_many _ _ none = g.SpellsItems.none
of_many _ _ (more i xs is ys d m) = g.SpellsItems.more i xs is ys d (of_many is ys m)

decides_items : (n : ℕ) → Decides SpellsItems at_end n (items all_kept n)
decides_items n =
    decides_as (Many SpellsItem) SpellsItems at_end n (items all_kept n) many_of of_many
    (decides_all goes_on goes_same SpellsItem any at_end (λ i xs rest d. goes_there xs rest (item_some i xs d)) item_some (λ rest f. ap goes_on f) (λ i xs rest d. tt) (λ rest f. tt) n
    (one_item all_kept n) (λ ts small is. decides_item n ts small))

pub one_list : (ts : List Token) (is js : List CItem) → SpellsItems is ts → SpellsItems js ts → is ≡ js
one_list ts is js d e =
    sym (decides_one SpellsItems at_end (length (ts ++ [])) (items all_kept (length (ts ++ []))) (decides_items (length (ts ++ []))) is js ts ts [] [] (omega arith) d e refl refl refl).tree

-- ---- what reading all tokens tells, with all constants

abbrev pub Told : List Token → Result (List CItem × List Token) Stop → Type 0
Told ts (Ok q) = SpellsItems q.0 ts
Told ts (Err (stop.NotC n)) = NotCAt ts (length ts - n)
Told ts (Err (stop.Unfit n)) = ⊥
Told ts (Err stop.Memory) = ⊥

place_of : (ts before rest : List Token) (n : ℕ) → ts ≡ before ++ rest → n ≡ length rest → length ts - n ≡ length before
place_of ts before rest n e count =
    let lengths : length ts ≡ length before + length rest = ap length e ∙ length-append before rest in
    omega (arith, lengths, count)

module _ (ts : List Token) where
  left_over : (is : List CItem) (t : Token) (rest : List Token) → Took SpellsItems at_end ts is (t ∷ rest) → NotCAt ts (length ts - suc (length rest))
  left_over is t rest w = record {
    before = w.front;
    rest = t ∷ rest;
    parts = w.parts;
    place = place_of ts w.front (t ∷ rest) (suc (length rest)) w.parts refl;
    goes = record { items = is; more = []; spelled = subst (SpellsItems is) (sym (append-nil w.front)) w.spells };
    stops = next t rest (λ (x : GoesOn (w.front ++ t ∷ [])).
        let same = w.only x.items ((w.front ++ t ∷ []) ++ x.more) [] (t ∷ x.more) x.spelled refl (append-nil ((w.front ++ t ∷ []) ++ x.more) ∙ append_assoc w.front (t ∷ []) x.more) refl in
        let never : [] ≡ t ∷ x.more = same.left in
        absurd (cc));
  }

  all_taken : (is : List CItem) → Took SpellsItems at_end ts is [] → SpellsItems is ts
  all_taken is w = subst (SpellsItems is) (sym (w.parts ∙ append-nil w.front)) w.spells

  stops_at : (n : ℕ) (w : Stuck SpellsItems at_end ts n) (left : List Token) → w.left ≡ left → StopsAt w.front left
  stops_at n w [] e = ended (λ is d. w.never is w.front [] [] d refl refl (subst (λ l. SameFront l []) (sym e) tt))
  stops_at n w (t ∷ left) e = next t left (λ (x : GoesOn (w.front ++ t ∷ [])).
      w.never x.items ((w.front ++ t ∷ []) ++ x.more) [] (t ∷ x.more) x.spelled refl (append-nil ((w.front ++ t ∷ []) ++ x.more) ∙ append_assoc w.front (t ∷ []) x.more)
      (subst (λ l. SameFront l (t ∷ x.more)) (sym e) refl))

  stuck_told : (n : ℕ) → Stuck SpellsItems at_end ts n → NotCAt ts (length ts - n)
  stuck_told n w = record {
    before = w.front;
    rest = w.left;
    parts = w.parts;
    place = place_of ts w.front w.left n w.parts w.count;
    goes = record { items = w.tree; more = w.more; spelled = w.spells };
    stops = stops_at n w w.left refl;
  }

  ending : (is : List CItem) (rest : List Token) → Took SpellsItems at_end ts is rest → Told ts (and_then (end rest) (λ u. pure is))
  unfolding end
  ending is [] w = all_taken is w
  ending is (t ∷ rest) w = left_over is t rest w

  told_by : (r : Result (List CItem × List Token) Stop) → Answer SpellsItems at_end ts r → Told ts (and_then r (λ is. end >>= (λ u. pure is)))
  told_by (Ok q) w = ending q.0 q.1 w
  told_by (Err (stop.NotC n)) w = stuck_told n w
  told_by (Err (stop.Unfit n)) w = w
  told_by (Err stop.Memory) w = w

pub told : (ts : List Token) → Told ts (whole all_kept (length ts) ts)
unfolding whole
told ts = told_by ts (items all_kept (length ts) ts) (decides_items (length ts) ts (omega arith))

-- ---- the two passes

abbrev Passed : Constants → List Token → Result (List CItem × List Token) Stop → Type 0
Passed wanted ts (Ok q) = AreItems ts × (AsTheyStand wanted → SpellsItems q.0 ts)
Passed wanted ts (Err (stop.NotC n)) = NotCAt ts (length ts - n)
Passed wanted ts (Err (stop.Unfit n)) = Unit {0}
Passed wanted ts (Err stop.Memory) = Unit {0}

passes : (wanted : Constants) (ts : List Token) (r s : Result (List CItem × List Token) Stop) → SameResult (AsTheyStand wanted) r s → Told ts s → Passed wanted ts r
passes wanted ts (Ok p) (Ok q) same t = (record { items = q.0; spelled = t }, λ e. subst (λ is. SpellsItems is ts) (same.tree e) t)
passes wanted ts (Ok p) (Err e) same t = absurd same
passes wanted ts (Err (stop.NotC m)) (Ok q) same t = absurd same
passes wanted ts (Err (stop.NotC m)) (Err (stop.NotC n)) same t = subst (λ k. NotCAt ts (length ts - k)) same t
passes wanted ts (Err (stop.NotC m)) (Err (stop.Unfit n)) same t = absurd same
passes wanted ts (Err (stop.NotC m)) (Err stop.Memory) same t = absurd same
passes wanted ts (Err (stop.Unfit m)) s same t = tt
passes wanted ts (Err stop.Memory) s same t = tt

passed : (wanted : Constants) (ts : List Token) → Passed wanted ts (whole (keeps wanted) (length ts) ts)
passed wanted ts = passes wanted ts (whole (keeps wanted) (length ts) ts) (whole all_kept (length ts) ts) (alike_whole wanted (length ts) ts) (told ts)

refused : (wanted : Constants) (ts : List Token) (n : ℕ) → whole (keeps wanted) (length ts) ts ≡ Err (stop.NotC n) → NotCAt ts (length ts - n)
refused wanted ts n e = subst (Passed wanted ts) e (passed wanted ts)

some_items : (wanted : Constants) (ts : List Token) (q : List CItem × List Token) → whole (keeps wanted) (length ts) ts ≡ Ok q → AreItems ts
some_items wanted ts q e = (subst (Passed wanted ts) e (passed wanted ts)).0

these_items : (ts : List Token) (is : List CItem) (new : List Token) → whole (keeps constants.Exact) (length ts) ts ≡ Ok (is, new) → SpellsItems is ts
these_items ts is new e = (subst (Passed constants.Exact ts) e (passed constants.Exact ts)).1 refl

pub refused_once : (wanted : Constants) (ts : List Token) (left : ℕ) → ReadsWhole (whole (keeps wanted) (length ts) ts) (Err (stop.NotC left)) → NotCAt ts (length ts - left)
refused_once wanted ts left (new, e) = refused wanted ts left e

read_any : (ts : List Token) (is : List CItem) → ReadsWhole (whole (keeps constants.Any) (length ts) ts) (Ok is) → AreItems ts
read_any ts is (new, e) = some_items constants.Any ts (is, new) e

-- nothing is left behind all items
abbrev left_of : Result (List CItem × List Token) Stop → List Token
left_of (Ok q) = q.1
left_of (Err e) = []

none_left : (is : List CItem) (rest : List Token) (q : List CItem × List Token) → and_then (end rest) (λ u. pure is) ≡ Ok q → q.1 ≡ []
unfolding end
none_left is [] q e = sym (ap left_of e)
none_left is (t ∷ rest) q e = absurd (cc)

none_behind : (r : Result (List CItem × List Token) Stop) (q : List CItem × List Token) → and_then r (λ is. end >>= (λ u. pure is)) ≡ Ok q → q.1 ≡ []
none_behind (Ok p) q e = none_left p.0 p.1 q e
none_behind (Err f) q e = absurd (cc)

nothing_left : (ts : List Token) (q : List CItem × List Token) → whole (keeps constants.Exact) (length ts) ts ≡ Ok q → q.1 ≡ []
unfolding whole
nothing_left ts q e = none_behind (items (keeps constants.Exact) (length ts) ts) q e

-- a constant that is read as it stands fits
exact_fits : Strict (keeps constants.Exact)
exact_fits c d e = go (fits_constant c) e
  where
    go : (b : Bool) → (if b then Some c else None) ≡ Some d → b ≡ true
    go true f = refl
    go false f = absurd (cc)

these_fit : (ts : List Token) (is : List CItem) (new : List Token) → whole (keeps constants.Exact) (length ts) ts ≡ Ok (is, new) → numbers_fit ts ≡ true
these_fit ts is new e =
    let all : Ends (keeps constants.Exact) before.Other (exactly before.Other) ts new =
    subst (Honestly (keeps constants.Exact) before.Other (exactly before.Other) ts) e ((honest_whole (keeps constants.Exact) (length ts)).holds ts) in
    ap numbers_fit (all.run.parts ∙ (ap (λ l. all.run.front ++ l) (nothing_left ts (is, new) e) ∙ append-nil all.run.front)) ∙ all.run.fit exact_fits

pub read_exact : (ts : List Token) (is : List CItem) → ReadsWhole (whole (keeps constants.Exact) (length ts) ts) (Ok is) → AreThese ts is
read_exact ts is (new, e) =
    let d = these_items ts is new e in
    record { spelled = d; fit = sym (fits_as_items is ts d) ∙ these_fit ts is new e }

-- ---- constants that stop the reading

exact_refuses : (c : CConstant) → keeps constants.Exact c ≡ None → fits_constant c ≡ false
exact_refuses c e = go (fits_constant c) refl e
  where
    go : (b : Bool) → fits_constant c ≡ b → (if b then Some c else None) ≡ None → b ≡ false
    go false is f = refl
    go true is f = absurd (cc)

any_reads : (c : CConstant) → keeps constants.Any c ≡ None → ⊥
any_reads c e = go (fitting c) e
  where
    go : (o : Option CConstant) → or_zero constants.Any o (zero_of c) ≡ None → ⊥
    go None f = absurd (cc)
    go (Some d) f = absurd (cc)

and_false : (b : Bool) → (b && false) ≡ false
and_false true = refl
and_false false = refl

unfit_there : (xs : List Token) (t : Token) (ys : List Token) (b : Before) → token_fits t (behind_all xs b) ≡ false → fit_from (xs ++ (t ∷ ys)) b ≡ false
unfit_there [] t ys b h = ap (λ c. c && fit_from ys (behind t b)) h
unfit_there (x ∷ xs) t ys b h = ap (λ c. token_fits x b && c) (unfit_there xs t ys (behind x b) h) ∙ and_false (token_fits x b)

refused_wide : (ts : List Token) → Refused (keeps constants.Exact) before.Other ts → numbers_fit ts ≡ false
refused_wide ts r = ap numbers_fit r.parts ∙ unfit_there r.front r.number r.rest before.Other (r.is ∙ exact_refuses r.value r.refused)

-- where a constant stops the reading, the numbers do not fit
pub unfit_once : (ts : List Token) (left : ℕ) → ReadsWhole (whole (keeps constants.Exact) (length ts) ts) (Err (stop.Unfit left)) → numbers_fit ts ≡ false
unfit_once ts left (new, e) =
    refused_wide ts (subst (Honestly (keeps constants.Exact) before.Other (exactly before.Other) ts) e ((honest_whole (keeps constants.Exact) (length ts)).holds ts))

never_unfit : (ts : List Token) (left : ℕ) → ReadsWhole (whole (keeps constants.Any) (length ts) ts) (Err (stop.Unfit left)) → AreWide ts
never_unfit ts left (new, e) =
    let r : Refused (keeps constants.Any) before.Other ts =
    subst (Honestly (keeps constants.Any) before.Other (exactly before.Other) ts) e ((honest_whole (keeps constants.Any) (length ts)).holds ts) in
    absurd (any_reads r.value r.refused)

read_wide : (ts : List Token) (is : List CItem) → numbers_fit ts ≡ false → ReadsWhole (whole (keeps constants.Any) (length ts) ts) (Ok is) → AreWide ts
read_wide ts is w r = let a = read_any ts is r in record { items = a.items; spelled = a.spelled; wide = sym (fits_as_items a.items ts a.spelled) ∙ w }

pub second_told : (ts : List Token) (r : Result (List CItem) Stop) → numbers_fit ts ≡ false → ReadsWhole (whole (keeps constants.Any) (length ts) ts) r
    → Answers ts (Err (second_answer (length ts) r))
second_told ts (Ok is) w r = read_wide ts is w r
second_told ts (Err (stop.NotC left)) w r = refused_once constants.Any ts left r
second_told ts (Err (stop.Unfit left)) w r = never_unfit ts left r
second_told ts (Err stop.Memory) w r = tt

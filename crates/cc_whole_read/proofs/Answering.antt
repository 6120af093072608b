-- What the code of reading tells.
use Rattle.std.proofs.Common.{◌≡◌, ℕ, ◌+◌, ◌<◌, ◌≤◌, ◌^◌, Bool, true, false, List, length, Some, None, Result, Ok, Err, refl, ap, sym, ◌∙◌, subst, arith, length-append}
use Rattle.std.specs.Prelude.{nat_lt}
use Rattle.std.proofs.lemmas.Bool.{and_from, true≢false}
use Rattle.std.proofs.lemmas.Bool.Decides.{nat_tests}
use Rattle.cc_whole_tokens.specs.declared.token.Token.{Token}
use Rattle.cc_whole.specs.declared.unit.CUnit.{CUnit}
use Rattle.cc_whole.specs.Plain.{items_of}
use Rattle.cc_whole.specs.Fault.{Checks, broken}
use Rattle.cc_whole.specs.Spellable.{spellable_items, spellable_version}
use Rattle.cc_whole.specs.SpellsItems.{SpellsItems}
use Rattle.cc_whole.specs.Text.{FirstLine}
use Rattle.cc_whole.specs.Valid.{first_fault}
use Rattle.cc_whole.specs.ValidUnit.{keeps, valid_unit}
use Rattle.cc_whole_laws.specs.Landmark.{landmarks_in}
use Rattle.cc_whole_laws.proofs.ItemMarks.{landmarks-of-texts}
use Rattle.cc_whole_valid.specs.declared.stop.Fault.{Fault}
use Rattle.cc_whole_valid.specs.Walk.{fault_of, where_so}
use Rattle.cc_whole_front.specs.declared.front.Front.{Front}
use Rattle.cc_whole_read.specs.declared.error.ReadErr.{ReadErr}
use Rattle.cc_whole_read.specs.declared.error.ReadErr.TheVariants as error
use Rattle.cc_whole_front.specs.Front.{IsFront}
use Rattle.cc_whole_front.proofs.Laws.{placed_fronts}
use Rattle.cc_whole_first_line.specs.FirstLine.{Begins}
use Rattle.cc_whole.specs.declared.unit.CItem.{CItem}
use Rattle.cc_whole_read_items.specs.Answers.{NotCAt, AreItems, AreThese}
use Rattle.cc_whole_read.specs.Behind.{place_in, FaultIs, Spells, IsChecked, TokensStop, token, stray, ReadsTokens}
use Rattle.cc_whole_read.specs.Good.{all_good}
use Rattle.cc_whole_read.specs.Landmarks.{Nth, landmark_from}
use Rattle.cc_whole_read.proofs.Numbered.{found, too_few}
use Rattle.cc_whole_read.proofs.SpelledTrees.{good_fronts, spelled_items}
use Rattle.cc_whole_wide.proofs.UnitPlaces.{fault_inside}

-- a version of a first line is one that a text can have
pub version_good : (version : ℕ) (line : List ℕ) → FirstLine version line → spellable_version version ≡ true
version_good version line f =
    let low = f.from_one in
    let high = f.nine_digits in
    let a : nat_lt 0 version ≡ true = grind (arith, nat_tests) in
    let b : nat_lt version (10 ^ 9) ≡ true = grind (arith, nat_tests) in
    and_from (nat_lt 0 version) (nat_lt version (10 ^ 9)) a b

module _ (front : Front) (unit : CUnit) (is : Spells front unit) where
  spellable : spellable_items (items_of unit.items) ≡ true
  spellable = spelled_items is.spelled is.good

  -- the definition's fault, as the code tells it
  pub told : (c : Checks) (f : Fault) → Some f ≡ fault_of c → c ≡ broken f.rule f.place
  told (Ok u) f e = absurd (cc)
  told (Err x) f e = let same : f ≡ record { rule = x.rule; place = x.place } = cc in ap (λ (y : Fault). broken {A = Unit {0}} y.rule y.place) (sym same)

  pub place_inside : (f : Fault) → Some f ≡ fault_of (first_fault (items_of unit.items)) → f.place < landmarks_in front.tokens.items
  place_inside f e =
      subst (λ n. f.place < n) (sym (landmarks-of-texts unit.items front.tokens.items is.spelled))
      (fault_inside (items_of unit.items) f.rule f.place spellable (told (first_fault (items_of unit.items)) f e))

  pub fault_told : (f : Fault) (r : ReadErr) → Some f ≡ fault_of (first_fault (items_of unit.items)) → FaultIs front f r → IsChecked front unit (Err r)
  fault_told f (error.Invalid rule at) e h =
      record {
        index = h.index;
        number = f.place;
        fault = told (first_fault (items_of unit.items)) f e ∙ ap (λ n. broken {A = Unit {0}} n f.place) (sym h.same_rule);
        nth = h.nth;
        place = h.place;
      }
  fault_told f (error.NotC at) e h = absurd h
  fault_told f (error.Limit l) e h = absurd h
  fault_told f error.Memory e h = tt

  kept : (c : Checks) → None ≡ fault_of c → keeps c ≡ true
  kept (Ok u) e = refl
  kept (Err f) e = absurd (cc)

  pub is_valid : None ≡ fault_of (first_fault (items_of unit.items)) → valid_unit unit ≡ true
  is_valid e =
      and_from (spellable_version unit.version) _ is.version
      (and_from (spellable_items (items_of unit.items)) (keeps (first_fault (items_of unit.items))) spellable (kept (first_fault (items_of unit.items)) e))

-- ---- the arms of the code

module _ (front : Front) (fault : Fault) (tokens : List Token) (same : tokens ≡ front.tokens.items) where
  pub fault_found : (index at : ℕ) → landmark_from tokens 0 fault.place ≡ Some index → at ≡ place_in front.places.items front.end index
      → FaultIs front fault (error.Invalid fault.rule at)
  fault_found index at e place =
      record { index = index; nth = subst (λ ts. Nth ts fault.place index) same (found tokens fault.place index e); same_rule = refl; place = place }

  pub landmark_there : landmark_from tokens 0 fault.place ≡ None → fault.place < landmarks_in front.tokens.items → ⊥
  landmark_there e there =
      let few = subst (λ ts. landmarks_in ts ≤ fault.place) same (too_few tokens 0 fault.place e) in
      absurd (omega (arith, few, there))

-- what a unit of all tokens tells of the tokens
pub checked_tells : (version : ℕ) (front : Front) (unit : CUnit) (r : Result CUnit ReadErr) → front.is_whole ≡ true → unit.version ≡ version
    → SpellsItems unit.items front.tokens.items → IsChecked front unit r → ReadsTokens version front r
checked_tells version front unit (Ok found) whole v spelled h =
    record {
      has = record { whole = whole; same_version = ap (λ (u : CUnit). u.version) h.same ∙ v; spelled = subst (λ (u : CUnit). SpellsItems u.items front.tokens.items) (sym h.same) spelled };
      valid = h.valid;
    }
checked_tells version front unit (Err (error.NotC at)) whole v spelled h = absurd h
checked_tells version front unit (Err (error.Invalid rule at)) whole v spelled h =
    record { unit = unit; has = record { whole = whole; same_version = v; spelled = spelled }; breaks = h }
checked_tells version front unit (Err (error.Limit l)) whole v spelled h = absurd h
checked_tells version front unit (Err error.Memory) whole v spelled h = tt

-- the tokens of a text are good
pub front_good : (before : ℕ) (bytes : List ℕ) (front : Front) → IsFront before bytes front → all_good front.tokens.items ≡ true
front_good before bytes front is = good_fronts (placed_fronts (before + length bytes) is.placed)

-- a line and what stands behind it are the text
pub line_shorter : (text : List ℕ) (version : ℕ) (body : List ℕ) → Begins text version body → length body ≤ length text
line_shorter text version body b = let l = ap length b.parts in omega (arith, l, length-append b.line body)

pub line_good : (text : List ℕ) (version : ℕ) (body : List ℕ) → Begins text version body → spellable_version version ≡ true
line_good text version body b = version_good version b.line b.first

-- what reading the tokens tells, which stand in a slice
module _ (front : Front) (ts : List Token) (same : ts ≡ front.tokens.items) where
  pub not_c_told : (index place : ℕ) → NotCAt ts index → place ≡ place_in front.places.items front.end index → TokensStop front place
  not_c_told index place n e = token index (subst (λ l. NotCAt l index) same n) e

  pub partial_told : front.is_whole ≡ false → AreItems ts → TokensStop front front.end
  partial_told e a = stray e (subst AreItems same a) refl

  pub items_there : (items : List CItem) → AreThese ts items → AreItems ts
  items_there items d = record { items = items; spelled = d.spelled }

  pub spells : (version : ℕ) (items : List CItem) → spellable_version version ≡ true → all_good front.tokens.items ≡ true → AreThese ts items
      → Spells front (record { version = version; items = items })
  spells version items v good d = record { spelled = subst (SpellsItems items) same d.spelled; good = good; version = v }

  pub unit_told : (version : ℕ) (items : List CItem) (r : Result CUnit ReadErr) → front.is_whole ≡ true → AreThese ts items
      → IsChecked front (record { version = version; items = items }) r → ReadsTokens version front r
  unit_told version items r whole d h = checked_tells version front (record { version = version; items = items }) r whole refl (subst (SpellsItems items) same d.spelled) h

-- what is valid is made
pub made : {A : Type 0} (b : Bool) (u : A) → where_so b u ≡ None → b ≡ true → ⊥
made true u e h = absurd (cc)
made false u e h = absurd (true≢false (sym h))
